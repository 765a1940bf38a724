use Rattle.std.proofs.Common.{sym, ap, ◌∙◌}
use Rattle.table_forms.proofs.NameFormLemmas.{IsUtf8-partition}
use Rattle.file_names.specs.Candidate.{timeline_file, data_file}
use Rattle.file_names.proofs.NameTexts.{found_by_candidate, none_without_partition, found_in_timeline, found_nowhere, found_in_partition}
use Rattle.file_names.proofs.candidate.candidate.Goals as goal

pub returns-then-is_in_timeline : goal.returns-then-is_in_timeline
returns-then-is_in_timeline c = λ table file h is.
    c.timeline_file.ensures ∙ ap timeline_file c.bytes_from.ensures
    ∙ sym (found_in_timeline c.args.name.now (sym c.is_in_timeline.ensures ∙ c.if-is_in_timeline.true)) ∙ found_by_candidate c.args.name.now table file h is

pub returns-in_default : goal.returns-in_default
returns-in_default c = λ table file h is.
    sym (found_nowhere c.args.name.now (sym c.is_in_timeline.ensures ∙ c.if-is_in_timeline.false) (sym c.in_default.ensures)) ∙ found_by_candidate c.args.name.now table file h is

pub returns-then-not-is_partition_path : goal.returns-then-not-is_partition_path
returns-then-not-is_partition_path c =
    none_without_partition c.args.name.now c.in-Some.partition.now c.in-Some.file.now (sym c.is_in_timeline.ensures ∙ c.if-is_in_timeline.false)
    (sym c.in-Some.ensures) (λ path. cc (c.is_partition_path.ensures.1 path))

pub from_slice-requires : goal.from_slice-requires
from_slice-requires c = IsUtf8-partition c.in-Some.partition.now (c.is_partition_path.ensures.0 c.if-not-is_partition_path.false)

pub returns : goal.returns
returns c = λ table file h is.
    c.data_file.ensures ∙ ap (λ p. data_file p c.in-Some.file.now) c.in_ok-partition.ensures
    ∙ sym (found_in_partition c.args.name.now c.in-Some.partition.now c.in-Some.file.now (sym c.is_in_timeline.ensures ∙ c.if-is_in_timeline.false) (sym c.in-Some.ensures))
    ∙ found_by_candidate c.args.name.now table file h is
