use Rattle.std.proofs.Common.{◌≡◌, ℕ, List, Some, sym, ap, ◌∙◌}
use Rattle.serde_json.specs.Read.{read}
use Rattle.table_forms.specs.JsonObjects.{json_of}
use Rattle.table_forms.proofs.JsonObjectLemmas.{json_of_text}
use Rattle.commit_meta.specs.Metadata.{content_of, read_as}
use Rattle.commit_meta.specs.Texts.{meta_json, meta_bytes}
use Rattle.commit_meta.proofs.ReadBack.{read_again, empty_again, filled_bytes, filled_content, meta_depth, meta_no_float}
use Rattle.commit_meta.proofs.writing.meta_text.Goals as goal

pub returns-in-Empty-clause-text : goal.returns-in-Empty-clause-text
unfolding meta_bytes
returns-in-Empty-clause-text c = c.from_vec.ensures ∙ c.new.ensures.items ∙ sym (ap (meta_bytes c.args.table.now) c.in-Empty.is)

pub returns-in-Empty-clause-reads_back : goal.returns-in-Empty-clause-reads_back
returns-in-Empty-clause-reads_back c = λ writable action state e.
    empty_again c.args.table.now c.args.meta.now c.from_vec.result (content_of action state) c.in-Empty.is (c.from_vec.ensures ∙ c.new.ensures.items) e

pub returns-clause-text : goal.returns-clause-text
returns-clause-text c =
    let same = c.in_ok-value.ensures in
    c.from_vec-2.ensures ∙ rw same at (c.in_ok-bytes.ensures.text (rw same (meta_no_float c.args.table.now c.args.meta.now)))
    ∙ filled_bytes c.args.table.now c.args.meta.now c.in_default.not-Empty

pub returns-clause-reads_back : goal.returns-clause-reads_back
returns-clause-reads_back c = λ writable action state e.
    let same = c.in_ok-value.ensures in
    let bytes : List ℕ = c.in_ok-bytes.bytes.items in
    let told : read bytes ≡ Some (meta_json c.args.table.now c.args.meta.now) = rw same at (c.in_ok-bytes.ensures.reads_back (rw same (meta_depth c.args.table.now c.args.meta.now))) in
    let json : json_of bytes ≡ Some (meta_json c.args.table.now c.args.meta.now) = json_of_text bytes c.in_ok-bytes.ensures.utf8 ∙ told in
    rw c.from_vec-2.ensures (ap (λ k. read_as c.args.table.now k bytes) e
    ∙ read_again c.args.table.now c.args.meta.now bytes (filled_content c.args.table.now c.args.meta.now c.in_default.not-Empty) writable json)
