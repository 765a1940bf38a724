use Rattle.std.proofs.Common.{◌∙◌, sym, ap, map, List, ℕ}
use Rattle.std.specs.List.{flat_map}
use Rattle.table_history.specs.JobLaw.{entries_of}
use Rattle.table_history.specs.declared.view.GroupParts.{GroupParts}
use Rattle.table_query.specs.GroupReading.{is_among}
use Rattle.table_query.proofs.Ends.{only_one, wanting_at_once}
use Rattle.table_query.proofs.groups.rows_of_view.Goals as goal

pub rows_of_only-requires : goal.rows_of_only-requires
rows_of_only-requires g c = record {
  only = sym c.as_slice-groups.ensures ∙ only_one c.as_slice-groups.result.now c.index-groups-0.result c.if-groups-eq1.true c.index-groups-0.is;
  pinned = c.requires.pinned;
  sized = c.deref.ensures.value ∙ c.in-Ok-Ok.ensures ∙ ap (λ (gs : List GroupParts). map (λ part. part.length) (flat_map (λ h. h.parts) gs)) c.as_slice-groups.ensures;
  completed = λ t. c.in-Ok-Ok.ensures' t ∙ ap (λ (xs : List ℕ). is_among xs t) c.as_slice.ensures;
}

pub rows_of_several-requires : goal.rows_of_several-requires
rows_of_several-requires g c = record {
  pinned = c.requires.pinned;
  sized = c.deref-2.ensures.value ∙ c.in-Ok-Ok.ensures ∙ ap (λ (gs : List GroupParts). map (λ part. part.length) (flat_map (λ h. h.parts) gs)) c.as_slice-groups.ensures;
  completed = λ t. c.in-Ok-Ok.ensures' t ∙ ap (λ (xs : List ℕ). is_among xs t) c.as_slice.ensures;
}

pub returns-in_default-clause-read : goal.returns-in_default-clause-read
returns-in_default-clause-read g c =
    wanting_at_once (record { rows = g.K.RowCodec.block_rows c.args.codec.now; table = g.K.TableCodec.table_name c.args.codec.now }) c.args.view.now (entries_of (g.T.Steps.mine c.args.steps.now)) c.requires.pinned
