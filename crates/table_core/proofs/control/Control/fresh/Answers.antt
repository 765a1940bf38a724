use Rattle.std.proofs.Common.{rules, [], unwrap_or, refl, ap}
use Rattle.table_core.proofs.FirstTables.{no_slice, no_part}
use Rattle.table_history.specs.declared.step.Reader.TheVariants as reader
use Rattle.table_history.proofs.Bounds.{fresh_opened}
use Rattle.table_props.specs.PropsTexts.{told_of}
use Rattle.table_core.proofs.control.Control.fresh.Goals as goal

pub returns : goal.returns
returns c = record {
  opened = fresh_opened (told_of c.args.props);
  fit = c.requires;
  props = refl;
  buckets = c.new.ensures;
  session = refl;
  last = refl;
  completed = search rules;
  targets = λ t. ap (λ o. unwrap_or o []) (c.new-3.ensures t);
  writes = λ t target. ap (λ o. unwrap_or o 0) (c.new-4.ensures (record { t = t; number = target }));
  slices = λ s. no_slice (told_of c.args.props) s _ (c.new-5.ensures s);
  attempts = refl;
  pins = elim [ reader.Pin pin ↦ λ file. no_part file _ (c.new-6.ensures pin) ];
  pins_made = refl;
}
