use Rattle.std.proofs.Common.{◌≡◌, ℕ, List, [], ◌∷◌, ◌++◌, take, get_or, ap, sym, subst, ◌∙◌}
use Rattle.hudi_base.specs.declared.file_group.Target.{Target}
use Rattle.table_core.specs.ControlTables.{writes_at, writes_in}
use Rattle.table_core.proofs.WrittenLemmas.{written-next}
use Rattle.table_history.specs.Metadata.{written}
use Rattle.table_core.proofs.control.Control.written_for.Goals as goal

pub loop-i-preserved : goal.loop-i-preserved
loop-i-preserved c =
    let s = c.in_ok-copy.field-0 in
    let writes = writes_in c.args.self.now c.args.t in
    let placed : c.writes_at-placed.result ≡ writes c.loop-i.i = c.writes_at-placed.ensures ∙ ap (writes_at c.args.self.now.writes) c.new.ensures in
    c.in_ok-push.ensures.ok
    ∙ ap (λ (groups : List (Target × ℕ)). groups ++ (s, c.writes_at-placed.result) ∷ []) c.loop-i.invariant
    ∙ ap (λ (n : ℕ). written writes 0 (take c.loop-i.i c.args.targets.now) ++ (s, n) ∷ []) placed
    ∙ sym (written-next writes c.loop-i.i c.args.targets.now s c.loop-i-test.true (subst (λ (x : Target). x ≡ get_or c.args.targets.now c.loop-i.i x) (sym c.in_ok-copy.ensures) c.index-targets-i.is))
