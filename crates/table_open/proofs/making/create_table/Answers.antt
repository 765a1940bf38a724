use Rattle.std.proofs.Common.{◌≡◌, ◌↔◌, ℕ, List, length, None, IfSome, sym, ap, subst, ◌∙◌}
use Rattle.hudi_base.specs.Faults.{CountsFault}
use Rattle.hudi_base.specs.declared.operation.Operation.{Operation}
use Rattle.table_props.specs.PropsTexts.{told_of}
use Rattle.table_open.specs.NewTables.{Makes}
use Rattle.table_open.proofs.Made.{made_stood, new_table, told_buckets}
use Rattle.table_open.proofs.making.create_table.Goals as goal

pub fresh-requires : goal.fresh-requires
fresh-requires g c = told_buckets (told_of c.args.props) c.requires

pub new-requires : goal.new-requires
new-requires g c = new_table (told_of c.args.props) c.fresh.result c.fresh.ensures

pub returns-in-Ok-clause-props : goal.returns-in-Ok-clause-props
returns-in-Ok-clause-props g c = c.new.ensures.props ∙ c.fresh.ensures.props

pub returns-in-Ok-clause-makes : goal.returns-in-Ok-clause-makes
returns-in-Ok-clause-makes g c =
    subst (λ s. Makes (g.S.Store.is_honest c.args.store) (g.S.Store.state c.args.store).told (g.S.Store.state s).told (told_of c.args.props) None) (sym c.new.ensures.store) c.in-Ok.ensures.makes

pub returns-in-Ok-clause-honest : goal.returns-in-Ok-clause-honest
returns-in-Ok-clause-honest g c = subst (λ s. g.S.Store.is_honest c.args.store ↔ g.S.Store.is_honest s) (sym c.new.ensures.store) c.in-Ok.ensures.honest

pub returns-in-Ok-clause-faults : goal.returns-in-Ok-clause-faults
returns-in-Ok-clause-faults g c =
    let counts = c.in-Ok.ensures.faults in
    subst (λ s. CountsFault (g.S.Store.state c.args.store).faults (g.S.Store.state s).faults ⊥) (sym c.new.ensures.store)
    (record { never_falls = counts.never_falls; one_at_most = counts.one_at_most; cause = λ no. absurd no })

pub returns-in-Ok-clause-images : goal.returns-in-Ok-clause-images
returns-in-Ok-clause-images g c = c.in-Ok.ensures.images c.requires

pub returns-in-Ok-clause-counted : goal.returns-in-Ok-clause-counted
returns-in-Ok-clause-counted g c = c.new.ensures.faults ∙ ap (λ s. (g.S.Store.state s).faults) (sym c.new.ensures.store)

pub returns-in-Ok-clause-done : goal.returns-in-Ok-clause-done
returns-in-Ok-clause-done g c =
    subst (λ s. IfSome (g.S.Store.state s).told.operations (λ operations. c.new.result.origin.done ≡ length operations)) (sym c.new.ensures.store) c.new.ensures.done

pub returns-in-Ok-clause-stood : goal.returns-in-Ok-clause-stood
returns-in-Ok-clause-stood g c = λ start before store.
    let props = told_of c.args.props in
    made_stood props c.new.result.origin (g.S.Store.is_honest c.args.store) (g.S.Store.is_honest c.new.result.store) (g.S.Store.state c.args.store).told (g.S.Store.state c.new.result.store).told start before
    c.requires (c.in-Ok.ensures.reads_back c.requires) (c.new.ensures.props ∙ c.fresh.ensures.props)
    (subst (λ s. IfSome (g.S.Store.state s).told.operations (λ operations. c.new.result.origin.done ≡ length operations)) (sym c.new.ensures.store) c.new.ensures.done)
    (λ honest. subst (λ s. g.S.Store.is_honest s) (sym c.new.ensures.store) (c.in-Ok.ensures.honest.0 honest)) (g.met.S.Store.replayed c.args.store)
    (ap (λ s. (g.S.Store.state s).told) c.new.ensures.store ∙ c.in-Ok.ensures.makes.1) store
