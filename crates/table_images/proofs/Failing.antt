-- An append that may be done may fail with any prefix of its bytes.
use Rattle.std.proofs.Common.{◌≡◌, ◌≤◌, ℕ, Bool, true, false, List, take, min, nat_le, Option, Some, None, refl, ap, ◌∙◌, arith}
use Rattle.std.proofs.lemmas.Bool.Decides.{nat_tests}
use Rattle.std.proofs.lemmas.List.{length-take, take-take, take_all}
use Rattle.hudi_base.specs.declared.file_group.Target.{Target}
use Rattle.hudi_base.specs.declared.operation.Operation.TheVariants as changes
use Rattle.table_history.specs.Answers.{Answers}
use Rattle.table_history.specs.Histories.{History}
use Rattle.table_history.specs.JobLaw.{Work}
use Rattle.table_history.specs.Logs.{target_at}
use Rattle.table_history.specs.Operations.{operation, appends, part_read, reads}
use Rattle.table_history.specs.Tables.{Table}
use Rattle.table_history.specs.declared.operation.Op.{Op}
use Rattle.table_history.specs.declared.operation.Op.TheVariants as op
use Rattle.table_history.specs.declared.reply.Reply.{Reply}
use Rattle.table_history.specs.declared.reply.Reply.TheVariants as reply
use Rattle.table_history.specs.declared.step.Step.{Step}
use Rattle.table_history.specs.declared.step.Step.TheVariants.{Begin, Enter, Append, Finish, Pin, Unpin, Read, Abandon}
use Rattle.table_history.specs.declared.view.Part.{Part}
use Rattle.table_images.specs.Runs.{Did, IsPartial, NamesFit, whole}
use Rattle.table_images.proofs.Images.{FailsAlso}

take_twice : (m n : ℕ) (xs : List ℕ) → take m (take n xs) ≡ take (min m n) xs
take_twice m n xs = by_test (nat_le m n) refl
  where
    by_test : (b : Bool) → nat_le m n ≡ b → take m (take n xs) ≡ take (min m n) xs
    by_test true h =
        let le : m ≤ n = grind (arith, nat_tests) in
        let is : min m n ≡ m = omega arith in
        rw is (take-take m n xs le)
    by_test false h =
        let le : n ≤ m = grind (arith, nat_tests) in
        let is : min m n ≡ n = omega arith in
        rw is (take_all m (take n xs) (omega (arith, length-take n xs)))

-- which operations append
abbrev Appends : Op → Type 0
Appends (op.Append name bytes) = Unit {0}
Appends _ = ⊥

not_whole : (o : Op) (name bytes : List ℕ) → Some (changes.Append name bytes) ≡ whole o → Appends o
not_whole op.Nothing name bytes is = cc
not_whole (op.Create n bs) name bytes is = cc
not_whole (op.Append n bs) name bytes is = tt
not_whole (op.Remove n) name bytes is = cc
not_whole (op.Read n at len) name bytes is = cc

not_partial : (o : Op) (name bytes : List ℕ) → IsPartial o (Some (changes.Append name bytes)) → Appends o
not_partial (op.Append n bs) name bytes is = tt
not_partial _ name bytes is = absurd is

did_append : (o : Op) (r : Reply) (name bytes : List ℕ) → Did o r (Some (changes.Append name bytes)) → Appends o
did_append o reply.Fault name bytes did = not_partial o name bytes did
did_append o (reply.Damaged n cause) name bytes did = cc
did_append o _ name bytes did = not_whole o name bytes did

-- what is left of an append's bytes is a prefix
partial : (n bs name bytes : List ℕ) (m : ℕ) (r : Reply) → Did (op.Append n bs) r (Some (changes.Append name bytes)) → IsPartial (op.Append n bs) (Some (changes.Append name (take m bytes)))
partial n bs name bytes m reply.Fault did =
    let at : name ≡ n = cc (did.1) in
    let is : bytes ≡ take did.0 bs = cc (did.1) in
    (min m did.0, (λ i. changes.Append (at i) (take m (is i))) ∙ ap (changes.Append n) (take_twice m did.0 bs))
partial n bs name bytes m (reply.Damaged x cause) did = cc
partial n bs name bytes m _ did =
    let some : Some (changes.Append name bytes) ≡ Some (changes.Append n bs) = did in
    let at : name ≡ n = cc in
    let is : bytes ≡ bs = cc in
    (m, λ i. changes.Append (at i) (take m (is i)))

record Fails (A : Table) (H : History) (s : Step) (name bytes : List ℕ) : Type 0 where
  answers : Answers A H s reply.Fault
  names : NamesFit A H s reply.Fault
  did : Did (operation A H s reply.Fault) reply.Fault (Some (changes.Append name bytes))

of_target : (A : Table) (H : History) (bs name bytes : List ℕ) (m : ℕ) (r : Reply) (o : Option Target) → Did (appends A H bs o) r (Some (changes.Append name bytes))
    → IsPartial (appends A H bs o) (Some (changes.Append name (take m bytes)))
of_target A H bs name bytes m r None did = absurd (did_append op.Nothing r name bytes did)
of_target A H bs name bytes m r (Some s) did = partial _ bs name bytes m r did

no_read : (at len : ℕ) (part : Option Part) → Appends (reads at len part) → ⊥
no_read at len None wrong = wrong
no_read at len (Some part) wrong = wrong

by_step : (A : Table) (H : History) (s : Step) (r : Reply) (name bytes : List ℕ) (m : ℕ) → NamesFit A H s r → Did (operation A H s r) r (Some (changes.Append name bytes)) → Fails A H s name (take m bytes)
by_step A H (Append t target writes bs) r name bytes m names did = record { answers = tt; names = names; did = of_target A H bs name bytes m r (target_at A H t target) did }
by_step A H Begin (reply.Began t) name bytes m names did = absurd (did_append (operation A H Begin (reply.Began t)) (reply.Began t) name bytes did)
by_step A H Begin r name bytes m names did = absurd (did_append op.Nothing r name bytes did)
by_step A H (Enter t slots) (reply.Entered targets) name bytes m names did =
    absurd (did_append (operation A H (Enter t slots) (reply.Entered targets)) (reply.Entered targets) name bytes did)
by_step A H (Enter t slots) r name bytes m names did = absurd (did_append op.Nothing r name bytes did)
by_step A H (Finish t checkpoint) r name bytes m names did = absurd (did_append (operation A H (Finish t checkpoint) r) r name bytes did)
by_step A H (Pin at bases_only) r name bytes m names did = absurd (did_append op.Nothing r name bytes did)
by_step A H (Unpin pin) r name bytes m names did = absurd (did_append op.Nothing r name bytes did)
by_step A H (Read from file at len) r name bytes m names did = absurd (no_read at len (part_read H from file) (did_append (operation A H (Read from file at len) r) r name bytes did))
by_step A H (Abandon t) r name bytes m names did = absurd (did_append op.Nothing r name bytes did)

pub fails : (work : Work) (A : Table) → FailsAlso work A
fails work A H entry name bytes n may =
    let failed = by_step A H entry.step entry.reply name bytes n may.comes.names may.did in
    record {
      comes = record { next = record { may = may.comes.next.may; answers = failed.answers }; allowed = may.comes.allowed; names = failed.names; numbers = may.comes.numbers };
      did = failed.did;
    }
