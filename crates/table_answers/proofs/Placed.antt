-- The blocks that a history placed: in their order, and log by log in their slices.
use Rattle.std.proofs.Common.{◌≡◌, ℕ, Bool, true, false, List, [], ◌∷◌, ◌++◌, refl, sym, ap, ◌∙◌, append_assoc, append-nil}
use Rattle.std.specs.Prelude.{filter, reverse, Option, Some, None}
use Rattle.std.specs.List.{flat_map}
use Rattle.std.proofs.lemmas.Grind.{flat_map-append}
use Rattle.std.proofs.lemmas.List.{reverse-append}
use Rattle.std.proofs.lemmas.List.Elements.{filter-append}
use Rattle.hudi_base.specs.declared.file_group.Target.{Target}
use Rattle.table_history.specs.Histories.{History}
use Rattle.table_history.specs.Logs.{is_unused, target_at}
use Rattle.table_history.specs.Tables.{Table}
use Rattle.table_history.specs.Targets.{is_target}
use Rattle.table_history.specs.declared.reply.Reply.{Reply}
use Rattle.table_history.specs.declared.reply.Reply.TheVariants as reply
use Rattle.table_history.specs.declared.step.Step.{Step}
use Rattle.table_history.specs.declared.step.Step.TheVariants.{Append}

-- a block by its instant, the slice that it went to, and its bytes
pub record PlacedBlock : Type 0 where
  pub t : ℕ
  pub to : Target
  pub bytes : List ℕ

abbrev pub placed_at : ℕ → List ℕ → Option Target → List PlacedBlock
placed_at t bytes None = []
placed_at t bytes (Some s) = record { t = t; to = s; bytes = bytes } ∷ []

abbrev pub placed_by : Table → History → Step → Reply → List PlacedBlock
placed_by A H (Append t target writes bytes) (reply.Placed version at) = placed_at t bytes (target_at A H t target)
placed_by A H _ _ = []

-- in their order
abbrev pub placed : Table → History → List PlacedBlock
placed A [] = []
placed A (e ∷ H) = placed A H ++ placed_by A H e.step e.reply

-- those that went to a slice
abbrev pub gone_to : Target → List PlacedBlock → List PlacedBlock
gone_to s bs = filter (λ b. is_target b.to s) bs

abbrev pub chain_then : List PlacedBlock → Bool → List (List PlacedBlock) → List (List PlacedBlock)
chain_then [] unused logs = logs
chain_then (b ∷ bs) true logs = (b ∷ bs) ∷ logs
chain_then (b ∷ bs) false [] = (b ∷ bs) ∷ []
chain_then (b ∷ bs) false (log ∷ logs) = (log ++ (b ∷ bs)) ∷ logs

-- the blocks of a slice log by log, the last log first
abbrev pub chain : Table → History → Target → List (List PlacedBlock)
chain A [] s = []
chain A (e ∷ H) s = chain_then (gone_to s (placed_by A H e.step e.reply)) (is_unused A H s) (chain A H s)

-- lists, one behind another
abbrev pub joined : {X : Type 0} → List (List X) → List X
joined xss = flat_map (λ xs. xs) xss

abbrev pub bytes_of_placed : List PlacedBlock → List ℕ
bytes_of_placed bs = flat_map (λ b. b.bytes) bs

-- the last list comes last
joined_last : (logs : List (List PlacedBlock)) (log : List PlacedBlock) → joined (reverse (log ∷ logs)) ≡ joined (reverse logs) ++ log
joined_last logs log =
    ap joined (reverse-append (log ∷ []) logs) ∙ flat_map-append (λ bs. bs) (reverse logs) (log ∷ []) ∙ ap (λ bs. joined (reverse logs) ++ bs) (append-nil log)

chain_joined : (bs : List PlacedBlock) (unused : Bool) (logs : List (List PlacedBlock)) → joined (reverse (chain_then bs unused logs)) ≡ joined (reverse logs) ++ bs
chain_joined [] unused logs = sym (append-nil (joined (reverse logs)))
chain_joined (b ∷ bs) true logs = joined_last logs (b ∷ bs)
chain_joined (b ∷ bs) false [] = joined_last [] (b ∷ bs)
chain_joined (b ∷ bs) false (log ∷ logs) =
    joined_last logs (log ++ (b ∷ bs)) ∙ sym (append_assoc (joined (reverse logs)) log (b ∷ bs)) ∙ ap (λ before. before ++ (b ∷ bs)) (sym (joined_last logs log))

-- the logs of a slice, one behind another in their order, have its blocks in theirs
pub chain_is_placed : (A : Table) (H : History) (s : Target) → joined (reverse (chain A H s)) ≡ gone_to s (placed A H)
chain_is_placed A [] s = refl
chain_is_placed A (e ∷ H) s =
    chain_joined (gone_to s (placed_by A H e.step e.reply)) (is_unused A H s) (chain A H s) ∙ ap (λ before. before ++ gone_to s (placed_by A H e.step e.reply)) (chain_is_placed A H s)
    ∙ sym (filter-append (λ (b : PlacedBlock). is_target b.to s) (placed A H) (placed_by A H e.step e.reply))
