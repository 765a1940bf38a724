-- What jobs still owe a table: for each instant that one owns and each pin that is live, the step by which the job
-- leaves it.
use Rattle.std.specs.Prelude.{ℕ, ◌+◌, ◌-◌, ◌==◌, Bool, true, false, if◌then◌else◌, List, [], ◌∷◌, length}
use Rattle.table_history.specs.Histories.{History}
use Rattle.table_history.specs.declared.reply.Reply.{Reply}
use Rattle.table_history.specs.declared.reply.Reply.TheVariants.{Began, Completed, Pinned, Done}
use Rattle.table_history.specs.declared.step.Step.{Step}
use Rattle.table_history.specs.declared.step.Step.TheVariants.{Begin, Finish, Pin, Unpin, Abandon}

abbrev pub is_among : ℕ → List ℕ → Bool
is_among t [] = false
is_among t (u ∷ us) = if u == t then true else is_among t us

abbrev pub without : ℕ → List ℕ → List ℕ
without t [] = []
without t (u ∷ us) = if t == u then without t us else u ∷ without t us

-- the instants that jobs own, after one more entry
abbrev pub owned_after : Step → Reply → List ℕ → List ℕ
owned_after Begin (Began t) before = t ∷ before
owned_after (Finish t checkpoint) (Completed u) before = without t before
owned_after (Abandon t) Done before = without t before
owned_after _ _ before = before

abbrev pub owned_instants : History → List ℕ
owned_instants [] = []
owned_instants (e ∷ H) = owned_after e.step e.reply (owned_instants H)

-- the pins that are live, after one more entry
abbrev pub pins_after : Step → Reply → List ℕ → List ℕ
pins_after (Pin at bases_only) (Pinned view) before = view.pin ∷ before
pins_after (Unpin pin) Done before = without pin before
pins_after _ _ before = before

abbrev pub live_pins : History → List ℕ
live_pins [] = []
live_pins (e ∷ H) = pins_after e.step e.reply (live_pins H)

-- how many steps are owed
abbrev pub owed_steps : History → ℕ
owed_steps H = length (owned_instants H) + length (live_pins H)

-- how many are owed at most after one more entry, where so many were owed before it
abbrev pub owed_after : Step → Reply → ℕ → ℕ
owed_after Begin (Began t) before = before + 1
owed_after (Pin at bases_only) (Pinned view) before = before + 1
owed_after (Finish t checkpoint) (Completed u) before = before - 1
owed_after (Unpin pin) Done before = before - 1
owed_after (Abandon t) Done before = before - 1
owed_after _ _ before = before
