-- Slices that are taken out of the tables and put back.
use Rattle.std.proofs.Common.{◌≡◌, Bool, true, false, cond, Option, Some, unwrap_or, refl, sym, ap, ◌∙◌}
use Rattle.hudi_base.specs.declared.file_group.Target.{Target}
use Rattle.table_core.specs.KeyLaws.{target_is}
use Rattle.table_core.specs.SliceStates.{SliceState, SameLogs, no_logs}
use Rattle.table_history.specs.Targets.{is_target}

pub same_as : (a b : SliceState) → b ≡ a → SameLogs a b
same_as a b e = record { logs = ap (λ (x : SliceState). x.logs) e; version = ap (λ (x : SliceState). x.version) e; unused = ap (λ (x : SliceState). x.unused) e }

pub same_then : (a b c : SliceState) → SameLogs a b → SameLogs b c → SameLogs a c
same_then a b c first second = record { logs = second.logs ∙ first.logs; version = second.version ∙ first.version; unused = second.unused ∙ first.unused }

along : (a b c d : SliceState) → c ≡ a → d ≡ b → SameLogs a b → SameLogs c d
along a b c d first second same = same_then c a d (same_as c a (sym first)) (same_then a b d same (same_as b d second))

-- a slice was taken out, changed and put back
pub changed_one : (before_any during after_any : Target → Option SliceState) (key s : Target) (before after none : SliceState)
    → ((q : Target) → during q ≡ cond (is_target key q) (Some none) (before_any q)) → Some before ≡ before_any key → SameLogs before after
    → ((q : Target) → after_any q ≡ cond (is_target key q) (Some after) (during q))
    → SameLogs (unwrap_or (before_any s) no_logs) (unwrap_or (after_any s) no_logs)
changed_one before_any during after_any key s before after none out given same back = by (is_target key s) refl
  where
    shown : {o p : Option SliceState} → o ≡ p → unwrap_or o no_logs ≡ unwrap_or p no_logs
    shown e = ap (λ o. unwrap_or o no_logs) e

    by : (b : Bool) → is_target key s ≡ b → SameLogs (unwrap_or (before_any s) no_logs) (unwrap_or (after_any s) no_logs)
    by true here =
        along before after _ _ (shown (ap before_any (sym (target_is key s here)) ∙ sym given)) (shown (back s ∙ ap (λ b. cond b (Some after) (during s)) here)) same
    by false elsewhere =
        same_as _ _ (shown (back s ∙ ap (λ b. cond b (Some after) (during s)) elsewhere ∙ out s ∙ ap (λ b. cond b (Some none) (before_any s)) elsewhere))
