use Rattle.std.proofs.Common.{◌≡◌, ℕ, List, ◌++◌, append_assoc, codes, decimal, Global, IfOk, Result, Ok, Err, String, string_bytes, ◌∙◌}
use Rattle.table_history.specs.declared.entry.Mark.{Mark}
use Rattle.script_texts.specs.Marks.{line_end, mark_text, name_in, step_names, reply_names}
use Rattle.script_texts.proofs.marks.mark_line.Goals as goal

-- the parts of the line, as they are put together
made : Mark → List ℕ → List ℕ → List ℕ
made m step reply =
    (codes "mark " ++ (decimal m.lane ++ (codes " " ++ (decimal m.line ++ (codes " " ++ (step ++ (codes " " ++ (reply ++ (codes " " ++ (decimal m.a ++ (codes " " ++ decimal m.b))))))))))) ++ line_end

joined : (a b c d e f g h i j k l end : List ℕ)
    → (a ++ (b ++ (c ++ (d ++ (e ++ (f ++ (g ++ (h ++ (i ++ (j ++ (k ++ l))))))))))) ++ end ≡ a ++ b ++ c ++ d ++ e ++ f ++ g ++ h ++ i ++ j ++ k ++ l ++ end
joined a b c d e f g h i j k l end = simp append_assoc

made_names : (m : Mark) → made m (name_in step_names m.step) (name_in reply_names m.reply) ≡ mark_text m
unfolding made
made_names m =
    let space = codes " " in
    joined (codes "mark ") (decimal m.lane) space (decimal m.line) space (name_in step_names m.step) space (name_in reply_names m.reply)
    space (decimal m.a) space (decimal m.b) line_end

made_is : (m : Mark) (step reply : List ℕ) → step ≡ name_in step_names m.step → reply ≡ name_in reply_names m.reply → made m step reply ≡ mark_text m
made_is m step reply step_is reply_is = rw (step_is, reply_is) (made_names m)

written_as : {E : Type 0} (r : Result (String Global) E) (text meant : List ℕ) → text ≡ meant → IfOk r (λ s. string_bytes s ≡ text) → IfOk r (λ s. string_bytes s ≡ meant)
written_as (Ok s) text meant same is = is ∙ same
written_as (Err e) text meant same is = tt

pub returns : goal.returns
unfolding made
returns c =
    let m = c.args.mark.now in
    let step = c.step_name-step.result.now in
    let reply = c.reply_name-reply.result.now in
    written_as c.format.result (made m step reply) (mark_text m) (made_is m step reply c.step_name-step.ensures c.reply_name-reply.ensures) c.format.ensures.ok
