use Rattle.std.proofs.Common.{sym, ◌∙◌}
use Rattle.log_block.proofs.Blocks.{block_at-no_magic, block_at-torn, block_at-inside}
use Rattle.log_block.proofs.reading.block_at.Goals as goal

pub returns-then-not-begins : goal.returns-then-not-begins
returns-then-not-begins c = block_at-no_magic c.args.bytes.now (sym c.begins.ensures ∙ c.if-not-begins.true)

pub returns-in_default : goal.returns-in_default
returns-in_default c = block_at-torn c.args.bytes.now (sym c.begins.ensures ∙ c.if-not-begins.false, c.in_default.ensures)

pub returns-in-Ok-copy_of : goal.returns-in-Ok-copy_of
returns-in-Ok-copy_of c =
    rw c.in-Ok-copy_of.ensures (block_at-inside _ _ _ (sym c.begins.ensures ∙ c.if-not-begins.false) c.in-Some.ensures c.in-Ok.ensures)

pub returns-in-Err-copy_of : goal.returns-in-Err-copy_of
returns-in-Err-copy_of c =
    rw (block_at-inside _ _ _ (sym c.begins.ensures ∙ c.if-not-begins.false) c.in-Some.ensures c.in-Ok.ensures) tt

pub returns-in-Err : goal.returns-in-Err
returns-in-Err c =
    rw c.offset.ensures (block_at-inside _ _ _ (sym c.begins.ensures ∙ c.if-not-begins.false) c.in-Some.ensures c.in-Err.ensures)
