use Rattle.std.proofs.Common.{◌≡◌, map}
use Rattle.payload_merge.specs.declared.row.Write.TheVariants.{Put}
use Rattle.codec_tool.proofs.blocks.rows_put.Given as goal

abbrev pub invariant-loop-write : goal.invariant-loop-write
invariant-loop-write l = l.yielded ≡ map Put l.rows.items
