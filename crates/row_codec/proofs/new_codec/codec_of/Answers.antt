use Rattle.std.proofs.lemmas.Str.{is_utf8-from_IsUtf8}
use Rattle.row_codec.proofs.new_codec.codec_of.Goals as goal

pub invariant_of-result : goal.invariant_of-result
invariant_of-result c = record {
  columns_are = c.in_ok-columns.ensures;
  text_is = c.in_ok-text.ensures.text;
  utf8 = is_utf8-from_IsUtf8 c.in_ok-text.text c.in_ok-text.ensures.utf8;
  short = c.in_ok-text.ensures.short;
}
