use Rattle.file_names.proofs.FileIdLemmas.{IsUtf8-file_id}
use Rattle.file_names.proofs.file_ids.file_id.Goals as goal

pub from_slice-requires : goal.from_slice-requires
from_slice-requires c = rw (c.deref.ensures.value, c.in_ok-id.ensures.value) (IsUtf8-file_id _ _ c.in_ok-id.ensures.utf8)
