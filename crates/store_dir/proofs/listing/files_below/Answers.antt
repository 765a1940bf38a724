use Rattle.std.proofs.Common.{rules, is_lt}
use Rattle.std.specs.Cmp.Lexicographic.{slice_cmp, nat_list_cmp_total}
use Rattle.std.specs.Ordering.{nat_cmp}
use Rattle.std.proofs.lemmas.List.Sorted.{ranks_by}
use Rattle.std.proofs.lemmas.Fn.{always_returns_same}
use Rattle.hudi_base.specs.declared.store.FileSize.{FileSize}
use Rattle.store_dir.proofs.listing.files_below.Goals as goal

pub returns : goal.returns
returns g c =
    c.in_ok-sort_by.ensures.sorted
    (λ (a b : FileSize). is_lt (slice_cmp nat_cmp a.name b.name))
    (ranks_by nat_list_cmp_total (λ (file : FileSize). file.name))
    (always_returns_same _ _ _ (λ a r f k. search rules))
