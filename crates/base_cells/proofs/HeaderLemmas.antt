-- A page's header takes a byte at least.
use Rattle.std.proofs.Common.{◌≡◌, ℕ, pos, ◌<◌, List, ◌∷◌, length, Ok, refl, ap, arith}
use Rattle.byte_fields.specs.Reading.{◌>>=◌, only_some}
use Rattle.byte_fields.proofs.ReadingLemmas.{bind-Ok, read_once}
use Rattle.thrift_compact.specs.Values.{struct_at}
use Rattle.thrift_compact.proofs.FieldsLemmas.{fields_at-shorter}
use Rattle.parquet_meta.specs.declared.page_header.PageHeader.{PageHeader}
use Rattle.parquet_meta.specs.PageHeaders.{page_header_at, page_header_field_at, no_page_header_fields, page_header_of}
use Rattle.parquet_meta.specs.StaysLaws.{page_header_field_stays}

pub header_shorter : (bytes rest : List ℕ) (h : PageHeader) → page_header_at bytes ≡ Ok (h, rest) → length rest < length bytes
header_shorter bytes rest h e =
    let first = bind-Ok (struct_at page_header_field_at no_page_header_fields bytes) (λ found. only_some (page_header_of found.0) (0 ∷ found.1) >>= λ x. Ok (x, found.1)) (h, rest) e in
    let second = bind-Ok (only_some (page_header_of first.0.0) (0 ∷ first.0.1)) (λ x. Ok (x, first.0.1)) (h, rest) first.2 in
    let same = read_once (second.0, first.0.1) (h, rest) (Ok (second.0, first.0.1)) refl second.2 in
    let less = fields_at-shorter page_header_field_at page_header_field_stays (length bytes) (pos 0) no_page_header_fields first.0.0 bytes first.0.1 first.1 in
    omega (arith, less, ap (λ (p : PageHeader × List ℕ). length p.1) same)
