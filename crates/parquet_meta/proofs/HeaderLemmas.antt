-- A written page header is read back.
use Rattle.std.proofs.Common.{◌≡◌, ℕ, List, [], ◌∷◌, ◌++◌, Some, Ok, pos, refl, ap, lit<}
use Rattle.parquet_meta.specs.declared.page_header.PageHeader.{PageHeader}
use Rattle.parquet_meta.specs.Reading.{with_value}
use Rattle.parquet_meta.specs.PageHeaders.{no_data_page_fields, data_page_field_at, data_page_of, data_page_at, no_page_header_fields, page_header_field_at, page_header_of, page_header_at}
use Rattle.parquet_meta.specs.StaysLaws.{data_page_field_stays, page_header_field_stays}
use Rattle.parquet_meta.specs.Written.{i32_field, data_page_bytes, page_header_bytes}
use Rattle.parquet_meta.specs.ReadBack.{IsTypedHeader}
use Rattle.parquet_meta.proofs.ReadBackLemmas.{number32_again, whole_again}

data_page_again : (h : PageHeader) (rest : List ℕ) → IsTypedHeader h → data_page_at (data_page_bytes h ++ rest) ≡ Ok (record { values = h.values; encoding = h.encoding; def_encoding = h.def_encoding; rep_encoding = h.rep_encoding }, rest)
unfolding data_page_field_at
data_page_again h rest fits =
    whole_again data_page_field_at no_data_page_fields data_page_of data_page_field_stays
    (i32_field (pos 1) h.values ∷ i32_field (pos 2) h.encoding ∷ i32_field (pos 3) h.def_encoding ∷ i32_field (pos 4) h.rep_encoding ∷ [])
    (record no_data_page_fields { values = Some h.values; encoding = Some h.encoding; def_encoding = Some h.def_encoding; rep_encoding = Some h.rep_encoding })
    (record { values = h.values; encoding = h.encoding; def_encoding = h.def_encoding; rep_encoding = h.rep_encoding }) rest
    (record { difference = 1; is = refl; sum = refl; some = lit< tt; few = lit< tt; known = refl; half = lit< tt; fits = refl }, (record { difference = 1; is = refl; sum = refl; some = lit< tt; few = lit< tt; known = refl; half = lit< tt; fits = refl }, (record { difference = 1; is = refl; sum = refl; some = lit< tt; few = lit< tt; known = refl; half = lit< tt; fits = refl }, (record { difference = 1; is = refl; sum = refl; some = lit< tt; few = lit< tt; known = refl; half = lit< tt; fits = refl }, tt))))
    ((record no_data_page_fields { values = Some h.values }), λ left more. ap (with_value (λ x. record no_data_page_fields { values = Some x })) (number32_again h.values more fits.values), ((record no_data_page_fields { values = Some h.values; encoding = Some h.encoding }), λ left more. ap (with_value (λ x. record (record no_data_page_fields { values = Some h.values }) { encoding = Some x })) (number32_again h.encoding more fits.encoding), ((record no_data_page_fields { values = Some h.values; encoding = Some h.encoding; def_encoding = Some h.def_encoding }), λ left more. ap (with_value (λ x. record (record no_data_page_fields { values = Some h.values; encoding = Some h.encoding }) { def_encoding = Some x })) (number32_again h.def_encoding more fits.def_encoding), ((record no_data_page_fields { values = Some h.values; encoding = Some h.encoding; def_encoding = Some h.def_encoding; rep_encoding = Some h.rep_encoding }), λ left more. ap (with_value (λ x. record (record no_data_page_fields { values = Some h.values; encoding = Some h.encoding; def_encoding = Some h.def_encoding }) { rep_encoding = Some x })) (number32_again h.rep_encoding more fits.rep_encoding), refl))))
    refl

pub page_header_again : (h : PageHeader) (rest : List ℕ) → IsTypedHeader h → page_header_at (page_header_bytes h ++ rest) ≡ Ok (h, rest)
unfolding page_header_field_at
page_header_again h rest fits =
    whole_again page_header_field_at no_page_header_fields page_header_of page_header_field_stays
    (i32_field (pos 1) h.kind ∷ i32_field (pos 2) h.uncompressed ∷ i32_field (pos 3) h.compressed ∷ (record { id = pos 5; kind = 12; value = data_page_bytes h }) ∷ [])
    (record no_page_header_fields { kind = Some h.kind; uncompressed = Some h.uncompressed; compressed = Some h.compressed; page = Some (record { values = h.values; encoding = h.encoding; def_encoding = h.def_encoding; rep_encoding = h.rep_encoding }) })
    h rest
    (record { difference = 1; is = refl; sum = refl; some = lit< tt; few = lit< tt; known = refl; half = lit< tt; fits = refl }, (record { difference = 1; is = refl; sum = refl; some = lit< tt; few = lit< tt; known = refl; half = lit< tt; fits = refl }, (record { difference = 1; is = refl; sum = refl; some = lit< tt; few = lit< tt; known = refl; half = lit< tt; fits = refl }, (record { difference = 2; is = refl; sum = refl; some = lit< tt; few = lit< tt; known = refl; half = lit< tt; fits = refl }, tt))))
    ((record no_page_header_fields { kind = Some h.kind }), λ left more. ap (with_value (λ x. record no_page_header_fields { kind = Some x })) (number32_again h.kind more fits.kind), ((record no_page_header_fields { kind = Some h.kind; uncompressed = Some h.uncompressed }), λ left more. ap (with_value (λ x. record (record no_page_header_fields { kind = Some h.kind }) { uncompressed = Some x })) (number32_again h.uncompressed more fits.uncompressed), ((record no_page_header_fields { kind = Some h.kind; uncompressed = Some h.uncompressed; compressed = Some h.compressed }), λ left more. ap (with_value (λ x. record (record no_page_header_fields { kind = Some h.kind; uncompressed = Some h.uncompressed }) { compressed = Some x })) (number32_again h.compressed more fits.compressed), ((record no_page_header_fields { kind = Some h.kind; uncompressed = Some h.uncompressed; compressed = Some h.compressed; page = Some (record { values = h.values; encoding = h.encoding; def_encoding = h.def_encoding; rep_encoding = h.rep_encoding }) }), λ left more. ap (with_value (λ x. record (record no_page_header_fields { kind = Some h.kind; uncompressed = Some h.uncompressed; compressed = Some h.compressed }) { page = Some x })) (data_page_again h more fits), refl))))
    refl
