-- File ids: what tells a file group within its partition. The tail follows Hudi, whose file ids are UUIDs; that it is
-- made of the table and the partition is this project's own.
use Rattle.std.specs.Prelude.{ℕ, ◌+◌, ◌/◌, ◌%◌, ◌==◌, nat_lt, if◌then◌else◌, List, [], ◌∷◌, ◌++◌, take, drop}
use Rattle.hudi_base.specs.InstantTime.{first_time, time_text}
use Rattle.hudi_base.specs.declared.file_group.GroupRef.{GroupRef}
use Rattle.sha1.specs.Sha1.{sha1}
use Rattle.uuid.specs.Parts.{with_variant, with_version}
use Rattle.uuid.specs.Text.{hyphenated_text, lower}
use Rattle.uuid.specs.Uuid.{namespace_url}
use Rattle.uuid.specs.declared.Variant.TheVariants.{RFC4122}
use Rattle.uuid.specs.declared.Version.TheVariants.{Sha1}

-- a lower-case hexadecimal digit, and four of them for 16 bits
abbrev pub hex_digit : ℕ → ℕ
hex_digit n = if nat_lt n 10 then 48 + n else 87 + n

abbrev pub four_digits : ℕ → List ℕ
four_digits n = hex_digit (n / 4096 % 16) ∷ hex_digit (n / 256 % 16) ∷ hex_digit (n / 16 % 16) ∷ hex_digit (n % 16) ∷ []

-- the version 5 UUID of a name in the URL namespace (RFC 9562, section 5.5)
abbrev pub url_uuid : List ℕ → List ℕ
url_uuid name = with_version (with_variant (take 16 (sha1 (namespace_url ++ name))) RFC4122) Sha1

-- the hyphenated UUID of `<table>/<partition>`, without its first eight digits and the hyphen after them
unfoldable pub tail_of : List ℕ → List ℕ → List ℕ
tail_of table partition = drop 9 (hyphenated_text lower (url_uuid (table ++ 47 ∷ partition)))

-- `0` for a group that the table began with, else the time of the replacecommit that made it
abbrev pub born_text : ℕ → List ℕ
born_text born = if born == first_time then 48 ∷ [] else time_text born

-- <lo><hi>-<tail>-<born>
unfoldable pub file_id : List ℕ → GroupRef → List ℕ
file_id table group = four_digits group.lo ++ (four_digits group.hi ++ (45 ∷ (tail_of table group.partition ++ (45 ∷ born_text group.born))))
