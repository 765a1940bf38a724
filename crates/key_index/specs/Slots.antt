-- The slots of record keys. The hash is that of "The FNV Non-Cryptographic Hash Algorithm" ("FNV-1a hash" and
-- "Parameters of the FNV-1/1a hash", of 64 bits); that its low bits choose a slot is this project's own.
use Rattle.std.specs.Prelude.{ℕ, ◌*◌, ◌%◌, ◌^◌, List, bit_xor, fold}

abbrev pub offset_basis : ℕ
offset_basis = 0xcbf2_9ce4_8422_2325

abbrev pub fnv_prime : ℕ
fnv_prime = 0x100_0000_01b3

-- the hash after one more byte: first the exclusive or, then the product
abbrev pub with_byte : ℕ → ℕ → ℕ
with_byte hash byte = (bit_xor hash byte * fnv_prime) % 2 ^ 64

-- the hash of bytes
abbrev pub fnv_1a : List ℕ → ℕ
fnv_1a bytes = fold with_byte offset_basis bytes

-- how many slots a partition has
abbrev pub slot_count : ℕ
slot_count = 65_536

-- the slot of a key
unfoldable pub slot_of : List ℕ → ℕ
slot_of key = fnv_1a key % slot_count
