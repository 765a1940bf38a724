-- How long the parts of a block are.
use Rattle.std.proofs.Common.{◌≡◌, ℕ, ◌+◌, List, ◌++◌, length, ap, arith}
use Rattle.std.proofs.lemmas.List.{length-append}
use Rattle.byteorder.specs.Endian.{big_bytes}
use Rattle.byteorder.specs.Numbers.{length-bytes_high_first}
use Rattle.byte_fields.specs.Prefixed.{with_length}
use Rattle.log_block.specs.declared.block.Block.{Block}
use Rattle.log_block.specs.declared.format.BlockType.{BlockType}
use Rattle.log_block.specs.declared.format.HeaderKey.{HeaderKey}
use Rattle.log_block.specs.Form.{entry, header, fields, fields_of, frame, magic, type_of, key_number, content_of, block_bytes, size_of}

pub length-with_length : (n : ℕ) (bytes : List ℕ) → length (with_length (big_bytes n) bytes) ≡ n + length bytes
unfolding with_length
length-with_length n bytes =
    omega (arith, length-append (big_bytes n (length bytes)) bytes, length-bytes_high_first n (length bytes))

pub length-entry : (key : HeaderKey) (text : List ℕ) → length (entry key text) ≡ length text + 8
unfolding entry
length-entry key text =
    omega (arith, length-append (big_bytes 4 (key_number key)) (with_length (big_bytes 4) text), length-bytes_high_first 4 (key_number key), length-with_length 4 text)

pub length-fields : (of : BlockType) (header content : List ℕ) → length (fields of header content) ≡ length header + length content + 20
unfolding fields
length-fields of header content =
    simp (length-append, length-with_length) (omega arith)

pub length-frame : (inside : List ℕ) → length (frame inside) ≡ length inside + 22
unfolding frame
length-frame inside = simp length-append (omega arith)

-- a block is put together with the length of its fields
pub frame_is : (inside : ℕ) (of : BlockType) (header content : List ℕ) → inside ≡ length header + length content + 20
    → magic ++ big_bytes 8 (inside + 8) ++ fields of header content ++ big_bytes 8 (inside + 14) ≡ frame (fields of header content)
unfolding frame
frame_is inside of header content e =
    let len : inside ≡ length (fields of header content) = omega (arith, length-fields of header content) in
    ap (λ (k : ℕ). magic ++ big_bytes 8 (k + 8) ++ fields of header content ++ big_bytes 8 (k + 14)) len

-- a block is eight bytes longer than what stands before its size
pub length-block_bytes : (block : Block) → length (block_bytes block) ≡ size_of block + 8
length-block_bytes block = omega (arith, length-frame (fields_of block))

-- the header and the content, and forty-two bytes beside them
pub length-block_bytes-parts : (block : Block) → length (block_bytes block) ≡ length (header block) + length (content_of block) + 42
length-block_bytes-parts block =
    omega (arith, length-block_bytes block, length-fields (type_of block) (header block) (content_of block))

pub ruleset lengths = (length-fields, length-frame)
