-- What is written into the slots of a directory block (ProDOS 8 Technical Reference Manual, Appendix B).
use Rattle.std.specs.Prelude.{ℕ, ◌+◌, ◌-◌, ◌*◌, ◌/◌, ◌%◌, List, [], ◌∷◌, ◌++◌, length, take, drop, replicate}
use Rattle.pro_dir.specs.declared.slot.NewFile.{NewFile}

-- where a slot begins in its block
abbrev pub slot_offset : ℕ → ℕ
slot_offset slot = 4 + 39 * slot

-- a block with some bytes written from an offset on
abbrev pub with_bytes : ℕ → List ℕ → List ℕ → List ℕ
with_bytes at bytes unit = take at unit ++ bytes ++ drop (at + length bytes) unit

-- numbers of two and of three bytes, the low one first
abbrev pub word_bytes : ℕ → List ℕ
word_bytes n = (n % 256) ∷ (n / 256) ∷ []

abbrev pub long_bytes : ℕ → List ℕ
long_bytes n = (n % 256) ∷ (n / 256 % 256) ∷ (n / 65536) ∷ []

-- a name of so many bytes, with 00 behind it up to 15
abbrev pub padded : ℕ → List ℕ → List ℕ
padded len name = take len name ++ replicate (15 - len) 0

-- A file's 39 bytes: the storage type and the length of the name, the name, the type, the key pointer, the blocks used,
-- the length of the file, the creation, the two versions, the access bits, the auxiliary type, the modification and the
-- directory's key block.
abbrev pub entry_bytes : NewFile → List ℕ
entry_bytes file =
    (16 * file.storage + file.len)
    ∷ (padded file.len file.name ++ file.kind
    ∷ (word_bytes file.key ++ word_bytes file.blocks ++ long_bytes file.eof ++ file.date.0
    ++ 0 ∷ 0 ∷ file.access ∷ (word_bytes file.aux ++ file.date.0 ++ word_bytes file.dir)))
