-- The blocks of an empty ProDOS volume (ProDOS 8 Technical Reference Manual, Appendix B).
use Rattle.std.specs.Prelude.{◌≡◌, ◌≤◌, ◌<◌, ℕ, ◌+◌, ◌-◌, ◌*◌, ◌==◌, nat_lt, not, ◌&&◌, Bool, if◌then◌else◌}
use Rattle.std.specs.Prelude.{List, [], ◌∷◌, length}
use Rattle.pro_bitmap.specs.Bitmap.{is_free_in}
use Rattle.pro_dir.specs.Volume.{map_blocks}
use Rattle.pro_dir.specs.Writes.{word_bytes}
use Rattle.new_volumes.specs.Fields.{unit_with, with_fields, zeros}

-- The directory has blocks 2 to 5, each with the previous and the next one of them, 0 at the ends.
abbrev pub link_fields : ℕ → List (ℕ × List ℕ)
link_fields block =
    (0x00, word_bytes (if block == 2 then 0 else (block - 1)))
    ∷ (0x02, word_bytes (if block == 5 then 0 else (block + 1))) ∷ []

-- The header in block 2: the storage type F of a volume's directory and the length of the name, the name, the date of
-- its creation, the access C3, 39 bytes an entry and 13 entries a block, the first block of the map and the total of
-- blocks.
abbrev pub header_fields : List ℕ → List ℕ → ℕ → List (ℕ × List ℕ)
header_fields name date blocks =
    (0x04, (0xf0 + length name) ∷ []) ∷ (0x05, name) ∷ (0x1c, date) ∷ (0x22, 0xc3 ∷ 39 ∷ 13 ∷ [])
    ∷ (0x27, word_bytes 6) ∷ (0x29, word_bytes blocks) ∷ []

unfoldable pub directory_block : List ℕ → List ℕ → ℕ → ℕ → List ℕ
directory_block name date blocks block =
    with_fields (if block == 2 then header_fields name date blocks else []) (unit_with 512 (link_fields block))

-- behind the map, which begins at block 6, the blocks are free
abbrev pub first_free : ℕ → ℕ
first_free blocks = 6 + map_blocks blocks

abbrev pub is_free_block : ℕ → ℕ → Bool
is_free_block blocks block = not (nat_lt block (first_free blocks)) && nat_lt block blocks

-- a block of the map has a bit for each of 4,096 blocks, which is 1 where the block is free
pub record IsMapBlock (blocks number : ℕ) (unit : List ℕ) : Type 0 where
  pub size : length unit ≡ 512
  pub bits : (bit : ℕ) → bit < 4096 → is_free_in unit bit ≡ is_free_block blocks (4096 * number + bit)

-- the block at a place, where nothing is copied
pub record IsEmptyBlock (name date : List ℕ) (blocks place : ℕ) (unit : List ℕ) : Type 0 where
  pub directory : 2 ≤ place → place < 6 → unit ≡ directory_block name date blocks place
  pub in_map : 6 ≤ place → place < first_free blocks → IsMapBlock blocks (place - 6) unit
  pub behind : first_free blocks ≤ place → unit ≡ zeros 512
