-- The pointers of an index block (ProDOS 8 Technical Reference Manual, Appendix B): the numbers of 256 blocks, whose
-- low bytes stand in the first half of the block and whose high bytes stand in the second. A master index has the same
-- form.
use Rattle.std.specs.Prelude.{ℕ, ◌+◌, ◌*◌, ◌/◌, ◌%◌, List, slice_index, slice_set}

-- the block number of a pointer
abbrev pub pointer_of : List ℕ → ℕ → ℕ
pointer_of unit i = slice_index unit i + 256 * slice_index unit (256 + i)

-- an index with one pointer to a block
abbrev pub with_pointer : ℕ → ℕ → List ℕ → List ℕ
with_pointer i block unit = slice_set (slice_set unit i (block % 256)) (256 + i) (block / 256)
