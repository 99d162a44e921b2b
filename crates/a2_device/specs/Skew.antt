-- How DOS and ProDOS number the sectors of a track (Beneath Apple DOS, chapter 3; ProDOS 8 Technical Reference Manual,
-- Appendix B).
use Rattle.std.specs.Prelude.{ℕ, List, [], ◌∷◌, slice_index}

-- the physical sector of each logical sector of DOS
abbrev pub physical_sectors : List ℕ
physical_sectors = 0 ∷ 13 ∷ 11 ∷ 9 ∷ 7 ∷ 5 ∷ 3 ∷ 1 ∷ 14 ∷ 12 ∷ 10 ∷ 8 ∷ 6 ∷ 4 ∷ 2 ∷ 15 ∷ []

-- the logical sector of DOS of each physical sector
abbrev pub dos_sectors : List ℕ
dos_sectors = 0 ∷ 7 ∷ 14 ∷ 6 ∷ 13 ∷ 5 ∷ 12 ∷ 4 ∷ 11 ∷ 3 ∷ 10 ∷ 2 ∷ 9 ∷ 1 ∷ 8 ∷ 15 ∷ []

unfoldable pub physical_of_dos : ℕ → ℕ
physical_of_dos sector = slice_index physical_sectors sector

unfoldable pub dos_of_physical : ℕ → ℕ
dos_of_physical sector = slice_index dos_sectors sector

-- the half of a block of the track, block 0's first, that each physical sector is: the sectors of the blocks 0 to 7
-- are 0,2 4,6 8,A C,E 1,3 5,7 9,B D,F
abbrev pub halves : List ℕ
halves = 0 ∷ 8 ∷ 1 ∷ 9 ∷ 2 ∷ 10 ∷ 3 ∷ 11 ∷ 4 ∷ 12 ∷ 5 ∷ 13 ∷ 6 ∷ 14 ∷ 7 ∷ 15 ∷ []

-- the physical sector of each half of a block of the track
abbrev pub sectors_of_halves : List ℕ
sectors_of_halves = 0 ∷ 2 ∷ 4 ∷ 6 ∷ 8 ∷ 10 ∷ 12 ∷ 14 ∷ 1 ∷ 3 ∷ 5 ∷ 7 ∷ 9 ∷ 11 ∷ 13 ∷ 15 ∷ []

unfoldable pub half_of_physical : ℕ → ℕ
half_of_physical sector = slice_index halves sector

unfoldable pub physical_of_half : ℕ → ℕ
physical_of_half half = slice_index sectors_of_halves half
