-- Layouts of parts over places, and the parts that do not stand where they belong.
-- The parts of a layout c have the numbers 0, 1, .., and c has the place of each. A part belongs at the place of its
-- own number.
use Rattle.std.specs.Prelude.{◌≡◌, ◌≢◌, ℕ, ◌<◌, ◌≤◌, ◌==◌, not, List, length, slice_index, All, AllPairs}
use Rattle.std.specs.List.{filter, list_any, range_with_len}

-- where each part stands, and how many places there are
pub record Placement : Type 0 where
  pub at : List ℕ
  pub places : ℕ

-- no two of these numbers are equal
abbrev pub AreDistinct : List ℕ → Type 0
AreDistinct numbers = AllPairs (λ a b. a ≢ b) numbers

-- a layout: no two parts stand at one place, and each stands at a place below `places`
pub record IsLayout (c : List ℕ) (places : ℕ) : Type 0 where
  pub distinct : AreDistinct c
  pub below : All (λ place. place < places) c

-- each of these numbers is a place, and there are no more places than a layout may have
abbrev pub IsInRange : List ℕ → ℕ → Type 0
IsInRange c places = All (λ place. place < places) c × (places ≤ 1000000)

-- the numbers of the parts, which are also the places where they belong
abbrev pub targets : List ℕ → List ℕ
targets c = range_with_len 0 (length c)

-- each part stands at the place of its own number
abbrev pub IsTarget : List ℕ → Type 0
IsTarget c = c ≡ targets c

-- part k stands elsewhere than at place k
abbrev pub IsMisplaced : List ℕ → ℕ → Type 0
IsMisplaced c k = (k < length c) × (slice_index c k ≢ k)

-- the misplaced parts, in rising order
abbrev pub misplaced : List ℕ → List ℕ
misplaced c = filter (λ k. not (slice_index c k == k)) (targets c)

-- the places where parts belong and no part stands, in rising order
abbrev pub holes : List ℕ → List ℕ
holes c = filter (λ place. not (list_any (λ taken. taken == place) c)) (targets c)
