-- Rings of parts that stand in one another's places, and the deficit of a layout.
use Rattle.std.specs.Prelude.{◌≡◌, ℕ, ◌+◌, ◌<◌, ◌≤◌, ◌↔◌, List, [], ◌∷◌, ◌++◌, map, length, slice_index, All, AllPairs, Any, Contains}
use Rattle.vol_layout.specs.Layouts.{AreDistinct, misplaced}

-- a list turned by one: the second comes first, and the first last
abbrev pub turned : List ℕ → List ℕ
turned [] = []
turned (k ∷ ks) = ks ++ k ∷ []

-- at least two distinct parts, of which each stands at the place of the next, and the last at that of the first
pub record IsRing (c ring : List ℕ) : Type 0 where
  pub long : 2 ≤ length ring
  pub distinct : AreDistinct ring
  pub parts : All (λ k. k < length c) ring
  pub turns : map (slice_index c) ring ≡ turned ring

-- two rings are the same if they have the same parts
abbrev pub SameParts : List ℕ → List ℕ → Type 0
SameParts ring other = (k : ℕ) → Contains ring k ↔ Contains other k

-- no two of these rings have a part in common
abbrev pub AreApart : List (List ℕ) → Type 0
AreApart rings = AllPairs (λ ring other. (k : ℕ) → Contains ring k → Contains other k → ⊥) rings

-- all rings of a layout, each once
pub record AreAllRings (c : List ℕ) (rings : List (List ℕ)) : Type 0 where
  pub each : All (IsRing c) rings
  pub once : AllPairs (λ ring other. SameParts ring other → ⊥) rings
  pub all : (ring : List ℕ) → IsRing c ring → Any (SameParts ring) rings

-- the deficit of a layout is the number of its misplaced parts and of its different rings
abbrev pub IsDeficit : List ℕ → ℕ → Type 0
IsDeficit c deficit = (rings : List (List ℕ)) × AreAllRings c rings × (deficit ≡ length (misplaced c) + length rings)
