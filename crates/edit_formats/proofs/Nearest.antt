-- The nearest unit of the map that has marks of some places.
use Rattle.std.specs.Prelude.{◌≡◌, ◌⊎◌, ◌<◌, ◌≤◌, nat_lt, ℕ, zero, suc, Bool, true, false, if◌then◌else◌, Option, Some, None, List, [], ◌∷◌, Contains}
use Rattle.std.proofs.Common.{refl, sym, ◌∙◌, ap, subst, arith, inl, inr}
use Rattle.std.proofs.lemmas.Bool.{ltb-true, ltb-false}
use Rattle.vol_format.specs.Directory.{Directory, map_place}
use Rattle.edit_formats.specs.Markings.{nearer, nearest, HasMarkOf}

-- what is known of the nearest of some units, where `Known` are those that came up
record IsNearest (from : ℕ) (Known : ℕ → Type 0) (at : ℕ) : Type 0 where
  pub above : from ≤ at
  pub known : Known at
  pub least : (other : ℕ) → Known other → from ≤ other → at ≤ other

-- what the search has found: none from the number on, or the nearest
abbrev IsFound : ℕ → (ℕ → Type 0) → Option ℕ → Type 0
IsFound from Known None = (other : ℕ) → Known other → other < from
IsFound from Known (Some at) = IsNearest from Known at

-- one unit more
abbrev Or : (ℕ → Type 0) → ℕ → ℕ → Type 0
Or Known at other = Known other ⊎ (other ≡ at)

one_nearer : (from : ℕ) (Known : ℕ → Type 0) (best : Option ℕ) (at : ℕ) → IsFound from Known best → IsFound from (Or Known at) (nearer from best at)
one_nearer from Known None at found = by_test (nat_lt at from) refl
  where
    by_test : (b : Bool) → nat_lt at from ≡ b → IsFound from (Or Known at) (if b then None else Some at)
    by_test true low = λ other known. elim known [
      | inl before ↦ found other before
      | inr same ↦ omega (arith, ltb-true at from low, same)
    ]
    by_test false high = record {
      above = ltb-false at from high;
      known = inr refl;
      least = λ other known above. elim known [
        | inl before ↦ absurd (omega (arith, found other before, above))
        | inr same ↦ omega (arith, same)
      ];
    }
one_nearer from Known (Some best) at found = by_test (nat_lt at from) refl (nat_lt at best) refl
  where
    by_test : (b : Bool) → nat_lt at from ≡ b → (c : Bool) → nat_lt at best ≡ c
        → IsFound from (Or Known at) (if b then Some best else (if c then Some at else Some best))
    by_test true low c is = record {
      above = found.above;
      known = inl found.known;
      least = λ other known above. elim known [
        | inl before ↦ found.least other before above
        | inr same ↦ absurd (omega (arith, ltb-true at from low, same, above))
      ];
    }
    by_test false high true less = record {
      above = ltb-false at from high;
      known = inr refl;
      least = λ other known above. elim known [
        | inl before ↦ omega (arith, found.least other before above, ltb-true at best less)
        | inr same ↦ omega (arith, same)
      ];
    }
    by_test false high false more = record {
      above = found.above;
      known = inl found.known;
      least = λ other known above. elim known [
        | inl before ↦ found.least other before above
        | inr same ↦ omega (arith, ltb-false at best more, same)
      ];
    }

module _ (directory : Directory) (from : ℕ) where
  found_more : (Known Wider : ℕ → Type 0) → ((at : ℕ) → Known at → Wider at) → ((at : ℕ) → Wider at → Known at) → (best : Option ℕ)
      → IsFound from Known best → IsFound from Wider best
  found_more Known Wider to back None found = λ other known. found other (back other known)
  found_more Known Wider to back (Some at) found = record {
    above = found.above;
    known = to at found.known;
    least = λ other known above. found.least other (back other known) above;
  }

  search_found : (places : List ℕ) (Known : ℕ → Type 0) (best : Option ℕ) → IsFound from Known best
      → IsFound from (λ at. Known at ⊎ HasMarkOf directory places at) (nearest directory from best places)
  search_found [] Known best found =
      found_more Known (λ at. Known at ⊎ HasMarkOf directory [] at) (λ at known. inl known)
      (λ at known. elim known [ inl before ↦ before | inr has ↦ absurd (omega (arith, has.1.1)) ]) best found
  search_found (place ∷ places) Known best found =
      let at = map_place directory place in
      found_more (λ other. Or Known at other ⊎ HasMarkOf directory places other) (λ other. Known other ⊎ HasMarkOf directory (place ∷ places) other) to back
      (nearest directory from (nearer from best at) places)
      (search_found places (Or Known at) (nearer from best at) (one_nearer from Known best at found))
    where
      to : (other : ℕ) → Or Known (map_place directory place) other ⊎ HasMarkOf directory places other → Known other ⊎ HasMarkOf directory (place ∷ places) other
      to other (inl (inl known)) = inl known
      to other (inl (inr same)) = inr (place, (zero, omega arith, refl), sym same)
      to other (inr has) = inr (has.0, (suc has.1.0, omega (arith, has.1.1), has.1.2), has.2)

      first_or : (other p : ℕ) → map_place directory p ≡ other → Contains (place ∷ places) p → Or Known (map_place directory place) other ⊎ HasMarkOf directory places other
      first_or other p same (zero, within, is) = inl (inr (sym same ∙ ap (map_place directory) (sym is)))
      first_or other p same (suc i, within, is) = inr (p, (i, omega (arith, within), is), same)

      back : (other : ℕ) → Known other ⊎ HasMarkOf directory (place ∷ places) other → Or Known (map_place directory place) other ⊎ HasMarkOf directory places other
      back other (inl known) = inl (inl known)
      back other (inr has) = first_or other has.0 has.2 has.1

  abbrev Nothing : ℕ → Type 0
  Nothing at = ⊥

  found_by : (places : List ℕ) → IsFound from (λ at. Nothing at ⊎ HasMarkOf directory places at) (nearest directory from None places)
  found_by places = search_found places Nothing None (λ other known. absurd known)

  pub nearest_some : (places : List ℕ) (at : ℕ) → nearest directory from None places ≡ Some at
      → (from ≤ at) × HasMarkOf directory places at × ((place : ℕ) → Contains places place → from ≤ map_place directory place → at ≤ map_place directory place)
  nearest_some places at is =
      let found : IsNearest from (λ at. Nothing at ⊎ HasMarkOf directory places at) at = subst (IsFound from (λ at. Nothing at ⊎ HasMarkOf directory places at)) is (found_by places) in (
        found.above,
        elim found.known [ inl none ↦ absurd none | inr has ↦ has ],
        λ place has above. found.least (map_place directory place) (inr (place, has, refl)) above,
      )

  pub nearest_none : (places : List ℕ) → nearest directory from None places ≡ None
      → (place : ℕ) → Contains places place → map_place directory place < from
  nearest_none places is place has =
      let found : IsFound from (λ at. Nothing at ⊎ HasMarkOf directory places at) None = subst (IsFound from (λ at. Nothing at ⊎ HasMarkOf directory places at)) is (found_by places) in
      found (map_place directory place) (inr (place, has, refl))
