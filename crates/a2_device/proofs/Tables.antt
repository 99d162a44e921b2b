-- The table of the places that a walk met.
use Rattle.std.proofs.Common.{◌≡◌, ◌≢◌, ℕ, zero, suc, ◌<◌, Bool, true, false, List, [], ◌∷◌, ◌++◌, length, get_or, set, Contains, refl, sym, ◌∙◌, ap, subst, arith, replicate, ⊎_elim, inl, inr}
use Rattle.std.specs.Prelude.{slice_index_or, ◌==◌, All}
use Rattle.std.proofs.lemmas.Bool.{cases_lt}
use Rattle.std.proofs.lemmas.Bool.Decides.{nat_tests}
use Rattle.std.proofs.lemmas.List.Elements.{Contains-append_left, Contains-append_right, Contains-append_cases}
use Rattle.std.proofs.lemmas.List.Quantifiers.{all_pairs_push}
use Rattle.std.proofs.lemmas.List.{get_or-set_same, get_or-set_other, get_or_default, get_or_past}
use Rattle.a2_device.specs.declared.part.Part.{Part}
use Rattle.a2_device.specs.Table.{IsTable}

pub only_one : (y z : Part) → Contains (y ∷ []) z → z ≡ y
only_one y z has =
    let first : has.0 ≡ 0 = omega (arith, has.1) in
    sym (subst (λ k. get_or (y ∷ []) k z ≡ z) first has.2)

pub first_one : (y : Part) → Contains (y ∷ []) y
first_one y = (0, omega arith, refl)

-- the table with one part more
pub tabled : (met : List Bool) (parts : List Part) (part : Part) → part.place < length met → slice_index_or met part.place false ≡ false → IsTable met parts
    → IsTable (set met part.place true) (parts ++ part ∷ [])
tabled met parts part within unmet table = record {
  all = λ other has. ⊎_elim (λ old. still other.place (table.all other old)) (λ new. here other.place (ap (λ (p : Part). p.place) (only_one part other new))) (Contains-append_cases parts (part ∷ []) other has);
  has = λ place is. by_test place (place == part.place) refl is;
  once = all_pairs_push (λ one later. one.place ≢ later.place) parts part table.once (λ k d h same. not_yet _ (k, h, get_or_default parts k _ d h) same);
}
  where
    not_yet : (other : Part) → Contains parts other → other.place ≡ part.place → ⊥
    not_yet other has same = let is = table.all other has in let at = ap (λ p. slice_index_or met p false) same in cc

    here : (place : ℕ) → place ≡ part.place → slice_index_or (set met part.place true) place false ≡ true
    here place same = subst (λ p. slice_index_or (set met part.place true) p false ≡ true) (sym same) (get_or-set_same met part.place true false within)

    still : (place : ℕ) → slice_index_or met place false ≡ true → slice_index_or (set met part.place true) place false ≡ true
    still place is = by_place (place == part.place) refl
      where
        by_place : (same : Bool) → (place == part.place) ≡ same → slice_index_or (set met part.place true) place false ≡ true
        by_place true at = here place (grind (arith, nat_tests))
        by_place false at = let differ : place ≢ part.place = grind (arith, nat_tests) in get_or-set_other met part.place place true false differ ∙ is

    by_test : (place : ℕ) (same : Bool) → (place == part.place) ≡ same → slice_index_or (set met part.place true) place false ≡ true
        → (other : Part) × Contains (parts ++ part ∷ []) other × (other.place ≡ place)
    by_test place true at is =
        let same : part.place ≡ place = grind (arith, nat_tests) in
        (part, Contains-append_right parts (part ∷ []) part (first_one part), same)
    by_test place false at is =
        let differ : place ≢ part.place = grind (arith, nat_tests) in
        let old = table.has place (sym (get_or-set_other met part.place place true false differ) ∙ is) in
        (old.0, Contains-append_left parts (part ∷ []) old.0 old.1, old.2)

-- the start of a walk
not_met : (n k : ℕ) → slice_index_or (replicate n false) k false ≡ false
not_met zero k = refl
not_met (suc n) zero = refl
not_met (suc n) (suc k) = not_met n k

pub empty_table : (n : ℕ) → IsTable (replicate n false) []
empty_table n = record {
  all = λ part has. absurd (omega (arith, has.1));
  has = λ place is. let none = not_met n place in absurd cc;
  once = λ i j d a b. absurd (omega (arith, b));
}

-- the parts stand at places of the table
pub all_within : (met : List Bool) (parts : List Part) → IsTable met parts → All (λ (part : Part). part.place < length met) parts
all_within met parts table k d inside =
    let part = get_or parts k d in
    let marked = table.all part (k, inside, get_or_default parts k part d inside) in
    elim (cases_lt part.place (length met)) [
      | inl below ↦ below
      | inr past ↦ absurd (true_not_false (sym marked ∙ get_or_past met part.place false past))
    ]
  where
    true_not_false : true ≡ false → ⊥
    true_not_false is = cc
