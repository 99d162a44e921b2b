-- One block more is met.
use Rattle.std.proofs.Common.{◌≡◌, ◌≢◌, ℕ, ◌+◌, ◌<◌, ◌≤◌, Bool, true, false, List, [], ◌∷◌, ◌++◌, length, get_or, set, replicate, refl, sym, ◌∙◌, ap, subst, arith, ⊎_elim, cond, length-append, length-set, count_by}
use Rattle.std.specs.Prelude.{◌==◌, not}
use Rattle.std.specs.List.{Contains}
use Rattle.std.proofs.lemmas.List.Sums.{sum_by-set}
use Rattle.std.proofs.lemmas.List.Elements.{Contains-append_left, Contains-append_right, Contains-append_cases}
use Rattle.std.proofs.lemmas.List.Quantifiers.{all_pairs_push}
use Rattle.std.proofs.lemmas.List.{get_or-set_same, get_or-set_other, get_or_default, get_or_past, get_or-replicate, length-replicate}
use Rattle.std.proofs.lemmas.Bool.{cases_lt}
use Rattle.std.proofs.lemmas.Bool.Decides.{nat_tests}
use Rattle.pro_dir.specs.Walk.{HasMetMore, IsTable, is_met}

pub only : {X : Type 0} (y z : X) → Contains (y ∷ []) z → z ≡ y
only y z has =
    let first : has.0 ≡ 0 = omega (arith, has.1) in
    sym (subst (λ k. get_or (y ∷ []) k z ≡ z) first has.2)

-- one block fewer is not met
pub count_by-set : (met : List Bool) (block : ℕ) → block < length met → is_met met block ≡ false
    → count_by not (set met block true) + 1 ≡ count_by not met
count_by-set met block within unmet =
    let moved = sum_by-set (λ b. cond (not b) 1 0) met block true false within in
    let was : ◌≡◌ {A = ℕ} (cond (not (get_or met block false)) 1 0) 1 = rw unmet refl in
    omega (arith, moved, was)

-- the table with one block more
tabled : (places : ℕ) (met : List Bool) (blocks : List ℕ) (block : ℕ) → 2 ≤ block → block < places → is_met met block ≡ false → IsTable places met blocks
    → IsTable places (set met block true) (blocks ++ block ∷ [])
tabled places met blocks block low inside unmet table = record {
  size = length-set met block true ∙ table.size;
  has = λ b is. by_test b (b == block) refl is;
  all = λ b has. ⊎_elim (λ old. still b (table.all b old)) (λ new. here b (only block b new)) (Contains-append_cases blocks (block ∷ []) b has);
  once = all_pairs_push (λ block later. block ≢ later) blocks block table.once (λ k d h same. not_yet (subst (Contains blocks) same (k, h, get_or_default blocks k _ d h)));
  low = λ b has. ⊎_elim (table.low b) (λ new. subst (λ n. 2 ≤ n) (sym (only block b new)) low) (Contains-append_cases blocks (block ∷ []) b has);
}
  where
    within : block < length met
    within = omega (arith, inside, table.size)

    not_yet : Contains blocks block → ⊥
    not_yet has = let is = table.all block has in grind (arith, is, unmet)

    here : (b : ℕ) → b ≡ block → is_met (set met block true) b ≡ true
    here b same = subst (λ t. is_met (set met block true) t ≡ true) (sym same) (get_or-set_same met block true false within)

    still : (b : ℕ) → is_met met b ≡ true → is_met (set met block true) b ≡ true
    still b is = by_place (b == block) refl
      where
        by_place : (same : Bool) → (b == block) ≡ same → is_met (set met block true) b ≡ true
        by_place true at = here b (grind (arith, nat_tests))
        by_place false at = let differ : b ≢ block = grind (arith, nat_tests) in get_or-set_other met block b true false differ ∙ is

    by_test : (b : ℕ) (same : Bool) → (b == block) ≡ same → is_met (set met block true) b ≡ true → Contains (blocks ++ block ∷ []) b
    by_test b true at is =
        let same : b ≡ block = grind (arith, nat_tests) in
        subst (Contains (blocks ++ block ∷ [])) (sym same) (Contains-append_right blocks (block ∷ []) block (0, omega arith, refl))
    by_test b false at is =
        let differ : b ≢ block = grind (arith, nat_tests) in
        Contains-append_left blocks (block ∷ []) b (table.has b (sym (get_or-set_other met block b true false differ) ∙ is))

pub tabled_on : (places : ℕ) (met marks : List Bool) (blocks more : List ℕ) (block : ℕ) → 2 ≤ block → block < places → is_met met block ≡ false → IsTable places met blocks
    → marks ≡ set met block true → more ≡ blocks ++ block ∷ [] → IsTable places marks more
tabled_on places met marks blocks more block low inside unmet table marks_is more_is =
    subst (λ ms. IsTable places ms more) (sym marks_is) (subst (IsTable places (set met block true)) (sym more_is) (tabled places met blocks block low inside unmet table))

-- one block more is met
pub one_more : (places : ℕ) (met marks : List Bool) (blocks more : List ℕ) (block : ℕ) → length met ≡ places → block < places → is_met met block ≡ false
    → marks ≡ set met block true → more ≡ blocks ++ block ∷ [] → HasMetMore met marks blocks more
one_more places met marks blocks more block size below unmet marks_is more_is =
    let within : block < length met = omega (arith, below, size) in
    let fewer : count_by not marks + 1 ≡ count_by not met = ap (λ ms. count_by not ms + 1) marks_is ∙ count_by-set met block within unmet in
    record {
      unmet = omega (arith, fewer, ap length more_is, length-append blocks (block ∷ []));
      longer = omega (arith, ap length more_is, length-append blocks (block ∷ []));
    }

pub and_more : (met marks last : List Bool) (blocks more all : List ℕ) → HasMetMore met marks blocks more → HasMetMore marks last more all → HasMetMore met last blocks all
and_more met marks last blocks more all first then = record { unmet = then.unmet ∙ first.unmet; longer = omega (arith, first.longer, then.longer) }

pub none_more : (met : List Bool) (blocks : List ℕ) → HasMetMore met met blocks blocks
none_more met blocks = record { unmet = refl; longer = omega arith }

-- no block is met at the beginning
none_met : (places block : ℕ) → is_met (replicate places false) block ≡ false
none_met places block = ⊎_elim (λ within. get_or-replicate places block false false within)
    (λ beyond. get_or_past (replicate places false) block false (omega (arith, beyond, length-replicate places false))) (cases_lt block places)

pub unmet_none : (places : ℕ) (met : List Bool) (block : ℕ) → met ≡ replicate places false → is_met met block ≡ false
unmet_none places met block met_is = ap (λ ms. is_met ms block) met_is ∙ none_met places block

pub tabled_none : (places : ℕ) (met : List Bool) (blocks : List ℕ) → met ≡ replicate places false → blocks ≡ [] → IsTable places met blocks
tabled_none places met blocks met_is blocks_is = subst (λ ms. IsTable places ms blocks) (sym met_is) (subst (IsTable places (replicate places false)) (sym blocks_is) (record {
  size = length-replicate places false;
  has = λ block is. absurd (let none = none_met places block in cc);
  all = λ block has. absurd (omega (arith, has.1));
  once = λ i k d has later. absurd (omega (arith, has, later));
  low = λ block has. absurd (omega (arith, has.1));
}))
