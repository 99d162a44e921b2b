-- One number more in the table.
use Rattle.std.proofs.Common.{◌≡◌, ◌≢◌, ◌<◌, ◌≤◌, ℕ, zero, suc, ◌+◌, List, [], ◌∷◌, length, get_or, set, replicate, refl, sym, ◌∙◌, ap, subst, arith, ⊎_elim}
use Rattle.std.specs.Prelude.{Option, Some, None, IfNone, slice_get}
use Rattle.std.specs.List.{Contains}
use Rattle.std.proofs.lemmas.Bool.{cases_eq}
use Rattle.std.proofs.lemmas.List.{get_or-set_same, get_or-set_other, get_or_default}
use Rattle.std.proofs.lemmas.Option.{slice_get-get_or}
use Rattle.vol_format.specs.Ordered.{AreNumbers, number_in}

same_some : (a b : ℕ) → Some a ≡ Some b → a ≡ b
same_some a b e = cc

abbrev no_number : Option ℕ
no_number = None

none_first : (places k : ℕ) → get_or (replicate places no_number) k no_number ≡ no_number
none_first zero k = refl
none_first (suc places) zero = refl
none_first (suc places) (suc k) = none_first places k

none_not_some : (k : ℕ) → None ≡ Some k → ⊥
none_not_some k e = cc

pub no_numbers : (order : List ℕ) (places : ℕ) (numbers : List (Option ℕ)) → numbers ≡ replicate places no_number → AreNumbers order 0 numbers
no_numbers order places numbers is = subst (AreNumbers order 0) (sym is) (record {
  named = λ place number at. absurd (none_not_some number (sym (none_first places place) ∙ at));
  all = λ k less. absurd (omega arith);
})

pub one_more : (order : List ℕ) (n place : ℕ) (numbers now : List (Option ℕ)) → n < length order → place ≡ get_or order n 0 → place < length numbers
    → now ≡ set numbers place (Some n) → AreNumbers order n numbers → AreNumbers order (n + 1) now
one_more order n place numbers now within at inside is before = subst (AreNumbers order (n + 1)) (sym is) (record {
  named = λ p number has. ⊎_elim
      (λ same. let number_is : n ≡ number = same_some n number (sym (here p same) ∙ has) in
      ap (slice_get order) (sym number_is) ∙ slice_get-get_or order n 0 within ∙ ap Some (sym at ∙ sym same))
      (λ differ. before.named p number (sym (elsewhere p differ) ∙ has))
      (cases_eq p place);
  all = λ k less. ⊎_elim
      (λ same. (n, here (get_or order k 0) same))
      (λ differ. let old = before.all k (still k less differ) in (old.0, elsewhere (get_or order k 0) differ ∙ old.1))
      (cases_eq (get_or order k 0) place);
})
  where
    here : (p : ℕ) → p ≡ place → get_or (set numbers place (Some n)) p None ≡ Some n
    here p same = ap (λ q. get_or (set numbers place (Some n)) q None) same ∙ get_or-set_same numbers place (Some n) None inside

    elsewhere : (p : ℕ) → p ≢ place → get_or (set numbers place (Some n)) p None ≡ get_or numbers p None
    elsewhere p differ = get_or-set_other numbers place p (Some n) None differ

    still : (k : ℕ) → k < n + 1 → get_or order k 0 ≢ place → k < n
    still k less differ = ⊎_elim (λ same. absurd (differ (ap (λ m. get_or order m 0) same ∙ sym at))) (λ other. omega (arith, less, other)) (cases_eq k n)

-- a place of the order has a number
pub has_number : (order : List ℕ) (numbers : List (Option ℕ)) (place : ℕ) → AreNumbers order (length order) numbers → number_in numbers place ≡ None → Contains order place → ⊥
has_number order numbers place are none has =
    let at = are.all has.0 has.1 in
    let same : get_or order has.0 0 ≡ place = get_or_default order has.0 0 place has.1 ∙ has.2 in
    none_not_some at.0 (sym none ∙ ap (number_in numbers) (sym same) ∙ at.1)

pub past_last : (order : List ℕ) (numbers : List (Option ℕ)) (place : ℕ) → AreNumbers order (length order) numbers → length numbers ≤ place → Contains order place → ⊥
past_last order numbers place are past = has_number order numbers place are (beyond numbers place past)
  where
    beyond : (xs : List (Option ℕ)) (k : ℕ) → length xs ≤ k → number_in xs k ≡ None
    beyond [] k h = refl
    beyond (x ∷ xs) zero h = absurd (omega (arith, h))
    beyond (x ∷ xs) (suc k) h = beyond xs k (omega (arith, h))

pub if_none : (found : Option ℕ) (P : Type 0) → (found ≡ None → P) → IfNone found P
if_none None P none = none refl
if_none (Some number) P none = tt
