-- The search for the first number that stands before in its list.
use Rattle.std.proofs.Common.{◌≡◌, ◌≢◌, ℕ, ◌+◌, ◌<◌, ◌≤◌, true, false, eqb, List, [], ◌∷◌, ◌++◌, ◌||◌, length, get_or, take, arith, sym, ap, ◌∙◌, subst, drop, Option, None, Some, MatchOption}
use Rattle.std.specs.List.{concat}
use Rattle.std.proofs.lemmas.List.{get_or_default, get_or-append-add, get_or_append_left, take-append-le, take-append-drop, take_more, append-nil, length-append}
use Rattle.std.proofs.lemmas.List.Quantifiers.{all_pairs_push}
use Rattle.std.proofs.Math.Seq.{take-append-add}
use Rattle.std.proofs.Math.Bool.{or-false}
use Rattle.std.proofs.lemmas.List.Folds.{list_any-append, concat-append}
use Rattle.std.proofs.lemmas.Bool.{both_ways}
use Rattle.vol_layout.specs.Layouts.{AreDistinct}
use Rattle.vol_layout.proofs.Lists.{Contains-has, has-Contains}
use Rattle.ring_cert.specs.declared.seen.Seen.{Seen}
use Rattle.ring_cert.specs.Seen.{HasMet, is_seen}
use Rattle.ring_cert.specs.Good.{IsFirstRepeat}

-- one more number, not met before
pub HasMet-push :
    {A : Type 0} (s n : Seen A) (numbers : List ℕ) (x : ℕ) → HasMet s numbers → is_seen s x ≡ false
    → ((k : ℕ) → is_seen n k ≡ (is_seen s k || eqb x k)) → HasMet n (numbers ++ x ∷ [])
HasMet-push s n numbers x met new grown =
    record {
      seen = λ k.
          let more = grown k in
          let before = met.seen k in
          let after = list_any-append (λ y. eqb y k) numbers (x ∷ []) in
          let last = or-false (eqb x k) in
          cc;
      distinct = all_pairs_push (λ a b. a ≢ b) numbers x met.distinct
          (λ i d h e.
          both_ways (is_seen s x) new
          (met.seen x ∙ has-Contains x numbers (i, h, get_or_default numbers i x d h ∙ e)));
    }

-- a number that was met stands before
pub IsFirstRepeat-met :
    {A : Type 0} (s : Seen A) (front xs : List ℕ) (i x : ℕ) → HasMet s (front ++ take i xs) → i < length xs → x ≡ get_or xs i 0
    → is_seen s x ≡ true → IsFirstRepeat (front ++ xs) x
IsFirstRepeat-met s front xs i x met within is seen =
    let same = take-append-add front xs i in
    record {
      index = length front + i;
      within = omega (arith, length-append front xs);
      is = get_or-append-add front xs i 0 ∙ sym is;
      before = rw same met.distinct;
      again = rw same (Contains-has x (front ++ take i xs) (sym (met.seen x) ∙ seen));
    }

pub IsFirstRepeat-append : (xs ys : List ℕ) (x : ℕ) → IsFirstRepeat xs x → IsFirstRepeat (xs ++ ys) x
IsFirstRepeat-append xs ys x first =
    let within = first.within in
    let most : first.index ≤ length xs = omega arith in
    let same : take first.index (xs ++ ys) ≡ take first.index xs = take-append-le first.index xs ys most in
    record {
      index = first.index;
      within = omega (arith, length-append xs ys);
      is = get_or_append_left xs ys 0 first.index within ∙ first.is;
      before = rw same first.before;
      again = rw same first.again;
    }

-- one more list
pub concat_more : (lists : List (List ℕ)) (i : ℕ) (d : List ℕ) → i < length lists → concat (take (i + 1) lists) ≡ concat (take i lists) ++ get_or lists i d
concat_more lists i d h =
    ap concat (take_more lists i d h) ∙ (concat-append (take i lists) (get_or lists i d ∷ []) ∙ ap (λ xs. concat (take i lists) ++ xs) (append-nil (get_or lists i d)))

-- all lists are the first ones, and others behind
pub IsFirstRepeat-over : (lists : List (List ℕ)) (i x : ℕ) → IsFirstRepeat (concat (take i lists)) x → IsFirstRepeat (concat lists) x
IsFirstRepeat-over lists i x first =
    subst (λ xs. IsFirstRepeat xs x) (sym (concat-append (take i lists) (drop i lists)) ∙ ap concat (take-append-drop i lists))
    (IsFirstRepeat-append (concat (take i lists)) (concat (drop i lists)) x first)

-- what a search through a whole list tells
pub repeat_told :
    {A : Type 0} (s : Seen A) (numbers : List ℕ) (found : Option ℕ)
    → MatchOption found (HasMet s numbers) (IsFirstRepeat numbers) → MatchOption found (AreDistinct numbers) (IsFirstRepeat numbers)
repeat_told s numbers None told = told.distinct
repeat_told s numbers (Some x) told = told
