-- Which parts the lists have.
use Rattle.std.proofs.Common.{◌≡◌, ◌<◌, ◌≤◌, ◌+◌, ◌-◌, ℕ, zero, suc, Bool, true, false, cond, List, [], ◌∷◌, length, refl, sym, ◌∙◌, ap, subst, arith, inl, inr}
use Rattle.std.specs.Prelude.{filter, flat_map}
use Rattle.std.specs.List.{All, Contains, range_with_len}
use Rattle.std.proofs.lemmas.Bool.{cases_eq, cases_lt}
use Rattle.std.proofs.lemmas.List.{get_or_past}
use Rattle.std.proofs.lemmas.List.Elements.{All-nil, All-cons, All-append, All-head, All-tail, Contains-append_left, Contains-append_right}
use Rattle.std.proofs.lemmas.List.Folds.{list_any_at}
use Rattle.std.proofs.lemmas.List.FromFn.{length-range_with_len, get_or-range_with_len}
use Rattle.a2_device.specs.declared.part.PartKind.TheVariants.{Body}
use Rattle.edit_formats.specs.declared.new_part.NewPart.{NewPart}
use Rattle.edit_formats.specs.Parts.{any_stored, bodies, is_stored, new_part}

-- a unit that is stored is one of the file's
pub inside_file : (stored : List Bool) (number : ℕ) → is_stored stored number ≡ true → number < length stored
inside_file stored number is = elim (cases_lt number (length stored)) [
  | inl within ↦ within
  | inr past ↦ absurd (let none = get_or_past stored number false past in cc)
]

-- what holds of each unit that is stored
pub each_body : (P : NewPart → Type 0) (stored : List Bool) (first count : ℕ) → ((number : ℕ) → is_stored stored number ≡ true → P (new_part Body number)) → All P (bodies stored first count)
unfolding bodies
each_body P stored first zero each = All-nil P
each_body P stored first (suc count) each = by_test (is_stored stored first) refl (each_body P stored (first + 1) count each)
  where
    by_test : (b : Bool) → is_stored stored first ≡ b → All P (bodies stored (first + 1) count)
        → All P (cond b (new_part Body first ∷ bodies stored (first + 1) count) (bodies stored (first + 1) count))
    by_test true is rest = All-cons P (new_part Body first) (bodies stored (first + 1) count) (each first is) rest
    by_test false is rest = rest

pub each_flat : (P : NewPart → Type 0) (f : ℕ → List NewPart) (numbers : List ℕ) → All (λ number. All P (f number)) numbers → All P (flat_map f numbers)
each_flat P f [] each = All-nil P
each_flat P f (number ∷ numbers) each =
    All-append P (f number) (flat_map f numbers) (All-head (λ n. All P (f n)) number numbers each) (each_flat P f numbers (All-tail (λ n. All P (f n)) number numbers each))

pub each_number : (P : ℕ → Type 0) (count : ℕ) → ((number : ℕ) → number < count → P number) → All P (range_with_len 0 count)
each_number P count each k d within =
    let inside : k < count = omega (arith, within, length-range_with_len 0 count) in
    subst P (sym (get_or-range_with_len 0 count k d inside)) (each (0 + k) (omega (arith, inside)))

in_front : {X : Type 0} (x : X) (xs : List X) (y : X) → Contains xs y → Contains (x ∷ xs) y
in_front x xs y has = (suc has.0, omega (arith, has.1), has.2)

-- a unit that is stored is there
pub in_bodies : (stored : List Bool) (number : ℕ) → is_stored stored number ≡ true → (first count : ℕ) → first ≤ number → number < first + count
    → Contains (bodies stored first count) (new_part Body number)
unfolding bodies
in_bodies stored number is first zero low high = absurd (omega (arith, low, high))
in_bodies stored number is first (suc count) low high = elim (cases_eq first number) [
  | inl same ↦
      let here : is_stored stored first ≡ true = ap (is_stored stored) same ∙ is in
      subst (λ b. Contains (cond b (new_part Body first ∷ bodies stored (first + 1) count) (bodies stored (first + 1) count)) (new_part Body number)) (sym here)
      (0, omega arith, ap (new_part Body) same)
  | inr apart ↦ by_test (is_stored stored first) (in_bodies stored number is (first + 1) count (omega (arith, low, apart)) (omega (arith, high)))
]
  where
    by_test : (b : Bool) → Contains (bodies stored (first + 1) count) (new_part Body number)
        → Contains (cond b (new_part Body first ∷ bodies stored (first + 1) count) (bodies stored (first + 1) count)) (new_part Body number)
    by_test true later = in_front (new_part Body first) (bodies stored (first + 1) count) (new_part Body number) later
    by_test false later = later

-- what a number of a range, which passes a test, gives is there
module _ (f : ℕ → List NewPart) (p : ℕ → Bool) (number : ℕ) (part : NewPart) (has : Contains (f number) part) (passes : p number ≡ true) where
  pub in_flat : (first count : ℕ) → first ≤ number → number < first + count → Contains (flat_map f (filter p (range_with_len first count))) part
  in_flat first zero low high = absurd (omega (arith, low, high))
  in_flat first (suc count) low high = elim (cases_eq first number) [
    | inl same ↦
        let here : p first ≡ true = ap p same ∙ passes in
        subst (λ b. Contains (flat_map f (cond b (first ∷ rest) rest)) part) (sym here) (Contains-append_left (f first) (flat_map f rest) part (subst (λ n. Contains (f n) part) (sym same) has))
    | inr apart ↦ by_test (p first) (in_flat (first + 1) count (omega (arith, low, apart)) (omega (arith, high)))
  ]
    where
      rest : List ℕ
      rest = filter p (range_with_len (first + 1) count)

      by_test : (b : Bool) → Contains (flat_map f rest) part → Contains (flat_map f (cond b (first ∷ rest) rest)) part
      by_test true later = Contains-append_right (f first) (flat_map f rest) part later
      by_test false later = later

pub all_pass : (numbers : List ℕ) → filter (λ number. true) numbers ≡ numbers
all_pass [] = refl
all_pass (number ∷ numbers) = ap (λ l. number ∷ l) (all_pass numbers)

-- one of some units is stored
pub any_of : (stored : List Bool) (number first count : ℕ) → is_stored stored number ≡ true → first ≤ number → number < first + count → any_stored stored first count ≡ true
unfolding any_stored
any_of stored number first count is low high =
    let inside : number - first < count = omega (arith, low, high) in
    let back : first + (number - first) ≡ number = omega (arith, low) in
    list_any_at (is_stored stored) (range_with_len first count) (number - first) 0 (omega (arith, inside, length-range_with_len first count))
    (ap (is_stored stored) (get_or-range_with_len first count (number - first) 0 inside ∙ back) ∙ is)
