-- Of a list in rising order of numbers, the elements of one number are a run.
use Rattle.std.specs.Prelude.{◌≡◌, ◌<◌, ◌≤◌, ◌+◌, ◌==◌, ℕ, suc, Bool, true, false, List, [], ◌∷◌, ◌++◌, length, filter, take, drop, ltb, leb, if◌then◌else◌}
use Rattle.std.specs.List.Sorted.{IsPartitionPoint}
use Rattle.std.proofs.Common.{refl, sym, ◌∙◌, ap, arith, get_or}
use Rattle.std.proofs.lemmas.Bool.{ltb-true, ltb-false, leb-true, leb-false}
use Rattle.std.proofs.lemmas.Bool.Decides.{nat_tests}
use Rattle.std.proofs.lemmas.List.{append-nil, take-append-drop, length-take, length-drop, get_or-take, get_or-drop}
use Rattle.std.proofs.lemmas.List.Elements.{filter-append}
use Rattle.a2_device.specs.declared.part.Part.{Part}
use Rattle.file_cmds.specs.EachFile.{StandWithin}

module _ {X : Type 0} (p : X → Bool) where
  none_pass : (xs : List X) → ((k : ℕ) (d : X) → k < length xs → p (get_or xs k d) ≡ false) → filter p xs ≡ []
  none_pass [] none = refl
  none_pass (x ∷ xs) none = by_test (none_pass xs (λ k d within. none (suc k) d (omega (arith, within)))) (p x) (none 0 x (omega arith))
    where
      by_test : filter p xs ≡ [] → (b : Bool) → b ≡ false → (if b then x ∷ filter p xs else filter p xs) ≡ []
      by_test rest true is = absurd (cc)
      by_test rest false is = rest

  all_pass : (xs : List X) → ((k : ℕ) (d : X) → k < length xs → p (get_or xs k d) ≡ true) → filter p xs ≡ xs
  all_pass [] all = refl
  all_pass (x ∷ xs) all = by_test (all_pass xs (λ k d within. all (suc k) d (omega (arith, within)))) (p x) (all 0 x (omega arith))
    where
      by_test : filter p xs ≡ xs → (b : Bool) → b ≡ true → (if b then x ∷ filter p xs else filter p xs) ≡ x ∷ xs
      by_test rest true is = ap (λ (more : List X). x ∷ more) rest
      by_test rest false is = absurd (cc)

module _ {X : Type 0} (n : X → ℕ) (number : ℕ) (xs : List X) (start count : ℕ) where
  abbrev later : List X
  later = drop start xs

  abbrev is_of : X → Bool
  is_of x = n x == number

  -- between the first that is not less, and from there the first that is greater
  pub run_of : IsPartitionPoint (λ x. ltb (n x) number ≡ true) (λ x. ltb (n x) number ≡ false) xs start
      → IsPartitionPoint (λ x. leb (n x) number ≡ true) (λ x. leb (n x) number ≡ false) later count → filter is_of xs ≡ take count later
  run_of low high =
      ap (filter is_of) (sym (take-append-drop start xs))
      ∙ filter-append is_of (take start xs) later
      ∙ ap (λ (front : List X). front ++ filter is_of later) (none_pass is_of (take start xs) before)
      ∙ ap (filter is_of) (sym (take-append-drop count later))
      ∙ filter-append is_of (take count later) (drop count later)
      ∙ ap (λ (front : List X). front ++ filter is_of (drop count later)) (all_pass is_of (take count later) here)
      ∙ ap (λ (rest : List X). take count later ++ rest) (none_pass is_of (drop count later) behind)
      ∙ append-nil (take count later)
    where
      before : (k : ℕ) (d : X) → k < length (take start xs) → is_of (get_or (take start xs) k d) ≡ false
      before k d within =
          let inside : k < start = omega (arith, within, length-take start xs) in
          let less : n (get_or xs k d) < number = ltb-true (n (get_or xs k d)) number (low.0 k d (omega arith) inside) in
          let at = ap n (get_or-take start xs k d inside) in
          grind (arith, nat_tests, less, at)

      here : (k : ℕ) (d : X) → k < length (take count later) → is_of (get_or (take count later) k d) ≡ true
      here k d within =
          let inside : k < count = omega (arith, within, length-take count later) in
          let fits : start + k < length xs = omega (arith, within, length-take count later, length-drop start xs) in
          let at_most : n (get_or later k d) ≤ number = leb-true (n (get_or later k d)) number (high.0 k d (omega arith) inside) in
          let at_least : number ≤ n (get_or xs (start + k) d) = ltb-false (n (get_or xs (start + k) d)) number (low.1 (start + k) d (omega arith) fits) in
          let at = ap n (get_or-take count later k d inside) in
          let same = ap n (get_or-drop start xs k d) in
          let equal : n (get_or (take count later) k d) ≡ number = omega (arith, at_most, at_least, at, same) in
          grind (arith, nat_tests, equal)

      behind : (k : ℕ) (d : X) → k < length (drop count later) → is_of (get_or (drop count later) k d) ≡ false
      behind k d within =
          let inside : count + k < length later = omega (arith, within, length-drop count later) in
          let more : number < n (get_or later (count + k) d) = leb-false (n (get_or later (count + k) d)) number (high.1 (count + k) d (omega arith) inside) in
          let at = ap n (get_or-drop count later k d) in
          grind (arith, nat_tests, more, at)

-- what stands within some places does so in part
pub run_within : (places start count : ℕ) (parts : List Part) → StandWithin places parts → StandWithin places (take count (drop start parts))
run_within places start count parts within k d inside =
    let low : k < count = omega (arith, inside, length-take count (drop start parts)) in
    let fits : start + k < length parts = omega (arith, inside, length-take count (drop start parts), length-drop start parts) in
    let place = within (start + k) d fits in
    let at = ap (λ (part : Part). part.place) (get_or-take count (drop start parts) k d low ∙ get_or-drop start parts k d) in
    omega (arith, place, at)
