-- One unit of a bitmap more is read.
use Rattle.std.proofs.Common.{◌≡◌, ◌≢◌, ℕ, ◌+◌, ◌<◌, ◌≤◌, Bool, true, false, List, [], ◌∷◌, ◌++◌, length, get_or, set, take, refl, sym, ◌∙◌, ap, subst, arith}
use Rattle.std.specs.Prelude.{◌==◌}
use Rattle.std.proofs.lemmas.Bool.Decides.{nat_tests}
use Rattle.std.proofs.lemmas.List.{take_more_set, get_or-set_same, get_or-set_other, get_or_default}
use Rattle.std.proofs.lemmas.List.FromFn.{map-range_with_len_more}
use Rattle.std.proofs.Math.Seq.{take-length}
use Rattle.a2_device.specs.Device.{unit_at}
use Rattle.pro_bitmap.specs.Bitmap.{units_in}

pub taken : (store : List (List ℕ)) (first : ℕ) (units : List (List ℕ)) (number : ℕ) (unit : List ℕ) → number < length units
    → take number units ≡ units_in store first number → unit ≡ unit_at store (first + number) → take (number + 1) (set units number unit) ≡ units_in store first (number + 1)
taken store first units number unit within so is =
    take_more_set units number unit within
    ∙ ap (λ us. us ++ unit ∷ []) so
    ∙ ap (λ u. units_in store first number ++ u ∷ []) is
    ∙ sym (map-range_with_len_more (unit_at store) first number (first + number) refl)

-- the unit that is read has the size of the one that was there
pub sized : (units : List (List ℕ)) (number count : ℕ) (unit old : List ℕ) → number < length units → number < count
    → ((i : ℕ) → i < count → length (unit_at units i) ≡ 512) → length unit ≡ length old → old ≡ get_or units number old
    → (i : ℕ) → i < count → length (unit_at (set units number unit) i) ≡ 512
sized units number count unit old within below sizes same was i h = by_place (i == number) refl
  where
    by_place : (b : Bool) → (i == number) ≡ b → length (unit_at (set units number unit) i) ≡ 512
    by_place true is =
        let here : i ≡ number = grind (arith, nat_tests) in
        ap (λ k. length (unit_at (set units number unit) k)) here
        ∙ ap length (get_or-set_same units number unit [] within)
        ∙ same
        ∙ ap length (was ∙ get_or_default units number old [] within)
        ∙ sizes number below
    by_place false is =
        let differ : i ≢ number = grind (arith, nat_tests) in
        ap length (get_or-set_other units number i unit [] differ) ∙ sizes i h

-- all are read
pub all_taken : (store : List (List ℕ)) (first : ℕ) (units : List (List ℕ)) (number count total : ℕ) → length units ≡ count → count ≡ total → count ≤ number → number ≤ count
    → take number units ≡ units_in store first number → units ≡ units_in store first total
all_taken store first units number count total all is over below so =
    let whole : length units ≡ number = omega (arith, all, over, below) in
    let end : number ≡ total = omega (arith, is, over, below) in
    sym (take-length units) ∙ ap (λ n. take n units) whole ∙ so ∙ ap (units_in store first) end
