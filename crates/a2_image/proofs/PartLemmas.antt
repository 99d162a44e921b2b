-- A part of a list that is written over, and the other parts.
use Rattle.std.proofs.Common.{◌≡◌, ℕ, ◌+◌, ◌-◌, ◌≤◌, List, take, drop, sym, ◌∙◌, ap, arith, ⊎_elim, length, ◌++◌, length-drop}
use Rattle.std.specs.Prelude.{slice_range, ◌⊎◌}
use Rattle.std.proofs.lemmas.List.{take-take, drop-drop, drop-take, take-append-drop, take_all}

-- two lists with one front have the same parts there
front_kept : (old new : List ℕ) (at from till : ℕ) → from ≤ till → take at new ≡ take at old → till ≤ at → slice_range new from till ≡ slice_range old from till
front_kept old new at from till order same within =
    let size : from + (till - from) ≡ till = omega arith in
    let front : (xs : List ℕ) → take (till - from) (drop from xs) ≡ drop from (take till (take at xs)) =
    λ xs. sym (drop-take from (till - from) xs) ∙ ap (λ n. drop from (take n xs)) size ∙ ap (drop from) (sym (take-take till at xs within)) in
    front new ∙ ap (λ xs. drop from (take till xs)) same ∙ sym (front old)

-- two lists with one rest have the same parts there
rest_kept : (old new : List ℕ) (at from till : ℕ) → drop at new ≡ drop at old → at ≤ from → slice_range new from till ≡ slice_range old from till
rest_kept old new at from till same beyond =
    let further : at + (from - at) ≡ from = omega arith in
    let rest : (xs : List ℕ) → drop from xs ≡ drop (from - at) (drop at xs) =
    λ xs. ap (λ n. drop n xs) (sym further) ∙ sym (drop-drop (from - at) at xs) in
    ap (take (till - from)) (rest new ∙ ap (drop (from - at)) same ∙ sym (rest old))

-- lists that differ between two places alone
pub part_kept : (old new : List ℕ) (start end from till : ℕ) → from ≤ till → take start new ≡ take start old → drop end new ≡ drop end old
    → (till ≤ start) ⊎ (end ≤ from) → slice_range new from till ≡ slice_range old from till
part_kept old new start end from till order front rest apart = ⊎_elim
    (λ before. front_kept old new start from till order front before)
    (λ behind. rest_kept old new end from till rest behind)
    apart

-- two halves of 512 bytes
pub halves_joined : (xs : List ℕ) → length xs ≡ 512 → xs ≡ slice_range xs 0 256 ++ slice_range xs 256 512
halves_joined xs long = sym (take-append-drop 256 xs) ∙ ap (λ rear. take 256 xs ++ rear) (sym (take_all 256 (drop 256 xs) (omega (arith, long, length-drop 256 xs))))

pub rear_half : (xs : List ℕ) → length xs ≡ 512 → slice_range xs 256 512 ≡ drop 256 xs
rear_half xs long = take_all 256 (drop 256 xs) (omega (arith, long, length-drop 256 xs))
