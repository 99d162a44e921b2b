-- The ways to read an image, one after another.
use Rattle.std.proofs.Common.{◌≡◌, ◌∙◌, ◌<◌, ◌+◌, ap, sym, refl, subst, true, false, cond, Bool, ℕ, List, [], ◌∷◌, ◌++◌, length, map, filter, take, get_or}
use Rattle.std.specs.Prelude.{All}
use Rattle.std.proofs.lemmas.List.Elements.{All-nil, All-cons, All-push}
use Rattle.std.proofs.lemmas.List.{take_more, map-append}
use Rattle.a2_device.specs.declared.order.Order.{Order}
use Rattle.shop_jobs.specs.declared.input.FileSystem.{FileSystem}
use Rattle.image_readings.specs.declared.reading.Reading.{Reading}
use Rattle.image_readings.specs.Adding.{Adds}
use Rattle.image_readings.specs.IdentifyReply.{allows, way_of}
use Rattle.image_readings.specs.Readings.{IsReadingOf}

-- what is left of a list by a test passes it
passes : {X : Type 0} (p : X → Bool) (xs : List X) → All (λ x. p x ≡ true) (filter p xs)
passes p [] = All-nil (λ x. p x ≡ true)
passes p (x ∷ xs) = by_test (p x) refl (passes p xs)
  where
    by_test : (b : Bool) → p x ≡ b → All (λ x. p x ≡ true) (filter p xs) → All (λ x. p x ≡ true) (cond b (x ∷ filter p xs) (filter p xs))
    by_test true is rest = All-cons (λ x. p x ≡ true) x (filter p xs) is rest
    by_test false is rest = rest

-- each of the ways that the length of an image allows is allowed
pub each_allowed : (image : List ℕ) (bytes : ℕ) (ways allowed : List (FileSystem × Order)) (n : ℕ) (d : FileSystem × Order) → bytes ≡ length image
    → allowed ≡ filter (allows bytes) ways → n < length allowed → allows (length image) (get_or allowed n d) ≡ true
each_allowed image bytes ways allowed n d long are within =
    subst (λ b. allows b (get_or allowed n d) ≡ true) long
    (subst (All (λ way. allows bytes way ≡ true)) (sym are) (passes (allows bytes) ways) n d within)

-- the readings in the first so many of these ways
abbrev pub AreFirst : List (FileSystem × Order) → List ℕ → List Reading → ℕ → Type 0
AreFirst ways image readings n = record {
  in_order : map way_of readings ≡ take n ways;
  each : All (IsReadingOf image) readings;
}

pub one_more : (ways : List (FileSystem × Order)) (image : List ℕ) (old new : List Reading) (n : ℕ) (d : FileSystem × Order) → n < length ways
    → AreFirst ways image old n → Adds image (get_or ways n d) old new → AreFirst ways image new (n + 1)
one_more ways image old new n d within first adds = record {
  in_order = adds.in_order ∙ ap (λ front. front ++ get_or ways n d ∷ []) first.in_order ∙ sym (take_more ways n d within);
  each = adds.each first.each;
}

-- a reading was added
pub added : (image : List ℕ) (way : FileSystem × Order) (old new : List Reading) (reading : Reading) → way_of reading ≡ way
    → IsReadingOf image reading → new ≡ old ++ reading ∷ [] → Adds image way old new
added image way old new reading same found is = record {
  in_order = ap (map way_of) is ∙ map-append way_of old (reading ∷ []) ∙ ap (λ last. map way_of old ++ last ∷ []) same;
  each = λ before. subst (All (IsReadingOf image)) (sym is) (All-push (IsReadingOf image) old reading before found);
}
