-- Places as words: a track and a sector stand on either side of the first slash, and each word has its place.
use Rattle.std.proofs.Common.{◌≡◌, ℕ, suc, ◌+◌, ◌/◌, ◌%◌, ◌<◌, lit<, List, [], ◌∷◌, ◌++◌, length, get_or, map, take, Option, Bor, arith, sym, ap, ◌∙◌}
use Rattle.std.specs.Option.{MatchOption}
use Rattle.std.specs.Fmt.{decimal}
use Rattle.std.proofs.Math.Seq.{take-suc}
use Rattle.std.proofs.lemmas.Str.Pattern.{IsSplitOnceResult, split_after}
use Rattle.std.proofs.lemmas.Str.Parse.{not_in_digits}
use Rattle.std.proofs.lemmas.Fmt.{digits_decimal}
use Rattle.std.proofs.lemmas.List.{get_or-map, length-map, map-append}
use Rattle.std.proofs.lemmas.List.Elements.{All-push, All-get_or}
use Rattle.vol_layout.specs.declared.form.PlaceForm.{PlaceForm}
use Rattle.vol_layout.specs.Reserved.{place_word, places_named}
use Rattle.vol_layout.specs.Words.{ArePlaces}
use Rattle.vol_layout.proofs.Numbers.{own}

-- where a word for a sector is cut at its first slash, its track stands before and its sector behind
pub cut : (word : List ℕ) (place : ℕ) → place < 560 → word ≡ decimal (place / 16) ++ 47 ∷ decimal (place % 16)
    → (r : Option (Bor (List ℕ) × Bor (List ℕ))) → IsSplitOnceResult 47 word r
    → MatchOption r ⊥ (λ x. (x.0.now ≡ decimal (place / 16)) × (x.1.now ≡ decimal (place % 16)))
cut word place within is r splits =
    split_after 47 word (decimal (place / 16)) (decimal (place % 16)) r splits (lit< tt) is
    (not_in_digits own (decimal (place / 16)) 47 (digits_decimal own (place / 16) (omega (arith, within))) (λ digit. omega (arith, digit.0)))

-- words that are lent
module _ (form : PlaceForm) (words : List (Bor (List ℕ))) (i : ℕ) (d : Bor (List ℕ)) (within : i < length words) where
  spelled : List (List ℕ)
  spelled = map (λ (w : Bor (List ℕ)). w.now) words

  word_at : get_or spelled i [] ≡ (get_or words i d).now
  unfolding spelled
  word_at = get_or-map (λ (w : Bor (List ℕ)). w.now) words i d [] within

  inside : i < length spelled
  unfolding spelled
  inside = omega (arith, length-map words (λ (w : Bor (List ℕ)). w.now), within)

  -- one more word that names a place
  pub places_more : (places : List ℕ) (place : ℕ) → ArePlaces form (take i (map (λ (w : Bor (List ℕ)). w.now) words)) places → place < places_named form
      → (get_or words i d).now ≡ place_word form place
      → ArePlaces form (take (i + 1) (map (λ (w : Bor (List ℕ)). w.now) words)) (places ++ place ∷ [])
  unfolding spelled
  places_more places place so_far below is =
      let next : i + 1 ≡ suc i = omega arith in
      let longer : take (i + 1) spelled ≡ take i spelled ++ (get_or spelled i [] ∷ []) = ap (λ n. take n spelled) next ∙ take-suc spelled i [] inside in
      record {
        named = All-push (λ p. p < places_named form) places place so_far.named below;
        spelled = longer ∙ ap (λ ws. ws ++ (get_or spelled i [] ∷ [])) so_far.spelled ∙ ap (λ w. map (place_word form) places ++ w ∷ []) (word_at ∙ is)
            ∙ sym (map-append (place_word form) places (place ∷ []));
      }

  -- a word that names none
  pub names_none : ((place : ℕ) → place < places_named form → (get_or words i d).now ≡ place_word form place → ⊥) → (places : List ℕ)
      → ArePlaces form (map (λ (w : Bor (List ℕ)). w.now) words) places → ⊥
  unfolding spelled
  names_none none places are =
      let within' : i < length places = omega (arith, length-map places (place_word form), ap length are.spelled, inside) in
      none (get_or places i 0) (All-get_or (λ p. p < places_named form) places i 0 within' are.named)
      (sym word_at ∙ ap (λ ws. get_or ws i []) are.spelled ∙ get_or-map (place_word form) places i 0 [] within')
