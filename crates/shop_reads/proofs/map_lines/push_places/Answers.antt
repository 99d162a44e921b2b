use Rattle.std.proofs.Common.{◌≡◌, ◌∙◌, ◌+◌, ◌<◌, ℕ, List, [], ◌∷◌, ◌++◌, append_assoc, length, get_or, map, take, ap, string_bytes, sym}
use Rattle.std.proofs.lemmas.List.{map_more}
use Rattle.shop_reads.specs.MapText.{character_of}
use Rattle.shop_reads.specs.declared.place_state.PlaceState.{PlaceState}
use Rattle.shop_reads.specs.declared.place_state.PlaceState.TheVariants as states
use Rattle.shop_reads.proofs.map_lines.push_places.Goals as goal

character_more : (places : List PlaceState) (start now new : List ℕ) (i character : ℕ) → i < length places → now ≡ start ++ map character_of (take i places)
    → character ≡ character_of (get_or places i states.System) → new ≡ now ++ character ∷ [] → new ≡ start ++ map character_of (take (i + 1) places)
character_more places start now new i character below is of more =
    more ∙ ap (λ (t : List ℕ). t ++ character ∷ []) is ∙ append_assoc start (map character_of (take i places)) (character ∷ [])
    ∙ ap (λ (n : ℕ). start ++ (map character_of (take i places) ++ n ∷ [])) of
    ∙ ap (λ (t : List ℕ). start ++ t) (sym (map_more character_of places i states.System below))

pub loop-state-preserved : goal.loop-state-preserved
loop-state-preserved c =
    character_more c.args.places.now (string_bytes c.args.text.now) (string_bytes c.loop-state.text) (string_bytes c.push.new.self) c.loop-state.state-index c.character.result
    c.loop-state-test.true c.loop-state.invariant c.character.ensures.value
    (c.in_ok-push.ensures.bytes ∙ ap (λ (t : List ℕ). string_bytes c.loop-state.text ++ t) (c.in_ok-push.ensures.ascii c.character.ensures.ascii))
