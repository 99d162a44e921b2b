-- Two writes, as they are kept.
use Rattle.std.specs.Prelude.{◌≡◌, ◌<◌, ℕ, false, List, [], ◌∷◌, ◌++◌, All}
use Rattle.std.proofs.Common.{refl, sym, ◌∙◌, ap, subst, cond}
use Rattle.std.proofs.lemmas.List.Elements.{All-nil, All-cons}
use Rattle.a2_device.specs.Device.{unit_at}
use Rattle.vol_format.specs.Directory.{Directory, map_place}
use Rattle.vol_format.specs.Laws.{IsDirectory}
use Rattle.vol_format.specs.Meaning.{Meaning}
use Rattle.vol_laws.specs.Markings.{marking_write}
use Rattle.edit_formats.specs.declared.writes.Prepared.{Prepared}
use Rattle.edit_formats.specs.Markings.{marked_in}
use Rattle.edit_formats.specs.lemmas.Numbers.{same_number}

module _ {A : Type 0} (first second : Prepared A) (one all : List (Prepared A)) (alone : one ≡ first ∷ []) (behind : all ≡ one ++ second ∷ []) where
  pub are_two : all ≡ first ∷ second ∷ []
  are_two = behind ∙ ap (λ (l : List (Prepared A)). l ++ second ∷ []) alone

  pub all_two : (P : Prepared A → Type 0) → P first → P second → All P all
  all_two P here there = subst (All P) (sym are_two) (All-cons P first (second ∷ []) here (All-cons P second [] there (All-nil P)))

-- the mark of one place, in its unit of the map
pub one_mark : (format : Meaning) (directory : Directory) (store : List (List ℕ)) (place at : ℕ) → at ≡ map_place directory place
    → marking_write format false store (record { at = at; places = marked_in directory at (place ∷ []) })
    ≡ record { place = map_place directory place; unit = format.with_free (unit_at store (map_place directory place)) place false }
one_mark format directory store place at is =
    ap (λ n. marking_write format false store (record { at = n; places = marked_in directory n (place ∷ []) })) is
    ∙ ap (λ b. marking_write format false store (record { at = map_place directory place; places = cond b (place ∷ []) [] })) (same_number (map_place directory place) (map_place directory place) refl)

-- the unit of the map with the mark of a place is one of the volume
pub mark_below : (format : Meaning) (directory : Directory) → IsDirectory format directory → (place at count : ℕ) → directory.places ≡ count → place < count
    → at ≡ map_place directory place → at < count
mark_below format directory is place at count same below here =
    subst (λ n. n < count) (sym here) (subst (λ n. map_place directory place < n) same (is.map_below place (subst (λ n. place < n) (sym same) below)))
