-- The places of numbers.
use Rattle.std.specs.Prelude.{◌≡◌, ◌<◌, ℕ, suc, zero, List, [], ◌∷◌, length, slice_get, slice_index, Some, None}
use Rattle.std.proofs.lemmas.List.{get_or_default}
use Rattle.std.proofs.lemmas.Option.{slice_get-get_or}
use Rattle.std.proofs.Common.{sym, ◌∙◌}
use Rattle.vol_format.specs.Directory.{Directory}
use Rattle.vol_format.specs.Laws.{IsDirectory}
use Rattle.vol_format.specs.Meaning.{Meaning}
use Rattle.vol_mover.specs.Tasks.{place_of}

pub get_some : (xs : List ℕ) (k x : ℕ) → slice_get xs k ≡ Some x → x ≡ slice_index xs k
get_some [] k x e = absurd (cc)
get_some (y ∷ ys) zero x e = cc
get_some (y ∷ ys) (suc k) x e = get_some ys k x e

pub none_within : (xs : List ℕ) (k : ℕ) → k < length xs → slice_get xs k ≡ None → ⊥
none_within xs k within none = let some = slice_get-get_or xs k 0 within in cc

module _ (format : Meaning) (directory : Directory) (is : IsDirectory format directory) (number place : ℕ) (inside : number < length directory.available)
    (place_is : place ≡ place_of directory number) where
  pub place_inside : place < directory.places
  place_inside = ((is.available_of place).0 (number, inside, get_or_default directory.available number place 0 inside ∙ sym place_is)).0

  pub can_name : format.CanName directory.places place
  can_name = is.available_named place (number, inside, get_or_default directory.available number place 0 inside ∙ sym place_is)
