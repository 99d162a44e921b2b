-- What was made of which item.
use Rattle.std.proofs.Common.{◌≡◌, ◌<◌, ◌⊎◌, ℕ, suc, zero, true, List, [], ◌∷◌, length, refl, arith, inl, inr}
use Rattle.std.specs.Prelude.{Contains}
use Rattle.std.proofs.lemmas.List.Elements.{Contains-append_cases, Contains-append_left, Contains-append_right}
use Rattle.folder_adding.specs.HostPaths.{Text}
use Rattle.host_folders.specs.Folder.{Made, file, folder as made_folder}
use Rattle.host_folders.specs.HostNames.{text_beside}
use Rattle.volume_extract.specs.ExtractText.{has_text, is_file, is_folder}
use Rattle.volume_extract.specs.Items.{Found, Item, found_both, found_file, found_folder, found_text, found_unread, item_at, made_by, made_in, made_of}

pub made_at : (items : List Item) (one : Made) → Contains (made_in items) one → (number : ℕ) × (number < length items) × Contains (made_of (item_at items number)) one
made_at [] one has = absurd (omega (arith, has.1))
made_at (item ∷ items) one has = elim (Contains-append_cases (made_of item) (made_in items) one has) [
  | inl first ↦ (0, omega arith, first)
  | inr behind ↦ let rest = made_at items one behind in (suc rest.0, omega (arith, rest.1), rest.2)
]

pub at_made : (items : List Item) (number : ℕ) (one : Made) → number < length items → Contains (made_of (item_at items number)) one → Contains (made_in items) one
at_made [] number one inside has = absurd (omega (arith, inside))
at_made (item ∷ items) zero one inside has = Contains-append_left (made_of item) (made_in items) one has
at_made (item ∷ items) (suc number) one inside has =
    Contains-append_right (made_of item) (made_in items) one (at_made items number one (omega (arith, inside)) has)

pub only : (x y : Made) → Contains (x ∷ []) y → x ≡ y
only x y (zero, low, is) = is
only x y (suc k, low, is) = absurd (omega (arith, low))

pub either : (x y z : Made) → Contains (x ∷ y ∷ []) z → (x ≡ z) ⊎ (y ≡ z)
either x y z (zero, low, is) = inl is
either x y z (suc zero, low, is) = inr is
either x y z (suc (suc k), low, is) = absurd (omega (arith, low))

-- of a file that was read its bytes are put into a file
pub file_made : (host : Text) (found : Found) → is_file found ≡ true → (bytes : List ℕ) × Contains (made_by host found) (file host bytes)
file_made host found_folder read = absurd cc
file_made host (found_file bytes) read = (bytes, (0, omega arith, refl))
file_made host (found_both bytes text) read = (bytes, (0, omega arith, refl))
file_made host (found_text text) read = absurd cc
file_made host found_unread read = absurd cc

-- its readable form is put into the file beside that
pub form_made : (host : Text) (found : Found) → is_file found ≡ true → has_text found ≡ true
    → (text : List ℕ) × Contains (made_by host found) (file (text_beside host) text)
form_made host found_folder read has = absurd cc
form_made host (found_file bytes) read has = absurd cc
form_made host (found_both bytes text) read has = (text, (1, omega arith, refl))
form_made host (found_text text) read has = absurd cc
form_made host found_unread read has = absurd cc

-- of a directory a folder is made
pub folder_made : (host : Text) (found : Found) → is_folder found ≡ true → Contains (made_by host found) (made_folder host)
folder_made host found_folder led = (0, omega arith, refl)
folder_made host (found_file bytes) led = absurd cc
folder_made host (found_both bytes text) led = absurd cc
folder_made host (found_text text) led = absurd cc
folder_made host found_unread led = absurd cc
