-- The bytes of the items of a plan.
use Rattle.std.proofs.Common.{◌≡◌, ◌<◌, ◌∙◌, ℕ, true, List, length, refl, sym, ap, arith, inl, inr}
use Rattle.std.specs.Prelude.{Contains}
use Rattle.std.proofs.lemmas.Option.{get_or_from_slice_get}
use Rattle.folder_adding.specs.Plan.{PlanView}
use Rattle.folder_adding.specs.Verdicts.{AddedFolder}
use Rattle.host_folders.specs.Folder.{file, folder as made_folder}
use Rattle.host_folders.specs.HostNames.{text_beside}
use Rattle.round_trip.specs.Extracted.{Extracted, IsExtracted, item_in}
use Rattle.round_trip.specs.Whole.{AreBodies, HoldWhatWasMade, body_of}
use Rattle.round_trip.proofs.Forms.{no_text_alone}
use Rattle.round_trip.proofs.Made.{either, made_at, only}
use Rattle.round_trip.proofs.Own.{no_form, same_number}
use Rattle.volume_extract.specs.ExtractText.{is_file}
use Rattle.volume_extract.specs.Items.{Found, found_both, found_file, found_folder, found_text, found_unread, made_by, made_in}

module _ (e : Extracted) (is : IsExtracted e) (number : ℕ) (inside : number < length e.items) (read : is_file (item_in e number).found ≡ true)
    (bytes : List ℕ) where
  -- bytes that were put into the file of another item, whose path is the same
  put_there : (other : ℕ) → other < length e.items → (found : Found) → (item_in e other).found ≡ found → (put : List ℕ)
      → file (item_in e other).host put ≡ file (item_in e number).host bytes → body_of found ≡ put
      → bytes ≡ body_of (item_in e number).found
  put_there other low found same put is_put body =
      let hosts : (item_in e other).host ≡ (item_in e number).host = cc in
      let all : put ≡ bytes = cc in
      let one = same_number e is other number low inside hosts in
      sym all ∙ sym body ∙ ap body_of (sym same) ∙ ap (λ (n : ℕ). body_of (item_in e n).found) one

  by_found : (other : ℕ) → other < length e.items → (found : Found) → (item_in e other).found ≡ found
      → Contains (made_by (item_in e other).host found) (file (item_in e number).host bytes) → bytes ≡ body_of (item_in e number).found
  by_found other low found_folder same has =
      let differ : made_folder (item_in e other).host ≡ file (item_in e number).host bytes = only _ _ has in absurd cc
  by_found other low (found_file put) same has = put_there other low (found_file put) same put (only _ _ has) refl
  by_found other low (found_both put text) same has = elim (either _ _ _ has) [
    | inl first ↦ put_there other low (found_both put text) same put first refl
    | inr second ↦
        let paths : text_beside (item_in e other).host ≡ (item_in e number).host = cc in
        absurd (no_form e is other number low inside (ap is_file same) read paths)
  ]
  by_found other low (found_text text) same has = absurd (no_text_alone e is other low text same)
  by_found other low found_unread same has = absurd (omega (arith, has.1))

  body_is : Contains (made_in e.items) (file (item_in e number).host bytes) → bytes ≡ body_of (item_in e number).found
  body_is has =
      let at = made_at e.items (file (item_in e number).host bytes) has in
      by_found at.0 at.1 (item_in e at.0).found refl at.2

pub bodies : (e : Extracted) (folder : AddedFolder) (plan : PlanView) (contents : ℕ → List ℕ) → IsExtracted e
    → HoldWhatWasMade (made_in e.items) folder.entries contents → AreBodies folder e plan contents
bodies e folder plan contents is hold = λ place number at.
    ap contents (get_or_from_slice_get plan.files place at.entry.number 0 at.entry.numbered)
    ∙ body_is e is number at.of.0 at.of.1 (contents at.entry.number) (hold at.entry.number (item_in e number).host at.entry.there)
