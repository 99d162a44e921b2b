-- A part of which a copy is made is ready to move.
use Rattle.std.specs.Prelude.{◌≡◌, ◌≢◌, ◌<◌, ℕ, false, List, [], length, slice_set}
use Rattle.std.proofs.Common.{sym, ◌∙◌, ap, subst, inl, inr}
use Rattle.std.proofs.lemmas.List.{get_or-set_same, get_or-set_other}
use Rattle.std.proofs.Math.ListN.{length-set}
use Rattle.a2_device.specs.Device.{unit_at}
use Rattle.a2_device.specs.declared.part.Part.{Part}
use Rattle.vol_format.specs.declared.link.Holder.{Holder}
use Rattle.vol_format.specs.Accepted.{IsAccepted}
use Rattle.vol_format.specs.Directory.{Directory, entry_of, is_system}
use Rattle.vol_format.specs.Holding.{IsHolder}
use Rattle.vol_format.specs.Laws.{IsReadable, IsMovable, IsWritable}
use Rattle.vol_format.specs.Meaning.{Meaning}
use Rattle.vol_format.specs.Reach.{Reach, at_root, at_child}
use Rattle.vol_format.specs.Standing.{IsLost}
use Rattle.vol_laws.specs.Moved.{IsReady}
use Rattle.vol_laws.proofs.Copies.{same_link, copy_keeps, copy_kept}

module _ (format : Meaning) (laws : IsReadable format) (movable : IsMovable format) (writable : IsWritable format) (directory : Directory) (store : List (List ℕ))
    (part : Part) (holder : Holder) (place : ℕ) (accepted : IsAccepted format directory store) (lost : IsLost format directory store place) (held : IsHolder format directory store part holder) where
  unfoldable unit : List ℕ
  unit = unit_at store part.place

  abbrev new : List (List ℕ)
  new = slice_set store place unit

  available : (place < directory.places) × (is_system directory place ≡ false)
  available = ((movable.described store directory accepted.described).available_of place).0 lost.available

  inside : place < length store
  inside = subst (λ n. place < n) (laws.all_places store directory accepted.described) available.0

  reached : Reach format directory store part
  reached = elim held [
    | inl entry ↦ at_root part.file entry.inside entry.root
    | inr by_unit ↦ at_child holder.slot by_unit.reached by_unit.link
  ]

  holder_elsewhere : holder.place ≢ place
  holder_elsewhere = elim held [
    | inl entry ↦ λ same.
        let system = writable.entry_inside store directory part.file accepted.described entry.inside in
        let outside = available.1 in
        let at : (entry_of directory part.file).place ≡ place = sym entry.place ∙ same in
        absurd (cc (system, outside, at))
    | inr by_unit ↦ λ same. lost.unreached by_unit.parent by_unit.reached (sym by_unit.place ∙ same)
  ]

  still_held : IsHolder format directory new part holder
  still_held = elim held [
    | inl entry ↦ inl entry
    | inr by_unit ↦ inr (record {
      parent = by_unit.parent;
      entry = by_unit.entry;
      reached = copy_keeps format directory store place unit lost.unreached by_unit.parent by_unit.reached;
      link = same_link format directory store place unit lost.unreached by_unit.parent holder.slot (lost.unreached by_unit.parent by_unit.reached) ∙ by_unit.link;
      place = by_unit.place;
    })
  ]

  pub ready_after_copy : holder.place < length store → length (unit_at store holder.place) ≡ format.unit_size
      → IsReady format directory (slice_set store place (unit_at store part.place)) part holder place
  unfolding unit
  ready_after_copy within whole = record {
    held = still_held;
    inside = subst (λ n. holder.place < n) (sym (length-set {A = List ℕ} store place unit)) within;
    whole = ap length (get_or-set_other store place holder.place unit [] holder_elsewhere) ∙ whole;
    available = lost.available;
    marked = lost.marked;
    unreached = λ other reach. lost.unreached other (((copy_kept format directory store place unit lost.unreached movable accepted lost.available).parts other).1 reach);
    copied = get_or-set_same store place unit [] inside ∙ sym (get_or-set_other store place part.place unit [] (lost.unreached part reached));
  }
