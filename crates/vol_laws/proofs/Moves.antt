-- A pointer that is set to a copy of the part that it names, wherever it stands.
use Rattle.std.specs.Prelude.{◌≡◌, ◌<◌, ℕ, Bool, true, false, if◌then◌else◌, List, length, slice_index, slice_set}
use Rattle.std.proofs.Common.{sym, subst, inl, inr}
use Rattle.a2_device.specs.Device.{unit_at}
use Rattle.a2_device.specs.declared.part.Part.{Part}
use Rattle.vol_format.specs.declared.link.Holder.{Holder}
use Rattle.vol_format.specs.declared.link.Link.TheVariants.{To}
use Rattle.vol_format.specs.Accepted.{IsAccepted}
use Rattle.vol_format.specs.Directory.{Directory, entry_of, is_system, turned}
use Rattle.vol_format.specs.Holding.{IsHeldByEntry, IsHeldByUnit}
use Rattle.vol_format.specs.Laws.{IsReadable, IsMovable, IsWritable}
use Rattle.vol_format.specs.Meaning.{Meaning}
use Rattle.vol_format.specs.Reach.{Reach, at_root, at_child}
use Rattle.vol_format.specs.Standing.{Stands, at_place, part_now}
use Rattle.vol_laws.specs.Moved.{IsReady, HasMoved, pointed, pointed_store}
use Rattle.vol_laws.proofs.Pointers.{pointer_moved}
use Rattle.vol_laws.proofs.SameEntries.{entry_moved}
use Rattle.vol_laws.proofs.Standing.{moved_stands}

module _ (format : Meaning) (laws : IsReadable format) (movable : IsMovable format) (writable : IsWritable format) (directory : Directory) (store : List (List ℕ))
    (part : Part) (holder : Holder) (place : ℕ) (accepted : IsAccepted format directory store) (ready : IsReady format directory store part holder place) where
  outside : is_system directory place ≡ false
  outside = (((movable.described store directory accepted.described).available_of place).0 ready.available).1

  can_name : format.CanName directory.places place
  can_name = (movable.described store directory accepted.described).available_named place ready.available

  -- the outcome, for a pointer of this kind that stands there
  abbrev Outcome : Bool → ℕ → ℕ → Type 0
  Outcome entry at slot = HasMoved format directory (if entry then turned directory part.file (To (at_place part place)) else directory) part place store
      (slice_set store at (if entry then format.with_root (unit_at store at) slot place else format.with_pointer (unit_at store at) slot place))

  by_entry : IsHeldByEntry directory part holder → Outcome holder.entry holder.place holder.slot
  by_entry held =
      subst (λ entry. Outcome entry holder.place holder.slot) (sym held.entry)
      (subst (λ at. Outcome true at holder.slot) (sym held.place)
      (subst (λ slot. Outcome true (entry_of directory part.file).place slot) (sym held.slot)
      (entry_moved format laws movable writable directory store accepted part part.file place held.inside held.root ready.copied ready.unreached outside can_name
      (subst (λ at. length (unit_at store at) ≡ format.unit_size) held.place ready.whole) ready.marked)))

  by_unit : IsHeldByUnit format directory store part holder → Outcome holder.entry holder.place holder.slot
  by_unit held =
      subst (λ entry. Outcome entry holder.place holder.slot) (sym held.entry)
      (subst (λ at. Outcome false at holder.slot) (sym held.place)
      (pointer_moved format laws movable directory store accepted part held.parent holder.slot place held.reached held.link ready.copied ready.unreached
      (subst (λ n. format.CanName n place) (laws.all_places store directory accepted.described) can_name)
      (subst (λ at. at < length store) held.place ready.inside)
      (subst (λ at. length (unit_at store at) ≡ format.unit_size) held.place ready.whole) outside ready.marked))

  pub part_moved : HasMoved format directory (pointed directory part holder place) part place store (pointed_store format store holder place)
  part_moved = elim ready.held [
    | inl entry ↦ by_entry entry
    | inr unit ↦ by_unit unit
  ]

  pub held_part : Reach format directory store part
  held_part = elim ready.held [
    | inl entry ↦ at_root part.file entry.inside entry.root
    | inr unit ↦ at_child holder.slot unit.reached unit.link
  ]

pub part_stands : (format : Meaning) → IsReadable format → IsMovable format → IsWritable format → (directory : Directory) (store : List (List ℕ)) (parts : List Part) (layout : List ℕ)
    (k number : ℕ) (holder : Holder) → IsAccepted format directory store → Stands format directory store parts layout → k < length parts → number < length directory.available
    → IsReady format directory store (part_now parts directory.available layout k) holder (slice_index directory.available number)
    → Stands format (pointed directory (part_now parts directory.available layout k) holder (slice_index directory.available number))
    (pointed_store format store holder (slice_index directory.available number)) parts (slice_set layout k number)
part_stands format laws movable writable directory store parts layout k number holder accepted stands inside number_inside ready =
    let part = part_now parts directory.available layout k in
    let place = slice_index directory.available number in
    moved_stands format directory (pointed directory part holder place) store (pointed_store format store holder place) parts layout k number
    (movable.described store directory accepted.described).available_once inside number_inside stands ready.unreached
    (part_moved format laws movable writable directory store part holder place accepted ready)
