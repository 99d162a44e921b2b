-- The contents of the system's units after each write.
use Rattle.std.specs.Prelude.{◌≡◌, ◌≢◌, ◌<◌, ℕ, suc, Bool, true, false, if◌then◌else◌, List, [], ◌∷◌, length, slice_index_or, All, Contains, slice_set}
use Rattle.std.proofs.Common.{refl, sym, ◌∙◌, ap, subst, arith, inl, inr}
use Rattle.std.proofs.lemmas.Bool.{cases_eq}
use Rattle.std.proofs.lemmas.List.{get_or-set_same, get_or-set_other, set-get_or, set-set}
use Rattle.a2_device.specs.Device.{unit_at}
use Rattle.a2_device.specs.declared.part.Part.{Part}
use Rattle.vol_format.specs.declared.link.Holder.{Holder}
use Rattle.vol_format.specs.declared.link.Link.TheVariants.{To}
use Rattle.vol_format.specs.Accepted.{IsAccepted}
use Rattle.vol_format.specs.Directory.{Directory, entry_of, is_system, map_place, remapped, turned, unplaced, IsSameFrame}
use Rattle.vol_format.specs.Holding.{IsHeldByEntry, IsHeldByUnit}
use Rattle.vol_format.specs.Laws.{IsReadable, IsMovable, IsWritable}
use Rattle.vol_format.specs.Meaning.{Meaning}
use Rattle.vol_format.specs.Standing.{at_place}
use Rattle.vol_format.proofs.Frames.{turned_frame, remapped_frame}
use Rattle.vol_laws.specs.Moved.{IsReady, pointed, pointed_store}
use Rattle.vol_laws.specs.System.{SameSystem}
use Rattle.vol_laws.specs.Marked.{CanMark, with_marks, marked}
use Rattle.vol_laws.specs.declared.mark.Mark.{Mark}
use Rattle.vol_laws.proofs.Marks.{one_kept, still, within}

module _ (format : Meaning) where
  -- a unit written outside the system
  written_outside : (directory : Directory) (store : List (List ℕ)) (place : ℕ) (unit : List ℕ) → is_system directory place ≡ false
      → SameSystem format directory directory store (slice_set store place unit)
  written_outside directory store place unit outside at system =
      ap (format.system_content directory at) (get_or-set_other store place at unit [] elsewhere)
    where
      elsewhere : at ≢ place
      elsewhere same = absurd (cc (outside, system, same))

  pub copy_system : (movable : IsMovable format) (directory : Directory) (store : List (List ℕ)) (place : ℕ) (unit : List ℕ) → IsAccepted format directory store
      → Contains directory.available place → SameSystem format directory directory store (slice_set store place unit)
  copy_system movable directory store place unit accepted available =
      written_outside directory store place unit (((movable.described store directory accepted.described).available_of place).0 available).1

  -- a unit of the system with a content that is the same
  written_inside : (writable : IsWritable format) (before after : Directory) (old : List (List ℕ)) (place : ℕ) (unit : List ℕ) → IsSameFrame before after → place < length old
      → format.system_content before place unit ≡ format.system_content before place (unit_at old place) → SameSystem format before after old (slice_set old place unit)
  written_inside writable before after old place unit frame inside same at system =
      writable.frame_content before after at (unit_at (slice_set old place unit) at) frame
      ∙ elim (cases_eq at place) [
        | inl here ↦
            subst (λ n. format.system_content before n (unit_at (slice_set old place unit) n) ≡ format.system_content before n (unit_at old n)) (sym here)
            (ap (format.system_content before place) (get_or-set_same old place unit [] inside) ∙ same)
        | inr differ ↦ ap (format.system_content before at) (get_or-set_other old place at unit [] differ)
      ]

  module _ (laws : IsReadable format) (movable : IsMovable format) (writable : IsWritable format) where
    module _ (directory : Directory) (store : List (List ℕ)) (part : Part) (holder : Holder) (place : ℕ) (accepted : IsAccepted format directory store)
        (ready : IsReady format directory store part holder place) where
      abbrev Outcome : Bool → ℕ → ℕ → Type 0
      Outcome entry at slot = SameSystem format directory (if entry then turned directory part.file (To (at_place part place)) else directory) store
          (slice_set store at (if entry then format.with_root (unit_at store at) slot place else format.with_pointer (unit_at store at) slot place))

      entry_system : IsHeldByEntry directory part holder → Outcome holder.entry holder.place holder.slot
      entry_system held =
          let at = (entry_of directory part.file).place in
          subst (λ entry. Outcome entry holder.place holder.slot) (sym held.entry)
          (subst (λ n. Outcome true n holder.slot) (sym held.place)
          (subst (λ slot. Outcome true at slot) (sym held.slot)
          (written_inside writable directory (turned directory part.file (To (at_place part place))) store at
          (format.with_root (unit_at store at) (entry_of directory part.file).slot place)
          (turned_frame directory part.file (To (at_place part place)) (sym (ap unplaced held.root)))
          (subst (λ n. n < length store) held.place ready.inside)
          (writable.turn_content store directory part.file place part (unit_at store at) accepted.described held.inside held.root
          (subst (λ n. length (unit_at store n) ≡ format.unit_size) held.place ready.whole)))))

      unit_system : IsHeldByUnit format directory store part holder → Outcome holder.entry holder.place holder.slot
      unit_system held =
          subst (λ entry. Outcome entry holder.place holder.slot) (sym held.entry)
          (subst (λ n. Outcome false n holder.slot) (sym held.place)
          (written_outside directory store held.parent.place (format.with_pointer (unit_at store held.parent.place) holder.slot place)
          (accepted.sound held.parent held.reached).outside_system))

      pub pointer_system : SameSystem format directory (pointed directory part holder place) store (pointed_store format store holder place)
      pointer_system = elim ready.held [
        | inl entry ↦ entry_system entry
        | inr unit ↦ unit_system unit
      ]

    pub mark_system : (directory : Directory) (store : List (List ℕ)) (place : ℕ) (free : Bool) → format.Describes store directory → Contains directory.available place
        → length (unit_at store (map_place directory place)) ≡ format.unit_size
        → SameSystem format directory (remapped directory place free) store (slice_set store (map_place directory place) (format.with_free (unit_at store (map_place directory place)) place free))
    mark_system directory store place free described available full =
        let of = movable.described store directory described in
        let below = of.map_below place ((of.available_of place).0 available).0 in
        written_inside writable directory (remapped directory place free) store (map_place directory place) (format.with_free (unit_at store (map_place directory place)) place free)
        (remapped_frame directory place free) (subst (λ n. map_place directory place < n) (laws.all_places store directory described) below)
        (writable.remap_content store directory place free (unit_at store (map_place directory place)) described available full)

    -- several marks in one unit of the map
    pub marks_system : (at : ℕ) (marks : List Mark) (before : Directory) (old : List (List ℕ)) → IsAccepted format before old → length (unit_at old at) ≡ format.unit_size
        → All (CanMark format before old at) marks → All (λ (mark : Mark). Contains before.available mark.place) marks
        → SameSystem format before (marked before marks) old (slice_set old at (with_marks format (unit_at old at) marks))
    marks_system at [] before old accepted full can available place system =
        ap (λ store. format.system_content before place (unit_at store place)) (set-get_or old at [])
    marks_system at (mark ∷ marks) before old accepted full can available place system =
        let first = can 0 mark (omega arith) in
        let unit = format.with_free (unit_at old at) mark.place mark.free in
        let mid = remapped before mark.place mark.free in
        let store = slice_set old at unit in
        let one = one_kept format laws movable writable at before old mark accepted full first in
        let here : unit_at store at ≡ unit = get_or-set_same old at unit [] (within format laws movable writable at before old mark accepted first) in
        let rest = marks_system at marks mid store one.accepted (ap length here ∙ writable.free_length (unit_at old at) mark.place mark.free ∙ full)
        (λ i d inside. still format laws movable writable at before mid old store one refl (λ p. refl) (slice_index_or marks i d) (can (suc i) d (omega (arith, inside))))
        (λ i d inside. available (suc i) d (omega (arith, inside))) place system in
        let there : slice_set store at (with_marks format (unit_at store at) marks) ≡ slice_set old at (with_marks format unit marks) =
        ap (λ v. slice_set store at (with_marks format v marks)) here ∙ set-set old at unit (with_marks format unit marks) in
        let changed : format.system_content mid place (unit_at store place) ≡ format.system_content before place (unit_at old place) =
        subst (λ n. format.system_content mid place (unit_at (slice_set old n (format.with_free (unit_at old n) mark.place mark.free)) place) ≡ format.system_content before place (unit_at old place)) first.here
        (mark_system before old mark.place mark.free accepted.described (available 0 mark (omega arith))
        (subst (λ n. length (unit_at old n) ≡ format.unit_size) (sym first.here) full) place system) in
        ap (λ s. format.system_content (marked mid marks) place (unit_at s place)) (sym there) ∙ rest ∙ changed
