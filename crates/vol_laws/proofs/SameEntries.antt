-- A pointer in an entry that is set to a copy of the part that it names.
use Rattle.std.specs.Prelude.{◌≡◌, ◌≢◌, ◌<◌, ℕ, false, List, [], length, slice_set}
use Rattle.std.proofs.Common.{refl, sym, ◌∙◌, ap, subst, inl, inr}
use Rattle.std.proofs.lemmas.Bool.{cases_eq}
use Rattle.std.proofs.lemmas.List.{get_or-set_same, get_or-set_other}
use Rattle.std.proofs.Math.ListN.{length-set}
use Rattle.a2_device.specs.Device.{unit_at}
use Rattle.a2_device.specs.declared.part.Part.{Part}
use Rattle.vol_format.specs.declared.link.Link.{Link}
use Rattle.vol_format.specs.declared.link.Link.TheVariants.{Wild, OtherType, To}
use Rattle.vol_format.specs.Accepted.{IsAccepted}
use Rattle.vol_format.specs.Directory.{Directory, Listed, no_entry, entries, entry_of, root_of, is_system, is_free, turned, unplaced, IsSameFrame}
use Rattle.vol_format.specs.Laws.{IsReadable, IsMovable, IsWritable}
use Rattle.vol_format.specs.Meaning.{Meaning, link_from}
use Rattle.vol_format.specs.Reach.{Reach, at_root, at_child}
use Rattle.vol_format.specs.Standing.{at_place}
use Rattle.vol_format.proofs.Frames.{turned_frame, same_entries}
use Rattle.vol_laws.specs.Kept.{IsUnreached}
use Rattle.vol_laws.specs.Moved.{moved, HasMoved}
use Rattle.vol_laws.proofs.Identity.{named, root_no_child}
use Rattle.vol_laws.proofs.Moving.{stays, goes, has_moved}

module _ (format : Meaning) (laws : IsReadable format) (movable : IsMovable format) (writable : IsWritable format) (before : Directory) (old : List (List ℕ))
    (accepted : IsAccepted format before old) (part : Part) (file place : ℕ) (within : file < entries before) (root : root_of before file ≡ To part)
    (copied : unit_at old place ≡ unit_at old part.place) (unreached : IsUnreached format before old place) (outside : is_system before place ≡ false)
    (can_name : format.CanName before.places place) (full : length (unit_at old (entry_of before file).place) ≡ format.unit_size) where
  abbrev after : Directory
  after = turned before file (To (at_place part place))

  unfoldable written : List ℕ
  written = format.with_root (unit_at old (entry_of before file).place) (entry_of before file).slot place

  abbrev new : List (List ℕ)
  new = slice_set old (entry_of before file).place written

  files : (f : ℕ) (x : Part) → root_of before f ≡ To x → x.file ≡ f
  files = (movable.described old before accepted.described).root_file

  reach_root : Reach format before old part
  reach_root = at_root file within root

  frame : IsSameFrame before after
  frame = turned_frame before file (To (at_place part place)) (sym (ap unplaced root))

  root_here : root_of after file ≡ To (at_place part place)
  root_here = ap (λ (entry : Listed). entry.root)
      (get_or-set_same before.listed file (record (entry_of before file) { root = To (at_place part place) }) no_entry within)

  root_others : (f : ℕ) → f ≢ file → root_of after f ≡ root_of before f
  root_others f differ = ap (λ (entry : Listed). entry.root)
      (get_or-set_other before.listed file f (record (entry_of before file) { root = To (at_place part place) }) no_entry differ)

  entries_before : (f : ℕ) → f < entries after → f < entries before
  entries_before f inside = subst (λ n. f < n) (same_entries before after frame) inside

  entries_after : (f : ℕ) → f < entries before → f < entries after
  entries_after f inside = subst (λ n. f < n) (sym (same_entries before after frame)) inside

  same_length : length new ≡ length old
  same_length = length-set {A = List ℕ} old (entry_of before file).place written

  same_units : (at : ℕ) → is_system before at ≡ false → unit_at new at ≡ unit_at old at
  same_units at not_system = get_or-set_other old (entry_of before file).place at written [] elsewhere
    where
      elsewhere : at ≢ (entry_of before file).place
      elsewhere same =
          let system = writable.entry_inside old before file accepted.described within in
          absurd (cc (not_system, system, same))

  -- no pointer of a unit names the part
  no_slot : (x y : Part) (j : ℕ) → Reach format before old x → link_from format old x j ≡ To y → y.place ≢ part.place
  no_slot x y j reach is same =
      let y_is : y ≡ part = accepted.once y part (at_child j reach is) reach_root same in
      root_no_child format laws before old files x y j file reach is (root ∙ ap To (sym y_is))

  -- nor does another entry
  no_other_entry : (f : ℕ) (y : Part) → f < entries before → root_of before f ≡ To y → f ≢ file → y.place ≢ part.place
  no_other_entry f y inside is differ same =
      let y_is : y ≡ part = accepted.once y part (at_root f inside is) reach_root same in
      differ (sym (files f y is) ∙ ap (λ (x : Part). x.file) y_is ∙ files file part root)

  link_of : (x : Part) (j : ℕ) (unit : List ℕ) → unit_at new x.place ≡ unit → link_from format new x j ≡ format.child (length old) x unit j
  link_of x j unit is = ap (λ n. format.child n x (unit_at new x.place) j) same_length ∙ ap (λ v. format.child (length old) x v j) is

  link_after : (x : Part) (j : ℕ) → Reach format before old x → link_from format new (moved part place x) j ≡ link_from format old x j
  link_after x j reach = elim (cases_eq x.place part.place) [
    | inl same ↦
        ap (λ z. link_from format new z j) (goes part place x same)
        ∙ link_of (at_place x place) j (unit_at old x.place) (same_units place outside ∙ copied ∙ ap (unit_at old) (sym same))
        ∙ movable.place_free (length old) x (unit_at old x.place) j place
    | inr differ ↦
        ap (λ z. link_from format new z j) (stays part place x differ)
        ∙ link_of x j (unit_at old x.place) (same_units x.place (accepted.sound x reach).outside_system)
  ]

  root_keeps : (x : Part) → Reach format before old x → Reach format after new (moved part place x)
  root_keeps x (at_root f inside is) = elim (cases_eq f file) [
    | inl same ↦
        let x_is : x ≡ part = named x part (sym is ∙ ap (root_of before) same ∙ root) in
        subst (λ z. Reach format after new (moved part place z)) (sym x_is)
        (at_root file (entries_after file within) (root_here ∙ ap To (sym (goes part place part refl))))
    | inr differ ↦
        subst (Reach format after new) (sym (stays part place x (no_other_entry f x inside is differ)))
        (at_root f (entries_after f inside) (root_others f differ ∙ is))
  ]
  root_keeps x (at_child {parent} j reach is) =
      at_child j (root_keeps parent reach) (link_after parent j reach ∙ is ∙ ap To (sym (stays part place x (no_slot parent x j reach is))))

  root_adds_none : (now : Part) → Reach format after new now → (x : Part) × Reach format before old x × (now ≡ moved part place x)
  root_adds_none now (at_root f inside is) = elim (cases_eq f file) [
    | inl same ↦
        (part, reach_root, named now (moved part place part) (sym is ∙ ap (root_of after) same ∙ root_here ∙ ap To (sym (goes part place part refl))))
    | inr differ ↦
        let is' = sym (root_others f differ) ∙ is in
        (now, at_root f (entries_before f inside) is', sym (stays part place now (no_other_entry f now (entries_before f inside) is' differ)))
  ]
  root_adds_none now (at_child {parent} j reach is) =
      let was = root_adds_none parent reach in
      let link = sym (link_after was.0 j was.1) ∙ ap (λ z. link_from format new z j) (sym was.2) ∙ is in
      (now, at_child j was.1 link, sym (stays part place now (no_slot was.0 now j was.1 link)))

  root_content : (x : Part) → Reach format before old x
      → format.content before.places x (unit_at new (moved part place x).place) ≡ format.content before.places x (unit_at old x.place)
  root_content x reach = elim (cases_eq x.place part.place) [
    | inl at ↦
        ap (λ (z : Part). format.content before.places x (unit_at new z.place)) (goes part place x at)
        ∙ ap (format.content before.places x) (same_units place outside ∙ copied ∙ ap (unit_at old) (sym at))
    | inr differ ↦
        ap (λ (z : Part). format.content before.places x (unit_at new z.place)) (stays part place x differ)
        ∙ ap (format.content before.places x) (same_units x.place (accepted.sound x reach).outside_system)
  ]

  -- what an entry points to, this one's link aside
  root_link : (P : Link → Type 0) (f : ℕ) → f < entries after → P (To (at_place part place)) → (f < entries before → P (root_of before f)) → P (root_of after f)
  root_link P f inside here there = elim (cases_eq f file) [
    | inl same ↦ subst (λ n. P (root_of after n)) (sym same) (subst P (sym root_here) here)
    | inr differ ↦ subst P (sym (root_others f differ)) (there (entries_before f inside))
  ]

  described_after : format.Describes new after
  unfolding written
  described_after = writable.turn old before file place part accepted.described within root can_name full

  -- the part has moved
  pub entry_moved : is_free before place ≡ false
      → HasMoved format before (turned before file (To (at_place part place))) part place old
      (slice_set old (entry_of before file).place (format.with_root (unit_at old (entry_of before file).place) (entry_of before file).slot place))
  unfolding written
  entry_moved marked =
      has_moved format movable before after part place old new frame accepted unreached root_keeps root_adds_none root_content
      refl described_after
      (λ f inside. root_link (λ l. l ≢ Wild) f inside (λ e. cc) (accepted.no_wild f))
      (λ f inside. root_link (λ l. l ≢ OtherType) f inside (λ e. cc) (accepted.no_other_type f))
      (λ x j reach wild. (accepted.sound x reach).no_wild j (sym (link_after x j reach) ∙ wild)) outside marked
