-- Which part has the pointer to a part, and where that stands.
use Rattle.std.proofs.Common.{◌≡◌, ◌<◌, ◌⊎◌, ℕ, Bool, true, false, List, length, get_or, inl, inr, refl, sym, ◌∙◌, ap, subst, arith, ⊎_elim}
use Rattle.std.specs.Prelude.{slice_index, slice_index_or, All}
use Rattle.std.proofs.lemmas.List.{get_or_default}
use Rattle.a2_device.specs.Device.{unit_at}
use Rattle.a2_device.specs.declared.part.Part.{Part}
use Rattle.vol_layout.specs.Layouts.{IsLayout}
use Rattle.pro_dir.specs.declared.entry.Entry.{Entry}
use Rattle.pro_dir.specs.Entry.{key_of, storage_of}
use Rattle.pro_dir.specs.Volume.{Directory as Tree, total_blocks}
use Rattle.pro_tree.specs.Above.{part_of, IsAbove}
use Rattle.pro_tree.specs.lemmas.AboveLaws.{one_above, above_there, none_above_root}
use Rattle.pro_tree.specs.Content.{pro_slot}
use Rattle.pro_tree.specs.File.{InFile}
use Rattle.pro_tree.specs.lemmas.FileReach.{reach-in_file}
use Rattle.pro_tree.specs.Reach.{pro_root}
use Rattle.pro_tree.specs.lemmas.ReachLaws.{IsChildOf, pro_child-To}
use Rattle.pro_tree.specs.lemmas.Roots.{pro_root_file}
use Rattle.pro_tree.specs.lemmas.Written.{pro_child_slot}
use Rattle.vol_format.specs.declared.link.Link.TheVariants.{To}
use Rattle.vol_format.specs.declared.link.Holder.{Holder}
use Rattle.vol_format.specs.Accepted.{IsAccepted}
use Rattle.vol_format.specs.Directory.{Directory, Listed, entries, entry_of, root_of, IsSameFrame}
use Rattle.vol_format.specs.Holding.{IsHeldByEntry, IsHeldByUnit, IsHolder}
use Rattle.vol_format.specs.Meaning.{link_from}
use Rattle.vol_format.specs.Reach.{Reach, at_root, at_child}
use Rattle.vol_format.specs.Standing.{Stands, part_now}
use Rattle.vol_format.proofs.Frames.{same_entry_place, same_entry_slot, same_available}
use Rattle.pro_format.specs.Pro.{DescribesPro, HasProSlot, available_in, directory_with, no_slot, pro_meaning}
use Rattle.pro_format.specs.lemmas.ProDirectory.{length-listed, listed_at, listed_root, available_of, pro_is_directory}
use Rattle.pro_format.specs.lemmas.ProLaws.{total_is}
use Rattle.pro_format.specs.Sound.{IsSound}

module _ (reserved : List Bool) (present : Directory) (store : List (List ℕ)) (described : DescribesPro reserved store present) where
  abbrev all : List Entry
  all = described.tree.entries

  abbrev pub storage : ℕ → ℕ
  storage file = storage_of (slice_index_or described.tree.entries file no_slot).bytes

  abbrev pub key : ℕ → ℕ
  key file = key_of (slice_index_or described.tree.entries file no_slot)

  count : entries present ≡ length all
  count = ap entries described.says ∙ length-listed (total_blocks described.tree.header) all

  root_is : (file : ℕ) (part : Part) → root_of present file ≡ To part → (file < entries present) × (pro_root (length store) file (storage file) (key file) ≡ To part)
  root_is file part is =
      let at = listed_root (total_blocks described.tree.header) all file part (sym (ap (λ (d : Directory). root_of d file) described.says) ∙ is) in
      (omega (arith, at.inside, count), ap (λ n. pro_root n file (storage file) (key file)) (sym (total_is reserved store present described)) ∙ at.names)

  is_root : (file : ℕ) (part : Part) → file < entries present → pro_root (length store) file (storage file) (key file) ≡ To part → root_of present file ≡ To part
  is_root file part inside is =
      ap (λ (d : Directory). root_of d file) described.says
      ∙ ap (λ (entry : Listed). entry.root) (listed_at (total_blocks described.tree.header) all file (omega (arith, inside, count)))
      ∙ ap (λ n. pro_root n file (storage file) (key file)) (total_is reserved store present described)
      ∙ is

  pub in_file : (part : Part) → Reach (pro_meaning reserved) present store part → (part.file < entries present) × InFile store part.file (storage part.file) (key part.file) part
  in_file = reach-in_file (pro_meaning reserved) present store storage key root_is is_root (λ part unit i. refl)

  -- the entry of a part's file names the part, or a block of its file does
  record IsRooted (part : Part) : Type 0 where
    inside : part.file < entries present
    root : root_of present part.file ≡ To part

  record IsInUnit (part : Part) : Type 0 where
    parent : Part
    reached : Reach (pro_meaning reserved) present store parent
    pointer : ℕ
    link : link_from (pro_meaning reserved) store parent pointer ≡ To part

  origin : (part : Part) → Reach (pro_meaning reserved) present store part → IsRooted part ⊎ IsInUnit part
  origin part (at_root file inside is) =
      let same = pro_root_file (length store) file (storage file) (key file) part (root_is file part is).1 in
      inl (record { inside = subst (λ f. f < entries present) (sym same) inside; root = ap (root_of present) same ∙ is })
  origin part (at_child {parent} pointer reached is) = inr (record { parent = parent; reached = reached; pointer = pointer; link = is })

module _ (reserved : List Bool) (before present : Directory) (store : List (List ℕ)) (parts : List Part) (at : List ℕ) (k : ℕ) (inside : k < length parts)
    (frame : IsSameFrame before present) (accepted : IsAccepted (pro_meaning reserved) present store)
    (stands : Stands (pro_meaning reserved) present store parts at) where
  abbrev part : Part
  part = part_now parts present.available at k

  from : IsRooted reserved present store accepted.described part ⊎ IsInUnit reserved present store accepted.described part
  from = origin reserved present store accepted.described part (stands.reached k inside)

  -- a part that the entry names has none above it
  none_above : IsRooted reserved present store accepted.described part → (above : ℕ) → IsAbove parts k above → ⊥
  none_above rooted above is =
      let low : above < length parts = omega (arith, is.before, inside) in
      let other = part_now parts present.available at above in
      let reached = (in_file reserved present store accepted.described other (stands.reached above low)).1 in
      none_above_root store part.file (storage reserved present store accepted.described part.file) (key reserved present store accepted.described part.file) part other
      (root_is reserved present store accepted.described part.file part rooted.root).1
      (subst (λ f. InFile store f (storage reserved present store accepted.described f) (key reserved present store accepted.described f) other) is.file reached)
      is.kind

  -- the part that names it is the one above it
  record IsNamedBy (above : ℕ) : Type 0 where
    within : above < length parts
    is_above : IsAbove parts k above
    pointer : ℕ
    slot : pro_slot (part_of parts k).kind (part_of parts k).number ≡ pointer
    parent : Part
    here : parent ≡ part_now parts present.available at above
    reached : Reach (pro_meaning reserved) present store parent
    link : link_from (pro_meaning reserved) store parent pointer ≡ To part

  named_by : IsInUnit reserved present store accepted.described part → (above : ℕ) × IsNamedBy above
  named_by is =
      let found = stands.all is.parent is.reached in
      let child = pro_child-To (length store) is.parent.kind is.parent.file is.parent.number (unit_at store is.parent.place) is.pointer part is.link in (
        found.0,
        record {
          within = found.1;
          is_above = above_there parts stands.ordered (length store) is.pointer found.0 k part found.1 inside refl refl refl
              (subst (λ (p : Part). IsChildOf (length store) p.kind p.file p.number is.pointer part) found.2 child);
          pointer = is.pointer;
          slot = sym (pro_child_slot (length store) is.parent part (unit_at store is.parent.place) is.pointer is.link);
          parent = is.parent;
          here = found.2;
          reached = is.reached;
          link = is.link;
        },
      )

  pub held_by_unit : (holder : Holder) (above : ℕ) → IsAbove parts k above → holder.entry ≡ false → holder.place ≡ slice_index before.available (slice_index at above)
      → holder.slot ≡ pro_slot (part_of parts k).kind (part_of parts k).number → IsHolder (pro_meaning reserved) present store part holder
  held_by_unit holder above is entry place slot = ⊎_elim (λ rooted. absurd (none_above rooted above is)) (λ in_unit. inr (by_unit (named_by in_unit))) from
    where
      by_unit : (found : ℕ) × IsNamedBy found → IsHeldByUnit (pro_meaning reserved) present store part holder
      by_unit found =
          let same = one_above parts k above found.0 is found.1.is_above in
          record {
            parent = found.1.parent;
            entry = entry;
            reached = found.1.reached;
            link = ap (link_from (pro_meaning reserved) store found.1.parent) (slot ∙ found.1.slot) ∙ found.1.link;
            place = place ∙ ap (λ places. slice_index places (slice_index at above)) (sym (same_available before present frame))
                ∙ ap (λ n. slice_index present.available (slice_index at n)) same ∙ sym (ap (λ (p : Part). p.place) found.1.here);
          }

  pub held_by_entry : (holder : Holder) → ((above : ℕ) → IsAbove parts k above → ⊥) → holder.entry ≡ true → holder.place ≡ (entry_of before (part_of parts k).file).place
      → holder.slot ≡ (entry_of before (part_of parts k).file).slot → IsHolder (pro_meaning reserved) present store part holder
  held_by_entry holder none entry place slot =
      ⊎_elim (λ rooted. inl (by_entry rooted)) (λ in_unit. let found = named_by in_unit in absurd (none found.0 found.1.is_above)) from
    where
      by_entry : IsRooted reserved present store accepted.described part → IsHeldByEntry present part holder
      by_entry rooted = record {
        entry = entry;
        inside = rooted.inside;
        root = rooted.root;
        place = place ∙ sym (same_entry_place before present frame (part_of parts k).file);
        slot = slot ∙ sym (same_entry_slot before present frame (part_of parts k).file);
      }

-- where the answers stand, whatever the device told
module _ (reserved : List Bool) (tree : Tree) (system : List Bool) (units : List (List ℕ)) (sound : IsSound tree system) where
  pub entry_place : (parts : List Part) (k : ℕ) (d : Part) (place : ℕ) → k < length parts → All (λ (p : Part). p.file < entries (directory_with system tree units)) parts
      → place ≡ (entry_of (directory_with system tree units) (get_or parts k d).file).place → place < total_blocks tree.header
  entry_place parts k d place inside files is =
      omega (arith, is, (pro_is_directory reserved tree system units sound).entry_below (get_or parts k d).file (files k d inside))

  pub entry_slot : (parts : List Part) (k : ℕ) (d : Part) (holder : Holder) → k < length parts → All (λ (p : Part). p.file < entries (directory_with system tree units)) parts
      → holder.entry ≡ true → holder.slot ≡ (entry_of (directory_with system tree units) (get_or parts k d).file).slot → HasProSlot holder.entry holder.slot
  entry_slot parts k d holder inside files entry is = subst (λ b. HasProSlot b holder.slot) (sym entry)
      (subst (λ s. HasProSlot true s) (sym is) ((pro_is_directory reserved tree system units sound).entry_slot (get_or parts k d).file (files k d inside)))

  pub unit_place : (at : List ℕ) (above place places : ℕ) → IsLayout at places → places ≡ length (available_in system) → above < length at
      → place ≡ slice_index (available_in system) (slice_index at above) → place < total_blocks tree.header
  unit_place at above place places layout size inside is =
      let number : slice_index at above < length (available_in system) = omega (arith, size, layout.below above 0 inside) in
      omega (
        arith,
        is,
        sound.size,
        ((available_of system (slice_index (available_in system) (slice_index at above))).0
            (slice_index at above, number, get_or_default (available_in system) (slice_index at above) (slice_index (available_in system) (slice_index at above)) 0 number)).0,
      )
