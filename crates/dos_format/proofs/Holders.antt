-- Which part has the pointer to a part, and where that stands.
use Rattle.std.proofs.Common.{◌≡◌, ◌<◌, ◌≤◌, ◌+◌, ◌*◌, ◌⊎◌, ℕ, Bool, true, false, List, length, get_or, inl, inr, sym, ◌∙◌, ap, subst, arith, ⊎_elim}
use Rattle.std.specs.Prelude.{slice_index, All, AllPairs}
use Rattle.std.proofs.lemmas.Bool.{cases_lt}
use Rattle.std.proofs.lemmas.List.{get_or_default}
use Rattle.a2_device.specs.Device.{unit_at}
use Rattle.a2_device.specs.declared.part.Part.{Part}
use Rattle.a2_device.specs.declared.part.PartKind.TheVariants.{List as AList}
use Rattle.vol_layout.specs.Layouts.{IsLayout}
use Rattle.dos_catalog.specs.declared.entry.Entry.{Entry}
use Rattle.dos_catalog.specs.Entry.{entries_in}
use Rattle.dos_catalog.specs.Found.{AreOnTrack}
use Rattle.dos_tslist.specs.Reach.{rank_of}
use Rattle.vol_format.specs.declared.link.Link.TheVariants.{To}
use Rattle.vol_format.specs.declared.link.Holder.{Holder}
use Rattle.vol_format.specs.Accepted.{IsAccepted}
use Rattle.vol_format.specs.Directory.{Directory, entries, entry_of, root_of, IsSameFrame}
use Rattle.vol_format.specs.Holding.{IsHeldByEntry, IsHeldByUnit, IsHolder}
use Rattle.vol_format.specs.Meaning.{link_from}
use Rattle.vol_format.specs.Reach.{Reach, at_root, at_child}
use Rattle.vol_format.specs.Standing.{Stands, no_part, part_now}
use Rattle.vol_format.proofs.Frames.{same_entry_place, same_entry_slot, same_available}
use Rattle.dos_format.specs.Dos.{dos_meaning, dos_directory, dos_available, DescribesDos, HasDosSlot}
use Rattle.dos_format.specs.lemmas.DosDirectory.{root_of-dos, available_of, dos_is_directory}
use Rattle.dos_format.specs.DosHolders.{IsListBefore, part_of, dos_slot}
use Rattle.dos_format.specs.lemmas.DosLaws.{IsNamed, IsPointedTo, dos_child-To, rank_at, pointed_cases}
use Rattle.dos_format.specs.lemmas.DosMovable.{pointer_below}

-- what is pointed to has the number of the pointer in its own
pub slot_there : (file list pointer : ℕ) (part : Part) → IsPointedTo file list pointer part → dos_slot part.kind part.number ≡ pointer
slot_there file list pointer part at = pointed_cases (λ kind number. dos_slot kind number ≡ pointer) file list pointer part at
    (λ pair. omega (arith, pair)) (λ last. sym last)

module _ (data_disk : Bool) (reserved : List Bool) (present : Directory) (store : List (List ℕ)) (described : DescribesDos data_disk reserved store present) where
  -- a part is list 0 of its file, which the entry names, or a list of its file names it
  record IsFirstList (part : Part) : Type 0 where
    kind : part.kind ≡ AList
    number : part.number ≡ 0
    inside : part.file < entries present
    root : root_of present part.file ≡ To part

  record IsInList (part : Part) : Type 0 where
    parent : Part
    reached : Reach (dos_meaning data_disk reserved) present store parent
    pointer : ℕ
    link : link_from (dos_meaning data_disk reserved) store parent pointer ≡ To part
    kind : parent.kind ≡ AList
    at : IsPointedTo parent.file parent.number pointer part

  named_root : (file : ℕ) (part : Part) → root_of present file ≡ To part → IsNamed file AList 0 part
  named_root file part is = root_of-dos data_disk reserved (unit_at store 272) (entries_in store described.sectors) file part
      (sym (ap (λ (d : Directory). root_of d file) described.says) ∙ is)

  origin : (part : Part) → Reach (dos_meaning data_disk reserved) present store part → IsFirstList part ⊎ IsInList part
  origin part (at_root file inside is) =
      let named = named_root file part is in
      inl (record {
        kind = named.same_kind;
        number = named.same_number;
        inside = subst (λ f. f < entries present) (sym named.same_file) inside;
        root = ap (root_of present) named.same_file ∙ is;
      })
  origin part (at_child {parent} pointer reached is) =
      let to = dos_child-To parent.kind parent.file parent.number (unit_at store parent.place) pointer part is in
      inr (record { parent = parent; reached = reached; pointer = pointer; link = is; kind = to.0; at = to.1 })

-- the order of parts, by their numbers
module _ (parts : List Part) (ordered : AllPairs (λ (part later : Part). (part.file < later.file)
    ⊎ ((part.file ≡ later.file) × (rank_of part.kind part.number < rank_of later.kind later.number))) parts) where
  rank_below : (i j : ℕ) → i < j → j < length parts → (part_of parts i).file ≡ (part_of parts j).file
      → rank_of (part_of parts i).kind (part_of parts i).number < rank_of (part_of parts j).kind (part_of parts j).number
  rank_below i j less inside same = ⊎_elim (λ file. absurd (omega (arith, file, same))) (λ rank. rank.1) (ordered i j no_part less inside)

  file_below : (i j : ℕ) → i < j → j < length parts → (part_of parts i).file ≤ (part_of parts j).file
  file_below i j less inside = ⊎_elim (λ file. omega (arith, file)) (λ rank. omega (arith, rank.0)) (ordered i j no_part less inside)

  -- a part of lesser rank comes before
  comes_before : (i j : ℕ) → i < length parts → j < length parts → (part_of parts i).file ≡ (part_of parts j).file
      → rank_of (part_of parts i).kind (part_of parts i).number < rank_of (part_of parts j).kind (part_of parts j).number → i < j
  comes_before i j inside within same less = elim (cases_lt i j) [
    | inl before ↦ before
    | inr not_before ↦ elim (cases_lt j i) [
      | inl after ↦ absurd (omega (arith, rank_below j i after inside (sym same), less))
      | inr not_after ↦
          let here : i ≡ j = omega arith in
          absurd (omega (arith, ap (λ n. rank_of (part_of parts n).kind (part_of parts n).number) here, less))
    ]
  ]

  list_rank : (i : ℕ) → (part_of parts i).kind ≡ AList → rank_of (part_of parts i).kind (part_of parts i).number ≡ 123 * (part_of parts i).number
  list_rank i list = ap (λ k. rank_of k (part_of parts i).number) list

  -- no list stands between a list and what it names
  none_between : (list k between : ℕ) → k < length parts → (part_of parts list).kind ≡ AList → (part_of parts list).file ≡ (part_of parts k).file
      → rank_of (part_of parts k).kind (part_of parts k).number ≤ 123 * (part_of parts list).number + 123
      → list < between → between < k → (part_of parts between).kind ≡ AList → ⊥
  none_between list k between inside kind file rank after before is =
      let within : between < length parts = omega (arith, before, inside) in
      let low = file_below list between after within in
      let high = file_below between k before inside in
      let first = rank_below list between after within (omega (arith, low, high, file)) in
      let second = rank_below between k before inside (omega (arith, low, high, file)) in
      omega (arith, first, second, rank, list_rank list kind, list_rank between is)

module _ (data_disk : Bool) (reserved : List Bool) (before present : Directory) (store : List (List ℕ)) (parts : List Part) (at : List ℕ) (k : ℕ) (inside : k < length parts)
    (frame : IsSameFrame before present) (accepted : IsAccepted (dos_meaning data_disk reserved) present store)
    (stands : Stands (dos_meaning data_disk reserved) present store parts at) where
  abbrev part : Part
  part = part_now parts present.available at k

  from : IsFirstList data_disk reserved present store accepted.described part ⊎ IsInList data_disk reserved present store accepted.described part
  from = origin data_disk reserved present store accepted.described part (stands.reached k inside)

  -- the list that names the part is the nearest before it
  record IsNamedBy (list : ℕ) : Type 0 where
    within : list < length parts
    is_before : IsListBefore parts k list
    pointer : ℕ
    slot : dos_slot (part_of parts k).kind (part_of parts k).number ≡ pointer
    parent : Part
    here : parent ≡ part_now parts present.available at list
    reached : Reach (dos_meaning data_disk reserved) present store parent
    link : link_from (dos_meaning data_disk reserved) store parent pointer ≡ To part

  named_by : IsInList data_disk reserved present store accepted.described part → (list : ℕ) × IsNamedBy list
  named_by is =
      let found = stands.all is.parent is.reached in
      let kind : (part_of parts found.0).kind ≡ AList = sym (ap (λ (p : Part). p.kind) found.2) ∙ is.kind in
      let file : (part_of parts found.0).file ≡ (part_of parts k).file = sym (is.at.same_file ∙ ap (λ (p : Part). p.file) found.2) in
      let number : is.parent.number ≡ (part_of parts found.0).number = ap (λ (p : Part). p.number) found.2 in
      let rank = rank_at is.parent.file is.parent.number is.pointer part is.at in
      let low = pointer_below is.parent.file is.parent.number is.pointer part is.at in
      let comes : found.0 < k = comes_before parts stands.ordered found.0 k found.1 inside file (omega (arith, list_rank parts stands.ordered found.0 kind, rank, number)) in (
        found.0,
        record {
          within = found.1;
          is_before = record {
            before = comes;
            kind = kind;
            file = file;
            nearest = λ between after less. none_between parts stands.ordered found.0 k between inside kind file (omega (arith, rank, number, low)) after less;
          };
          pointer = is.pointer;
          slot = slot_there is.parent.file is.parent.number is.pointer part is.at;
          parent = is.parent;
          here = found.2;
          reached = is.reached;
          link = is.link;
        },
      )

  -- there is one such list
  one_list : (list other : ℕ) → IsListBefore parts k list → IsListBefore parts k other → list ≡ other
  one_list list other is is' = elim (cases_lt list other) [
    | inl less ↦ absurd (is.nearest other less is'.before is'.kind)
    | inr not_less ↦ elim (cases_lt other list) [
      | inl more ↦ absurd (is'.nearest list more is.before is.kind)
      | inr not_more ↦ omega arith
    ]
  ]

  -- before list 0 there is none of its file
  none_first : (list : ℕ) → IsFirstList data_disk reserved present store accepted.described part → IsListBefore parts k list → ⊥
  none_first list first is =
      let zero : rank_of (part_of parts k).kind (part_of parts k).number ≡ 0 = ap (λ kind. rank_of kind (part_of parts k).number) first.kind ∙ ap (rank_of AList) first.number in
      omega (arith, zero, rank_below parts stands.ordered list k is.before inside is.file)

  pub held_by_list : (holder : Holder) (list : ℕ) → IsListBefore parts k list → holder.entry ≡ false → holder.place ≡ slice_index before.available (slice_index at list)
      → holder.slot ≡ dos_slot (part_of parts k).kind (part_of parts k).number → IsHolder (dos_meaning data_disk reserved) present store part holder
  held_by_list holder list is entry place slot = ⊎_elim (λ first. absurd (none_first list first is)) (λ in_list. inr (by_list (named_by in_list))) from
    where
      by_list : (found : ℕ) × IsNamedBy found → IsHeldByUnit (dos_meaning data_disk reserved) present store part holder
      by_list found =
          let same = one_list list found.0 is found.1.is_before in
          record {
            parent = found.1.parent;
            entry = entry;
            reached = found.1.reached;
            link = ap (link_from (dos_meaning data_disk reserved) store found.1.parent) (slot ∙ found.1.slot) ∙ found.1.link;
            place = place ∙ ap (λ places. slice_index places (slice_index at list)) (sym (same_available before present frame))
                ∙ ap (λ n. slice_index present.available (slice_index at n)) same ∙ sym (ap (λ (p : Part). p.place) found.1.here);
          }

  pub held_by_entry : (holder : Holder) → ((list : ℕ) → IsListBefore parts k list → ⊥) → holder.entry ≡ true → holder.place ≡ (entry_of before (part_of parts k).file).place
      → holder.slot ≡ (entry_of before (part_of parts k).file).slot → IsHolder (dos_meaning data_disk reserved) present store part holder
  held_by_entry holder none entry place slot =
      ⊎_elim (λ first. inl (by_entry first)) (λ in_list. let found = named_by in_list in absurd (none found.0 found.1.is_before)) from
    where
      by_entry : IsFirstList data_disk reserved present store accepted.described part → IsHeldByEntry present part holder
      by_entry first = record {
        entry = entry;
        inside = first.inside;
        root = first.root;
        place = place ∙ sym (same_entry_place before present frame (part_of parts k).file);
        slot = slot ∙ sym (same_entry_slot before present frame (part_of parts k).file);
      }

-- where the answers stand, whatever the device told
module _ (data_disk : Bool) (reserved : List Bool) (vtoc : List ℕ) (all : List Entry) (on_track : AreOnTrack all) where
  pub entry_place : (parts : List Part) (k : ℕ) (d : Part) (place : ℕ) → k < length parts → All (λ (p : Part). p.file < entries (dos_directory data_disk reserved vtoc all)) parts
      → place ≡ (entry_of (dos_directory data_disk reserved vtoc all) (get_or parts k d).file).place → place < 560
  entry_place parts k d place inside files is =
      omega (arith, is, (dos_is_directory data_disk reserved vtoc all on_track).entry_below (get_or parts k d).file (files k d inside))

  pub entry_slot : (parts : List Part) (k : ℕ) (d : Part) (holder : Holder) → k < length parts → All (λ (p : Part). p.file < entries (dos_directory data_disk reserved vtoc all)) parts
      → holder.entry ≡ true → holder.slot ≡ (entry_of (dos_directory data_disk reserved vtoc all) (get_or parts k d).file).slot → HasDosSlot holder.entry holder.slot
  entry_slot parts k d holder inside files entry is = subst (λ b. HasDosSlot b holder.slot) (sym entry)
      (subst (λ s. HasDosSlot true s) (sym is) ((dos_is_directory data_disk reserved vtoc all on_track).entry_slot (get_or parts k d).file (files k d inside)))

pub list_place : (data_disk : Bool) (reserved : List Bool) (at : List ℕ) (list place places : ℕ) → IsLayout at places → places ≡ length (dos_available data_disk reserved) → list < length at
    → place ≡ slice_index (dos_available data_disk reserved) (slice_index at list) → place < 560
list_place data_disk reserved at list place places layout size inside is =
    let number : slice_index at list < length (dos_available data_disk reserved) = omega (arith, size, layout.below list 0 inside) in
    omega (
      arith,
      is,
      ((available_of data_disk reserved (slice_index (dos_available data_disk reserved) (slice_index at list))).0
          (slice_index at list, number, get_or_default (dos_available data_disk reserved) (slice_index at list) (slice_index (dos_available data_disk reserved) (slice_index at list)) 0 number)).0,
    )
