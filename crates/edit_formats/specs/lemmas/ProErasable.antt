-- In ProDOS the entry of a file is erased by a write to its block and one to the key block of its directory, which may be the same.
use Rattle.std.specs.Prelude.{◌≡◌, ◌≢◌, ◌<◌, ◌-◌, ◌==◌, ℕ, Bool, true, false, if◌then◌else◌, List, [], ◌∷◌, length, slice_set, Contains}
use Rattle.std.proofs.Common.{refl, sym, ◌∙◌, ap, subst, arith, inl, inr}
use Rattle.std.proofs.lemmas.Bool.{cases_eq, eqb-true, eqb-false}
use Rattle.std.proofs.lemmas.List.{length-set, set-set, get_or-set_same, get_or-set_other}
use Rattle.std.proofs.lemmas.List.Elements.{All-nil, All-cons}
use Rattle.a2_device.specs.Device.{unit_at}
use Rattle.pro_dir.specs.declared.entry.Entry.{Entry}
use Rattle.pro_dir.specs.Entry.{word}
use Rattle.pro_dir.specs.Parents.{entry_in}
use Rattle.pro_dir.specs.Volume.{Directory as Tree}
use Rattle.pro_dir.specs.Writes.{slot_offset}
use Rattle.pro_dir.specs.lemmas.VolumeLaws.{one_directory}
use Rattle.vol_format.specs.Directory.{Directory, Listed, entries, entry_of, is_directory, map_place}
use Rattle.pro_format.specs.Pro.{DescribesPro, TakesBlocks, no_slot, pro_meaning}
use Rattle.pro_format.specs.lemmas.ProDescribed.{block_below}
use Rattle.pro_format.specs.lemmas.ProLaws.{total_is}
use Rattle.pro_format.specs.lemmas.ProMarks.{places_is, map_block, map_place-pro}
use Rattle.vol_laws.specs.Entered.{HasSameRest}
use Rattle.pro_format.specs.Slots.{IsSlotOf, HasOneEntryLess, HasSameDirectory}
use Rattle.pro_format.proofs.EntryNumbers.{number_inside, entry_is}
use Rattle.pro_format.proofs.EntrySlots.{HasSlot, each_slot_of}
use Rattle.pro_format.proofs.ErasedEntries.{pro_leaves}
use Rattle.pro_format.proofs.FileCounts.{pro_counts}
use Rattle.pro_format.proofs.Owners.{own_key}
use Rattle.pro_format.proofs.SlotLaws.{slot_inside}
use Rattle.vol_laws.specs.Writes.{Write, store_after}
use Rattle.edit_formats.specs.Erasing.{HasWholeUnits, IsErasing, IsErasable}
use Rattle.edit_formats.specs.declared.counting.FileCount.TheVariants.{Less}
use Rattle.edit_formats.specs.Counting.{counting}
use Rattle.edit_formats.specs.ProErasing.{without_entry, pro_erasing, pro_erasures}
use Rattle.edit_formats.specs.lemmas.Fronts.{one_front, two_fronts}

module _ (reserved : List Bool) (store : List (List ℕ)) (directory : Directory) (described : DescribesPro reserved store directory) (file : ℕ)
    (inside : file < entries directory) (is_file : is_directory (entry_of directory file) ≡ false) (whole : HasWholeUnits (pro_meaning reserved) store) where
  abbrev tree : Tree
  tree = described.tree

  abbrev own : Entry
  own = entry_in described.tree.entries file

  within : file < length tree.entries
  within = number_inside reserved store directory described file inside

  here : HasSlot store tree.entries own
  here = each_slot_of store tree.blocks tree.entries described.described.tree file no_slot within

  -- its block and the key block of its directory are blocks of the directories
  block_has : Contains tree.blocks own.place
  block_has = slot_inside store tree.blocks tree.entries described.described.tree own.directory own.place own.slot here.key here.is

  key_has : Contains tree.blocks own.directory
  key_has =
      let second : IsSlotOf store own.directory own.directory 1 = record {
        own = here.is.own;
        run = here.is.run;
        has = own_key store own.directory here.is.own here.is.run;
        below = omega arith;
        no_header = λ first same. omega (arith, first);
      } in
      slot_inside store tree.blocks tree.entries described.described.tree own.directory own.directory 1 here.key second

  below : (block : ℕ) → Contains tree.blocks block → block < length store
  below block has = (block_below store tree.blocks tree.entries described.described.tree block has).1

  -- the entry is erased
  abbrev emptied : List ℕ
  emptied = without_entry own.slot (unit_at store own.place)

  abbrev one : List (List ℕ)
  one = slice_set store own.place emptied

  less : HasOneEntryLess reserved tree.entries directory store one file
  less =
      let listed = entry_is reserved store directory described file within in
      subst (λ (e : Listed). HasOneEntryLess reserved tree.entries directory store (slice_set store e.place (slice_set (unit_at store e.place) (slot_offset e.slot) 0)) file) listed
      (pro_leaves reserved store directory described file inside is_file
      (whole (entry_of directory file).place (subst (λ (e : Listed). e.place < length store) (sym listed) (below own.place block_has))))

  -- and the directory counts one file less
  key_whole : length (unit_at one own.directory) ≡ 512
  key_whole = elim (cases_eq own.directory own.place) [
    | inl same ↦
        ap (λ p. length (unit_at one p)) same
        ∙ ap length (get_or-set_same store own.place emptied [] (below own.place block_has))
        ∙ length-set (unit_at store own.place) (slot_offset own.slot) 0
        ∙ whole own.place (below own.place block_has)
    | inr apart ↦
        ap length (get_or-set_other store own.place own.directory emptied [] apart)
        ∙ whole own.directory (below own.directory key_has)
  ]

  abbrev both : List (List ℕ)
  both = slice_set one own.directory (counting Less (unit_at one own.directory))

  counted : HasSameDirectory reserved less.few one both
  counted = pro_counts reserved one less.few less.described own.directory (word (unit_at one own.directory) 0x25 - 1)
      (less.directories less.described.tree own.directory less.described.described here.key) key_whole

  both_rest : HasSameRest less.few store both
  both_rest = record {
    size = counted.rest.size ∙ less.rest.size;
    units = λ place outside. counted.rest.units place outside ∙ less.rest.units place outside;
  }

  takes : TakesBlocks less.few.places
  takes =
      let same : less.few.places ≡ length store =
      sym (ap (λ (d : Directory). d.places) less.is) ∙ places_is reserved store directory described ∙ total_is reserved store directory described in
      (omega (arith, same, described.size.0), omega (arith, same, described.size.1))

  no_mark : (block place : ℕ) → Contains tree.blocks block → place < directory.places → block ≢ map_place directory place
  no_mark block place has inside' same =
      let total = places_is reserved store directory described in
      let at = map_place-pro reserved store directory described place inside' in
      (map_block reserved store directory described (map_place directory place) (omega (arith, at)) (omega (arith, at, inside', total))).1 (subst (Contains tree.blocks) same has)

  -- in one write, where both stand in one block
  one_write : own.place ≡ own.directory → IsErasing (pro_meaning reserved) directory file store (record { place = own.place; unit = counting Less emptied } ∷ [])
  one_write same =
      let write : Write = record { place = own.place; unit = counting Less emptied } in
      let there : unit_at one own.directory ≡ emptied = ap (unit_at one) (sym same) ∙ get_or-set_same store own.place emptied [] (below own.place block_has) in
      let is : both ≡ store_after (write ∷ []) store =
      ap (λ u. slice_set one own.directory (counting Less u)) there
      ∙ ap (λ p. slice_set one p (counting Less emptied)) (sym same)
      ∙ set-set store own.place emptied (counting Less emptied) in
      record {
        few = less.few;
        takes = takes;
        within = less.within;
        is = less.is;
        erases = omega arith;
        described = one_front (λ (s : List (List ℕ)). DescribesPro reserved s less.few) store write
            (subst (λ (s : List (List ℕ)). DescribesPro reserved s less.few) is counted.described);
        rest = one_front (HasSameRest less.few store) store write (subst (HasSameRest less.few store) is both_rest);
        apart = λ place inside'. All-cons (λ (w : Write). w.place ≢ map_place directory place) write [] (no_mark own.place place block_has inside')
            (All-nil (λ (w : Write). w.place ≢ map_place directory place));
      }

  -- in two, where they stand in two
  two_writes : own.place ≢ own.directory → IsErasing (pro_meaning reserved) directory file store
      (record { place = own.place; unit = emptied } ∷ record { place = own.directory; unit = counting Less (unit_at store own.directory) } ∷ [])
  two_writes apart =
      let first : Write = record { place = own.place; unit = emptied } in
      let second : Write = record { place = own.directory; unit = counting Less (unit_at store own.directory) } in
      let is : both ≡ store_after (first ∷ second ∷ []) store =
      ap (λ u. slice_set one own.directory (counting Less u)) (get_or-set_other store own.place own.directory emptied [] (λ same. apart (sym same))) in
      record {
        few = less.few;
        takes = takes;
        within = less.within;
        is = less.is;
        erases = omega arith;
        described = two_fronts (λ (s : List (List ℕ)). DescribesPro reserved s less.few) store first second less.described
            (subst (λ (s : List (List ℕ)). DescribesPro reserved s less.few) is counted.described);
        rest = two_fronts (HasSameRest less.few store) store first second less.rest (subst (HasSameRest less.few store) is both_rest);
        apart = λ place inside'. All-cons (λ (w : Write). w.place ≢ map_place directory place) first (second ∷ []) (no_mark own.place place block_has inside')
            (All-cons (λ (w : Write). w.place ≢ map_place directory place) second [] (no_mark own.directory place key_has inside')
            (All-nil (λ (w : Write). w.place ≢ map_place directory place)));
      }

  erased_entry : IsErasing (pro_meaning reserved) directory file store (pro_erasing own store)
  erased_entry = by_test (own.place == own.directory) refl
    where
      by_test : (b : Bool) → (own.place == own.directory) ≡ b → IsErasing (pro_meaning reserved) directory file store
          (if b then record { place = own.place; unit = counting Less emptied } ∷ []
          else (record { place = own.place; unit = emptied } ∷ record { place = own.directory; unit = counting Less (unit_at store own.directory) } ∷ []))
      by_test true same = one_write (eqb-true own.place own.directory same)
      by_test false apart = two_writes (eqb-false own.place own.directory apart)

pub pro_is_erasable : (reserved : List Bool) → IsErasable (pro_meaning reserved) pro_erasures
pro_is_erasable reserved = record {
  erasing = λ store directory file writes described inside is_file whole erases.
      subst (IsErasing (pro_meaning reserved) directory file store)
      (sym (erases.are ∙ ap (λ (t : Tree). pro_erasing (entry_in t.entries file) store) (one_directory store described.tree erases.tree described.described erases.described)))
      (erased_entry reserved store directory described file inside is_file whole);
}
