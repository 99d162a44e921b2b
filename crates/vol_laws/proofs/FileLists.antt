-- The list of files after an entry is entered, has left, or is rewritten.
use Rattle.std.specs.Prelude.{◌≡◌, ◌<◌, ◌≤◌, ℕ, not, Bool, false, List, length, map, take, filter, All}
use Rattle.std.specs.List.{AllZip}
use Rattle.std.proofs.Common.{refl, sym, ◌∙◌, ap, subst, arith}
use Rattle.std.proofs.lemmas.List.{get_or_default, length-map, take-map}
use Rattle.std.proofs.lemmas.List.Elements.{All-filter}
use Rattle.a2_device.specs.Device.{unit_at}
use Rattle.a2_device.specs.declared.part.Part.{Part}
use Rattle.vol_format.specs.declared.link.Link.{Link}
use Rattle.vol_format.specs.declared.link.Link.TheVariants.{Null, Wild, Directory as ToDirectory, OtherType, To}
use Rattle.vol_format.specs.Accepted.{IsAccepted}
use Rattle.vol_format.specs.Directory.{Directory, Listed, no_entry, entries, entry_of, is_directory, leads_to_directory, files}
use Rattle.vol_format.specs.Laws.{IsReadable, IsMovable}
use Rattle.vol_format.specs.Meaning.{Meaning}
use Rattle.vol_format.specs.Files.{File, IsFiles}
use Rattle.vol_laws.specs.EditLaws.{IsFileFree}
use Rattle.vol_laws.specs.Entered.{HasSameRest}
use Rattle.vol_laws.specs.FilesOf.{IsFileOf, file_of, no_file, rewritten_files}
use Rattle.vol_laws.specs.Inserted.{refiled, insert_at, inserted, shifted, shifted_link, shifted_entry, rewritten, files_before}
use Rattle.vol_laws.specs.PartsOf.{PartOf}
use Rattle.vol_laws.proofs.FilesOf.{by_entries, by_numbers, file_stays, file_was, file_goes, file_came}
use Rattle.vol_laws.proofs.Filtered.{filter_insert, filter_map_same, length-filter_take, place_in_filter}
use Rattle.vol_laws.proofs.Parts.{sound_of}
use Rattle.vol_laws.proofs.Renumbered.{FilesOwn, shifted_is_refiled}
use Rattle.vol_laws.proofs.Rewriting.{new_entry, files_rewritten}
use Rattle.vol_laws.proofs.Zipped.{zipped_where, zipped_of_map, map_of_zipped, zipped_insert, zipped_without, zipped_set, zipped_at}

abbrev pub is_file : Listed → Bool
is_file entry = not (is_directory entry)

pub same_kind : (at : ℕ) (entry : Listed) → is_file (shifted_entry at entry) ≡ is_file entry
same_kind at entry = ap not (of_link entry.root)
  where
    of_link : (link : Link) → leads_to_directory (shifted_link at link) ≡ leads_to_directory link
    of_link (To part) = refl
    of_link Null = refl
    of_link Wild = refl
    of_link ToDirectory = refl
    of_link OtherType = refl

-- the entries that are files', with one more
files_more : (few : Directory) (at : ℕ) (entry : Listed) → is_directory entry ≡ false → at ≤ entries few
    → files (inserted few at entry) ≡ insert_at (files_before few at) entry (map (shifted_entry at) (files few))
files_more few at entry file within =
    filter_insert is_file at entry (map (shifted_entry at) few.listed) (ap not file) (omega (arith, within, length-map few.listed (shifted_entry at)))
    ∙ ap (λ l. insert_at (length (filter is_file l)) entry (filter is_file (map (shifted_entry at) few.listed))) (take-map (shifted_entry at) at few.listed)
    ∙ ap (λ l. insert_at (length l) entry (filter is_file (map (shifted_entry at) few.listed))) (filter_map_same is_file (shifted_entry at) (take at few.listed) (same_kind at))
    ∙ ap (λ n. insert_at n entry (filter is_file (map (shifted_entry at) few.listed))) (length-map (filter is_file (take at few.listed)) (shifted_entry at))
    ∙ ap (insert_at (files_before few at) entry) (filter_map_same is_file (shifted_entry at) few.listed (same_kind at))

-- The parts of an entry are of one file, and their units are the same in both stores.
record IsCarried (format : Meaning) (less more : List (List ℕ)) (entry : Listed) : Type 0 where
  file : ℕ
  own : (part : Part) → entry.root ≡ To part → part.file ≡ file
  units : (part : Part) → PartOf format less entry.root part → unit_at more part.place ≡ unit_at less part.place

carried_all : (format : Meaning) (directory : Directory) (less more : List (List ℕ)) → FilesOwn directory → IsAccepted format directory less → HasSameRest directory less more
    → All (IsCarried format less more) (files directory)
carried_all format directory less more own accepted rest = All-filter is_file (IsCarried format less more) directory.listed (λ k d inside.
    subst (IsCarried format less more) (get_or_default directory.listed k no_entry d inside) (record {
      file = k;
      own = own k;
      units = λ part reach. rest.units part.place ((sound_of format directory less k accepted inside).sound part reach).outside_system;
    }))

module _ (format : Meaning) (free : IsFileFree format) (at : ℕ) (less more : List (List ℕ)) (size : length more ≡ length less) where
  shifted_is : (entry : Listed) (carried : IsCarried format less more entry) → record entry { root = refiled (shifted at carried.file) entry.root } ≡ shifted_entry at entry
  shifted_is entry carried = ap (λ (link : Link). record entry { root = link }) (sym (shifted_is_refiled at carried.file entry.root carried.own))

  carried_goes : (entry : Listed) (file : File) → IsCarried format less more entry → IsFileOf format less entry file → IsFileOf format more (shifted_entry at entry) file
  carried_goes entry file carried is =
      subst (λ e. IsFileOf format more e file) (shifted_is entry carried)
      (file_goes format free more (shifted at carried.file) entry file (file_stays format less more size entry carried.units file is))

  carried_came : (entry : Listed) (file : File) → IsCarried format less more entry → IsFileOf format more (shifted_entry at entry) file → IsFileOf format less entry file
  carried_came entry file carried is =
      file_was format less more size entry carried.units file
      (file_came format free more (shifted at carried.file) entry file (subst (λ e. IsFileOf format more e file) (sym (shifted_is entry carried)) is))

module _ (format : Meaning) (laws : IsReadable format) (movable : IsMovable format) where
  module _ (free : IsFileFree format) (few : Directory) (at : ℕ) (entry : Listed) (is_of_file : is_directory entry ≡ false) (within : at ≤ entries few) where
    before_within : files_before few at ≤ length (map (shifted_entry at) (files few))
    before_within = omega (arith, length-filter_take is_file at few.listed, length-map (files few) (shifted_entry at))

    -- One file more, and the others are what they were.
    pub files_entered : (old new : List (List ℕ)) (value : File) (all : List File) → IsAccepted format few old → HasSameRest few old new
        → format.Describes new (inserted few at entry) → IsFileOf format new entry value → IsFiles format few old all
        → IsFiles format (inserted few at entry) new (insert_at (files_before few at) value all)
    files_entered old new value all accepted rest described is are =
        let own = (movable.described old few accepted.described).root_file in
        by_numbers format laws (inserted few at entry) new (movable.described new (inserted few at entry) described).root_file (insert_at (files_before few at) value all)
        (subst (λ l. AllZip (IsFileOf format new) l (insert_at (files_before few at) value all)) (sym (files_more few at entry is_of_file within))
        (zipped_insert (IsFileOf format new) (files_before few at) entry value (map (shifted_entry at) (files few)) all before_within is
        (map_of_zipped (shifted_entry at) (IsFileOf format new) (files few) all
        (zipped_where (IsCarried format old new) (IsFileOf format old) (λ e. IsFileOf format new (shifted_entry at e)) (carried_goes format free at old new rest.size)
        (files few) all (carried_all format few old new own accepted rest) (by_entries format laws few old own all are)))))

    -- One file less: the one that has left.
    pub files_left : (old new : List (List ℕ)) (all : List File) → IsAccepted format few new → HasSameRest few old new
        → format.Describes old (inserted few at entry) → IsFiles format (inserted few at entry) old all
        → (value : File) × (others : List File) × (all ≡ insert_at (files_before few at) value others) × IsFileOf format old entry value × IsFiles format few new others
    files_left old new all accepted rest described are =
        let back : HasSameRest few new old = record { size = sym rest.size; units = λ place outside. sym (rest.units place outside) } in
        let own = (movable.described new few accepted.described).root_file in
        let out = zipped_without (IsFileOf format old) (files_before few at) entry (map (shifted_entry at) (files few)) all before_within
        (subst (λ l. AllZip (IsFileOf format old) l all) (files_more few at entry is_of_file within)
        (by_entries format laws (inserted few at entry) old (movable.described old (inserted few at entry) described).root_file all are)) in (
          out.0,
          out.1,
          out.2,
          out.3,
          by_numbers format laws few new own out.1
              (zipped_where (IsCarried format new old) (λ e. IsFileOf format old (shifted_entry at e)) (IsFileOf format new) (carried_came format free at new old back.size)
              (files few) out.1 (carried_all format few new old own accepted back) (zipped_of_map (shifted_entry at) (IsFileOf format old) (files few) out.1 out.4)),
        )

  -- One file under another path or with other bytes.
  pub list_rewritten : (directory : Directory) (old new : List (List ℕ)) (file : ℕ) (path bytes : List ℕ) (all : List File) → file < entries directory
      → is_directory (entry_of directory file) ≡ false → IsAccepted format directory old → HasSameRest directory old new
      → format.Describes new (rewritten directory file path bytes) → IsFiles format directory old all
      → IsFiles format (rewritten directory file path bytes) new (rewritten_files all (files_before directory file) path bytes)
  list_rewritten directory old new file path bytes all inside is_of_file accepted rest described are =
      let own = (movable.described old directory accepted.described).root_file in
      let carried : AllZip (IsFileOf format new) (files directory) all =
      zipped_where (IsCarried format old new) (IsFileOf format old) (IsFileOf format new) (λ e f carried is. file_stays format old new rest.size e carried.units f is)
      (files directory) all (carried_all format directory old new own accepted rest) (by_entries format laws directory old own all are) in
      let place = place_in_filter is_file file no_entry directory.listed inside (ap not is_of_file) in
      let was : IsFileOf format new (entry_of directory file) (file_of all (files_before directory file)) =
      subst (λ e. IsFileOf format new e (file_of all (files_before directory file))) place.1
      (zipped_at (IsFileOf format new) (files_before directory file) no_entry no_file (files directory) all place.0 carried) in
      by_numbers format laws (rewritten directory file path bytes) new (movable.described new (rewritten directory file path bytes) described).root_file
      (rewritten_files all (files_before directory file) path bytes)
      (subst (λ l. AllZip (IsFileOf format new) l (rewritten_files all (files_before directory file) path bytes)) (sym (files_rewritten directory file path bytes inside is_of_file))
      (zipped_set (IsFileOf format new) (files_before directory file) (new_entry directory file path bytes)
      (record (file_of all (files_before directory file)) { path = path; bytes = bytes }) (files directory) all
      (record { path = refl; bytes = refl; members = was.members; rising = was.rising }) carried))
