-- The entry of a new directory, whose unit is the system's from now on: the files are what they were.
use Rattle.std.specs.Prelude.{◌≡◌, ◌≢◌, ◌≤◌, ◌<◌, ℕ, Bool, true, false, List, [], ◌∷◌, length, map, filter, All}
use Rattle.std.specs.Prelude.{suc, zero}
use Rattle.std.specs.List.{AllZip}
use Rattle.std.proofs.Common.{sym, ◌∙◌, ap, subst, cond, inl, inr}
use Rattle.std.proofs.lemmas.Bool.{cases_eq}
use Rattle.std.proofs.lemmas.List.{get_or_default, get_or-set_other}
use Rattle.std.proofs.lemmas.List.Elements.{All-filter}
use Rattle.a2_device.specs.Device.{unit_at}
use Rattle.a2_device.specs.declared.part.Part.{Part}
use Rattle.vol_format.specs.declared.link.Link.{Link}
use Rattle.vol_format.specs.declared.link.Link.TheVariants.{Wild, Directory as ToDirectory, OtherType, To}
use Rattle.vol_format.specs.Accepted.{IsAccepted}
use Rattle.vol_format.specs.Directory.{Directory, Listed, no_entry, entries, root_of, is_free, is_system, files}
use Rattle.vol_format.specs.Files.{File, IsFiles}
use Rattle.vol_format.specs.Laws.{IsReadable, IsMovable}
use Rattle.vol_format.specs.Meaning.{Meaning, link_from}
use Rattle.vol_format.specs.Reach.{Reach}
use Rattle.vol_laws.specs.EditLaws.{IsFileFree}
use Rattle.vol_laws.specs.Entered.{HasSameRest, HasSameOthers}
use Rattle.vol_laws.specs.FilesOf.{IsFileOf}
use Rattle.vol_laws.specs.Inserted.{refiled, insert_at, inserted, shifted, shifted_part, shifted_entry}
use Rattle.vol_laws.specs.Kept.{IsUnreached}
use Rattle.vol_laws.specs.PartsOf.{PartOf, top, below, IsSoundFile}
use Rattle.vol_laws.proofs.FileLists.{is_file, same_kind}
use Rattle.vol_laws.proofs.FilesOf.{by_entries, by_numbers, file_goes, file_stays}
use Rattle.vol_laws.proofs.Filtered.{filter_map_same}
use Rattle.vol_laws.proofs.Parts.{reach_of, of_reach, sound_of, wild_refiled, other_type_refiled}
use Rattle.vol_laws.proofs.Renumbered.{FilesOwn, root_here, root_other, was_file, shifted_is_refiled, others_same}
use Rattle.vol_laws.proofs.Zipped.{zipped_where, map_of_zipped}
use Rattle.file_edits.specs.WithDirectory.{with_directory, HasNewDirectory}

-- a directory has no parts
no_part : (format : Meaning) (store : List (List ℕ)) (root : Link) (part : Part) → root ≡ ToDirectory → PartOf format store root part → ⊥
no_part format store root part leads (top is) = cc
no_part format store root part leads (below {parent} i reach is) = no_part format store root parent leads reach

-- an element that does not pass is none of those that do
filter_out : {X : Type 0} (p : X → Bool) (i : ℕ) (x : X) (xs : List X) → p x ≡ false → filter p (insert_at i x xs) ≡ filter p xs
filter_out p zero x xs out = ap (λ b. cond b (x ∷ filter p xs) (filter p xs)) out
filter_out p (suc i) x [] out = ap (λ b. cond b (x ∷ []) []) out
filter_out p (suc i) x (y ∷ ys) out = ap (λ l. cond (p y) (y ∷ l) l) (filter_out p i x ys out)

module _ (format : Meaning) (laws : IsReadable format) (movable : IsMovable format) (free : IsFileFree format)
    (few : Directory) (at : ℕ) (entry : Listed) (place : ℕ) (old new : List (List ℕ)) (within : at ≤ entries few) (leads : entry.root ≡ ToDirectory)
    (accepted : IsAccepted format few old) (unreached : IsUnreached format few old place) (rest : HasSameRest few old new)
    (described : format.Describes new (with_directory few at entry place)) where
  abbrev many : Directory
  many = inserted few at entry

  abbrev made : Directory
  made = with_directory few at entry place

  own : FilesOwn few
  own = (movable.described old few accepted.described).root_file

  was_sound : (f : ℕ) → f < entries few → IsSoundFile format few old (root_of few f)
  was_sound f inside = sound_of format few old f accepted inside

  first : (part : Part) → entry.root ≡ To part → part.file ≡ at
  first part is = absurd (no_part format old entry.root part leads (top is))

  others : HasSameOthers format few at entry old new
  others = others_same few at entry within own format laws free old new rest.size was_sound rest.units first

  -- the parts are those of the entries, whatever is the system's
  as_many : (part : Part) → Reach format made new part → Reach format many new part
  as_many part reach =
      let of = of_reach format made new part reach in
      reach_of format many new of.0 part of.1 of.2

  as_made : (part : Part) → Reach format many new part → Reach format made new part
  as_made part reach =
      let of = of_reach format many new part reach in
      reach_of format made new of.0 part of.1 of.2

  came : (part : Part) → Reach format made new part → (other : Part) × Reach format few old other × (part ≡ shifted_part at other)
  came part reach = elim (others.all part (as_many part reach)) [
    | inl mine ↦ absurd (no_part format new entry.root part leads mine)
    | inr was ↦ was
  ]

  -- what a pointer of a part names
  link_is : (part : Part) (i : ℕ) → Reach format few old part → link_from format new (shifted_part at part) i ≡ refiled (shifted at part.file) (link_from format old part i)
  link_is part i reach =
      ap (λ n. format.child n (shifted_part at part) (unit_at new part.place) i) rest.size
      ∙ ap (λ u. format.child (length old) (shifted_part at part) u i) (others.units part reach)
      ∙ free.child_refiled (length old) part (unit_at old part.place) i (shifted at part.file)

  outside : (part : Part) → Reach format few old part → is_system made part.place ≡ false
  outside part reach = get_or-set_other few.system place part.place true true (unreached part reach) ∙ (accepted.sound part reach).outside_system

  no_wild : (file : ℕ) → file < entries made → root_of made file ≢ Wild
  no_wild file inside wild = elim (cases_eq file at) [
    | inl here ↦
        let same : entry.root ≡ Wild = sym (root_here few at entry within) ∙ ap (root_of many) (sym here) ∙ wild in
        let none : ToDirectory ≡ Wild = sym leads ∙ same in
        cc
    | inr differ ↦
        let was = was_file few at entry within file inside differ in
        accepted.no_wild was.0 was.1 (wild_refiled format free old (shifted at was.0) (root_of few was.0) (sym (root_other few at entry within own was.0) ∙ ap (root_of many) (sym was.2) ∙ wild))
  ]

  no_other_type : (file : ℕ) → file < entries made → root_of made file ≢ OtherType
  no_other_type file inside other = elim (cases_eq file at) [
    | inl here ↦
        let same : entry.root ≡ OtherType = sym (root_here few at entry within) ∙ ap (root_of many) (sym here) ∙ other in
        let none : ToDirectory ≡ OtherType = sym leads ∙ same in
        cc
    | inr differ ↦
        let was = was_file few at entry within file inside differ in
        accepted.no_other_type was.0 was.1 (other_type_refiled format free old (shifted at was.0) (root_of few was.0) (sym (root_other few at entry within own was.0) ∙ ap (root_of many) (sym was.2) ∙ other))
  ]

  made_accepted : IsAccepted format made new
  made_accepted = record {
    described = described;
    no_wild = no_wild;
    no_other_type = no_other_type;
    sound = λ part reach.
        let was = came part reach in
        let so = accepted.sound was.0 was.1 in
        record {
          no_wild = λ i wild. so.no_wild i (wild_refiled format free old (shifted at was.0.file) (link_from format old was.0 i)
              (sym (link_is was.0 i was.1) ∙ ap (λ x. link_from format new x i) (sym was.2) ∙ wild));
          outside_system = ap (λ (x : Part). is_system made x.place) was.2 ∙ outside was.0 was.1;
          marked = ap (λ (x : Part). is_free few x.place) was.2 ∙ so.marked;
        };
    once = λ part other reach reach' same.
        let was = came part reach in
        let was' = came other reach' in
        was.2
        ∙ ap (shifted_part at) (accepted.once was.0 was'.0 was.1 was'.1 (sym (ap (λ (x : Part). x.place) was.2) ∙ same ∙ ap (λ (x : Part). x.place) was'.2))
        ∙ sym was'.2;
  }

  -- the files of the entries
  record IsCarried (listed : Listed) : Type 0 where
    file : ℕ
    own' : (part : Part) → listed.root ≡ To part → part.file ≡ file
    units : (part : Part) → PartOf format old listed.root part → unit_at new part.place ≡ unit_at old part.place

  carried : All IsCarried (files few)
  carried = All-filter is_file IsCarried few.listed (λ k d inside.
      subst IsCarried (get_or_default few.listed k no_entry d inside) (record {
        file = k;
        own' = own k;
        units = λ part reach. rest.units part.place ((was_sound k inside).sound part reach).outside_system;
      }))

  goes : (listed : Listed) (file : File) → IsCarried listed → IsFileOf format old listed file → IsFileOf format new (shifted_entry at listed) file
  goes listed file so is =
      subst (λ e. IsFileOf format new e file) (ap (λ (link : Link). record listed { root = link }) (sym (shifted_is_refiled at so.file listed.root so.own')))
      (file_goes format free new (shifted at so.file) listed file (file_stays format old new rest.size listed so.units file is))

  same_files : files made ≡ map (shifted_entry at) (files few)
  same_files =
      filter_out is_file at entry (map (shifted_entry at) few.listed) (ap (λ (link : Link). is_file (record entry { root = link })) leads)
      ∙ filter_map_same is_file (shifted_entry at) few.listed (same_kind at)

  files_stay : (all : List File) → IsFiles format few old all → IsFiles format made new all
  files_stay all are =
      by_numbers format laws made new (movable.described new made described).root_file all
      (subst (λ l. AllZip (IsFileOf format new) l all) (sym same_files)
      (map_of_zipped (shifted_entry at) (IsFileOf format new) (files few) all
      (zipped_where IsCarried (IsFileOf format old) (λ e. IsFileOf format new (shifted_entry at e)) goes (files few) all carried (by_entries format laws few old own all are))))

  pub directory_made : HasNewDirectory format few at entry place old new
  directory_made = record {
    accepted = made_accepted;
    goes = λ part reach. as_made (shifted_part at part) ((others.others part).0 reach);
    came = came;
    units = others.units;
    files = files_stay;
  }
