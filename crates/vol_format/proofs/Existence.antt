-- A volume whose parts are known has its list of files.
use Rattle.std.specs.Prelude.{◌≡◌, ◌<◌, ℕ, ◌==◌, ◌&&◌, Bool, true, false, List, length, map, filter, Contains}
use Rattle.std.proofs.Common.{refl, ◌∙◌, ap, arith, subst, get_or, ⊎_elim}
use Rattle.std.proofs.lemmas.Bool.Decides.{nat_tests}
use Rattle.std.proofs.lemmas.List.{get_or-map, length-map}
use Rattle.std.proofs.lemmas.List.Kept.{AllPairs-filter}
use Rattle.a2_device.specs.Device.{unit_at}
use Rattle.a2_device.specs.declared.part.Part.{Part}
use Rattle.a2_device.specs.declared.part.PartKind.{PartKind}
use Rattle.a2_device.specs.declared.part.PartKind.TheVariants.{List as AList, Master, Index, Body}
use Rattle.vol_format.specs.Accepted.{IsAccepted}
use Rattle.vol_format.specs.Directory.{Directory, entry_of}
use Rattle.vol_format.specs.Laws.{IsReadable}
use Rattle.vol_format.specs.Meaning.{Meaning}
use Rattle.vol_format.specs.Reach.{Reach, Before, IsPartsOf}
use Rattle.vol_format.specs.Files.{Stored, File, IsStored, IsFile, file_numbers, HasFiles}
use Rattle.vol_format.proofs.Lists.{element, in_filter, out_of_filter, in_map, out_of_map, zipped_map}

abbrev is_body : PartKind → Bool
is_body Body = true
is_body kind = false

is_of_body : (kind : PartKind) → is_body kind ≡ true → kind ≡ Body
is_of_body AList is = absurd (cc)
is_of_body Master is = absurd (cc)
is_of_body Index is = absurd (cc)
is_of_body Body is = refl

both : (a b : Bool) → (a && b) ≡ true → (a ≡ true) × (b ≡ true)
both true b is = (refl, is)
both false b is = absurd (cc)

abbrev stored_at : List (List ℕ) → Part → Stored
stored_at store part = record { number = part.number; unit = unit_at store part.place }

abbrev is_body_of : ℕ → Part → Bool
is_body_of entry part = (part.file == entry) && is_body part.kind

some_part : Part
some_part = record { file = 0; kind = Body; number = 0; place = 0 }

module _ (format : Meaning) (laws : IsReadable format) (directory : Directory) (store : List (List ℕ)) (parts : List Part) (are : IsPartsOf format directory store parts) where
  abbrev bodies : ℕ → List Part
  bodies entry = filter (is_body_of entry) parts

  abbrev file_at : ℕ → File
  file_at entry = record { path = (entry_of directory entry).path; bytes = (entry_of directory entry).bytes; body = map (stored_at store) (bodies entry) }

  body_at : (entry : ℕ) (part : Part) → Contains (bodies entry) part → Reach format directory store part × (part.file ≡ entry) × (part.kind ≡ Body)
  body_at entry part has =
      let kept = out_of_filter (is_body_of entry) parts part has in
      let tests = both (part.file == entry) (is_body part.kind) kept.1 in
      ((are.members part).0 kept.0, same_number tests.0, is_of_body part.kind tests.1)
    where
      same_number : (part.file == entry) ≡ true → part.file ≡ entry
      same_number is = grind (arith, nat_tests)

  passes : (entry : ℕ) (part : Part) → part.file ≡ entry → part.kind ≡ Body → is_body_of entry part ≡ true
  passes entry part same body = ap (λ b. b && is_body part.kind) equal ∙ ap is_body body
    where
      equal : (part.file == entry) ≡ true
      equal = grind (arith, nat_tests)

  same_stored : (entry : ℕ) (stored : Stored) (is : IsStored format directory store entry stored) → stored_at store is.part ≡ stored
  same_stored entry stored is =
      ap (λ n. record { number = n; unit = unit_at store is.part.place }) is.numbered
      ∙ ap (λ (u : List ℕ). record { number = stored.number; unit = u }) is.stands

  is_file_at : (entry : ℕ) → IsFile format directory store entry (file_at entry)
  is_file_at entry = record {
    path = refl;
    bytes = refl;
    members = λ stored. (
      λ has.
          let from = out_of_map (stored_at store) (bodies entry) stored has in
          let body = body_at entry from.0 from.1 in
          record {
            part = from.0;
            reached = body.0;
            in_file = body.1;
            of_body = body.2;
            numbered = ap (λ (s : Stored). s.number) from.2;
            stands = ap (λ (s : Stored). s.unit) from.2;
          },
      λ is.
          let kept = in_filter (is_body_of entry) parts is.part ((are.members is.part).1 is.reached) (passes entry is.part is.in_file is.of_body) in
          subst (Contains (map (stored_at store) (bodies entry))) (same_stored entry stored is) (in_map (stored_at store) (bodies entry) is.part kept),
    );
    rising = λ i j d less within.
        let inside : j < length (bodies entry) = omega (arith, within, length-map (bodies entry) (stored_at store)) in
        let part = get_or (bodies entry) i some_part in
        let later = get_or (bodies entry) j some_part in
        let at = body_at entry part (element (bodies entry) i some_part (omega (arith, less, inside))) in
        let later_at = body_at entry later (element (bodies entry) j some_part inside) in
        let before : Before format part later = AllPairs-filter (Before format) (is_body_of entry) parts are.ordered i j some_part less inside in
        let less_number : part.number < later.number =
        ⊎_elim (λ files. absurd (omega (arith, files, at.1, later_at.1))) (λ ranks. laws.body_order part later at.2 later_at.2 ranks.1) before in
        let number = ap (λ (s : Stored). s.number) (get_or-map (stored_at store) (bodies entry) i some_part d (omega (arith, less, inside))) in
        let later_number = ap (λ (s : Stored). s.number) (get_or-map (stored_at store) (bodies entry) j some_part d inside) in
        omega (arith, number, later_number, less_number);
  }

  pub files_exist : IsAccepted format directory store → (files : List File) × HasFiles format store files
  files_exist accepted = (
    map file_at (file_numbers directory),
    record {
      directory = directory;
      accepted = accepted;
      are = zipped_map (IsFile format directory store) file_at is_file_at (file_numbers directory);
    },
  )
