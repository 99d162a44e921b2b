-- What a read answers is what the list of the files of its volume says.
use Rattle.std.specs.Prelude.{◌≡◌, ◌<◌, ◌≤◌, ◌+◌, ◌&&◌, nat_lt, ℕ, zero, suc, Bool, true, false, not, if◌then◌else◌, List, [], ◌∷◌, filter, Some, None, slice_get}
use Rattle.std.specs.List.{AllZip, range_with_len}
use Rattle.std.proofs.Common.{refl, sym, ◌∙◌, ap, subst, arith, ⊎_elim}
use Rattle.std.proofs.lemmas.Bool.Decides.{nat_tests}
use Rattle.vol_format.specs.Directory.{Directory, entries, entry_of, is_directory}
use Rattle.vol_format.specs.Laws.{IsReadable}
use Rattle.vol_format.specs.Meaning.{Meaning}
use Rattle.vol_format.specs.Files.{Stored, File, IsFile, file_numbers, HasFiles}
use Rattle.vol_format.proofs.Lists.{same_elements}
use Rattle.file_formats.specs.FileNames.{FileNameView}
use Rattle.file_formats.specs.Files.{FileMeaning, is_named, IsFirstNamed, NamesNone}
use Rattle.file_cmds.specs.Text.{OwnFault, other_type, wild_root, wild_pointer, shared, AreUnitsOf, text_of}
use Rattle.file_cmds.specs.Read.{IsTextAt, IsBroken, IsUnreadable, HasNoFile}
use Rattle.file_cmds.specs.FileList.{named_files, IsTextOfFirst}

-- what passes of lists that go together goes together
module _ {X Y : Type 0} (R : X → Y → Type 0) where
  zipped_filter : (p : X → Bool) (q : Y → Bool) → ((x : X) (y : Y) → R x y → q y ≡ p x) → (xs : List X) (ys : List Y) → AllZip R xs ys → AllZip R (filter p xs) (filter q ys)
  zipped_filter p q same [] [] zipped = zipped
  zipped_filter p q same [] (y ∷ ys) zipped = absurd zipped
  zipped_filter p q same (x ∷ xs) [] zipped = absurd zipped
  zipped_filter p q same (x ∷ xs) (y ∷ ys) zipped = by_tests (zipped_filter p q same xs ys zipped.1) (p x) (q y) (same x y zipped.0)
    where
      by_tests : AllZip R (filter p xs) (filter q ys) → (b c : Bool) → c ≡ b
          → AllZip R (if b then x ∷ filter p xs else filter p xs) (if c then y ∷ filter q ys else filter q ys)
      by_tests rest true true is = (zipped.0, rest)
      by_tests rest false false is = rest
      by_tests rest true false is = absurd (cc)
      by_tests rest false true is = absurd (cc)

  zipped_first : (x : X) (xs : List X) (ys : List Y) → AllZip R (x ∷ xs) ys → (y : Y) × R x y × (slice_get ys 0 ≡ Some y)
  zipped_first x xs [] zipped = absurd zipped
  zipped_first x xs (y ∷ ys) zipped = (y, zipped.0, refl)

  zipped_none : (ys : List Y) → AllZip R [] ys → slice_get ys 0 ≡ None
  zipped_none [] zipped = refl
  zipped_none (y ∷ ys) zipped = absurd zipped

both_filters : {X : Type 0} (p q : X → Bool) (xs : List X) → filter q (filter p xs) ≡ filter (λ x. p x && q x) xs
both_filters p q [] = refl
both_filters p q (x ∷ xs) = by_tests (both_filters p q xs) (p x) (q x) refl
  where
    by_tests : filter q (filter p xs) ≡ filter (λ z. p z && q z) xs → (b c : Bool) → q x ≡ c
        → filter q (if b then x ∷ filter p xs else filter p xs) ≡ (if b && q x then x ∷ filter (λ z. p z && q z) xs else filter (λ z. p z && q z) xs)
    by_tests rest true c is = ap (λ zs. if q x then x ∷ zs else zs) rest
    by_tests rest false c is = rest

-- the numbers of a range that pass
module _ (p : ℕ → Bool) where
  first_in_range : (start len number : ℕ) → start ≤ number → number < start + len → p number ≡ true
      → ((earlier : ℕ) → start ≤ earlier → earlier < number → p earlier ≡ false)
      → (later : List ℕ) × (filter p (range_with_len start len) ≡ number ∷ later)
  first_in_range start zero number from within passes first = absurd (omega (arith, from, within))
  first_in_range start (suc len) number from within passes first =
      by_tests (first_in_range (start + 1) len number) (p start) (nat_lt start number) refl refl
    where
      rest : List ℕ
      rest = filter p (range_with_len (start + 1) len)

      by_tests : (start + 1 ≤ number → number < start + 1 + len → p number ≡ true → ((earlier : ℕ) → start + 1 ≤ earlier → earlier < number → p earlier ≡ false)
          → (later : List ℕ) × (rest ≡ number ∷ later))
          → (b less : Bool) → p start ≡ b → nat_lt start number ≡ less
          → (later : List ℕ) × ((if b then start ∷ rest else rest) ≡ number ∷ later)
      by_tests more true true is less_is =
          let before : start < number = grind (arith, nat_tests, less_is) in
          absurd (cc (is, first start (omega arith) before))
      by_tests more true false is less_is =
          let same : start ≡ number = grind (arith, nat_tests, less_is, from) in
          (rest, ap (λ n. n ∷ rest) same)
      by_tests more false true is less_is =
          let before : start < number = grind (arith, nat_tests, less_is) in
          more (omega (arith, before)) (omega (arith, within)) passes (λ earlier from' before'. first earlier (omega (arith, from')) before')
      by_tests more false false is less_is =
          let same : start ≡ number = grind (arith, nat_tests, less_is, from) in
          absurd (cc (is, passes, same))

  none_in_range : (start len : ℕ) → ((number : ℕ) → start ≤ number → number < start + len → p number ≡ false) → filter p (range_with_len start len) ≡ []
  none_in_range start zero none = refl
  none_in_range start (suc len) none =
      by_test (none_in_range (start + 1) len (λ number from within. none number (omega (arith, from)) (omega (arith, within)))) (p start) (none start (omega arith) (omega arith))
    where
      by_test : filter p (range_with_len (start + 1) len) ≡ [] → (b : Bool) → b ≡ false
          → (if b then start ∷ filter p (range_with_len (start + 1) len) else filter p (range_with_len (start + 1) len)) ≡ []
      by_test rest true is = absurd (cc)
      by_test rest false is = rest

module _ (format : Meaning) (laws : IsReadable format) (meaning : FileMeaning) (store : List (List ℕ)) (files : List File) (has : HasFiles format store files) (name : FileNameView) where
  abbrev is_wanted : ℕ → Bool
  is_wanted entry = is_named meaning name (entry_of has.directory entry)

  wanted : AllZip (IsFile format has.directory store) (filter is_wanted (range_with_len 0 (entries has.directory))) (named_files meaning name files)
  wanted =
      subst (λ (numbers : List ℕ). AllZip (IsFile format has.directory store) numbers (named_files meaning name files))
      (both_filters (λ entry. not (is_directory (entry_of has.directory entry))) (λ entry. meaning.matches name (entry_of has.directory entry).path) (range_with_len 0 (entries has.directory)))
      (zipped_filter (IsFile format has.directory store) (λ entry. meaning.matches name (entry_of has.directory entry).path) (λ file. meaning.matches name file.path)
      (λ entry file is. ap (meaning.matches name) is.path) (file_numbers has.directory) files has.are)

  same_units : (entry : ℕ) (file : File) (units : List Stored) → AreUnitsOf format has.directory store entry units → IsFile format has.directory store entry file → units ≡ file.body
  same_units entry file units are is =
      same_elements (λ (stored later : Stored). stored.number < later.number) (λ stored later less more. omega (arith, less, more)) units file.body are.rising is.rising
      (λ stored. (λ has'. (is.members stored).1 ((are.members stored).0 has'), λ has'. (are.members stored).1 ((is.members stored).0 has')))

  pub text_by_list : (whole : Bool) (text : List ℕ) → IsTextAt format meaning store name whole text → IsTextOfFirst meaning format.unit_size files name whole text
  text_by_list whole text is =
      let same : is.directory ≡ has.directory = laws.one_directory store is.directory has.directory is.described has.accepted.described in
      let first : IsFirstNamed meaning has.directory name is.file = subst (λ (d : Directory). IsFirstNamed meaning d name is.file) same is.first in
      let units : AreUnitsOf format has.directory store is.file is.read.units = subst (λ (d : Directory). AreUnitsOf format d store is.file is.read.units) same is.read.are_units in
      let found = first_in_range is_wanted 0 (entries has.directory) is.file (omega arith) (omega (arith, first.inside)) first.named (λ earlier from before. first.first earlier before) in
      let zipped : AllZip (IsFile format has.directory store) (is.file ∷ found.0) (named_files meaning name files) =
      subst (λ (numbers : List ℕ). AllZip (IsFile format has.directory store) numbers (named_files meaning name files)) found.1 wanted in
      let member = zipped_first (IsFile format has.directory store) is.file found.0 (named_files meaning name files) zipped in
      record {
        file = member.0;
        first = member.2;
        is = is.read.is
            ∙ ap (λ (d : Directory). text_of meaning format.unit_size whole (entry_of d is.file).bytes is.read.units) same
            ∙ ap (λ (bytes : List ℕ). text_of meaning format.unit_size whole bytes is.read.units) (sym member.1.bytes)
            ∙ ap (λ (body : List Stored). text_of meaning format.unit_size whole member.0.bytes body) (same_units is.file member.0 is.read.units units member.1);
      }

  pub none_by_list : HasNoFile format meaning store name → slice_get (named_files meaning name files) 0 ≡ None
  none_by_list none =
      let names_none : NamesNone meaning has.directory name =
      subst (λ (d : Directory). NamesNone meaning d name) (laws.one_directory store none.0 has.directory none.1 has.accepted.described) none.2 in
      let empty = none_in_range is_wanted 0 (entries has.directory) (λ number from within. names_none number (omega (arith, within))) in
      zipped_none (IsFile format has.directory store) (named_files meaning name files)
      (subst (λ (numbers : List ℕ). AllZip (IsFile format has.directory store) numbers (named_files meaning name files)) empty wanted)

  not_broken : (file : ℕ) → file < entries has.directory → OwnFault format has.directory store file → ⊥
  not_broken file within (other_type is) = has.accepted.no_other_type file within is
  not_broken file within (wild_root is) = has.accepted.no_wild file within is
  not_broken file within (wild_pointer part pointer reached in_file is) = (has.accepted.sound part reached).no_wild pointer is
  not_broken file within (shared part other reached reached' in_file in_file' place differ) = differ (has.accepted.once part other reached reached' place)

  pub readable : IsUnreadable format meaning store name → ⊥
  readable fault =
      ⊎_elim (λ header. laws.header_fault store has.directory header.0 header.1 has.accepted.described) (λ broken. none_broken broken) fault
    where
      none_broken : IsBroken format meaning store name → ⊥
      none_broken broken =
          let same : broken.directory ≡ has.directory = laws.one_directory store broken.directory has.directory broken.described has.accepted.described in
          let first : IsFirstNamed meaning has.directory name broken.file = subst (λ (d : Directory). IsFirstNamed meaning d name broken.file) same broken.first in
          not_broken broken.file first.inside (subst (λ (d : Directory). OwnFault format d store broken.file) same broken.fault)
