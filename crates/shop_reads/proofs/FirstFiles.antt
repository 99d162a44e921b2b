-- What is known of files, one after the other.
use Rattle.std.specs.Prelude.{IsTrue, ◌≡◌, ◌<◌, ◌&&◌, not, nat_lt, ℕ, Bool, true, false, List, [], ◌∷◌, ◌++◌, Option, Some, None, Result, Ok, Err, IfOk, length, slice_index_or, if◌then◌else◌}
use Rattle.std.proofs.Common.{refl, sym, ◌∙◌, ap, subst, ◌+◌, arith, inl, inr, ⊎_elim, get_or, length-append}
use Rattle.std.proofs.lemmas.Bool.Decides.{nat_tests}
use Rattle.std.proofs.Math.Seq.{get_or-append_seam}
use Rattle.std.proofs.Math.ListN.{get_or-append}
use Rattle.std.proofs.lemmas.List.Sums.{sum_by-append}
use Rattle.a2_device.specs.Device.{DeviceState}
use Rattle.vol_layout.specs.declared.form.PlaceForm.{PlaceForm}
use Rattle.vol_format.specs.Meaning.{Meaning}
use Rattle.file_formats.specs.Files.{FileMeaning}
use Rattle.file_cmds.specs.ReadingOn.{FailedInFile, ReadsOn}
use Rattle.file_cmds.specs.lemmas.Reading.{failed_in_file_before, failed_in_file_since}
use Rattle.vol_format.specs.Directory.{Directory, entries, entry_of, is_directory}
use Rattle.file_formats.specs.DosFiles.{number_at}
use Rattle.std.specs.declared.alloc.Global.{Global}
use Rattle.std.specs.declared.vec.Vec.{Vec}
use Rattle.a2_device.specs.declared.part.Part.{Part}
use Rattle.file_cmds.specs.FileParts.{IsPartsAlone}
use Rattle.file_cmds.specs.Text.{IsEntryText, IsWholeTextOf}
use Rattle.row_text.specs.declared.row.Digested.{Digested}
use Rattle.row_text.specs.declared.row.Digested.TheVariants.{Untold, Missing, Of}
use Rattle.file_listings.specs.Known.{FileFacts, FileParts, facts_with, no_facts}
use Rattle.file_listings.specs.Known as known
use Rattle.file_listings.specs.declared.facts.Facts.{Facts}
use Rattle.shop_jobs.specs.declared.looks.ListOptions.{ListOptions}
use Rattle.volume_compare.specs.Contents.{IsUnread, SeenVolume, volume_in}
use Rattle.volume_compare.proofs.Wider.{wider_unread}
use Rattle.shop_reads.specs.EntriesReply.{AddressIs, AreFacts, AreFactsUpTo, AreTextFacts, PartsAre, DigestIs, IsAddress, IsCompleteUpTo, IsDigest, ReadTooMuch, WantsNothing, bytes_read, bytes_told, digest_by, is_missing, lacks_digest, no_digest, parts_found, unread_facts, wants_address, wants_digest, wants_places}

module _ (volume : SeenVolume) (options : ListOptions) (file : ℕ) where
  -- ---- of one file

  unread_address : (failed : ℕ → Type 0) → IsUnread volume failed file → (b : Bool) → AddressIs b volume failed file None
  unread_address failed unread true = unread
  unread_address failed unread false = refl

  unread_digest : (failed : ℕ → Type 0) → IsUnread volume failed file → (b : Bool) → DigestIs b volume failed file (no_digest b)
  unread_digest failed unread true = inr unread
  unread_digest failed unread false = refl

  -- a file that could not be read
  pub unread_are : (failed : ℕ → Type 0) → IsUnread volume failed file → AreTextFacts volume options failed file (unread_facts options.digests)
  unread_are failed unread = record {
    address = unread_address failed unread (wants_address volume options file);
    digest = unread_digest failed unread options.digests;
  }

  unwanted_digest : (failed : ℕ → Type 0) (b d : Bool) → is_directory (entry_of volume.directory file) ≡ d → (b && not d) ≡ false
      → DigestIs b volume failed file (no_digest b)
  unwanted_digest failed false d same unwanted = refl
  unwanted_digest failed true true same unwanted = inl same
  unwanted_digest failed true false same unwanted = cc

  -- a file of which nothing is wanted
  pub unwanted_are : (failed : ℕ → Type 0) → wants_address volume options file ≡ false → wants_digest volume options file ≡ false
      → AreTextFacts volume options failed file (unread_facts options.digests)
  unwanted_are failed address digest = record {
    address = subst (λ b. AddressIs b volume failed file None) (sym address) refl;
    digest = unwanted_digest failed options.digests (is_directory (entry_of volume.directory file)) refl digest;
  }

  module _ (failed : ℕ → Type 0) (whole : List ℕ) (is : IsWholeTextOf volume.meaning volume.directory volume.store file whole) where
    abbrev body : List ℕ
    body = volume.files.body (entry_of volume.directory file).bytes whole

    body_is : IsEntryText volume.meaning volume.files volume.directory volume.store file false body
    body_is = record {
      faultless = is.faultless;
      units = is.units;
      are_units = is.are_units;
      is = ap (volume.files.body (entry_of volume.directory file).bytes) is.is;
    }

    read_address : (b : Bool) (address : Option ℕ) → address ≡ (if b then Some (number_at whole 0) else None) → AddressIs b volume failed file address
    read_address true address told = subst (λ (a : Option ℕ). IsAddress volume failed file a) (sym told) (whole, is, refl)
    read_address false address told = told

    read_digest : (b d : Bool) (digest : Digested) → is_directory (entry_of volume.directory file) ≡ d
        → digest ≡ (if b && not d then digest_by body else no_digest b) → DigestIs b volume failed file digest
    read_digest false d digest same told = told
    read_digest true true digest same told = subst (λ (x : Digested). IsDigest volume failed file x) (sym told) (inl same)
    read_digest true false digest same told = subst (λ (x : Digested). IsDigest volume failed file x) (sym told) (same, body, body_is, refl, refl)

    -- a file that was read
    pub read_are : (facts : Facts) → facts.address ≡ (if wants_address volume options file then Some (number_at whole 0) else None)
        → facts.digest ≡ (if wants_digest volume options file then digest_by body else no_digest options.digests)
        → AreTextFacts volume options failed file facts
    read_are facts address digest = record {
      address = read_address (wants_address volume options file) facts.address address;
      digest = read_digest options.digests (is_directory (entry_of volume.directory file)) facts.digest refl digest;
    }

  -- what failed among some calls failed among more
  module _ (failed more : ℕ → Type 0) (on : failed file → more file) where
    wider_address : (b : Bool) (address : Option ℕ) → AddressIs b volume failed file address → AddressIs b volume more file address
    wider_address true None is = wider_unread volume failed more file on is
    wider_address true (Some x) is = is
    wider_address false address is = is

    wider_digest : (b : Bool) (digest : Digested) → DigestIs b volume failed file digest → DigestIs b volume more file digest
    wider_digest true Untold is = is
    wider_digest true Missing is = ⊎_elim (λ directory. inl directory) (λ unread. inr (wider_unread volume failed more file on unread)) is
    wider_digest true (Of digest) is = is
    wider_digest false digest is = is

    wider_parts : (b : Bool) (parts : FileParts) → PartsAre b volume failed file parts → PartsAre b volume more file parts
    wider_parts true known.Untold is = is
    wider_parts true known.Missing is = ⊎_elim (λ directory. inl directory) (λ unread. inr (wider_unread volume failed more file on unread)) is
    wider_parts true (known.Of parts) is = is
    wider_parts false parts is = is

    pub wider : (facts : FileFacts) → AreFacts volume options failed file facts → AreFacts volume options more file facts
    wider facts are = record {
      address = wider_address (wants_address volume options file) facts.address are.address;
      digest = wider_digest options.digests facts.digest are.digest;
      parts = wider_parts (wants_places options) facts.parts are.parts;
    }

  -- ---- its parts

  -- those that are not wanted, or of a directory
  pub unwanted_parts : (failed : ℕ → Type 0) (b d : Bool) → is_directory (entry_of volume.directory file) ≡ d → (b && not d) ≡ false
      → PartsAre b volume failed file (parts_found b None)
  unwanted_parts failed false d same unwanted = refl
  unwanted_parts failed true true same unwanted = inl same
  unwanted_parts failed true false same unwanted = cc

  -- those that were not found
  pub unread_parts : (failed : ℕ → Type 0) → IsUnread volume failed file → (b : Bool) → PartsAre b volume failed file (parts_found b None)
  unread_parts failed unread true = inr unread
  unread_parts failed unread false = refl

  pub read_parts : (failed : ℕ → Type 0) (parts : Vec Part Global) → is_directory (entry_of volume.directory file) ≡ false
      → IsPartsAlone volume.meaning volume.directory volume.store file parts.items → (b : Bool)
      → PartsAre b volume failed file (parts_found b (Some parts))
  read_parts failed parts of_file are true = (of_file, are)
  read_parts failed parts of_file are false = refl

  -- what is known of the text and of the parts
  pub together : (first second failed : ℕ → Type 0) → (first file → failed file) → (second file → failed file) → (facts : Facts) (parts : FileParts)
      → AreTextFacts volume options first file facts → PartsAre (wants_places options) volume second file parts
      → AreFacts volume options failed file (facts_with facts parts)
  together first second failed on next facts parts text found = record {
    address = wider_address first failed on (wants_address volume options file) facts.address text.address;
    digest = wider_digest first failed on options.digests facts.digest text.digest;
    parts = wider_parts second failed next (wants_places options) parts found;
  }

-- ---- of the first files

facts_on : (facts : List FileFacts) (one : FileFacts) (many file : ℕ) → length facts ≡ many → file < many
    → slice_index_or (facts ++ one ∷ []) file no_facts ≡ slice_index_or facts file no_facts
facts_on facts one many file as_many low = get_or-append facts (one ∷ []) no_facts file (omega (arith, as_many, low))

facts_last : (facts : List FileFacts) (one : FileFacts) (many : ℕ) → length facts ≡ many → slice_index_or (facts ++ one ∷ []) many no_facts ≡ one
facts_last facts one many as_many =
    ap (λ (n : ℕ). get_or (facts ++ one ∷ []) n no_facts) (sym as_many) ∙ get_or-append_seam facts one [] no_facts

module _ (volume : SeenVolume) (options : ListOptions) where
  pub wider_up_to : (failed more : ℕ → Type 0) → ((file : ℕ) → failed file → more file) → (many : ℕ) (facts : List FileFacts) → AreFactsUpTo volume options failed many facts
      → AreFactsUpTo volume options more many facts
  wider_up_to failed more on many facts are = record {
    within = are.within;
    each = λ file low. wider volume options file failed more (on file) (slice_index_or facts file no_facts) (are.each file low);
  }

  -- nothing is wanted, and nothing one
  pub nothing_known : (failed : ℕ → Type 0) → ((file : ℕ) → WantsNothing volume options file)
      → AreFactsUpTo volume options failed (entries volume.directory) []
  nothing_known failed nothing = record {
    within = omega arith;
    each = λ file low. record {
      address = subst (λ b. AddressIs b volume failed file None) (sym (nothing file).address) refl;
      digest = subst (λ b. DigestIs b volume failed file Untold) (sym (nothing file).digest) refl;
      parts = subst (λ b. PartsAre b volume failed file known.Untold) (sym (nothing file).places) refl;
    };
  }

  pub none_yet : (failed : ℕ → Type 0) → AreFactsUpTo volume options failed 0 []
  none_yet failed = record { within = omega arith; each = λ file low. absurd (omega (arith, low)) }

  pub more_known : (failed : ℕ → Type 0) (many : ℕ) (facts : List FileFacts) (one : FileFacts) → length facts ≡ many → many < entries volume.directory
      → AreFactsUpTo volume options failed many facts → AreFacts volume options failed many one
      → AreFactsUpTo volume options failed (many + 1) (facts ++ one ∷ [])
  more_known failed many facts one as_many low are is = record {
    within = omega (arith, low);
    each = λ file lower. by_test file (nat_lt file many) refl lower;
  }
    where
      by_test : (file : ℕ) (b : Bool) → nat_lt file many ≡ b → file < many + 1
          → AreFacts volume options failed file (slice_index_or (facts ++ one ∷ []) file no_facts)
      by_test file true test lower =
          let before : file < many = grind (arith, nat_tests) in
          subst (λ (f : FileFacts). AreFacts volume options failed file f) (sym (facts_on facts one many file as_many before)) (are.each file before)
      by_test file false test lower =
          let last : many ≡ file = grind (arith, nat_tests) in
          subst (λ n. AreFacts volume options failed n (slice_index_or (facts ++ one ∷ []) n no_facts)) last
          (subst (λ (f : FileFacts). AreFacts volume options failed many f) (sym (facts_last facts one many as_many)) is)

pub bytes_more : (unit_size : ℕ) (facts : List FileFacts) (one : FileFacts)
    → bytes_read unit_size (facts ++ one ∷ []) ≡ bytes_read unit_size facts + bytes_told unit_size one
bytes_more unit_size facts one = sum_by-append (bytes_told unit_size) facts (one ∷ []) ∙ omega arith

-- ---- whether each has a digest

pub nothing_lacks : (directory : Directory) (many : ℕ) → IsCompleteUpTo directory [] many true
nothing_lacks directory many file low = by_cases (is_directory (entry_of directory file))
  where
    by_cases : (b : Bool) → (not b && false) ≡ false
    by_cases true = refl
    by_cases false = refl

module _ (directory : Directory) (facts : List FileFacts) (one : FileFacts) (many : ℕ) (as_many : length facts ≡ many) where
  abbrev lacks_before : ℕ → Bool
  lacks_before file = lacks_digest directory facts file

  abbrev lacks_after : ℕ → Bool
  lacks_after file = lacks_digest directory (facts ++ one ∷ []) file

  same_lack : (file : ℕ) → file < many → lacks_after file ≡ lacks_before file
  same_lack file low =
      ap (λ (f : FileFacts). not (is_directory (entry_of directory file)) && is_missing f.digest) (facts_on facts one many file as_many low)

  own_lack : (b : Bool) → b ≡ (not (is_directory (entry_of directory many)) && is_missing one.digest) → lacks_after many ≡ b
  own_lack b is =
      ap (λ (f : FileFacts). not (is_directory (entry_of directory many)) && is_missing f.digest) (facts_last facts one many as_many) ∙ sym is

  pub more_complete : (complete lack : Bool) → lack ≡ (not (is_directory (entry_of directory many)) && is_missing one.digest)
      → IsCompleteUpTo directory facts many complete → IsCompleteUpTo directory (facts ++ one ∷ []) (many + 1) (complete && not lack)
  more_complete true true is before = (many, omega arith, own_lack true is)
  more_complete true false is before = λ file lower. by_test file (nat_lt file many) refl lower
    where
      by_test : (file : ℕ) (b : Bool) → nat_lt file many ≡ b → file < many + 1 → lacks_after file ≡ false
      by_test file true test lower = let low : file < many = grind (arith, nat_tests) in same_lack file low ∙ before file low
      by_test file false test lower =
          let last : many ≡ file = grind (arith, nat_tests) in subst (λ n. lacks_after n ≡ false) last (own_lack false is)
  more_complete false lack is before = (before.0, omega (arith, before.1), same_lack before.0 before.1 ∙ before.2)

-- ---- what a reading of one file tells

pub off : (b : Bool) → not b ≡ true → b ≡ false
off false is = refl
off true is = cc

-- two things that hold of what is there give a third
pub both_ok : {A E : Type 0} (P Q R : A → Type 0) (result : Result A E) → ((x : A) → P x → Q x → R x) → IfOk result P → IfOk result Q → IfOk result R
both_ok P Q R (Ok x) on p q = on x p q
both_ok P Q R (Err e) on p q = tt

-- one file more is read
pub step_known : (form : PlaceForm) (files : FileMeaning) (meaning : Meaning) (directory : Directory) (options : ListOptions)
    (start now after : DeviceState) (many : ℕ) (facts : List FileFacts) (one : FileFacts) → IsTrue start.honest → ReadsOn start now → ReadsOn now after
    → length facts ≡ many → many < entries directory
    → AreFactsUpTo (volume_in form files meaning directory start.store) options (FailedInFile meaning directory start now) many facts
    → AreFacts (volume_in form files meaning directory now.store) options (FailedInFile meaning directory now after) many one
    → AreFactsUpTo (volume_in form files meaning directory start.store) options (FailedInFile meaning directory start after) (many + 1) (facts ++ one ∷ [])
step_known form files meaning directory options start now after many facts one honest reads later as_many low are is =
    let volume : SeenVolume = volume_in form files meaning directory start.store in
    let same : now.store ≡ start.store = ap (λ (device : DeviceState). device.store) (reads.kept honest) in
    let here : AreFacts volume options (FailedInFile meaning directory now after) many one =
    subst (λ (store : List (List ℕ)). AreFacts (volume_in form files meaning directory store) options (FailedInFile meaning directory now after) many one) same is in
    more_known volume options (FailedInFile meaning directory start after) many facts one as_many low
    (wider_up_to volume options (FailedInFile meaning directory start now) (FailedInFile meaning directory start after) (λ file. failed_in_file_before meaning directory start now after file later) many facts are)
    (wider volume options many (FailedInFile meaning directory now after) (FailedInFile meaning directory start after) (failed_in_file_since meaning directory start now after many honest reads) one here)

pub too_much : (volume : SeenVolume) (options : ListOptions) (failed : ℕ → Type 0) (many left : ℕ) (facts : List FileFacts) (one : FileFacts)
    → length facts ≡ many → left + bytes_read volume.meaning.unit_size facts ≡ options.most → left < bytes_told volume.meaning.unit_size one
    → AreFactsUpTo volume options failed (many + 1) (facts ++ one ∷ []) → ReadTooMuch volume options failed
too_much volume options failed many left facts one as_many rest over are = record {
  facts = facts ++ one ∷ [];
  are = subst (λ (n : ℕ). AreFactsUpTo volume options failed n (facts ++ one ∷ [])) (sym (length-append facts (one ∷ []))) (subst (λ (n : ℕ). AreFactsUpTo volume options failed n (facts ++ one ∷ [])) (ap (λ (n : ℕ). n + 1) (sym as_many)) are);
  many = omega (arith, rest, over, bytes_more volume.meaning.unit_size facts one);
}

pub wider_too_much : (volume : SeenVolume) (options : ListOptions) (failed more : ℕ → Type 0) → ((file : ℕ) → failed file → more file) → ReadTooMuch volume options failed
    → ReadTooMuch volume options more
wider_too_much volume options failed more on read = record {
  facts = read.facts;
  are = wider_up_to volume options failed more on (length read.facts) read.facts read.are;
  many = read.many;
}
