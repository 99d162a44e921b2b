-- What is known of files, one after the other, out of how it is kept.
use Rattle.std.proofs.Common.{◌≡◌, ◌≤◌, ◌<◌, ◌∙◌, ◌-◌, ℕ, zero, suc, ◌+◌, true, false, Bool, List, [], ◌∷◌, ◌++◌, Option, Some, None, length, map, take, drop, get_or, refl, sym, ap, ap₂, arith, length-append, length-take, length-drop}
use Rattle.std.proofs.lemmas.Bool.Decides.{nat_tests}
use Rattle.std.specs.Borrow.{Bor}
use Rattle.std.specs.Option.{is_some}
use Rattle.std.specs.Prelude.{nat_lt, slice_index_or, unwrap_or}
use Rattle.row_text.specs.declared.row.Digested.{Digested}
use Rattle.std.specs.List.{range_with_len}
use Rattle.std.proofs.lemmas.List.{drop-append-le, get_or_past, same_lists, take-append-le, take_all}
use Rattle.std.proofs.Math.ListN.{get_or-append}
use Rattle.std.proofs.Math.Seq.{drop-append_seam, get_or-append_seam}
use Rattle.std.proofs.lemmas.List.FromFn.{get_or-map-range_with_len, length-map-range_with_len, map-range_with_len_more}
use Rattle.a2_device.specs.declared.part.Part.{Part}
use Rattle.file_listings.specs.Known.{AreRuns, FileFacts, FileParts, HasRuns, digest_kept, end_at, facts_at, facts_in, facts_of, facts_with, no_facts, no_kept, all_ends, all_parts, parts_given, parts_kept, parts_view, run_at}
use Rattle.file_listings.specs.declared.facts.Facts.{Facts}
use Rattle.file_listings.specs.declared.facts.KnownParts.{KnownParts}
use Rattle.file_listings.specs.declared.facts.Kept.{Kept}
use Rattle.file_listings.specs.declared.known.KnownFiles.{KnownFiles}

module _ {A : Type 0} (files : KnownFiles A) where
  pub known_at : (file : ℕ) → file < length files.kept.items → slice_index_or (facts_in files) file no_facts ≡ facts_at files file
  known_at file low = get_or-map-range_with_len (facts_at files) 0 (length files.kept.items) file file no_facts low (omega arith)

  pub known_past : (file : ℕ) → length files.kept.items ≤ file → slice_index_or (facts_in files) file no_facts ≡ no_facts
  known_past file high = get_or_past (facts_in files) file no_facts (omega (arith, high, length-map-range_with_len (facts_at files) 0 (length files.kept.items)))

  -- what is read of what is kept
  pub told_facts : (file : ℕ) (own : Kept) (facts : Facts) (told : KnownParts) → own ≡ slice_index_or files.kept.items file no_kept
      → (ends : List ℕ) (parts run : List Part) → ends ≡ files.ends.items → parts ≡ files.parts.items → run ≡ run_at ends parts file
      → facts ≡ record { address = own.address; digest = digest_kept own.digest } → parts_view told ≡ parts_kept files.places own.placed run
      → facts_of (record { facts = facts; parts = told }) ≡ facts_at files file
  told_facts file own facts told own_is ends parts run ends_are parts_are run_is facts_is told_is =
      ap₂ (λ (f : Facts) (p : FileParts). facts_with f p) facts_is
      (told_is ∙ ap (parts_kept files.places own.placed) (run_is ∙ ap₂ (λ (es : List ℕ) (ps : List Part). run_at es ps file) ends_are parts_are))
      ∙ ap
      (λ (o : Kept). facts_with (record { address = o.address; digest = digest_kept o.digest })
      (parts_kept files.places o.placed (run_at files.ends.items files.parts.items file)))
      own_is

-- ---- the longest run

abbrev room_at : List ℕ → ℕ → ℕ
room_at ends file = slice_index_or ends file 0 - end_at ends file

pub longer : (ends : List ℕ) (at longest start room more : ℕ) → start ≡ end_at ends at → ((file : ℕ) → file < at → room_at ends file ≤ longest)
    → room ≡ slice_index_or ends at 0 - start → longest ≤ more → room ≤ more → (file : ℕ) → file < at + 1 → room_at ends file ≤ more
longer ends at longest start room more start_is before room_is grown in_more file low = by_test (nat_lt file at) refl
  where
    by_test : (b : Bool) → nat_lt file at ≡ b → room_at ends file ≤ more
    by_test true is = omega (arith, grown, before file (grind (arith, nat_tests, is)))
    by_test false is =
        let same : file ≡ at = grind (arith, nat_tests, is, low) in
        let here : room_at ends at ≤ more = omega (arith, room_is, start_is, in_more) in
        omega (arith, here, ap (room_at ends) same)

pub none_longer : (ends : List ℕ) (at longest : ℕ) → ((file : ℕ) → file < at → room_at ends file ≤ longest) → length ends ≤ at
    → (file : ℕ) (parts : List Part) → length (run_at ends parts file) ≤ longest
none_longer ends at longest before all file parts =
    omega (arith, length-take (room_at ends file) (drop (end_at ends file) parts), by_test (nat_lt file at) refl)
  where
    by_test : (b : Bool) → nat_lt file at ≡ b → room_at ends file ≤ longest
    by_test true is = before file (grind (arith, nat_tests, is))
    by_test false is = omega (arith, get_or_past ends file 0 (grind (arith, nat_tests, is, all)))

-- ---- one file more

-- what stands before an end that is put behind the others
module _ (ends : List ℕ) (last : ℕ) where
  abbrev ends_on : List ℕ
  ends_on = ends ++ last ∷ []

  ends_before : (file : ℕ) → file < length ends → slice_index_or ends_on file 0 ≡ slice_index_or ends file 0
  ends_before file low = get_or-append ends (last ∷ []) 0 file low

  starts_before : (file : ℕ) → file ≤ length ends → end_at ends_on file ≡ end_at ends file
  starts_before zero low = refl
  starts_before (suc file) low = ends_before file (omega (arith, low))

  end_behind : (file : ℕ) → length ends ≡ file → slice_index_or ends_on file 0 ≡ last
  end_behind file many = ap (λ n. get_or ends_on n 0) (sym many) ∙ get_or-append_seam ends last [] 0

  ends_past : (file : ℕ) → length ends < file → slice_index_or ends_on file 0 ≡ 0
  ends_past file high = get_or_past ends_on file 0 (omega (arith, high, length-append ends (last ∷ [])))

module _ (many : ℕ) (ends : List ℕ) (parts more : List Part) (runs : AreRuns many ends (length parts)) where
  abbrev new_ends : List ℕ
  new_ends = ends ++ length (parts ++ more) ∷ []

  -- a part of a list that ends within it
  same_part : (start end : ℕ) → end ≤ length parts → take (end - start) (drop start (parts ++ more)) ≡ take (end - start) (drop start parts)
  same_part start end within = by_test (nat_lt end start) refl
    where
      by_test : (b : Bool) → nat_lt end start ≡ b → take (end - start) (drop start (parts ++ more)) ≡ take (end - start) (drop start parts)
      by_test true is =
          let past : end < start = grind (arith, nat_tests, is) in
          let none : end - start ≡ 0 = omega (arith, past) in
          rw none refl
      by_test false is =
          let inside : start ≤ end = grind (arith, nat_tests, is) in
          ap (take (end - start)) (drop-append-le start parts more (omega (arith, inside, within)))
          ∙ take-append-le (end - start) (drop start parts) more (omega (arith, inside, within, length-drop start parts))

  same_run : (file : ℕ) → file < many → run_at new_ends (parts ++ more) file ≡ run_at ends parts file
  same_run file low =
      let in_ends : file < length ends = omega (arith, low, runs.each) in
      ap₂ (λ (end start : ℕ). take (end - start) (drop start (parts ++ more)))
      (ends_before ends (length (parts ++ more)) file in_ends) (starts_before ends (length (parts ++ more)) file (omega (arith, in_ends)))
      ∙ same_part (end_at ends file) (slice_index_or ends file 0) (runs.within file)

  last_run : run_at new_ends (parts ++ more) many ≡ more
  last_run =
      let start : end_at new_ends many ≡ length parts = starts_before ends (length (parts ++ more)) many (omega (arith, runs.each)) ∙ runs.last in
      ap₂ (λ (end start : ℕ). take (end - start) (drop start (parts ++ more))) (end_behind ends (length (parts ++ more)) many runs.each) start
      ∙ ap (take (length (parts ++ more) - length parts)) (drop-append_seam parts more)
      ∙ take_all (length (parts ++ more) - length parts) more (omega (arith, length-append parts more))

  runs_on : AreRuns (many + 1) new_ends (length (parts ++ more))
  runs_on = record {
    each = length-append ends (length (parts ++ more) ∷ []) ∙ ap (λ n. n + 1) runs.each;
    within = λ file. by_tests file (nat_lt file many) (nat_lt many file) refl refl;
    last =
        let next : many + 1 ≡ suc many = omega arith in
        ap (end_at new_ends) next ∙ end_behind ends (length (parts ++ more)) many runs.each;
  }
    where
      by_tests : (file : ℕ) (b c : Bool) → nat_lt file many ≡ b → nat_lt many file ≡ c → slice_index_or new_ends file 0 ≤ length (parts ++ more)
      by_tests file true c less more_is =
          let low : file < many = grind (arith, nat_tests, less) in
          omega (arith, ends_before ends (length (parts ++ more)) file (omega (arith, low, runs.each)), runs.within file, length-append parts more)
      by_tests file false true less more_is =
          let high : many < file = grind (arith, nat_tests, more_is) in
          omega (arith, ends_past ends (length (parts ++ more)) file (omega (arith, high, runs.each)))
      by_tests file false false less more_is =
          let same : length ends ≡ file = grind (arith, nat_tests, less, more_is, runs.each) in
          omega (arith, end_behind ends (length (parts ++ more)) file same)

-- ---- what is known of the files with one file more

abbrev fact : Bool → Kept → List Part → FileFacts
fact places own run = facts_with (record { address = own.address; digest = digest_kept own.digest }) (parts_kept places own.placed run)

module _ (places : Bool) (many : ℕ) (ends : List ℕ) (parts more : List Part) (runs : places ≡ true → AreRuns many ends (length parts)) where
  abbrev ends_with : List ℕ
  ends_with = all_ends places ends (parts ++ more)

  abbrev parts_with : List Part
  parts_with = all_parts places parts more

  fact_before : (own : Kept) (file : ℕ) → file < many → fact places own (run_at ends_with parts_with file) ≡ fact places own (run_at ends parts file)
  fact_before own file low = by_places places refl
    where
      by_places : (b : Bool) → places ≡ b → fact b own (run_at (all_ends b ends (parts ++ more)) (all_parts b parts more) file) ≡ fact b own (run_at ends parts file)
      by_places false is = refl
      by_places true is = ap (fact true own) (same_run many ends parts more (runs is) file low)

  fact_last : (own : Kept) → fact places own (run_at ends_with parts_with many) ≡ fact places own more
  fact_last own = by_places places refl
    where
      by_places : (b : Bool) → places ≡ b → fact b own (run_at (all_ends b ends (parts ++ more)) (all_parts b parts more) many) ≡ fact b own more
      by_places false is = refl
      by_places true is = ap (fact true own) (last_run many ends parts more (runs is))

  runs_with : places ≡ true → AreRuns (many + 1) ends_with (length parts_with)
  runs_with is = by_places places is
    where
      by_places : (b : Bool) → b ≡ true → AreRuns (many + 1) (all_ends b ends (parts ++ more)) (length (all_parts b parts more))
      by_places false never = absurd (cc)
      by_places true _ = runs_on many ends parts more (runs is)

module _ {A : Type 0} (old new : KnownFiles A) (own : Kept) (more : List Part) (places : new.places ≡ old.places)
    (kept : new.kept.items ≡ old.kept.items ++ own ∷ []) (parts : new.parts.items ≡ all_parts old.places old.parts.items more)
    (ends : new.ends.items ≡ all_ends old.places old.ends.items (old.parts.items ++ more)) (runs : HasRuns old) where
  abbrev many : ℕ
  many = length old.kept.items

  one_more : length new.kept.items ≡ many + 1
  one_more = ap (λ (ks : List Kept). length ks) kept ∙ length-append old.kept.items (own ∷ [])

  facts_new : (file : ℕ) → facts_at new file
      ≡ fact old.places (get_or (old.kept.items ++ own ∷ []) file no_kept)
      (run_at (all_ends old.places old.ends.items (old.parts.items ++ more)) (all_parts old.places old.parts.items more) file)
  facts_new file = rw (places, kept, parts, ends) refl

  before : (file : ℕ) → file < many → facts_at new file ≡ facts_at old file
  before file low =
      facts_new file
      ∙ ap (λ (k : Kept). fact old.places k (run_at (all_ends old.places old.ends.items (old.parts.items ++ more)) (all_parts old.places old.parts.items more) file))
      (get_or-append old.kept.items (own ∷ []) no_kept file low)
      ∙ fact_before old.places many old.ends.items old.parts.items more runs (get_or old.kept.items file no_kept) file low

  last : facts_at new many ≡ fact old.places own more
  last =
      facts_new many
      ∙ ap (λ (k : Kept). fact old.places k (run_at (all_ends old.places old.ends.items (old.parts.items ++ more)) (all_parts old.places old.parts.items more) many))
      (get_or-append_seam old.kept.items own [] no_kept)
      ∙ fact_last old.places many old.ends.items old.parts.items more runs own

  same_before : map (facts_at new) (range_with_len 0 many) ≡ facts_in old
  same_before =
      let news = map (facts_at new) (range_with_len 0 many) in
      let count = length-map-range_with_len (facts_at new) 0 many in
      same_lists news (facts_in old) (count ∙ sym (length-map-range_with_len (facts_at old) 0 many))
      (λ file d low.
      let in_many : file < many = omega (arith, low, count) in
      get_or-map-range_with_len (facts_at new) 0 many file file d in_many (omega arith) ∙ before file in_many
      ∙ sym (get_or-map-range_with_len (facts_at old) 0 many file file d in_many (omega arith)))

  pub more_facts : facts_in new ≡ facts_in old ++ fact old.places own more ∷ []
  more_facts =
      ap (λ n. map (facts_at new) (range_with_len 0 n)) one_more
      ∙ map-range_with_len_more (facts_at new) 0 many many (omega arith)
      ∙ ap₂ (λ (xs : List FileFacts) (x : FileFacts). xs ++ x ∷ []) same_before last

  pub more_runs : HasRuns new
  more_runs is =
      let with_more = runs_with old.places many old.ends.items old.parts.items more runs (sym places ∙ is) in
      rw (one_more, ends, parts) with_more

-- what is noted of a file is what was given
pub fact_given : (places : Bool) (own : Kept) (facts : Facts) (given : Option (Bor (List Part))) (other : Bor (List Part)) (more : List Part)
    → own.address ≡ facts.address → digest_kept own.digest ≡ facts.digest → own.placed ≡ is_some given → more ≡ (unwrap_or given other).now
    → fact places own more ≡ facts_with facts (parts_given places given)
fact_given places own facts given other more address digest placed is =
    ap₂ (λ (a : Option ℕ) (d : Digested). facts_with (record { address = a; digest = d }) (parts_kept places own.placed more)) address digest
    ∙ ap (facts_with facts) (by_cases places given placed is)
  where
    by_cases : (b : Bool) (parts : Option (Bor (List Part))) → own.placed ≡ is_some parts → more ≡ (unwrap_or parts other).now
        → parts_kept b own.placed more ≡ parts_given b parts
    by_cases false parts has same = refl
    by_cases true None has same = ap (λ placed. parts_kept true placed more) has
    by_cases true (Some parts) has same = ap₂ (λ (placed : Bool) (run : List Part). parts_kept true placed run) has same
