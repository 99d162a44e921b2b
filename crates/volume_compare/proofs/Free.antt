-- The first free file of a path is that of the first free key of it.
use Rattle.std.specs.Prelude.{◌≡◌, ◌<◌, ◌≤◌, ◌+◌, ◌-◌, ◌⊎◌, ℕ, Bool, true, false, List, Option, Some, None, length, take, drop, min, slice_index}
use Rattle.std.proofs.Common.{refl, sym, ◌∙◌, ap, arith, inl, inr, set, get_or-set_same, get_or-set_other}
use Rattle.std.proofs.lemmas.Bool.{cases_lt, cases_eq}
use Rattle.std.proofs.lemmas.List.{get_or_default, get_or-map, get_or-take, get_or-drop, length-drop, length-take, length-set, get_or_past}
use Rattle.vol_format.specs.Directory.{Directory, entries, entry_of, no_entry}
use Rattle.file_formats.specs.Files.{FileMeaning}
use Rattle.volume_compare.specs.Pairs.{file_path, is_path, path_at, paths_of, taken_at}
use Rattle.volume_compare.specs.Candidates.{AreCandidates, AreFronts, HasNoneFree, IsFirstFreeIn, IsFreeAt, IsRun, NoneFreeIn, hash_of, key_at, key_of, no_key}
use Rattle.volume_compare.specs.declared.keys.Key.{Key}
use Rattle.volume_compare.proofs.Ranks.{has_entry, is_of, passes}

-- the path of an entry by its number
pub path_of_entry : (files : FileMeaning) (directory : Directory) (file : ℕ) → file < entries directory
    → path_at (paths_of files directory) file ≡ file_path files (entry_of directory file)
path_of_entry files directory file inside = get_or-map (file_path files) directory.listed file no_entry None inside

module _ (paths : List (Option (List ℕ))) (taken : List Bool) (path : List ℕ) (keys : List Key) (place : ℕ) (none : NoneFreeIn paths taken path keys place) where
  pub free_found : place < length keys → taken_at taken (key_at keys place).file ≡ false → is_path path (path_at paths (key_at keys place).file) ≡ true
      → IsFreeAt paths taken path keys place
  free_found inside free is = record { inside = inside; of_path = is_of path (path_at paths (key_at keys place).file) is; free = free; first = none }

  -- the next key is that of a file that is taken, or has another path
  pub none_more : (taken_at taken (key_at keys place).file ≡ true) ⊎ (is_path path (path_at paths (key_at keys place).file) ≡ false)
      → NoneFreeIn paths taken path keys (place + 1)
  none_more why any low is =
      elim (cases_lt any place) [
        | inl before ↦ none any before is
        | inr high ↦
            let here : any ≡ place = omega arith in
            let so = ap (λ (k : ℕ). path_at paths (key_at keys k).file) (sym here) ∙ is in
            ap (λ (k : ℕ). taken_at taken (key_at keys k).file) here ∙ by_cause why so
      ]
    where
      by_cause : (taken_at taken (key_at keys place).file ≡ true) ⊎ (is_path path (path_at paths (key_at keys place).file) ≡ false)
          → path_at paths (key_at keys place).file ≡ Some path → taken_at taken (key_at keys place).file ≡ true
      by_cause (inl is_taken) so = is_taken
      by_cause (inr other) so = absurd (let here = passes path (path_at paths (key_at keys place).file) so in cc)

-- a file of a key is one of the volume
pub key_inside : (paths : List (Option (List ℕ))) (keys : List Key) (fronts : List ℕ) (taken : List Bool) → AreCandidates paths keys fronts taken
    → (place : ℕ) → place < length keys → (key_at keys place).file < length paths
key_inside paths keys fronts taken are place inside =
    let key = are.are_keys.each (key_at keys place) (place, inside, get_or_default keys place (key_at keys place) no_key inside) in
    has_entry paths (key_at keys place).file key.0 key.1

module _ (paths : List (Option (List ℕ))) (keys : List Key) (fronts : List ℕ) (taken : List Bool) (are : AreCandidates paths keys fronts taken) (path : List ℕ) (start end from : ℕ)
    (run : IsRun keys (hash_of path) start end) (from_is : from ≡ min end (start + slice_index fronts start)) where
  abbrev searched : List Key
  searched = take (end - from) (drop from keys)

  long : length searched ≡ end - from
  long = length-take (end - from) (drop from keys) ∙ (let all = length-drop from keys in let ended = run.ended in omega arith)

  key_there : (behind : ℕ) → behind < end - from → key_at searched behind ≡ key_at keys (from + behind)
  key_there behind low = get_or-take (end - from) (drop from keys) behind no_key low ∙ get_or-drop from keys behind no_key

  pub searched_inside : (behind : ℕ) → behind < length searched → (key_at searched behind).file < length paths
  searched_inside behind low =
      let within : behind < end - from = omega (arith, long, low) in
      let file = ap (λ (key : Key). key.file) (key_there behind within) in
      let ended = run.ended in
      omega (arith, file, key_inside paths keys fronts taken are (from + behind) (omega arith))

  -- of each file with the path a key stands in the run: one before what is searched is that of a file that is taken
  at_key : (file : ℕ) → path_at paths file ≡ Some path → taken_at taken file ≡ false
      → (behind : ℕ) × (behind < end - from) × (key_at keys (from + behind) ≡ key_of path file)
  at_key file is free =
      let has = are.are_keys.all file path (has_entry paths file path is) is in
      let place = has.0 in
      let here : key_at keys place ≡ key_of path file = get_or_default keys place no_key (key_of path file) has.1 ∙ has.2 in
      let within = run.all place has.1 (ap (λ (key : Key). key.hash) here) in
      elim (cases_lt place from) [
        | inl before ↦
            absurd (
            let low : place - start < slice_index fronts start = omega (arith, within, from_is) in
            let front = are.are_fronts.each start (place - start) (omega (arith, within, has.1)) low in
            let there : start + (place - start) ≡ place = omega (arith, within) in
            let is_taken = ap (λ (k : ℕ). taken_at taken (key_at keys k).file) (sym there) in
            let same = ap (λ (key : Key). taken_at taken key.file) here in
            cc (front.1, is_taken, same, free)
            )
        | inr behind ↦
            let there : from + (place - from) ≡ place = omega arith in
            (place - from, omega (arith, within), ap (key_at keys) there ∙ here)
      ]

  pub none_free : NoneFreeIn paths taken path searched (length searched) → HasNoneFree paths taken path
  none_free none file is = by_test (taken_at taken file) refl
    where
      by_test : (b : Bool) → taken_at taken file ≡ b → taken_at taken file ≡ true
      by_test true so = so
      by_test false so =
          let has = at_key file is so in
          let there = key_there has.0 has.1 ∙ has.2 in
          let of_file = ap (λ (key : Key). key.file) there in
          absurd (
          let is_taken = none has.0 (omega (arith, long, has.1)) (ap (path_at paths) of_file ∙ is) in
          let same = ap (taken_at taken) of_file in
          cc (is_taken, same, so)
          )

  pub first_free : (behind : ℕ) → IsFreeAt paths taken path searched behind → IsFirstFreeIn paths taken path keys start (from + behind)
  first_free behind found = record {
    start_inside = omega (arith, run.all (from + behind) inside hash_is);
    inside = inside;
    is_first = record { of_path = of_path; free = ap (λ (key : Key). taken_at taken key.file) (sym there) ∙ found.free; first = first };
  }
    where
      low : behind < end - from
      low = omega (arith, found.inside, long)

      inside : from + behind < length keys
      inside = omega (arith, low, run.ended)

      there : key_at searched behind ≡ key_at keys (from + behind)
      there = key_there behind low

      of_path : path_at paths (key_at keys (from + behind)).file ≡ Some path
      of_path = ap (λ (key : Key). path_at paths key.file) (sym there) ∙ found.of_path

      hash_is : (key_at keys (from + behind)).hash ≡ hash_of path
      hash_is =
          let key = are.are_keys.each (key_at keys (from + behind)) (from + behind, inside, get_or_default keys (from + behind) (key_at keys (from + behind)) no_key inside) in
          let same : key.0 ≡ path = cc (key.1, of_path) in
          key.2 ∙ ap hash_of same

      first : (earlier : ℕ) → earlier < (key_at keys (from + behind)).file → path_at paths earlier ≡ Some path → taken_at taken earlier ≡ true
      first earlier before is = by_test (taken_at taken earlier) refl
        where
          by_test : (b : Bool) → taken_at taken earlier ≡ b → taken_at taken earlier ≡ true
          by_test true so = so
          by_test false so =
              let has = at_key earlier is so in
              let of_earlier = ap (λ (key : Key). key.file) has.2 in
              elim (cases_lt has.0 behind) [
                | inl passed ↦
                    absurd (
                    let here = key_there has.0 has.1 ∙ has.2 in
                    let of_file = ap (λ (key : Key). key.file) here in
                    let is_taken = found.first has.0 passed (ap (path_at paths) of_file ∙ is) in
                    let same = ap (taken_at taken) of_file in
                    cc (is_taken, same, so)
                    )
                | inr later ↦
                    absurd (
                    let order = are.rising.files (from + behind) (from + has.0) (omega arith) (omega (arith, has.1, run.ended))
                    (hash_is ∙ sym (ap (λ (key : Key). key.hash) has.2)) in
                    omega (arith, order, of_earlier, before)
                    )
              ]

-- a place with what is known to be taken from it on is one of the keys, or their end
pub front_within : (keys : List Key) (fronts : List ℕ) (taken : List Bool) → AreFronts keys fronts taken → (place : ℕ) → place ≤ length keys
    → place + slice_index fronts place ≤ length keys
front_within keys fronts taken are place begun = elim (cases_lt place (length keys)) [
  | inl inside ↦ elim (cases_lt 0 (slice_index fronts place)) [
    | inl some ↦ let last = are.each place (slice_index fronts place - 1) inside (omega arith) in omega (arith, last.0)
    | inr none ↦ omega arith
  ]
  | inr past ↦ let none = get_or_past fronts place 0 (omega (arith, are.long)) in omega (arith, none)
]

-- what is known of how many keys are those of files that are taken, when one more is
module _ (keys : List Key) (fronts : List ℕ) (taken : List Bool) (are : AreFronts keys fronts taken) (file : ℕ) where
  still_taken : file < length taken → (any : ℕ) → taken_at taken any ≡ true → taken_at (set taken file true) any ≡ true
  still_taken inside any is = elim (cases_eq any file) [
    | inl here ↦ ap (taken_at (set taken file true)) here ∙ get_or-set_same taken file true false inside
    | inr other ↦ get_or-set_other taken file any true false other ∙ is
  ]

  pub fronts_stay : file < length taken → AreFronts keys fronts (set taken file true)
  fronts_stay inside = record {
    long = are.long;
    each = λ place behind in_keys low. let was = are.each place behind in_keys low in (was.0, still_taken inside (key_at keys (place + behind)).file was.1);
  }

  pub fronts_grow : file < length taken → (start : ℕ) → start < length keys → start + slice_index fronts start < length keys
      → (key_at keys (start + slice_index fronts start)).file ≡ file → AreFronts keys (set fronts start (slice_index fronts start + 1)) (set taken file true)
  fronts_grow inside start begun in_keys is = record {
    long = length-set fronts start (slice_index fronts start + 1) ∙ are.long;
    each = each;
  }
    where
      each : (place behind : ℕ) → place < length keys → behind < slice_index (set fronts start (slice_index fronts start + 1)) place
          → (place + behind < length keys) × (taken_at (set taken file true) (key_at keys (place + behind)).file ≡ true)
      each place behind within low = elim (cases_eq place start) [
        | inl here ↦ at_start here
        | inr other ↦
            let same = get_or-set_other fronts start place (slice_index fronts start + 1) 0 other in
            let was = are.each place behind within (omega (arith, low, same)) in
            (was.0, still_taken inside (key_at keys (place + behind)).file was.1)
      ]
        where
          at_start : place ≡ start → (place + behind < length keys) × (taken_at (set taken file true) (key_at keys (place + behind)).file ≡ true)
          at_start here = elim (cases_lt behind (slice_index fronts start)) [
            | inl before ↦
                let was = are.each place behind within (let same = ap (slice_index fronts) here in omega arith) in
                (was.0, still_taken inside (key_at keys (place + behind)).file was.1)
            | inr behind_it ↦
                let now : slice_index (set fronts start (slice_index fronts start + 1)) place ≡ slice_index fronts start + 1 =
                ap (slice_index (set fronts start (slice_index fronts start + 1))) here
                ∙ get_or-set_same fronts start (slice_index fronts start + 1) 0 (omega (arith, are.long, begun)) in
                let there : place + behind ≡ start + slice_index fronts start = omega (arith, low, now) in (
                  omega (arith, there, in_keys),
                  ap (λ (k : ℕ). taken_at (set taken file true) (key_at keys k).file) there ∙ ap (taken_at (set taken file true)) is ∙ get_or-set_same taken file true false inside,
                )
          ]
