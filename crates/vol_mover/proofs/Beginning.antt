-- What an opening tells, as a session needs it.
use Rattle.std.specs.Prelude.{◌≡◌, ◌≢◌, ◌↔◌, ◌<◌, ◌≤◌, ◌==◌, ℕ, suc, ◌+◌, ◌/◌, Bool, true, false, not, ◌&&◌, if◌then◌else◌, List, [], ◌∷◌, length, slice_index, slice_index_or, Contains, AllPairs}
use Rattle.std.specs.List.{list_any}
use Rattle.std.proofs.Common.{refl, sym, ◌∙◌, ap, subst, arith}
use Rattle.std.proofs.lemmas.Bool.Decides.{nat_tests}
use Rattle.std.proofs.lemmas.List.{get_or-map, get_or_default, length-map}
use Rattle.std.proofs.lemmas.List.Folds.{list_any_at}
use Rattle.std.proofs.lemmas.List.Kept.{AllPairs-filter}
use Rattle.a2_device.specs.declared.part.Part.{Part}
use Rattle.vol_layout.specs.Layouts.{Placement, IsLayout}
use Rattle.vol_format.specs.Accepted.{IsAccepted}
use Rattle.vol_format.specs.Directory.{Directory, is_free}
use Rattle.vol_format.specs.Laws.{IsDirectory}
use Rattle.vol_format.specs.Meaning.{Meaning}
use Rattle.vol_format.specs.Reach.{Reach, IsPartsOf}
use Rattle.vol_format.specs.Standing.{Stands, IsLost, at_place, index_in, layout_of, no_part, part_now}
use Rattle.vol_format.proofs.Filters.{out_of_filter}
use Rattle.vol_check.specs.Told.{Told, IsToldOf}
use Rattle.vol_mover.specs.Tasks.{at_first, place_of}
use Rattle.vol_mover.specs.Work.{AreSpare}
use Rattle.vol_mover.specs.Open.{IsOpen}
use Rattle.vol_mover.proofs.FewTasks.{filter_fewer}

-- a number of a list is that of its place
index_there : (xs : List ℕ) (place : ℕ) → index_in xs place < length xs → slice_index xs (index_in xs place) ≡ place
index_there [] place inside = absurd (omega (arith, inside))
index_there (x ∷ xs) place inside = by_test (index_there xs place) (x == place) refl inside
  where
    by_test : (index_in xs place < length xs → slice_index xs (index_in xs place) ≡ place) → (same : Bool) → (x == place) ≡ same
        → (if same then 0 else (index_in xs place + 1)) < length (x ∷ xs) → slice_index (x ∷ xs) (if same then 0 else (index_in xs place + 1)) ≡ place
    by_test rest true is inside' = let same : x ≡ place = grind (arith, nat_tests) in same
    by_test rest false is inside' =
        let next : index_in xs place + 1 ≡ suc (index_in xs place) = omega arith in
        ap (slice_index (x ∷ xs)) next ∙ rest (omega (arith, inside'))

both_true : (a b : Bool) → (a && b) ≡ true → (a ≡ true) × (b ≡ true)
both_true true true is = (refl, refl)
both_true true false is = absurd (cc)
both_true false b is = absurd (cc)

module _ (format : Meaning) (directory : Directory) (of : IsDirectory format directory) (told : Told) (is : IsToldOf directory told)
    (layout : IsLayout told.layout.at told.layout.places) where
  at_is : told.layout.at ≡ layout_of directory told.parts
  at_is = ap (λ (l : Placement). l.at) is.layout

  pub counted : told.layout.places ≡ length directory.available
  counted = ap (λ (l : Placement). l.places) is.layout

  pub size : length told.layout.at ≡ length told.parts
  size = ap (λ (xs : List ℕ). length xs) at_is ∙ length-map told.parts (λ (part : Part). index_in directory.available part.place)

  -- a part stands at the place of its number
  part_there : (k : ℕ) → k < length told.parts → place_of directory (slice_index told.layout.at k) ≡ (slice_index_or told.parts k no_part).place
  part_there k within =
      let number : slice_index told.layout.at k ≡ index_in directory.available (slice_index_or told.parts k no_part).place =
      ap (λ (xs : List ℕ). slice_index xs k) at_is ∙ get_or-map (λ (part : Part). index_in directory.available part.place) told.parts k no_part 0 within in
      let below : slice_index told.layout.at k < length directory.available = subst (λ n. slice_index told.layout.at k < n) counted (layout.below k 0 (omega (arith, size, within))) in
      ap (place_of directory) number
      ∙ index_there directory.available (slice_index_or told.parts k no_part).place (subst (λ n. n < length directory.available) number below)

  abbrev is_lost : ℕ → Bool
  is_lost place = not (is_free directory place) && not (list_any (λ (part : Part). part.place == place) told.parts)

  pub few_lost : length told.lost ≤ 65536
  few_lost = omega (arith, ap (λ (places : List ℕ). length places) is.lost, filter_fewer is_lost directory.available, of.few_available)

  pub spare : AreSpare directory told.layout.at told.lost
  spare = record {
    available = λ i d within. (passed (slice_index_or told.lost i d) (i, within, sym (get_or_default told.lost i d (slice_index_or told.lost i d) within))).0;
    once = subst (λ (xs : List ℕ). AllPairs (λ place later. place ≢ later) xs) (sym is.lost)
        (AllPairs-filter (λ place later. place ≢ later) is_lost directory.available of.available_once);
    by_unit = subst (λ (xs : List ℕ). AllPairs (λ place later. place / directory.map_size ≤ later / directory.map_size) xs) (sym is.lost)
        (AllPairs-filter (λ place later. place / directory.map_size ≤ later / directory.map_size) is_lost directory.available of.available_by_unit);
    no_part = λ k within has. not_taken k (omega (arith, size, within)) (passed (place_of directory (slice_index told.layout.at k)) has).1;
  }
    where
      passed : (place : ℕ) → Contains told.lost place → Contains directory.available place × (is_lost place ≡ true)
      passed place has = out_of_filter is_lost directory.available place (subst (λ (xs : List ℕ). Contains xs place) is.lost has)

      not_taken : (k : ℕ) → k < length told.parts → is_lost (place_of directory (slice_index told.layout.at k)) ≡ true → ⊥
      not_taken k within lost =
          let place = place_of directory (slice_index told.layout.at k) in
          let part = slice_index_or told.parts k no_part in
          let tests = both_true (not (is_free directory place)) (not (list_any (λ (p : Part). p.place == place) told.parts)) lost in
          let same : part.place ≡ place = sym (part_there k within) in
          let here : (part.place == place) ≡ true = grind (arith, nat_tests) in
          let found = list_any_at (λ (p : Part). p.place == place) told.parts k no_part within here in
          let free = tests.1 in
          absurd (cc (found, free))

  module _ (store : List (List ℕ)) (parts : IsPartsOf format directory store told.parts) where
    -- part k, as it is told
    part_is : (k : ℕ) → k < length told.parts → part_now told.parts directory.available told.layout.at k ≡ slice_index_or told.parts k no_part
    part_is k within = ap (at_place (slice_index_or told.parts k no_part)) (part_there k within)

    stands : Stands format directory store told.parts told.layout.at
    stands = record {
      ordered = parts.ordered;
      size = size;
      is_layout = subst (IsLayout told.layout.at) counted layout;
      reached = λ k within. subst (Reach format directory store) (sym (part_is k within))
          ((parts.members (slice_index_or told.parts k no_part)).0 (k, within, sym (get_or_default told.parts k no_part (slice_index_or told.parts k no_part) within)));
      all = λ part reach.
          let has = (parts.members part).1 reach in
          (has.0, has.1, sym has.2 ∙ sym (get_or_default told.parts has.0 no_part part has.1) ∙ sym (part_is has.0 has.1));
    }

    pub opens : IsAccepted format directory store → ((place : ℕ) → Contains told.lost place ↔ IsLost format directory store place)
        → IsOpen format directory store told.parts (at_first told.layout.at told.lost)
    opens accepted lost = record {
      directory = directory;
      frame = refl;
      accepted = accepted;
      stands = stands;
      lost = lost;
      copied = λ move some. absurd (cc (some));
    }
