-- A volume whose parts stand where a layout says has that layout.
use Rattle.std.specs.Prelude.{◌≡◌, ◌≢◌, ◌↔◌, ◌<◌, ◌==◌, ℕ, suc, zero, ◌+◌, Bool, true, false, if◌then◌else◌, List, [], ◌∷◌, length, map, slice_index, slice_index_or, Contains, AllPairs}
use Rattle.std.specs.List.{range_with_len}
use Rattle.std.proofs.Common.{refl, sym, ◌∙◌, ap, subst, arith, inl, inr, ⊎_elim}
use Rattle.std.proofs.lemmas.Bool.Decides.{nat_tests}
use Rattle.std.proofs.lemmas.List.{get_or-map, length-map}
use Rattle.std.proofs.lemmas.List.FromFn.{length-map-range_with_len, get_or-map-range_with_len, fill_by_all}
use Rattle.a2_device.specs.declared.part.Part.{Part}
use Rattle.vol_format.specs.Accepted.{IsAccepted}
use Rattle.vol_format.specs.Directory.{Directory}
use Rattle.vol_format.specs.Laws.{IsDirectory, IsMovable}
use Rattle.vol_format.specs.Meaning.{Meaning}
use Rattle.vol_format.specs.Reach.{Reach, Before}
use Rattle.vol_format.specs.Standing.{Stands, index_in, layout_of, no_part, part_now}
use Rattle.vol_format.specs.Layout.{HasLayout}

-- the place of a number has that number, where no place is there twice
index_back : (xs : List ℕ) (n : ℕ) → AllPairs (λ place later. place ≢ later) xs → n < length xs → index_in xs (slice_index xs n) ≡ n
index_back [] n once inside = absurd (omega (arith, inside))
index_back (x ∷ xs) zero once inside = by_test (x == x) refl
  where
    by_test : (same : Bool) → (x == x) ≡ same → (if same then 0 else (index_in xs x + 1)) ≡ zero
    by_test true is = refl
    by_test false is = absurd (grind (arith, nat_tests))
index_back (x ∷ xs) (suc n) once inside =
    by_test (index_back xs n (λ i j d less within. once (suc i) (suc j) d (omega (arith, less)) (omega (arith, within))) (omega (arith, inside)))
    (x == slice_index xs n) refl
  where
    by_test : index_in xs (slice_index xs n) ≡ n → (same : Bool) → (x == slice_index xs n) ≡ same
        → (if same then 0 else (index_in xs (slice_index xs n) + 1)) ≡ suc n
    by_test rest true is =
        let same : x ≡ slice_index xs n = grind (arith, nat_tests) in
        absurd (once zero (suc n) 0 (omega arith) (omega (arith, inside)) same)
    by_test rest false is = omega (arith, rest)

module _ (format : Meaning) (movable : IsMovable format) (directory : Directory) (of : IsDirectory format directory) (store : List (List ℕ)) (parts : List Part) (at : List ℕ)
    (stands : Stands format directory store parts at) where
  -- part k where it stands
  there : ℕ → Part
  there k = part_now parts directory.available at k

  abbrev all_there : List Part
  all_there = map (part_now parts directory.available at) (range_with_len 0 (length parts))

  as_many : length all_there ≡ length parts
  as_many = length-map-range_with_len (part_now parts directory.available at) 0 (length parts)

  there_at : (k : ℕ) (d : Part) → k < length parts → slice_index_or all_there k d ≡ part_now parts directory.available at k
  there_at k d within = get_or-map-range_with_len (part_now parts directory.available at) 0 (length parts) k k d within (omega arith)

  members : (part : Part) → Contains all_there part ↔ Reach format directory store part
  members part = (
    λ has.
        let within : has.0 < length parts = omega (arith, has.1, as_many) in
        subst (Reach format directory store) (sym (there_at has.0 part within) ∙ has.2) (stands.reached has.0 within),
    λ reach.
        let found = stands.all part reach in
        (found.0, omega (arith, found.1, as_many), there_at found.0 part found.1 ∙ sym found.2),
  )

  same_rank : (k : ℕ) → format.rank (part_now parts directory.available at k) ≡ format.rank (slice_index_or parts k no_part)
  same_rank k = movable.rank_of (part_now parts directory.available at k) (slice_index_or parts k no_part) refl refl

  before : (i j : ℕ) → Before format (slice_index_or parts i no_part) (slice_index_or parts j no_part)
      → Before format (part_now parts directory.available at i) (part_now parts directory.available at j)
  before i j = ⊎_elim (λ files. inl files) (λ ranks. inr (ranks.0, omega (arith, ranks.1, same_rank i, same_rank j)))

  ordered : AllPairs (Before format) all_there
  ordered i j d less within =
      let inside : j < length parts = omega (arith, within, as_many) in
      subst (λ p. Before format p (slice_index_or all_there j d)) (sym (there_at i d (omega (arith, less, inside))))
      (subst (λ p. Before format (part_now parts directory.available at i) p) (sym (there_at j d inside))
      (before i j (stands.ordered i j no_part less inside)))

  number_at : (k : ℕ) → k < length parts → slice_index at k ≡ index_in directory.available (part_now parts directory.available at k).place
  number_at k within =
      sym (index_back directory.available (slice_index at k) of.available_once (stands.is_layout.below k 0 (omega (arith, within, stands.size))))

  layout_at : (k : ℕ) → k < length parts
      → slice_index_or (layout_of directory all_there) k 0 ≡ index_in directory.available (part_now parts directory.available at k).place
  layout_at k within =
      get_or-map (λ (part : Part). index_in directory.available part.place) all_there k no_part 0 (omega (arith, within, as_many))
      ∙ ap (λ (part : Part). index_in directory.available part.place) (there_at k no_part within)

  is_layout : at ≡ layout_of directory all_there
  is_layout =
      let number = λ (k : ℕ). index_in directory.available (part_now parts directory.available at k).place in
      let size : length (layout_of directory all_there) ≡ length parts = length-map all_there (λ (part : Part). index_in directory.available part.place) ∙ as_many in
      fill_by_all number at (length parts) 0 stands.size (λ k within. number_at k within)
      ∙ sym (fill_by_all number (layout_of directory all_there) (length parts) 0 size (λ k within. layout_at k within))

  pub stands_as : IsAccepted format directory store → HasLayout format store at
  stands_as accepted = record {
    directory = directory;
    accepted = accepted;
    parts = all_there;
    are_parts = record { members = members; ordered = ordered };
    is = is_layout;
  }
