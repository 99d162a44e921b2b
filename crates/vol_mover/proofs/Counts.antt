-- How many writes a plan's moves take, and which moves they make.
use Rattle.std.proofs.Common.{◌≡◌, ◌≢◌, ℕ, suc, ◌+◌, ◌<◌, ◌≤◌, ◌/◌, List, [], ◌∷◌, length, get_or, ap, sym, ◌∙◌, arith, inl, inr}
use Rattle.std.specs.Prelude.{◌==◌, slice_index, not, Contains, AllPairs, All}
use Rattle.std.proofs.lemmas.Bool.{cases_eq, cases_lt}
use Rattle.std.proofs.lemmas.List.Elements.{All-head, All-tail, All-filter}
use Rattle.std.proofs.lemmas.List.Kept.{AllPairs-filter}
use Rattle.vol_format.specs.Directory.{Directory, map_place}
use Rattle.vol_format.specs.Laws.{IsDirectory}
use Rattle.vol_format.specs.Meaning.{Meaning}
use Rattle.vol_mover.specs.Tasks.{Map}
use Rattle.vol_mover.specs.Writes.{freed, with_mark, change, releases}
use Rattle.vol_mover.proofs.Changed.{others, other_place, few_others}
use Rattle.vol_mover.proofs.Releases.{headed, same_unit, other_unit}
use Rattle.vol_mover.proofs.Spare.{available_below}

-- places by the units of the map that have their marks
abbrev pub index_of : Directory → ℕ → ℕ
index_of directory place = place / directory.map_size

abbrev pub AreByUnit : Directory → List ℕ → Type 0
AreByUnit directory places = AllPairs (λ place later. index_of directory place ≤ index_of directory later) places

by_unit_tail : (directory : Directory) (place : ℕ) (places : List ℕ) → AreByUnit directory (place ∷ places) → AreByUnit directory places
by_unit_tail directory place places by i j d order within = by (suc i) (suc j) d (omega (arith, order)) (omega (arith, within))

by_unit_head : (directory : Directory) (place next : ℕ) (places : List ℕ) → AreByUnit directory (place ∷ next ∷ places) → index_of directory place ≤ index_of directory next
by_unit_head directory place next places by = by 0 1 0 (omega arith) (omega arith)

-- one more mark is one more write, or none
more_same : (directory : Directory) (p q : ℕ) (qs : List ℕ) → map_place directory q ≡ map_place directory p
    → length (releases directory (p ∷ q ∷ qs)) ≡ length (releases directory (q ∷ qs))
more_same directory p q qs same =
    let h = headed (map_place directory q) (freed q) (releases directory qs) in
    let whole = ap (with_mark (map_place directory p) (freed p)) (h.is ∙ ap (λ unit. Map unit h.marks ∷ h.rest) same) ∙ same_unit (map_place directory p) (freed p) h.marks h.rest in
    ap length whole ∙ sym (ap length h.is)

more_other : (directory : Directory) (p q : ℕ) (qs : List ℕ) → map_place directory q ≢ map_place directory p
    → length (releases directory (p ∷ q ∷ qs)) ≡ suc (length (releases directory (q ∷ qs)))
more_other directory p q qs other =
    let h = headed (map_place directory q) (freed q) (releases directory qs) in
    let whole = ap (with_mark (map_place directory p) (freed p)) h.is ∙ other_unit (map_place directory p) (map_place directory q) (freed p) h.marks h.rest other in
    ap length whole ∙ ap (λ tasks. suc (length tasks)) (sym h.is)

pub some_release : (directory : Directory) (place : ℕ) (places : List ℕ) → 1 ≤ length (releases directory (place ∷ places))
some_release directory place places =
    let h = headed (map_place directory place) (freed place) (releases directory places) in
    rw h.is (omega arith)

module _ (format : Meaning) (directory : Directory) (is : IsDirectory format directory) where
  abbrev units : ℕ
  units = length directory.map_units

  index_below : (place : ℕ) → Contains directory.available place → index_of directory place < units
  index_below place has = is.map_counted place (available_below format directory is place has)

  same_index : (p q : ℕ) → index_of directory p ≡ index_of directory q → map_place directory p ≡ map_place directory q
  same_index p q e = ap (slice_index directory.map_units) e

  -- no more releases than units are left
  released_by_unit : (p : ℕ) (ps : List ℕ) → All (Contains directory.available) (p ∷ ps) → AreByUnit directory (p ∷ ps)
      → length (releases directory (p ∷ ps)) + index_of directory p ≤ units
  released_by_unit p [] there by = let i = index_below p (All-head (Contains directory.available) p [] there) in omega (arith, i)
  released_by_unit p (q ∷ qs) there by =
      let rest = released_by_unit q qs (All-tail (Contains directory.available) p (q ∷ qs) there) (by_unit_tail directory p (q ∷ qs) by) in
      let order = by_unit_head directory p q qs by in
      elim (cases_eq (map_place directory q) (map_place directory p)) [
        | inl same ↦ let more = more_same directory p q qs same in omega (arith, more, rest, order)
        | inr other ↦
            let more = more_other directory p q qs other in
            let ne : index_of directory q ≢ index_of directory p = λ e. other (same_index q p e) in
            omega (arith, more, rest, order, ne)
      ]

  -- nor than units but one, where none of the places is in that
  released_before : (unit p : ℕ) (ps : List ℕ) → unit < units → index_of directory p < unit → All (Contains directory.available) (p ∷ ps) → AreByUnit directory (p ∷ ps)
      → All (λ o. index_of directory o ≢ unit) (p ∷ ps) → length (releases directory (p ∷ ps)) + index_of directory p + 1 ≤ units
  released_before unit p [] below early there by far = omega (arith, below, early)
  released_before unit p (q ∷ qs) below early there by far =
      let there_later = All-tail (Contains directory.available) p (q ∷ qs) there in
      let by_later = by_unit_tail directory p (q ∷ qs) by in
      let far_later = All-tail (λ o. index_of directory o ≢ unit) p (q ∷ qs) far in
      let apart = All-head (λ o. index_of directory o ≢ unit) q qs far_later in
      let order = by_unit_head directory p q qs by in
      let all = released_by_unit q qs there_later by_later in
      elim (cases_eq (map_place directory q) (map_place directory p)) [
        | inl same ↦
            let more = more_same directory p q qs same in
            elim (cases_lt (index_of directory q) unit) [
              | inl earlier ↦ let rest = released_before unit q qs below earlier there_later by_later far_later in omega (arith, more, rest, order)
              | inr later ↦ omega (arith, more, all, early, later, apart)
            ]
        | inr other ↦
            let more = more_other directory p q qs other in
            let ne : index_of directory q ≢ index_of directory p = λ e. other (same_index q p e) in
            elim (cases_lt (index_of directory q) unit) [
              | inl earlier ↦ let rest = released_before unit q qs below earlier there_later by_later far_later in omega (arith, more, rest, order, ne)
              | inr later ↦ omega (arith, more, all, early, later, apart)
            ]
      ]

  released_beside : (unit : ℕ) (ps : List ℕ) → unit < units → All (Contains directory.available) ps → AreByUnit directory ps
      → All (λ o. index_of directory o ≢ unit) ps → length (releases directory ps) + 1 ≤ units
  released_beside unit [] below there by far = omega (arith, below)
  released_beside unit (p ∷ ps) below there by far =
      elim (cases_lt (index_of directory p) unit) [
        | inl earlier ↦ let most = released_before unit p ps below earlier there by far in omega (arith, most)
        | inr later ↦
            let all = released_by_unit p ps there by in
            let apart = All-head (λ o. index_of directory o ≢ unit) p ps far in
            omega (arith, all, later, apart)
      ]

  pub few_releases : (ps : List ℕ) → All (Contains directory.available) ps → AreByUnit directory ps → length (releases directory ps) ≤ units
  few_releases [] there by = omega arith
  few_releases (p ∷ ps) there by = let all = released_by_unit p ps there by in omega (arith, all)

  -- a change has a write for each unit at most
  pub few_changes : (place : ℕ) (lost : List ℕ) → Contains directory.available place → All (Contains directory.available) lost → AreByUnit directory lost
      → length (change directory place lost) ≤ units
  few_changes place lost has there by =
      let most = released_beside (index_of directory place) (others directory place lost) (index_below place has)
      (All-filter (λ p. not (map_place directory p == map_place directory place)) (Contains directory.available) lost there)
      (AllPairs-filter (λ x y. index_of directory x ≤ index_of directory y) (λ p. not (map_place directory p == map_place directory place)) lost by)
      (λ i d within e. other_place directory place lost i d within (same_index (get_or (others directory place lost) i d) place e)) in
      omega (arith, most)

-- nor more than a write for each place
releases_by_place : (directory : Directory) (ps : List ℕ) → length (releases directory ps) ≤ length ps
releases_by_place directory [] = omega arith
releases_by_place directory (p ∷ []) = omega arith
releases_by_place directory (p ∷ q ∷ qs) =
    let rest = releases_by_place directory (q ∷ qs) in
    elim (cases_eq (map_place directory q) (map_place directory p)) [
      | inl same ↦ let more = more_same directory p q qs same in omega (arith, more, rest)
      | inr other ↦ let more = more_other directory p q qs other in omega (arith, more, rest)
    ]

pub changes_by_place : (directory : Directory) (place : ℕ) (lost : List ℕ) → length (change directory place lost) ≤ length lost + 1
changes_by_place directory place lost = omega (arith, releases_by_place directory (others directory place lost), few_others directory place lost)

pub one_by_unit : (directory : Directory) (place : ℕ) → AreByUnit directory (place ∷ [])
one_by_unit directory place i j d order within = absurd (omega (arith, order, within))
