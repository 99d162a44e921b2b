-- The writes that delete a file, one after another.
use Rattle.std.specs.Prelude.{◌≡◌, ◌≢◌, ◌⊎◌, ◌<◌, ◌≤◌, ◌+◌, ◌-◌, ℕ, Bool, true, false, List, [], length, map, take, ◌++◌, slice_index_or, All}
use Rattle.std.proofs.Common.{refl, sym, ◌∙◌, ap, subst, arith, inl, inr}
use Rattle.std.proofs.Math.Seq.{take-append-add}
use Rattle.std.proofs.lemmas.Bool.{cases_lt}
use Rattle.std.proofs.lemmas.List.{length-map, take_all, take-append-le}
use Rattle.std.proofs.lemmas.List.Elements.{All-nil, All-map, All-contains}
use Rattle.a2_device.specs.Device.{unit_at}
use Rattle.vol_format.specs.Accepted.{IsAccepted}
use Rattle.vol_format.specs.Directory.{Directory, entry_of, root_of, is_free}
use Rattle.vol_format.specs.Laws.{IsReadable, IsMovable, IsWritable}
use Rattle.vol_format.specs.Meaning.{Meaning}
use Rattle.vol_laws.specs.Kept.{IsKept}
use Rattle.vol_laws.specs.Marked.{CanMark, marked}
use Rattle.vol_laws.specs.declared.mark.Mark.{Mark}
use Rattle.vol_laws.proofs.Kept.{kept_same}
use Rattle.vol_laws.proofs.ReadBack.{reads_back}
use Rattle.vol_laws.specs.EditLaws.{IsFileFree}
use Rattle.vol_laws.specs.Entered.{HasSameRest, HasLeft, IsTaken}
use Rattle.vol_laws.specs.Deleted.{HasEntryErased, HasFileDeleted}
use Rattle.vol_laws.specs.Deletion.{free_mark, release_write, IsOwnPlace, IsDeletion}
use Rattle.vol_laws.specs.Markings.{Marking, marking_of, all_marks}
use Rattle.vol_laws.specs.Lists.{IsFirst}
use Rattle.vol_laws.specs.Writes.{Write, store_after}
use Rattle.vol_laws.proofs.Fronts.{after_both, unit_after}
use Rattle.vol_laws.proofs.Leaving.{erased, lost_after, entry_erased, file_deleted}
use Rattle.vol_laws.proofs.Marking.{all_of_marks, mark_of_place, marked_or_not, CanMarkIn, markings_kept}

module _ (format : Meaning) (laws : IsReadable format) (movable : IsMovable format) (writable : IsWritable format) (free : IsFileFree format)
    (is_named : List ℕ → Bool) (directory : Directory) (file : ℕ) (store : List (List ℕ)) (writes : List Write)
    (accepted : IsAccepted format directory store) (full : (place : ℕ) → place < length store → length (unit_at store place) ≡ format.unit_size)
    (first : IsFirst is_named directory file) (deletion : IsDeletion format directory file store writes) where
  abbrev few : Directory
  few = deletion.few

  abbrev system : List Write
  system = deletion.system

  abbrev releases : List Marking
  releases = deletion.releases

  abbrev released : List Write
  released = map (release_write format store) releases

  abbrev Taken : ℕ → Type 0
  Taken place = IsTaken format store (root_of directory file) place

  abbrev base : List (List ℕ)
  base = store_after system store

  -- which places are the file's
  all_own : (m : ℕ) → All (λ (mark : Mark). Taken mark.place) (all_marks true (take m releases))
  all_own m = all_of_marks true (λ (mark : Mark). Taken mark.place) releases m (λ k inside i d within. (deletion.own k inside i d within).own)

  whole_list : take (length releases) releases ≡ releases
  whole_list = take_all (length releases) releases (omega arith)

  either : (place : ℕ) → Taken place ⊎ ¬ Taken place
  either place = elim (marked_or_not (all_marks true releases) place) [
    | inl has ↦ inl (subst Taken has.2 (All-contains (λ (mark : Mark). Taken mark.place) (all_marks true releases) has.0
        (subst (λ (l : List Marking). All (λ (mark : Mark). Taken mark.place) (all_marks true l)) whole_list (all_own (length releases))) has.1))
    | inr none ↦ inr (λ taken.
        let here = deletion.each taken.0 taken.1 in
        All-contains (λ (mark : Mark). mark.place ≢ place) (all_marks true releases) (free_mark taken.0.place) none
        (mark_of_place true releases here.0 taken.0.place here.1 here.2) taken.2)
  ]

  -- the entry is erased
  system_whole : take (length system) system ≡ system
  system_whole = take_all (length system) system (omega arith)

  described : format.Describes base few
  described = subst (λ (l : List Write). format.Describes (store_after l store) few) system_whole (deletion.described (length system) deletion.erases (omega arith))

  rest : HasSameRest few store base
  rest = subst (λ (l : List Write). HasSameRest few store (store_after l store)) system_whole (deletion.rest (length system) deletion.erases (omega arith))

  pub front_erased : (n : ℕ) → 0 < n → n ≤ length system → HasEntryErased format is_named directory file store (store_after (take n system) store)
  front_erased n some below =
      let now = deletion.described n some below in
      let same = deletion.rest n some below in
      let has = erased format laws movable free is_named directory few file store (store_after (take n system) store) accepted first deletion.takes deletion.within deletion.is now same in
      entry_erased format laws movable free is_named directory few file store (store_after (take n system) store) accepted first deletion.takes deletion.within deletion.is now same
      [] (store_after (take n system) store) (kept_same format few (store_after (take n system) store) has.accepted) (All-nil (λ (mark : Mark). Taken mark.place)) either

  -- its places are marked
  has_left : HasLeft format few file (entry_of directory file) store base
  has_left = erased format laws movable free is_named directory few file store base accepted first deletion.takes deletion.within deletion.is described rest

  places_are : few.places ≡ length store
  places_are = sym (ap (λ (d : Directory). d.places) deletion.is) ∙ laws.all_places store directory accepted.described

  can_mark : (at place : ℕ) → IsOwnPlace format directory few file store at place → CanMark format few base at (free_mark place)
  can_mark at place own = record {
    inside = own.inside;
    here = own.here;
    unreached = λ freed part reach same. (has_left.lost_own own.own.0 own.own.1).unreached part reach (same ∙ sym own.own.2);
  }

  can_release : (k : ℕ) → k < length releases → CanMarkIn format true few store base (marking_of releases k)
  can_release k inside = record {
    inside = subst (λ n. (marking_of releases k).at < n) places_are (deletion.inside k inside);
    same = unit_after system store (marking_of releases k).at (deletion.apart k inside);
    marks = All-map (CanMark format few base (marking_of releases k).at) free_mark (marking_of releases k).places
        (λ i d within. can_mark (marking_of releases k).at (get_place i d) (deletion.own k inside i d within));
  }
    where
      get_place : ℕ → ℕ → ℕ
      get_place i d = slice_index_or (marking_of releases k).places i d

  kept : (m : ℕ) → IsKept format few (marked few (all_marks true (take m releases))) base (store_after (take m released) base)
  kept m = markings_kept format laws movable writable true store full releases m few base has_left.accepted can_release deletion.rising

  pub front_marked : (m : ℕ) → HasEntryErased format is_named directory file store (store_after (take m released) base)
  front_marked m =
      entry_erased format laws movable free is_named directory few file store base accepted first deletion.takes deletion.within deletion.is described rest
      (all_marks true (take m releases)) (store_after (take m released) base) (kept m) (all_own m) either

  pub stopped : (made : ℕ) → 0 < made → made ≤ length writes → HasEntryErased format is_named directory file store (store_after (take made writes) store)
  stopped made some below = elim (cases_lt (length system) made) [
    | inl above ↦
        let m = made - length system in
        let split : made ≡ length system + m = omega (arith, above) in
        let same : take made writes ≡ system ++ take m released =
        ap (take made) deletion.are ∙ ap (λ n. take n (system ++ released)) split ∙ take-append-add system released m in
        subst (HasEntryErased format is_named directory file store)
        (sym (ap (λ (l : List Write). store_after l store) same ∙ after_both system (take m released) store)) (front_marked m)
    | inr within ↦
        subst (λ (l : List Write). HasEntryErased format is_named directory file store (store_after l store))
        (sym (ap (take made) deletion.are ∙ take-append-le made system released within)) (front_erased made some within)
  ]

  -- all of them stand
  marked_all : (place : ℕ) → Taken place → is_free (marked few (all_marks true releases)) place ≡ true
  marked_all place taken =
      let here = deletion.each taken.0 taken.1 in
      let has = mark_of_place true releases here.0 taken.0.place here.1 here.2 in
      let own = All-contains (IsOwnPlace format directory few file store (marking_of releases here.0).at) (marking_of releases here.0).places taken.0.place (deletion.own here.0 here.1) here.2 in
      let inside : taken.0.place < length few.free = omega (arith, own.inside, writable.marks base few described) in
      ap (is_free (marked few (all_marks true releases))) (sym taken.2)
      ∙ reads_back (free_mark taken.0.place) (all_marks true releases) few inside has
      (λ i d below same. all_free i d below)
    where
      all_free : All (λ (mark : Mark). mark.free ≡ true) (all_marks true releases)
      all_free = subst (λ (l : List Marking). All (λ (mark : Mark). mark.free ≡ true) (all_marks true l)) whole_list
          (all_of_marks true (λ (mark : Mark). mark.free ≡ true) releases (length releases) (λ k inside i d within. refl))

  kept_all : IsKept format few (marked few (all_marks true releases)) base (store_after released base)
  kept_all =
      subst (λ (l : List Write). IsKept format few (marked few (all_marks true releases)) base (store_after l base))
      (take_all (length releases) released (omega (arith, length-map releases (release_write format store))))
      (subst (λ (l : List Marking). IsKept format few (marked few (all_marks true l)) base (store_after (take (length releases) released) base)) whole_list (kept (length releases)))

  own_all : All (λ (mark : Mark). Taken mark.place) (all_marks true releases)
  own_all = subst (λ (l : List Marking). All (λ (mark : Mark). Taken mark.place) (all_marks true l)) whole_list (all_own (length releases))

  both : {b : Bool} → b ≡ false → b ≡ true → ⊥
  both e e' = cc

  done_marked : HasFileDeleted format is_named store (store_after released base)
  done_marked =
      file_deleted format laws movable free is_named directory few file store base accepted first deletion.takes deletion.within deletion.is described rest
      (all_marks true releases) (store_after released base) kept_all own_all either
      (λ place lost taken. both
      (lost_after format laws movable free is_named directory few file store base accepted first deletion.takes deletion.within deletion.is described rest
      (all_marks true releases) (store_after released base) kept_all own_all place lost).marked (marked_all place taken))

  pub done : HasFileDeleted format is_named store (store_after writes store)
  done = subst (HasFileDeleted format is_named store)
      (sym (ap (λ (l : List Write). store_after l store) deletion.are ∙ after_both system released store)) done_marked
