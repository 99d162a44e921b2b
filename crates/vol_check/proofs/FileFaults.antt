-- Each fault that the walk over a file tells is one of the file.
use Rattle.std.proofs.Common.{◌≡◌, ◌≢◌, inl, inr, ⊎_elim, ℕ, zero, suc, ◌+◌, ◌<◌, Bool, true, false, List, [], ◌∷◌, ◌++◌, append_assoc, length, length-append, replicate, take, ◌-◌, refl, sym, ◌∙◌, ap, subst, arith}
use Rattle.std.specs.Prelude.{not, ◌&&◌, if◌then◌else◌}
use Rattle.std.specs.List.{All, AllZip, Contains}
use Rattle.std.proofs.lemmas.List.Elements.{All-append, All-replicate, All-take}
use Rattle.std.proofs.lemmas.List.{append-nil, take_all}
use Rattle.std.proofs.lemmas.Slice.Zip.{AllZip-long}
use Rattle.a2_device.specs.Device.{unit_at}
use Rattle.a2_device.specs.declared.part.Part.{Part}
use Rattle.a2_device.specs.declared.fault.Fault.{Fault}
use Rattle.a2_device.specs.declared.fault.Fault.TheVariants.{OutOfRange, StorageType, InSystem, Shared, MarkedFree}
use Rattle.vol_format.specs.declared.link.Link.{Link}
use Rattle.vol_format.specs.declared.link.Link.TheVariants.{Null, Wild, Directory as ToDirectory, OtherType, To}
use Rattle.vol_format.specs.Directory.{Directory, entries, entry_of, root_of, is_system, is_free}
use Rattle.vol_format.specs.Meaning.{Meaning, link_from}
use Rattle.vol_format.specs.Reach.{Before}
use Rattle.vol_format.specs.Laws.{IsReadable}
use Rattle.vol_check.specs.FaultFiles.{FileFaultAt, StandsAt, TellsOf}
use Rattle.vol_check.specs.declared.walk.Pending.{Pending}
use Rattle.vol_check.specs.declared.walk.Pending.TheVariants.{Visit, Tell}
use Rattle.vol_check.specs.Walk.{Lists, is_visited, noted, followed, told, taken_up, after_visit, after_next, next_unit}
use Rattle.vol_check.specs.Walking.{IsWalking, None}
use Rattle.vol_check.proofs.Pushed.{in_front, at_end, front_or_end, in_none}
use Rattle.vol_check.proofs.Steps.{not_before_itself}
use Rattle.vol_check.proofs.Telling.{when_told}

-- what was told since is of the file, and so is what waits to be told
pub record IsTelling (format : Meaning) (directory : Directory) (store : List (List ℕ)) (file : ℕ) (before : List Fault) (walk : Lists) : Type 0 where
  pub so_far : TellsOf format directory store file before walk.faults
  pub waiting : (fault : Fault) → Contains walk.pending (Tell fault) → FileFaultAt format directory store file fault

visit_not_tell : (part : Part) (fault : Fault) → Tell fault ≡ Visit part → ⊥
visit_not_tell part fault e = cc

same_fault : (fault other : Fault) → Tell fault ≡ Tell other → fault ≡ other
same_fault fault other e = cc

module _ (format : Meaning) (directory : Directory) (store : List (List ℕ)) (file : ℕ) (before : List Fault) where
  one_more : (faults : List Fault) (fault : Fault) → FileFaultAt format directory store file fault → TellsOf format directory store file before faults
      → TellsOf format directory store file before (faults ++ fault ∷ [])
  one_more faults fault is tells = record {
    told = tells.told ++ fault ∷ [];
    behind = ap (λ fs. fs ++ fault ∷ []) tells.behind ∙ append_assoc before tells.told (fault ∷ []);
    of_file = λ f has. ⊎_elim (tells.of_file f) (λ new. subst (FileFaultAt format directory store file) (sym new) is) (front_or_end tells.told fault f has);
  }

  -- a fault is told
  tells_one : (walk : Lists) (pending : List Pending) (fault : Fault) → FileFaultAt format directory store file fault
      → ((f : Fault) → Contains pending (Tell f) → FileFaultAt format directory store file f) → TellsOf format directory store file before walk.faults
      → IsTelling format directory store file before (told fault (record walk { pending = pending }))
  tells_one walk pending fault is waiting tells =
      when_told (IsTelling format directory store file before) fault (record walk { pending = pending })
      (λ some. record { so_far = tells; waiting = waiting })
      (λ known. record { so_far = one_more walk.faults fault is tells; waiting = waiting })

  -- a fault is put off
  puts_off : (walk : Lists) (fault : Fault) → FileFaultAt format directory store file fault → IsTelling format directory store file before walk
      → IsTelling format directory store file before (record walk { pending = walk.pending ++ Tell fault ∷ [] })
  puts_off walk fault is telling = record {
    so_far = telling.so_far;
    waiting = λ f has. ⊎_elim (telling.waiting f) (λ new. subst (FileFaultAt format directory store file) (sym (same_fault f fault new)) is)
        (front_or_end walk.pending (Tell fault) (Tell f) has);
  }

  puts_off_part : (walk : Lists) (part : Part) → IsTelling format directory store file before walk
      → IsTelling format directory store file before (record walk { pending = walk.pending ++ Visit part ∷ [] })
  puts_off_part walk part telling = record {
    so_far = telling.so_far;
    waiting = λ f has. ⊎_elim (telling.waiting f) (λ new. absurd (visit_not_tell part f new)) (front_or_end walk.pending (Visit part) (Tell f) has);
  }

  -- what a pointer names is noted
  notes : (holder : ℕ) (link : Link) (walk : Lists) → (link ≡ Wild → FileFaultAt format directory store file (OutOfRange holder))
      → (link ≡ OtherType → FileFaultAt format directory store file (StorageType holder)) → IsTelling format directory store file before walk
      → IsTelling format directory store file before (noted holder link walk)
  notes holder Null walk wild other telling = telling
  notes holder ToDirectory walk wild other telling = telling
  notes holder Wild walk wild other telling = puts_off walk (OutOfRange holder) (wild refl) telling
  notes holder OtherType walk wild other telling = puts_off walk (StorageType holder) (other refl) telling
  notes holder (To part) walk wild other telling = puts_off_part walk part telling

  -- the walk over the file begins
  pub begins_telling : (holder : ℕ) (link : Link) (walk new : Lists) → file < entries directory → holder ≡ (entry_of directory file).place → link ≡ root_of directory file
      → new ≡ noted holder link walk → walk.pending ≡ [] → before ≡ walk.faults → IsTelling format directory store file before new
  begins_telling holder link walk new within holder_is link_is new_is empty before_is =
      subst (IsTelling format directory store file before) (sym new_is)
      (notes holder link walk (λ wild. inl (within, sym holder_is, sym link_is ∙ wild)) (λ other. (within, sym holder_is, sym link_is ∙ other)) (record {
        so_far = record { told = []; behind = sym before_is ∙ sym (append-nil before); of_file = λ f has. absurd (in_none f has) };
        waiting = λ f has. absurd (in_none (Tell f) (subst (λ (ps : List Pending). Contains ps (Tell f)) empty has));
      }))

  module _ (laws : IsReadable format) where
    follows : (part : Part) → StandsAt format directory store file part.place part → (n : ℕ) (walk : Lists) → IsTelling format directory store file before walk
        → IsTelling format directory store file before (followed (link_from format store part) part.place n walk)
    follows part stands zero walk telling = telling
    follows part stands (suc i) walk telling =
        follows part stands i (noted part.place (link_from format store part i) walk)
        (notes part.place (link_from format store part i) walk (λ wild. inr (part, stands, (i, wild)))
        (λ other. absurd (laws.child_type (length store) part (unit_at store part.place) i other)) telling)

    -- a part is looked at
    visits : (walk : Lists) (rest : List Pending) (part : Part) → IsWalking format directory store (file + 1) None walk → walk.pending ≡ rest ++ Visit part ∷ []
        → directory.places ≡ length store → IsTelling format directory store file before walk
        → IsTelling format directory store file before (after_visit format directory part (unit_at store part.place) (record walk { pending = rest }))
    visits walk rest part walking on_top as_many telling =
        by_tests (is_system directory part.place) (is_visited walk part.place) (is_free directory part.place) refl refl refl
      where
        it_waits : Contains walk.pending (Visit part)
        it_waits = subst (λ (qs : List Pending). Contains qs (Visit part)) (sym on_top) (at_end rest (Visit part))

        stands : StandsAt format directory store file part.place part
        stands = record { reached = walking.waiting part it_waits; in_file = omega (arith, walking.waiting_file part it_waits); stands = refl }

        still : (f : Fault) → Contains rest (Tell f) → FileFaultAt format directory store file f
        still f has = telling.waiting f (subst (λ (qs : List Pending). Contains qs (Tell f)) (sym on_top) (in_front rest (Visit part) (Tell f) has))

        shared : is_visited walk part.place ≡ true → FileFaultAt format directory store file (Shared part.place)
        shared visited =
            let at = walking.by_part part.place visited in
            let differ : part ≢ at.0 = λ same. (not_before_itself format laws directory store) part
            (subst (λ x. Before format x part) (sym same) (walking.later at.0 part at.1 it_waits)) in
            (part, at.0, stands, walking.reached at.0 at.1, at.2, differ)

        free_tells : (free : Bool) → is_free directory part.place ≡ free
            → TellsOf format directory store file before (if free then walk.faults ++ MarkedFree part.place ∷ [] else walk.faults)
        free_tells false is = telling.so_far
        free_tells true is = one_more walk.faults (MarkedFree part.place) (part, stands, is) telling.so_far

        by_tests : (system visited free : Bool) → is_system directory part.place ≡ system → is_visited walk part.place ≡ visited → is_free directory part.place ≡ free
            → IsTelling format directory store file before
            (if not system && not visited
            then followed (format.child directory.places part (unit_at store part.place)) part.place (format.pointers part)
            (if system then told (InSystem part.place) (record walk { pending = rest })
            else (if visited then told (Shared part.place) (record walk { pending = rest }) else taken_up directory part (record walk { pending = rest })))
            else (if system then told (InSystem part.place) (record walk { pending = rest })
            else (if visited then told (Shared part.place) (record walk { pending = rest }) else taken_up directory part (record walk { pending = rest }))))
        by_tests true visited free system_is visited_is free_is =
            tells_one walk rest (InSystem part.place) (part, stands, system_is) still telling.so_far
        by_tests false true free system_is visited_is free_is = tells_one walk rest (Shared part.place) (shared visited_is) still telling.so_far
        by_tests false false free system_is visited_is free_is =
            subst (λ n. IsTelling format directory store file before
            (followed (format.child n part (unit_at store part.place)) part.place (format.pointers part) (taken_up directory part (record walk { pending = rest })))) (sym as_many)
            (follows part stands (format.pointers part) (taken_up directory part (record walk { pending = rest }))
            (record { so_far = free_tells (is_free directory part.place) refl; waiting = still }))

    -- what is next is done
    pub goes_on_telling : (walk new : Lists) (rest : List Pending) (next : Pending) → IsWalking format directory store (file + 1) None walk
        → walk.pending ≡ rest ++ next ∷ [] → directory.places ≡ length store
        → new ≡ after_next format directory next (next_unit store next) (record walk { pending = rest })
        → IsTelling format directory store file before walk → IsTelling format directory store file before new
    goes_on_telling walk new rest (Visit part) walking on_top as_many new_is telling =
        subst (IsTelling format directory store file before) (sym new_is) (visits walk rest part walking on_top as_many telling)
    goes_on_telling walk new rest (Tell fault) walking on_top as_many new_is telling =
        subst (IsTelling format directory store file before) (sym new_is)
        (tells_one walk rest fault (telling.waiting fault (subst (λ (qs : List Pending). Contains qs (Tell fault)) (sym on_top) (at_end rest (Tell fault))))
        (λ f has. telling.waiting f (subst (λ (qs : List Pending). Contains qs (Tell f)) (sym on_top) (in_front rest (Tell fault) (Tell f) has)))
        telling.so_far)

-- lists that go together do so with a file put beside each fault that was told of it
module _ {X : Type 0} (R : ℕ → X → Type 0) (file : ℕ) where
  all_of_file : (told : List X) → ((x : X) → Contains told x → R file x) → AllZip R (replicate (length told) file) told
  all_of_file [] each = tt
  all_of_file (x ∷ told) each = (each x (0, omega arith, refl), all_of_file told (λ y has. each y (suc has.0, omega (arith, has.1), has.2)))

  with_told : (files : List ℕ) (before told : List X) → AllZip R files before → ((x : X) → Contains told x → R file x)
      → AllZip R (files ++ replicate (length told) file) (before ++ told)
  with_told [] [] told zipped each = all_of_file told each
  with_told [] (x ∷ before) told zipped each = absurd zipped
  with_told (f ∷ files) [] told zipped each = absurd zipped
  with_told (f ∷ files) (x ∷ before) told zipped each = (zipped.0, with_told files before told zipped.1 each)

  pub zipped_on : (files new : List ℕ) (before told after : List X) (count size : ℕ) → AllZip R files before → after ≡ before ++ told → ((x : X) → Contains told x → R file x)
      → count ≡ length after → size ≡ length files → new ≡ take count files ++ replicate (count - size) file → AllZip R new after
  zipped_on files new before told after count size zipped after_is each count_is size_is new_is =
      let same : length before ≡ length files = AllZip-long R files before zipped in
      let long : count ≡ length files + length told = omega (arith, count_is, ap length after_is, length-append before told, same) in
      let whole : take count files ≡ files = take_all count files (omega (arith, long)) in
      let rest : count - size ≡ length told = omega (arith, long, size_is) in
      subst (λ (fs : List ℕ). AllZip R fs after) (sym (new_is ∙ ap (λ fs. fs ++ replicate (count - size) file) whole ∙ ap (λ n. files ++ replicate n file) rest))
      (subst (AllZip R (files ++ replicate (length told) file)) (sym after_is) (with_told files before told zipped each))

-- they are those of entries before the next
pub files_below : (file : ℕ) (files new : List ℕ) (count more : ℕ) → All (λ other. other < file) files → new ≡ take count files ++ replicate more file
    → All (λ other. other < file + 1) new
files_below file files new count more below new_is =
    let kept : All (λ other. other < file + 1) files = λ k d within. omega (arith, below k d within) in
    subst (All (λ other. other < file + 1)) (sym new_is)
    (All-append (λ other. other < file + 1) (take count files) (replicate more file) (All-take (λ other. other < file + 1) count files kept)
    (All-replicate (λ other. other < file + 1) more file (omega arith)))
