-- Each step of a walk over what any device tells leaves it sound, and less to do.
use Rattle.std.proofs.Common.{◌≡◌, ◌≢◌, ⊎_elim, ℕ, zero, suc, ◌+◌, ◌*◌, ◌<◌, ◌≤◌, Bool, true, false, List, [], ◌∷◌, ◌++◌, length, get_or, set, refl, sym, ◌∙◌, ap, subst, arith, length-append, length-set, count_by, cond}
use Rattle.std.specs.List.{Contains}
use Rattle.std.specs.Prelude.{not, ◌&&◌, ◌==◌, if◌then◌else◌}
use Rattle.std.proofs.lemmas.List.Sums.{sum_by-set}
use Rattle.std.proofs.lemmas.List.{get_or-set_same, get_or-set_other}
use Rattle.std.proofs.lemmas.Bool.Decides.{nat_tests}
use Rattle.a2_device.specs.declared.part.Part.{Part}
use Rattle.a2_device.specs.declared.fault.Fault.{Fault}
use Rattle.a2_device.specs.declared.fault.Fault.TheVariants.{OutOfRange, StorageType, InSystem, Shared, MarkedFree}
use Rattle.vol_format.specs.declared.link.Link.{Link}
use Rattle.vol_format.specs.declared.link.Link.TheVariants.{Null, Wild, Directory as ToDirectory, OtherType, To}
use Rattle.vol_format.specs.Directory.{Directory, entries, is_system, is_free}
use Rattle.vol_format.specs.Meaning.{Meaning}
use Rattle.vol_format.specs.Laws.{IsReadable}
use Rattle.vol_check.specs.declared.walk.Pending.{Pending}
use Rattle.vol_check.specs.declared.walk.Pending.TheVariants.{Visit, Tell}
use Rattle.vol_check.specs.Walk.{Lists, IsSound, is_visited, put_off, noted, followed, taken_up, told, after_visit, after_next}
use Rattle.vol_check.specs.declared.known.Known.{Known}
use Rattle.vol_check.proofs.Telling.{when_told}
use Rattle.vol_check.proofs.Pushed.{in_front, at_end, front_or_end, all_pairs_pushed}

-- what is left to do, as a number
abbrev pub work : Lists → ℕ
work walk = 257 * count_by not walk.visited + length walk.pending

same_visit : (part other : Part) → Visit part ≡ Visit other → part ≡ other
same_visit part other e = cc

not_a_visit : (fault : Fault) (part : Part) → Visit part ≡ Tell fault → ⊥
not_a_visit fault part e = cc

module _ (format : Meaning) (laws : IsReadable format) (directory : Directory) (takes : format.Takes directory.places) where
  -- what may wait: a part that stands in the volume
  abbrev Fits : ℕ → Part → Type 0
  Fits taken part = (part.place < directory.places) × (format.depth part ≤ taken) × (part.file < entries directory)

  waiting_fits : (walk : Lists) → IsSound format directory walk → (part : Part) → Contains walk.pending (Visit part) → Fits (length walk.parts) part
  waiting_fits walk sound part h = (sound.waiting_place part h, sound.waiting_depth part h, sound.waiting_file part h)

  -- something else waits
  with_pending : (walk : Lists) (pending : List Pending) → IsSound format directory walk
      → ((part : Part) → Contains pending (Visit part) → Fits (length walk.parts) part) → IsSound format directory (record walk { pending = pending })
  with_pending walk pending sound fits = record {
    size = sound.size;
    used = sound.used;
    part_place = sound.part_place;
    part_file = sound.part_file;
    outside_system = sound.outside_system;
    met = sound.met;
    by_part = sound.by_part;
    apart = sound.apart;
    waiting_place = λ p h. (fits p h).0;
    waiting_depth = λ p h. (fits p h).1;
    waiting_file = λ p h. (fits p h).2;
  }

  -- other faults were told
  with_faults : (walk : Lists) (faults : List Fault) (known : List Known) → IsSound format directory walk → IsSound format directory (record walk { faults = faults; known = known })
  with_faults walk faults known sound = record {
    size = sound.size;
    used = sound.used;
    part_place = sound.part_place;
    part_file = sound.part_file;
    outside_system = sound.outside_system;
    met = sound.met;
    by_part = sound.by_part;
    apart = sound.apart;
    waiting_place = sound.waiting_place;
    waiting_depth = sound.waiting_depth;
    waiting_file = sound.waiting_file;
  }

  fault_waits : (walk : Lists) (fault : Fault) → IsSound format directory walk → IsSound format directory (put_off (Tell fault) walk)
  fault_waits walk fault sound = with_pending walk (walk.pending ++ Tell fault ∷ []) sound
      (λ p h. ⊎_elim (waiting_fits walk sound p) (λ new. absurd (not_a_visit fault p new)) (front_or_end walk.pending (Tell fault) (Visit p) h))

  pub noted_sound : (holder : ℕ) (link : Link) (walk : Lists) → IsSound format directory walk
      → ((part : Part) → link ≡ To part → Fits (length walk.parts) part) → IsSound format directory (noted holder link walk)
  noted_sound holder Null walk sound fits = sound
  noted_sound holder ToDirectory walk sound fits = sound
  noted_sound holder Wild walk sound fits = fault_waits walk (OutOfRange holder) sound
  noted_sound holder OtherType walk sound fits = fault_waits walk (StorageType holder) sound
  noted_sound holder (To c) walk sound fits = with_pending walk (walk.pending ++ Visit c ∷ []) sound
      (λ p h. ⊎_elim (waiting_fits walk sound p) (λ new. subst (Fits (length walk.parts)) (sym (same_visit p c new)) (fits c refl)) (front_or_end walk.pending (Visit c) (Visit p) h))

  noted_work : (holder : ℕ) (link : Link) (walk : Lists) → work (noted holder link walk) ≤ work walk + 1
  noted_work holder Null walk = omega arith
  noted_work holder ToDirectory walk = omega arith
  noted_work holder Wild walk = omega (arith, length-append walk.pending (Tell (OutOfRange holder) ∷ []))
  noted_work holder OtherType walk = omega (arith, length-append walk.pending (Tell (StorageType holder) ∷ []))
  noted_work holder (To c) walk = omega (arith, length-append walk.pending (Visit c ∷ []))

  same_parts : (holder : ℕ) (link : Link) (walk : Lists) → (noted holder link walk).parts ≡ walk.parts
  same_parts holder Null walk = refl
  same_parts holder ToDirectory walk = refl
  same_parts holder Wild walk = refl
  same_parts holder OtherType walk = refl
  same_parts holder (To c) walk = refl

  followed_sound : (part : Part) (unit : List ℕ) (n : ℕ) (walk : Lists) → IsSound format directory walk
      → format.depth part + 1 ≤ length walk.parts → part.file < entries directory
      → IsSound format directory (followed (format.child directory.places part unit) part.place n walk)
  followed_sound part unit zero walk sound deep in_file = sound
  followed_sound part unit (suc i) walk sound deep in_file =
      let link = format.child directory.places part unit i in
      let next = noted_sound part.place link walk sound
      (λ c is. (
        laws.child_place directory.places part c unit i takes is,
        omega (arith, laws.child_depth directory.places part c unit i is, deep),
        omega (arith, laws.child_file directory.places part c unit i is, in_file),
      )) in
      followed_sound part unit i (noted part.place link walk) next
      (subst (λ (ps : List Part). format.depth part + 1 ≤ length ps) (sym (same_parts part.place link walk)) deep) in_file

  followed_work : (links : ℕ → Link) (holder n : ℕ) (walk : Lists) → work (followed links holder n walk) ≤ work walk + n
  followed_work links holder zero walk = omega arith
  followed_work links holder (suc i) walk =
      omega (arith, followed_work links holder i (noted holder (links i) walk), noted_work holder (links i) walk)

  -- one place fewer is unvisited
  marked : (visited : List Bool) (place : ℕ) → place < length visited → get_or visited place false ≡ false
      → count_by not (set visited place true) + 1 ≡ count_by not visited
  marked visited place within unvisited =
      let moved = sum_by-set (λ b. cond (not b) 1 0) visited place true false within in
      let was : ◌≡◌ {A = ℕ} (cond (not (get_or visited place false)) 1 0) 1 = rw unvisited refl in
      omega (arith, moved, was)

  -- the next of what waits is taken off, and a part that it is to look at is looked at
  module _ (walk : Lists) (rest : List Pending) (part : Part) (unit : List ℕ)
      (sound : IsSound format directory walk) (on_top : walk.pending ≡ rest ++ Visit part ∷ []) where
    rest_fits : (q : Part) → Contains rest (Visit q) → Fits (length walk.parts) q
    rest_fits q h = waiting_fits walk sound q (subst (λ (qs : List Pending). Contains qs (Visit q)) (sym on_top) (in_front rest (Visit part) (Visit q) h))

    it_fits : Fits (length walk.parts) part
    it_fits = waiting_fits walk sound part (subst (λ (qs : List Pending). Contains qs (Visit part)) (sym on_top) (at_end rest (Visit part)))

    more_pending : length walk.pending ≡ length rest + 1
    more_pending = ap length on_top ∙ length-append rest (Visit part ∷ [])

    -- what is known, by the three outcomes
    by_outcome : (P : Lists → Type 0)
        → ((faults : List Fault) (known : List Known) → P (record { parts = walk.parts; pending = rest; faults = faults; visited = walk.visited; known = known }))
        → ((faults : List Fault) → is_system directory part.place ≡ false → is_visited walk part.place ≡ false
        → P (followed (format.child directory.places part unit) part.place (format.pointers part)
        (record { parts = walk.parts ++ part ∷ []; pending = rest; faults = faults; visited = set walk.visited part.place true; known = walk.known })))
        → P (after_visit format directory part unit (record walk { pending = rest }))
    by_outcome P over up = by_tests (is_system directory part.place) (is_visited walk part.place) refl refl
      where
        passed : (fault : Fault) → P (told fault (record walk { pending = rest }))
        passed fault = when_told P fault (record walk { pending = rest }) (λ some. over walk.faults walk.known) (λ known. over (walk.faults ++ fault ∷ []) known)

        by_tests : (system visited : Bool) → is_system directory part.place ≡ system → is_visited walk part.place ≡ visited
            → P (if not system && not visited
            then followed (format.child directory.places part unit) part.place (format.pointers part)
            (if system then told (InSystem part.place) (record walk { pending = rest })
            else (if visited then told (Shared part.place) (record walk { pending = rest })
            else taken_up directory part (record walk { pending = rest })))
            else (if system then told (InSystem part.place) (record walk { pending = rest })
            else (if visited then told (Shared part.place) (record walk { pending = rest })
            else taken_up directory part (record walk { pending = rest }))))
        by_tests true visited system_is visited_is = passed (InSystem part.place)
        by_tests false true system_is visited_is = passed (Shared part.place)
        by_tests false false system_is visited_is = up (if is_free directory part.place then walk.faults ++ MarkedFree part.place ∷ [] else walk.faults) system_is visited_is

    pub in_places : part.place < length walk.visited
    in_places = omega (arith, sound.size, it_fits.0)

    -- the part with those before it
    taken_sound : (faults : List Fault) → is_system directory part.place ≡ false → is_visited walk part.place ≡ false
        → IsSound format directory (record { parts = walk.parts ++ part ∷ []; pending = rest; faults = faults; visited = set walk.visited part.place true; known = walk.known })
    taken_sound faults outside unvisited =
        let more = length-append walk.parts (part ∷ []) in
        let which = λ (p : Part) (h : Contains (walk.parts ++ part ∷ []) p). front_or_end walk.parts part p h in
        record {
          size = length-set {A = Bool} walk.visited part.place true ∙ sound.size;
          used = omega (arith, more, sound.used, marked walk.visited part.place in_places unvisited);
          part_place = λ p h. ⊎_elim (sound.part_place p) (λ new. subst (λ (x : Part). x.place < directory.places) (sym new) it_fits.0) (which p h);
          part_file = λ p h. ⊎_elim (sound.part_file p) (λ new. subst (λ (x : Part). x.file < entries directory) (sym new) it_fits.2) (which p h);
          outside_system = λ p h. ⊎_elim (sound.outside_system p) (λ new. subst (λ (x : Part). is_system directory x.place ≡ false) (sym new) outside) (which p h);
          met = λ p h. ⊎_elim (λ old. old_place p.place (elsewhere p old) ∙ sound.met p old)
              (λ new. subst (λ (x : Part). get_or (set walk.visited part.place true) x.place false ≡ true) (sym new) its_place) (which p h);
          by_part = λ place visited. by_test (place == part.place) place refl visited;
          apart = all_pairs_pushed (λ p later. p.place ≢ later.place) walk.parts part sound.apart elsewhere;
          waiting_place = λ p h. (rest_fits p h).0;
          waiting_depth = λ p h. omega (arith, more, (rest_fits p h).1);
          waiting_file = λ p h. (rest_fits p h).2;
        }
      where
        elsewhere : (p : Part) → Contains walk.parts p → p.place ≢ part.place
        elsewhere p has same = cc (sound.met p has, ap (is_visited walk) same, unvisited)

        old_place : (place : ℕ) → place ≢ part.place → get_or (set walk.visited part.place true) place false ≡ is_visited walk place
        old_place place differ = get_or-set_other walk.visited part.place place true false differ

        its_place : get_or (set walk.visited part.place true) part.place false ≡ true
        its_place = get_or-set_same walk.visited part.place true false in_places

        by_test : (here : Bool) (place : ℕ) → (place == part.place) ≡ here → get_or (set walk.visited part.place true) place false ≡ true
            → (p : Part) × Contains (walk.parts ++ part ∷ []) p × (p.place ≡ place)
        by_test true place at visited =
            let same : place ≡ part.place = grind (arith, nat_tests) in (part, at_end walk.parts part, sym same)
        by_test false place at visited =
            let differ : place ≢ part.place = grind (arith, nat_tests) in
            let old = sound.by_part place (sym (old_place place differ) ∙ visited) in
            (old.0, in_front walk.parts part old.0 old.1, old.2)

    pub after_visit_sound : IsSound format directory (after_visit format directory part unit (record walk { pending = rest }))
    after_visit_sound = by_outcome (IsSound format directory)
        (λ faults known. with_faults (record walk { pending = rest }) faults known (with_pending walk rest sound rest_fits))
        (λ faults outside unvisited.
        followed_sound part unit (format.pointers part) _ (taken_sound faults outside unvisited)
        (omega (arith, length-append walk.parts (part ∷ []), it_fits.1)) it_fits.2)

    pub after_visit_work : work (after_visit format directory part unit (record walk { pending = rest })) < work walk
    after_visit_work = by_outcome (λ after. work after < work walk)
        (λ faults known. omega (arith, more_pending))
        (λ faults outside unvisited.
        let taken : Lists = record { parts = walk.parts ++ part ∷ []; pending = rest; faults = faults; visited = set walk.visited part.place true; known = walk.known } in
        omega (
          arith,
          more_pending,
          marked walk.visited part.place in_places unvisited,
          laws.few_pointers part,
          followed_work (format.child directory.places part unit) part.place (format.pointers part) taken,
        ))

    pub top_in_range : part.place < directory.places
    top_in_range = it_fits.0

    -- the numbers of parts stay small
    pub top_shallow : format.depth part < 65536
    top_shallow = omega (arith, it_fits.1, sound.used, laws.few_places directory.places takes)

  -- the next of what waits is done
  pub next_sound : (walk : Lists) (rest : List Pending) (next : Pending) (unit : List ℕ) → IsSound format directory walk → walk.pending ≡ rest ++ next ∷ []
      → IsSound format directory (after_next format directory next unit (record walk { pending = rest }))
  next_sound walk rest (Visit part) unit sound on_top = after_visit_sound walk rest part unit sound on_top
  next_sound walk rest (Tell fault) unit sound on_top = when_told (IsSound format directory) fault (record walk { pending = rest }) (λ some. left)
      (λ known. with_faults (record walk { pending = rest }) (walk.faults ++ fault ∷ []) known left)
    where
      left : IsSound format directory (record walk { pending = rest })
      left = with_pending walk rest sound
          (λ q h. waiting_fits walk sound q (subst (λ (qs : List Pending). Contains qs (Visit q)) (sym on_top) (in_front rest (Tell fault) (Visit q) h)))

  pub next_work : (walk : Lists) (rest : List Pending) (next : Pending) (unit : List ℕ) → IsSound format directory walk → walk.pending ≡ rest ++ next ∷ []
      → work (after_next format directory next unit (record walk { pending = rest })) < work walk
  next_work walk rest (Visit part) unit sound on_top = after_visit_work walk rest part unit sound on_top
  next_work walk rest (Tell fault) unit sound on_top = when_told (λ after. work after < work walk) fault (record walk { pending = rest }) (λ some. less) (λ known. less)
    where
      less : work (record walk { pending = rest }) < work walk
      less = omega (arith, ap length on_top, length-append rest (Tell fault ∷ []))
