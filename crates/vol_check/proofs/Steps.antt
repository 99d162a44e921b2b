-- Each step of a walk keeps what is known.
use Rattle.std.proofs.Common.{◌≡◌, ◌≢◌, ◌⊎◌, inl, inr, ⊎_elim, ℕ, suc, ◌+◌, ◌<◌, ◌≤◌, Bool, true, false, List, [], ◌∷◌, ◌++◌, length, refl, sym, ◌∙◌, ap, subst, arith, zero}
use Rattle.std.specs.Prelude.{◌==◌}
use Rattle.std.proofs.lemmas.Bool.Decides.{nat_tests}
use Rattle.std.specs.List.{Contains, AllPairs}
use Rattle.a2_device.specs.Device.{unit_at}
use Rattle.a2_device.specs.declared.part.Part.{Part}
use Rattle.a2_device.specs.declared.fault.Fault.{Fault}
use Rattle.a2_device.specs.declared.fault.Fault.TheVariants.{OutOfRange}
use Rattle.vol_format.specs.declared.link.Link.{Link}
use Rattle.vol_format.specs.declared.link.Link.TheVariants.{Null, Wild, Directory as ToDirectory, OtherType, To}
use Rattle.vol_format.specs.Directory.{Directory, root_of}
use Rattle.vol_format.specs.Meaning.{Meaning, link_from}
use Rattle.vol_format.specs.Reach.{Reach, at_child, Before}
use Rattle.vol_format.specs.Accepted.{PartFaultAt}
use Rattle.vol_format.specs.Laws.{IsReadable}
use Rattle.vol_check.specs.declared.walk.Pending.{Pending}
use Rattle.vol_check.specs.declared.walk.Pending.TheVariants.{Visit, Tell}
use Rattle.vol_check.specs.Walk.{Lists, put_off, noted, followed, told}
use Rattle.vol_check.specs.Walking.{IsWalking, IsClean, IsKnown, IsFaultless, Apart, FirstOf, None}
use Rattle.vol_check.specs.declared.known.Known.{Known}
use Rattle.vol_check.proofs.Telling.{when_told}
use Rattle.vol_check.proofs.Pushed.{in_front, at_end, front_or_end, none_after_push, all_pairs_pushed, all_pairs_front}

module _ (format : Meaning) (laws : IsReadable format) (directory : Directory) (store : List (List ℕ)) where
  before_trans : (p q r : Part) → Before format p q → Before format q r → Before format p r
  before_trans p q r pq qr =
      ⊎_elim (λ pq'. ⊎_elim (λ qr'. inl (omega arith)) (λ qr'. inl (omega (arith, qr'.0))) qr)
      (λ pq'. ⊎_elim (λ qr'. inl (omega (arith, pq'.0))) (λ qr'. inr (pq'.0 ∙ qr'.0, omega (arith, pq'.1, qr'.1))) qr) pq

  pub not_before_itself : (p : Part) → Before format p p → ⊥
  not_before_itself p h = ⊎_elim (λ less. absurd (omega arith)) (λ less. absurd (omega (arith, less.1))) h

  pub same_visit : (part other : Part) → Visit part ≡ Visit other → part ≡ other
  same_visit part other e = cc

  same_fault : (fault other : Fault) → Tell fault ≡ Tell other → fault ≡ other
  same_fault fault other e = cc

  pub not_a_visit : (fault : Fault) (part : Part) → Tell fault ≡ Visit part → ⊥
  not_a_visit fault part e = cc

  -- a fault is told
  pub faulted : (roots : ℕ) (Open Open' : Part → ℕ → Type 0) (walk : Lists) (pending : List Pending) (fault : Fault)
      → IsWalking format directory store roots Open walk → PartFaultAt format directory store fault
      → ((p : Pending) → Contains pending p → Contains walk.pending p) → AllPairs (Apart format) pending
      → IsWalking format directory store roots Open' (told fault (record walk { pending = pending }))
  faulted roots Open Open' walk pending fault walking found fewer stacked =
      when_told (IsWalking format directory store roots Open') fault (record walk { pending = pending })
      (λ some. with_faults walk.faults walk.known walking.faults some) (λ known. with_faults (walk.faults ++ fault ∷ []) known each (none_after_push walk.faults fault))
    where
      each : (f : Fault) → Contains (walk.faults ++ fault ∷ []) f → PartFaultAt format directory store f
      each f h = ⊎_elim (λ old. walking.faults f old) (λ new. subst (PartFaultAt format directory store) (sym new) found) (front_or_end walk.faults fault f h)

      with_faults : (faults : List Fault) (known : List Known) → ((f : Fault) → Contains faults f → PartFaultAt format directory store f) → faults ≢ []
          → IsWalking format directory store roots Open' (record walk { pending = pending; faults = faults; known = known })
      with_faults faults known there some = record {
        reached = walking.reached;
        waiting = λ p h. walking.waiting p (fewer (Visit p) h);
        parts_file = walking.parts_file;
        waiting_file = λ p h. walking.waiting_file p (fewer (Visit p) h);
        places = walking.places;
        by_part = walking.by_part;
        once = walking.once;
        ordered = walking.ordered;
        later = λ p q has h. walking.later p q has (fewer (Visit q) h);
        stacked = stacked;
        faults = there;
        waiting_faults = λ f h. walking.waiting_faults f (fewer (Tell f) h);
        clean = λ none. absurd (some none.none_told);
      }

  -- a fault is put off
  pub fault_put_off : (roots roots' : ℕ) (Open Open' : Part → ℕ → Type 0) (walk : Lists) (fault : Fault)
      → IsWalking format directory store roots Open walk → roots ≤ roots' → ((p : Part) → Contains walk.pending (Visit p) → p.file + 1 ≡ roots')
      → PartFaultAt format directory store fault → IsWalking format directory store roots' Open' (put_off (Tell fault) walk)
  fault_put_off roots roots' Open Open' walk fault walking more same_file found =
      let old_visit : (p : Part) → Contains (walk.pending ++ Tell fault ∷ []) (Visit p) → Contains walk.pending (Visit p) =
      λ p h. ⊎_elim (λ old. old) (λ new. absurd (not_a_visit fault p (sym new))) (front_or_end walk.pending (Tell fault) (Visit p) h) in
      record {
        reached = walking.reached;
        waiting = λ p h. walking.waiting p (old_visit p h);
        parts_file = λ p h. omega (arith, walking.parts_file p h, more);
        waiting_file = λ p h. same_file p (old_visit p h);
        places = walking.places;
        by_part = walking.by_part;
        once = walking.once;
        ordered = walking.ordered;
        later = λ p q has h. walking.later p q has (old_visit q h);
        stacked = all_pairs_pushed (Apart format) walk.pending (Tell fault) walking.stacked (λ p has. apart p);
        faults = walking.faults;
        waiting_faults = λ f h. ⊎_elim (λ old. walking.waiting_faults f old) (λ new. subst (PartFaultAt format directory store) (sym (same_fault f fault new)) found)
            (front_or_end walk.pending (Tell fault) (Tell f) h);
        clean = λ none. absurd (none.none_waits fault (at_end walk.pending (Tell fault)));
      }
    where
      apart : (p : Pending) → Apart format p (Tell fault)
      apart (Visit p) = tt
      apart (Tell f) = tt

  -- a part is put off
  pub pushed : (roots roots' : ℕ) (Open Open' : Part → ℕ → Type 0) (walk : Lists) (child : Part)
      → IsWalking format directory store roots Open walk → roots ≤ roots'
      → Reach format directory store child → child.file + 1 ≡ roots' → ((p : Part) → Contains walk.pending (Visit p) → p.file + 1 ≡ roots')
      → ((p : Part) → Contains walk.parts p → Before format p child) → ((q : Part) → Contains walk.pending (Visit q) → format.Ends child (format.rank q))
      → (IsFaultless walk → IsClean format directory store roots' Open' (put_off (Visit child) walk))
      → IsWalking format directory store roots' Open' (put_off (Visit child) walk)
  pushed roots roots' Open Open' walk child walking more reach in_file same_file later stacked clean =
      let new_or_old : (p : Part) → Contains (walk.pending ++ Visit child ∷ []) (Visit p) → Contains walk.pending (Visit p) ⊎ (p ≡ child) =
      λ p h. ⊎_elim inl (λ new. inr (same_visit p child new)) (front_or_end walk.pending (Visit child) (Visit p) h) in
      let old_fault : (f : Fault) → Contains (walk.pending ++ Visit child ∷ []) (Tell f) → Contains walk.pending (Tell f) =
      λ f h. ⊎_elim (λ old. old) (λ new. absurd (not_a_visit f child new)) (front_or_end walk.pending (Visit child) (Tell f) h) in
      record {
        reached = walking.reached;
        waiting = λ p h. ⊎_elim (λ old. walking.waiting p old) (λ new. subst (Reach format directory store) (sym new) reach) (new_or_old p h);
        parts_file = λ p h. omega (arith, walking.parts_file p h, more);
        waiting_file = λ p h. ⊎_elim (λ old. same_file p old) (λ new. ap (λ (x : Part). x.file + 1) new ∙ in_file) (new_or_old p h);
        places = walking.places;
        by_part = walking.by_part;
        once = walking.once;
        ordered = walking.ordered;
        later = λ p q has h. ⊎_elim (λ old. walking.later p q has old) (λ new. subst (Before format p) (sym new) (later p has)) (new_or_old q h);
        stacked = all_pairs_pushed (Apart format) walk.pending (Visit child) walking.stacked (λ p has. apart p has);
        faults = walking.faults;
        waiting_faults = λ f h. walking.waiting_faults f (old_fault f h);
        clean = λ none. clean (record { none_told = none.none_told; none_waits = λ f h. none.none_waits f (in_front walk.pending (Visit child) (Tell f) h) });
      }
    where
      apart : (p : Pending) → Contains walk.pending p → Apart format p (Visit child)
      apart (Visit p) has = stacked p has
      apart (Tell f) has = tt

  -- nothing new is noted
  pub unchanged : (roots roots' : ℕ) (Open Open' : Part → ℕ → Type 0) (walk : Lists)
      → IsWalking format directory store roots Open walk → roots ≤ roots' → ((p : Part) → Contains walk.pending (Visit p) → p.file + 1 ≡ roots')
      → (IsFaultless walk → IsClean format directory store roots' Open' walk) → IsWalking format directory store roots' Open' walk
  unchanged roots roots' Open Open' walk walking more same_file clean = record {
    reached = walking.reached;
    waiting = walking.waiting;
    parts_file = λ p h. omega (arith, walking.parts_file p h, more);
    waiting_file = same_file;
    places = walking.places;
    by_part = walking.by_part;
    once = walking.once;
    ordered = walking.ordered;
    later = walking.later;
    stacked = walking.stacked;
    faults = walking.faults;
    waiting_faults = walking.waiting_faults;
    clean = clean;
  }

  -- what is clean stays so where slots are closed and roots are followed
  pub clean_goes_on : (roots roots' : ℕ) (Open Open' : Part → ℕ → Type 0) (walk : Lists) (pending : List Pending)
      → IsClean format directory store roots Open walk
      → ((c : Part) → Contains walk.pending (Visit c) → Contains pending (Visit c))
      → ((p : Part) (i : ℕ) → Contains walk.parts p → (Open' p i → ⊥)
      → (Open p i → ⊥) ⊎ ((link_from format store p i ≢ Wild) × ((c : Part) → link_from format store p i ≡ To c → Contains pending (Visit c))))
      → ((f : ℕ) → f < roots'
      → (f < roots) ⊎ ((root_of directory f ≢ Wild) × (root_of directory f ≢ OtherType) × ((c : Part) → root_of directory f ≡ To c → Contains pending (Visit c))))
      → IsClean format directory store roots' Open' (record walk { pending = pending })
  clean_goes_on roots roots' Open Open' walk pending clean more slots files =
      let known : (c : Part) → IsKnown walk c → IsKnown (record walk { pending = pending }) c = λ c h. ⊎_elim inl (λ waits. inr (more c waits)) h in
      record {
        outside_system = clean.outside_system;
        marked = clean.marked;
        no_wild = λ p i has closed. ⊎_elim (λ old. clean.no_wild p i has old) (λ new. new.0) (slots p i has closed);
        followed = λ p c i has closed is. ⊎_elim (λ old. known c (clean.followed p c i has old is)) (λ new. inr (new.1 c is)) (slots p i has closed);
        no_wild_root = λ f less. ⊎_elim (λ old. clean.no_wild_root f old) (λ new. new.0) (files f less);
        no_other_type = λ f less. ⊎_elim (λ old. clean.no_other_type f old) (λ new. new.1) (files f less);
        roots_followed = λ f c less is. ⊎_elim (λ old. known c (clean.roots_followed f c old is)) (λ new. inr (new.2 c is)) (files f less);
      }

  -- The part whose pointers are followed, from the last of them down to a limit: it was taken up last, and those that
  -- wait come after all below it, or are children of it from that limit on.
  pub record IsFollowing (part : Part) (limit : ℕ) (walk : Lists) : Type 0 where
    pub taken : Contains walk.parts part
    pub last : (p : Part) → Contains walk.parts p → Before format p part ⊎ (p ≡ part)
    pub above : (q : Part) → Contains walk.pending (Visit q)
        → format.Ends part (format.rank q) ⊎ ((j : ℕ) × (limit ≤ j) × (link_from format store part j ≡ To q))

  -- a slot that is closed now was closed before, or is the one at the limit
  slot_cases : (roots : ℕ) (Open : Part → ℕ → Type 0) (walk : Lists) (part p : Part) (i j : ℕ) → IsWalking format directory store roots Open walk
      → Contains walk.parts part → Contains walk.parts p → (FirstOf part i p j → ⊥) → (FirstOf part (suc i) p j → ⊥) ⊎ ((p ≡ part) × (j ≡ i))
  slot_cases roots Open walk part p i j walking taken has closed = by_tests (p.place == part.place) (j == i) refl refl
    where
      by_tests : (same_place same_pointer : Bool) → (p.place == part.place) ≡ same_place → (j == i) ≡ same_pointer
          → (FirstOf part (suc i) p j → ⊥) ⊎ ((p ≡ part) × (j ≡ i))
      by_tests false same_pointer at_place at_pointer =
          inl (λ is_open. let place : p.place ≡ part.place = ap (λ (x : Part). x.place) is_open.0 in
          let differ : p.place ≢ part.place = grind (arith, nat_tests) in differ place)
      by_tests true true at_place at_pointer =
          let place : p.place ≡ part.place = grind (arith, nat_tests) in
          let pointer : j ≡ i = grind (arith, nat_tests) in
          inr (walking.once p part has taken place, pointer)
      by_tests true false at_place at_pointer =
          let differ : j ≢ i = grind (arith, nat_tests) in
          inl (λ is_open. closed (is_open.0, omega (arith, is_open.1)))

  -- a pointer that names no part and isn't wild
  closes : (roots : ℕ) (walk : Lists) (part : Part) (i : ℕ) (pending : List Pending) → IsWalking format directory store roots (FirstOf part (suc i)) walk
      → Contains walk.parts part → ((c : Part) → Contains walk.pending (Visit c) → Contains pending (Visit c))
      → (link_from format store part i ≢ Wild) → ((c : Part) → link_from format store part i ≡ To c → Contains pending (Visit c))
      → IsFaultless walk → IsClean format directory store roots (FirstOf part i) (record walk { pending = pending })
  closes roots walk part i pending walking taken more no_wild waits none =
      clean_goes_on roots roots (FirstOf part (suc i)) (FirstOf part i) walk pending (walking.clean none) more
      (λ p j has closed. ⊎_elim inl
      (λ at. let same : link_from format store p j ≡ link_from format store part i = ap (λ (x : Part). link_from format store x j) at.0 ∙ ap (link_from format store part) at.1 in
      inr (λ wild. no_wild (sym same ∙ wild), λ c is. waits c (sym same ∙ is)))
      (slot_cases roots (FirstOf part (suc i)) walk part p i j walking taken has closed))
      (λ f less. inl less)

  lower : (part : Part) (i : ℕ) (walk : Lists) (pending : List Pending) → IsFollowing part (suc i) walk
      → ((q : Part) → Contains pending (Visit q) → Contains walk.pending (Visit q) ⊎ (link_from format store part i ≡ To q))
      → IsFollowing part i (record walk { pending = pending })
  lower part i walk pending following new = record {
    taken = following.taken;
    last = following.last;
    above = λ q h. ⊎_elim
        (λ old. ⊎_elim inl (λ at. inr (at.0, omega (arith, at.1), at.2)) (following.above q old))
        (λ child. inr (i, omega arith, child))
        (new q h);
  }

  -- a pointer that names nothing
  passes : (roots : ℕ) (part : Part) (i : ℕ) (walk : Lists) → (link_from format store part i ≢ Wild) → ((c : Part) → link_from format store part i ≡ To c → ⊥)
      → IsWalking format directory store roots (FirstOf part (suc i)) walk → IsFollowing part (suc i) walk
      → IsWalking format directory store roots (FirstOf part i) walk × IsFollowing part i walk
  passes roots part i walk no_wild no_part walking following = (
    unchanged roots roots (FirstOf part (suc i)) (FirstOf part i) walk walking (omega arith) walking.waiting_file
        (closes roots walk part i walk.pending walking following.taken (λ c h. h) no_wild (λ c to. absurd (no_part c to))),
    lower part i walk walk.pending following (λ q h. inl h),
  )

  note_step : (roots : ℕ) (part : Part) (i : ℕ) (walk : Lists) (link : Link) → link_from format store part i ≡ link
      → IsWalking format directory store roots (FirstOf part (suc i)) walk → part.file + 1 ≡ roots → IsFollowing part (suc i) walk
      → IsWalking format directory store roots (FirstOf part i) (noted part.place link walk) × IsFollowing part i (noted part.place link walk)
  note_step roots part i walk Null is walking in_file following = passes roots part i walk (λ wild. cc) (λ c to. cc) walking following
  note_step roots part i walk ToDirectory is walking in_file following = absurd (laws.child_no_directory (length store) part (unit_at store part.place) i is)
  note_step roots part i walk Wild is walking in_file following = (
    fault_put_off roots roots (FirstOf part (suc i)) (FirstOf part i) walk (OutOfRange part.place) walking (omega arith) walking.waiting_file
        (inr (part, walking.reached part following.taken, refl, (i, is))),
    lower part i walk (walk.pending ++ Tell (OutOfRange part.place) ∷ []) following
        (λ q h. ⊎_elim inl (λ new. absurd (not_a_visit (OutOfRange part.place) q (sym new))) (front_or_end walk.pending (Tell (OutOfRange part.place)) (Visit q) h)),
  )
  note_step roots part i walk OtherType is walking in_file following = absurd (laws.child_type (length store) part (unit_at store part.place) i is)
  note_step roots part i walk (To c) is walking in_file following =
      let file : c.file ≡ part.file = laws.child_file (length store) part c (unit_at store part.place) i is in
      let later : Before format part c = inr (sym file, laws.child_later (length store) part c (unit_at store part.place) i is) in (
        pushed roots roots (FirstOf part (suc i)) (FirstOf part i) walk c walking (omega arith)
            (at_child i (walking.reached part following.taken) is) (omega (arith, file, in_file)) walking.waiting_file
            (λ p has. ⊎_elim (λ before. before_trans p part c before later) (λ same. subst (λ x. Before format x c) (sym same) later) (following.last p has))
            (λ q h. ⊎_elim
            (λ ends. laws.child_inside (length store) part c (unit_at store part.place) i (format.rank q) is ends)
            (λ at. laws.children_apart (length store) part c q (unit_at store part.place) i at.0 (omega (arith, at.1)) is at.2)
            (following.above q h))
            (closes roots walk part i (walk.pending ++ Visit c ∷ []) walking following.taken (λ q h. in_front walk.pending (Visit c) (Visit q) h) (λ wild. cc)
            (λ d to. subst (λ x. Contains (walk.pending ++ Visit c ∷ []) (Visit x)) (named c d (sym is ∙ to)) (at_end walk.pending (Visit c)))),
        lower part i walk (walk.pending ++ Visit c ∷ []) following
            (λ q h. ⊎_elim inl (λ new. inr (is ∙ ap To (sym (same_visit q c new)))) (front_or_end walk.pending (Visit c) (Visit q) h)),
      )
    where
      named : (a b : Part) → To a ≡ To b → a ≡ b
      named a b e = cc

  -- all pointers of a part are followed
  pub follow_all : (roots : ℕ) (part : Part) (n : ℕ) (walk : Lists) → IsWalking format directory store roots (FirstOf part n) walk → part.file + 1 ≡ roots → IsFollowing part n walk
      → IsWalking format directory store roots (FirstOf part 0) (followed (link_from format store part) part.place n walk)
  follow_all roots part zero walk walking in_file following = walking
  follow_all roots part (suc i) walk walking in_file following =
      let next = note_step roots part i walk (link_from format store part i) refl walking in_file following in
      follow_all roots part i (noted part.place (link_from format store part i) walk) next.0 in_file next.1

  pub all_closed : (roots : ℕ) (part : Part) (walk : Lists) → IsWalking format directory store roots (FirstOf part 0) walk → IsWalking format directory store roots None walk
  all_closed roots part walk walking = unchanged roots roots (FirstOf part 0) None walk walking (omega arith) walking.waiting_file
      (λ none. clean_goes_on roots roots (FirstOf part 0) None walk walk.pending (walking.clean none) (λ c h. h)
      (λ p j has closed. inl (λ is_open. absurd (omega (arith, is_open.1)))) (λ f less. inl less))

  -- what is next is taken off
  pub stacked_below : (walk : Lists) (rest : List Pending) (next : Pending) → walk.pending ≡ rest ++ next ∷ [] → AllPairs (Apart format) walk.pending → AllPairs (Apart format) rest
  stacked_below walk rest next on_top stacked = all_pairs_front (Apart format) rest next (subst (AllPairs (Apart format)) on_top stacked)

  pub still_waits : (walk : Lists) (rest : List Pending) (next q : Pending) → walk.pending ≡ rest ++ next ∷ [] → Contains rest q → Contains walk.pending q
  still_waits walk rest next q on_top h = subst (λ (qs : List Pending). Contains qs q) (sym on_top) (in_front rest next q h)

  pub next_waits : (walk : Lists) (rest : List Pending) (next : Pending) → walk.pending ≡ rest ++ next ∷ [] → Contains walk.pending next
  next_waits walk rest next on_top = subst (λ (qs : List Pending). Contains qs next) (sym on_top) (at_end rest next)

  -- a fault that waits on top is told
  pub fault_told : (roots : ℕ) (walk : Lists) (rest : List Pending) (fault : Fault) → IsWalking format directory store roots None walk
      → walk.pending ≡ rest ++ Tell fault ∷ [] → IsWalking format directory store roots None (told fault (record walk { pending = rest }))
  fault_told roots walk rest fault walking on_top =
      faulted roots None None walk rest fault walking (walking.waiting_faults fault (next_waits walk rest (Tell fault) on_top))
      (λ q h. still_waits walk rest (Tell fault) q on_top h) (stacked_below walk rest (Tell fault) on_top walking.stacked)
