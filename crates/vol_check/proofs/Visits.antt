-- What is known is kept where a part is looked at and where a file begins; at the end it is all there is to know.
use Rattle.std.proofs.Common.{◌≡◌, ◌≢◌, ◌⊎◌, inl, inr, ⊎_elim, ℕ, ◌+◌, ◌<◌, ◌≤◌, Bool, true, false, List, [], ◌∷◌, ◌++◌, length, get_or, set, refl, sym, ◌∙◌, ap, subst, arith}
use Rattle.std.specs.Prelude.{◌==◌, nat_lt, not, ◌&&◌, if◌then◌else◌}
use Rattle.std.proofs.lemmas.List.{get_or-set_same, get_or-set_other}
use Rattle.std.proofs.lemmas.Bool.Decides.{nat_tests}
use Rattle.std.specs.List.{Contains, AllPairs}
use Rattle.a2_device.specs.Device.{unit_at}
use Rattle.a2_device.specs.declared.part.Part.{Part}
use Rattle.a2_device.specs.declared.fault.Fault.{Fault}
use Rattle.a2_device.specs.declared.fault.Fault.TheVariants.{OutOfRange, StorageType, InSystem, Shared, MarkedFree}
use Rattle.vol_format.specs.declared.link.Link.{Link}
use Rattle.vol_format.specs.declared.link.Link.TheVariants.{Null, Wild, Directory as ToDirectory, OtherType, To}
use Rattle.vol_format.specs.Directory.{Directory, entries, entry_of, root_of, is_system, is_free}
use Rattle.vol_format.specs.Meaning.{Meaning, link_from}
use Rattle.vol_format.specs.Reach.{Reach, at_root, at_child, Before, IsPartsOf}
use Rattle.vol_format.specs.Accepted.{PartFaultAt, IsAccepted}
use Rattle.vol_format.specs.Laws.{IsReadable, IsDirectory}
use Rattle.vol_check.specs.declared.walk.Pending.{Pending}
use Rattle.vol_check.specs.declared.walk.Pending.TheVariants.{Visit, Tell}
use Rattle.vol_check.specs.Walk.{Lists, is_visited, told, noted, followed, after_visit}
use Rattle.vol_check.specs.Walking.{IsWalking, IsClean, IsKnown, IsFaultless, Apart, FirstOf, None}
use Rattle.vol_check.proofs.Steps.{not_before_itself, same_visit, not_a_visit, faulted, fault_put_off, pushed, unchanged, clean_goes_on, follow_all, all_closed, stacked_below, still_waits, next_waits, IsFollowing}
use Rattle.vol_check.proofs.Pushed.{in_front, at_end, front_or_end, in_none, none_after_push, all_pairs_pushed, all_pairs_last}

module _ (format : Meaning) (laws : IsReadable format) (directory : Directory) (store : List (List ℕ)) where
  -- The part that waits on top is taken up: its own slots are open then.
  module _ (roots : ℕ) (walk : Lists) (rest : List Pending) (part : Part) (walking : IsWalking format directory store roots None walk)
      (on_top : walk.pending ≡ rest ++ Visit part ∷ []) (fits : part.place < length walk.visited) where
    waits : (q : Pending) → Contains rest q → Contains walk.pending q
    waits q h = (still_waits format laws directory store) walk rest (Visit part) q on_top h

    it_waits : Contains walk.pending (Visit part)
    it_waits = (next_waits format laws directory store) walk rest (Visit part) on_top

    reach_top : Reach format directory store part
    reach_top = walking.waiting part it_waits

    stacked_rest : AllPairs (Apart format) rest
    stacked_rest = (stacked_below format laws directory store) walk rest (Visit part) on_top walking.stacked

    below_top : (q : Part) → Contains rest (Visit q) → format.Ends part (format.rank q)
    below_top q h = all_pairs_last (Apart format) rest (Visit part) (Visit q) (subst (AllPairs (Apart format)) on_top walking.stacked) h

    -- it is passed over
    passed_over : (fault : Fault) → PartFaultAt format directory store fault
        → IsWalking format directory store roots None (told fault (record walk { pending = rest }))
    passed_over fault found = (faulted format laws directory store) roots None None walk rest fault walking found waits stacked_rest

    shared : is_visited walk part.place ≡ true → PartFaultAt format directory store (Shared part.place)
    shared visited =
        let at = walking.by_part part.place visited in
        let other = at.0 in
        let differ : part ≢ other = λ same. (not_before_itself format laws directory store) part (subst (λ x. Before format x part) (sym same) (walking.later other part at.1 it_waits)) in
        (part, other, reach_top, walking.reached other at.1, refl, at.2, differ)

    module _ (unvisited : is_visited walk part.place ≡ false) where
      elsewhere : (p : Part) → Contains walk.parts p → p.place ≢ part.place
      elsewhere p has same = cc (walking.places p has, ap (is_visited walk) same, unvisited)

      visited_now : List Bool
      visited_now = set walk.visited part.place true

      old_place : (place : ℕ) → place ≢ part.place → get_or (set walk.visited part.place true) place false ≡ is_visited walk place
      old_place place differ = get_or-set_other walk.visited part.place place true false differ

      its_place : get_or (set walk.visited part.place true) part.place false ≡ true
      its_place = get_or-set_same walk.visited part.place true false fits

      taken : (faults : List Fault) → ((f : Fault) → Contains faults f → PartFaultAt format directory store f)
          → (faults ≡ [] → (walk.faults ≡ []) × (is_system directory part.place ≡ false) × (is_free directory part.place ≡ false))
          → IsWalking format directory store roots (FirstOf part (format.pointers part))
          (record { parts = walk.parts ++ part ∷ []; pending = rest; faults = faults; visited = set walk.visited part.place true; known = walk.known })
      taken faults found clean =
          let in_parts = λ (p : Part) (h : Contains (walk.parts ++ part ∷ []) p). front_or_end walk.parts part p h in
          record {
            reached = λ p h. ⊎_elim (walking.reached p) (λ new. subst (Reach format directory store) (sym new) reach_top) (in_parts p h);
            waiting = λ p h. walking.waiting p (waits (Visit p) h);
            parts_file = λ p h. ⊎_elim (walking.parts_file p) (λ new. omega (arith, ap (λ (x : Part). x.file) new, walking.waiting_file part it_waits)) (in_parts p h);
            waiting_file = λ p h. walking.waiting_file p (waits (Visit p) h);
            places = λ p h. ⊎_elim (λ old. old_place p.place (elsewhere p old) ∙ walking.places p old) (λ new. subst (λ (x : Part). get_or (set walk.visited part.place true) x.place false ≡ true) (sym new) its_place) (in_parts p h);
            by_part = λ place visited. by_test (place == part.place) place refl visited;
            once = λ p q hp hq same. ⊎_elim
                (λ old. ⊎_elim (λ old'. walking.once p q old old' same) (λ new'. absurd (elsewhere p old (same ∙ ap (λ (x : Part). x.place) new'))) (in_parts q hq))
                (λ new. ⊎_elim (λ old'. absurd (elsewhere q old' (sym same ∙ ap (λ (x : Part). x.place) new))) (λ new'. new ∙ sym new') (in_parts q hq))
                (in_parts p hp);
            ordered = all_pairs_pushed (Before format) walk.parts part walking.ordered (λ p has. walking.later p part has it_waits);
            later = λ p q has h. ⊎_elim (λ old. walking.later p q old (waits (Visit q) h))
                (λ new. subst (λ x. Before format x q) (sym new) (inr (omega (arith, walking.waiting_file part it_waits, walking.waiting_file q (waits (Visit q) h)), laws.ends part (format.rank q) (below_top q h))))
                (in_parts p has);
            stacked = stacked_rest;
            faults = found;
            waiting_faults = λ f h. walking.waiting_faults f (waits (Tell f) h);
            clean = λ none. clean_now faults none.none_waits (clean none.none_told);
          }
        where
          by_test : (here : Bool) (place : ℕ) → (place == part.place) ≡ here → get_or (set walk.visited part.place true) place false ≡ true
              → (p : Part) × Contains (walk.parts ++ part ∷ []) p × (p.place ≡ place)
          by_test true place at visited =
              let same : place ≡ part.place = grind (arith, nat_tests) in (part, at_end walk.parts part, sym same)
          by_test false place at visited =
              let differ : place ≢ part.place = grind (arith, nat_tests) in
              let old = walking.by_part place (sym (old_place place differ) ∙ visited) in
              (old.0, in_front walk.parts part old.0 old.1, old.2)

          no_fault_waits : ((f : Fault) → Contains rest (Tell f) → ⊥) → (f : Fault) → Contains walk.pending (Tell f) → ⊥
          no_fault_waits none f h =
              ⊎_elim (λ old. none f old) (λ new. (not_a_visit format laws directory store) f part new) (front_or_end rest (Visit part) (Tell f) (subst (λ (qs : List Pending). Contains qs (Tell f)) on_top h))

          clean_now : (faults : List Fault) → ((f : Fault) → Contains rest (Tell f) → ⊥)
              → (walk.faults ≡ []) × (is_system directory part.place ≡ false) × (is_free directory part.place ≡ false)
              → IsClean format directory store roots (FirstOf part (format.pointers part))
              (record { parts = walk.parts ++ part ∷ []; pending = rest; faults = faults; visited = set walk.visited part.place true; known = walk.known })
          clean_now faults none clean =
              let was = walking.clean (record { none_told = clean.0; none_waits = no_fault_waits none }) in
              let now : Lists = record { parts = walk.parts ++ part ∷ []; pending = rest; faults = faults; visited = set walk.visited part.place true; known = walk.known } in
              let waits_or_is : (c : Part) → Contains walk.pending (Visit c) → Contains rest (Visit c) ⊎ (c ≡ part) =
              λ c h. ⊎_elim inl (λ new. inr ((same_visit format laws directory store) c part new)) (front_or_end rest (Visit part) (Visit c) (subst (λ (qs : List Pending). Contains qs (Visit c)) on_top h)) in
              let known : (c : Part) → IsKnown walk c → IsKnown now c =
              λ c h. ⊎_elim (λ has. inl (in_front walk.parts part c has))
              (λ waiting. ⊎_elim inr (λ is. inl (subst (Contains (walk.parts ++ part ∷ [])) (sym is) (at_end walk.parts part))) (waits_or_is c waiting)) h in
              let no_pointer : (p : Part) (i : ℕ) → p ≡ part → (FirstOf part (format.pointers part) p i → ⊥) → link_from format store p i ≡ Null =
              λ p i is closed. ap (λ (x : Part). link_from format store x i) is ∙ laws.no_more (length store) part (unit_at store part.place) i (not_below (format.pointers part) i (λ less. closed (is, less))) in
              record {
                outside_system = λ p h. ⊎_elim (was.outside_system p) (λ new. subst (λ (x : Part). is_system directory x.place ≡ false) (sym new) clean.1) (front_or_end walk.parts part p h);
                marked = λ p h. ⊎_elim (was.marked p) (λ new. subst (λ (x : Part). is_free directory x.place ≡ false) (sym new) clean.2) (front_or_end walk.parts part p h);
                no_wild = λ p i h closed. ⊎_elim (λ old. was.no_wild p i old (λ none'. none')) (λ new. λ wild. null_not_wild (sym (no_pointer p i new closed) ∙ wild)) (front_or_end walk.parts part p h);
                followed = λ p c i h closed is. ⊎_elim (λ old. known c (was.followed p c i old (λ none'. none') is)) (λ new. absurd (null_not_to c (sym (no_pointer p i new closed) ∙ is))) (front_or_end walk.parts part p h);
                no_wild_root = was.no_wild_root;
                no_other_type = was.no_other_type;
                roots_followed = λ f c less is. known c (was.roots_followed f c less is);
              }
            where
              null_not_wild : Null ≡ Wild → ⊥
              null_not_wild e = cc

              null_not_to : (c : Part) → Null ≡ To c → ⊥
              null_not_to c e = cc

              not_below : (n i : ℕ) → (i < n → ⊥) → n ≤ i
              not_below n i h = grind arith

  -- a part was looked at
  pub visited : (roots : ℕ) (walk : Lists) (rest : List Pending) (part : Part) → IsWalking format directory store roots None walk
      → walk.pending ≡ rest ++ Visit part ∷ [] → part.place < length walk.visited → directory.places ≡ length store
      → IsWalking format directory store roots None (after_visit format directory part (unit_at store part.place) (record walk { pending = rest }))
  visited roots walk rest part walking on_top fits as_many =
      by_tests (is_system directory part.place) (is_visited walk part.place) (is_free directory part.place) refl refl refl
    where
      free_walk : Bool → Lists
      free_walk free = record {
        parts = walk.parts ++ part ∷ [];
        pending = rest;
        faults = if free then walk.faults ++ MarkedFree part.place ∷ [] else walk.faults;
        visited = set walk.visited part.place true;
        known = walk.known;
      }

      found : (free : Bool) → is_free directory part.place ≡ free → (f : Fault)
          → Contains (if free then walk.faults ++ MarkedFree part.place ∷ [] else walk.faults) f → PartFaultAt format directory store f
      found false is f h = walking.faults f h
      found true is f h = ⊎_elim (walking.faults f)
          (λ new. subst (PartFaultAt format directory store) (sym new) (part, reach_top roots walk rest part walking on_top fits, refl, is))
          (front_or_end walk.faults (MarkedFree part.place) f h)

      clean : (free : Bool) → is_system directory part.place ≡ false → is_free directory part.place ≡ free
          → (if free then walk.faults ++ MarkedFree part.place ∷ [] else walk.faults) ≡ []
          → (walk.faults ≡ []) × (is_system directory part.place ≡ false) × (is_free directory part.place ≡ false)
      clean false outside is none = (none, outside, is)
      clean true outside is none = absurd (none_after_push walk.faults (MarkedFree part.place) none)

      follows : (free : Bool) → IsFollowing format laws directory store part (format.pointers part) (free_walk free)
      follows free = record {
        taken = at_end walk.parts part;
        last = λ p h. ⊎_elim (λ old. inl (walking.later p part old (it_waits roots walk rest part walking on_top fits))) inr (front_or_end walk.parts part p h);
        above = λ q h. inl (below_top roots walk rest part walking on_top fits q h);
      }

      by_tests : (system visited free : Bool) → is_system directory part.place ≡ system → is_visited walk part.place ≡ visited
          → is_free directory part.place ≡ free
          → IsWalking format directory store roots None
          (if not system && not visited
          then followed (format.child directory.places part (unit_at store part.place)) part.place (format.pointers part)
          (if system then told (InSystem part.place) (record walk { pending = rest })
          else (if visited then told (Shared part.place) (record walk { pending = rest }) else free_walk free))
          else (if system then told (InSystem part.place) (record walk { pending = rest })
          else (if visited then told (Shared part.place) (record walk { pending = rest }) else free_walk free)))
      by_tests true visited free system_is visited_is free_is =
          passed_over roots walk rest part walking on_top fits (InSystem part.place) (part, reach_top roots walk rest part walking on_top fits, refl, system_is)
      by_tests false true free system_is visited_is free_is =
          passed_over roots walk rest part walking on_top fits (Shared part.place) (shared roots walk rest part walking on_top fits visited_is)
      by_tests false false free system_is visited_is free_is =
          subst (λ n. IsWalking format directory store roots None (followed (format.child n part (unit_at store part.place)) part.place (format.pointers part) (free_walk free))) (sym as_many)
          ((all_closed format laws directory store) roots part _
          ((follow_all format laws directory store) roots part (format.pointers part) (free_walk free)
          (taken roots walk rest part walking on_top fits visited_is (free_walk free).faults (found free free_is) (clean free system_is free_is))
          (walking.waiting_file part (it_waits roots walk rest part walking on_top fits)) (follows free)))

  -- the root of one more file is noted
  pub rooted : (file : ℕ) (walk : Lists) → IsDirectory format directory → file < entries directory → walk.pending ≡ []
      → IsWalking format directory store file None walk
      → IsWalking format directory store (file + 1) None (noted (entry_of directory file).place (root_of directory file) walk)
  rooted file walk of within empty walking = by_link (root_of directory file) refl
    where
      no_pending : (p : Pending) → Contains walk.pending p → ⊥
      no_pending p h = in_none p (subst (λ (ps : List Pending). Contains ps p) empty h)

      no_file : (p : Part) → Contains walk.pending (Visit p) → p.file + 1 ≡ file + 1
      no_file p h = absurd (no_pending (Visit p) h)

      named : (a b : Part) → To a ≡ To b → a ≡ b
      named a b e = cc

      last_or_before : (f : ℕ) → f < file + 1 → (f < file) ⊎ (f ≡ file)
      last_or_before f h = grind arith

      closes_root : (pending : List Pending) → ((c : Part) → Contains walk.pending (Visit c) → Contains pending (Visit c))
          → (root_of directory file ≢ Wild) → (root_of directory file ≢ OtherType) → ((c : Part) → root_of directory file ≡ To c → Contains pending (Visit c))
          → IsFaultless walk → IsClean format directory store (file + 1) None (record walk { pending = pending })
      closes_root pending more no_wild no_other known none =
          (clean_goes_on format laws directory store) file (file + 1) None None walk pending (walking.clean none) more (λ p i has closed. inl closed)
          (λ f less. ⊎_elim inl (λ same. inr (subst (λ (x : ℕ). (root_of directory x ≢ Wild) × (root_of directory x ≢ OtherType) × ((c : Part) → root_of directory x ≡ To c → Contains pending (Visit c))) (sym same) (no_wild, no_other, known))) (last_or_before f less))

      nothing_new : (root_of directory file ≢ Wild) → (root_of directory file ≢ OtherType) → ((c : Part) → root_of directory file ≡ To c → ⊥)
          → IsWalking format directory store (file + 1) None walk
      nothing_new no_wild no_other no_part = (unchanged format laws directory store) file (file + 1) None None walk walking (omega arith) no_file
          (closes_root walk.pending (λ c h. h) no_wild no_other (λ c to. absurd (no_part c to)))

      by_link : (link : Link) → root_of directory file ≡ link → IsWalking format directory store (file + 1) None (noted (entry_of directory file).place link walk)
      by_link Null is = nothing_new (λ wild. cc) (λ other. cc) (λ c to. cc)
      by_link ToDirectory is = nothing_new (λ wild. cc) (λ other. cc) (λ c to. cc)
      by_link Wild is = (fault_put_off format laws directory store) file (file + 1) None None walk (OutOfRange (entry_of directory file).place)
          walking (omega arith) no_file (inl (file, within, refl, is))
      by_link OtherType is = (fault_put_off format laws directory store) file (file + 1) None None walk (StorageType (entry_of directory file).place)
          walking (omega arith) no_file (file, within, refl, is)
      by_link (To c) is = (pushed format laws directory store) file (file + 1) None None walk c walking (omega arith) (at_root file within is)
          (ap (λ n. n + 1) (of.root_file file c is)) no_file
          (λ p has. inl (omega (arith, walking.parts_file p has, of.root_file file c is)))
          (λ q h. absurd (no_pending (Visit q) h))
          (closes_root (walk.pending ++ Visit c ∷ []) (λ q h. in_front walk.pending (Visit c) (Visit q) h) (λ wild. cc) (λ other. cc)
          (λ d to. subst (λ x. Contains (walk.pending ++ Visit c ∷ []) (Visit x)) (named c d (sym is ∙ to)) (at_end walk.pending (Visit c))))

  -- at the end, where nothing was found, all is known
  module _ (walk : Lists) (walking : IsWalking format directory store (entries directory) None walk) (empty : walk.pending ≡ []) (none : walk.faults ≡ []) where
    faultless : IsFaultless walk
    faultless = record { none_told = none; none_waits = λ f h. in_none (Tell f) (subst (λ (ps : List Pending). Contains ps (Tell f)) empty h) }

    none_waits : (part : Part) → Contains walk.pending (Visit part) → Contains walk.parts part
    none_waits part h = absurd (in_none (Visit part) (subst (λ (ps : List Pending). Contains ps (Visit part)) empty h))

    all_reached : (part : Part) → Reach format directory store part → Contains walk.parts part
    all_reached part (at_root file within is) = ⊎_elim (λ has. has) (none_waits part) ((walking.clean faultless).roots_followed file part within is)
    all_reached part (at_child {parent} i reach is) =
        ⊎_elim (λ has. has) (none_waits part) ((walking.clean faultless).followed parent part i (all_reached parent reach) (λ is_open. is_open) is)

    pub parts_of : IsPartsOf format directory store walk.parts
    parts_of = record {
      members = λ p. (walking.reached p, all_reached p);
      ordered = walking.ordered;
    }

    pub accepted : format.Describes store directory → IsAccepted format directory store
    accepted described =
        let clean = walking.clean faultless in
        record {
          described = described;
          no_wild = clean.no_wild_root;
          no_other_type = clean.no_other_type;
          sound = λ p reach. record {
            no_wild = λ i. clean.no_wild p i (all_reached p reach) (λ is_open. is_open);
            outside_system = clean.outside_system p (all_reached p reach);
            marked = clean.marked p (all_reached p reach);
          };
          once = λ p q hp hq same. walking.once p q (all_reached p hp) (all_reached q hq) same;
        }

  -- before the first file that its entry points to
  pub started : (roots : ℕ) → ((file : ℕ) → file < roots → root_of directory file ≡ Null) → (walk : Lists) → walk.parts ≡ [] → walk.pending ≡ [] → walk.faults ≡ [] → ((place : ℕ) → is_visited walk place ≡ false) → IsWalking format directory store roots None walk
  started roots null walk no_parts no_pending no_faults unvisited =
      let none = λ (p : Part) (h : Contains walk.parts p). in_none p (subst (λ (ps : List Part). Contains ps p) no_parts h) in
      let no_next = λ (p : Pending) (h : Contains walk.pending p). in_none p (subst (λ (ps : List Pending). Contains ps p) no_pending h) in
      record {
        reached = λ p h. absurd (none p h);
        waiting = λ p h. absurd (no_next (Visit p) h);
        parts_file = λ p h. absurd (none p h);
        waiting_file = λ p h. absurd (no_next (Visit p) h);
        places = λ p h. absurd (none p h);
        by_part = λ place h. absurd (differ (sym (unvisited place) ∙ h));
        once = λ p q h. absurd (none p h);
        ordered = λ i j d less within. absurd (omega (arith, within, ap length no_parts));
        later = λ p q h. absurd (none p h);
        stacked = λ i j d less within. absurd (omega (arith, within, ap length no_pending));
        faults = λ f h. absurd (in_none f (subst (λ (fs : List Fault). Contains fs f) no_faults h));
        waiting_faults = λ f h. absurd (no_next (Tell f) h);
        clean = λ _. record {
          outside_system = λ p h. absurd (none p h);
          marked = λ p h. absurd (none p h);
          no_wild = λ p i h. absurd (none p h);
          followed = λ p c i h. absurd (none p h);
          no_wild_root = λ f less wild. null_not_wild (sym (null f less) ∙ wild);
          no_other_type = λ f less other. null_not_other (sym (null f less) ∙ other);
          roots_followed = λ f p less to. absurd (null_not_to p (sym (null f less) ∙ to));
        };
      }
    where
      differ : false ≡ true → ⊥
      differ e = cc

      null_not_wild : Null ≡ Wild → ⊥
      null_not_wild e = cc

      null_not_other : Null ≡ OtherType → ⊥
      null_not_other e = cc

      null_not_to : (part : Part) → Null ≡ To part → ⊥
      null_not_to part e = cc

  -- behind the last file that its entry points to
  pub ended : (roots all : ℕ) (walk : Lists) → roots ≤ all → ((file : ℕ) → roots ≤ file → file < all → root_of directory file ≡ Null) → walk.pending ≡ []
      → IsWalking format directory store roots None walk → IsWalking format directory store all None walk
  ended roots all walk more null empty walking =
      (unchanged format laws directory store) roots all None None walk walking more (λ p h. absurd (in_none (Visit p) (subst (λ (ps : List Pending). Contains ps (Visit p)) empty h)))
      (λ none. (clean_goes_on format laws directory store) roots all None None walk walk.pending (walking.clean none) (λ c h. h) (λ p i has closed. inl closed) root_closes)
    where
      Closes : ℕ → Type 0
      Closes file = (file < roots) ⊎ ((root_of directory file ≢ Wild) × (root_of directory file ≢ OtherType) × ((c : Part) → root_of directory file ≡ To c → Contains walk.pending (Visit c)))

      by_test : (file : ℕ) (below : Bool) → nat_lt file roots ≡ below → file < all → Closes file
      by_test file true is within = inl (grind (arith, nat_tests))
      by_test file false is within =
          let beyond : roots ≤ file = grind (arith, nat_tests) in
          let none = null file beyond within in
          inr (λ wild. cc (none, wild), λ other. cc (none, other), λ c to. cc (none, to))

      root_closes : (file : ℕ) → file < all → Closes file
      root_closes file within = by_test file (nat_lt file roots) refl within
