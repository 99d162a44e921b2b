-- Laws of the tree of directories.
use Rattle.std.specs.Prelude.{◌≡◌, ◌≢◌, ℕ, Bool, true, false, List, [], ◌∷◌, ◌++◌, length, AllPairs, Contains}
use Rattle.std.proofs.Common.{refl, sym, ◌∙◌, ap, arith, subst, ⊎_elim, length-append, append-nil, append_assoc}
use Rattle.std.proofs.lemmas.List.{get_or_append_left}
use Rattle.std.proofs.Math.Seq.{get_or-append_seam}
use Rattle.a2_device.specs.Device.{unit_at}
use Rattle.a2_device.specs.declared.fault.Fault.{Fault}
use Rattle.a2_device.specs.declared.fault.Fault.TheVariants.{Geometry, DirLink}
use Rattle.pro_dir.specs.declared.entry.Entry.{Entry}
use Rattle.pro_dir.specs.Entry.{entries_in, is_directory, key_of}
use Rattle.pro_dir.specs.Tree.{CanLink, Leads, IsRun, IsDirectory, HasBlocks, Lists, IsListed, IsTree, HasBadLink, SubdirectoryFaultAt, IsCutOff, TreeFaultAt, next_of}

-- one link further
pub leads_on : (store : List (List ℕ)) (from : ℕ) (blocks : List ℕ) (last next : ℕ) → Leads store from blocks last
    → CanLink store next → next ≡ next_of (unit_at store last) → Leads store from (blocks ++ next ∷ []) next
leads_on store from [] last next is can named = (can, named ∙ ap (λ p. next_of (unit_at store p)) is, refl)
leads_on store from (block ∷ rest) last next way can named = (way.0, way.1, leads_on store block rest last next way.2 can named)

-- a directory goes on from where other links of it lead
pub record GoesOn (store : List (List ℕ)) (blocks whole : List ℕ) (holder last : ℕ) : Type 0 where
  pub rest : List ℕ
  pub is : whole ≡ blocks ++ rest
  pub leads : Leads store holder rest last

pub goes_on : (store : List (List ℕ)) (from : ℕ) (blocks whole : List ℕ) (holder last : ℕ) → Leads store from blocks holder
    → Leads store from whole last → next_of (unit_at store last) ≡ 0 → GoesOn store blocks whole holder last
goes_on store from [] whole holder last here way ends = record { rest = whole; is = refl; leads = subst (λ p. Leads store p whole last) (sym here) way }
goes_on store from (block ∷ rest) [] holder last here way ends =
    absurd (let none : next_of (unit_at store from) ≡ 0 = subst (λ p. next_of (unit_at store p) ≡ 0) way ends in omega (arith, here.0.0, here.1, none))
goes_on store from (block ∷ rest) (next ∷ whole) holder last here way ends =
    let same : next ≡ block = way.1 ∙ sym here.1 in
    let further = goes_on store block rest whole holder last here.2 (subst (λ p. Leads store p whole last) same way.2) ends in
    record { rest = further.rest; is = ap (λ p. p ∷ whole) same ∙ ap (λ ps. block ∷ ps) further.is; leads = further.leads }

-- a key block has one run of blocks
pub one_run : (store : List (List ℕ)) (key : ℕ) (blocks others : List ℕ) → IsRun store key blocks → IsRun store key others → others ≡ blocks
one_run store key blocks others one other = other.is ∙ ap (λ bs. key ∷ bs) (ended on.rest on.is on.leads) ∙ sym one.is
  where
    on : GoesOn store one.rest other.rest one.last other.last
    on = goes_on store key one.rest other.rest one.last other.last one.leads other.leads other.ends

    ended : (rest : List ℕ) → other.rest ≡ one.rest ++ rest → Leads store one.last rest other.last → other.rest ≡ one.rest
    ended [] is way = is ∙ append-nil one.rest
    ended (next ∷ rest) is way = absurd (omega (arith, way.0.0, way.1, one.ends))

one_own : (directory : Bool) (store : List (List ℕ)) (key : ℕ) (own others : List ℕ) → HasBlocks directory store key own → HasBlocks directory store key others → others ≡ own
one_own true store key own others one other = one_run store key own others one.run other.run
one_own false store key own others one other = other ∙ sym one

-- a whole listing goes on from where a part of it ends
pub record ListsOn (store : List (List ℕ)) (entries whole rest : List Entry) (blocks all : List ℕ) : Type 0 where
  pub further : List Entry
  pub later : List ℕ
  pub entries_are : whole ≡ entries ++ further
  pub blocks_are : all ≡ blocks ++ later
  pub lists : Lists store rest further later []

first_same : (e w : Entry) (others rest : List Entry) → e ∷ others ≡ w ∷ rest → e ≡ w
first_same e w others rest is = cc

others_same : (e w : Entry) (others rest : List Entry) → e ∷ others ≡ w ∷ rest → others ≡ rest
others_same e w others rest is = cc

none_is_some : (e : Entry) (rest : List Entry) → [] ≡ e ∷ rest → ⊥
none_is_some e rest is = cc

pub lists_on : (store : List (List ℕ)) (from entries : List Entry) (blocks : List ℕ) (rest whole : List Entry) (all : List ℕ)
    → Lists store from entries blocks rest → Lists store from whole all [] → ListsOn store entries whole rest blocks all
lists_on store from [] blocks rest whole all so complete = record {
  further = whole;
  later = all;
  entries_are = refl;
  blocks_are = ap (λ bs. bs ++ all) (sym so.1);
  lists = subst (λ f. Lists store f whole all []) so.0 complete;
}
lists_on store from (e ∷ entries) blocks rest [] all so complete = absurd (none_is_some e so.0 (sym complete.0 ∙ so.3))
lists_on store from (e ∷ entries) blocks rest (w ∷ whole) all so complete =
    let both : e ∷ so.0 ≡ w ∷ complete.0 = sym so.3 ∙ complete.3 in
    let same : w ≡ e = sym (first_same e w so.0 complete.0 both) in
    let own : complete.1 ≡ so.1 = one_own (is_directory e) store (key_of e) so.1 complete.1 so.5 (subst (λ x. HasBlocks (is_directory x) store (key_of x) complete.1) same complete.5) in
    let after : entries_in store (key_of w) complete.1 ++ complete.0 ≡ entries_in store (key_of e) so.1 ++ so.0 =
    ap (λ x. entries_in store (key_of x) complete.1 ++ complete.0) same
    ∙ ap (λ bs. entries_in store (key_of e) bs ++ complete.0) own
    ∙ ap (λ es. entries_in store (key_of e) so.1 ++ es) (sym (others_same e w so.0 complete.0 both)) in
    let further = lists_on store (entries_in store (key_of e) so.1 ++ so.0) entries so.2 rest whole complete.2 so.6
    (subst (λ f. Lists store f whole complete.2 []) after complete.6) in
    record {
      further = further.further;
      later = further.later;
      entries_are = ap (λ x. x ∷ whole) same ∙ ap (λ es. e ∷ es) further.entries_are;
      blocks_are = complete.4 ∙ ap (λ bs. bs ++ complete.2) own ∙ ap (λ bs. so.1 ++ bs) further.blocks_are ∙ sym (append_assoc so.1 so.2 further.later) ∙ ap (λ bs. bs ++ further.later) (sym so.4);
      lists = further.lists;
    }

-- one entry more is listed
pub lists_more : (store : List (List ℕ)) (from entries : List Entry) (blocks : List ℕ) (entry : Entry) (others : List Entry) (own : List ℕ)
    → Lists store from entries blocks (entry ∷ others) → HasBlocks (is_directory entry) store (key_of entry) own
    → Lists store from (entries ++ entry ∷ []) (blocks ++ own) (entries_in store (key_of entry) own ++ others)
lists_more store from [] blocks entry others own so has =
    (others, own, [], so.0, ap (λ bs. bs ++ own) so.1 ∙ sym (append-nil own), has, (refl, refl))
lists_more store from (e ∷ entries) blocks entry others own so has = (
  so.0,
  so.1,
  so.2 ++ own,
  so.3,
  ap (λ bs. bs ++ own) so.4 ∙ append_assoc so.1 so.2 own,
  so.5,
  lists_more store (entries_in store (key_of e) so.1 ++ so.0) entries so.2 entry others own so.6 has,
)

pub listed_more : (store : List (List ℕ)) (entries : List Entry) (blocks : List ℕ) (entry : Entry) (others : List Entry) (own : List ℕ)
    → IsListed store blocks entries (entry ∷ others) → HasBlocks (is_directory entry) store (key_of entry) own
    → IsListed store (blocks ++ own) (entries ++ entry ∷ []) (entries_in store (key_of entry) own ++ others)
listed_more store entries blocks entry others own so has = record {
  own = so.own;
  later = so.later ++ own;
  is = ap (λ bs. bs ++ own) so.is ∙ append_assoc so.own so.later own;
  volume = so.volume;
  lists = lists_more store (entries_in store 2 so.own) entries so.later entry others own so.lists has;
}

-- the whole tree goes on from where it is listed so far
pub tree_on : (store : List (List ℕ)) (blocks all : List ℕ) (entries whole rest : List Entry) → IsListed store blocks entries rest → IsTree store all whole → ListsOn store entries whole rest blocks all
tree_on store blocks all entries whole rest so tree =
    let own = one_run store 2 so.own tree.listed.own so.volume.run tree.listed.volume.run in
    let on = lists_on store (entries_in store 2 so.own) entries so.later rest whole tree.listed.later so.lists
    (subst (λ bs. Lists store (entries_in store 2 bs) whole tree.listed.later []) own tree.listed.lists) in
    record {
      further = on.further;
      later = on.later;
      entries_are = on.entries_are;
      blocks_are = tree.listed.is ∙ ap (λ bs. bs ++ tree.listed.later) own ∙ ap (λ bs. so.own ++ bs) on.blocks_are ∙ sym (append_assoc so.own so.later on.later) ∙ ap (λ bs. bs ++ on.later) (sym so.is);
      lists = on.lists;
    }

nothing_more : (store : List (List ℕ)) (further : List Entry) (later : List ℕ) → Lists store [] further later [] → (further ≡ []) × (later ≡ [])
nothing_more store [] later lists = (refl, lists.1)
nothing_more store (e ∷ further) later lists = absurd (none_is_some e lists.0 lists.3)

-- a store has at most one tree
pub one_tree : (store : List (List ℕ)) (blocks others : List ℕ) (entries whole : List Entry) → IsTree store blocks entries → IsTree store others whole → (others ≡ blocks) × (whole ≡ entries)
one_tree store blocks others entries whole one other =
    let on = tree_on store blocks others entries whole [] one.listed other in
    let none = nothing_more store on.further on.later on.lists in
    (on.blocks_are ∙ ap (λ bs. blocks ++ bs) none.1 ∙ append-nil blocks, on.entries_are ∙ ap (λ es. entries ++ es) none.0 ∙ append-nil entries)

pub not_twice : (blocks rest : List ℕ) (block : ℕ) → AllPairs (λ block later. block ≢ later) (blocks ++ block ∷ rest) → Contains blocks block → ⊥
not_twice blocks rest block once has =
    once has.0 (length blocks) block has.1 (omega (arith, length-append blocks (block ∷ rest)))
    (get_or_append_left blocks (block ∷ rest) block has.0 has.1 ∙ has.2 ∙ sym (get_or-append_seam blocks block rest block))

-- a run of blocks that stand once has no bad link
module _ (store : List (List ℕ)) (before : List ℕ) (key : ℕ) (own later : List ℕ) (is : IsRun store key own)
    (once : AllPairs (λ block later. block ≢ later) (before ++ own ++ later)) where
  pub from_key : before ++ own ++ later ≡ before ++ key ∷ (is.rest ++ later)
  from_key = ap (λ bs. before ++ bs ++ later) is.is ∙ append_assoc before (key ∷ is.rest) later

  pub no_bad_link : (holder : ℕ) → HasBadLink store before key holder → ⊥
  no_bad_link holder bad = met on.rest on.is on.leads
    where
      on : GoesOn store bad.rest is.rest holder is.last
      on = goes_on store key bad.rest is.rest holder is.last bad.leads is.leads is.ends

      met : (rest : List ℕ) → is.rest ≡ bad.rest ++ rest → Leads store holder rest is.last → ⊥
      met [] rest_is way = bad.linked_on (subst (λ p. next_of (unit_at store p) ≡ 0) way is.ends)
      met (next ∷ rest) rest_is way =
          let all : before ++ own ++ later ≡ (before ++ key ∷ bad.rest) ++ next ∷ (rest ++ later) =
          from_key ∙ ap (λ bs. before ++ key ∷ (bs ++ later)) rest_is
          ∙ ap (λ bs. before ++ key ∷ bs) (append_assoc bad.rest (next ∷ rest) later)
          ∙ sym (append_assoc before (key ∷ bad.rest) (next ∷ (rest ++ later))) in
          ⊎_elim
          (λ none. none (subst (CanLink store) way.1 way.0))
          (λ twice. not_twice (before ++ key ∷ bad.rest) (rest ++ later) next (subst (AllPairs (λ block later. block ≢ later)) all once)
          (subst (Contains (before ++ key ∷ bad.rest)) (sym way.1) twice))
          bad.bad

-- a subdirectory whose blocks stand once has no fault
no_subdirectory_fault : (store : List (List ℕ)) (before : List ℕ) (holder key : ℕ) (own later : List ℕ) (fault : Fault) → IsDirectory store 0x0e key own
    → AllPairs (λ block later. block ≢ later) (before ++ own ++ later) → SubdirectoryFaultAt store before holder key fault → ⊥
no_subdirectory_fault store before holder key own later (DirLink place) is once bad =
    ⊎_elim
    (λ b. ⊎_elim
    (λ none. none is.run.can_link)
    (λ b'. ⊎_elim
    (λ twice. not_twice before (is.run.rest ++ later) key (subst (AllPairs (λ block later. block ≢ later)) (from_key store before key own later is.run once) once) twice)
    (λ other. other is.kind_is)
    b')
    b.1)
    (λ b. no_bad_link store before key own later is.run once place b.3)
    bad
no_subdirectory_fault store before holder key own later (Geometry place) is once bad = bad.3 is.sizes
no_subdirectory_fault store before holder key own later _ is once bad = absurd bad

-- a store with a fault in its directories has no tree
pub no_tree : (store : List (List ℕ)) (fault : Fault) (blocks : List ℕ) (entries : List Entry) → TreeFaultAt store fault → IsTree store blocks entries → ⊥
no_tree store fault blocks entries bad tree = ⊎_elim of_volume of_entry bad
  where
    of_volume : ((holder : ℕ) × (fault ≡ DirLink holder) × HasBadLink store [] 2 holder) → ⊥
    of_volume b =
        no_bad_link store [] 2 tree.listed.own tree.listed.later tree.listed.volume.run (subst (AllPairs (λ block later. block ≢ later)) tree.listed.is tree.once) b.0 b.2

    of_entry : IsCutOff store fault → ⊥
    of_entry cut = next on.further on.later on.blocks_are on.lists
      where
        on : ListsOn store cut.entries entries (cut.entry ∷ cut.others) cut.blocks blocks
        on = tree_on store cut.blocks blocks cut.entries entries (cut.entry ∷ cut.others) cut.listed tree

        next : (further : List Entry) (later : List ℕ) → blocks ≡ cut.blocks ++ later → Lists store (cut.entry ∷ cut.others) further later [] → ⊥
        next [] later are lists = none_is_some cut.entry cut.others (sym lists.0)
        next (e ∷ further) later are lists =
            let same : e ≡ cut.entry = sym (first_same cut.entry e cut.others lists.0 lists.3) in
            let has = subst (λ x. HasBlocks (is_directory x) store (key_of x) lists.1) same lists.5 in
            let directory = subst (λ b. HasBlocks b store (key_of cut.entry) lists.1) cut.subdirectory has in
            let all : blocks ≡ cut.blocks ++ lists.1 ++ lists.2 = are ∙ ap (λ bs. cut.blocks ++ bs) lists.4 ∙ sym (append_assoc cut.blocks lists.1 lists.2) in
            no_subdirectory_fault store cut.blocks cut.entry.place (key_of cut.entry) lists.1 lists.2 fault directory (subst (AllPairs (λ block later. block ≢ later)) all tree.once) cut.faulty
