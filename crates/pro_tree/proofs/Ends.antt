-- The start and the end of a walk over a file.
use Rattle.std.proofs.Common.{◌≡◌, ◌≢◌, ◌⊎◌, ℕ, ◌+◌, ◌*◌, ◌≤◌, Bool, true, false, List, [], ◌∷◌, ◌++◌, length, Contains, Some, None, refl, sym, ◌∙◌, ap, subst, arith, inl, inr, ⊎_elim, append-nil}
use Rattle.std.specs.Prelude.{◌==◌, if◌then◌else◌, Result, Ok, Err, OnOk}
use Rattle.std.proofs.lemmas.Bool.Decides.{nat_tests}
use Rattle.a2_device.specs.declared.part.Part.{Part}
use Rattle.a2_device.specs.declared.part.PartKind.{PartKind}
use Rattle.a2_device.specs.declared.part.PartKind.TheVariants.{List as AList, Body, Master, Index}
use Rattle.a2_device.specs.declared.fault.Fault.{Fault}
use Rattle.a2_device.specs.declared.fault.Fault.TheVariants.{Geometry, CatalogLink, DirLink, MapPointer, StorageType, OutOfRange, InSystem, Shared, MarkedFree}
use Rattle.vol_format.specs.declared.link.Link.{Link}
use Rattle.vol_format.specs.declared.link.Link.TheVariants.{Null, Wild, Directory as ToDirectory, OtherType, To}
use Rattle.pro_tree.specs.Reach.{pro_link, pro_root, pro_pointers}
use Rattle.pro_tree.specs.lemmas.ReachLaws.{pro_link-cases, pro_few_pointers}
use Rattle.pro_tree.specs.File.{InFile, at_key, at_pointer}
use Rattle.pro_tree.specs.Parts.{rank, named_by, IsPartsOf, HasNoWild, HasParts, FileFaultAt}
use Rattle.pro_tree.specs.Walk.{IsTame, IsRefusedAt, IsSoFar, IsReached, IsClosed, IsTaking, part_named, parts_named}
use Rattle.a2_device.specs.Table.{IsTable}
use Rattle.a2_device.proofs.Tables.{only_one, first_one}
use Rattle.pro_tree.proofs.Steps.{closed_all, so_far_more, refused, null_more, index_more, index_rank}

-- a key pointer that names nothing or a part is that of a seedling, a sapling or a tree
pub has_parts : (places file storage key : ℕ) → IsTame (pro_root places file storage key) → HasParts storage
has_parts places file storage key tame = by_tests (storage == 1) (storage == 2) (storage == 3) (storage == 13) refl refl refl tame
  where
    by_tests : (seedling sapling big subdirectory : Bool) → (storage == 1) ≡ seedling → (storage == 2) ≡ sapling → (storage == 3) ≡ big
        → IsTame (if seedling then pro_link places file Body 0 key
        else (if sapling then pro_link places file Index 0 key
        else (if big then pro_link places file Master 0 key
        else (if subdirectory then ToDirectory else OtherType))))
        → HasParts storage
    by_tests true sapling big subdirectory one two three is = inl (grind (arith, nat_tests))
    by_tests false true big subdirectory one two three is = inr (inl (grind (arith, nat_tests)))
    by_tests false false true subdirectory one two three is = inr (inr (grind (arith, nat_tests)))
    by_tests false false false true one two three is = absurd (is.directory refl)
    by_tests false false false false one two three is = absurd (is.other refl)

abbrev IsNoFile : Link → Type 0
IsNoFile link = (link ≡ ToDirectory) ⊎ (link ≡ OtherType)

no_parts : (places file storage key : ℕ) → IsNoFile (pro_root places file storage key) → HasParts storage → ⊥
no_parts places file storage key is has =
    ⊎_elim (λ one. linked Body (subst (λ s. IsNoFile (pro_root places file s key)) one is))
    (λ rest. ⊎_elim (λ two. linked Index (subst (λ s. IsNoFile (pro_root places file s key)) two is))
    (λ three. linked Master (subst (λ s. IsNoFile (pro_root places file s key)) three is)) rest) has
  where
    linked : (kind : PartKind) → IsNoFile (pro_link places file kind 0 key) → ⊥
    linked kind = pro_link-cases (λ link. IsNoFile link → ⊥) places file kind 0 key
        (λ null no. ⊎_elim (λ a. cc) (λ a. cc) no) (λ some inside no. ⊎_elim (λ a. cc) (λ a. cc) no) (λ wild no. ⊎_elim (λ a. cc) (λ a. cc) no)

-- what an answered part says of the pointer
pub tame_none : (link : Link) → part_named link ≡ None → IsTame link → link ≡ Null
tame_none Null is tame = refl
tame_none Wild is tame = absurd (tame.wild refl)
tame_none ToDirectory is tame = absurd (tame.directory refl)
tame_none OtherType is tame = absurd (tame.other refl)
tame_none (To part) is tame = absurd (cc)

pub tame_some : (link : Link) (part : Part) → part_named link ≡ Some part → link ≡ To part
tame_some Null part is = absurd (cc)
tame_some Wild part is = absurd (cc)
tame_some ToDirectory part is = absurd (cc)
tame_some OtherType part is = absurd (cc)
tame_some (To other) part is = let same : other ≡ part = cc in ap To same

-- no more pointers
pub taking_all : (store : List (List ℕ)) (part : Part) (old parts : List Part) (n below : ℕ) → pro_pointers part.kind ≤ n → IsTaking store part old parts n below
    → IsTaking store part old parts 256 below
taking_all store part old parts n below few taking =
    let closed = closed_all store parts part n few taking.pointers in
    record {
      grown = taking.grown;
      added = taking.added;
      pointers = record { tame = λ i low. closed.tame i; taken = λ i child low is. closed.taken i child is };
      walked = taking.walked;
    }

-- the key pointer
module _ (store : List (List ℕ)) (file storage key : ℕ) where
  none_yet : IsSoFar store file storage key 0 []
  none_yet = record { inside = λ part has. absurd (omega (arith, has.1)); ordered = λ i j d a b. absurd (omega (arith, b)) }

  pub first_reached : (root : Part) (met : List Bool) → pro_root (length store) file storage key ≡ To root → IsTable met (root ∷ [])
      → IsReached store file storage key root met (root ∷ [])
  first_reached root met is table = record {
    in_file = at_key is;
    table = table;
    so_far = so_far_more store file storage key 0 [] none_yet root (at_key is) (omega arith);
  }

  pub key_refused : (entry : ℕ) (met : List Bool) → IsTable met [] → (fault : Fault) → IsRefusedAt met entry (pro_root (length store) file storage key) fault
      → FileFaultAt store file storage key entry fault
  key_refused entry met table (OutOfRange place) why = inl why
  key_refused entry met table (StorageType place) why = (why.0, no_parts (length store) file storage key why.1)
  key_refused entry met table (Shared place) why = let old = table.has place why.3 in absurd (omega (arith, old.1.1))
  key_refused entry met table (Geometry place) why = absurd why
  key_refused entry met table (CatalogLink place) why = absurd why
  key_refused entry met table (DirLink place) why = absurd why
  key_refused entry met table (MapPointer place) why = absurd why
  key_refused entry met table (InSystem place) why = absurd why
  key_refused entry met table (MarkedFree place) why = absurd why

  -- a file of no part
  no_part : pro_root (length store) file storage key ≡ Null → (part : Part) → InFile store file storage key part → ⊥
  no_part null part (at_key is) = cc
  no_part null part (at_pointer {parent} i above is) = no_part null parent above

  pub empty_file : pro_root (length store) file storage key ≡ Null → HasParts storage → IsPartsOf store file storage key [] × HasNoWild store file storage key
  empty_file null type = (
    record {
      members = λ part. (λ has. absurd (omega (arith, has.1)), λ is. absurd (no_part null part is));
      ordered = none_yet.ordered;
    },
    record {
      type = type;
      key_pointer = λ wild. cc;
      pointers = λ part i is. absurd (no_part null part is);
    },
  )

  -- a file with parts, all of whose pointers were followed
  module _ (root : Part) (is : pro_root (length store) file storage key ≡ To root) (parts : List Part) (below : ℕ) (taken : IsTaking store root (root ∷ []) parts 256 below) where
    closed : (part : Part) → Contains parts part → IsClosed store parts part
    closed part has = ⊎_elim
        (λ first. subst (IsClosed store parts) (sym (only_one root part first)) (closed_all store parts root 256 (pro_few_pointers root.kind) taken.pointers))
        (λ known. known) (taken.added part has)

    all : (part : Part) → InFile store file storage key part → Contains parts part
    all part (at_key to) =
        let same : To root ≡ To part = sym is ∙ to in
        let one : root ≡ part = cc in
        subst (Contains parts) one (taken.grown root (first_one root))
    all part (at_pointer {parent} i above to) = (closed parent (all parent above)).taken i part to

    so_far : IsSoFar store file storage key below parts
    so_far = taken.walked file storage key (at_key is) (so_far_more store file storage key 0 [] none_yet root (at_key is) (omega arith))

    pub whole_file : HasParts storage → IsPartsOf store file storage key parts × HasNoWild store file storage key
    whole_file type = (
      record {
        members = λ part. (λ has. (so_far.inside part has).0, all part);
        ordered = so_far.ordered;
      },
      record {
        type = type;
        key_pointer = λ wild. cc;
        pointers = λ part i in_file. (closed part (all part in_file)).tame i;
      },
    )

-- pointers of a master index
pub null_followed : (store : List (List ℕ)) (master : Part) (old parts next : List Part) (n : ℕ) (link : Link) → IsTaking store master old parts n (1 + 257 * n)
    → named_by store master n ≡ link → IsTame link → part_named link ≡ None → next ≡ parts ++ parts_named link
    → IsTaking store master old next (n + 1) (1 + 257 * (n + 1))
null_followed store master old parts next n link so_far is tame none more =
    let null = tame_none link none tame in
    subst (λ ps. IsTaking store master old ps (n + 1) (1 + 257 * (n + 1))) (sym (more ∙ ap (λ l. parts ++ parts_named l) null ∙ append-nil parts))
    (null_more store master old parts n (1 + 257 * n) (1 + 257 * (n + 1)) so_far (omega arith) (is ∙ null))

pub index_followed : (store : List (List ℕ)) (master : Part) (old parts next more : List Part) (n : ℕ) (link : Link) (index : Part) → master.kind ≡ Master → master.number ≡ 0
    → IsTaking store master old parts n (1 + 257 * n) → named_by store master n ≡ link → part_named link ≡ Some index → next ≡ parts ++ parts_named link
    → IsTaking store index next more 256 (rank index + 1 + 256) → IsTaking store master old more (n + 1) (1 + 257 * (n + 1))
index_followed store master old parts next more n link index kind first so_far is some pushed below =
    let to = tame_some link index some in
    index_more store master old parts n kind first so_far index (is ∙ to) more
    (subst (λ ps. IsTaking store index ps more 256 (rank index + 1 + 256)) (pushed ∙ ap (λ l. parts ++ parts_named l) to) below)

-- an index where its file was followed as far as its rank
pub index_reached : (store : List (List ℕ)) (file storage key : ℕ) (master : Part) (old_met met : List Bool) (old parts next : List Part) (n : ℕ) (link : Link) (index : Part)
    → master.kind ≡ Master → master.number ≡ 0 → IsTaking store master old parts n (1 + 257 * n) → named_by store master n ≡ link → part_named link ≡ Some index
    → next ≡ parts ++ parts_named link → IsTable met next → IsReached store file storage key master old_met old → IsReached store file storage key index met next
index_reached store file storage key master old_met met old parts next n link index kind first so_far is some pushed table reached =
    let to = is ∙ tame_some link index some in
    let at = index_rank store master index n kind first to in
    let in_index = at_pointer n reached.in_file to in
    record {
      in_file = in_index;
      table = table;
      so_far = subst (IsSoFar store file storage key (rank index + 1)) (sym (pushed ∙ ap (λ l. parts ++ parts_named l) (tame_some link index some)))
          (so_far_more store file storage key (1 + 257 * n) parts (so_far.walked file storage key reached.in_file reached.so_far) index in_index (omega (arith, at.2)));
    }

pub index_refused : (store : List (List ℕ)) (file storage key entry : ℕ) (master : Part) (old_met met : List Bool) (old parts : List Part) (n : ℕ) → master.kind ≡ Master → master.number ≡ 0
    → IsTaking store master old parts n (1 + 257 * n) → (IsTable old_met old → IsTable met parts) → IsReached store file storage key master old_met old
    → (fault : Fault) → IsRefusedAt met master.place (named_by store master n) fault → FileFaultAt store file storage key entry fault
index_refused store file storage key entry master old_met met old parts n kind first so_far table reached =
    refused store file storage key entry (1 + 257 * n) met parts (table reached.table) (so_far.walked file storage key reached.in_file reached.so_far)
    master n reached.in_file (λ child is. let at = index_rank store master child n kind first is in omega (arith, at.2))

-- the part has no pointers
pub leaf_taking : (store : List (List ℕ)) (part : Part) (parts : List Part) → pro_pointers part.kind ≤ 0 → IsTaking store part parts parts 256 (rank part + 1)
leaf_taking store part parts few = taking_all store part parts parts 0 (rank part + 1) few (record {
  grown = λ other has. has;
  added = λ other has. inl has;
  pointers = record { tame = λ i low. absurd (omega (arith, low)); taken = λ i child low. absurd (omega (arith, low)) };
  walked = λ file storage key is so_far. so_far;
})

pub no_pointers : (kind : PartKind) → kind ≢ Master → kind ≢ Index → pro_pointers kind ≤ 0
no_pointers Master not_master not_index = absurd (not_master refl)
no_pointers Index not_master not_index = absurd (not_index refl)
no_pointers AList not_master not_index = omega arith
no_pointers Body not_master not_index = omega arith

pub on_ok : {T E : Type 0} (P Q : Type 0) (result : Result T E) → (P → Q) → OnOk result P → OnOk result Q
on_ok P Q (Ok value) step holds = step holds
on_ok P Q (Err e) step holds = holds

-- the walk where the key pointer names a part, and where it names nothing
pub at_part : (store : List (List ℕ)) (file storage key : ℕ) (part : Part) (met : List Bool) (parts : List Part) → parts ≡ part ∷ []
    → pro_root (length store) file storage key ≡ To part → IsTable met parts → IsReached store file storage key part met parts
at_part store file storage key part met parts same is table =
    subst (IsReached store file storage key part met) (sym same) (first_reached store file storage key part met is (subst (IsTable met) same table))

module _ (store : List (List ℕ)) (file storage key : ℕ) (link : Link) where
  pub at_parts : (part : Part) (parts new : List Part) → link ≡ pro_root (length store) file storage key → IsTame link → link ≡ To part → parts ≡ parts_named link
      → (below : ℕ) × IsTaking store part parts new 256 below → IsPartsOf store file storage key new × HasNoWild store file storage key
  at_parts part parts new is tame to same taken =
      whole_file store file storage key part (sym is ∙ to) new taken.0
      (subst (λ ps. IsTaking store part ps new 256 taken.0) (same ∙ ap parts_named to) taken.1)
      (has_parts (length store) file storage key (subst IsTame is tame))

  pub at_none : (parts : List Part) → link ≡ pro_root (length store) file storage key → IsTame link → part_named link ≡ None → parts ≡ parts_named link
      → IsPartsOf store file storage key parts × HasNoWild store file storage key
  at_none parts is tame none same =
      let null = tame_none link none tame in
      subst (λ ps. IsPartsOf store file storage key ps × HasNoWild store file storage key) (sym (same ∙ ap parts_named null))
      (empty_file store file storage key (sym is ∙ null) (has_parts (length store) file storage key (subst IsTame is tame)))
