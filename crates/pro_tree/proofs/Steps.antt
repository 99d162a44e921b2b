-- A walk over a file, one pointer further.
use Rattle.std.proofs.Common.{◌≡◌, ◌≢◌, ℕ, ◌+◌, ◌*◌, ◌<◌, ◌≤◌, Bool, List, [], ◌∷◌, ◌++◌, length, Contains, refl, sym, ◌∙◌, ap, subst, arith, inl, inr, ⊎_elim, append-nil}
use Rattle.std.proofs.lemmas.Bool.{cases_lt}
use Rattle.std.proofs.lemmas.List.Elements.{Contains-append_left, Contains-append_right, Contains-append_cases}
use Rattle.std.proofs.lemmas.List.Quantifiers.{all_pairs_push}
use Rattle.std.proofs.lemmas.List.{get_or_default}
use Rattle.a2_device.specs.Device.{unit_at}
use Rattle.a2_device.specs.declared.part.Part.{Part}
use Rattle.a2_device.specs.declared.part.PartKind.TheVariants.{Body, Master, Index}
use Rattle.a2_device.specs.declared.fault.Fault.{Fault}
use Rattle.a2_device.specs.declared.fault.Fault.TheVariants.{Geometry, CatalogLink, DirLink, MapPointer, StorageType, OutOfRange, InSystem, Shared, MarkedFree}
use Rattle.vol_format.specs.declared.link.Link.{Link}
use Rattle.vol_format.specs.declared.link.Link.TheVariants.{Null, Wild, Directory as ToDirectory, OtherType, To}
use Rattle.pro_tree.specs.Reach.{pro_child, pro_rank, pro_pointers}
use Rattle.pro_tree.specs.lemmas.ReachLaws.{pro_child-To, child_cases, pro_no_more, pro_child_type, pro_child_no_directory}
use Rattle.pro_tree.specs.File.{InFile, at_pointer}
use Rattle.pro_tree.specs.Parts.{rank, named_by, FileFaultAt}
use Rattle.pro_tree.specs.Walk.{IsTame, IsRefusedAt, IsSoFar, IsReached, AreTaken, IsClosed, IsTaking, parts_named}
use Rattle.a2_device.specs.Table.{IsTable}
use Rattle.a2_device.proofs.Tables.{only_one, first_one}

-- Index m has the rank of pointer m of its master index, and a unit of the body that of its pointer in its index.
pub body_rank : (store : List (List ℕ)) (index child : Part) (i : ℕ) → index.kind ≡ Index → named_by store index i ≡ To child
    → (child.kind ≡ Body) × (rank child ≡ rank index + 1 + i)
body_rank store index child i kind is =
    child_cases (λ above number below count. above ≡ Index → (below ≡ Body) × (pro_rank below count ≡ pro_rank above number + 1 + i))
    (length store) index.kind index.file index.number i child (pro_child-To (length store) index.kind index.file index.number (unit_at store index.place) i child is)
    (λ within same. absurd (cc)) (λ within same. (refl, omega (arith, within))) kind

pub index_rank : (store : List (List ℕ)) (master child : Part) (i : ℕ) → master.kind ≡ Master → master.number ≡ 0 → named_by store master i ≡ To child
    → (child.kind ≡ Index) × (child.number ≡ i) × (rank child ≡ 1 + 257 * i)
index_rank store master child i kind first is =
    child_cases (λ above number below count. above ≡ Master → number ≡ 0 → (below ≡ Index) × (count ≡ i) × (pro_rank below count ≡ 1 + 257 * i))
    (length store) master.kind master.file master.number i child (pro_child-To (length store) master.kind master.file master.number (unit_at store master.place) i child is)
    (λ within same none. (refl, omega (arith, none), omega (arith, none))) (λ within same none. absurd (cc)) kind first

-- a unit of the body names nothing
pub body_closed : (store : List (List ℕ)) (parts : List Part) (part : Part) → part.kind ≡ Body → IsClosed store parts part
body_closed store parts part kind = record {
  tame = λ i is. let none = nothing i in cc;
  taken = λ i child is. let none = nothing i in absurd (cc);
}
  where
    nothing : (i : ℕ) → named_by store part i ≡ Null
    nothing i = subst (λ k. pro_child (length store) k part.file part.number (unit_at store part.place) i ≡ Null) (sym kind) refl

pub closed_more : (store : List (List ℕ)) (parts more : List Part) (part : Part) → ((other : Part) → Contains parts other → Contains more other)
    → IsClosed store parts part → IsClosed store more part
closed_more store parts more part grown closed = record {
  tame = closed.tame;
  taken = λ i child is. grown child (closed.taken i child is);
}

-- all pointers of a part were followed
pub closed_all : (store : List (List ℕ)) (parts : List Part) (part : Part) (n : ℕ) → pro_pointers part.kind ≤ n → AreTaken store part parts n → IsClosed store parts part
closed_all store parts part n few taken = record {
  tame = λ i. ⊎_elim (λ low. taken.tame i low) (λ past is. let none = nothing i past in cc) (cases_lt i n);
  taken = λ i child is. ⊎_elim (λ low. taken.taken i child low is) (λ past. let none = nothing i past in absurd (cc)) (cases_lt i n);
}
  where
    nothing : (i : ℕ) → n ≤ i → named_by store part i ≡ Null
    nothing i past = pro_no_more (length store) part.kind part.file part.number (unit_at store part.place) i (omega (arith, few, past))

-- one part more, and a higher rank
module _ (store : List (List ℕ)) (file storage key below : ℕ) (parts : List Part) (so_far : IsSoFar store file storage key below parts) where
  pub so_far_up : (above : ℕ) → below ≤ above → IsSoFar store file storage key above parts
  so_far_up above less = record {
    inside = λ part has. let old = so_far.inside part has in (old.0, omega (arith, old.1, less));
    ordered = so_far.ordered;
  }

  pub so_far_more : (part : Part) → InFile store file storage key part → below ≤ rank part → IsSoFar store file storage key (rank part + 1) (parts ++ part ∷ [])
  so_far_more part is later = record {
    inside = λ other has. ⊎_elim
        (λ old. let known = so_far.inside other old in (known.0, omega (arith, known.1, later)))
        (λ new. subst (λ p. InFile store file storage key p × (rank p < rank part + 1)) (sym (only_one part other new)) (is, omega arith))
        (Contains-append_cases parts (part ∷ []) other has);
    ordered = all_pairs_push (λ one other. rank one < rank other) parts part so_far.ordered
        (λ k d h. let known = so_far.inside _ (k, h, get_or_default parts k _ d h) in omega (arith, known.1, later));
  }

-- the start of a part's pointers
pub no_pointer : (store : List (List ℕ)) (part : Part) (parts : List Part) → IsTaking store part parts parts 0 (rank part + 1)
no_pointer store part parts = record {
  grown = λ other has. has;
  added = λ other has. inl has;
  pointers = record { tame = λ i low. absurd (omega (arith, low)); taken = λ i child low. absurd (omega (arith, low)) };
  walked = λ file storage key is so_far. so_far;
}

-- one pointer more is taken
taken_more : (store : List (List ℕ)) (part : Part) (parts more : List Part) (n : ℕ) → ((other : Part) → Contains parts other → Contains more other)
    → AreTaken store part parts n → named_by store part n ≢ Wild → ((child : Part) → named_by store part n ≡ To child → Contains more child)
    → AreTaken store part more (n + 1)
taken_more store part parts more n grown taken tame here = record {
  tame = λ i low. ⊎_elim (λ under. taken.tame i under)
      (λ over. subst (λ k. named_by store part k ≢ Wild) (same i low over) tame) (cases_lt i n);
  taken = λ i child low is. ⊎_elim (λ under. grown child (taken.taken i child under is))
      (λ over. here child (subst (λ k. named_by store part k ≡ To child) (sym (same i low over)) is)) (cases_lt i n);
}
  where
    same : (i : ℕ) → i < n + 1 → n ≤ i → n ≡ i
    same i low over = omega (arith, low, over)

-- a pointer that names nothing
pub null_more : (store : List (List ℕ)) (part : Part) (old parts : List Part) (n below above : ℕ) → IsTaking store part old parts n below → below ≤ above
    → named_by store part n ≡ Null → IsTaking store part old parts (n + 1) above
null_more store part old parts n below above so_far less is = record {
  grown = so_far.grown;
  added = so_far.added;
  pointers = taken_more store part parts parts n (λ other has. has) so_far.pointers (λ wild. cc) (λ child to. absurd (cc));
  walked = λ file storage key in_file before. so_far_up store file storage key below parts (so_far.walked file storage key in_file before) above less;
}

-- a pointer of an index that names a unit of the body
pub body_more : (store : List (List ℕ)) (index : Part) (old parts : List Part) (n : ℕ) → index.kind ≡ Index
    → IsTaking store index old parts n (rank index + 1 + n) → (child : Part) → named_by store index n ≡ To child
    → IsTaking store index old (parts ++ child ∷ []) (n + 1) (rank index + 1 + (n + 1))
body_more store index old parts n kind so_far child is =
    let at = body_rank store index child n kind is in
    let grown : (other : Part) → Contains parts other → Contains (parts ++ child ∷ []) other = λ other has. Contains-append_left parts (child ∷ []) other has in
    record {
      grown = λ other has. grown other (so_far.grown other has);
      added = λ other has. ⊎_elim
          (λ old_one. ⊎_elim (λ first. inl first) (λ closed. inr (closed_more store parts (parts ++ child ∷ []) other grown closed)) (so_far.added other old_one))
          (λ new. inr (subst (IsClosed store (parts ++ child ∷ [])) (sym (only_one child other new)) (body_closed store (parts ++ child ∷ []) child at.0)))
          (Contains-append_cases parts (child ∷ []) other has);
      pointers = taken_more store index parts (parts ++ child ∷ []) n grown so_far.pointers (λ wild. cc)
          (λ other to. let same : To child ≡ To other = sym is ∙ to in let one : child ≡ other = cc in
          subst (Contains (parts ++ child ∷ [])) one (Contains-append_right parts (child ∷ []) child (first_one child)));
      walked = λ file storage key in_file before.
          let rank_is : rank child + 1 ≡ rank index + 1 + (n + 1) = omega (arith, at.1) in
          subst (λ r. IsSoFar store file storage key r (parts ++ child ∷ [])) rank_is
          (so_far_more store file storage key (rank index + 1 + n) parts (so_far.walked file storage key in_file before) child (at_pointer n in_file is) (omega (arith, at.1)));
    }

-- a pointer of a master index that names an index, all of whose pointers were taken
pub index_more : (store : List (List ℕ)) (master : Part) (old parts : List Part) (n : ℕ) → master.kind ≡ Master → master.number ≡ 0
    → IsTaking store master old parts n (1 + 257 * n) → (index : Part) → named_by store master n ≡ To index → (more : List Part)
    → IsTaking store index (parts ++ index ∷ []) more 256 (rank index + 1 + 256) → IsTaking store master old more (n + 1) (1 + 257 * (n + 1))
index_more store master old parts n kind first so_far index is more below =
    let at = index_rank store master index n kind first is in
    let grown : (other : Part) → Contains parts other → Contains more other = λ other has. below.grown other (Contains-append_left parts (index ∷ []) other has) in
    let few : pro_pointers index.kind ≤ 256 = subst (λ k. pro_pointers k ≤ 256) (sym at.0) (omega arith) in
    record {
      grown = λ other has. grown other (so_far.grown other has);
      added = λ other has. ⊎_elim
          (λ before. ⊎_elim
          (λ old_one. ⊎_elim (λ first_of. inl first_of) (λ closed. inr (closed_more store parts more other grown closed)) (so_far.added other old_one))
          (λ new. inr (subst (IsClosed store more) (sym (only_one index other new)) (closed_all store more index 256 few below.pointers)))
          (Contains-append_cases parts (index ∷ []) other before))
          (λ closed. inr closed)
          (below.added other has);
      pointers = taken_more store master parts more n grown so_far.pointers (λ wild. cc)
          (λ other to. let same : To index ≡ To other = sym is ∙ to in let one : index ≡ other = cc in
          subst (Contains more) one (below.grown index (Contains-append_right parts (index ∷ []) index (first_one index))));
      walked = λ file storage key in_file before.
          let rank_is : rank index + 1 + 256 ≡ 1 + 257 * (n + 1) = omega (arith, at.2) in
          let in_index = at_pointer n in_file is in
          subst (λ r. IsSoFar store file storage key r more) rank_is
          (below.walked file storage key in_index
          (so_far_more store file storage key (1 + 257 * n) parts (so_far.walked file storage key in_file before) index in_index (omega (arith, at.2))));
    }

-- a pointer that is refused shows a fault of the file
pub refused : (store : List (List ℕ)) (file storage key entry below : ℕ) (met : List Bool) (parts : List Part) → IsTable met parts → IsSoFar store file storage key below parts
    → (part : Part) (i : ℕ) → InFile store file storage key part → ((child : Part) → named_by store part i ≡ To child → below ≤ rank child)
    → (fault : Fault) → IsRefusedAt met part.place (named_by store part i) fault → FileFaultAt store file storage key entry fault
refused store file storage key entry below met parts table so_far part i in_file later (OutOfRange place) why = inr (part, in_file, sym why.0, (i, why.1))
refused store file storage key entry below met parts table so_far part i in_file later (StorageType place) why =
    absurd (⊎_elim (pro_child_no_directory (length store) part.kind part.file part.number (unit_at store part.place) i)
    (pro_child_type (length store) part.kind part.file part.number (unit_at store part.place) i) why.1)
refused store file storage key entry below met parts table so_far part i in_file later (Shared place) why =
    let old = table.has place why.3 in
    let known = so_far.inside old.0 old.1 in
    let after = later why.0 why.1 in
    (old.0, why.0, known.0, at_pointer i in_file why.1, old.2, why.2, λ same. let ranks = ap rank same in absurd (omega (arith, ranks, known.1, after)))
refused store file storage key entry below met parts table so_far part i in_file later (Geometry place) why = absurd why
refused store file storage key entry below met parts table so_far part i in_file later (CatalogLink place) why = absurd why
refused store file storage key entry below met parts table so_far part i in_file later (DirLink place) why = absurd why
refused store file storage key entry below met parts table so_far part i in_file later (MapPointer place) why = absurd why
refused store file storage key entry below met parts table so_far part i in_file later (InSystem place) why = absurd why
refused store file storage key entry below met parts table so_far part i in_file later (MarkedFree place) why = absurd why

-- what a pointer of a block names on the volume
pub named_is : (store : List (List ℕ)) (part : Part) (places : ℕ) (unit : List ℕ) (i : ℕ) → length store ≡ places → unit_at store part.place ≡ unit
    → named_by store part i ≡ pro_child places part.kind part.file part.number unit i
named_is store part places unit i size read =
    ap (λ p. pro_child p part.kind part.file part.number (unit_at store part.place) i) size ∙ ap (λ u. pro_child places part.kind part.file part.number u i) read

pub body_followed : (store : List (List ℕ)) (index : Part) (old parts next : List Part) (n : ℕ) (link : Link) → index.kind ≡ Index
    → IsTaking store index old parts n (rank index + 1 + n) → named_by store index n ≡ link → IsTame link → next ≡ parts ++ parts_named link
    → IsTaking store index old next (n + 1) (rank index + 1 + (n + 1))
body_followed store index old parts next n Null kind so_far is tame more =
    subst (λ ps. IsTaking store index old ps (n + 1) (rank index + 1 + (n + 1))) (sym (more ∙ append-nil parts))
    (null_more store index old parts n (rank index + 1 + n) (rank index + 1 + (n + 1)) so_far (omega arith) is)
body_followed store index old parts next n Wild kind so_far is tame more = absurd (tame.wild refl)
body_followed store index old parts next n ToDirectory kind so_far is tame more = absurd (tame.directory refl)
body_followed store index old parts next n OtherType kind so_far is tame more = absurd (tame.other refl)
body_followed store index old parts next n (To child) kind so_far is tame more =
    subst (λ ps. IsTaking store index old ps (n + 1) (rank index + 1 + (n + 1))) (sym more) (body_more store index old parts n kind so_far child is)

-- a pointer of an index that is refused
pub body_refused : (store : List (List ℕ)) (file storage key entry : ℕ) (index : Part) (old_met met : List Bool) (old parts : List Part) (n : ℕ) → index.kind ≡ Index
    → IsTaking store index old parts n (rank index + 1 + n) → (IsTable old_met old → IsTable met parts) → IsReached store file storage key index old_met old
    → (fault : Fault) → IsRefusedAt met index.place (named_by store index n) fault → FileFaultAt store file storage key entry fault
body_refused store file storage key entry index old_met met old parts n kind so_far table reached =
    refused store file storage key entry (rank index + 1 + n) met parts (table reached.table) (so_far.walked file storage key reached.in_file reached.so_far)
    index n reached.in_file (λ child is. let at = body_rank store index child n kind is in omega (arith, at.1))
