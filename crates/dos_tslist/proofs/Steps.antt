-- A walk over a file, one pointer further.
use Rattle.std.proofs.Common.{◌≡◌, ◌≢◌, ◌⊎◌, ◌↔◌, ℕ, zero, suc, ◌+◌, ◌*◌, ◌/◌, ◌%◌, ◌<◌, ◌≤◌, Bool, true, false, List, [], ◌∷◌, ◌++◌, length, get_or, set, Option, Some, None, Contains, AllPairs, refl, sym, ◌∙◌, ap, subst, arith, replicate, option_to_list, inl, inr, ⊎_elim, append-nil}
use Rattle.std.specs.Prelude.{slice_index_or, ◌==◌, count_by, not}
use Rattle.std.proofs.lemmas.Bool.{cases_lt}
use Rattle.std.proofs.lemmas.Bool.Decides.{nat_tests}
use Rattle.std.proofs.lemmas.List.Elements.{Contains-append_left, Contains-append_right, Contains-append_cases}
use Rattle.std.proofs.lemmas.List.Quantifiers.{all_pairs_push}
use Rattle.std.proofs.lemmas.List.{get_or-set_same, get_or-set_other, get_or_default}
use Rattle.a2_device.specs.Device.{unit_at}
use Rattle.a2_device.specs.declared.part.Part.{Part}
use Rattle.a2_device.specs.declared.part.PartKind.{PartKind}
use Rattle.a2_device.specs.declared.part.PartKind.TheVariants.{List as AList, Body, Master, Index}
use Rattle.a2_device.specs.declared.fault.Fault.{Fault}
use Rattle.a2_device.specs.declared.fault.Fault.TheVariants.{Geometry, CatalogLink, DirLink, MapPointer, StorageType, OutOfRange, InSystem, Shared, MarkedFree}
use Rattle.dos_vtoc.specs.Vtoc.{link_of}
use Rattle.dos_tslist.specs.Pointers.{pair_of}
use Rattle.dos_tslist.specs.Reach.{InFile, PlacedAt, ListAt, BodyAt, IsPartsOf, HasNoWild, FileFaultAt, rank, rank_of, is_wild, place_named}
use Rattle.dos_tslist.specs.Walk.{IsWalked, IsRefusedAt, IsPairing, IsAtList, pointed, part_of}
use Rattle.a2_device.proofs.Tables.{only_one, first_one, tabled, empty_table}
use Rattle.a2_device.specs.Table.{IsTable}

-- two lists of one number stand at one place
pub one_list : (store : List (List ℕ)) (first : Option (ℕ × ℕ)) (number list other : ℕ) → ListAt store first number list → ListAt store first number other → list ≡ other
one_list store first zero list other a b = cc
one_list store first (suc number) list other a b =
    let same : a.0 ≡ b.0 = one_list store first number a.0 b.0 a.1 b.1 in
    let link = ap (λ p. place_named (link_of (unit_at store p))) same in
    cc

part_is : (part : Part) (file : ℕ) (kind : PartKind) (number place : ℕ) → part.file ≡ file → part.kind ≡ kind → part.number ≡ number → part.place ≡ place
    → part ≡ part_of file kind number place
part_is part file kind number place f k n p =
    ap (λ x. part_of x part.kind part.number part.place) f ∙ ap (λ x. part_of file x part.number part.place) k
    ∙ ap (λ x. part_of file kind x part.place) n ∙ ap (λ x. part_of file kind number x) p

-- one pointer further: it is the one that parts of a rank are named by
module _ (store : List (List ℕ)) (file : ℕ) (first : Option (ℕ × ℕ)) (below : ℕ) (parts : List Part) (walked : IsWalked store file first below parts)
    (kind : PartKind) (number : ℕ) (pointer : Option (ℕ × ℕ)) (ranked : rank_of kind number ≡ below)
    (only : (part : Part) → InFile store file first part → rank part ≡ below → (part.kind ≡ kind) × (part.number ≡ number) × (place_named pointer ≡ Some part.place))
    (there : (place : ℕ) → place_named pointer ≡ Some place → InFile store file first (part_of file kind number place)) where
  members_more : (place : Option ℕ) → place_named pointer ≡ place → (part : Part)
      → Contains (parts ++ pointed file kind number place) part ↔ (InFile store file first part × (rank part < below + 1))
  members_more None named part = (
    λ has. let old = (walked.members part).0 (subst (λ ps. Contains ps part) (append-nil parts) has) in (old.0, omega (arith, old.1)),
    λ is. subst (λ ps. Contains ps part) (sym (append-nil parts)) ((walked.members part).1 (
      is.0,
      ⊎_elim (λ under. under)
          (λ over. let at : rank part ≡ below = omega (arith, over, is.1) in let o = only part is.0 at in let clash = o.2 in absurd cc) (cases_lt (rank part) below),
    )),
  )
  members_more (Some q) named part = (
    λ has. ⊎_elim (λ old. let o = (walked.members part).0 old in (o.0, omega (arith, o.1)))
        (λ new. let same = only_one (part_of file kind number q) part new in (subst (InFile store file first) (sym same) (there q named), omega (arith, ap rank same, ranked)))
        (Contains-append_cases parts (part_of file kind number q ∷ []) part has),
    λ is. ⊎_elim (λ under. Contains-append_left parts (part_of file kind number q ∷ []) part ((walked.members part).1 (is.0, under)))
        (λ over. let at : rank part ≡ below = omega (arith, over, is.1) in
        let o = only part is.0 at in
        let place : part.place ≡ q = cc in
        let same = part_is part file kind number q is.0.0 o.0 o.1 place in
        Contains-append_right parts (part_of file kind number q ∷ []) part (subst (Contains (part_of file kind number q ∷ [])) (sym same) (first_one (part_of file kind number q))))
        (cases_lt (rank part) below),
  )

  ordered_more : (place : Option ℕ) → AllPairs (λ part later. rank part < rank later) (parts ++ pointed file kind number place)
  ordered_more None = subst (AllPairs (λ part later. rank part < rank later)) (sym (append-nil parts)) walked.ordered
  ordered_more (Some q) = all_pairs_push (λ part later. rank part < rank later) parts (part_of file kind number q) walked.ordered
      (λ k d h. let under = ((walked.members (get_or parts k d)).0 (k, h, get_or_default parts k _ d h)).1 in omega (arith, under, ranked))

-- list m has all lists before it
fewer : (store : List (List ℕ)) (first : Option (ℕ × ℕ)) (less more place : ℕ) → less ≤ more → ListAt store first more place → (q : ℕ) × ListAt store first less q
fewer store first less zero place le at = let none : less ≡ 0 = omega (arith, le) in (place, subst (λ n. ListAt store first n place) (sym none) at)
fewer store first less (suc more) place le at =
    ⊎_elim (λ under. fewer store first less more at.0 (omega (arith, under)) at.1)
    (λ over. let same : less ≡ suc more = omega (arith, le, over) in (place, subst (λ n. ListAt store first n place) (sym same) at))
    (cases_lt less (suc more))

-- whose pointer has a part: by its rank
first_kind : (store : List (List ℕ)) (first : Option (ℕ × ℕ)) (kind : PartKind) (number place : ℕ) → PlacedAt store first kind number place → rank_of kind number ≡ 0
    → (kind ≡ AList) × (number ≡ 0) × (place_named first ≡ Some place)
first_kind store first AList number place at r = let none : number ≡ 0 = omega (arith, r) in (refl, none, subst (λ n. ListAt store first n place) none at)
first_kind store first Body number place at r = absurd (omega (arith, r))
first_kind store first Master number place at r = absurd at
first_kind store first Index number place at r = absurd at

module _ (store : List (List ℕ)) (first : Option (ℕ × ℕ)) (number list : ℕ) (here : ListAt store first number list) where
  link_kind : (kind : PartKind) (n place : ℕ) → PlacedAt store first kind n place → rank_of kind n ≡ 123 * suc number
      → (kind ≡ AList) × (n ≡ suc number) × (place_named (link_of (unit_at store list)) ≡ Some place)
  link_kind AList n place at r =
      let same : n ≡ suc number = omega (arith, r) in
      let after : ListAt store first (suc number) place = subst (λ m. ListAt store first m place) same at in
      let before = one_list store first number after.0 list after.1 here in
      (refl, same, subst (λ p. place_named (link_of (unit_at store p)) ≡ Some place) before after.2)
  link_kind Body n place at r = absurd (omega (arith, r))
  link_kind Master n place at r = absurd at
  link_kind Index n place at r = absurd at

  pair_kind : (pair : ℕ) → pair < 122 → (kind : PartKind) (n place : ℕ) → PlacedAt store first kind n place → rank_of kind n ≡ 123 * number + 1 + pair
      → (kind ≡ Body) × (n ≡ 122 * number + pair) × (place_named (pair_of (unit_at store list) pair) ≡ Some place)
  pair_kind pair low AList n place at r = absurd (omega (arith, r, low))
  pair_kind pair low Body n place at r =
      let whole : n / 122 ≡ number = omega (arith, r, low) in
      let part : n % 122 ≡ pair = omega (arith, r, low) in
      let before = one_list store first number at.0 list (subst (λ m. ListAt store first m at.0) whole at.1) here in (
        refl,
        omega (arith, whole, part),
        subst (λ p. place_named (pair_of (unit_at store p) pair) ≡ Some place) before
            (subst (λ k. place_named (pair_of (unit_at store at.0) k) ≡ Some place) part at.2),
      )
  pair_kind pair low Master n place at r = absurd at
  pair_kind pair low Index n place at r = absurd at

  there_pair : (pair : ℕ) → pair < 122 → (place : ℕ) → place_named (pair_of (unit_at store list) pair) ≡ Some place → BodyAt store first (122 * number + pair) place
  there_pair pair low place named =
      let whole : number ≡ (122 * number + pair) / 122 = omega (arith, low) in
      let part : pair ≡ (122 * number + pair) % 122 = omega (arith, low) in
      (list, subst (λ m. ListAt store first m list) whole here, subst (λ k. place_named (pair_of (unit_at store list) k) ≡ Some place) part named)

-- nothing was followed yet
pub unwalked : (store : List (List ℕ)) (file : ℕ) (first : Option (ℕ × ℕ)) → IsWalked store file first 0 []
unwalked store file first = record {
  members = λ part. (λ has. absurd (omega (arith, has.1)), λ is. absurd (omega (arith, is.1)));
  ordered = λ i j d a b. absurd (omega (arith, b));
  entry = λ h. absurd (omega (arith, h));
  links = λ n list at h. absurd (omega (arith, h));
  pairs = λ n list pair at low h. absurd (omega (arith, h));
}

module _ (store : List (List ℕ)) (file : ℕ) (first : Option (ℕ × ℕ)) (parts : List Part) where
  -- the entry's pointer
  pub walked_entry : IsWalked store file first 0 parts → is_wild first ≡ false → IsWalked store file first 1 (parts ++ pointed file AList 0 (place_named first))
  walked_entry walked tame = record {
    members = members_more store file first 0 parts walked AList 0 first (omega arith) only there (place_named first) refl;
    ordered = ordered_more store file first 0 parts walked AList 0 first (omega arith) only there (place_named first);
    entry = λ _. tame;
    links = λ n list at h. absurd (omega (arith, h));
    pairs = λ n list pair at low h. absurd (omega (arith, h));
  }
    where
      only : (part : Part) → InFile store file first part → rank part ≡ 0 → (part.kind ≡ AList) × (part.number ≡ 0) × (place_named first ≡ Some part.place)
      only part is r = first_kind store first part.kind part.number part.place is.1 r

      there : (place : ℕ) → place_named first ≡ Some place → InFile store file first (part_of file AList 0 place)
      there place named = (refl, named)

module _ (store : List (List ℕ)) (file : ℕ) (first : Option (ℕ × ℕ)) (parts : List Part) (number list : ℕ) (here : ListAt store first number list) where
  -- one pair of a list
  pub walked_pair : (pair : ℕ) → pair < 122 → IsWalked store file first (123 * number + 1 + pair) parts → is_wild (pair_of (unit_at store list) pair) ≡ false
      → IsWalked store file first (123 * number + 1 + pair + 1) (parts ++ pointed file Body (122 * number + pair) (place_named (pair_of (unit_at store list) pair)))
  walked_pair pair low walked tame = record {
    members = members_more store file first (123 * number + 1 + pair) parts walked Body (122 * number + pair) (pair_of (unit_at store list) pair) (omega (arith, low)) only there (place_named (pair_of (unit_at store list) pair)) refl;
    ordered = ordered_more store file first (123 * number + 1 + pair) parts walked Body (122 * number + pair) (pair_of (unit_at store list) pair) (omega (arith, low)) only there (place_named (pair_of (unit_at store list) pair));
    entry = λ _. walked.entry (omega arith);
    links = λ n other at h. walked.links n other at (omega (arith, h, low));
    pairs = λ n other k at small h. ⊎_elim (λ under. walked.pairs n other k at small under)
        (λ over. let same : n ≡ number = omega (arith, h, over, small, low) in
        let last : k ≡ pair = omega (arith, h, over, small, low) in
        let before = one_list store first number other list (subst (λ m. ListAt store first m other) same at) here in
        subst (λ p. is_wild (pair_of (unit_at store p) k) ≡ false) (sym before) (subst (λ j. is_wild (pair_of (unit_at store list) j) ≡ false) (sym last) tame))
        (cases_lt (123 * n + 1 + k) (123 * number + 1 + pair));
  }
    where
      only : (part : Part) → InFile store file first part → rank part ≡ 123 * number + 1 + pair
          → (part.kind ≡ Body) × (part.number ≡ 122 * number + pair) × (place_named (pair_of (unit_at store list) pair) ≡ Some part.place)
      only part is r = pair_kind store first number list here pair low part.kind part.number part.place is.1 r

      there : (place : ℕ) → place_named (pair_of (unit_at store list) pair) ≡ Some place → InFile store file first (part_of file Body (122 * number + pair) place)
      there place named = (refl, there_pair store first number list here pair low place named)

  -- the link of a list
  pub walked_link : IsWalked store file first (123 * suc number) parts → is_wild (link_of (unit_at store list)) ≡ false
      → IsWalked store file first (123 * suc number + 1) (parts ++ pointed file AList (suc number) (place_named (link_of (unit_at store list))))
  walked_link walked tame = record {
    members = members_more store file first (123 * suc number) parts walked AList (suc number) (link_of (unit_at store list)) refl only there (place_named (link_of (unit_at store list))) refl;
    ordered = ordered_more store file first (123 * suc number) parts walked AList (suc number) (link_of (unit_at store list)) refl only there (place_named (link_of (unit_at store list)));
    entry = λ _. walked.entry (omega arith);
    links = λ n other at h. ⊎_elim (λ under. walked.links n other at under)
        (λ over. let same : n ≡ number = omega (arith, h, over) in
        let before = one_list store first number other list (subst (λ m. ListAt store first m other) same at) here in
        subst (λ p. is_wild (link_of (unit_at store p)) ≡ false) (sym before) tame)
        (cases_lt (123 * (n + 1)) (123 * suc number));
    pairs = λ n other k at small h. walked.pairs n other k at small (omega (arith, h, small));
  }
    where
      only : (part : Part) → InFile store file first part → rank part ≡ 123 * suc number
          → (part.kind ≡ AList) × (part.number ≡ suc number) × (place_named (link_of (unit_at store list)) ≡ Some part.place)
      only part is r = link_kind store first number list here part.kind part.number part.place is.1 r

      there : (place : ℕ) → place_named (link_of (unit_at store list)) ≡ Some place → InFile store file first (part_of file AList (suc number) place)
      there place named = (refl, (list, here, named))

-- a pointer that is refused shows a fault of the file
module _ (store : List (List ℕ)) (file : ℕ) (first : Option (ℕ × ℕ)) (entry below : ℕ) (met : List Bool) (parts : List Part) (table : IsTable met parts) (walked : IsWalked store file first below parts)
    (kind : PartKind) (number holder : ℕ) (pointer : Option (ℕ × ℕ)) (ranked : rank_of kind number ≡ below)
    (there : (place : ℕ) → place_named pointer ≡ Some place → InFile store file first (part_of file kind number place))
    (wild : is_wild pointer ≡ true → FileFaultAt store file first entry (OutOfRange holder)) where
  pub refused : (fault : Fault) → IsRefusedAt met holder pointer fault → FileFaultAt store file first entry fault
  refused (OutOfRange place) why = subst (λ p. FileFaultAt store file first entry (OutOfRange p)) (sym why.0) (wild why.1)
  refused (Shared place) why =
      let old = table.has place why.1 in
      let known = (walked.members old.0).0 old.1 in
      (old.0, part_of file kind number place, known.0, there place why.0, old.2, refl, λ same. let ranks = ap rank same in absurd (omega (arith, ranks, ranked, known.1)))
  refused (Geometry place) why = absurd why
  refused (CatalogLink place) why = absurd why
  refused (DirLink place) why = absurd why
  refused (MapPointer place) why = absurd why
  refused (StorageType place) why = absurd why
  refused (InSystem place) why = absurd why
  refused (MarkedFree place) why = absurd why

-- where a number has no list, parts have lower ranks
below_end : (store : List (List ℕ)) (first : Option (ℕ × ℕ)) (number : ℕ) → ((place : ℕ) → ListAt store first number place → ⊥)
    → (kind : PartKind) (n place : ℕ) → PlacedAt store first kind n place → rank_of kind n < 123 * number + 1
below_end store first number none AList n place at =
    ⊎_elim (λ under. omega (arith, under)) (λ over. let some = fewer store first number n place over at in absurd (none some.0 some.1)) (cases_lt n number)
below_end store first number none Body n place at =
    ⊎_elim (λ under. let h : n / 122 < number = under in omega (arith, h)) (λ over. let some = fewer store first number (n / 122) at.0 over at.1 in absurd (none some.0 some.1)) (cases_lt (n / 122) number)
below_end store first number none Master n place at = absurd at
below_end store first number none Index n place at = absurd at

-- the walk is at its end
module _ (store : List (List ℕ)) (file : ℕ) (first : Option (ℕ × ℕ)) (parts : List Part) (number : ℕ) (none : (place : ℕ) → ListAt store first number place → ⊥)
    (walked : IsWalked store file first (123 * number + 1) parts) where
  pub whole_file : IsPartsOf store file first parts
  whole_file = record {
    members = λ part. (λ has. ((walked.members part).0 has).0, λ is. (walked.members part).1 (is, below_end store first number none part.kind part.number part.place is.1));
    ordered = walked.ordered;
  }

  fits : (n list : ℕ) → ListAt store first n list → n < number
  fits n list at = let low = below_end store first number none AList n list at in
      ⊎_elim (λ under. under) (λ over. let some = fewer store first number n list over at in absurd (none some.0 some.1)) (cases_lt n number)

  pub no_wild : HasNoWild store first
  no_wild = record {
    entry = walked.entry (omega arith);
    links = λ n list at. walked.links n list at (omega (arith, fits n list at));
    pairs = λ n list pair at low. walked.pairs n list pair at low (omega (arith, low, fits n list at));
  }

-- the pairs of one list
module _ (store : List (List ℕ)) (file : ℕ) (first : Option (ℕ × ℕ)) (entry number list : ℕ) (here : ListAt store first number list) (met : List Bool) (parts : List Part)
    (table : IsTable met parts) where
  pub refused_pair : (pair : ℕ) → pair < 122 → IsWalked store file first (123 * number + 1 + pair) parts
      → (fault : Fault) → IsRefusedAt met list (pair_of (unit_at store list) pair) fault → FileFaultAt store file first entry fault
  refused_pair pair low walked =
      refused store file first entry (123 * number + 1 + pair) met parts table walked Body (122 * number + pair) list (pair_of (unit_at store list) pair) (omega (arith, low))
      (λ place named. (refl, there_pair store first number list here pair low place named)) (λ is. inr (number, here, inr (pair, low, is)))

  pub refused_link : IsWalked store file first (123 * suc number) parts
      → (fault : Fault) → IsRefusedAt met list (link_of (unit_at store list)) fault → FileFaultAt store file first entry fault
  refused_link walked =
      refused store file first entry (123 * suc number) met parts table walked AList (suc number) list (link_of (unit_at store list)) refl
      (λ place named. (refl, (list, here, named))) (λ is. inr (number, here, inl is))

pub refused_entry : (store : List (List ℕ)) (file : ℕ) (first : Option (ℕ × ℕ)) (entry : ℕ) (met : List Bool) → IsTable met []
    → (fault : Fault) → IsRefusedAt met entry first fault → FileFaultAt store file first entry fault
refused_entry store file first entry met table =
    refused store file first entry 0 met [] table (unwalked store file first) AList 0 entry first (omega arith)
    (λ place named. (refl, named)) (λ is. inl (refl, is))

-- one pair more
module _ (file number holder : ℕ) (unit : List ℕ) (old_met met : List Bool) (old_parts parts : List Part) (pair : ℕ) (pointer : Option (ℕ × ℕ))
    (low : pair < 122) (is : pointer ≡ pair_of unit pair) (so_far : IsPairing file number holder unit old_met met old_parts parts pair) where
  pub pairing_on : (now : ℕ) (next_met : List Bool) (next_parts : List Part) → now ≡ file → is_wild pointer ≡ false
      → next_parts ≡ parts ++ pointed now Body (122 * number + pair) (place_named pointer) → (IsTable met parts → IsTable next_met next_parts)
      → count_by not next_met + length (pointed now Body (122 * number + pair) (place_named pointer)) ≡ count_by not met
      → IsPairing file number holder unit old_met next_met old_parts next_parts (pair + 1)
  pairing_on now next_met next_parts same tame more table unmet = record {
    table = λ old. table (so_far.table old);
    fewer = omega (arith, so_far.fewer, unmet);
    walked = λ store first at here before.
        let named : pair_of (unit_at store holder) pair ≡ pointer = ap (λ u. pair_of u pair) at ∙ sym is in
        let step = walked_pair store file first parts number holder here pair low (so_far.walked store first at here before) (ap is_wild named ∙ tame) in
        let rank_is : 123 * number + 1 + pair + 1 ≡ 123 * number + 1 + (pair + 1) = omega arith in
        let parts_is : parts ++ pointed file Body (122 * number + pair) (place_named (pair_of (unit_at store holder) pair)) ≡ next_parts =
        ap (λ p. parts ++ pointed file Body (122 * number + pair) (place_named p)) named
        ∙ ap (λ f. parts ++ pointed f Body (122 * number + pair) (place_named pointer)) (sym same) ∙ sym more in
        subst (λ ps. IsWalked store file first (123 * number + 1 + (pair + 1)) ps) parts_is
        (subst (λ r. IsWalked store file first r (parts ++ pointed file Body (122 * number + pair) (place_named (pair_of (unit_at store holder) pair)))) rank_is step);
  }

  pub pairing_refused : (store : List (List ℕ)) (first : Option (ℕ × ℕ)) (entry : ℕ) → unit_at store holder ≡ unit → ListAt store first number holder
      → IsTable old_met old_parts → IsWalked store file first (123 * number + 1) old_parts
      → (fault : Fault) → IsRefusedAt met holder pointer fault → FileFaultAt store file first entry fault
  pairing_refused store first entry at here table before fault why =
      let named : pointer ≡ pair_of (unit_at store holder) pair = is ∙ sym (ap (λ u. pair_of u pair) at) in
      refused_pair store file first entry number holder here met parts (so_far.table table) pair low (so_far.walked store first at here before) fault
      (subst (λ p. IsRefusedAt met holder p fault) named why)

pub length-pointed : (file : ℕ) (kind : PartKind) (number : ℕ) (place : Option ℕ) → length (pointed file kind number place) ≡ length (option_to_list place)
length-pointed file kind number None = refl
length-pointed file kind number (Some place) = refl

pub at_first : (store : List (List ℕ)) (file : ℕ) (first : Option (ℕ × ℕ)) (now : ℕ) (list : Option ℕ) (parts : List Part) → now ≡ file → is_wild first ≡ false → list ≡ place_named first
    → parts ≡ [] ++ pointed now AList 0 (place_named first) → IsAtList store file first list 0 parts
at_first store file first now list parts same tame named more = record {
  walked = subst (IsWalked store file first 1) (sym (more ∙ ap (λ f. pointed f AList 0 (place_named first)) same)) (walked_entry store file first [] (unwalked store file first) tame);
  here = λ place. (λ is. sym named ∙ is, λ is. named ∙ is);
}

-- a list that was read
module _ (store : List (List ℕ)) (file : ℕ) (first : Option (ℕ × ℕ)) (number place : ℕ) (old_met met : List Bool) (old_parts parts : List Part) (unit : List ℕ)
    (at : IsAtList store file first (Some place) number old_parts) (read : unit ≡ unit_at store place) (paired : IsPairing file number place unit old_met met old_parts parts 122) where
  pub list_here : ListAt store first number place
  list_here = (at.here place).0 refl

  walked_pairs : IsWalked store file first (123 * suc number) parts
  walked_pairs =
      let rank_is : 123 * number + 1 + 122 ≡ 123 * suc number = omega arith in
      subst (λ r. IsWalked store file first r parts) rank_is (paired.walked store first (sym read) list_here at.walked)

  pub at_next : (now : ℕ) (pointer : Option (ℕ × ℕ)) (list : Option ℕ) (next_parts : List Part) → now ≡ file → pointer ≡ link_of unit → is_wild pointer ≡ false
      → list ≡ place_named pointer → next_parts ≡ parts ++ pointed now AList (number + 1) (place_named pointer) → IsAtList store file first list (number + 1) next_parts
  at_next now pointer list next_parts same is tame named more =
      let link : link_of (unit_at store place) ≡ pointer = ap link_of (sym read) ∙ sym is in
      let one : suc number ≡ number + 1 = omega arith in
      let step = walked_link store file first parts number place list_here walked_pairs (ap is_wild link ∙ tame) in
      let parts_is : parts ++ pointed file AList (suc number) (place_named (link_of (unit_at store place))) ≡ next_parts =
      ap (λ p. parts ++ pointed file AList (suc number) (place_named p)) link
      ∙ ap (λ f. parts ++ pointed f AList (suc number) (place_named pointer)) (sym same)
      ∙ ap (λ n. parts ++ pointed now AList n (place_named pointer)) one ∙ sym more in
      subst (λ n. IsAtList store file first list n next_parts) one
      (record {
        walked = subst (IsWalked store file first (123 * suc number + 1)) parts_is step;
        here = λ p. (
          λ to. (place, list_here, ap place_named link ∙ sym named ∙ to),
          λ after.
              let before = one_list store first number after.0 place after.1 list_here in
              named ∙ ap place_named (sym link) ∙ subst (λ q. place_named (link_of (unit_at store q)) ≡ Some p) before after.2,
        );
      })

  pub link_refused : (entry : ℕ) → IsTable old_met old_parts → (pointer : Option (ℕ × ℕ)) → pointer ≡ link_of unit → (fault : Fault) → IsRefusedAt met place pointer fault
      → FileFaultAt store file first entry fault
  link_refused entry table pointer is fault why =
      refused_link store file first entry number place list_here met parts (paired.table table) walked_pairs fault
      (subst (λ p. IsRefusedAt met place p fault) (is ∙ ap link_of read) why)

-- the end of a walk
pub at_end : (store : List (List ℕ)) (file : ℕ) (first : Option (ℕ × ℕ)) (number : ℕ) (parts : List Part) → IsAtList store file first None number parts
    → IsPartsOf store file first parts × HasNoWild store first
at_end store file first number parts at =
    let none : (place : ℕ) → ListAt store first number place → ⊥ = λ place is. let some = (at.here place).1 is in absurd cc in
    (whole_file store file first parts number none at.walked, no_wild store file first parts number none at.walked)
