-- The laws of DOS 3.3 that reading asks for.
use Rattle.std.specs.Prelude.{◌≡◌, ◌<◌, ◌≤◌, ℕ, ◌+◌, ◌*◌, ◌==◌, nat_lt, ◌||◌, ◌⊎◌, if◌then◌else◌, Bool, true, false, List, Option, Some, None}
use Rattle.std.proofs.Common.{refl, sym, ◌∙◌, ap, arith, subst, inl, inr, ⊎_elim}
use Rattle.std.proofs.lemmas.Bool.Decides.{nat_tests}
use Rattle.a2_device.specs.Device.{unit_at}
use Rattle.a2_device.specs.declared.part.Part.{Part}
use Rattle.a2_device.specs.declared.part.PartKind.{PartKind}
use Rattle.a2_device.specs.declared.part.PartKind.TheVariants.{List as AList, Master, Index, Body}
use Rattle.a2_device.specs.declared.fault.Fault.{Fault}
use Rattle.a2_device.specs.declared.fault.Fault.TheVariants.{Geometry, CatalogLink, DirLink, MapPointer, StorageType, OutOfRange, InSystem, Shared, MarkedFree}
use Rattle.dos_vtoc.specs.Vtoc.{link_of}
use Rattle.dos_catalog.specs.Entry.{entries_in}
use Rattle.dos_catalog.specs.Catalog.{IsCatalog, CatalogFaultAt}
use Rattle.dos_catalog.specs.lemmas.Chain.{one_catalog, no_catalog}
use Rattle.dos_tslist.specs.Pointers.{pair_of}
use Rattle.dos_tslist.specs.Reach.{rank_of}
use Rattle.vol_format.specs.declared.link.Link.{Link}
use Rattle.vol_format.specs.declared.link.Link.TheVariants.{Null, Wild, OtherType, To, Directory as ToDirectory}
use Rattle.vol_format.specs.Directory.{Directory}
use Rattle.vol_format.specs.Laws.{IsReadable}
use Rattle.dos_format.specs.Dos.{link_to, list_link, dos_child, dos_pointers, dos_ends, dos_depth, dos_directory, dos_meaning}

-- what is named where a pointer names a place
pub record IsNamed (file : ℕ) (kind : PartKind) (number : ℕ) (part : Part) : Type 0 where
  pub same_file : part.file ≡ file
  pub same_kind : part.kind ≡ kind
  pub same_number : part.number ≡ number
  pub in_range : part.place < 560

-- only the last of the two cases names a place
last_case : (wild : Bool) (named part : Part) → (if wild then Wild else To named) ≡ To part → (wild ≡ false) × (named ≡ part)
last_case true named part is = absurd (cc)
last_case false named part is = (refl, cc)

not_wild : (track sector : ℕ) → (nat_lt 34 track || nat_lt 15 sector) ≡ false → 16 * track + sector < 560
not_wild track sector h = grind (arith, nat_tests)

pub link_to-To : (file : ℕ) (kind : PartKind) (number : ℕ) (pointer : Option (ℕ × ℕ)) (part : Part) → link_to file kind number pointer ≡ To part → IsNamed file kind number part
link_to-To file kind number None part is = absurd (cc)
link_to-To file kind number (Some pointer) part is =
    let h : ((nat_lt 34 pointer.0 || nat_lt 15 pointer.1) ≡ false) × (record { file = file; kind = kind; number = number; place = 16 * pointer.0 + pointer.1 } ≡ part) = last_case _ _ _ is in
    let small : 16 * pointer.0 + pointer.1 < 560 = not_wild pointer.0 pointer.1 h.0 in
    record {
      same_file = sym (ap (λ (p : Part). p.file) h.1);
      same_kind = sym (ap (λ (p : Part). p.kind) h.1);
      same_number = sym (ap (λ (p : Part). p.number) h.1);
      in_range = subst (λ (p : Part). p.place < 560) h.1 small;
    }

two_cases_other : (wild : Bool) (named : Part) → (if wild then Wild else To named) ≡ OtherType → ⊥
two_cases_other true named is = cc
two_cases_other false named is = cc

two_cases_directory : (wild : Bool) (named : Part) → (if wild then Wild else To named) ≡ ToDirectory → ⊥
two_cases_directory true named is = cc
two_cases_directory false named is = cc

pub link_to-other : (file : ℕ) (kind : PartKind) (number : ℕ) (pointer : Option (ℕ × ℕ)) → link_to file kind number pointer ≡ OtherType → ⊥
link_to-other file kind number None is = cc
link_to-other file kind number (Some pointer) is = two_cases_other _ _ is

pub link_to-directory : (file : ℕ) (kind : PartKind) (number : ℕ) (pointer : Option (ℕ × ℕ)) → link_to file kind number pointer ≡ ToDirectory → ⊥
link_to-directory file kind number None is = cc
link_to-directory file kind number (Some pointer) is = two_cases_directory _ _ is

-- what a pointer of a list names: a unit of the body, or the next list
pub record IsBodyAt (number i : ℕ) (part : Part) : Type 0 where
  pub pair : i < 122
  pub kind : part.kind ≡ Body
  pub body : part.number ≡ 122 * number + i

pub record IsNextList (number i : ℕ) (part : Part) : Type 0 where
  pub last : i ≡ 122
  pub kind : part.kind ≡ AList
  pub list : part.number ≡ number + 1

pub record IsPointedTo (file number i : ℕ) (part : Part) : Type 0 where
  pub same_file : part.file ≡ file
  pub in_range : part.place < 560
  pub which : IsBodyAt number i part ⊎ IsNextList number i part

-- the three cases of a pointer's number
pub list_link_cases : (P : Link → Type 0) (file number : ℕ) (unit : List ℕ) (i : ℕ)
    → (i < 122 → P (link_to file Body (122 * number + i) (pair_of unit i)))
    → (i ≡ 122 → P (link_to file AList (number + 1) (link_of unit)))
    → (122 < i → P Null) → P (list_link file number unit i)
list_link_cases P file number unit i pair last past = by_tests (nat_lt i 122) (i == 122) refl refl
  where
    by_tests : (below at : Bool) → nat_lt i 122 ≡ below → (i == 122) ≡ at
        → P (if below then link_to file Body (122 * number + i) (pair_of unit i) else (if at then link_to file AList (number + 1) (link_of unit) else Null))
    by_tests true at below_is at_is = pair (grind (arith, nat_tests))
    by_tests false true below_is at_is = last (grind (arith, nat_tests))
    by_tests false false below_is at_is = past (grind (arith, nat_tests))

list_link-To : (file number : ℕ) (unit : List ℕ) (i : ℕ) (part : Part) → list_link file number unit i ≡ To part → IsPointedTo file number i part
list_link-To file number unit i part = list_link_cases (λ link. link ≡ To part → IsPointedTo file number i part) file number unit i
    (λ pair is. let named = link_to-To file Body (122 * number + i) (pair_of unit i) part is in
    record { same_file = named.same_file; in_range = named.in_range; which = inl (record { pair = pair; kind = named.same_kind; body = named.same_number }) })
    (λ last is. let named = link_to-To file AList (number + 1) (link_of unit) part is in
    record { same_file = named.same_file; in_range = named.in_range; which = inr (record { last = last; kind = named.same_kind; list = named.same_number }) })
    (λ past is. absurd (cc))

pub dos_child-To : (kind : PartKind) (file number : ℕ) (unit : List ℕ) (i : ℕ) (part : Part) → dos_child kind file number unit i ≡ To part
    → (kind ≡ AList) × IsPointedTo file number i part
dos_child-To AList file number unit i part is = (refl, list_link-To file number unit i part is)
dos_child-To Master file number unit i part is = absurd (cc)
dos_child-To Index file number unit i part is = absurd (cc)
dos_child-To Body file number unit i part is = absurd (cc)

other_type : (kind : PartKind) (file number : ℕ) (unit : List ℕ) (i : ℕ) → dos_child kind file number unit i ≡ OtherType → ⊥
other_type AList file number unit i is = list_link_cases (λ link. link ≡ OtherType → ⊥) file number unit i
    (λ pair is. link_to-other file Body (122 * number + i) (pair_of unit i) is) (λ last is. link_to-other file AList (number + 1) (link_of unit) is) (λ past is. cc) is
other_type Master file number unit i is = cc
other_type Index file number unit i is = cc
other_type Body file number unit i is = cc

no_directory : (kind : PartKind) (file number : ℕ) (unit : List ℕ) (i : ℕ) → dos_child kind file number unit i ≡ ToDirectory → ⊥
no_directory AList file number unit i is = list_link_cases (λ link. link ≡ ToDirectory → ⊥) file number unit i
    (λ pair is. link_to-directory file Body (122 * number + i) (pair_of unit i) is) (λ last is. link_to-directory file AList (number + 1) (link_of unit) is) (λ past is. cc) is
no_directory Master file number unit i is = cc
no_directory Index file number unit i is = cc
no_directory Body file number unit i is = cc

-- what is true of what a list points to, from its two cases
pub pointed_cases : (P : PartKind → ℕ → Type 0) (file list i : ℕ) (part : Part) → IsPointedTo file list i part
    → (i < 122 → P Body (122 * list + i)) → (i ≡ 122 → P AList (list + 1)) → P part.kind part.number
pointed_cases P file list i part at body next =
    ⊎_elim
    (λ pair. subst (λ k. P k part.number) (sym pair.kind) (subst (P Body) (sym pair.body) (body pair.pair)))
    (λ last. subst (λ k. P k part.number) (sym last.kind) (subst (P AList) (sym last.list) (next last.last)))
    at.which

-- the rank of what a list points to
pub rank_at : (file list i : ℕ) (part : Part) → IsPointedTo file list i part → rank_of part.kind part.number ≡ 123 * list + i + 1
rank_at file list i part at =
    pointed_cases (λ kind number. rank_of kind number ≡ 123 * list + i + 1) file list i part at
    (λ pair. omega arith) (λ last. omega arith)

ends_at : (file list i r : ℕ) (part : Part) → IsPointedTo file list i part → i < 122 → 123 * list + i + 1 < r → dos_ends part.kind part.number r
ends_at file list i r part at below h =
    pointed_cases (λ kind number. dos_ends kind number r) file list i part at
    (λ pair. omega arith) (λ last. absurd (omega arith))

depth_at : (file list i : ℕ) (part : Part) → IsPointedTo file list i part → dos_depth part.kind part.number ≤ list + 1
depth_at file list i part at =
    pointed_cases (λ kind number. dos_depth kind number ≤ list + 1) file list i part at
    (λ pair. omega arith) (λ last. omega arith)

no_pointer : (kind : PartKind) (file number : ℕ) (unit : List ℕ) (i : ℕ) → dos_pointers kind ≤ i → dos_child kind file number unit i ≡ Null
no_pointer AList file number unit i h = list_link_cases (λ link. link ≡ Null) file number unit i
    (λ pair. absurd (omega (arith, h, pair))) (λ last. absurd (omega (arith, h, last))) (λ past. refl)
no_pointer Master file number unit i h = refl
no_pointer Index file number unit i h = refl
no_pointer Body file number unit i h = refl

few_pointers : (kind : PartKind) → dos_pointers kind ≤ 256
few_pointers AList = omega arith
few_pointers Master = omega arith
few_pointers Index = omega arith
few_pointers Body = omega arith

ends_after : (kind : PartKind) (number r : ℕ) → dos_ends kind number r → rank_of kind number < r
ends_after AList number r h = absurd h
ends_after Master number r h = h
ends_after Index number r h = h
ends_after Body number r h = h

in_order : (number later : ℕ) → rank_of Body number < rank_of Body later → number < later
in_order number later h = omega arith

pub dos_is_readable : (data_disk : Bool) (reserved : List Bool) → IsReadable (dos_meaning data_disk reserved)
dos_is_readable data_disk reserved = record {
  child_place = λ places part child unit i takes is.
      let to = dos_child-To part.kind part.file part.number unit i child is in
      omega (arith, takes, to.1.in_range);
  child_file = λ places part child unit i is. (dos_child-To part.kind part.file part.number unit i child is).1.same_file;
  child_depth = λ places part child unit i is.
      let to = dos_child-To part.kind part.file part.number unit i child is in
      subst (λ k. dos_depth child.kind child.number ≤ dos_depth k part.number + 1) (sym to.0) (depth_at part.file part.number i child to.1);
  child_later = λ places part child unit i is.
      let to = dos_child-To part.kind part.file part.number unit i child is in
      let rank = rank_at part.file part.number i child to.1 in
      subst (λ k. rank_of k part.number < rank_of child.kind child.number) (sym to.0) (omega (arith, rank));
  child_inside = λ places part child unit i r is ends.
      let to = dos_child-To part.kind part.file part.number unit i child is in
      absurd (subst (λ k. dos_ends k part.number r) to.0 ends);
  children_apart = λ places part child later unit i j less is later_is.
      let to = dos_child-To part.kind part.file part.number unit i child is in
      let after = dos_child-To part.kind part.file part.number unit j later later_is in
      let rank = rank_at part.file part.number i child to.1 in
      let later_rank = rank_at part.file part.number j later after.1 in
      ends_at part.file part.number i (rank_of later.kind later.number) child to.1
      (at_most_last j less after.1) (omega (arith, rank, later_rank));
  no_more = λ places part unit i h. no_pointer part.kind part.file part.number unit i h;
  few_pointers = λ part. few_pointers part.kind;
  few_places = λ places takes. omega arith;
  child_type = λ places part unit i. other_type part.kind part.file part.number unit i;
  child_no_directory = λ places part unit i. no_directory part.kind part.file part.number unit i;
  ends = λ part r h. ends_after part.kind part.number r h;
  body_order = λ part later body later_body less.
      in_order part.number later.number (subst (λ k. rank_of Body part.number < rank_of k later.number) later_body
      (subst (λ k. rank_of k part.number < rank_of later.kind later.number) body less));
  header_fault = λ store directory fault h described.
      ⊎_elim (λ geometry. geometry.1 described.geometry) (λ chain. no_catalog_with fault described.sectors chain.1 described.catalog) h;
  one_directory = λ store directory other described described'.
      described.says
      ∙ ap (λ sectors. dos_directory data_disk reserved (unit_at store 272) (entries_in store sectors)) (sym (one_catalog store described.sectors described'.sectors described.catalog described'.catalog))
      ∙ sym described'.says;
  all_places = λ store directory described. ap (λ (d : Directory). d.places) described.says ∙ sym described.size;
}
  where
    at_most_last : {file list i : ℕ} {part : Part} (j : ℕ) → i < j → IsPointedTo file list j part → i < 122
    at_most_last j less at = ⊎_elim (λ pair. omega (arith, pair.pair)) (λ next. omega (arith, next.last)) at.which

    no_catalog_with : {store : List (List ℕ)} (fault : Fault) (sectors : List ℕ) → CatalogFaultAt store fault → IsCatalog store sectors → ⊥
    no_catalog_with (CatalogLink holder) sectors at catalog = no_catalog _ holder sectors at catalog
    no_catalog_with (Geometry place) sectors at catalog = at
    no_catalog_with (DirLink place) sectors at catalog = at
    no_catalog_with (MapPointer place) sectors at catalog = at
    no_catalog_with (StorageType place) sectors at catalog = at
    no_catalog_with (OutOfRange place) sectors at catalog = at
    no_catalog_with (InSystem place) sectors at catalog = at
    no_catalog_with (Shared place) sectors at catalog = at
    no_catalog_with (MarkedFree place) sectors at catalog = at
