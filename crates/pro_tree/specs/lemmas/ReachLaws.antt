-- The laws of ProDOS files that reading asks for.
use Rattle.std.specs.Prelude.{◌≡◌, ◌<◌, ◌≤◌, ◌⊎◌, ℕ, ◌+◌, ◌*◌, ◌==◌, nat_lt, if◌then◌else◌, Bool, true, false, List}
use Rattle.std.proofs.Common.{refl, sym, ap, arith, subst, inl, inr, ⊎_elim}
use Rattle.std.proofs.lemmas.Bool.Decides.{nat_tests}
use Rattle.a2_device.specs.declared.part.Part.{Part}
use Rattle.a2_device.specs.declared.part.PartKind.{PartKind}
use Rattle.a2_device.specs.declared.part.PartKind.TheVariants.{List as AList, Master, Index, Body}
use Rattle.vol_format.specs.declared.link.Link.{Link}
use Rattle.vol_format.specs.declared.link.Link.TheVariants.{Null, Wild, Directory as ToDirectory, OtherType, To}
use Rattle.pro_tree.specs.Pointers.{pointer_of}
use Rattle.pro_tree.specs.Reach.{pro_link, link_below, pro_child, pro_pointers, pro_rank, last_rank, pro_ends, pro_depth}

-- the three cases of a block number
pub pro_link-cases : (P : Link → Type 0) (places file : ℕ) (kind : PartKind) (number block : ℕ)
    → (block ≡ 0 → P Null) → (0 < block → block < places → P (To (record { file = file; kind = kind; number = number; place = block })))
    → (places ≤ block → P Wild) → P (pro_link places file kind number block)
pro_link-cases P places file kind number block null named wild = by_tests (block == 0) (nat_lt block places) refl refl
  where
    by_tests : (none inside : Bool) → (block == 0) ≡ none → nat_lt block places ≡ inside
        → P (if none then Null else (if inside then To (record { file = file; kind = kind; number = number; place = block }) else Wild))
    by_tests true inside none_is inside_is = null (grind (arith, nat_tests))
    by_tests false true none_is inside_is = named (grind (arith, nat_tests)) (grind (arith, nat_tests))
    by_tests false false none_is inside_is = wild (grind (arith, nat_tests))

-- what is named where a block number names a part
pub record IsNamed (places file : ℕ) (kind : PartKind) (number block : ℕ) (part : Part) : Type 0 where
  pub same_file : part.file ≡ file
  pub same_kind : part.kind ≡ kind
  pub same_number : part.number ≡ number
  pub same_place : part.place ≡ block
  pub some : 0 < block
  pub in_range : block < places

pub pro_link-To : (places file : ℕ) (kind : PartKind) (number block : ℕ) (part : Part) → pro_link places file kind number block ≡ To part
    → IsNamed places file kind number block part
pro_link-To places file kind number block part = pro_link-cases (λ link. link ≡ To part → IsNamed places file kind number block part) places file kind number block
    (λ null is. absurd (cc))
    (λ some inside is. named some inside (cc))
    (λ wild is. absurd (cc))
  where
    named : 0 < block → block < places → record { file = file; kind = kind; number = number; place = block } ≡ part → IsNamed places file kind number block part
    named some inside same = record {
      same_file = sym (ap (λ (p : Part). p.file) same);
      same_kind = sym (ap (λ (p : Part). p.kind) same);
      same_number = sym (ap (λ (p : Part). p.number) same);
      same_place = sym (ap (λ (p : Part). p.place) same);
      some = some;
      in_range = inside;
    }

-- the two cases of a pointer's number
pub link_below-cases : (P : Link → Type 0) (width : ℕ) (kind : PartKind) (places file number : ℕ) (unit : List ℕ) (i : ℕ)
    → (i < width → P (pro_link places file kind (width * number + i) (pointer_of unit i))) → (width ≤ i → P Null)
    → P (link_below width kind places file number unit i)
link_below-cases P width kind places file number unit i within past = by_test (nat_lt i width) refl
  where
    by_test : (below : Bool) → nat_lt i width ≡ below → P (if below then pro_link places file kind (width * number + i) (pointer_of unit i) else Null)
    by_test true is = within (grind (arith, nat_tests))
    by_test false is = past (grind (arith, nat_tests))

-- what pointer i of an index or a master index names
pub record IsBelow (width : ℕ) (kind : PartKind) (places file number i : ℕ) (part : Part) : Type 0 where
  pub pointer : i < width
  pub same_file : part.file ≡ file
  pub same_kind : part.kind ≡ kind
  pub same_number : part.number ≡ width * number + i
  pub in_range : part.place < places

pub link_below-To : (width : ℕ) (kind : PartKind) (places file number : ℕ) (unit : List ℕ) (i : ℕ) (part : Part)
    → link_below width kind places file number unit i ≡ To part → IsBelow width kind places file number i part
link_below-To width kind places file number unit i part =
    link_below-cases (λ link. link ≡ To part → IsBelow width kind places file number i part) width kind places file number unit i
    (λ within is. let named = pro_link-To places file kind (width * number + i) (pointer_of unit i) part is in
    record {
      pointer = within;
      same_file = named.same_file;
      same_kind = named.same_kind;
      same_number = named.same_number;
      in_range = omega (arith, named.same_place, named.in_range);
    })
    (λ past is. absurd (cc))

-- an index below a master index, or a unit of the body below an index
abbrev pub IsChildOf : ℕ → PartKind → ℕ → ℕ → ℕ → Part → Type 0
IsChildOf places kind file number i part =
    ((kind ≡ Master) × IsBelow 128 Index places file number i part) ⊎ ((kind ≡ Index) × IsBelow 256 Body places file number i part)

pub pro_child-To : (places : ℕ) (kind : PartKind) (file number : ℕ) (unit : List ℕ) (i : ℕ) (part : Part) → pro_child places kind file number unit i ≡ To part
    → IsChildOf places kind file number i part
pro_child-To places Master file number unit i part is = inl (refl, link_below-To 128 Index places file number unit i part is)
pro_child-To places Index file number unit i part is = inr (refl, link_below-To 256 Body places file number unit i part is)
pro_child-To places AList file number unit i part is = absurd (cc)
pro_child-To places Body file number unit i part is = absurd (cc)

-- what is true of a part and what its block names, from the two cases
pub child_cases : (P : PartKind → ℕ → PartKind → ℕ → Type 0) (places : ℕ) (kind : PartKind) (file number i : ℕ) (part : Part) → IsChildOf places kind file number i part
    → (i < 128 → P Master number Index (128 * number + i)) → (i < 256 → P Index number Body (256 * number + i)) → P kind number part.kind part.number
child_cases P places kind file number i part at master index =
    ⊎_elim
    (λ below. both Master Index (128 * number + i) below.0 below.1.same_kind below.1.same_number (master below.1.pointer))
    (λ below. both Index Body (256 * number + i) below.0 below.1.same_kind below.1.same_number (index below.1.pointer))
    at
  where
    both : (above named : PartKind) (count : ℕ) → kind ≡ above → part.kind ≡ named → part.number ≡ count → P above number named count → P kind number part.kind part.number
    both above named count above_is named_is count_is holds =
        subst (λ k. P k number part.kind part.number) (sym above_is)
        (subst (λ k. P above number k part.number) (sym named_is) (subst (P above number named) (sym count_is) holds))

-- What a pointer names is of the same file, at a place, and at most as deep as its part and one more.
pub pro_child_place : (places : ℕ) (part child : Part) (unit : List ℕ) (i : ℕ) → pro_child places part.kind part.file part.number unit i ≡ To child → child.place < places
pro_child_place places part child unit i is =
    ⊎_elim (λ below. below.1.in_range) (λ below. below.1.in_range) (pro_child-To places part.kind part.file part.number unit i child is)

pub pro_child_file : (places : ℕ) (part child : Part) (unit : List ℕ) (i : ℕ) → pro_child places part.kind part.file part.number unit i ≡ To child → child.file ≡ part.file
pro_child_file places part child unit i is =
    ⊎_elim (λ below. below.1.same_file) (λ below. below.1.same_file) (pro_child-To places part.kind part.file part.number unit i child is)

pub pro_child_depth : (places : ℕ) (part child : Part) (unit : List ℕ) (i : ℕ) → pro_child places part.kind part.file part.number unit i ≡ To child
    → pro_depth child.kind child.number ≤ pro_depth part.kind part.number + 1
pro_child_depth places part child unit i is =
    child_cases (λ kind number below count. pro_depth below count ≤ pro_depth kind number + 1) places part.kind part.file part.number i child
    (pro_child-To places part.kind part.file part.number unit i child is) (λ within. omega (arith, within)) (λ within. omega arith)

-- It comes later than the part, and ends before all that a later pointer names.
pub pro_child_later : (places : ℕ) (part child : Part) (unit : List ℕ) (i : ℕ) → pro_child places part.kind part.file part.number unit i ≡ To child
    → pro_rank part.kind part.number < pro_rank child.kind child.number
pro_child_later places part child unit i is =
    child_cases (λ kind number below count. pro_rank kind number < pro_rank below count) places part.kind part.file part.number i child
    (pro_child-To places part.kind part.file part.number unit i child is) (λ within. omega arith) (λ within. omega (arith, within))

pub pro_child_inside : (places : ℕ) (part child : Part) (unit : List ℕ) (i r : ℕ) → pro_child places part.kind part.file part.number unit i ≡ To child
    → pro_ends part.kind part.number r → pro_ends child.kind child.number r
pro_child_inside places part child unit i r is =
    child_cases (λ kind number below count. pro_ends kind number r → pro_ends below count r) places part.kind part.file part.number i child
    (pro_child-To places part.kind part.file part.number unit i child is) (λ within ends. omega (arith, within, ends)) (λ within ends. omega (arith, within, ends))

pub pro_children_apart : (places : ℕ) (part child later : Part) (unit : List ℕ) (i j : ℕ) → i < j
    → pro_child places part.kind part.file part.number unit i ≡ To child → pro_child places part.kind part.file part.number unit j ≡ To later
    → pro_ends child.kind child.number (pro_rank later.kind later.number)
pro_children_apart places part child later unit i j less is later_is =
    child_cases (λ kind number below count. IsChildOf places kind part.file number j later → pro_ends below count (pro_rank later.kind later.number))
    places part.kind part.file part.number i child (pro_child-To places part.kind part.file part.number unit i child is)
    (λ within at. child_cases (λ kind number below count. kind ≡ Master → number ≡ part.number → last_rank Index (128 * part.number + i) < pro_rank below count)
    places Master part.file part.number j later at (λ inside kind_is same. omega (arith, less)) (λ inside kind_is same. absurd (cc)) refl refl)
    (λ within at. child_cases (λ kind number below count. kind ≡ Index → number ≡ part.number → last_rank Body (256 * part.number + i) < pro_rank below count)
    places Index part.file part.number j later at (λ inside kind_is same. absurd (cc)) (λ inside kind_is same. omega (arith, less, within, inside)) refl refl)
    (pro_child-To places part.kind part.file part.number unit j later later_is)

-- Pointers are few, and past the last of them is nothing.
pub pro_no_more : (places : ℕ) (kind : PartKind) (file number : ℕ) (unit : List ℕ) (i : ℕ) → pro_pointers kind ≤ i → pro_child places kind file number unit i ≡ Null
pro_no_more places Master file number unit i past =
    link_below-cases (λ link. link ≡ Null) 128 Index places file number unit i (λ within. absurd (omega (arith, past, within))) (λ none. refl)
pro_no_more places Index file number unit i past =
    link_below-cases (λ link. link ≡ Null) 256 Body places file number unit i (λ within. absurd (omega (arith, past, within))) (λ none. refl)
pro_no_more places AList file number unit i past = refl
pro_no_more places Body file number unit i past = refl

pub pro_few_pointers : (kind : PartKind) → pro_pointers kind ≤ 256
pro_few_pointers Master = omega arith
pro_few_pointers Index = omega arith
pro_few_pointers AList = omega arith
pro_few_pointers Body = omega arith

-- a pointer names a part, nothing or no block
pub pro_child-cases : (P : Link → Type 0) (places : ℕ) (kind : PartKind) (file number : ℕ) (unit : List ℕ) (i : ℕ)
    → P Null → P Wild → ((part : Part) → P (To part)) → P (pro_child places kind file number unit i)
pro_child-cases P places Master file number unit i null wild to =
    link_below-cases P 128 Index places file number unit i
    (λ within. pro_link-cases P places file Index (128 * number + i) (pointer_of unit i) (λ _. null) (λ _ _. to _) (λ _. wild)) (λ past. null)
pro_child-cases P places Index file number unit i null wild to =
    link_below-cases P 256 Body places file number unit i
    (λ within. pro_link-cases P places file Body (256 * number + i) (pointer_of unit i) (λ _. null) (λ _ _. to _) (λ _. wild)) (λ past. null)
pro_child-cases P places AList file number unit i null wild to = null
pro_child-cases P places Body file number unit i null wild to = null

pub pro_child_type : (places : ℕ) (kind : PartKind) (file number : ℕ) (unit : List ℕ) (i : ℕ) → pro_child places kind file number unit i ≡ OtherType → ⊥
pro_child_type places kind file number unit i =
    pro_child-cases (λ link. link ≡ OtherType → ⊥) places kind file number unit i (λ is. cc) (λ is. cc) (λ part is. cc)

pub pro_child_no_directory : (places : ℕ) (kind : PartKind) (file number : ℕ) (unit : List ℕ) (i : ℕ) → pro_child places kind file number unit i ≡ ToDirectory → ⊥
pro_child_no_directory places kind file number unit i =
    pro_child-cases (λ link. link ≡ ToDirectory → ⊥) places kind file number unit i (λ is. cc) (λ is. cc) (λ part is. cc)

-- A part ends behind itself, and units of the body come in the order of their numbers.
pub pro_ends_after : (kind : PartKind) (number r : ℕ) → pro_ends kind number r → pro_rank kind number < r
pro_ends_after Master number r ends = omega (arith, ends)
pro_ends_after Index number r ends = omega (arith, ends)
pro_ends_after AList number r ends = ends
pro_ends_after Body number r ends = ends

pub pro_body_order : (part later : Part) → part.kind ≡ Body → later.kind ≡ Body → pro_rank part.kind part.number < pro_rank later.kind later.number
    → part.number < later.number
pro_body_order part later body later_body less = in_order part.number later.number
    (subst (λ k. pro_rank Body part.number < pro_rank k later.number) later_body (subst (λ k. pro_rank k part.number < pro_rank later.kind later.number) body less))
  where
    in_order : (number later : ℕ) → pro_rank Body number < pro_rank Body later → number < later
    in_order number later less = omega (arith, less)
