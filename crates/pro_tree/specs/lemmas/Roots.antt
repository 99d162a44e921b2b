-- What the key pointer of an entry names.
use Rattle.std.specs.Prelude.{◌≡◌, ◌<◌, ℕ, ◌==◌, if◌then◌else◌, Bool, true, false}
use Rattle.std.proofs.Common.{refl, sym, ◌∙◌, ap, arith}
use Rattle.a2_device.specs.declared.part.Part.{Part}
use Rattle.a2_device.specs.declared.part.PartKind.{PartKind}
use Rattle.a2_device.specs.declared.part.PartKind.TheVariants.{List as AList, Master, Index, Body}
use Rattle.vol_format.specs.declared.link.Link.{Link}
use Rattle.vol_format.specs.declared.link.Link.TheVariants.{Directory as ToDirectory, OtherType, To}
use Rattle.vol_format.specs.Standing.{at_place}
use Rattle.pro_tree.specs.Reach.{pro_link, pro_root, pro_depth}
use Rattle.pro_tree.specs.lemmas.ReachLaws.{pro_link-cases, pro_link-To, IsNamed}

-- the five cases of a storage type, each whatever the key pointers are
pub pro_root-cases : (P : (ℕ → Link) → Type 0) (places file storage : ℕ) → ((kind : PartKind) → P (λ key. pro_link places file kind 0 key))
    → P (λ key. ToDirectory) → P (λ key. OtherType) → P (λ key. pro_root places file storage key)
pro_root-cases P places file storage link directory other = by_tests (storage == 1) (storage == 2) (storage == 3) (storage == 13)
  where
    by_tests : (seedling sapling big subdirectory : Bool)
        → P (λ key. if seedling then pro_link places file Body 0 key
        else (if sapling then pro_link places file Index 0 key
        else (if big then pro_link places file Master 0 key
        else (if subdirectory then ToDirectory else OtherType))))
    by_tests true sapling big subdirectory = link Body
    by_tests false true big subdirectory = link Index
    by_tests false false true subdirectory = link Master
    by_tests false false false true = directory
    by_tests false false false false = other

-- a part that a key pointer names is the first of its kind in its file, and stands where the key pointer says
pub record IsFirst (places file key : ℕ) (part : Part) : Type 0 where
  pub kind : PartKind
  pub named : IsNamed places file kind 0 key part

pub pro_root-To : (places file storage key : ℕ) (part : Part) → pro_root places file storage key ≡ To part → IsFirst places file key part
pro_root-To places file storage key part = pro_root-cases (λ root. root key ≡ To part → IsFirst places file key part) places file storage
    (λ kind is. record { kind = kind; named = pro_link-To places file kind 0 key part is })
    (λ is. absurd (cc)) (λ is. absurd (cc))

pub pro_root_place : (places file storage key : ℕ) (part : Part) → pro_root places file storage key ≡ To part → part.place < places
pro_root_place places file storage key part is =
    let first = pro_root-To places file storage key part is in
    omega (arith, first.named.same_place, first.named.in_range)

pub pro_root_file : (places file storage key : ℕ) (part : Part) → pro_root places file storage key ≡ To part → part.file ≡ file
pro_root_file places file storage key part is = (pro_root-To places file storage key part is).named.same_file

pub pro_root_depth : (places file storage key : ℕ) (part : Part) → pro_root places file storage key ≡ To part → pro_depth part.kind part.number ≡ 0
pro_root_depth places file storage key part is =
    let first = pro_root-To places file storage key part is in
    ap (pro_depth part.kind) first.named.same_number ∙ of_first part.kind
  where
    of_first : (kind : PartKind) → pro_depth kind 0 ≡ 0
    of_first Master = refl
    of_first Index = refl
    of_first AList = refl
    of_first Body = refl

-- a part at another place of the volume
pub link-moved : (places file : ℕ) (kind : PartKind) (number place : ℕ) (part : Part) → (0 < place) × (place < places)
    → part.file ≡ file → part.kind ≡ kind → part.number ≡ number → pro_link places file kind number place ≡ To (at_place part place)
link-moved places file kind number place part named file_is kind_is number_is =
    pro_link-cases (λ link. link ≡ To (at_place part place)) places file kind number place
    (λ null. absurd (omega (arith, null, named.0)))
    (λ some inside. same)
    (λ wild. absurd (omega (arith, wild, named.1)))
  where
    same : To (record { file = file; kind = kind; number = number; place = place }) ≡ To (at_place part place)
    same =
        ap (λ f. To (record { file = f; kind = kind; number = number; place = place })) (sym file_is)
        ∙ ap (λ k. To (record { file = part.file; kind = k; number = number; place = place })) (sym kind_is)
        ∙ ap (λ n. To (record { file = part.file; kind = part.kind; number = n; place = place })) (sym number_is)

-- a key pointer that is set names the part at its new place
pub root-here : (places file storage key place : ℕ) (part : Part) → (0 < place) × (place < places) → pro_root places file storage key ≡ To part
    → pro_root places file storage place ≡ To (at_place part place)
root-here places file storage key place part named =
    pro_root-cases (λ root. root key ≡ To part → root place ≡ To (at_place part place)) places file storage
    (λ kind is. let was = pro_link-To places file kind 0 key part is in
    link-moved places file kind 0 place part named was.same_file was.same_kind was.same_number)
    (λ is. absurd (cc)) (λ is. absurd (cc))
