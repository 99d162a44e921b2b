-- The parts that pointers lead to from a key pointer are those that the file has by its storage type.
use Rattle.std.specs.Prelude.{◌≡◌, ◌⊎◌, ◌<◌, ℕ, ◌+◌, ◌*◌, ◌/◌, ◌%◌, ◌==◌, if◌then◌else◌, Bool, true, false, List, length}
use Rattle.std.proofs.Common.{refl, sym, ◌∙◌, ap, arith, subst, inl, inr}
use Rattle.std.proofs.lemmas.Bool.Decides.{nat_tests}
use Rattle.a2_device.specs.Device.{unit_at}
use Rattle.a2_device.specs.declared.part.Part.{Part}
use Rattle.a2_device.specs.declared.part.PartKind.{PartKind}
use Rattle.a2_device.specs.declared.part.PartKind.TheVariants.{List as AList, Master, Index, Body}
use Rattle.vol_format.specs.declared.link.Link.TheVariants.{Directory as ToDirectory, OtherType, To}
use Rattle.pro_tree.specs.Pointers.{pointer_of}
use Rattle.pro_tree.specs.Reach.{pro_link, pro_root, link_below, pro_child}
use Rattle.pro_tree.specs.lemmas.ReachLaws.{pro_link-cases, pro_link-To, IsNamed, link_below-cases}
use Rattle.pro_tree.specs.File.{Names, MasterAt, IndexAt, BodyAt, PlacedAt, InFile, at_key, at_pointer}

abbrev part_of : ℕ → PartKind → ℕ → ℕ → Part
part_of file kind number place = record { file = file; kind = kind; number = number; place = place }

-- which part the key pointer of a storage type names
abbrev pub IsKeyPart : ℕ → ℕ → ℕ → ℕ → Part → Type 0
IsKeyPart places file storage key part =
    ((storage ≡ 1) × IsNamed places file Body 0 key part)
    ⊎ ((storage ≡ 2) × IsNamed places file Index 0 key part)
    ⊎ ((storage ≡ 3) × IsNamed places file Master 0 key part)

pub key_part : (places file storage key : ℕ) (part : Part) → pro_root places file storage key ≡ To part → IsKeyPart places file storage key part
key_part places file storage key part is = by_tests (storage == 1) (storage == 2) (storage == 3) (storage == 13) refl refl refl is
  where
    by_tests : (seedling sapling big subdirectory : Bool) → (storage == 1) ≡ seedling → (storage == 2) ≡ sapling → (storage == 3) ≡ big
        → (if seedling then pro_link places file Body 0 key
        else (if sapling then pro_link places file Index 0 key
        else (if big then pro_link places file Master 0 key
        else (if subdirectory then ToDirectory else OtherType)))) ≡ To part
        → IsKeyPart places file storage key part
    by_tests true sapling big subdirectory one two three is' = inl (grind (arith, nat_tests), pro_link-To places file Body 0 key part is')
    by_tests false true big subdirectory one two three is' = inr (inl (grind (arith, nat_tests), pro_link-To places file Index 0 key part is'))
    by_tests false false true subdirectory one two three is' = inr (inr (grind (arith, nat_tests), pro_link-To places file Master 0 key part is'))
    by_tests false false false true one two three is' = absurd (cc)
    by_tests false false false false one two three is' = absurd (cc)

-- which part a pointer of an index or a master index names
abbrev IsPointerPart : ℕ → PartKind → ℕ → ℕ → List ℕ → ℕ → Part → Type 0
IsPointerPart places kind file number unit i part =
    ((kind ≡ Master) × (i < 128) × IsNamed places file Index (128 * number + i) (pointer_of unit i) part)
    ⊎ ((kind ≡ Index) × (i < 256) × IsNamed places file Body (256 * number + i) (pointer_of unit i) part)

below_part : (width : ℕ) (kind : PartKind) (places file number : ℕ) (unit : List ℕ) (i : ℕ) (part : Part) → link_below width kind places file number unit i ≡ To part
    → (i < width) × IsNamed places file kind (width * number + i) (pointer_of unit i) part
below_part width kind places file number unit i part =
    link_below-cases (λ link. link ≡ To part → (i < width) × IsNamed places file kind (width * number + i) (pointer_of unit i) part) width kind places file number unit i
    (λ within is. (within, pro_link-To places file kind (width * number + i) (pointer_of unit i) part is)) (λ past is. absurd (cc))

pointer_part : (places : ℕ) (kind : PartKind) (file number : ℕ) (unit : List ℕ) (i : ℕ) (part : Part) → pro_child places kind file number unit i ≡ To part
    → IsPointerPart places kind file number unit i part
pointer_part places Master file number unit i part is = let below = below_part 128 Index places file number unit i part is in inl (refl, below.0, below.1)
pointer_part places Index file number unit i part is = let below = below_part 256 Body places file number unit i part is in inr (refl, below.0, below.1)
pointer_part places AList file number unit i part is = absurd (cc)
pointer_part places Body file number unit i part is = absurd (cc)

module _ (store : List (List ℕ)) (file storage key : ℕ) where
  abbrev IsPlaced : Part → Type 0
  IsPlaced part = (part.file ≡ file) × PlacedAt store storage key part.kind part.number part.place

  placed : (kind : PartKind) (number : ℕ) (part : Part) → part.file ≡ file → part.kind ≡ kind → part.number ≡ number → PlacedAt store storage key kind number part.place → IsPlaced part
  placed kind number part file_is kind_is number_is at =
      (file_is, subst (λ k. PlacedAt store storage key k part.number part.place) (sym kind_is) (subst (λ n. PlacedAt store storage key kind n part.place) (sym number_is) at))

  of_key : (part : Part) → IsKeyPart (length store) file storage key part → IsPlaced part
  of_key part (inl seedling) = let named = seedling.1 in
      placed Body 0 part named.same_file named.same_kind named.same_number (inl (seedling.0, refl, (named.same_place, (named.some, named.in_range))))
  of_key part (inr (inl sapling)) = let named = sapling.1 in
      placed Index 0 part named.same_file named.same_kind named.same_number (inl (sapling.0, refl, (named.same_place, (named.some, named.in_range))))
  of_key part (inr (inr tree)) = let named = tree.1 in
      placed Master 0 part named.same_file named.same_kind named.same_number (refl, (tree.0, (named.same_place, (named.some, named.in_range))))

  body_at : (n m i index place : ℕ) → n / 256 ≡ m → n % 256 ≡ i → IndexAt store storage key m index → Names store (pointer_of (unit_at store index) i) place
      → BodyAt store storage key n place
  body_at n m i index place above slot at names = inr (
    index,
    subst (λ k. IndexAt store storage key k index) (sym above) at,
    subst (λ k. Names store (pointer_of (unit_at store index) k) place) (sym slot) names,
  )

  of_pointer : (parent part : Part) (i : ℕ) → IsPlaced parent
      → IsPointerPart (length store) parent.kind parent.file parent.number (unit_at store parent.place) i part → IsPlaced part
  of_pointer parent part i above (inl below) =
      let named = below.2 in
      let at : (parent.number ≡ 0) × MasterAt store storage key parent.place = subst (λ k. PlacedAt store storage key k parent.number parent.place) below.0 above.1 in
      placed Index i part (named.same_file ∙ above.0) named.same_kind (omega (arith, named.same_number, at.0))
      (inr (parent.place, at.1, below.1, (named.same_place, (named.some, named.in_range))))
  of_pointer parent part i above (inr below) =
      let named = below.2 in
      let at : IndexAt store storage key parent.number parent.place = subst (λ k. PlacedAt store storage key k parent.number parent.place) below.0 above.1 in
      placed Body (256 * parent.number + i) part (named.same_file ∙ above.0) named.same_kind named.same_number
      (body_at (256 * parent.number + i) parent.number i parent.place part.place (omega (arith, below.1)) (omega (arith, below.1)) at (named.same_place, (named.some, named.in_range)))

  pub in_file-placed : (part : Part) → InFile store file storage key part → IsPlaced part
  in_file-placed part (at_key is) = of_key part (key_part (length store) file storage key part is)
  in_file-placed part (at_pointer {parent} i reached is) =
      of_pointer parent part i (in_file-placed parent reached) (pointer_part (length store) parent.kind parent.file parent.number (unit_at store parent.place) i part is)

  link-named : (kind : PartKind) (number block place : ℕ) → Names store block place → pro_link (length store) file kind number block ≡ To (part_of file kind number place)
  link-named kind number block place names =
      pro_link-cases (λ link. link ≡ To (part_of file kind number place)) (length store) file kind number block
      (λ null. absurd (omega (arith, null, names.1.0)))
      (λ some inside. ap (λ p. To (part_of file kind number p)) (sym names.0))
      (λ wild. absurd (omega (arith, wild, names.1.1)))

  below-named : (width : ℕ) (kind : PartKind) (number : ℕ) (unit : List ℕ) (i n place : ℕ) → i < width → n ≡ width * number + i → Names store (pointer_of unit i) place
      → link_below width kind (length store) file number unit i ≡ To (part_of file kind n place)
  below-named width kind number unit i n place inside is names =
      link_below-cases (λ link. link ≡ To (part_of file kind n place)) width kind (length store) file number unit i
      (λ within. link-named kind (width * number + i) (pointer_of unit i) place names ∙ ap (λ k. To (part_of file kind k place)) (sym is))
      (λ past. absurd (omega (arith, past, inside)))

  master_in : (place : ℕ) → MasterAt store storage key place → InFile store file storage key (part_of file Master 0 place)
  master_in place at = at_key (ap (λ s. pro_root (length store) file s key) at.0 ∙ link-named Master 0 key place at.1)

  index_in : (m place : ℕ) → IndexAt store storage key m place → InFile store file storage key (part_of file Index m place)
  index_in m place (inl sapling) = subst (λ n. InFile store file storage key (part_of file Index n place)) (sym sapling.1)
      (at_key (ap (λ s. pro_root (length store) file s key) sapling.0 ∙ link-named Index 0 key place sapling.2))
  index_in m place (inr tree) = at_pointer m (master_in tree.0 tree.1)
      (below-named 128 Index 0 (unit_at store tree.0) m m place tree.2 (omega arith) tree.3)

  body_in : (n place : ℕ) → BodyAt store storage key n place → InFile store file storage key (part_of file Body n place)
  body_in n place (inl seedling) = subst (λ k. InFile store file storage key (part_of file Body k place)) (sym seedling.1)
      (at_key (ap (λ s. pro_root (length store) file s key) seedling.0 ∙ link-named Body 0 key place seedling.2))
  body_in n place (inr below) = at_pointer (n % 256) (index_in (n / 256) below.0 below.1)
      (below-named 256 Body (n / 256) (unit_at store below.0) (n % 256) n place (omega arith) (omega arith) below.2)

  placed_in : (kind : PartKind) (number place : ℕ) → PlacedAt store storage key kind number place → InFile store file storage key (part_of file kind number place)
  placed_in Master number place at = subst (λ n. InFile store file storage key (part_of file Master n place)) (sym at.0) (master_in place at.1)
  placed_in Index number place at = index_in number place at
  placed_in Body number place at = body_in number place at
  placed_in AList number place at = absurd at

  pub placed-in_file : (part : Part) → IsPlaced part → InFile store file storage key part
  placed-in_file part is = subst (λ f. InFile store file storage key (part_of f part.kind part.number part.place)) (sym is.0)
      (placed_in part.kind part.number part.place is.1)
