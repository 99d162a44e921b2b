-- Among the parts of files in order, the nearest part that could name another is the one that does.
use Rattle.std.specs.Prelude.{◌≡◌, ◌<◌, ◌≤◌, ◌⊎◌, ℕ, ◌+◌, ◌*◌, true, false, List, length, AllPairs}
use Rattle.std.proofs.Common.{refl, sym, ◌∙◌, ap, arith, subst, inl, inr, ⊎_elim}
use Rattle.std.proofs.lemmas.Bool.{cases_lt}
use Rattle.a2_device.specs.declared.part.Part.{Part}
use Rattle.a2_device.specs.declared.part.PartKind.{PartKind}
use Rattle.a2_device.specs.declared.part.PartKind.TheVariants.{List as AList, Master, Index, Body}
use Rattle.vol_format.specs.declared.link.Link.TheVariants.{To}
use Rattle.vol_format.specs.Standing.{no_part}
use Rattle.pro_tree.specs.Reach.{pro_root, pro_rank}
use Rattle.pro_tree.specs.lemmas.ReachLaws.{IsChildOf}
use Rattle.pro_tree.specs.File.{InFile, PlacedAt}
use Rattle.pro_tree.specs.lemmas.FileLaws.{IsKeyPart, key_part, in_file-placed}
use Rattle.pro_tree.specs.Above.{part_of, is_above, IsAbove}

-- there is one such part
pub one_above : (parts : List Part) (k above other : ℕ) → IsAbove parts k above → IsAbove parts k other → above ≡ other
one_above parts k above other is is' = elim (cases_lt above other) [
  | inl less ↦ absurd (differ (sym is'.kind ∙ (is.nearest other less is'.before).1))
  | inr not_less ↦ elim (cases_lt other above) [
    | inl more ↦ absurd (differ (sym is.kind ∙ (is'.nearest above more is.before).1))
    | inr not_more ↦ omega arith
  ]
]
  where
    differ : true ≡ false → ⊥
    differ e = cc

-- what stands between a part and one that it names
after_master : (kind : PartKind) (number : ℕ) → 0 < pro_rank kind number → is_above kind Index ≡ false
after_master Master number more = absurd (omega (arith, more))
after_master Index number more = refl
after_master Body number more = refl
after_master AList number more = refl

after_index : (kind : PartKind) (number m i : ℕ) → i < 256 → 1 + 257 * m < pro_rank kind number → pro_rank kind number < 2 + 257 * m + i → is_above kind Body ≡ false
after_index Index number m i inside more less = absurd (omega (arith, inside, more, less))
after_index Master number m i inside more less = refl
after_index Body number m i inside more less = refl
after_index AList number m i inside more less = refl

-- the order of parts, by their numbers
module _ (parts : List Part) (ordered : AllPairs (λ (part later : Part). (part.file < later.file)
    ⊎ ((part.file ≡ later.file) × (pro_rank part.kind part.number < pro_rank later.kind later.number))) parts) where
  abbrev rank_at : ℕ → ℕ
  rank_at k = pro_rank (part_of parts k).kind (part_of parts k).number

  rank_below : (i j : ℕ) → i < j → j < length parts → (part_of parts i).file ≡ (part_of parts j).file → rank_at i < rank_at j
  rank_below i j less inside same = ⊎_elim (λ file. absurd (omega (arith, file, same))) (λ rank. rank.1) (ordered i j no_part less inside)

  file_below : (i j : ℕ) → i < j → j < length parts → (part_of parts i).file ≤ (part_of parts j).file
  file_below i j less inside = ⊎_elim (λ file. omega (arith, file)) (λ rank. omega (arith, rank.0)) (ordered i j no_part less inside)

  comes_before : (i j : ℕ) → i < length parts → (part_of parts i).file ≡ (part_of parts j).file → rank_at i < rank_at j → i < j
  comes_before i j inside same less = elim (cases_lt i j) [
    | inl before ↦ before
    | inr not_before ↦ elim (cases_lt j i) [
      | inl after ↦ absurd (omega (arith, rank_below j i after inside (sym same), less))
      | inr not_after ↦
          let here : i ≡ j = omega arith in
          absurd (omega (arith, ap rank_at here, less))
    ]
  ]

  same_file : (i j between : ℕ) → i < between → between < j → j < length parts → (part_of parts i).file ≡ (part_of parts j).file
      → (part_of parts between).file ≡ (part_of parts j).file
  same_file i j between after before inside same =
      let low = file_below i between after (omega (arith, before, inside)) in
      let high = file_below between j before inside in
      omega (arith, low, high, same)

  -- the part that names part k is the one above it
  pub above_there : (places i j k : ℕ) (child : Part) → j < length parts → k < length parts
      → child.file ≡ (part_of parts k).file → child.kind ≡ (part_of parts k).kind → child.number ≡ (part_of parts k).number
      → IsChildOf places (part_of parts j).kind (part_of parts j).file (part_of parts j).number i child → IsAbove parts k j
  above_there places i j k child inside within file kind number (inl below) =
      let below_is : (part_of parts k).kind ≡ Index = sym kind ∙ below.1.same_kind in
      let same : (part_of parts j).file ≡ (part_of parts k).file = sym below.1.same_file ∙ file in
      let first : rank_at j ≡ 0 = ap (λ n. pro_rank n (part_of parts j).number) below.0 in
      let second : rank_at k ≡ 1 + 257 * (part_of parts k).number = ap (λ n. pro_rank n (part_of parts k).number) below_is in
      record {
        before = comes_before j k inside same (omega (arith, first, second));
        kind = ap (λ n. is_above n (part_of parts k).kind) below.0 ∙ ap (is_above Master) below_is;
        file = same;
        nearest = λ between after less. (
          same_file j k between after less within same,
          ap (is_above (part_of parts between).kind) below_is
              ∙ after_master (part_of parts between).kind (part_of parts between).number
              (omega (arith, first, rank_below j between after (omega (arith, less, within)) (same ∙ sym (same_file j k between after less within same)))),
        );
      }
  above_there places i j k child inside within file kind number (inr below) =
      let below_is : (part_of parts k).kind ≡ Body = sym kind ∙ below.1.same_kind in
      let same : (part_of parts j).file ≡ (part_of parts k).file = sym below.1.same_file ∙ file in
      let first : rank_at j ≡ 1 + 257 * (part_of parts j).number = ap (λ n. pro_rank n (part_of parts j).number) below.0 in
      let whole : rank_at k ≡ pro_rank Body (256 * (part_of parts j).number + i) =
      ap (λ n. pro_rank n (part_of parts k).number) below_is ∙ ap (pro_rank Body) (sym number ∙ below.1.same_number) in
      let second : rank_at k ≡ 2 + 257 * (part_of parts j).number + i = omega (arith, whole, below.1.pointer) in
      record {
        before = comes_before j k inside same (omega (arith, first, second));
        kind = ap (λ n. is_above n (part_of parts k).kind) below.0 ∙ ap (is_above Index) below_is;
        file = same;
        nearest = λ between after less.
            let equal = same_file j k between after less within same in
            let low = rank_below j between after (omega (arith, less, within)) (same ∙ sym equal) in
            let high = rank_below between k less within equal in (
              equal,
              ap (is_above (part_of parts between).kind) below_is
                  ∙ after_index (part_of parts between).kind (part_of parts between).number (part_of parts j).number i below.1.pointer
                  (omega (arith, first, low)) (omega (arith, second, high)),
            );
      }

names_body : (kind : PartKind) → is_above kind Body ≡ true → kind ≡ Index
names_body Index is = refl
names_body Master is = absurd (cc)
names_body Body is = absurd (cc)
names_body AList is = absurd (cc)

names_index : (kind : PartKind) → is_above kind Index ≡ true → kind ≡ Master
names_index Master is = refl
names_index Index is = absurd (cc)
names_index Body is = absurd (cc)
names_index AList is = absurd (cc)

names_no_master : (kind : PartKind) → is_above kind Master ≡ true → ⊥
names_no_master Master is = cc
names_no_master Index is = cc
names_no_master Body is = cc
names_no_master AList is = cc

-- the part that a key pointer names has none above it
pub none_above_root : (store : List (List ℕ)) (file storage key : ℕ) (root other : Part) → pro_root (length store) file storage key ≡ To root
    → InFile store file storage key other → is_above other.kind root.kind ≡ true → ⊥
none_above_root store file storage key root other is reached above = by_cases (key_part (length store) file storage key root is)
  where
    placed : (kind : PartKind) → other.kind ≡ kind → PlacedAt store storage key kind other.number other.place
    placed kind same = subst (λ k. PlacedAt store storage key k other.number other.place) same (in_file-placed store file storage key other reached).1

    by_cases : IsKeyPart (length store) file storage key root → ⊥
    by_cases (inl seedling) =
        let index = placed Index (names_body other.kind (sym (ap (is_above other.kind) seedling.1.same_kind) ∙ above)) in
        ⊎_elim (λ sapling. omega (arith, seedling.0, sapling.0)) (λ tree. omega (arith, seedling.0, tree.1.0)) index
    by_cases (inr (inl sapling)) =
        let master = placed Master (names_index other.kind (sym (ap (is_above other.kind) sapling.1.same_kind) ∙ above)) in
        omega (arith, sapling.0, master.1.0)
    by_cases (inr (inr tree)) = names_no_master other.kind (sym (ap (is_above other.kind) tree.1.same_kind) ∙ above)
