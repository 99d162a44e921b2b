-- The order of the parts of a ProDOS file.
use Rattle.std.proofs.Common.{ap, ◌≡◌, ◌<◌, ◌≤◌, ◌+◌, ◌*◌, ◌/◌, ℕ, zero, suc, Bool, true, false, cond, List, [], ◌∷◌, ◌++◌, length, refl, sym, ◌∙◌, subst, arith, inl, inr, append-nil, append_assoc}
use Rattle.std.specs.Prelude.{◌⊎◌, ◌==◌, nat_le, if◌then◌else◌, filter, flat_map, slice_index_or}
use Rattle.std.specs.List.{All, Contains, range_with_len}
use Rattle.std.proofs.lemmas.Bool.{cases_lt}
use Rattle.std.proofs.lemmas.Bool.Decides.{nat_tests}
use Rattle.std.proofs.lemmas.List.{get_or_append_left, length_push}
use Rattle.std.proofs.lemmas.List.Elements.{All-cons, All-contains, Contains-append_right}
use Rattle.a2_device.specs.declared.part.PartKind.TheVariants.{Master, Index, Body}
use Rattle.edit_formats.specs.declared.new_part.NewPart.{NewPart}
use Rattle.edit_formats.specs.Parts.{any_stored, bodies, index_with_bodies, indexes, is_stored, kept, new_part, pro_parts_of, storage_type, tree_parts}
use Rattle.edit_formats.specs.Order.{AreOrdered, AreProParts, HasStored, IsOfIndex, no_part, part_at}
use Rattle.edit_formats.specs.lemmas.Membership.{any_of, each_body, each_flat, in_bodies, in_flat, inside_file}
use Rattle.edit_formats.specs.lemmas.Pushed.{IsUpto, bodies_pushed, each_pushed, here, one_alone, pushed, there}

abbrev index : ℕ → NewPart
index number = new_part Index number

abbrev master : NewPart
master = new_part Master 0

no_body : (number : ℕ) → (index number).kind ≡ Body → ⊥
no_body number is = cc

with_bodies : (stored : List Bool) (number : ℕ) (parts : List NewPart) → IsUpto IsOfIndex (index number) (256 * number) parts
    → IsUpto IsOfIndex (index number) (256 * (number + 1)) (parts ++ bodies stored (256 * number) 256)
with_bodies stored number parts = bodies_pushed IsOfIndex stored (index number) (256 * number) 256 (256 * (number + 1)) parts (no_body number)
    (λ unit low high. inr (refl, refl, omega (arith, low, high))) (omega arith)

-- an index alone
index_alone : IsUpto IsOfIndex (index 0) 0 (index 0 ∷ [])
index_alone = record {
  ordered = one_alone IsOfIndex (index 0);
  at = 0;
  inside = omega arith;
  is = refl;
  behind = λ m low within. absurd (omega (arith, low, within));
  tables = tables;
  bodies = none;
}
  where
    tables : (k : ℕ) → k < 1 → (part_at (index 0 ∷ []) k).kind ≡ Index → (part_at (index 0 ∷ []) k).number ≤ 0
    tables zero within same = omega arith
    tables (suc k) within same = absurd (omega (arith, within))

    none : (k : ℕ) → k < 1 → (part_at (index 0 ∷ []) k).kind ≡ Body → (part_at (index 0 ∷ []) k).number < 0
    none zero within body = absurd (no_body 0 body)
    none (suc k) within body = absurd (omega (arith, within))

sapling_ordered : (stored : List Bool) → AreOrdered IsOfIndex (index_with_bodies stored 0)
sapling_ordered stored = (with_bodies stored 0 (index 0 ∷ []) index_alone).ordered

-- a master index, and indexes before a number with their units
record IsTreeUpto (next : ℕ) (parts : List NewPart) : Type 0 where
  ordered : AreOrdered IsOfIndex parts
  first : part_at parts 0 ≡ master
  tables : (k : ℕ) → k < length parts → (part_at parts k).kind ≡ Index → (part_at parts k).number < next
  bodies : (k : ℕ) → k < length parts → (part_at parts k).kind ≡ Body → (part_at parts k).number < 256 * next

one_passed : (next : ℕ) (parts : List NewPart) → IsTreeUpto next parts → IsTreeUpto (next + 1) parts
one_passed next parts upto = record {
  ordered = upto.ordered;
  first = upto.first;
  tables = λ k within same. omega (arith, upto.tables k within same);
  bodies = λ k within same. omega (arith, upto.bodies k within same);
}

-- one index more
index_pushed : (next : ℕ) (parts : List NewPart) → next < 128 → IsTreeUpto next parts → IsUpto IsOfIndex (index next) (256 * next) (parts ++ index next ∷ [])
index_pushed next parts low upto = record {
  ordered = pushed parts (index next) IsOfIndex upto.ordered upto.tables 0 upto.ordered.some
      (subst (λ part. IsOfIndex part (index next)) (sym upto.first) (inl (refl, refl, omega (arith, low)))) (λ body. absurd (no_body next body));
  at = length parts;
  inside = omega (arith, length_push parts (index next));
  is = here parts (index next) (length parts) refl;
  behind = λ m high within. absurd (omega (arith, high, within, length_push parts (index next)));
  tables = each_pushed parts (index next) (λ part. part.kind ≡ Index → part.number ≤ next) (λ k within same. omega (arith, upto.tables k within same)) (λ same. omega arith);
  bodies = each_pushed parts (index next) (λ part. part.kind ≡ Body → part.number < 256 * next) upto.bodies (λ body. absurd (no_body next body));
}

one_taken : (stored : List Bool) (next : ℕ) (parts : List NewPart) → next < 128 → IsTreeUpto next parts
    → IsTreeUpto (next + 1) ((parts ++ index next ∷ []) ++ bodies stored (256 * next) 256)
one_taken stored next parts low upto =
    let longer = parts ++ index next ∷ [] in
    let own = bodies stored (256 * next) 256 in
    let all = with_bodies stored next longer (index_pushed next parts low upto) in
    record {
      ordered = all.ordered;
      first = get_or_append_left longer own no_part 0 (omega (arith, length_push parts (index next))) ∙ there parts (index next) 0 upto.ordered.some ∙ upto.first;
      tables = λ k within same. omega (arith, all.tables k within same);
      bodies = all.bodies;
    }

abbrev is_taken : List Bool → ℕ → Bool
is_taken stored number = any_stored stored (256 * number) 256

-- so many indexes more
indexes_pushed : (stored : List Bool) (next count : ℕ) (parts : List NewPart) → next + count ≤ 128 → IsTreeUpto next parts
    → AreOrdered IsOfIndex (parts ++ flat_map (index_with_bodies stored) (filter (is_taken stored) (range_with_len next count)))
indexes_pushed stored next zero parts low upto = subst (AreOrdered IsOfIndex) (sym (append-nil parts)) upto.ordered
indexes_pushed stored next (suc count) parts low upto =
    by_test (filter (is_taken stored) (range_with_len (next + 1) count)) (is_taken stored next) (λ longer. indexes_pushed stored (next + 1) count longer (omega (arith, low)))
  where
    by_test : (rest : List ℕ) (b : Bool) → ((longer : List NewPart) → IsTreeUpto (next + 1) longer → AreOrdered IsOfIndex (longer ++ flat_map (index_with_bodies stored) rest))
        → AreOrdered IsOfIndex (parts ++ flat_map (index_with_bodies stored) (cond b (next ∷ rest) rest))
    by_test rest true further =
        let longer = parts ++ index next ∷ [] in
        let own = bodies stored (256 * next) 256 in
        let later = flat_map (index_with_bodies stored) rest in
        subst (AreOrdered IsOfIndex) (append_assoc longer own later ∙ append_assoc parts (index next ∷ []) (own ++ later))
        (further (longer ++ own) (one_taken stored next parts (omega (arith, low)) upto))
    by_test rest false further = further parts (one_passed next parts upto)

master_alone : IsTreeUpto 0 (master ∷ [])
master_alone = record {
  ordered = one_alone IsOfIndex master;
  first = refl;
  tables = none_index;
  bodies = none_body;
}
  where
    none_index : (k : ℕ) → k < 1 → (part_at (master ∷ []) k).kind ≡ Index → (part_at (master ∷ []) k).number < 0
    none_index zero within same = absurd (cc)
    none_index (suc k) within same = absurd (omega (arith, within))

    none_body : (k : ℕ) → k < 1 → (part_at (master ∷ []) k).kind ≡ Body → (part_at (master ∷ []) k).number < 256 * 0
    none_body zero within same = absurd (cc)
    none_body (suc k) within same = absurd (omega (arith, within))

tree_upto : (stored : List Bool) (count : ℕ) → count ≤ 128 → AreOrdered IsOfIndex (master ∷ indexes stored count)
unfolding indexes
tree_upto stored count low = indexes_pushed stored 0 count (master ∷ []) (omega (arith, low)) master_alone

-- what all parts of an index, and of a tree, have
each_of_index : (P : NewPart → Type 0) (stored : List Bool) (number : ℕ) → ((number : ℕ) → P (index number)) → ((number : ℕ) → is_stored stored number ≡ true → P (new_part Body number))
    → All P (index_with_bodies stored number)
each_of_index P stored number table unit = All-cons P (index number) (bodies stored (256 * number) 256) (table number) (each_body P stored (256 * number) 256 unit)

each_of_tree : (P : NewPart → Type 0) (stored : List Bool) (count : ℕ) → P master → ((number : ℕ) → P (index number)) → ((number : ℕ) → is_stored stored number ≡ true → P (new_part Body number))
    → All P (master ∷ indexes stored count)
unfolding indexes
each_of_tree P stored count top table unit =
    All-cons P master (indexes stored count) top (each_flat P (index_with_bodies stored) (filter (is_taken stored) (range_with_len 0 count))
    (λ k d within. each_of_index P stored (slice_index_or (filter (is_taken stored) (range_with_len 0 count)) k d) table unit))

abbrev IsProPart : NewPart → Type 0
IsProPart part = (part.kind ≡ Body) ⊎ (part.kind ≡ Index) ⊎ (part.kind ≡ Master)

abbrev IsStoredBody : List Bool → NewPart → Type 0
IsStoredBody stored part = part.kind ≡ Body → is_stored stored part.number ≡ true

-- the one unit of a seedling, and what a sapling and a tree have
seedling_parts : AreProParts 1 (new_part Body 0 ∷ [])
seedling_parts = record {
  ordered = one_alone IsOfIndex (new_part Body 0);
  first = inl (refl, refl, refl);
  kinds = kinds;
}
  where
    kinds : (k : ℕ) → k < 1 → IsProPart (part_at (new_part Body 0 ∷ []) k)
    kinds zero within = inl refl
    kinds (suc k) within = absurd (omega (arith, within))

sapling_parts : (stored : List Bool) → AreProParts 2 (index_with_bodies stored 0)
sapling_parts stored = record {
  ordered = sapling_ordered stored;
  first = inr (inl (refl, refl));
  kinds = λ k within. each_of_index IsProPart stored 0 (λ number. inr (inl refl)) (λ number is. inl refl) k no_part within;
}

sapling_units : (stored : List Bool) → length stored ≤ 256 → HasStored stored (index_with_bodies stored 0)
sapling_units stored short number = (
  λ has. All-contains (IsStoredBody stored) (index_with_bodies stored 0) (new_part Body number)
      (each_of_index (IsStoredBody stored) stored 0 (λ n body. absurd (no_body n body)) (λ n is body. is)) has refl,
  λ is. Contains-append_right (index 0 ∷ []) (bodies stored 0 256) (new_part Body number) (in_bodies stored number is 0 256 (omega arith) (omega (arith, inside_file stored number is, short))),
)

in_tree : (stored : List Bool) (number count : ℕ) → is_stored stored number ≡ true → number < 256 * count → Contains (indexes stored count) (new_part Body number)
unfolding indexes
in_tree stored number count is low =
    let at = number / 256 in
    let own = in_bodies stored number is (256 * at) 256 (omega arith) (omega arith) in
    in_flat (index_with_bodies stored) (is_taken stored) at (new_part Body number) (Contains-append_right (index at ∷ []) (bodies stored (256 * at) 256) (new_part Body number) own)
    (any_of stored number (256 * at) 256 is (omega arith) (omega arith)) 0 count (omega arith) (omega (arith, low))

no_master : master.kind ≡ Body → ⊥
no_master is = cc

whole_tree : (stored : List Bool) → AreProParts 3 (tree_parts stored)
whole_tree stored = record {
  ordered = tree_upto stored 128 (omega arith);
  first = inr (inr (refl, refl));
  kinds = λ k within. each_of_tree IsProPart stored 128 (inr (inr refl)) (λ number. inr (inl refl)) (λ number is. inl refl) k no_part within;
}

tree_units : (stored : List Bool) → length stored ≤ 32768 → HasStored stored (tree_parts stored)
tree_units stored short number = (
  λ has. All-contains (IsStoredBody stored) (tree_parts stored) (new_part Body number)
      (each_of_tree (IsStoredBody stored) stored 128 (λ body. absurd (no_master body)) (λ n body. absurd (no_body n body)) (λ n is body. is)) has refl,
  λ is. Contains-append_right (master ∷ []) (indexes stored 128) (new_part Body number) (in_tree stored number 128 is (omega (arith, inside_file stored number is, short))),
)

-- the parts by the storage type
abbrev chosen : List Bool → ℕ → List NewPart
chosen stored type = if type == 1 then new_part Body 0 ∷ [] else (if type == 2 then index_with_bodies stored 0 else tree_parts stored)

parts_are : (stored : List Bool) → pro_parts_of stored ≡ chosen stored (storage_type (length stored))
unfolding pro_parts_of
parts_are stored = refl

-- the one unit of a seedling
seedling_units : HasStored (true ∷ []) (new_part Body 0 ∷ [])
seedling_units number = (
  λ has.
      let first : has.0 ≡ 0 = omega (arith, has.1) in
      let same : new_part Body 0 ≡ new_part Body number = subst (λ k. slice_index_or (new_part Body 0 ∷ []) k (new_part Body number) ≡ new_part Body number) first has.2 in
      ap (is_stored (true ∷ [])) (sym (ap (λ (part : NewPart). part.number) same)),
  λ is.
      let low = inside_file (true ∷ []) number is in
      let zeroth : 0 ≡ number = omega (arith, low) in
      (0, omega arith, ap (new_part Body) zeroth),
)

-- what holds of the parts, by the length of the file
by_length : (P : ℕ → List Bool → List NewPart → Type 0) (stored : List Bool) → P 1 (true ∷ []) (new_part Body 0 ∷ []) → (1 < length stored → length stored ≤ 256 → P 2 stored (index_with_bodies stored 0))
    → (1 < length stored → P 3 stored (tree_parts stored)) → P (storage_type (length stored)) (kept stored) (pro_parts_of stored)
by_length P stored seedling sapling tree = subst (P (storage_type (length stored)) (kept stored)) (sym (parts_are stored)) (elim (cases_lt 1 (length stored)) [
  | inr one ↦
      let short : nat_le (length stored) 1 ≡ true = grind (arith, nat_tests) in
      let type : storage_type (length stored) ≡ 1 = grind (arith, nat_tests) in
      subst (λ t. P t (kept stored) (chosen stored t)) (sym type) (subst (λ b. P 1 (if b then true ∷ [] else stored) (new_part Body 0 ∷ [])) (sym short) seedling)
  | inl more ↦
      let long : nat_le (length stored) 1 ≡ false = grind (arith, nat_tests) in
      elim (cases_lt 256 (length stored)) [
        | inr some ↦
            let type : storage_type (length stored) ≡ 2 = grind (arith, nat_tests) in
            subst (λ t. P t (kept stored) (chosen stored t)) (sym type) (subst (λ b. P 2 (if b then true ∷ [] else stored) (index_with_bodies stored 0)) (sym long) (sapling more some))
        | inl many ↦
            let type : storage_type (length stored) ≡ 3 = grind (arith, nat_tests) in
            subst (λ t. P t (kept stored) (chosen stored t)) (sym type) (subst (λ b. P 3 (if b then true ∷ [] else stored) (tree_parts stored)) (sym long) (tree more))
      ]
])

-- the parts of a ProDOS file
pub pro_parts_are : (stored : List Bool) → length stored ≤ 32768 → AreProParts (storage_type (length stored)) (pro_parts_of stored)
pro_parts_are stored short = by_length (λ type units parts. AreProParts type parts) stored seedling_parts (λ more some. sapling_parts stored) (λ more. whole_tree stored)

pub pro_units : (stored : List Bool) → length stored ≤ 32768 → HasStored (kept stored) (pro_parts_of stored)
pro_units stored short = by_length (λ type units parts. HasStored units parts) stored seedling_units (λ more some. sapling_units stored some) (λ more. tree_units stored short)
