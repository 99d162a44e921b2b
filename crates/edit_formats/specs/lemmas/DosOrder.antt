-- The order of the parts of a DOS 3.3 file.
use Rattle.std.proofs.Common.{◌≡◌, ◌<◌, ◌≤◌, ◌+◌, ◌-◌, ◌*◌, ◌/◌, ℕ, zero, suc, Bool, List, [], ◌∷◌, ◌++◌, length, refl, sym, ◌∙◌, ap, subst, arith, inl, inr, append-nil, append_assoc}
use Rattle.std.specs.Prelude.{◌⊎◌, true, flat_map}
use Rattle.std.specs.List.{All, Contains, range_with_len}
use Rattle.std.proofs.lemmas.List.{length_push}
use Rattle.std.proofs.lemmas.List.Elements.{All-cons, All-contains, Contains-append_right}
use Rattle.a2_device.specs.declared.part.PartKind.TheVariants.{List as AList, Body}
use Rattle.edit_formats.specs.declared.new_part.NewPart.{NewPart}
use Rattle.edit_formats.specs.Parts.{bodies, dos_parts_of, is_stored, list_count, list_with_bodies, new_part}
use Rattle.edit_formats.specs.Order.{AreOrdered, AreDosParts, HasStored, IsOfList, no_part, part_at}
use Rattle.edit_formats.specs.lemmas.Membership.{each_body, each_flat, each_number, in_bodies, in_flat, inside_file, all_pass}
use Rattle.edit_formats.specs.lemmas.Pushed.{IsUpto, bodies_pushed, each_pushed, here, one_alone, pushed}

abbrev list : ℕ → NewPart
list number = new_part AList number

no_body : (number : ℕ) → (list number).kind ≡ Body → ⊥
no_body number is = cc

-- one list more
list_pushed : (number bound : ℕ) (parts : List NewPart) → IsUpto IsOfList (list number) bound parts → IsUpto IsOfList (list (number + 1)) bound (parts ++ list (number + 1) ∷ [])
list_pushed number bound parts upto = record {
  ordered = pushed parts (list (number + 1)) IsOfList upto.ordered (λ k within same. omega (arith, upto.tables k within same)) upto.at upto.inside
      (subst (λ part. IsOfList part (list (number + 1))) (sym upto.is) (refl, inr (refl, refl))) (λ body. absurd (no_body (number + 1) body));
  at = length parts;
  inside = omega (arith, length_push parts (list (number + 1)));
  is = here parts (list (number + 1)) (length parts) refl;
  behind = λ m low within. absurd (omega (arith, low, within, length_push parts (list (number + 1))));
  tables = each_pushed parts (list (number + 1)) (λ part. part.kind ≡ AList → part.number ≤ number + 1) (λ k within same. omega (arith, upto.tables k within same)) (λ same. omega arith);
  bodies = each_pushed parts (list (number + 1)) (λ part. part.kind ≡ Body → part.number < bound) upto.bodies (λ body. absurd (no_body (number + 1) body));
}

list_alone : IsUpto IsOfList (list 0) 0 (list 0 ∷ [])
list_alone = record {
  ordered = one_alone IsOfList (list 0);
  at = 0;
  inside = omega arith;
  is = refl;
  behind = λ m low within. absurd (omega (arith, low, within));
  tables = tables;
  bodies = none;
}
  where
    tables : (k : ℕ) → k < 1 → (part_at (list 0 ∷ []) k).kind ≡ AList → (part_at (list 0 ∷ []) k).number ≤ 0
    tables zero within same = omega arith
    tables (suc k) within same = absurd (omega (arith, within))

    none : (k : ℕ) → k < 1 → (part_at (list 0 ∷ []) k).kind ≡ Body → (part_at (list 0 ∷ []) k).number < 0
    none zero within body = absurd (no_body 0 body)
    none (suc k) within body = absurd (omega (arith, within))

with_bodies : (stored : List Bool) (number : ℕ) (parts : List NewPart) → IsUpto IsOfList (list number) (122 * number) parts
    → IsUpto IsOfList (list number) (122 * (number + 1)) (parts ++ bodies stored (122 * number) 122)
with_bodies stored number parts = bodies_pushed IsOfList stored (list number) (122 * number) 122 (122 * (number + 1)) parts (no_body number)
    (λ unit low high. (refl, inl (refl, omega (arith, low, high)))) (omega arith)

-- so many lists more
lists_pushed : (stored : List Bool) (number count : ℕ) (parts : List NewPart) → IsUpto IsOfList (list number) (122 * (number + 1)) parts
    → AreOrdered IsOfList (parts ++ flat_map (list_with_bodies stored) (range_with_len (number + 1) count))
lists_pushed stored number zero parts upto = subst (AreOrdered IsOfList) (sym (append-nil parts)) upto.ordered
lists_pushed stored number (suc count) parts upto =
    let longer = parts ++ list (number + 1) ∷ [] in
    let own = bodies stored (122 * (number + 1)) 122 in
    let later = flat_map (list_with_bodies stored) (range_with_len (number + 1 + 1) count) in
    subst (AreOrdered IsOfList) (append_assoc longer own later ∙ append_assoc parts (list (number + 1) ∷ []) (own ++ later))
    (lists_pushed stored (number + 1) count (longer ++ own) (with_bodies stored (number + 1) longer (list_pushed number (122 * (number + 1)) parts upto)))

all_lists : (stored : List Bool) (count : ℕ) → AreOrdered IsOfList (flat_map (list_with_bodies stored) (range_with_len 0 (suc count)))
all_lists stored count = lists_pushed stored 0 count (list 0 ∷ bodies stored 0 122) (with_bodies stored 0 (list 0 ∷ []) list_alone)

-- the lists are few, and the rest are units of the body
abbrev IsDosPart : ℕ → NewPart → Type 0
IsDosPart count part = ((part.kind ≡ AList) × (part.number < count)) ⊎ (part.kind ≡ Body)

list_parts : (stored : List Bool) (count number : ℕ) → number < count → All (IsDosPart count) (list_with_bodies stored number)
list_parts stored count number below =
    All-cons (IsDosPart count) (list number) (bodies stored (122 * number) 122) (inl (refl, below)) (each_body (IsDosPart count) stored (122 * number) 122 (λ unit is. inr refl))

abbrev IsStoredBody : List Bool → NewPart → Type 0
IsStoredBody stored part = part.kind ≡ Body → is_stored stored part.number ≡ true

list_stored : (stored : List Bool) (number : ℕ) → All (IsStoredBody stored) (list_with_bodies stored number)
list_stored stored number =
    All-cons (IsStoredBody stored) (list number) (bodies stored (122 * number) 122) (λ body. absurd (no_body number body))
    (each_body (IsStoredBody stored) stored (122 * number) 122 (λ unit is body. is))

pub has_stored : (stored : List Bool) → HasStored stored (dos_parts_of stored)
unfolding dos_parts_of
has_stored stored number =
    let count = list_count (length stored) in (
      λ has. All-contains (IsStoredBody stored) (dos_parts_of stored) (new_part Body number)
          (each_flat (IsStoredBody stored) (list_with_bodies stored) (range_with_len 0 count) (each_number (λ n. All (IsStoredBody stored) (list_with_bodies stored n)) count (λ n below. list_stored stored n)))
          has refl,
      λ is.
          let inside = inside_file stored number is in
          let own = in_bodies stored number is (122 * (number / 122)) 122 (omega arith) (omega arith) in
          subst (λ l. Contains (flat_map (list_with_bodies stored) l) (new_part Body number)) (all_pass (range_with_len 0 count))
          (in_flat (list_with_bodies stored) (λ n. true) (number / 122) (new_part Body number)
          (Contains-append_right (list (number / 122) ∷ []) (bodies stored (122 * (number / 122)) 122) (new_part Body number) own) refl 0 count (omega arith) (omega (arith, inside))),
    )

-- the parts of a DOS 3.3 file
pub dos_parts_are : (stored : List Bool) → length stored ≤ 560 → AreDosParts (dos_parts_of stored)
unfolding dos_parts_of
dos_parts_are stored short =
    let count = list_count (length stored) in
    let some : count ≡ suc (count - 1) = omega arith in
    let few : count < 6 = omega (arith, short) in
    let range : dos_parts_of stored ≡ flat_map (list_with_bodies stored) (range_with_len 0 (suc (count - 1))) = ap (λ n. flat_map (list_with_bodies stored) (range_with_len 0 n)) some in
    let parts = each_flat (IsDosPart count) (list_with_bodies stored) (range_with_len 0 count) (each_number (λ n. All (IsDosPart count) (list_with_bodies stored n)) count (λ n below. list_parts stored count n below)) in
    record {
      ordered = subst (AreOrdered IsOfList) (sym range) (all_lists stored (count - 1));
      first = ap (λ l. part_at l 0) range;
      kinds = λ k within. elim (parts k no_part within) [
        | inl table ↦ inl (table.0, omega (arith, table.1, few))
        | inr body ↦ inr body
      ];
    }
