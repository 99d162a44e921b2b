-- Parts in order, with one part more.
use Rattle.std.proofs.Common.{◌≡◌, ◌<◌, ◌≤◌, ◌+◌, ℕ, zero, suc, Bool, true, false, cond, List, [], ◌∷◌, ◌++◌, length, sym, ◌∙◌, ap, subst, arith, inl, inr, append-nil, append_assoc}
use Rattle.std.proofs.lemmas.Bool.{cases_lt}
use Rattle.std.proofs.lemmas.List.{get_or_append_left, get_or_push, length_push}
use Rattle.a2_device.specs.declared.part.PartKind.TheVariants.{Body}
use Rattle.edit_formats.specs.declared.new_part.NewPart.{NewPart}
use Rattle.edit_formats.specs.Parts.{bodies, is_stored, new_part}
use Rattle.edit_formats.specs.Order.{AreOrdered, no_part, part_at}

module _ (parts : List NewPart) (new : NewPart) where
  pub there : (k : ℕ) → k < length parts → part_at (parts ++ new ∷ []) k ≡ part_at parts k
  there k old = get_or_append_left parts (new ∷ []) no_part k old

  pub here : (k : ℕ) → k ≡ length parts → part_at (parts ++ new ∷ []) k ≡ new
  here k last = get_or_push parts new no_part k (sym last)

  -- what holds of the parts so far and of the new one
  pub each_pushed : (P : NewPart → Type 0) → ((k : ℕ) → k < length parts → P (part_at parts k)) → P new → (k : ℕ) → k < length (parts ++ new ∷ []) → P (part_at (parts ++ new ∷ []) k)
  each_pushed P old one k within = elim (cases_lt k (length parts)) [
    | inl before ↦ subst P (sym (there k before)) (old k before)
    | inr end ↦ subst P (sym (here k (omega (arith, end, within, length_push parts new)))) one
  ]

  module _ (Names : NewPart → NewPart → Type 0) (o : AreOrdered Names parts)
      (higher : (k : ℕ) → k < length parts → (part_at parts k).kind ≡ new.kind → (part_at parts k).number < new.number)
      (at : ℕ) (inside : at < length parts) (names : Names (part_at parts at) new)
      (behind : new.kind ≡ Body → (m : ℕ) → at < m → m < length parts → (part_at parts m).kind ≡ Body) where
    abbrev whole : List NewPart
    whole = parts ++ new ∷ []

    above_old : (k : ℕ) → 0 < k → k < length parts → (j : ℕ) × (j < k) × Names (part_at whole j) (part_at whole k)
        × ((part_at whole k).kind ≡ Body → (m : ℕ) → j < m → m < k → (part_at whole m).kind ≡ Body)
    above_old k some before =
        let up = o.above k some before in
        let up_before : up.0 < length parts = omega (arith, up.1, before) in (
          up.0,
          up.1,
          subst (λ part. Names part (part_at whole k)) (sym (there up.0 up_before)) (subst (Names (part_at parts up.0)) (sym (there k before)) up.2),
          λ body m low high. ap (λ (part : NewPart). part.kind) (there m (omega (arith, high, before)))
              ∙ up.3 (sym (ap (λ (part : NewPart). part.kind) (there k before)) ∙ body) m low high,
        )

    above_new : (k : ℕ) → k ≡ length parts → (j : ℕ) × (j < k) × Names (part_at whole j) (part_at whole k)
        × ((part_at whole k).kind ≡ Body → (m : ℕ) → j < m → m < k → (part_at whole m).kind ≡ Body)
    above_new k last = (
      at,
      omega (arith, inside, last),
      subst (λ part. Names part (part_at whole k)) (sym (there at inside)) (subst (Names (part_at parts at)) (sym (here k last)) names),
      λ body m low high.
          let before : m < length parts = omega (arith, high, last) in
          ap (λ (part : NewPart). part.kind) (there m before) ∙ behind (sym (ap (λ (part : NewPart). part.kind) (here k last)) ∙ body) m low before,
    )

    pub pushed : AreOrdered Names whole
    pushed = record {
      some = omega (arith, length_push parts new);
      rising = λ j k less within same. elim (cases_lt k (length parts)) [
        | inl before ↦
            let first = there j (omega (arith, less, before)) in
            let second = there k before in
            let kinds : (part_at parts j).kind ≡ (part_at parts k).kind =
            sym (ap (λ (part : NewPart). part.kind) first) ∙ same ∙ ap (λ (part : NewPart). part.kind) second in
            omega (arith, o.rising j k less before kinds, ap (λ (part : NewPart). part.number) first, ap (λ (part : NewPart). part.number) second)
        | inr end ↦
            let last : k ≡ length parts = omega (arith, end, within, length_push parts new) in
            let before : j < length parts = omega (arith, less, last) in
            let first = there j before in
            let second = here k last in
            let kinds : (part_at parts j).kind ≡ new.kind = sym (ap (λ (part : NewPart). part.kind) first) ∙ same ∙ ap (λ (part : NewPart). part.kind) second in
            omega (arith, higher j before kinds, ap (λ (part : NewPart). part.number) first, ap (λ (part : NewPart). part.number) second)
      ];
      above = λ k some within. elim (cases_lt k (length parts)) [
        | inl before ↦ above_old k some before
        | inr end ↦ above_new k (omega (arith, end, within, length_push parts new))
      ];
    }

pub one_alone : (Names : NewPart → NewPart → Type 0) (part : NewPart) → AreOrdered Names (part ∷ [])
one_alone Names part = record {
  some = omega arith;
  rising = λ j k less within. absurd (omega (arith, less, within));
  above = λ k some within. absurd (omega (arith, some, within));
}

-- Parts whose last table is this one: the tables of its kind have numbers up to its own, and the units of the body numbers below a bound.
pub record IsUpto (Names : NewPart → NewPart → Type 0) (table : NewPart) (bound : ℕ) (parts : List NewPart) : Type 0 where
  pub ordered : AreOrdered Names parts
  pub at : ℕ
  pub inside : at < length parts
  pub is : part_at parts at ≡ table
  pub behind : (m : ℕ) → at < m → m < length parts → (part_at parts m).kind ≡ Body
  pub tables : (k : ℕ) → k < length parts → (part_at parts k).kind ≡ table.kind → (part_at parts k).number ≤ table.number
  pub bodies : (k : ℕ) → k < length parts → (part_at parts k).kind ≡ Body → (part_at parts k).number < bound

pub higher_bound : (Names : NewPart → NewPart → Type 0) (table : NewPart) (bound more : ℕ) (parts : List NewPart) → bound ≤ more → IsUpto Names table bound parts → IsUpto Names table more parts
higher_bound Names table bound more parts less upto = record {
  ordered = upto.ordered;
  at = upto.at;
  inside = upto.inside;
  is = upto.is;
  behind = upto.behind;
  tables = upto.tables;
  bodies = λ k within body. omega (arith, less, upto.bodies k within body);
}

-- one unit of the body more
pub body_pushed : (Names : NewPart → NewPart → Type 0) (table : NewPart) (number : ℕ) (parts : List NewPart) → (table.kind ≡ Body → ⊥) → Names table (new_part Body number)
    → IsUpto Names table number parts → IsUpto Names table (number + 1) (parts ++ new_part Body number ∷ [])
body_pushed Names table number parts no_body names upto = record {
  ordered = pushed parts (new_part Body number) Names upto.ordered (λ k within body. upto.bodies k within body) upto.at upto.inside
      (subst (λ part. Names part (new_part Body number)) (sym upto.is) names) (λ body. upto.behind);
  at = upto.at;
  inside = omega (arith, upto.inside, length_push parts (new_part Body number));
  is = there parts (new_part Body number) upto.at upto.inside ∙ upto.is;
  behind = λ m low within. elim (cases_lt m (length parts)) [
    | inl before ↦ ap (λ (part : NewPart). part.kind) (there parts (new_part Body number) m before) ∙ upto.behind m low before
    | inr end ↦ ap (λ (part : NewPart). part.kind) (here parts (new_part Body number) m (omega (arith, end, within, length_push parts (new_part Body number))))
  ];
  tables = each_pushed parts (new_part Body number) (λ part. part.kind ≡ table.kind → part.number ≤ table.number) upto.tables (λ same. absurd (no_body (sym same)));
  bodies = each_pushed parts (new_part Body number) (λ part. part.kind ≡ Body → part.number < number + 1) (λ k within body. omega (arith, upto.bodies k within body)) (λ body. omega arith);
}

-- the units of a table that are stored
pub bodies_pushed : (Names : NewPart → NewPart → Type 0) (stored : List Bool) (table : NewPart) (first count end : ℕ) (parts : List NewPart) → (table.kind ≡ Body → ⊥)
    → ((number : ℕ) → first ≤ number → number < end → Names table (new_part Body number)) → first + count ≡ end
    → IsUpto Names table first parts → IsUpto Names table end (parts ++ bodies stored first count)
unfolding bodies
bodies_pushed Names stored table first zero end parts no_body names is upto =
    subst (IsUpto Names table end) (sym (append-nil parts)) (higher_bound Names table first end parts (omega (arith, is)) upto)
bodies_pushed Names stored table first (suc count) end parts no_body names is upto =
    by_test (is_stored stored first) (λ longer. bodies_pushed Names stored table (first + 1) count end longer no_body (λ number low high. names number (omega (arith, low)) high) (omega (arith, is)))
  where
    by_test : (b : Bool) → ((longer : List NewPart) → IsUpto Names table (first + 1) longer → IsUpto Names table end (longer ++ bodies stored (first + 1) count))
        → IsUpto Names table end (parts ++ cond b (new_part Body first ∷ bodies stored (first + 1) count) (bodies stored (first + 1) count))
    by_test true rest =
        subst (IsUpto Names table end) (append_assoc parts (new_part Body first ∷ []) (bodies stored (first + 1) count))
        (rest (parts ++ new_part Body first ∷ []) (body_pushed Names table first parts no_body (names first (omega arith) (omega (arith, is))) upto))
    by_test false rest = rest parts (higher_bound Names table first (first + 1) parts (omega arith) upto)
