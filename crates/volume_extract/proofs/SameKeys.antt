-- One more name is counted.
use Rattle.std.proofs.Common.{◌≡◌, ◌+◌, ◌∙◌, ℕ, Bool, true, false, cond, List, [], ◌∷◌, ◌++◌, Option, Some, None, refl, sym, ap, subst, arith, unwrap_or, count_by, nat_eq}
use Rattle.std.specs.Prelude.{◌&&◌}
use Rattle.std.specs.Option.{option_eq}
use Rattle.std.specs.Str.{bytes_eq}
use Rattle.std.proofs.lemmas.Grind.{common_steps}
use Rattle.std.proofs.lemmas.List.Sums.{sum_by_push}
use Rattle.std.proofs.lemmas.Slice.Eq.{bytes_eq-Decides}
use Rattle.volume_extract.specs.Keys.{NameKey, is_key}

same_above : (a b : Option ℕ) → option_eq nat_eq a b ≡ true → a ≡ b
same_above None None is = refl
same_above (Some x) (Some y) is = ap Some (grind (arith, common_steps, is))
same_above (Some x) None is = absurd (grind (arith, is))
same_above None (Some y) is = absurd (grind (arith, is))

above_itself : (a : Option ℕ) → option_eq nat_eq a a ≡ true
above_itself None = refl
above_itself (Some x) = grind (arith, common_steps)

both : (a b : Bool) → (a && b) ≡ true → (a ≡ true) × (b ≡ true)
both true true is = (refl, refl)
both true false is = (refl, is)
both false b is = (is, absurd (grind (arith, is)))

abbrev made : Option ℕ → List ℕ → NameKey
made above name = record { above = above; name = name }

pub same_key : (a b : NameKey) → is_key a b ≡ true → a ≡ b
same_key a b is =
    let parts = both (option_eq nat_eq a.above b.above) (bytes_eq a.name b.name) is in
    let above : a.above ≡ b.above = same_above a.above b.above parts.0 in
    let name : a.name ≡ b.name = (bytes_eq-Decides a.name b.name).0 parts.1 in
    ap (λ (above : Option ℕ). made above a.name) above ∙ ap (λ (name : List ℕ). made b.above name) name

pub key_itself : (a : NameKey) → is_key a a ≡ true
key_itself a = rw (above_itself a.above, (bytes_eq-Decides a.name a.name).1 refl) refl

-- of any key, one more is counted where it is this one
pub counted_one_more : (keys : List NameKey) (key q : NameKey) (b : Bool) → is_key key q ≡ b → (found : Option ℕ) (number : ℕ)
    → number ≡ count_by (is_key key) keys + 1 → unwrap_or found 0 ≡ count_by (is_key q) keys
    → unwrap_or (cond b (Some number) found) 0 ≡ count_by (is_key q) (keys ++ key ∷ [])
counted_one_more keys key q true is found number counted was =
    let same = same_key key q is in
    counted ∙ ap (λ (k : NameKey). count_by (is_key k) keys + 1) same
    ∙ ap (λ (one : Bool). count_by (is_key q) keys + cond one 1 0) (sym (subst (λ (k : NameKey). is_key q k ≡ true) (sym same) (key_itself q)))
    ∙ sym (sum_by_push (λ k. cond (is_key q k) 1 0) keys key)
counted_one_more keys key q false is found number counted was =
    was
    ∙ omega arith
    ∙ ap (λ (one : Bool). count_by (is_key q) keys + cond one 1 0) (sym (other (is_key q key) refl))
    ∙ sym (sum_by_push (λ k. cond (is_key q k) 1 0) keys key)
  where
    other : (b : Bool) → is_key q key ≡ b → is_key q key ≡ false
    other false is_not = is_not
    other true same = absurd (grind (arith, is, subst (λ (k : NameKey). is_key key k ≡ true) (sym (same_key q key same)) (key_itself key)))
