-- Bytes written one field after the other over zeros.
use Rattle.std.proofs.Common.{◌≡◌, ℕ, suc, ◌+◌, ◌-◌, List, [], ◌∷◌, ◌++◌, length, set, take, drop, replicate, refl, sym, ◌∙◌, ap, arith, append_assoc, length-append}
use Rattle.std.proofs.lemmas.List.{drop-replicate}
use Rattle.std.proofs.Math.Seq.{take-append_seam, drop-append-add, set-append_seam}
use Rattle.pro_dir.specs.Writes.{with_bytes}

-- some bytes begin with those written so far; so many zeros are left
pub record IsFilled (front : List ℕ) (at left : ℕ) (bytes : List ℕ) : Type 0 where
  pub size : length front ≡ at
  pub stands : bytes ≡ front ++ replicate left 0

pub put_next : (front field old new : List ℕ) (at left next rest : ℕ) → IsFilled front at left old → new ≡ with_bytes at field old → next ≡ at + length field → left ≡ length field + rest
    → IsFilled (front ++ field) next rest new
put_next front field old new at left next rest so new_is next_is left_is = let fewer : left - length field ≡ rest = omega (arith, left_is) in record {
  size = omega (arith, length-append front field, so.size, next_is);
  stands = new_is
      ∙ ap (λ n. take n old ++ field ++ drop (n + length field) old) (sym so.size)
      ∙ ap (λ bs. take (length front) bs ++ field ++ drop (length front + length field) bs) so.stands
      ∙ ap (λ bs. bs ++ field ++ drop (length front + length field) (front ++ replicate left 0)) (take-append_seam front (replicate left 0))
      ∙ ap (λ bs. front ++ field ++ bs) (drop-append-add front (replicate left 0) (length field) ∙ drop-replicate (length field) left 0 ∙ ap (λ n. replicate n 0) fewer);
}

pub set_next : (front old : List ℕ) (byte at rest next : ℕ) → IsFilled front at (suc rest) old → next ≡ at + 1 → IsFilled (front ++ byte ∷ []) next rest (set old at byte)
set_next front old byte at rest next so next_is = record {
  size = omega (arith, length-append front (byte ∷ []), so.size, next_is);
  stands = ap (λ n. set old n byte) (sym so.size) ∙ ap (λ bs. set bs (length front) byte) so.stands ∙ set-append_seam front 0 (replicate rest 0) byte
      ∙ sym (append_assoc front (byte ∷ []) (replicate rest 0));
}

-- two zeros stay
pub zeros_next : (front bytes : List ℕ) (at rest next : ℕ) → IsFilled front at (suc (suc rest)) bytes → next ≡ at + 2 → IsFilled (front ++ 0 ∷ 0 ∷ []) next rest bytes
zeros_next front bytes at rest next so next_is = record {
  size = omega (arith, length-append front (0 ∷ 0 ∷ []), so.size, next_is);
  stands = so.stands ∙ sym (append_assoc front (0 ∷ 0 ∷ []) (replicate rest 0));
}

-- the fields of an entry, joined from the front and from the end
pub joined : (head kind access : ℕ) (name key blocks eof date aux dir : List ℕ)
    → (((((((((((head ∷ []) ++ name) ++ (kind ∷ [])) ++ key) ++ blocks) ++ eof) ++ date) ++ (0 ∷ 0 ∷ [])) ++ (access ∷ [])) ++ aux) ++ date) ++ dir
    ≡ head ∷ (name ++ kind ∷ (key ++ blocks ++ eof ++ date ++ 0 ∷ 0 ∷ access ∷ (aux ++ date ++ dir)))
joined head kind access name key blocks eof date aux dir = simp append_assoc refl
