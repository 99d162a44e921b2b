-- A name as it is stored in a ProDOS entry, byte by byte.
use Rattle.std.proofs.Common.{◌≡◌, ◌<◌, ◌≤◌, ◌+◌, ◌-◌, ◌∙◌, ℕ, List, [], ◌∷◌, ◌++◌, length, take, map, get_or, replicate, suc, sym, ap, arith}
use Rattle.std.specs.Prelude.{slice_set}
use Rattle.std.specs.Char.{to_ascii_uppercase}
use Rattle.std.proofs.Math.Seq.{set-append_seam}
use Rattle.std.proofs.lemmas.List.{map_more, length-map, length-take-le, append_assoc}

-- the name, one byte more of it
pub name_more : (name : List ℕ) (i : ℕ) → i < length name → length name ≤ 15
    → slice_set (map to_ascii_uppercase (take i name) ++ replicate (15 - i) 0) i (to_ascii_uppercase (get_or name i 0))
    ≡ map to_ascii_uppercase (take (i + 1) name) ++ replicate (15 - (i + 1)) 0
name_more name i within short =
    let front = map to_ascii_uppercase (take i name) in
    let rest : List ℕ = replicate (15 - (i + 1)) 0 in
    let value = to_ascii_uppercase (get_or name i 0) in
    let size : length front ≡ i = length-map (take i name) to_ascii_uppercase ∙ length-take-le i name (omega (arith, within)) in
    let left : 15 - i ≡ suc (15 - (i + 1)) = omega (arith, within, short) in
    ap (λ n. slice_set (front ++ replicate n 0) i value) left
    ∙ ap (λ n. slice_set (front ++ 0 ∷ rest) n value) (sym size)
    ∙ set-append_seam front 0 rest value
    ∙ sym (append_assoc front (value ∷ []) rest)
    ∙ ap (λ (xs : List ℕ). xs ++ rest) (sym (map_more to_ascii_uppercase name i 0 within))
