-- The first free block from one on.
use Rattle.std.proofs.Common.{◌≡◌, ℕ, ◌+◌, ◌<◌, ◌≤◌, Bool, true, false, sym, ◌∙◌, ap, subst, arith, ⊎_elim}
use Rattle.std.proofs.lemmas.Bool.{cases_lt}
use Rattle.pro_bitmap.specs.Bitmap.{FreeMap, is_free, IsFreeFrom, IsNextFree}

-- no block from one on and below another is free
abbrev pub NoneBelow : FreeMap → ℕ → ℕ → Type 0
NoneBelow bitmap from below = (block : ℕ) → from ≤ block → block < below → is_free bitmap block ≡ false

not_below : (bitmap : FreeMap) (from below block : ℕ) → NoneBelow bitmap from below → IsFreeFrom bitmap from block → block < below → ⊥
not_below bitmap from below block none is under = let used = none block is.behind under in let free = is.free in cc

pub one_more : (bitmap : FreeMap) (from block : ℕ) → NoneBelow bitmap from block → is_free bitmap block ≡ false → NoneBelow bitmap from (block + 1)
one_more bitmap from block none used k behind below =
    ⊎_elim (none k behind) (λ over. let same : block ≡ k = omega (arith, over, below) in subst (λ n. is_free bitmap n ≡ false) same used) (cases_lt k block)

pub is_next : (bitmap : FreeMap) (from block : ℕ) → NoneBelow bitmap from block → is_free bitmap block ≡ true → from ≤ block → block < bitmap.total
    → IsNextFree bitmap from block
is_next bitmap from block none free behind within = record {
  found = record { within = within; free = free; behind = behind };
  first = λ other is. ⊎_elim (λ below. absurd (not_below bitmap from block other none is below)) (λ over. over) (cases_lt other block);
}

pub none_left : (bitmap : FreeMap) (from end block : ℕ) → NoneBelow bitmap from end → bitmap.total ≤ end → IsFreeFrom bitmap from block → ⊥
none_left bitmap from end block none over is = not_below bitmap from end block none is (omega (arith, is.within, over))
