-- Where the last name of a path begins, in as much of it as was read.
use Rattle.std.specs.Prelude.{◌≡◌, ◌≢◌, ◌<◌, ◌≤◌, ◌+◌, ◌==◌, ℕ, suc, if◌then◌else◌, List, length, take, slice_index}
use Rattle.std.proofs.Common.{sym, ◌∙◌, ap, arith}
use Rattle.std.proofs.lemmas.List.{length-take-le, take_all, take_more}
use Rattle.edit_formats.specs.lemmas.Numbers.{other_number, same_number}
use Rattle.edit_formats.specs.ProSaves.{name_start}
use Rattle.edit_formats.specs.lemmas.ProSavable.{next_start, start_within}

module _ (path : List ℕ) (at : ℕ) (below : at < length path) where
  read_more : name_start (take (at + 1) path) ≡ (if slice_index path at == 0x2f then suc (length (take at path)) else name_start (take at path))
  read_more = ap name_start (take_more path at 0 below) ∙ next_start (take at path) (slice_index path at)

  pub at_slash : slice_index path at ≡ 0x2f → at + 1 ≡ name_start (take (at + 1) path)
  at_slash is =
      let size : suc (length (take at path)) ≡ at + 1 = omega (arith, length-take-le at path (omega (arith, below))) in
      sym (read_more ∙ ap (λ b. if b then suc (length (take at path)) else name_start (take at path)) (same_number (slice_index path at) 0x2f is) ∙ size)

  pub at_other : slice_index path at ≢ 0x2f → name_start (take at path) ≡ name_start (take (at + 1) path)
  at_other is = sym (read_more ∙ ap (λ b. if b then suc (length (take at path)) else name_start (take at path)) (other_number (slice_index path at) 0x2f is))

pub start_read : (path : List ℕ) (start at : ℕ) → start ≡ name_start (take at path) → length path ≤ at → start ≤ length path
start_read path start at is end = omega (arith, is, ap name_start (take_all at path end), start_within path)
