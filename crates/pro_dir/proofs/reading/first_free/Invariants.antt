use Rattle.std.proofs.Common.{◌≡◌, ◌-◌, ℕ, find, Bool}
use Rattle.std.specs.List.{range_with_len}
use Rattle.pro_dir.specs.Entry.{entry_at, is_inactive}
use Rattle.pro_dir.proofs.reading.first_free.Given as goal

abbrev pub invariant-loop-number : goal.invariant-loop-number
invariant-loop-number l =
    let is_free : ℕ → Bool = λ slot. is_inactive (entry_at l.directory l.place l.unit slot) in
    find is_free (range_with_len 0 13) ≡ find is_free (range_with_len l.number (13 - l.number))
