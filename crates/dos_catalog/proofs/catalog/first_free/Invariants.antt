use Rattle.std.proofs.Common.{◌≡◌, ◌-◌, ℕ, find, not, Bool}
use Rattle.std.specs.List.{range_with_len}
use Rattle.dos_catalog.specs.Entry.{entry_at, is_in_use}
use Rattle.dos_catalog.proofs.catalog.first_free.Given as goal

abbrev pub invariant-loop-number : goal.invariant-loop-number
invariant-loop-number l =
    let is_free : ℕ → Bool = λ slot. not (is_in_use (entry_at l.place l.unit slot)) in
    find is_free (range_with_len 0 7) ≡ find is_free (range_with_len l.number (7 - l.number))
