use Rattle.std.proofs.Common.{◌≡◌, ◌≤◌, map, take, length}
use Rattle.file_listings.specs.DosText.{without_last_spaces, name_text}
use Rattle.row_text.specs.Shown.{shown}
use Rattle.file_listings.proofs.dos_text.shown_len.Given as goal

abbrev pub invariant-loop-len : goal.invariant-loop-len
invariant-loop-len l = record {
  within : l.len ≤ length l.name;
  text : without_last_spaces (map shown (take l.len l.name)) ≡ name_text l.name;
}

abbrev pub decreases-loop-len : goal.decreases-loop-len
decreases-loop-len l = l.len
