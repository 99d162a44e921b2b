use Rattle.std.proofs.Common.{◌≡◌, ◌<◌, ℕ, false}
use Rattle.pro_dir.specs.Listed.{directory_of}
use Rattle.edit_formats.specs.ProSaves.{is_directory_named}
use Rattle.edit_formats.proofs.paths.find_directory.Given as goal

abbrev pub invariant-loop-number : goal.invariant-loop-number
invariant-loop-number g l = (earlier : ℕ) → earlier < l.number → is_directory_named (directory_of l.walked).entries l.path earlier ≡ false
