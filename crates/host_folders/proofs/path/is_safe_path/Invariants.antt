use Rattle.std.proofs.Common.{◌↔◌, length}
use denote.Text.{Utf8}
use denote.Shadow.{shadow}
use Rattle.host_folders.specs.Path.{IsSafePath}
use Rattle.host_folders.proofs.path.is_safe_path.Given as goal

-- the names behind what is left are safe
abbrev pub invariant-loop-parent : goal.invariant-loop-parent
invariant-loop-parent l = shadow (Utf8 l.rest) × (IsSafePath l.fn.path ↔ IsSafePath l.rest)

abbrev pub decreases-loop-parent : goal.decreases-loop-parent
decreases-loop-parent l = length l.rest
