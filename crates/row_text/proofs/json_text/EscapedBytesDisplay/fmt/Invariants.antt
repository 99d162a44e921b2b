use Rattle.std.proofs.Common.{map, take}
use Rattle.std.specs.Fmt.{HasWritten, IsPlainFormatter}
use Rattle.json.specs.Print.{escape}
use Rattle.row_text.specs.Shown.{shown}
use Rattle.row_text.proofs.json_text.EscapedBytesDisplay.fmt.Given as goal

abbrev pub invariant-loop-byte : goal.invariant-loop-byte
invariant-loop-byte g l =
    IsPlainFormatter l.initial.f → HasWritten g.W.Write.write_str_gives l.initial.f (escape (map shown (take l.byte-index l.text))) l.f
