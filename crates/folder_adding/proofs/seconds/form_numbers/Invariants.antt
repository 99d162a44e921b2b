use Rattle.std.proofs.Common.{map, take}
use Rattle.folder_adding.specs.HostEntries.{entry_view}
use Rattle.folder_adding.specs.Weighing.{AreNumbersOf}
use Rattle.folder_adding.proofs.seconds.form_numbers.Given as goal

-- the readable forms among the entries so far
abbrev pub invariant-loop-number : goal.invariant-loop-number
invariant-loop-number l = AreNumbersOf (map entry_view (take l.number l.entries)) l.forms
