use Rattle.std.proofs.Common.{◌≡◌, ◌++◌, map, take, string_bytes}
use Rattle.folder_adding.specs.HostEntries.{entry_view}
use Rattle.folder_adding.specs.AddedText.{passed_lines}
use Rattle.folder_adding.proofs.passing.push_passed.Given as goal

-- behind the text the lines so far
abbrev pub invariant-loop-number : goal.invariant-loop-number
invariant-loop-number l =
    string_bytes l.text ≡ string_bytes l.fn.text ++ passed_lines (map entry_view l.entries) (take l.number-index l.passed)
