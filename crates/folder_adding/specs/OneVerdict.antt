-- What the law on verdicts says.
use Rattle.std.specs.Prelude.{◌≡◌}
use Rattle.folder_adding.specs.HostEntries.{EntryView}
use Rattle.folder_adding.specs.Verdicts.{AddedFolder, IsVerdict, Verdict}

-- an entry makes one step at most, is refused for one cause at most, and never both
abbrev pub HasOneVerdict : AddedFolder → EntryView → Type 0
HasOneVerdict folder entry =
    (one other : Verdict) → IsVerdict folder entry one → IsVerdict folder entry other → one ≡ other
