use Rattle.std.proofs.Common.{◌≡◌, map, take}
use Rattle.file_cmds.proofs.command.list_entries.Given as goal

abbrev pub invariant-loop-file : goal.invariant-loop-file
invariant-loop-file g l =
    l.listed.items ≡ map (g.F.FileFormat.files l.format).shown (take l.file (g.F.Format.directory l.format l.volume).listed)
