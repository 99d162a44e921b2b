use Rattle.std.proofs.Common.{◌≡◌, ◌<◌, ℕ, false}
use Rattle.vol_format.specs.Directory.{entry_of}
use Rattle.file_formats.specs.FileNames.{name_view}
use Rattle.file_formats.specs.Files.{is_named}
use Rattle.file_formats.proofs.finding.find.Given as goal

abbrev pub invariant-loop-file : goal.invariant-loop-file
invariant-loop-file g l =
    (earlier : ℕ) → earlier < l.file → is_named (g.F.FileFormat.files l.format) (name_view l.name) (entry_of (g.F.Format.directory l.format l.volume) earlier) ≡ false
