use Rattle.std.proofs.Common.{◌≡◌, take}
use Rattle.edit_formats.specs.Deleted.{places_of_file}
use Rattle.file_edits.proofs.deleting.places_of_file.Given as goal

abbrev pub invariant-loop-part : goal.invariant-loop-part
invariant-loop-part g l = l.places.items ≡ places_of_file l.file (take l.part-index l.parts)
