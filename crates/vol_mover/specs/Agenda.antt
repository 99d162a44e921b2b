-- What an agenda shows of the write that comes next.
use Rattle.std.specs.Prelude.{List, [], ◌∷◌, Option, Some, None}
use Rattle.vol_laws.specs.declared.mark.Mark.{Mark}
use Rattle.vol_mover.specs.Tasks.{Task, Map, Copy, Pointer}
use Rattle.vol_mover.specs.declared.write.Write.{Write}
use Rattle.vol_mover.specs.declared.write.Write.TheVariants.{Map as MapWrite, Copy as CopyWrite, Pointer as PointerWrite}

abbrev pub next_write : List Task → Option Write
next_write [] = None
next_write (Map at marks ∷ tasks) = Some (MapWrite at)
next_write (Copy move ∷ tasks) = Some (CopyWrite move)
next_write (Pointer move ∷ tasks) = Some (PointerWrite move)

-- the marks of a write of the map; of another none
abbrev pub next_marks : List Task → List Mark
next_marks (Map at marks ∷ tasks) = marks
next_marks tasks = []
