-- The write that an agenda shows, and the first of its tasks.
use Rattle.std.specs.Prelude.{◌≡◌, ℕ, List, [], ◌∷◌, Some}
use Rattle.std.proofs.Common.{refl, ap}
use Rattle.vol_layout.specs.declared.moves.Move.{Move}
use Rattle.vol_mover.specs.Agenda.{next_write, next_marks}
use Rattle.vol_mover.specs.Tasks.{Task, Map, Copy, Pointer}
use Rattle.vol_mover.specs.declared.write.Write.{Write}
use Rattle.vol_mover.specs.declared.write.Write.TheVariants.{Map as MapWrite, Copy as CopyWrite, Pointer as PointerWrite}

-- the write of a task
abbrev pub write_of : Task → Write
write_of (Map at marks) = MapWrite at
write_of (Copy move) = CopyWrite move
write_of (Pointer move) = PointerWrite move

pub first_of : (tasks : List Task) (write : Write) → next_write tasks ≡ Some write → (task : Task) × (rest : List Task) × (tasks ≡ task ∷ rest) × (write_of task ≡ write)
first_of [] write e = absurd (cc)
first_of (Map at marks ∷ rest) write e = (Map at marks, rest, refl, cc)
first_of (Copy move ∷ rest) write e = (Copy move, rest, refl, cc)
first_of (Pointer move ∷ rest) write e = (Pointer move, rest, refl, cc)

pub map_first : (tasks : List Task) (at : ℕ) → next_write tasks ≡ Some (MapWrite at) → (rest : List Task) × (tasks ≡ Map at (next_marks tasks) ∷ rest)
map_first [] at e = absurd (cc)
map_first (Map here marks ∷ rest) at e = let same : here ≡ at = cc in (rest, ap (λ n. Map n marks ∷ rest) same)
map_first (Copy move ∷ rest) at e = absurd (cc)
map_first (Pointer move ∷ rest) at e = absurd (cc)

pub copy_first : (tasks : List Task) (move : Move) → next_write tasks ≡ Some (CopyWrite move) → (rest : List Task) × (tasks ≡ Copy move ∷ rest)
copy_first [] move e = absurd (cc)
copy_first (Map here marks ∷ rest) move e = absurd (cc)
copy_first (Copy other ∷ rest) move e = let same : other ≡ move = cc in (rest, ap (λ m. Copy m ∷ rest) same)
copy_first (Pointer other ∷ rest) move e = absurd (cc)

pub pointer_first : (tasks : List Task) (move : Move) → next_write tasks ≡ Some (PointerWrite move) → (rest : List Task) × (tasks ≡ Pointer move ∷ rest)
pointer_first [] move e = absurd (cc)
pointer_first (Map here marks ∷ rest) move e = absurd (cc)
pointer_first (Copy other ∷ rest) move e = absurd (cc)
pointer_first (Pointer other ∷ rest) move e = let same : other ≡ move = cc in (rest, ap (λ m. Pointer m ∷ rest) same)
