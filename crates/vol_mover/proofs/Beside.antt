-- Places that are marked free in the write that marks one used.
use Rattle.std.proofs.Common.{◌≡◌, ℕ, ◌+◌, ◌<◌, Bool, true, false, List, [], ◌∷◌, ◌++◌, length, map, drop, get_or, refl, ap, sym, ◌∙◌, append_assoc, drop-cons, add-one}
use Rattle.std.specs.Prelude.{◌==◌, ◌&&◌, not}
use Rattle.vol_format.specs.Directory.{Directory, map_place}
use Rattle.vol_mover.specs.Drafts.{Drafted}
use Rattle.vol_mover.specs.Writes.{freed, beside}

-- whether a place is marked beside another
abbrev pub is_beside : Directory → ℕ → ℕ → Bool
is_beside directory place other = not (other == place) && (map_place directory other == map_place directory place)

-- those of the places before index i are marked
pub record IsReleasingBeside (directory : Directory) (place : ℕ) (lost : List ℕ) (first : Drafted) (i : ℕ) (draft : Drafted) : Type 0 where
  pub tasks : draft.tasks ≡ first.tasks
  pub marks : draft.marks ++ map freed (beside directory place (drop i lost)) ≡ first.marks ++ map freed (beside directory place lost)

pub beside-none : (directory : Directory) (place : ℕ) (lost : List ℕ) (draft : Drafted) → IsReleasingBeside directory place lost draft 0 draft
beside-none directory place lost draft = record { tasks = refl; marks = refl }

module _ (directory : Directory) (place : ℕ) (lost : List ℕ) (first : Drafted) (i : ℕ) (draft : Drafted)
    (is : IsReleasingBeside directory place lost first i draft) where
  next_lost : i < length lost → drop i lost ≡ get_or lost i 0 ∷ drop (i + 1) lost
  next_lost within = rw (add-one i) (drop-cons lost i 0 within)

  kept : (other : ℕ) (rest : List ℕ) → is_beside directory place other ≡ true → beside directory place (other ∷ rest) ≡ other ∷ beside directory place rest
  kept other rest e = rw e refl

  left_out : (other : ℕ) (rest : List ℕ) → is_beside directory place other ≡ false → beside directory place (other ∷ rest) ≡ beside directory place rest
  left_out other rest e = rw e refl

  pub beside-more : i < length lost → is_beside directory place (get_or lost i 0) ≡ true
      → IsReleasingBeside directory place lost first (i + 1) (record draft { marks = draft.marks ++ freed (get_or lost i 0) ∷ [] })
  beside-more within e = record {
    tasks = is.tasks;
    marks =
        append_assoc draft.marks (freed (get_or lost i 0) ∷ []) (map freed (beside directory place (drop (i + 1) lost)))
        ∙ (ap (λ ps. draft.marks ++ map freed ps)
        (sym (kept (get_or lost i 0) (drop (i + 1) lost) e) ∙ ap (beside directory place) (sym (next_lost within))) ∙ is.marks);
  }

  pub beside-skipped : i < length lost → is_beside directory place (get_or lost i 0) ≡ false → IsReleasingBeside directory place lost first (i + 1) draft
  beside-skipped within e = record {
    tasks = is.tasks;
    marks = ap (λ ps. draft.marks ++ map freed ps)
        (sym (left_out (get_or lost i 0) (drop (i + 1) lost) e) ∙ ap (beside directory place) (sym (next_lost within))) ∙ is.marks;
  }
