-- A directory in which places are marked.
use Rattle.std.specs.Prelude.{◌≡◌, ℕ, false, List, [], ◌∷◌, All}
use Rattle.std.proofs.Common.{refl, ◌∙◌, ap, inl, inr}
use Rattle.std.proofs.lemmas.Bool.{cases_eq}
use Rattle.std.proofs.lemmas.List.Elements.{All-head, All-tail}
use Rattle.vol_format.specs.Directory.{Directory, is_free, remapped}
use Rattle.vol_laws.specs.Marked.{marked}
use Rattle.vol_laws.specs.declared.mark.Mark.{Mark}
use Rattle.vol_laws.proofs.Marks.{marked_used, other_mark}

pub marked_listed : (marks : List Mark) (directory : Directory) → (marked directory marks).listed ≡ directory.listed
marked_listed [] directory = refl
marked_listed (mark ∷ marks) directory = marked_listed marks (remapped directory mark.place mark.free)

pub marked_system : (marks : List Mark) (directory : Directory) → (marked directory marks).system ≡ directory.system
marked_system [] directory = refl
marked_system (mark ∷ marks) directory = marked_system marks (remapped directory mark.place mark.free)

-- marks of use free no place
pub used_stays : (marks : List Mark) (directory : Directory) (place : ℕ) → All (λ (mark : Mark). mark.free ≡ false) marks
    → is_free directory place ≡ false → is_free (marked directory marks) place ≡ false
used_stays [] directory place used is = is
used_stays (mark ∷ marks) directory place used is =
    used_stays marks (remapped directory mark.place mark.free) place (All-tail (λ (m : Mark). m.free ≡ false) mark marks used) one
  where
    one : is_free (remapped directory mark.place mark.free) place ≡ false
    one = elim (cases_eq place mark.place) [
      | inl same ↦
          ap (is_free (remapped directory mark.place mark.free)) same
          ∙ ap (λ b. is_free (remapped directory mark.place b) mark.place) (All-head (λ (m : Mark). m.free ≡ false) mark marks used)
          ∙ marked_used directory mark.place
      | inr differ ↦ other_mark directory mark.place mark.free place differ ∙ is
    ]
