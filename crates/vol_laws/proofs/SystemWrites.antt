-- A write to the system's units that leaves the directory, as a count of files: the files are kept.
use Rattle.std.specs.Prelude.{◌≡◌, ◌≢◌, ℕ, true, false, List, [], slice_set}
use Rattle.std.proofs.Common.{refl, sym, ◌∙◌, ap}
use Rattle.std.proofs.lemmas.List.{get_or-set_other, length-set}
use Rattle.vol_format.specs.Accepted.{IsAccepted}
use Rattle.vol_format.specs.Directory.{Directory, is_system}
use Rattle.vol_format.specs.Meaning.{Meaning}
use Rattle.vol_laws.specs.Kept.{IsKept}
use Rattle.vol_laws.specs.Entered.{HasSameRest}
use Rattle.vol_laws.proofs.SameRoots.{same_roots_kept}

pub system_write_kept : (format : Meaning) (directory : Directory) (old new : List (List ℕ)) → IsAccepted format directory old → HasSameRest directory old new
    → format.Describes new directory → IsKept format directory directory old new
system_write_kept format directory old new accepted rest described =
    let kept = same_roots_kept format directory directory old new
    (record { count = refl; roots = λ file. refl; places = refl; system = refl; free = refl; available = refl })
    accepted rest described in
    record { frame = refl; accepted = kept.accepted; parts = kept.parts; units = kept.units; contents = kept.contents }

-- one unit of the system written
pub one_unit_rest : (directory : Directory) (store : List (List ℕ)) (place : ℕ) (unit : List ℕ) → is_system directory place ≡ true
    → HasSameRest directory store (slice_set store place unit)
one_unit_rest directory store place unit system = record {
  size = length-set store place unit;
  units = λ other outside. get_or-set_other store place other unit [] (apart other outside);
}
  where
    both : true ≡ false → ⊥
    both e = cc

    apart : (other : ℕ) → is_system directory other ≡ false → other ≢ place
    apart other outside same = both (sym system ∙ ap (is_system directory) (sym same) ∙ outside)
