-- There are no more lost places than available ones.
use Rattle.std.specs.Prelude.{◌<◌, ◌≤◌, ℕ, ◌==◌, Bool, not, ◌&&◌, List, length, filter}
use Rattle.std.specs.List.{list_any}
use Rattle.a2_device.specs.declared.part.Part.{Part}
use Rattle.std.proofs.Common.{refl, ap, arith}
use Rattle.std.proofs.lemmas.List.Filters.{length-filter_both}
use Rattle.vol_format.specs.Directory.{Directory, is_free}
use Rattle.vol_format.specs.Laws.{IsDirectory}
use Rattle.vol_format.specs.Meaning.{Meaning}
use Rattle.vol_check.specs.Told.{Told, IsToldOf}

pub few_lost : (format : Meaning) (directory : Directory) (told : Told) → IsDirectory format directory → IsToldOf directory told → length told.lost < 4294967296
few_lost format directory told of is = omega (arith, ap (λ (places : List ℕ). length places) is.lost, fewer (λ place. not (is_free directory place) && not (list_any (λ (part : Part). part.place == place) told.parts)), of.few_available)
  where
    fewer : (p : ℕ → Bool) → length (filter p directory.available) ≤ length directory.available
    fewer p = omega (arith, length-filter_both p (λ place. not (p place)) (λ place. refl) directory.available)
