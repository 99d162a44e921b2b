-- What is made of a part that cannot be taken up, and of one that can.
use Rattle.std.proofs.Common.{◌≡◌, ℕ, Bool, true, false, Option, Some, None, refl, sym, ap, ◌∙◌}
use Rattle.std.specs.Prelude.{not, ◌&&◌, if◌then◌else◌, slice_get, IfSome, IfNone}
use Rattle.std.specs.Option.{is_some}
use Rattle.std.proofs.lemmas.Option.{slice_get_within, get_or_from_slice_get}
use Rattle.a2_device.specs.declared.part.Part.{Part}
use Rattle.a2_device.specs.declared.fault.Fault.{Fault}
use Rattle.a2_device.specs.declared.fault.Fault.TheVariants.{InSystem, Shared}
use Rattle.vol_format.specs.Directory.{Directory, is_system}
use Rattle.vol_format.specs.Meaning.{Meaning}
use Rattle.vol_format.specs.Laws.{IsDirectory}
use Rattle.vol_check.specs.Walk.{Lists, hindrance_of, is_admitted, is_visited, admitted, taken_up, told}

pub hindered :
    (directory : Directory) (part : Part) (walk : Lists) (fault : Fault) → hindrance_of directory part walk ≡ Some fault
    → (is_admitted directory part walk ≡ false) × (admitted directory part walk ≡ told fault walk)
hindered directory part walk fault = by_tests (is_system directory part.place) (is_visited walk part.place)
  where
    by_tests : (system met : Bool) → (if system then Some (InSystem part.place) else (if met then Some (Shared part.place) else None)) ≡ Some fault
        → ((not system && not met) ≡ false)
        × ((if system then told (InSystem part.place) walk else (if met then told (Shared part.place) walk else taken_up directory part walk)) ≡ told fault walk)
    by_tests true met is =
        let same : InSystem part.place ≡ fault = cc in
        (refl, ap (λ (f : Fault). told f walk) same)
    by_tests false true is =
        let same : Shared part.place ≡ fault = cc in
        (refl, ap (λ (f : Fault). told f walk) same)
    by_tests false false is = cc

pub unhindered :
    (directory : Directory) (part : Part) (walk : Lists) → hindrance_of directory part walk ≡ None
    → (is_admitted directory part walk ≡ true) × (admitted directory part walk ≡ taken_up directory part walk)
unhindered directory part walk = by_tests (is_system directory part.place) (is_visited walk part.place)
  where
    by_tests : (system met : Bool) → (if system then Some (InSystem part.place) else (if met then Some (Shared part.place) else None)) ≡ None
        → ((not system && not met) ≡ true)
        × ((if system then told (InSystem part.place) walk else (if met then told (Shared part.place) walk else taken_up directory part walk)) ≡ taken_up directory part walk)
    by_tests true met is = cc
    by_tests false true is = cc
    by_tests false false is = (refl, refl)

-- a place is the system's where it has no number, and where it has one it is not
pub system_place : (directory : Directory) (place : ℕ) (found : Option ℕ) → is_some found ≡ false → IfNone found (is_system directory place ≡ true) → is_system directory place ≡ true
system_place directory place None none told_of_none = told_of_none
system_place directory place (Some number) none told_of_none = cc

pub numbered_place :
    (format : Meaning) (directory : Directory) (place : ℕ) (found : Option ℕ) → IsDirectory format directory → is_some found ≡ true
    → IfSome found (λ number. slice_get directory.available number ≡ Some place) → is_system directory place ≡ false
numbered_place format directory place None is_directory some is = cc
numbered_place format directory place (Some number) is_directory some is =
    let within = slice_get_within directory.available number place is in
    ((is_directory.available_of place).0 (number, within, get_or_from_slice_get directory.available number place _ is)).1

pub system_hinders : (directory : Directory) (part : Part) (walk : Lists) → is_system directory part.place ≡ true → Some (InSystem part.place) ≡ hindrance_of directory part walk
system_hinders directory part walk system =
    sym (ap (λ b. if b then Some (InSystem part.place) else (if is_visited walk part.place then Some (Shared part.place) else None)) system)

pub not_system : (directory : Directory) (part : Part) (walk : Lists) (met : Bool) → is_system directory part.place ≡ false → is_visited walk part.place ≡ met
    → (if met then Some (Shared part.place) else None) ≡ hindrance_of directory part walk
not_system directory part walk met outside_system is =
    sym (ap (λ b. if b then Some (InSystem part.place) else (if is_visited walk part.place then Some (Shared part.place) else None)) outside_system
    ∙ ap (λ b. if b then Some (Shared part.place) else None) is)
