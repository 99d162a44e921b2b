-- The first fault of a kind that is of a file.
use Rattle.std.proofs.Common.{◌≡◌, ◌<◌, ℕ, zero, suc, Bool, true, false, List, [], ◌∷◌, Option, Some, None, length, get_or, cond, refl, ◌∙◌, ap, arith}
use Rattle.std.specs.Prelude.{slice_get, zip}
use Rattle.std.specs.List.{find}
use Rattle.a2_device.specs.declared.fault.Fault.{Fault}

module _ (p : Fault → Bool) where
  abbrev First : List Fault → List ℕ → Option (Fault × ℕ)
  First faults files = find (λ (told : Fault × ℕ). p told.0) (zip faults files)

  passes : (fault : Fault) (file : ℕ) (faults : List Fault) (files : List ℕ) → p fault ≡ true → First (fault ∷ faults) (file ∷ files) ≡ Some (fault, file)
  passes fault file faults files is = ap (λ b. cond b (Some (fault, file)) (First faults files)) is

  skips : (fault : Fault) (file : ℕ) (faults : List Fault) (files : List ℕ) → p fault ≡ false → First (fault ∷ faults) (file ∷ files) ≡ First faults files
  skips fault file faults files is = ap (λ b. cond b (Some (fault, file)) (First faults files)) is

  pub found : (faults : List Fault) (files : List ℕ) (number file : ℕ) (d : Fault) → number < length faults → p (get_or faults number d) ≡ true
      → ((earlier : ℕ) → earlier < number → p (get_or faults earlier d) ≡ false) → slice_get files number ≡ Some file
      → First faults files ≡ Some (get_or faults number d, file)
  found [] files number file d within hit miss at = absurd (omega (arith, within))
  found (fault ∷ faults) [] number file d within hit miss at = absurd (cc)
  found (fault ∷ faults) (f ∷ files) zero file d within hit miss at =
      let same : f ≡ file = cc in
      passes fault f faults files hit ∙ ap (λ n. Some (fault, n)) same
  found (fault ∷ faults) (f ∷ files) (suc number) file d within hit miss at =
      skips fault f faults files (miss zero (omega arith))
      ∙ found faults files number file d (omega (arith, within)) hit (λ earlier before. miss (suc earlier) (omega (arith, before))) at

  pub lacking : (faults : List Fault) (files : List ℕ) (number : ℕ) (d : Fault) → ((earlier : ℕ) → earlier < number → p (get_or faults earlier d) ≡ false)
      → slice_get files number ≡ None → First faults files ≡ None
  lacking [] files number d miss at = refl
  lacking (fault ∷ faults) [] number d miss at = refl
  lacking (fault ∷ faults) (f ∷ files) zero d miss at = absurd (cc)
  lacking (fault ∷ faults) (f ∷ files) (suc number) d miss at =
      skips fault f faults files (miss zero (omega arith))
      ∙ lacking faults files number d (λ earlier before. miss (suc earlier) (omega (arith, before))) at

  pub missing : (faults : List Fault) (files : List ℕ) (d : Fault) → ((number : ℕ) → number < length faults → p (get_or faults number d) ≡ false) → First faults files ≡ None
  missing [] files d miss = refl
  missing (fault ∷ faults) [] d miss = refl
  missing (fault ∷ faults) (f ∷ files) d miss =
      skips fault f faults files (miss zero (omega arith)) ∙ missing faults files d (λ number within. miss (suc number) (omega (arith, within)))
