-- The parts of one file are those among the parts of the volume that have its number.
use Rattle.std.specs.Prelude.{◌≡◌, ◌↔◌, ◌<◌, ℕ, ◌==◌, Bool, true, List, filter, Contains}
use Rattle.std.proofs.Common.{sym, subst, arith, get_or, ⊎_elim}
use Rattle.std.proofs.lemmas.Bool.Decides.{nat_tests}
use Rattle.std.proofs.lemmas.List.Kept.{AllPairs-filter}
use Rattle.a2_device.specs.declared.part.Part.{Part}
use Rattle.vol_format.specs.Directory.{Directory}
use Rattle.vol_format.specs.Meaning.{Meaning}
use Rattle.vol_format.specs.Reach.{Reach, Before, IsPartsOf}
use Rattle.vol_format.specs.Layout.{IsPartsOfFile}
use Rattle.vol_format.proofs.Lists.{same_elements, element, in_filter, out_of_filter}

module _ (format : Meaning) (directory : Directory) (store : List (List ℕ)) (all : List Part) (are : IsPartsOf format directory store all) (entry : ℕ) where
  abbrev is_of : Part → Bool
  is_of part = part.file == entry

  abbrev own : List Part
  own = filter is_of all

  same_number : (part : Part) → is_of part ≡ true → part.file ≡ entry
  same_number part is = grind (arith, nat_tests)

  is_own : (part : Part) → part.file ≡ entry → is_of part ≡ true
  is_own part is = grind (arith, nat_tests)

  own_part : (part : Part) → Contains own part → Reach format directory store part × (part.file ≡ entry)
  own_part part has =
      let kept = out_of_filter is_of all part has in
      ((are.members part).0 kept.0, same_number part kept.1)

  own_parts : IsPartsOfFile format directory store entry own
  own_parts = record {
    members = λ part. (own_part part, λ is. in_filter is_of all part ((are.members part).1 is.0) (is_own part is.1));
    ordered = λ i j d less within.
        let part = get_or own i d in
        let later = get_or own j d in
        let at = own_part part (element own i d (omega (arith, less, within))) in
        let later_at = own_part later (element own j d within) in
        ⊎_elim (λ files. absurd (omega (arith, files, at.1, later_at.1))) (λ ranks. ranks.1) (AllPairs-filter (Before format) is_of all are.ordered i j d less within);
  }

  pub one_files_parts : (parts : List Part) → IsPartsOfFile format directory store entry parts ↔ (parts ≡ filter (λ (part : Part). part.file == entry) all)
  one_files_parts parts = (
    λ is. same_elements (λ (part later : Part). format.rank part < format.rank later) (λ part later less more. omega (arith, less, more)) parts own is.ordered own_parts.ordered
        (λ part. (λ has. (own_parts.members part).1 ((is.members part).0 has), λ has. (is.members part).1 ((own_parts.members part).0 has))),
    λ same. subst (IsPartsOfFile format directory store entry) (sym same) own_parts,
  )
