-- The places of a list that pass a test, and which places are lost.
use Rattle.std.proofs.Common.{◌≡◌, ◌≢◌, ℕ, Bool, true, false, List, get_or, refl, sym, ◌∙◌, ap, subst, arith}
use Rattle.std.specs.Prelude.{◌==◌, ◌↔◌, not, ◌&&◌}
use Rattle.std.specs.List.{Contains, list_any}
use Rattle.std.proofs.lemmas.List.Folds.{list_any_at, list_any_none}
use Rattle.std.proofs.lemmas.Bool.Decides.{nat_tests}
use Rattle.a2_device.specs.declared.part.Part.{Part}
use Rattle.vol_format.specs.Directory.{Directory, is_free}
use Rattle.vol_format.specs.Meaning.{Meaning}
use Rattle.vol_format.specs.Reach.{Reach, IsPartsOf}
use Rattle.vol_format.specs.Standing.{lost_places, IsLost}
use Rattle.vol_format.proofs.Filters.{in_filter, out_of_filter}
use Rattle.vol_check.proofs.Pushed.{element_at}

true_not_false : true ≡ false → ⊥
true_not_false e = cc

-- both tests of a lost place
both : (free taken : Bool) → (not free && not taken) ≡ true → (free ≡ false) × (taken ≡ false)
both true taken is = absurd (cc)
both false true is = absurd (cc)
both false false is = (refl, refl)

both_hold : (free taken : Bool) → free ≡ false → taken ≡ false → (not free && not taken) ≡ true
both_hold true taken is taken_is = absurd (cc)
both_hold false true is taken_is = absurd (cc)
both_hold false false is taken_is = refl

module _ (format : Meaning) (directory : Directory) (store : List (List ℕ)) (parts : List Part) (of : IsPartsOf format directory store parts) (place : ℕ) where
  abbrev taken : Bool
  taken = list_any (λ (part : Part). part.place == place) parts

  here : (part : Part) → part.place ≡ place → (part.place == place) ≡ true
  here part at = grind (arith, nat_tests)

  elsewhere : (part : Part) → part.place ≢ place → (part.place == place) ≡ false
  elsewhere part at = grind (arith, nat_tests)

  unreached_of : taken ≡ false → (part : Part) → Reach format directory store part → part.place ≢ place
  unreached_of none part reach same =
      let has = (of.members part).1 reach in
      let met = list_any_at (λ (p : Part). p.place == place) parts has.0 part has.1 (here (get_or parts has.0 part) (ap (λ (p : Part). p.place) has.2 ∙ same)) in
      true_not_false (sym met ∙ none)

  none_taken : ((part : Part) → Reach format directory store part → part.place ≢ place) → taken ≡ false
  none_taken unreached = list_any_none (λ (p : Part). p.place == place) parts
      (λ k d within. elsewhere (get_or parts k d) (unreached (get_or parts k d) ((of.members (get_or parts k d)).0 (element_at parts k d within))))

  -- the lost places are those that are available, marked used and no part's
  pub lost_are : (lost : List ℕ) → lost ≡ lost_places directory parts → Contains lost place ↔ IsLost format directory store place
  lost_are lost is = (
    λ has.
        let passed = out_of_filter _ directory.available place (subst (λ xs. Contains xs place) is has) in
        let tests = both (is_free directory place) taken passed.1 in
        record { available = passed.0; marked = tests.0; unreached = unreached_of tests.1 },
    λ at. subst (λ xs. Contains xs place) (sym is)
        (in_filter _ directory.available place at.available (both_hold (is_free directory place) taken at.marked (none_taken at.unreached))),
  )
