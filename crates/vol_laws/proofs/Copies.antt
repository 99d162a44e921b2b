-- A unit written to a place at which no part stands.
use Rattle.std.specs.Prelude.{◌≡◌, ◌≢◌, ℕ, false, List, [], slice_set, Contains}
use Rattle.std.proofs.Common.{refl, sym, ◌∙◌, ap, length}
use Rattle.std.proofs.lemmas.List.{get_or-set_other}
use Rattle.std.proofs.Math.ListN.{length-set}
use Rattle.a2_device.specs.Device.{unit_at}
use Rattle.a2_device.specs.declared.part.Part.{Part}
use Rattle.vol_format.specs.Accepted.{IsAccepted}
use Rattle.vol_format.specs.Directory.{Directory, is_system}
use Rattle.vol_format.specs.Laws.{IsMovable}
use Rattle.vol_format.specs.Meaning.{Meaning, link_from}
use Rattle.vol_format.specs.Reach.{Reach, at_root, at_child}
use Rattle.vol_laws.specs.Kept.{IsKept, IsUnreached}
use Rattle.vol_laws.proofs.Kept.{is_kept}

module _ (format : Meaning) (directory : Directory) (store : List (List ℕ)) (place : ℕ) (unit : List ℕ) (unreached : IsUnreached format directory store place) where
  pub same_link : (part : Part) (i : ℕ) → part.place ≢ place → link_from format (slice_set store place unit) part i ≡ link_from format store part i
  same_link part i differ = ap (λ n. format.child n part (unit_at (slice_set store place unit) part.place) i) (length-set {A = List ℕ} store place unit)
      ∙ ap (λ u. format.child (length store) part u i) (get_or-set_other store place part.place unit [] differ)

  pub copy_keeps : (part : Part) → Reach format directory store part → Reach format directory (slice_set store place unit) part
  copy_keeps part (at_root file within is) = at_root file within is
  copy_keeps part (at_child {parent} i reach is) = at_child i (copy_keeps parent reach) (same_link parent i (unreached parent reach) ∙ is)

  copy_adds_none : (part : Part) → Reach format directory (slice_set store place unit) part → Reach format directory store part
  copy_adds_none part (at_root file within is) = at_root file within is
  copy_adds_none part (at_child {parent} i reach is) =
      let before = copy_adds_none parent reach in
      at_child i before (sym (same_link parent i (unreached parent before)) ∙ is)

  copy_accepted : IsMovable format → IsAccepted format directory store → is_system directory place ≡ false → IsAccepted format directory (slice_set store place unit)
  copy_accepted movable accepted outside = record {
    described = movable.outside store directory place unit accepted.described outside;
    no_wild = accepted.no_wild;
    no_other_type = accepted.no_other_type;
    sound = λ part reach.
        let before = copy_adds_none part reach in
        let sound = accepted.sound part before in
        record {
          no_wild = λ i wild. sound.no_wild i (sym (same_link part i (unreached part before)) ∙ wild);
          outside_system = sound.outside_system;
          marked = sound.marked;
        };
    once = λ part other here there at. accepted.once part other (copy_adds_none part here) (copy_adds_none other there) at;
  }

  pub copy_kept : IsMovable format → IsAccepted format directory store → Contains directory.available place
      → IsKept format directory directory store (slice_set store place unit)
  copy_kept movable accepted available = is_kept format directory directory store (slice_set store place unit) refl
      (copy_accepted movable accepted ((((movable.described store directory accepted.described).available_of place).0 available).1))
      copy_keeps copy_adds_none
      (λ part reach. get_or-set_other store place part.place unit [] (unreached part reach))
