-- The units of a plan written to lost places keep the files, and what is held there stays after a write to the system.
use Rattle.std.specs.Prelude.{◌<◌, ℕ, zero, suc, List, [], ◌∷◌}
use Rattle.std.proofs.Common.{refl, ◌∙◌, arith, subst}
use Rattle.a2_device.specs.declared.part.Part.{Part}
use Rattle.vol_format.specs.Accepted.{IsAccepted}
use Rattle.vol_format.specs.Directory.{Directory}
use Rattle.vol_format.specs.Laws.{IsReadable, IsMovable, IsDirectory}
use Rattle.vol_format.specs.Meaning.{Meaning}
use Rattle.vol_format.specs.Reach.{Reach}
use Rattle.vol_laws.specs.Kept.{IsKept}
use Rattle.vol_laws.proofs.Copies.{copy_kept}
use Rattle.vol_laws.proofs.Kept.{is_kept}
use Rattle.vol_laws.specs.Entered.{HasSameRest}
use Rattle.vol_laws.specs.Built.{Planned, place_of, AreHeld, AreLost, HasPlacesOnce, written}
use Rattle.vol_laws.proofs.Writing.{written_held, written_other}

record StaysAs (format : Meaning) (directory : Directory) (old new : List (List ℕ)) : Type 0 where
  accepted : IsAccepted format directory new
  keeps : (part : Part) → Reach format directory old part → Reach format directory new part
  adds_none : (part : Part) → Reach format directory new part → Reach format directory old part

module _ (format : Meaning) (readable : IsReadable format) (movable : IsMovable format) (directory : Directory) (store : List (List ℕ)) (accepted : IsAccepted format directory store) where
  stays : (planned : List Planned) → AreLost format directory store planned → StaysAs format directory store (written store planned)
  stays [] lost = record { accepted = accepted; keeps = λ part reach. reach; adds_none = λ part reach. reach }
  stays (plan ∷ planned) lost =
      let before = stays planned (λ k within. lost (suc k) (omega (arith, within))) in
      let first = lost zero (omega arith) in
      let kept = copy_kept format directory (written store planned) plan.part.place plan.unit (λ part reach. first.unreached part (before.adds_none part reach)) movable before.accepted first.available in
      record {
        accepted = kept.accepted;
        keeps = λ part reach. (kept.parts part).0 (before.keeps part reach);
        adds_none = λ part reach. before.adds_none part ((kept.parts part).1 reach);
      }

  pub written_kept : (planned : List Planned) → AreLost format directory store planned → IsKept format directory directory store (written store planned)
  written_kept planned lost =
      let so = stays planned lost in
      is_kept format directory directory store (written store planned) refl so.accepted so.keeps so.adds_none
      (λ part reach. written_other store planned part.place (λ k within. (lost k within).unreached part reach))

  pub still_lost : (planned : List Planned) → AreLost format directory store planned → AreLost format directory (written store planned) planned
  still_lost planned lost k within =
      let so = stays planned lost in
      let was = lost k within in
      record { available = was.available; marked = was.marked; unreached = λ part reach. was.unreached part (so.adds_none part reach) }

  pub plan_held : (planned : List Planned) → AreLost format directory store planned
      → HasPlacesOnce planned → AreHeld (written store planned) planned
  plan_held planned lost once = written_held store planned once (λ k within.
      subst (λ n. place_of planned k < n) (readable.all_places store directory accepted.described)
      (((movable.described store directory accepted.described).available_of (place_of planned k)).0 (lost k within).available).0)

pub held_after : (format : Meaning) (directory : Directory) → IsDirectory format directory → (old new : List (List ℕ)) (planned : List Planned)
    → AreLost format directory old planned → HasSameRest directory old new → AreHeld old planned → AreHeld new planned
held_after format directory described old new planned lost rest held k within =
    rest.units (place_of planned k) ((described.available_of (place_of planned k)).0 (lost k within).available).1 ∙ held k within
