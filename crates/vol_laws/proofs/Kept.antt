-- A write that moves no part, from what it does to the tree of parts and to their units.
use Rattle.std.specs.Prelude.{◌≡◌, ℕ, List}
use Rattle.std.proofs.Common.{refl, sym, ◌∙◌, ap}
use Rattle.a2_device.specs.Device.{unit_at}
use Rattle.a2_device.specs.declared.part.Part.{Part}
use Rattle.vol_format.specs.Accepted.{IsAccepted}
use Rattle.vol_format.specs.Directory.{Directory, IsSameFrame}
use Rattle.vol_format.specs.Meaning.{Meaning}
use Rattle.vol_format.specs.Reach.{Reach, SameContents}
use Rattle.vol_format.proofs.Frames.{same_places}
use Rattle.vol_laws.specs.Kept.{IsKept}

module _ (format : Meaning) (before after : Directory) (old new : List (List ℕ)) (frame : IsSameFrame before after) (accepted : IsAccepted format after new)
    (keeps : (part : Part) → Reach format before old part → Reach format after new part)
    (adds_none : (part : Part) → Reach format after new part → Reach format before old part)
    (units : (part : Part) → Reach format before old part → unit_at new part.place ≡ unit_at old part.place) where
  content_stays : (part : Part) → Reach format before old part
      → format.content after.places part (unit_at new part.place) ≡ format.content before.places part (unit_at old part.place)
  content_stays part reach = ap (λ n. format.content n part (unit_at new part.place)) (same_places before after frame)
      ∙ ap (format.content before.places part) (units part reach)

  kept_contents : SameContents format before after old new
  kept_contents file kind number content = (
    λ has. record {
      part = has.part;
      reached = keeps has.part has.reached;
      in_file = has.in_file;
      of_kind = has.of_kind;
      numbered = has.numbered;
      is = content_stays has.part has.reached ∙ has.is;
    },
    λ has.
        let was = adds_none has.part has.reached in
        record {
          part = has.part;
          reached = was;
          in_file = has.in_file;
          of_kind = has.of_kind;
          numbered = has.numbered;
          is = sym (content_stays has.part was) ∙ has.is;
        },
  )

  pub is_kept : IsKept format before after old new
  is_kept = record {
    frame = frame;
    accepted = accepted;
    parts = λ part. (keeps part, adds_none part);
    units = units;
    contents = kept_contents;
  }

pub kept_same : (format : Meaning) (directory : Directory) (store : List (List ℕ)) → IsAccepted format directory store → IsKept format directory directory store store
kept_same format directory store accepted = is_kept format directory directory store store refl accepted (λ part reach. reach) (λ part reach. reach) (λ part reach. refl)

pub kept_then : (format : Meaning) (a b c : Directory) (s t u : List (List ℕ)) → IsKept format a b s t → IsKept format b c t u → IsKept format a c s u
kept_then format a b c s t u first then = is_kept format a c s u (then.frame ∙ first.frame) then.accepted
    (λ part reach. (then.parts part).0 ((first.parts part).0 reach))
    (λ part reach. (first.parts part).1 ((then.parts part).1 reach))
    (λ part reach. then.units part ((first.parts part).0 reach) ∙ first.units part reach)
