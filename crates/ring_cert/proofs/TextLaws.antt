-- The laws of texts, and that the certificate of a shortest plan is good.
use Rattle.std.proofs.Common.{◌≡◌, ℕ, ◌+◌, List, [], ◌++◌, length, refl, sym, ◌∙◌, subst}
use Rattle.std.proofs.lemmas.List.{append-nil}
use Rattle.vol_layout.specs.declared.moves.Move.{Move}
use Rattle.vol_layout.specs.Layouts.{Placement, IsTarget, misplaced}
use Rattle.vol_layout.specs.Plans.{IsPlan, after}
use Rattle.vol_layout.specs.Rings.{AreAllRings, IsDeficit}
use Rattle.vol_layout.proofs.LowerBound.{misplaced_distinct, misplaced_each, apart_from_once}
use Rattle.vol_layout.proofs.Deficits.{deficit_is_one}
use Rattle.ring_cert.specs.Certificates.{Certificate, HasText, certificate_of, certificate_text}
use Rattle.ring_cert.specs.Good.{IsGood}
use Rattle.ring_cert.proofs.Texts.{text_same}

pub text_injective : (c d : Certificate) → HasText c → HasText d → certificate_text c ≡ certificate_text d → c ≡ d
text_injective c d has has' e =
    (text_same c d [] [] has has' (append-nil (certificate_text c) ∙ (e ∙ sym (append-nil (certificate_text d))))).0

pub text_alone : (c d : Certificate) (more : List ℕ) → HasText c → HasText d → certificate_text c ≡ certificate_text d ++ more → more ≡ []
text_alone c d more has has' e = sym (text_same c d [] more has has' (append-nil (certificate_text c) ∙ e)).1

pub shortest_is_good :
    (layout : Placement) (rings : List (List ℕ)) (moves : List Move) (c : Certificate)
    → IsPlan layout.at layout.places moves → IsTarget (after layout.at moves) → IsDeficit layout.at (length moves) → AreAllRings layout.at rings
    → HasText (certificate_of layout (misplaced layout.at) rings moves) → HasText c
    → certificate_text c ≡ certificate_text (certificate_of layout (misplaced layout.at) rings moves) → IsGood layout c
shortest_is_good layout rings moves c legal target deficit all has has' e =
    let count : length moves ≡ length (misplaced layout.at) + length rings =
    deficit_is_one layout.at (length moves) (length (misplaced layout.at) + length rings) deficit (rings, all, refl) in
    subst (IsGood layout) (sym (text_injective c (certificate_of layout (misplaced layout.at) rings moves) has' has e))
    (record {
      same = (refl, refl);
      misplaced = misplaced_each layout.at;
      distinct = misplaced_distinct layout.at;
      rings = all.each;
      apart = apart_from_once layout.at rings all;
      plan = legal;
      target = target;
      sum = (refl, sym count);
    })
