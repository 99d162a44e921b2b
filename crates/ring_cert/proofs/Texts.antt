-- The texts of certificates: each has one certificate, none goes on behind another, and where a text that is none stops.
use Rattle.std.proofs.Common.{◌≡◌, ◌≢◌, ℕ, List, [], ◌∷◌, ◌++◌, length, arith, refl, sym, ap, ◌∙◌, append_assoc, inl}
use Rattle.std.specs.List.{All}
use Rattle.std.proofs.lemmas.List.{append-nil, length-append}
use Rattle.std.proofs.lemmas.List.Elements.{All-nil}
use Rattle.vol_layout.specs.declared.moves.Move.{Move}
use Rattle.ring_cert.specs.Certificates.{AreWholeLines, Certificate, HasText, IsSmall, IsRingTold, IsMoveTold, certificate_text, layout_text, claim_text, plan_text}
use Rattle.ring_cert.specs.Reading.{HasNoFeed, BeginsOtherwise, IsLeft, IsLeftOver, LayoutFits, layout_lines, ClaimFits, claim_lines, PlanFits, StopsAt, StopsReading}
use Rattle.ring_cert.specs.declared.sections.Stop.{Stop}
use Rattle.ring_cert.specs.declared.sections.Stop.TheVariants.{Fault, OutOfMemory}
use Rattle.ring_cert.proofs.LineForms.{whole_append}
use Rattle.ring_cert.proofs.SameSections.{layout_same, claim_same, plan_same}
use Rattle.ring_cert.proofs.Stops.{layout_whole, claim_whole, plan_whole}

-- a text, with its sections and what follows it apart
text_apart : (c : Certificate) (more : List ℕ) → certificate_text c ++ more ≡ layout_text c.at c.places ++ (claim_text c.off c.rings c.bound ++ (plan_text c.moves ++ more))
text_apart c more =
    append_assoc (layout_text c.at c.places) (claim_text c.off c.rings c.bound ++ plan_text c.moves) more
    ∙ ap (λ bs. layout_text c.at c.places ++ bs) (append_assoc (claim_text c.off c.rings c.bound) (plan_text c.moves) more)

layout_fits : (c : Certificate) → HasText c → LayoutFits (c.at, c.places)
layout_fits c has = (has.parts, has.at, has.places)

claim_fits : (c : Certificate) → HasText c → ClaimFits (c.off, c.rings, c.bound)
claim_fits c has = (has.off, has.rings, has.bound)

same_certificate :
    (c d : Certificate) → c.at ≡ d.at → c.places ≡ d.places → c.off ≡ d.off → c.rings ≡ d.rings → c.bound ≡ d.bound → c.moves ≡ d.moves → c ≡ d
same_certificate c d p q r s t u =
    let by_at : List ℕ → Certificate = λ x. record c { at = x } in
    let by_places : ℕ → Certificate = λ x. record c { at = d.at; places = x } in
    let by_off : List ℕ → Certificate = λ x. record c { at = d.at; places = d.places; off = x } in
    let by_rings : List (List ℕ) → Certificate = λ x. record c { at = d.at; places = d.places; off = d.off; rings = x } in
    let by_bound : ℕ → Certificate = λ x. record d { bound = x; moves = c.moves } in
    let by_moves : List Move → Certificate = λ x. record d { moves = x } in
    ap by_at p ∙ (ap by_places q ∙ (ap by_off r ∙ (ap by_rings s ∙ (ap by_bound t ∙ ap by_moves u))))

-- a text is whole lines
text_whole : (c : Certificate) → AreWholeLines (certificate_text c)
text_whole c =
    whole_append (layout_text c.at c.places) (claim_text c.off c.rings c.bound ++ plan_text c.moves) (layout_whole (length c.at) c.places c.at)
    (whole_append (claim_text c.off c.rings c.bound) (plan_text c.moves) (claim_whole c.off c.rings c.bound) (plan_whole c.moves))

-- one text, one certificate, whatever follows
pub text_same :
    (c d : Certificate) (u v : List ℕ) → HasText c → HasText d → certificate_text c ++ u ≡ certificate_text d ++ v → (c ≡ d) × (u ≡ v)
text_same c d u v has has' e =
    let layouts =
    layout_same c.at c.places d.at d.places (claim_text c.off c.rings c.bound ++ (plan_text c.moves ++ u)) (claim_text d.off d.rings d.bound ++ (plan_text d.moves ++ v))
    (layout_fits c has) (layout_fits d has') (sym (text_apart c u) ∙ (e ∙ text_apart d v)) in
    let claims =
    claim_same c.off c.rings c.bound d.off d.rings d.bound (plan_text c.moves ++ u) (plan_text d.moves ++ v) (claim_fits c has) (claim_fits d has') layouts.2 in
    let plans = plan_same c.moves d.moves u v has.moves has'.moves claims.3 in
    (same_certificate c d layouts.0 layouts.1 claims.0 claims.1 claims.2 plans.0, plans.1)

-- a line at the front of others, up to its line feed
line_in_front :
    (body next line m more : List ℕ) → HasNoFeed body → line ++ 10 ∷ m ≡ body ++ 10 ∷ next → (k : List ℕ) × (line ++ 10 ∷ more ≡ body ++ 10 ∷ k)
line_in_front [] next [] m more plain e = (more, refl)
line_in_front [] next (l ∷ line) m more plain e =
    let heads : l ≡ 10 = cc in
    (line ++ 10 ∷ more, ap (λ b. b ∷ (line ++ 10 ∷ more)) heads)
line_in_front (b ∷ body) next [] m more plain e = absurd (plain.0 (sym (let heads : 10 ≡ b = cc in heads)))
line_in_front (b ∷ body) next (l ∷ line) m more plain e =
    let heads : l ≡ b = cc in
    let tails : line ++ 10 ∷ m ≡ body ++ 10 ∷ next = cc in
    let rest = line_in_front body next line m more plain.1 tails in
    (rest.0, ap (λ c. c ∷ (line ++ 10 ∷ more)) heads ∙ ap (λ bs. b ∷ bs) rest.1)

-- what does not go on as the bytes do
not_here : (rest line m more : List ℕ) → rest ≡ line ++ 10 ∷ more → BeginsOtherwise (line ++ 10 ∷ m) rest → ⊥
not_here rest line m more is other =
    let found = line_in_front other.body other.next line m more other.whole other.is in
    other.lacks found.0 (is ∙ found.1)

four_apart : (a b c d : List ℕ) → ((a ++ b) ++ c ++ 10 ∷ []) ++ d ≡ a ++ (b ++ (c ++ 10 ∷ d))
four_apart a b c d = simp append_assoc

-- where a section stops behind others, no text of a certificate goes on
module _ {X : Type 0} (Fits : X → Type 0) (text : X → List ℕ) (before : List ℕ) (lines : AreWholeLines before)
    (extends : (x : X) → Fits x → (c : Certificate) × (more : List ℕ) × HasText c × (certificate_text c ≡ before ++ (text x ++ more)))
    (has_section : (c : Certificate) (tail : List ℕ) → HasText c → certificate_text c ≡ before ++ tail → (x : X) × (after : List ℕ) × Fits x × (text x ++ after ≡ tail)) where
  section_stop : (bytes mid rest : List ℕ) → bytes ≡ before ++ mid → IsLeft Fits text mid rest → IsLeftOver bytes rest
  section_stop bytes mid rest is left =
      record {
        front = before ++ left.front;
        split = is ∙ (ap (λ bs. before ++ bs) left.split ∙ sym (append_assoc before left.front rest));
        lines = whole_append before left.front lines left.lines;
        before = (
            let made = extends left.found left.fits in (
              made.0,
              left.more ++ made.1,
              made.2,
              made.3 ∙ (ap (λ bs. before ++ (bs ++ made.1)) left.begins ∙ (ap (λ bs. before ++ bs) (append_assoc left.front left.more made.1)
                  ∙ sym (append_assoc before left.front (left.more ++ made.1)))),
            )
            );
        here = λ body more e can.
            let tail = left.front ++ (body ++ 10 ∷ can.1) in
            let apart : certificate_text can.0 ≡ before ++ tail = can.3 ∙ four_apart before left.front body can.1 in
            let section = has_section can.0 tail can.2 apart in
            not_here rest body can.1 more e (left.otherwise section.0 section.1 (body ++ 10 ∷ can.1) section.2 section.3);
        none = λ c has e.
            let section = has_section c mid has (sym e ∙ is) in
            let other = left.otherwise section.0 section.1 rest section.2 (section.3 ∙ left.split) in
            other.lacks other.next other.is;
      }

-- the three sections
no_moves : All IsMoveTold []
no_moves = All-nil IsMoveTold

pub stop_in_layout : (bytes rest : List ℕ) → IsLeft LayoutFits layout_lines bytes rest → IsLeftOver bytes rest
stop_in_layout bytes rest left =
    section_stop LayoutFits layout_lines [] (inl refl)
    (λ x fits. (
      record { at = x.0; places = x.1; off = []; rings = []; bound = 0; moves = [] },
      claim_text [] [] 0 ++ plan_text [],
      record { parts = fits.0; at = fits.1; places = fits.2; off = All-nil IsSmall; rings = All-nil IsRingTold; bound = omega arith; moves = no_moves },
      refl,
    ))
    (λ c tail has e. ((c.at, c.places), claim_text c.off c.rings c.bound ++ plan_text c.moves, layout_fits c has, e))
    bytes bytes rest refl left

pub stop_in_claim :
    (at : List ℕ) (places : ℕ) (bytes mid rest : List ℕ) → LayoutFits (at, places) → bytes ≡ layout_text at places ++ mid
    → IsLeft ClaimFits claim_lines mid rest → IsLeftOver bytes rest
stop_in_claim at places bytes mid rest fits is left =
    section_stop ClaimFits claim_lines (layout_text at places) (layout_whole (length at) places at)
    (λ x claim. (
      record { at = at; places = places; off = x.0; rings = x.1; bound = x.2; moves = [] },
      plan_text [],
      record { parts = fits.0; at = fits.1; places = fits.2; off = claim.0; rings = claim.1; bound = claim.2; moves = no_moves },
      refl,
    ))
    (λ c tail has e. (
      (c.off, c.rings, c.bound),
      plan_text c.moves,
      claim_fits c has,
      (layout_same c.at c.places at places (claim_text c.off c.rings c.bound ++ plan_text c.moves) tail (layout_fits c has) fits e).2,
    ))
    bytes mid rest is left

pub stop_in_plan :
    (at : List ℕ) (places : ℕ) (off : List ℕ) (rings : List (List ℕ)) (bound : ℕ) (bytes claimed mid rest : List ℕ)
    → LayoutFits (at, places) → ClaimFits (off, rings, bound) → bytes ≡ layout_text at places ++ claimed → claimed ≡ claim_text off rings bound ++ mid
    → IsLeft PlanFits plan_text mid rest → IsLeftOver bytes rest
stop_in_plan at places off rings bound bytes claimed mid rest fits claim is is_claim left =
    section_stop PlanFits plan_text (layout_text at places ++ claim_text off rings bound)
    (whole_append (layout_text at places) (claim_text off rings bound) (layout_whole (length at) places at) (claim_whole off rings bound))
    (λ x plan. (
      record { at = at; places = places; off = off; rings = rings; bound = bound; moves = x },
      [],
      record { parts = fits.0; at = fits.1; places = fits.2; off = claim.0; rings = claim.1; bound = claim.2; moves = plan },
      sym (append_assoc (layout_text at places) (claim_text off rings bound) (plan_text x))
          ∙ ap (λ bs. (layout_text at places ++ claim_text off rings bound) ++ bs) (sym (append-nil (plan_text x))),
    ))
    (λ c tail has e.
    let layouts =
    layout_same c.at c.places at places (claim_text c.off c.rings c.bound ++ plan_text c.moves) (claim_text off rings bound ++ tail) (layout_fits c has) fits
    (e ∙ append_assoc (layout_text at places) (claim_text off rings bound) tail) in
    let claims =
    claim_same c.off c.rings c.bound off rings bound (plan_text c.moves) tail (claim_fits c has) claim layouts.2 in
    (c.moves, [], has.moves, append-nil (plan_text c.moves) ∙ claims.3))
    bytes mid rest (is ∙ (ap (λ bs. layout_text at places ++ bs) is_claim ∙ sym (append_assoc (layout_text at places) (claim_text off rings bound) mid))) left

-- bytes behind the end
pub stop_behind : (c : Certificate) (bytes rest : List ℕ) → HasText c → bytes ≡ certificate_text c ++ rest → rest ≢ [] → IsLeftOver bytes rest
stop_behind c bytes rest has is some =
    record {
      front = certificate_text c;
      split = is;
      lines = text_whole c;
      before = (c, [], has, sym (append-nil (certificate_text c)));
      here = λ body more e can.
          let apart : certificate_text can.0 ++ [] ≡ certificate_text c ++ (body ++ 10 ∷ can.1) =
          append-nil (certificate_text can.0) ∙ (can.3 ∙ four_apart [] (certificate_text c) body can.1) in
          let ends : [] ≡ body ++ 10 ∷ can.1 = (text_same can.0 c [] (body ++ 10 ∷ can.1) can.2 has apart).1 in
          omega (arith, ap length ends, length-append body (10 ∷ can.1));
      none = λ d has' e. some (sym (text_same d c [] rest has' has (append-nil (certificate_text d) ∙ (sym e ∙ is))).1);
    }

-- the sections of a text that is read whole
pub text_read :
    (c : Certificate) (bytes claimed planned rest : List ℕ) → bytes ≡ layout_text c.at c.places ++ claimed
    → claimed ≡ claim_text c.off c.rings c.bound ++ planned → planned ≡ plan_text c.moves ++ rest → bytes ≡ certificate_text c ++ rest
text_read c bytes claimed planned rest is is_claim is_plan =
    is ∙ (ap (λ bs. layout_text c.at c.places ++ bs) (is_claim ∙ ap (λ bs. claim_text c.off c.rings c.bound ++ bs) is_plan) ∙ sym (text_apart c rest))

-- why a reader of a section stopped is why reading stops
pub layout_stops : (bytes : List ℕ) (stop : Stop) → StopsAt LayoutFits layout_lines bytes stop → StopsReading bytes stop
layout_stops bytes (Fault rest) left = stop_in_layout bytes rest.now left
layout_stops bytes OutOfMemory left = tt

pub claim_stops :
    (at : List ℕ) (places : ℕ) (bytes mid : List ℕ) (stop : Stop) → LayoutFits (at, places) → bytes ≡ layout_text at places ++ mid
    → StopsAt ClaimFits claim_lines mid stop → StopsReading bytes stop
claim_stops at places bytes mid (Fault rest) fits is left = stop_in_claim at places bytes mid rest.now fits is left
claim_stops at places bytes mid OutOfMemory fits is left = tt

pub plan_stops :
    (at : List ℕ) (places : ℕ) (off : List ℕ) (rings : List (List ℕ)) (bound : ℕ) (bytes claimed mid : List ℕ) (stop : Stop)
    → LayoutFits (at, places) → ClaimFits (off, rings, bound) → bytes ≡ layout_text at places ++ claimed → claimed ≡ claim_text off rings bound ++ mid
    → StopsAt PlanFits plan_text mid stop → StopsReading bytes stop
plan_stops at places off rings bound bytes claimed mid (Fault rest) fits claim is is_claim left =
    stop_in_plan at places off rings bound bytes claimed mid rest.now fits claim is is_claim left
plan_stops at places off rings bound bytes claimed mid OutOfMemory fits claim is is_claim left = tt
