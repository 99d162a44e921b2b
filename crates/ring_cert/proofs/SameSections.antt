-- Sections are told apart by what they tell, whatever follows.
use Rattle.std.proofs.Common.{◌≡◌, ℕ, List, [], ◌∷◌, ◌++◌, length, arith, sym, ap, ◌∙◌, append_assoc, codes, inl, inr}
use Rattle.std.specs.List.{All, flat_map}
use Rattle.std.proofs.lemmas.List.{append_cancel_left, append-nil, length-append, nil_from_length}
use Rattle.vol_layout.specs.declared.moves.Move.{Move}
use Rattle.ring_cert.specs.Certificates.{IsSmall, IsRingTold, IsMoveTold, at_line, off_line, ring_line, bound_line, move_line, size_line, first_line, last_line, layout_text, claim_text, plan_text}
use Rattle.ring_cert.specs.Reading.{LayoutFits, ClaimFits, PlanFits}
use Rattle.ring_cert.proofs.Runs.{run_split, one_line_same, ring_line_same, move_line_same, size_line_same}
use Rattle.ring_cert.proofs.Stops.{layout_apart, claim_apart, plan_apart, at_same, off_same, off_not_ring, ring_not_bound, move_not_end}

-- sections are told apart by what they tell, whatever follows
pub layout_same :
    (at : List ℕ) (places : ℕ) (other : List ℕ) (places' : ℕ) (u v : List ℕ) → LayoutFits (at, places) → LayoutFits (other, places')
    → layout_text at places ++ u ≡ layout_text other places' ++ v → (at ≡ other) × (places ≡ places') × (u ≡ v)
layout_same at places other places' u v fits fits' e =
    let sizes =
    size_line_same (length at) places (length other) places' (flat_map at_line at ++ u) (flat_map at_line other ++ v) fits.0 fits.2 fits'.0 fits'.2
    (append_cancel_left first_line (size_line (length at) places ++ (flat_map at_line at ++ u)) (size_line (length other) places' ++ (flat_map at_line other ++ v))
    (sym (layout_apart at places u) ∙ (e ∙ layout_apart other places' v))) in
    elim (run_split IsSmall at_line at_same at other u v fits.1 fits'.1 sizes.2) [
      | inl on ↦ absurd (omega (arith, on.longer, sizes.0))
      | inr end ↦
          let none : end.zs ≡ [] = nil_from_length end.zs (omega (arith, sizes.0, ap length end.all, length-append at end.zs)) in (
            sym (append-nil at) ∙ (ap (λ zs. at ++ zs) (sym none) ∙ end.all),
            sizes.1,
            end.is ∙ ap (λ zs. flat_map at_line zs ++ v) none,
          )
    ]

rings_same :
    (rings others : List (List ℕ)) (b d : ℕ) (u v : List ℕ) → All IsRingTold rings → All IsRingTold others → IsSmall b → IsSmall d
    → flat_map ring_line rings ++ (bound_line b ++ u) ≡ flat_map ring_line others ++ (bound_line d ++ v) → (rings ≡ others) × (b ≡ d) × (u ≡ v)
rings_same rings others b d u v told told' small small' e =
    elim (run_split IsRingTold ring_line ring_line_same rings others (bound_line b ++ u) (bound_line d ++ v) told told' e) [
      | inl on ↦ absurd (ring_not_bound on.x on.next d v (sym on.is))
      | inr end ↦ ended end.zs end.all end.is
    ]
  where
    ended : (zs : List (List ℕ)) → rings ++ zs ≡ others → bound_line b ++ u ≡ flat_map ring_line zs ++ (bound_line d ++ v) → (rings ≡ others) × (b ≡ d) × (u ≡ v)
    ended [] all is =
        let bounds = one_line_same (codes "BOUND") b d u v small small' is in
        (sym (append-nil rings) ∙ all, bounds.0, bounds.1)
    ended (z ∷ zs) all is =
        absurd (ring_not_bound z (flat_map ring_line zs ++ (bound_line d ++ v)) b u (sym (append_assoc (ring_line z) (flat_map ring_line zs) (bound_line d ++ v)) ∙ sym is))

pub claim_same :
    (off : List ℕ) (rings : List (List ℕ)) (b : ℕ) (off' : List ℕ) (rings' : List (List ℕ)) (b' : ℕ) (u v : List ℕ)
    → ClaimFits (off, rings, b) → ClaimFits (off', rings', b')
    → claim_text off rings b ++ u ≡ claim_text off' rings' b' ++ v → (off ≡ off') × (rings ≡ rings') × (b ≡ b') × (u ≡ v)
claim_same off rings b off' rings' b' u v fits fits' e =
    elim (run_split IsSmall off_line off_same off off' (flat_map ring_line rings ++ (bound_line b ++ u)) (flat_map ring_line rings' ++ (bound_line b' ++ v))
    fits.0 fits'.0 (sym (claim_apart off rings b u) ∙ (e ∙ claim_apart off' rings' b' v))) [
      | inl on ↦ absurd (off_not_ring on.x on.next rings' b' v (sym on.is))
      | inr end ↦ ended end.zs end.all end.is
    ]
  where
    ended :
        (zs : List ℕ) → off ++ zs ≡ off' → flat_map ring_line rings ++ (bound_line b ++ u) ≡ flat_map off_line zs ++ (flat_map ring_line rings' ++ (bound_line b' ++ v))
        → (off ≡ off') × (rings ≡ rings') × (b ≡ b') × (u ≡ v)
    ended [] all is =
        let rest = rings_same rings rings' b b' u v fits.1 fits'.1 fits.2 fits'.2 is in
        (sym (append-nil off) ∙ all, rest.0, rest.1, rest.2)
    ended (z ∷ zs) all is =
        absurd (off_not_ring z (flat_map off_line zs ++ (flat_map ring_line rings' ++ (bound_line b' ++ v))) rings b u
        (sym (append_assoc (off_line z) (flat_map off_line zs) (flat_map ring_line rings' ++ (bound_line b' ++ v))) ∙ sym is))

pub plan_same :
    (moves others : List Move) (u v : List ℕ) → PlanFits moves → PlanFits others → plan_text moves ++ u ≡ plan_text others ++ v → (moves ≡ others) × (u ≡ v)
plan_same moves others u v fits fits' e =
    elim (run_split IsMoveTold move_line move_line_same moves others (last_line ++ u) (last_line ++ v) fits fits' (sym (plan_apart moves u) ∙ (e ∙ plan_apart others v))) [
      | inl on ↦ absurd (move_not_end on.x on.next v (sym on.is))
      | inr end ↦ ended end.zs end.all end.is
    ]
  where
    ended : (zs : List Move) → moves ++ zs ≡ others → last_line ++ u ≡ flat_map move_line zs ++ (last_line ++ v) → (moves ≡ others) × (u ≡ v)
    ended [] all is = (sym (append-nil moves) ∙ all, append_cancel_left last_line u v is)
    ended (z ∷ zs) all is =
        absurd (move_not_end z (flat_map move_line zs ++ (last_line ++ v)) u (sym (append_assoc (move_line z) (flat_map move_line zs) (last_line ++ v)) ∙ sym is))
