-- Where reading a section stops, no text of a certificate goes on.
use Rattle.std.proofs.Common.{◌≡◌, ◌≢◌, ℕ, ◌-◌, ◌<◌, List, [], ◌∷◌, ◌++◌, length, replicate, arith, refl, sym, ap, ◌∙◌, subst, append_assoc, codes, inl, inr}
use Rattle.std.specs.List.{All, flat_map}
use Rattle.std.proofs.lemmas.Fmt.{decimal_digit}
use Rattle.std.proofs.lemmas.List.{append_cancel_left, length-append, length-replicate}
use Rattle.std.proofs.lemmas.List.Concat.{flat_map-append}
use Rattle.std.proofs.lemmas.List.Elements.{All-nil, All-append, All-replicate}
use Rattle.vol_layout.specs.declared.moves.Move.{Move}
use Rattle.ring_cert.specs.Certificates.{AreWholeLines, IsSmall, IsRingTold, IsMoveTold, word, line, at_line, off_line, ring_line, bound_line, move_line, size_line, first_line, last_line, layout_text, claim_text, plan_text}
use Rattle.ring_cert.specs.Reading.{BeginsOtherwise, Lacks, LacksTwo, IsLeft, LayoutFits, layout_lines, ClaimFits, claim_lines, PlanFits}
use Rattle.ring_cert.proofs.Runs.{run_split, one_line_same, ring_line_same, move_line_same, size_line_same, size_apart, one_small, move_small, line_heads}
use Rattle.ring_cert.proofs.LineForms.{line_otherwise, no_feed_first, no_feed_at, no_feed_off, no_feed_ring, no_feed_bound, no_feed_move, no_feed_end, size_otherwise, whole_append, whole_line, whole_size, whole_run}

-- sections and what follows them, with their parts apart
pub layout_apart : (at : List ℕ) (places : ℕ) (t : List ℕ) → layout_text at places ++ t ≡ first_line ++ (size_line (length at) places ++ (flat_map at_line at ++ t))
layout_apart at places t =
    append_assoc first_line (size_line (length at) places ++ flat_map at_line at) t
    ∙ ap (λ bs. first_line ++ bs) (append_assoc (size_line (length at) places) (flat_map at_line at) t)

pub claim_apart :
    (off : List ℕ) (rings : List (List ℕ)) (b : ℕ) (t : List ℕ)
    → claim_text off rings b ++ t ≡ flat_map off_line off ++ (flat_map ring_line rings ++ (bound_line b ++ t))
claim_apart off rings b t =
    append_assoc (flat_map off_line off) (flat_map ring_line rings ++ bound_line b) t
    ∙ ap (λ bs. flat_map off_line off ++ bs) (append_assoc (flat_map ring_line rings) (bound_line b) t)

pub plan_apart : (moves : List Move) (t : List ℕ) → plan_text moves ++ t ≡ flat_map move_line moves ++ (last_line ++ t)
plan_apart moves t = append_assoc (flat_map move_line moves) last_line t

pub first_line_is : first_line ≡ codes "A2CERT 1\n"
unfolding line word
first_line_is = ap (λ ds. codes "A2CERT" ++ (((32 ∷ ds) ++ []) ++ 10 ∷ [])) (decimal_digit 1 (omega arith))

pub last_line_is : last_line ≡ codes "END\n"
unfolding line
last_line_is = refl

pub small_zero : IsSmall 0
small_zero = omega arith

-- a layout's lines: the first is missing
pub layout_stop_first : (bytes : List ℕ) → ((rest : List ℕ) → bytes ≢ codes "A2CERT 1\n" ++ rest) → IsLeft LayoutFits layout_lines bytes bytes
layout_stop_first bytes none =
    record {
      front = [];
      split = refl;
      lines = inl refl;
      found = ([], 0);
      more = layout_text [] 0;
      fits = (small_zero, All-nil IsSmall, small_zero);
      begins = refl;
      otherwise = λ x after tail fits e.
          line_otherwise (codes "A2CERT") (1 ∷ []) tail (size_line (length x.0) x.1 ++ (flat_map at_line x.0 ++ after)) bytes no_feed_first
          (one_small 1 (omega arith)) (sym e ∙ layout_apart x.0 x.1 after) (λ more is. none more (is ∙ ap (λ l. l ++ more) first_line_is));
    }

-- the second is
pub layout_stop_size :
    (bytes sized : List ℕ) → bytes ≡ codes "A2CERT 1\n" ++ sized → LacksTwo (codes "PARTS") (codes " PLACES") sized → IsLeft LayoutFits layout_lines bytes sized
layout_stop_size bytes sized is none =
    record {
      front = first_line;
      split = is ∙ ap (λ l. l ++ sized) (sym first_line_is);
      lines = whole_line (codes "A2CERT") (1 ∷ []);
      found = ([], 0);
      more = size_line 0 0 ++ [];
      fits = (small_zero, All-nil IsSmall, small_zero);
      begins = refl;
      otherwise = λ x after tail fits e.
          size_otherwise (length x.0) x.1 tail (flat_map at_line x.0 ++ after) sized fits.0 fits.2
          (append_cancel_left first_line tail (size_line (length x.0) x.1 ++ (flat_map at_line x.0 ++ after)) (sym e ∙ layout_apart x.0 x.1 after)) none;
    }

pub at_same : (m n : ℕ) (u v : List ℕ) → IsSmall m → IsSmall n → at_line m ++ u ≡ at_line n ++ v → (m ≡ n) × (u ≡ v)
at_same m n u v small small' e = one_line_same (codes "AT") m n u v small small' e

pub off_same : (m n : ℕ) (u v : List ℕ) → IsSmall m → IsSmall n → off_line m ++ u ≡ off_line n ++ v → (m ≡ n) × (u ≡ v)
off_same m n u v small small' e = one_line_same (codes "OFF") m n u v small small' e

-- a place is
pub layout_otherwise :
    (m n : ℕ) (at rest : List ℕ) → IsSmall m → IsSmall n → All IsSmall at → length at < m → Lacks IsSmall at_line rest
    → (x : List ℕ × ℕ) (after tail : List ℕ) → LayoutFits x → layout_lines x ++ after ≡ (first_line ++ (size_line m n ++ flat_map at_line at)) ++ tail
    → BeginsOtherwise tail rest
layout_otherwise m n at rest small_m small_n small few none x after tail fits e =
    let apart : first_line ++ (size_line (length x.0) x.1 ++ (flat_map at_line x.0 ++ after)) ≡ first_line ++ (size_line m n ++ (flat_map at_line at ++ tail)) =
    sym (layout_apart x.0 x.1 after) ∙ (e ∙ (append_assoc first_line (size_line m n ++ flat_map at_line at) tail
    ∙ ap (λ bs. first_line ++ bs) (append_assoc (size_line m n) (flat_map at_line at) tail))) in
    let sizes =
    size_line_same (length x.0) x.1 m n (flat_map at_line x.0 ++ after) (flat_map at_line at ++ tail) fits.0 fits.2 small_m small_n
    (append_cancel_left first_line (size_line (length x.0) x.1 ++ (flat_map at_line x.0 ++ after)) (size_line m n ++ (flat_map at_line at ++ tail)) apart) in
    elim (run_split IsSmall at_line at_same x.0 at after tail fits.1 small sizes.2) [
      | inl on ↦
          line_otherwise (codes "AT") (on.x ∷ []) tail on.next rest no_feed_at (one_small on.x on.fits) on.is
          (λ more is. none on.x more on.fits is)
      | inr end ↦ absurd (omega (arith, sizes.0, ap length end.all, length-append x.0 end.zs))
    ]

pub layout_whole : (m n : ℕ) (at : List ℕ) → AreWholeLines (first_line ++ (size_line m n ++ flat_map at_line at))
layout_whole m n at =
    whole_append first_line (size_line m n ++ flat_map at_line at) (whole_line (codes "A2CERT") (1 ∷ []))
    (whole_append (size_line m n) (flat_map at_line at) (whole_size m n) (whole_run at_line (λ k. whole_line (codes "AT") (k ∷ [])) at))

pub layout_read :
    (bytes sized placed : List ℕ) (m n : ℕ) (at rest : List ℕ) → bytes ≡ codes "A2CERT 1\n" ++ sized
    → sized ≡ codes "PARTS" ++ (word m ++ (line (codes " PLACES") (n ∷ []) ++ placed)) → placed ≡ flat_map at_line at ++ rest
    → bytes ≡ (first_line ++ (size_line m n ++ flat_map at_line at)) ++ rest
layout_read bytes sized placed m n at rest is sizes places =
    is ∙ (ap (λ l. l ++ sized) (sym first_line_is)
    ∙ (ap (λ bs. first_line ++ bs) (sizes ∙ (sym (size_apart m n placed) ∙ ap (λ bs. size_line m n ++ bs) places))
    ∙ sym (append_assoc first_line (size_line m n ++ flat_map at_line at) rest
    ∙ ap (λ bs. first_line ++ bs) (append_assoc (size_line m n) (flat_map at_line at) rest))))

pub layout_found :
    (bytes sized placed : List ℕ) (m n : ℕ) (at rest : List ℕ) → bytes ≡ codes "A2CERT 1\n" ++ sized
    → sized ≡ codes "PARTS" ++ (word m ++ (line (codes " PLACES") (n ∷ []) ++ placed)) → placed ≡ flat_map at_line at ++ rest
    → length at ≡ m → bytes ≡ layout_text at n ++ rest
layout_found bytes sized placed m n at rest is sizes places all =
    layout_read bytes sized placed m n at rest is sizes places
    ∙ ap (λ k. (first_line ++ (size_line k n ++ flat_map at_line at)) ++ rest) (sym all)

pub layout_stop_place :
    (bytes sized placed : List ℕ) (m n : ℕ) (at rest : List ℕ) → bytes ≡ codes "A2CERT 1\n" ++ sized
    → sized ≡ codes "PARTS" ++ (word m ++ (line (codes " PLACES") (n ∷ []) ++ placed)) → IsSmall m → IsSmall n
    → placed ≡ flat_map at_line at ++ rest → All IsSmall at → length at < m → Lacks IsSmall at_line rest → IsLeft LayoutFits layout_lines bytes rest
layout_stop_place bytes sized placed m n at rest is sizes small_m small_n places small few none =
    let missing = replicate (m - length at) 0 in
    let count : length missing ≡ m - length at = length-replicate {A = ℕ} (m - length at) 0 in
    let all : length (at ++ missing) ≡ m = omega (arith, length-append at missing) in
    record {
      front = first_line ++ (size_line m n ++ flat_map at_line at);
      split = layout_read bytes sized placed m n at rest is sizes places;
      lines = layout_whole m n at;
      found = (at ++ missing, n);
      more = flat_map at_line missing;
      fits = (
        omega arith,
        All-append IsSmall at missing small (All-replicate IsSmall (m - length at) 0 small_zero),
        small_n,
      );
      begins = ap (λ k. first_line ++ (size_line k n ++ flat_map at_line (at ++ missing))) all
          ∙ (ap (λ bs. first_line ++ (size_line m n ++ bs)) (flat_map-append at_line at missing)
          ∙ sym (append_assoc first_line (size_line m n ++ flat_map at_line at) (flat_map at_line missing)
          ∙ ap (λ bs. first_line ++ bs) (append_assoc (size_line m n) (flat_map at_line at) (flat_map at_line missing))));
      otherwise = layout_otherwise m n at rest small_m small_n small few none;
    }

-- the bound of a claim is missing
pub off_not_ring : (n : ℕ) (u : List ℕ) (rings : List (List ℕ)) (b : ℕ) (v : List ℕ) → off_line n ++ u ≡ flat_map ring_line rings ++ (bound_line b ++ v) → ⊥
off_not_ring n u [] b v e = omega (arith, line_heads 79 66 (codes "FF") (codes "OUND") (n ∷ []) (b ∷ []) u v e)
off_not_ring n u (r ∷ rings) b v e =
    omega (
      arith,
      line_heads 79 82 (codes "FF") (codes "ING") (n ∷ []) r u (flat_map ring_line rings ++ (bound_line b ++ v))
          (e ∙ append_assoc (ring_line r) (flat_map ring_line rings) (bound_line b ++ v)),
    )

pub off_not_rings : (n : ℕ) (u r : List ℕ) (rings : List (List ℕ)) (v : List ℕ) → off_line n ++ u ≡ flat_map ring_line (r ∷ rings) ++ v → ⊥
off_not_rings n u r rings v e =
    omega (
      arith,
      line_heads 79 82 (codes "FF") (codes "ING") (n ∷ []) r u (flat_map ring_line rings ++ v)
          (e ∙ append_assoc (ring_line r) (flat_map ring_line rings) v),
    )

pub ring_not_bound : (r u : List ℕ) (b : ℕ) (v : List ℕ) → ring_line r ++ u ≡ bound_line b ++ v → ⊥
ring_not_bound r u b v e = omega (arith, line_heads 82 66 (codes "ING") (codes "OUND") r (b ∷ []) u v e)

pub rings_otherwise :
    (rings others : List (List ℕ)) (b : ℕ) (t tail rest : List ℕ) → All IsRingTold rings → All IsRingTold others → IsSmall b
    → Lacks IsRingTold ring_line rest → Lacks IsSmall bound_line rest
    → flat_map ring_line others ++ (bound_line b ++ t) ≡ flat_map ring_line rings ++ tail → BeginsOtherwise tail rest
rings_otherwise rings others b t tail rest told told' small no_ring no_bound e =
    elim (run_split IsRingTold ring_line ring_line_same others rings (bound_line b ++ t) tail told' told e) [
      | inl on ↦
          line_otherwise (codes "RING") on.x tail on.next rest no_feed_ring (on.fits.parts) on.is (λ more is. no_ring on.x more on.fits is)
      | inr end ↦ bound_otherwise end.zs end.fits end.is
    ]
  where
    bound_otherwise : (zs : List (List ℕ)) → All IsRingTold zs → bound_line b ++ t ≡ flat_map ring_line zs ++ tail → BeginsOtherwise tail rest
    bound_otherwise [] told is =
        line_otherwise (codes "BOUND") (b ∷ []) tail t rest no_feed_bound (one_small b small) (sym is) (λ more is'. no_bound b more small is')
    bound_otherwise (z ∷ zs) told is =
        absurd (ring_not_bound z (flat_map ring_line zs ++ tail) b t (sym (append_assoc (ring_line z) (flat_map ring_line zs) tail) ∙ sym is))

pub off_goes_on :
    (rings : List (List ℕ)) (n : ℕ) (tail next rest : List ℕ) → IsSmall n → flat_map ring_line rings ++ tail ≡ off_line n ++ next
    → Lacks IsSmall off_line (flat_map ring_line rings ++ rest) → BeginsOtherwise tail rest
off_goes_on [] n tail next rest small is none =
    line_otherwise (codes "OFF") (n ∷ []) tail next rest no_feed_off (one_small n small) is (λ more is'. none n more small is')
off_goes_on (r ∷ rings) n tail next rest small is none = absurd (off_not_rings n next r rings tail (sym is))

pub offs_end :
    (zs off : List ℕ) (rings others : List (List ℕ)) (b : ℕ) (t tail rest : List ℕ) → All IsRingTold rings → All IsRingTold others → IsSmall b
    → Lacks IsRingTold ring_line rest → Lacks IsSmall bound_line rest
    → flat_map ring_line others ++ (bound_line b ++ t) ≡ flat_map off_line zs ++ (flat_map ring_line rings ++ tail) → BeginsOtherwise tail rest
offs_end [] off rings others b t tail rest told told' small no_ring no_bound e = rings_otherwise rings others b t tail rest told told' small no_ring no_bound e
offs_end (z ∷ zs) off rings others b t tail rest told told' small no_ring no_bound e =
    absurd (off_not_ring z (flat_map off_line zs ++ (flat_map ring_line rings ++ tail)) others b t
    (sym (append_assoc (off_line z) (flat_map off_line zs) (flat_map ring_line rings ++ tail)) ∙ sym e))

pub claim_otherwise :
    (off : List ℕ) (rings : List (List ℕ)) (rest : List ℕ) → All IsSmall off → All IsRingTold rings
    → Lacks IsSmall off_line (flat_map ring_line rings ++ rest) → Lacks IsRingTold ring_line rest → Lacks IsSmall bound_line rest
    → (x : List ℕ × List (List ℕ) × ℕ) (after tail : List ℕ) → ClaimFits x
    → claim_lines x ++ after ≡ (flat_map off_line off ++ flat_map ring_line rings) ++ tail → BeginsOtherwise tail rest
claim_otherwise off rings rest small told no_off no_ring no_bound x after tail fits e =
    let apart = sym (claim_apart x.0 x.1 x.2 after) ∙ (e ∙ append_assoc (flat_map off_line off) (flat_map ring_line rings) tail) in
    elim (run_split IsSmall off_line off_same x.0 off (flat_map ring_line x.1 ++ (bound_line x.2 ++ after)) (flat_map ring_line rings ++ tail) fits.0 small apart) [
      | inl on ↦ off_goes_on rings on.x tail on.next rest on.fits on.is no_off
      | inr end ↦ offs_end end.zs off rings x.1 x.2 after tail rest told fits.1 fits.2 no_ring no_bound end.is
    ]

pub claim_stop :
    (bytes ringed rest off : List ℕ) (rings : List (List ℕ)) → bytes ≡ flat_map off_line off ++ ringed → All IsSmall off → Lacks IsSmall off_line ringed
    → ringed ≡ flat_map ring_line rings ++ rest → All IsRingTold rings → Lacks IsRingTold ring_line rest → Lacks IsSmall bound_line rest
    → IsLeft ClaimFits claim_lines bytes rest
claim_stop bytes ringed rest off rings is small no_off is_rings told no_ring no_bound =
    record {
      front = flat_map off_line off ++ flat_map ring_line rings;
      split = is ∙ (ap (λ bs. flat_map off_line off ++ bs) is_rings ∙ sym (append_assoc (flat_map off_line off) (flat_map ring_line rings) rest));
      lines = whole_append (flat_map off_line off) (flat_map ring_line rings)
          (whole_run off_line (λ k. whole_line (codes "OFF") (k ∷ [])) off) (whole_run ring_line (λ r. whole_line (codes "RING") r) rings);
      found = (off, rings, 0);
      more = bound_line 0;
      fits = (small, told, small_zero);
      begins = sym (append_assoc (flat_map off_line off) (flat_map ring_line rings) (bound_line 0));
      otherwise = claim_otherwise off rings rest small told (subst (Lacks IsSmall off_line) is_rings no_off) no_ring no_bound;
    }

pub claim_whole : (off : List ℕ) (rings : List (List ℕ)) (b : ℕ) → AreWholeLines (claim_text off rings b)
claim_whole off rings b =
    whole_append (flat_map off_line off) (flat_map ring_line rings ++ bound_line b) (whole_run off_line (λ k. whole_line (codes "OFF") (k ∷ [])) off)
    (whole_append (flat_map ring_line rings) (bound_line b) (whole_run ring_line (λ r. whole_line (codes "RING") r) rings) (whole_line (codes "BOUND") (b ∷ [])))

pub claim_found :
    (bytes ringed bounded off : List ℕ) (rings : List (List ℕ)) (b : ℕ) (rest : List ℕ) → bytes ≡ flat_map off_line off ++ ringed
    → ringed ≡ flat_map ring_line rings ++ bounded → bounded ≡ bound_line b ++ rest → bytes ≡ claim_text off rings b ++ rest
claim_found bytes ringed bounded off rings b rest is is_rings is_bound =
    is ∙ (ap (λ bs. flat_map off_line off ++ bs) (is_rings ∙ ap (λ bs. flat_map ring_line rings ++ bs) is_bound) ∙ sym (claim_apart off rings b rest))

-- the end of a plan is missing
pub move_not_end : (m : Move) (u v : List ℕ) → move_line m ++ u ≡ last_line ++ v → ⊥
move_not_end m u v e = omega (arith, line_heads 77 69 (codes "OVE") (codes "ND") (m.part ∷ m.to ∷ []) [] u v e)

pub plan_otherwise :
    (moves : List Move) (rest : List ℕ) → All IsMoveTold moves → Lacks IsMoveTold move_line rest → ((next : List ℕ) → rest ≢ codes "END\n" ++ next)
    → (x : List Move) (after tail : List ℕ) → PlanFits x → plan_text x ++ after ≡ flat_map move_line moves ++ tail → BeginsOtherwise tail rest
plan_otherwise moves rest told no_move no_end x after tail fits e =
    elim (run_split IsMoveTold move_line move_line_same x moves (last_line ++ after) tail fits told (sym (plan_apart x after) ∙ e)) [
      | inl on ↦
          line_otherwise (codes "MOVE") (on.x.part ∷ on.x.to ∷ []) tail on.next rest no_feed_move (move_small on.x on.fits) on.is
          (λ more is. no_move on.x more on.fits is)
      | inr end ↦ end_otherwise end.zs end.fits end.is
    ]
  where
    end_otherwise : (zs : List Move) → All IsMoveTold zs → last_line ++ after ≡ flat_map move_line zs ++ tail → BeginsOtherwise tail rest
    end_otherwise [] told is =
        line_otherwise (codes "END") [] tail after rest no_feed_end (All-nil IsSmall) (sym is) (λ more is'. no_end more (is' ∙ ap (λ l. l ++ more) last_line_is))
    end_otherwise (z ∷ zs) told is =
        absurd (move_not_end z (flat_map move_line zs ++ tail) after (sym (append_assoc (move_line z) (flat_map move_line zs) tail) ∙ sym is))

pub plan_stop :
    (bytes rest : List ℕ) (moves : List Move) → bytes ≡ flat_map move_line moves ++ rest → All IsMoveTold moves → Lacks IsMoveTold move_line rest
    → ((next : List ℕ) → rest ≢ codes "END\n" ++ next) → IsLeft PlanFits plan_text bytes rest
plan_stop bytes rest moves is told no_move no_end =
    record {
      front = flat_map move_line moves;
      split = is;
      lines = whole_run move_line (λ m. whole_line (codes "MOVE") (m.part ∷ m.to ∷ [])) moves;
      found = moves;
      more = last_line;
      fits = told;
      begins = refl;
      otherwise = plan_otherwise moves rest told no_move no_end;
    }

pub plan_whole : (moves : List Move) → AreWholeLines (plan_text moves)
plan_whole moves =
    whole_append (flat_map move_line moves) last_line (whole_run move_line (λ m. whole_line (codes "MOVE") (m.part ∷ m.to ∷ [])) moves) (whole_line (codes "END") [])

pub plan_found :
    (bytes ended rest : List ℕ) (moves : List Move) → bytes ≡ flat_map move_line moves ++ ended → ended ≡ codes "END\n" ++ rest → bytes ≡ plan_text moves ++ rest
plan_found bytes ended rest moves is end =
    is ∙ (ap (λ bs. flat_map move_line moves ++ bs) (end ∙ ap (λ l. l ++ rest) (sym last_line_is)) ∙ sym (plan_apart moves rest))
