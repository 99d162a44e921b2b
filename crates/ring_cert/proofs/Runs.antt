-- Lines, and runs of lines of one kind, at the front of some bytes.
use Rattle.std.proofs.Common.{◌≡◌, ℕ, ◌<◌, List, [], ◌∷◌, ◌++◌, length, arith, refl, sym, ap, ◌∙◌, append_assoc, codes, get_or, inl, inr, ◌⊎◌}
use Rattle.std.specs.List.{All, flat_map}
use Rattle.std.proofs.lemmas.List.{append_cancel_left, flat_map_more, length-append}
use Rattle.std.proofs.lemmas.List.Elements.{All-head, All-tail, All-nil, All-push, All-cons}
use Rattle.vol_layout.specs.declared.moves.Move.{Move}
use Rattle.ring_cert.specs.Certificates.{IsSmall, IsRingTold, IsMoveTold, word, line, ring_line, move_line, size_line}
use Rattle.ring_cert.specs.Reading.{BeginsWithNoDigit, Lacks, LacksTwo}
use Rattle.ring_cert.proofs.Spelling.{line_apart, words_same, word_same, no_word, line_begins, end_begins}

-- the front of the bytes is the lines of these
pub record HasRun {X : Type 0} (Fits : X → Type 0) (text : X → List ℕ) (bytes : List ℕ) (xs : List X) (rest : List ℕ) : Type 0 where
  pub is : bytes ≡ flat_map text xs ++ rest
  pub fits : All Fits xs

pub HasRun-none : {X : Type 0} (Fits : X → Type 0) (text : X → List ℕ) (bytes : List ℕ) → HasRun Fits text bytes [] bytes
HasRun-none Fits text bytes = record { is = refl; fits = All-nil Fits }

pub HasRun-more :
    {X : Type 0} (Fits : X → Type 0) (text : X → List ℕ) (bytes : List ℕ) (xs : List X) (rest : List ℕ) (x : X) (next : List ℕ)
    → HasRun Fits text bytes xs rest → rest ≡ text x ++ next → Fits x → HasRun Fits text bytes (xs ++ x ∷ []) next
HasRun-more Fits text bytes xs rest x next run found fits =
    record {
      is = run.is ∙ (ap (λ bs. flat_map text xs ++ bs) found
          ∙ (sym (append_assoc (flat_map text xs) (text x) next) ∙ ap (λ bs. bs ++ next) (flat_map_more text [] xs x)));
      fits = All-push Fits xs x run.fits fits;
    }

-- lines of one name are told apart by their numbers
pub line_same :
    (name ms ns u v : List ℕ) → All IsSmall ms → All IsSmall ns → line name ms ++ u ≡ line name ns ++ v → (ms ≡ ns) × (u ≡ v)
line_same name ms ns u v small small' e =
    let both =
    words_same ms ns u (10 ∷ v) small small' (λ some. end_begins v) (λ n more fits end is. no_word n more v is)
    (append_cancel_left name (flat_map word ms ++ 10 ∷ u) (flat_map word ns ++ 10 ∷ v) (sym (line_apart name ms u) ∙ (e ∙ line_apart name ns v))) in
    let feeds : 10 ∷ u ≡ 10 ∷ v = both.1 in
    (both.0, cc)

pub one_small : (n : ℕ) → IsSmall n → All IsSmall (n ∷ [])
one_small n small = All-cons IsSmall n [] small (All-nil IsSmall)

pub one_line_same : (name : List ℕ) (m n : ℕ) (u v : List ℕ) → IsSmall m → IsSmall n → line name (m ∷ []) ++ u ≡ line name (n ∷ []) ++ v → (m ≡ n) × (u ≡ v)
one_line_same name m n u v small small' e =
    let both = line_same name (m ∷ []) (n ∷ []) u v (one_small m small) (one_small n small') e in
    let lists : m ∷ [] ≡ n ∷ [] = both.0 in
    (cc, both.1)

pub move_small : (m : Move) → IsMoveTold m → All IsSmall (m.part ∷ m.to ∷ [])
move_small m told = All-cons IsSmall m.part (m.to ∷ []) told.part (one_small m.to told.to)

same_move : (m n : Move) → m.part ≡ n.part → m.to ≡ n.to → m ≡ n
same_move m n p q =
    let by_part : ℕ → Move = λ k. record { part = k; to = m.to } in
    let by_to : ℕ → Move = λ k. record { part = n.part; to = k } in
    ap by_part p ∙ ap by_to q

pub move_line_same : (m n : Move) (u v : List ℕ) → IsMoveTold m → IsMoveTold n → move_line m ++ u ≡ move_line n ++ v → (m ≡ n) × (u ≡ v)
move_line_same m n u v told told' e =
    let both = line_same (codes "MOVE") (m.part ∷ m.to ∷ []) (n.part ∷ n.to ∷ []) u v (move_small m told) (move_small n told') e in
    let lists : m.part ∷ m.to ∷ [] ≡ n.part ∷ n.to ∷ [] = both.0 in
    let parts : m.part ≡ n.part = cc in
    let tos : m.to ≡ n.to = cc in
    (same_move m n parts tos, both.1)

pub ring_line_same : (r s u v : List ℕ) → IsRingTold r → IsRingTold s → ring_line r ++ u ≡ ring_line s ++ v → (r ≡ s) × (u ≡ v)
ring_line_same r s u v told told' e = line_same (codes "RING") r s u v told.parts told'.parts e

-- the line of a size and what follows it, with its parts apart
pub size_apart : (parts places : ℕ) (more : List ℕ) → size_line parts places ++ more ≡ codes "PARTS" ++ (word parts ++ (line (codes " PLACES") (places ∷ []) ++ more))
unfolding size_line
size_apart parts places more =
    append_assoc (codes "PARTS") (word parts ++ line (codes " PLACES") (places ∷ [])) more
    ∙ ap (λ bs. codes "PARTS" ++ bs) (append_assoc (word parts) (line (codes " PLACES") (places ∷ [])) more)

no_digit : BeginsWithNoDigit (codes " PLACES")
no_digit digit = omega (arith, digit.0)

pub size_line_same :
    (m n p q : ℕ) (u v : List ℕ) → IsSmall m → IsSmall n → IsSmall p → IsSmall q → size_line m n ++ u ≡ size_line p q ++ v
    → (m ≡ p) × (n ≡ q) × (u ≡ v)
size_line_same m n p q u v small_m small_n small_p small_q e =
    let tails : word m ++ (line (codes " PLACES") (n ∷ []) ++ u) ≡ word p ++ (line (codes " PLACES") (q ∷ []) ++ v) =
    append_cancel_left (codes "PARTS") (word m ++ (line (codes " PLACES") (n ∷ []) ++ u)) (word p ++ (line (codes " PLACES") (q ∷ []) ++ v))
    (sym (size_apart m n u) ∙ (e ∙ size_apart p q v)) in
    let first = word_same m p (line (codes " PLACES") (n ∷ []) ++ u) (line (codes " PLACES") (q ∷ []) ++ v) small_m small_p
    (line_begins (codes " PLACES") n u no_digit) (line_begins (codes " PLACES") q v no_digit) tails in
    let second = one_line_same (codes " PLACES") n q u v small_n small_q first.1 in
    (first.0, second.0, second.1)

-- a run of lines against another: one goes on where the other ends
module _ {X : Type 0} (Fits : X → Type 0) (text : X → List ℕ) (same : (x y : X) (u v : List ℕ) → Fits x → Fits y → text x ++ u ≡ text y ++ v → (x ≡ y) × (u ≡ v)) where
  pub record GoesOn (xs ys : List X) (tail : List ℕ) : Type 0 where
    pub x : X
    pub next : List ℕ
    pub fits : Fits x
    pub longer : length ys < length xs
    pub is : tail ≡ text x ++ next

  pub record EndsIn (xs ys : List X) (behind tail : List ℕ) : Type 0 where
    pub zs : List X
    pub fits : All Fits zs
    pub all : xs ++ zs ≡ ys
    pub is : behind ≡ flat_map text zs ++ tail

  pub run_split :
      (xs ys : List X) (behind tail : List ℕ) → All Fits xs → All Fits ys → flat_map text xs ++ behind ≡ flat_map text ys ++ tail
      → GoesOn xs ys tail ⊎ EndsIn xs ys behind tail
  run_split [] ys behind tail fit fit' e = inr (record { zs = ys; fits = fit'; all = refl; is = e })
  run_split (x ∷ xs) [] behind tail fit fit' e =
      inl (record {
        x = x;
        next = flat_map text xs ++ behind;
        fits = All-head Fits x xs fit;
        longer = omega arith;
        is = sym e ∙ append_assoc (text x) (flat_map text xs) behind;
      })
  run_split (x ∷ xs) (y ∷ ys) behind tail fit fit' e =
      let both =
      same x y (flat_map text xs ++ behind) (flat_map text ys ++ tail) (All-head Fits x xs fit) (All-head Fits y ys fit')
      (sym (append_assoc (text x) (flat_map text xs) behind) ∙ (e ∙ append_assoc (text y) (flat_map text ys) tail)) in
      elim (run_split xs ys behind tail (All-tail Fits x xs fit) (All-tail Fits y ys fit') both.1) [
        | inl on ↦
            inl (record { x = on.x; next = on.next; fits = on.fits; longer = let less = on.longer in omega arith; is = on.is })
        | inr end ↦
            inr (record { zs = end.zs; fits = end.fits; all = let heads : x ≡ y = both.0 in let tails : xs ++ end.zs ≡ ys = end.all in cc; is = end.is })
      ]

-- lines whose names begin with different letters are not the same
pub line_heads : (c d : ℕ) (cs ds ms ns u v : List ℕ) → line (c ∷ cs) ms ++ u ≡ line (d ∷ ds) ns ++ v → c ≡ d
unfolding line
line_heads c d cs ds ms ns u v e = ap (λ bs. get_or bs 0 0) e

-- the line of a move as a line of two numbers
pub move_apart : (m : Move) (more : List ℕ) → move_line m ++ more ≡ codes "MOVE" ++ (word m.part ++ (line [] (m.to ∷ []) ++ more))
move_apart m more =
    line_apart (codes "MOVE") (m.part ∷ m.to ∷ []) more
    ∙ ap (λ bs. codes "MOVE" ++ bs) (append_assoc (word m.part) (flat_map word (m.to ∷ [])) (10 ∷ more)
    ∙ ap (λ bs. word m.part ++ bs) (sym (line_apart [] (m.to ∷ []) more)))

pub no_move : (bytes : List ℕ) → LacksTwo (codes "MOVE") [] bytes → Lacks IsMoveTold move_line bytes
no_move bytes none m more told e = none m.part m.to more told.part told.to (e ∙ move_apart m more)

pub move_found :
    (bytes : List ℕ) (m : Move) (next : List ℕ) → bytes ≡ codes "MOVE" ++ (word m.part ++ (line [] (m.to ∷ []) ++ next)) → bytes ≡ move_line m ++ next
move_found bytes m next e = e ∙ sym (move_apart m next)

-- a line has bytes
pub line_longer : (name ns bytes next : List ℕ) → bytes ≡ line name ns ++ next → length next < length bytes
line_longer name ns bytes next e =
    omega (arith, ap length (e ∙ line_apart name ns next), length-append name (flat_map word ns ++ 10 ∷ next), length-append (flat_map word ns) (10 ∷ next))
