-- What is written at the end of a text.
use Rattle.std.proofs.Common.{List, [], ap, append_assoc, arith, codes, drop, get_or, length, set, sym, take, ℕ, ◌%◌, ◌++◌, ◌+◌, ◌-◌, ◌/◌, ◌<◌, ◌^◌, ◌∙◌, ◌∷◌, ◌≡◌, ◌≢◌, ◌≤◌}
use Rattle.std.specs.List.{All, flat_map}
use Rattle.vol_layout.specs.declared.moves.Move.{Move}
use Rattle.std.specs.Fmt.{decimal}
use Rattle.std.proofs.lemmas.Fmt.{decimal_digit, decimal_nonempty, decimal_step, length-decimal-le}
use Rattle.std.proofs.lemmas.List.{append-nil, drop_all, drop-set, flat_map_more, length-drop, length_push, length-set, take_all, take_more}
use Rattle.ring_cert.specs.Certificates.{IsSmall, IsMoveTold, IsRingTold, word, line, size_line}

-- the last digits of a number, and the number that the others are
pub record HasDigits (number : ℕ) (digits : List ℕ) (start rest : ℕ) : Type 0 where
  pub small : rest < 2 ^ 64
  pub room : length (decimal rest) ≤ start
  pub size : length digits ≡ 10
  pub within : start ≤ 10
  pub is : decimal number ≡ decimal rest ++ drop start digits

pub HasDigits-none : (number : ℕ) (digits : List ℕ) (start : ℕ) → number < 2 ^ 32 → length digits ≡ 10 → start ≡ 10 → HasDigits number digits start number
HasDigits-none number digits start fits ten is_ten =
    let fits64 : number < 2 ^ 64 = omega arith in
    let below : number < 10 ^ 10 = omega arith in
    let few = length-decimal-le 10 number (omega arith) below fits64 in
    record {
      small = fits64;
      room = omega arith;
      size = ten;
      within = omega arith;
      is = sym (ap (λ ds. decimal number ++ ds) (drop_all start digits (omega arith)) ∙ append-nil (decimal number));
    }

-- there is room for one digit more
pub HasDigits-room : (number : ℕ) (digits : List ℕ) (start rest : ℕ) → HasDigits number digits start rest → 0 < start
HasDigits-room number digits start rest has = omega (arith, decimal_nonempty rest has.small, has.room)

pub HasDigits-more :
    (number : ℕ) (digits : List ℕ) (start rest : ℕ) → HasDigits number digits start rest → 10 ≤ rest
    → HasDigits number (set digits (start - 1) (48 + rest % 10)) (start - 1) (rest / 10)
HasDigits-more number digits start rest has large =
    let some = HasDigits-room number digits start rest has in
    let small = has.small in
    let room = has.room in
    let within = has.within in
    let size = has.size in
    let lt : start - 1 < length digits = omega arith in
    let step = decimal_step rest large small in
    let next : start - 1 + 1 ≡ start = omega arith in
    let last : drop (start - 1) (set digits (start - 1) (48 + rest % 10)) ≡ (48 + rest % 10) ∷ drop start digits =
    drop-set digits (start - 1) (48 + rest % 10) lt ∙ ap (λ k. (48 + rest % 10) ∷ drop k digits) next in
    record {
      small = omega arith;
      room = omega (arith, ap length step, length_push (decimal (rest / 10)) (48 + rest % 10));
      size = length-set digits (start - 1) (48 + rest % 10) ∙ size;
      within = omega arith;
      is = has.is ∙ (ap (λ ds. ds ++ drop start digits) step
          ∙ (append_assoc (decimal (rest / 10)) ((48 + rest % 10) ∷ []) (drop start digits) ∙ ap (λ ds. decimal (rest / 10) ++ ds) (sym last)));
    }

pub HasDigits-all :
    (number : ℕ) (digits : List ℕ) (start rest : ℕ) → HasDigits number digits start rest → rest < 10
    → take (10 - (start - 1)) (drop (start - 1) (set digits (start - 1) (48 + rest))) ≡ decimal number
HasDigits-all number digits start rest has small =
    let some = HasDigits-room number digits start rest has in
    let within = has.within in
    let size = has.size in
    let written = set digits (start - 1) (48 + rest) in
    let lt : start - 1 < length digits = omega arith in
    let next : start - 1 + 1 ≡ start = omega arith in
    let most : length (drop (start - 1) written) ≤ 10 - (start - 1) = omega (arith, length-drop (start - 1) written, length-set digits (start - 1) (48 + rest)) in
    take_all (10 - (start - 1)) (drop (start - 1) written) most
    ∙ (drop-set digits (start - 1) (48 + rest) lt
    ∙ (ap (λ k. (48 + rest) ∷ drop k digits) next ∙ (ap (λ ds. ds ++ drop start digits) (sym (decimal_digit rest small)) ∙ sym has.is)))

pub word_written : (n : ℕ) (old mid new : List ℕ) → mid ≡ old ++ 32 ∷ [] → new ≡ mid ++ decimal n → new ≡ old ++ word n
unfolding word
word_written n old mid new space number = number ∙ (ap (λ xs. xs ++ decimal n) space ∙ append_assoc old (32 ∷ []) (decimal n))

pub line_written :
    (name ns old mid new : List ℕ) → mid ≡ (old ++ name) ++ flat_map word ns → new ≡ mid ++ 10 ∷ [] → new ≡ old ++ line name ns
unfolding line
line_written name ns old mid new front end =
    end ∙ (ap (λ xs. xs ++ 10 ∷ []) front
    ∙ (append_assoc (old ++ name) (flat_map word ns) (10 ∷ []) ∙ append_assoc old name (flat_map word ns ++ 10 ∷ [])))

pub size_written :
    (parts places : ℕ) (old named mid new : List ℕ) → named ≡ old ++ codes "PARTS" → mid ≡ named ++ word parts
    → new ≡ mid ++ line (codes " PLACES") (places ∷ []) → new ≡ old ++ size_line parts places
unfolding size_line
size_written parts places old named mid new name first second =
    second ∙ (ap (λ xs. xs ++ line (codes " PLACES") (places ∷ [])) (first ∙ ap (λ xs. xs ++ word parts) name)
    ∙ (append_assoc (old ++ codes "PARTS") (word parts) (line (codes " PLACES") (places ∷ []))
    ∙ append_assoc old (codes "PARTS") (word parts ++ line (codes " PLACES") (places ∷ []))))

-- one more line of a run
pub run_written :
    {X : Type 0} (text : X → List ℕ) (old : List ℕ) (xs : List X) (i : ℕ) (d : X) (now new : List ℕ) → i < length xs
    → now ≡ old ++ flat_map text (take i xs) → new ≡ now ++ text (get_or xs i d) → new ≡ old ++ flat_map text (take (i + 1) xs)
run_written text old xs i d now new within before line =
    line ∙ (ap (λ bs. bs ++ text (get_or xs i d)) before
    ∙ (flat_map_more text old (take i xs) (get_or xs i d) ∙ ap (λ ys. old ++ flat_map text ys) (sym (take_more xs i d within))))

-- a move of two numbers that the text can tell
pub move_told : (move : Move) → All IsSmall (move.part ∷ move.to ∷ []) → IsMoveTold move
move_told move small = record { part = small 0 0 (omega arith); to = small 1 0 (omega arith) }

-- a ring with a part, whose numbers the text can tell
pub rings_told : (rings : List (List ℕ)) → All (λ ring. ring ≢ []) rings → All (All IsSmall) rings → All IsRingTold rings
rings_told rings some small = λ i d h. record { some = some i d h; parts = small i d h }
