-- Lines: that they are whole, and that bytes which have one begin otherwise than bytes which have not.
use Rattle.std.proofs.Common.{◌≡◌, ℕ, List, [], ◌∷◌, ◌++◌, arith, refl, sym, ap, ◌∙◌, subst, append_assoc, codes, inl, inr}
use Rattle.std.specs.List.{All, flat_map}
use Rattle.std.specs.Fmt.{decimal}
use Rattle.std.proofs.lemmas.Fmt.{digits_decimal}
use Rattle.std.proofs.lemmas.List.{append-nil}
use Rattle.std.proofs.lemmas.List.Elements.{All-head, All-tail}
use Rattle.ring_cert.specs.Certificates.{AreWholeLines, IsSmall, word, line, size_line}
use Rattle.ring_cert.specs.Reading.{AreDigits, HasNoFeed, BeginsOtherwise, LacksTwo}
use Rattle.ring_cert.proofs.Spelling.{own, small_fits, AreDigits-tail, line_apart}
use Rattle.ring_cert.proofs.Runs.{size_apart, one_small}

pub no_feed_append : (xs ys : List ℕ) → HasNoFeed xs → HasNoFeed ys → HasNoFeed (xs ++ ys)
no_feed_append [] ys left right = right
no_feed_append (x ∷ xs) ys left right = (left.0, no_feed_append xs ys left.1 right)

pub no_feed_digits : (ds : List ℕ) → AreDigits ds → HasNoFeed ds
no_feed_digits [] digits = tt
no_feed_digits (d ∷ ds) digits = (λ e. omega (arith, (digits 0 (omega arith)).0), no_feed_digits ds (AreDigits-tail d ds digits))

pub no_feed_word : (n : ℕ) → IsSmall n → HasNoFeed (word n)
unfolding word
no_feed_word n small = (λ e. omega (arith, e), no_feed_digits (decimal n) (digits_decimal own n (small_fits n small)))

pub no_feed_words : (ns : List ℕ) → All IsSmall ns → HasNoFeed (flat_map word ns)
no_feed_words [] small = tt
no_feed_words (n ∷ ns) small =
    no_feed_append (word n) (flat_map word ns) (no_feed_word n (All-head IsSmall n ns small)) (no_feed_words ns (All-tail IsSmall n ns small))

-- a line that stands where the others do not have it
pub line_otherwise :
    (name ns tail next others : List ℕ) → HasNoFeed name → All IsSmall ns → tail ≡ line name ns ++ next
    → ((more : List ℕ) → others ≡ line name ns ++ more → ⊥) → BeginsOtherwise tail others
line_otherwise name ns tail next others plain small is none =
    record {
      body = name ++ flat_map word ns;
      next = next;
      whole = no_feed_append name (flat_map word ns) plain (no_feed_words ns small);
      is = is ∙ (line_apart name ns next ∙ sym (append_assoc name (flat_map word ns) (10 ∷ next)));
      lacks = λ more e. none more (e ∙ (append_assoc name (flat_map word ns) (10 ∷ more) ∙ sym (line_apart name ns more)));
    }

pub no_feed_first : HasNoFeed (codes "A2CERT")
no_feed_first =
    (λ e. omega (arith, e), (λ e. omega (arith, e), (λ e. omega (arith, e), (λ e. omega (arith, e), (λ e. omega (arith, e), (λ e. omega (arith, e), tt))))))

pub no_feed_parts : HasNoFeed (codes "PARTS")
no_feed_parts = (λ e. omega (arith, e), (λ e. omega (arith, e), (λ e. omega (arith, e), (λ e. omega (arith, e), (λ e. omega (arith, e), tt)))))

pub no_feed_places : HasNoFeed (codes " PLACES")
no_feed_places =
    (λ e. omega (arith, e), (λ e. omega (arith, e), (λ e. omega (arith, e), (λ e. omega (arith, e), (λ e. omega (arith, e), (λ e. omega (arith, e), (λ e. omega (arith, e), tt)))))))

pub no_feed_at : HasNoFeed (codes "AT")
no_feed_at = (λ e. omega (arith, e), (λ e. omega (arith, e), tt))

pub no_feed_off : HasNoFeed (codes "OFF")
no_feed_off = (λ e. omega (arith, e), (λ e. omega (arith, e), (λ e. omega (arith, e), tt)))

pub no_feed_ring : HasNoFeed (codes "RING")
no_feed_ring = (λ e. omega (arith, e), (λ e. omega (arith, e), (λ e. omega (arith, e), (λ e. omega (arith, e), tt))))

pub no_feed_bound : HasNoFeed (codes "BOUND")
no_feed_bound = (λ e. omega (arith, e), (λ e. omega (arith, e), (λ e. omega (arith, e), (λ e. omega (arith, e), (λ e. omega (arith, e), tt)))))

pub no_feed_move : HasNoFeed (codes "MOVE")
no_feed_move = (λ e. omega (arith, e), (λ e. omega (arith, e), (λ e. omega (arith, e), (λ e. omega (arith, e), tt))))

pub no_feed_end : HasNoFeed (codes "END")
no_feed_end = (λ e. omega (arith, e), (λ e. omega (arith, e), (λ e. omega (arith, e), tt)))

-- the same for the line of a size
pub apart_of_five : (a b c d t : List ℕ) → (a ++ (b ++ (c ++ d))) ++ t ≡ a ++ (b ++ (c ++ (d ++ t)))
apart_of_five a b c d t = simp append_assoc

pub size_body : (p q : ℕ) (next : List ℕ) → size_line p q ++ next ≡ (codes "PARTS" ++ (word p ++ (codes " PLACES" ++ flat_map word (q ∷ [])))) ++ 10 ∷ next
size_body p q next =
    size_apart p q next
    ∙ (ap (λ bs. codes "PARTS" ++ (word p ++ bs)) (line_apart (codes " PLACES") (q ∷ []) next)
    ∙ sym (apart_of_five (codes "PARTS") (word p) (codes " PLACES") (flat_map word (q ∷ [])) (10 ∷ next)))

pub size_otherwise :
    (p q : ℕ) (tail next others : List ℕ) → IsSmall p → IsSmall q → tail ≡ size_line p q ++ next
    → LacksTwo (codes "PARTS") (codes " PLACES") others → BeginsOtherwise tail others
size_otherwise p q tail next others small small' is none =
    record {
      body = codes "PARTS" ++ (word p ++ (codes " PLACES" ++ flat_map word (q ∷ [])));
      next = next;
      whole = no_feed_append (codes "PARTS") (word p ++ (codes " PLACES" ++ flat_map word (q ∷ []))) no_feed_parts
          (no_feed_append (word p) (codes " PLACES" ++ flat_map word (q ∷ [])) (no_feed_word p small)
          (no_feed_append (codes " PLACES") (flat_map word (q ∷ [])) no_feed_places (no_feed_words (q ∷ []) (one_small q small'))));
      is = is ∙ size_body p q next;
      lacks = λ more e. none p q more small small' (e ∙ (sym (size_body p q more) ∙ size_apart p q more));
    }

-- whole lines
pub whole_append : (xs ys : List ℕ) → AreWholeLines xs → AreWholeLines ys → AreWholeLines (xs ++ ys)
whole_append xs ys left right =
    elim right [
      | inl e ↦ subst AreWholeLines (sym (ap (λ bs. xs ++ bs) e ∙ append-nil xs)) left
      | inr last ↦ inr (xs ++ last.0, ap (λ bs. xs ++ bs) last.1 ∙ sym (append_assoc xs last.0 (10 ∷ [])))
    ]

pub whole_line : (name ns : List ℕ) → AreWholeLines (line name ns)
unfolding line
whole_line name ns = inr (name ++ flat_map word ns, sym (append_assoc name (flat_map word ns) (10 ∷ [])))

pub whole_size : (p q : ℕ) → AreWholeLines (size_line p q)
whole_size p q =
    inr (codes "PARTS" ++ (word p ++ (codes " PLACES" ++ flat_map word (q ∷ []))), sym (append-nil (size_line p q)) ∙ size_body p q [])

pub whole_run : {X : Type 0} (text : X → List ℕ) → ((x : X) → AreWholeLines (text x)) → (xs : List X) → AreWholeLines (flat_map text xs)
whole_run text each [] = inl refl
whole_run text each (x ∷ xs) = whole_append (text x) (flat_map text xs) (each x) (whole_run text each xs)
