-- The line of a report, put together word by word.
use Rattle.std.proofs.Common.{◌≡◌, ◌∙◌, ℕ, Bool, true, false, List, [], ◌∷◌, ◌++◌, decimal, refl, sym, ap, append_assoc}
use Rattle.std.specs.Prelude.{codes, if◌then◌else◌}
use Rattle.file_listings.specs.DosText.{line}
use Rattle.shop_changes.specs.Outcome.{end_word, report_line}

-- words and numbers, pair by pair and then the rest, are each before all that follows
in_turn : (a b c d e f g h rest : List ℕ)
    → ((((a ++ b) ++ (c ++ d)) ++ (e ++ f)) ++ (g ++ h)) ++ rest ≡ a ++ (b ++ (c ++ (d ++ (e ++ (f ++ (g ++ (h ++ rest)))))))
in_turn a b c d e f g h rest =
    append_assoc (((a ++ b) ++ (c ++ d)) ++ (e ++ f)) (g ++ h) rest
    ∙ append_assoc ((a ++ b) ++ (c ++ d)) (e ++ f) ((g ++ h) ++ rest)
    ∙ append_assoc (a ++ b) (c ++ d) ((e ++ f) ++ ((g ++ h) ++ rest))
    ∙ append_assoc a b ((c ++ d) ++ ((e ++ f) ++ ((g ++ h) ++ rest)))
    ∙ ap (λ (r : List ℕ). a ++ (b ++ r)) (append_assoc c d ((e ++ f) ++ ((g ++ h) ++ rest)))
    ∙ ap (λ (r : List ℕ). a ++ (b ++ (c ++ (d ++ r)))) (append_assoc e f ((g ++ h) ++ rest))
    ∙ ap (λ (r : List ℕ). a ++ (b ++ (c ++ (d ++ (e ++ (f ++ r)))))) (append_assoc g h rest)

end_of : (finished : Bool) → end_word finished ≡ (codes " " ++ (if finished then codes "finished" else codes "stopped")) ++ 10 ∷ []
end_of true = refl
end_of false = refl

module _ (moves rings misplaced map_writes : ℕ) (finished : Bool) where
  abbrev front : List ℕ
  front = (((codes "moves " ++ decimal moves) ++ (codes " rings " ++ decimal rings)) ++ (codes " misplaced " ++ decimal misplaced)) ++ (codes " map writes " ++ decimal map_writes)

  abbrev rest : List ℕ
  rest = codes " " ++ (if finished then codes "finished" else codes "stopped")

  whole : front ++ end_word finished ≡ line (report_line moves rings misplaced map_writes finished)
  whole = ap (λ (r : List ℕ). front ++ r) (end_of finished) ∙ sym (append_assoc front rest (10 ∷ []))
      ∙ ap (λ (r : List ℕ). r ++ 10 ∷ [])
      (in_turn (codes "moves ") (decimal moves) (codes " rings ") (decimal rings) (codes " misplaced ") (decimal misplaced) (codes " map writes ") (decimal map_writes) rest)

  pub line_is : (none first second third fourth all word : List ℕ) → none ≡ [] → first ≡ none ++ (codes "moves " ++ decimal moves)
      → second ≡ first ++ (codes " rings " ++ decimal rings) → third ≡ second ++ (codes " misplaced " ++ decimal misplaced)
      → fourth ≡ third ++ (codes " map writes " ++ decimal map_writes) → word ≡ end_word finished → all ≡ fourth ++ word → all ≡ line (report_line moves rings misplaced map_writes finished)
  line_is none first second third fourth all word is_none is_first is_second is_third is_fourth is_word is_all =
      let one : first ≡ codes "moves " ++ decimal moves = is_first ∙ ap (λ (r : List ℕ). r ++ (codes "moves " ++ decimal moves)) is_none in
      let two = is_second ∙ ap (λ (r : List ℕ). r ++ (codes " rings " ++ decimal rings)) one in
      let three = is_third ∙ ap (λ (r : List ℕ). r ++ (codes " misplaced " ++ decimal misplaced)) two in
      let four : fourth ≡ front = is_fourth ∙ ap (λ (r : List ℕ). r ++ (codes " map writes " ++ decimal map_writes)) three in
      is_all ∙ ap (λ (r : List ℕ). r ++ word) four ∙ ap (λ (r : List ℕ). front ++ r) is_word ∙ whole
