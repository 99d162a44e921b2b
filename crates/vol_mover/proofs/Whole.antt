-- The writes of a plan are an agenda.
use Rattle.std.proofs.Common.{◌≡◌, ℕ, ◌+◌, ◌<◌, true, false, List, [], ◌∷◌, ◌++◌, length, refl, sym, ◌∙◌, arith, inl, inr, subst}
use Rattle.std.specs.Prelude.{◌==◌, slice_index, Contains, All}
use Rattle.std.proofs.lemmas.Bool.{cases_eq, eq-eqb, ne_eqb}
use Rattle.std.proofs.lemmas.List.{append-nil, get_or_default}
use Rattle.std.proofs.lemmas.List.Elements.{All-cons}
use Rattle.vol_layout.specs.Layouts.{AreDistinct, IsLayout, IsTarget}
use Rattle.vol_layout.specs.Plans.{IsPlan, IsLegal, after, moved}
use Rattle.vol_layout.specs.declared.moves.Move.{Move}
use Rattle.vol_layout.proofs.PlanLemmas.{IsLayout-moved, Contains-moved}
use Rattle.vol_format.specs.Directory.{Directory}
use Rattle.vol_format.specs.Laws.{IsDirectory}
use Rattle.vol_format.specs.Meaning.{Meaning}
use Rattle.vol_mover.specs.Tasks.{Task, Copy, Pointer, IsAgenda, at_first, place_of}
use Rattle.vol_mover.specs.Work.{LeadsToTarget, AreSpare}
use Rattle.vol_mover.specs.Writes.{changes_between, releases, writes_after, writes_of}
use Rattle.vol_mover.proofs.Changed.{changed}
use Rattle.vol_mover.proofs.Released.{released}
use Rattle.vol_mover.proofs.Spare.{IsSpare, between, spare_number}

one_apart : (place : ℕ) → AreDistinct (place ∷ [])
one_apart place i j d order within = absurd (omega (arith, order, within))

one_spare : (directory : Directory) (at : List ℕ) (place : ℕ) → IsSpare directory at place → All (IsSpare directory at) (place ∷ [])
one_spare directory at place spare = All-cons (IsSpare directory at) place [] spare (λ i d within. absurd (omega (arith, within)))

module _ (format : Meaning) (directory : Directory) (is : IsDirectory format directory) (first : ℕ) where
  abbrev units : ℕ
  units = length directory.map_units

  abbrev places : ℕ
  places = length directory.available

  -- the place of a part that has moved away is spare
  left_free : (at : List ℕ) (move : Move) → IsLayout at places → IsLegal at places move → Contains (moved at move) (slice_index at move.part) → ⊥
  left_free at move layout legal has =
      elim ((Contains-moved at move.part move.to (slice_index at move.part) layout.distinct legal.part).0 has) [
        | inl same ↦ legal.free (subst (Contains at) same (move.part, legal.part, get_or_default at move.part _ 0 legal.part))
        | inr stays ↦ stays.1 refl
      ]

  -- a move whose place is the one that is lost, and what comes after
  moving : (at : List ℕ) (w m : ℕ) (move : Move) (rest : List Task) → IsLegal at places move
      → ((v n : ℕ) → IsAgenda directory first (between (moved at move) (place_of directory (slice_index at move.part) ∷ []) v n) rest)
      → IsAgenda directory first (between at (place_of directory move.to ∷ []) w m) (Copy move ∷ Pointer move ∷ rest)
  moving at w m move rest legal next =
      ((refl, legal, refl), inl (omega arith), ((refl, legal, refl), inl (omega arith), next (w + 1 + 1) (m + 1)))

  between_moves : (left w m : ℕ) (at : List ℕ) (move : Move) (rest : List Task) → left < places → (Contains at left → ⊥) → IsLayout at places → IsLegal at places move
      → ((v : ℕ) → IsAgenda directory first (between at (place_of directory move.to ∷ []) v m) rest)
      → IsAgenda directory first (between at (place_of directory left ∷ []) w m) (changes_between directory left move.to ++ rest)
  between_moves left w m at move rest inside free layout legal next =
      elim (cases_eq move.to left) [
        | inl same ↦
            let t : (move.to == left) ≡ true = eq-eqb move.to left same in
            rw t (subst (λ n. IsAgenda directory first (between at (place_of directory n ∷ []) w m) rest) same (next w))
        | inr ne ↦
            let t : (move.to == left) ≡ false = ne_eqb move.to left ne in
            rw t
            (changed format directory is first at m (place_of directory move.to) w (place_of directory left ∷ []) rest (one_apart (place_of directory left))
            (one_spare directory at (place_of directory left) (spare_number format directory is at left inside layout.below free))
            (spare_number format directory is at move.to legal.place layout.below legal.free) (inl (omega arith)) (λ two n v few. inr (inl (two, few))) next)
      ]

  at_end : (left w m : ℕ) (at : List ℕ) → left < places → (Contains at left → ⊥) → IsLayout at places → IsTarget at
      → IsAgenda directory first (between at (place_of directory left ∷ []) w m) (releases directory (place_of directory left ∷ []))
  at_end left w m at inside free layout target =
      subst (IsAgenda directory first (between at (place_of directory left ∷ []) w m)) (append-nil (releases directory (place_of directory left ∷ [])))
      (released format directory is first at m [] (place_of directory left ∷ []) w [] (one_apart (place_of directory left))
      (one_spare directory at (place_of directory left) (spare_number format directory is at left inside layout.below free)) (λ lost v few which. inl few)
      (λ v. record { target = target; found = refl; pointed = refl }))

  after_move : (left w m : ℕ) (at : List ℕ) (moves : List Move) → left < places → (Contains at left → ⊥) → IsLayout at places → IsPlan at places moves → IsTarget (after at moves)
      → IsAgenda directory first (between at (place_of directory left ∷ []) w m) (writes_after directory left at moves)
  after_move left w m at [] inside free layout plan target = at_end left w m at inside free layout target
  after_move left w m at (move ∷ moves) inside free layout plan target =
      between_moves left w m at move (Copy move ∷ Pointer move ∷ writes_after directory (slice_index at move.part) (moved at move) moves) inside free layout plan.0
      (λ v. moving at v m move (writes_after directory (slice_index at move.part) (moved at move) moves) plan.0
      (λ u n. after_move (slice_index at move.part) u n (moved at move) moves (layout.below move.part 0 plan.0.part) (left_free at move layout plan.0)
      (IsLayout-moved at places move layout plan.0) plan.1 target))

module _ (format : Meaning) (directory : Directory) (is : IsDirectory format directory) (at lost : List ℕ) (spare : AreSpare directory at lost) where
  all_spare : All (IsSpare directory at) lost
  all_spare i d within = record {
    available = spare.available i d within;
    no_part = λ k inside same. spare.no_part k inside (i, within, get_or_default lost i _ d within ∙ sym same);
  }

  pub writes_are_agenda : (moves : List Move) → LeadsToTarget directory at moves → IsAgenda directory (length lost) (at_first at lost) (writes_of directory at lost moves)
  writes_are_agenda [] leads =
      subst (IsAgenda directory (length lost) (at_first at lost)) (append-nil (releases directory lost))
      (released format directory is (length lost) at 0 [] lost 0 [] spare.once all_spare
      (λ n v few which. elim which [ inl none ↦ inr (inr (inl (none, few))) | inr two ↦ inr (inr (inr (two, refl, tt, omega (arith, few)))) ])
      (λ v. record { target = leads.target; found = refl; pointed = refl }))
  writes_are_agenda (move ∷ moves) leads =
      let legal = leads.legal.0 in
      changed format directory is (length lost) at 0 (place_of directory move.to) 0 lost (Copy move ∷ Pointer move ∷ writes_after directory (slice_index at move.part) (moved at move) moves)
      spare.once all_spare (spare_number format directory is at move.to legal.place leads.layout.below legal.free)
      (inr (inr (inl (refl, omega arith)))) (λ two n v few. inr (inr (inr (two, refl, tt, few))))
      (λ v. moving format directory is (length lost) at v 0 move (writes_after directory (slice_index at move.part) (moved at move) moves) legal
      (λ u n. after_move format directory is (length lost) (slice_index at move.part) u n (moved at move) moves (leads.layout.below move.part 0 legal.part)
      (left_free format directory is (length lost) at move leads.layout legal) (IsLayout-moved at (length directory.available) move leads.layout legal) leads.legal.1 leads.target))
