-- The writes of a plan's moves, one move after the other.
use Rattle.std.proofs.Common.{◌≡◌, ℕ, ◌+◌, ◌<◌, ◌≤◌, List, [], ◌∷◌, ◌++◌, length, drop, get_or, ap, sym, ◌∙◌, append_assoc, drop-cons, add-one, subst}
use Rattle.std.specs.Prelude.{slice_index, All}
use Rattle.std.proofs.lemmas.List.{drop_all, get_or_default}
use Rattle.std.proofs.lemmas.List.Elements.{All-set}
use Rattle.vol_layout.specs.Plans.{IsPlan, IsLegal, moved}
use Rattle.vol_layout.specs.declared.moves.Move.{Move}
use Rattle.vol_format.specs.Directory.{Directory}
use Rattle.vol_format.specs.Laws.{IsDirectory}
use Rattle.vol_format.specs.Meaning.{Meaning}
use Rattle.vol_mover.specs.Drafts.{Drafted}
use Rattle.vol_mover.specs.Tasks.{Task, Copy, Pointer, place_of}
use Rattle.vol_mover.specs.Writes.{changes_between, releases, writes_after}

-- the place of a number is one of the volume
pub place_below : (format : Meaning) (directory : Directory) → IsDirectory format directory → (number : ℕ) → number < length directory.available → place_of directory number < directory.places
place_below format directory is number within = ((is.available_of (place_of directory number)).0 (number, within, get_or_default directory.available number _ 0 within)).0

-- The moves before index i are made: what is still to come makes the whole.
pub record IsMaking (directory : Directory) (moves : List Move) (whole : List Task) (i left : ℕ) (at : List ℕ) (draft : Drafted) : Type 0 where
  pub inside : left < length directory.available
  pub below : All (λ number. number < length directory.available) at
  pub plan : IsPlan at (length directory.available) (drop i moves)
  pub marks : draft.marks ≡ []
  pub all : draft.tasks ++ writes_after directory left at (drop i moves) ≡ whole

module _ (directory : Directory) (moves : List Move) (whole : List Task) (i left : ℕ) (at : List ℕ) (draft : Drafted)
    (is : IsMaking directory moves whole i left at draft) (move : Move) (next : drop i moves ≡ move ∷ drop (i + 1) moves) where
  plan : IsPlan at (length directory.available) (move ∷ drop (i + 1) moves)
  plan = subst (IsPlan at (length directory.available)) next is.plan

  pub next_legal : IsLegal at (length directory.available) move
  next_legal = plan.0

  pub making-more :
      IsMaking directory moves whole (i + 1) (slice_index at move.part) (moved at move)
      (record draft { tasks = (draft.tasks ++ changes_between directory left move.to) ++ Copy move ∷ Pointer move ∷ [] })
  making-more = record {
    inside = is.below move.part 0 next_legal.part;
    below = All-set (λ number. number < length directory.available) at move.part move.to next_legal.place is.below;
    plan = plan.1;
    marks = is.marks;
    all =
        append_assoc (draft.tasks ++ changes_between directory left move.to) (Copy move ∷ Pointer move ∷ []) (writes_after directory (slice_index at move.part) (moved at move) (drop (i + 1) moves))
        ∙ (append_assoc draft.tasks (changes_between directory left move.to) (Copy move ∷ Pointer move ∷ writes_after directory (slice_index at move.part) (moved at move) (drop (i + 1) moves))
        ∙ (ap (λ ms. draft.tasks ++ writes_after directory left at ms) (sym next) ∙ is.all));
  }

pub making-end : (directory : Directory) (moves : List Move) (whole : List Task) (i left : ℕ) (at : List ℕ) (draft : Drafted)
    → IsMaking directory moves whole i left at draft → length moves ≤ i → draft.tasks ++ releases directory (place_of directory left ∷ []) ≡ whole
making-end directory moves whole i left at draft is past = ap (λ ms. draft.tasks ++ writes_after directory left at ms) (sym (drop_all i moves past)) ∙ is.all

-- the next move
abbrev pub no_move : Move
no_move = record { part = 0; to = 0 }

pub next_move : (moves : List Move) (i : ℕ) → i < length moves → drop i moves ≡ get_or moves i no_move ∷ drop (i + 1) moves
next_move moves i within = rw (add-one i) (drop-cons moves i no_move within)
