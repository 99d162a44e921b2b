-- Which places are lost while the work goes on.
use Rattle.std.specs.Prelude.{◌≡◌, ◌⊎◌, ◌≤◌, ◌==◌, ℕ, Bool, true, false, not, if◌then◌else◌, List, [], ◌∷◌, ◌++◌, map, Contains}
use Rattle.std.proofs.Common.{refl, sym, subst, arith, inl, inr, ◌∙◌}
use Rattle.std.proofs.lemmas.List.{append-nil}
use Rattle.vol_format.proofs.Filters.{out_of_filter}
use Rattle.vol_format.specs.Directory.{Directory, map_place}
use Rattle.vol_layout.proofs.Lists.{Contains-cases}
use Rattle.vol_layout.specs.Plans.{moved}
use Rattle.vol_layout.specs.declared.moves.Move.{Move}
use Rattle.vol_laws.specs.declared.mark.Mark.{Mark}
use Rattle.vol_mover.specs.Tasks.{Course, Task, Map, Copy, Pointer, IsFewLost, at_first, course_after, lost_after, place_of, without}
use Rattle.vol_mover.specs.Writes.{beside, freed, outside, releases, used, with_mark, writes_after, writes_of}
use Rattle.std.specs.Prelude.{Some, slice_index}
use Rattle.vol_mover.specs.Report.{AreFewLost}
use Rattle.vol_mover.specs.Runs.{course_after_all}

-- each of some lost places is this one, or one of those that were lost at first
abbrev IsAmong : ℕ → List ℕ → List ℕ → Type 0
IsAmong more first lost = (place : ℕ) → Contains lost place → (place ≡ more) ⊎ Contains first place

-- marks that all free their places
abbrev AreFree : List Mark → Type 0
AreFree [] = Unit {0}
AreFree (mark ∷ marks) = (mark.free ≡ true) × AreFree marks

abbrev BeginsWithPointer : List Task → Type 0
BeginsWithPointer (Pointer move ∷ tasks) = Unit {0}
BeginsWithPointer tasks = ⊥

-- writes of the map that free places alone, up to the first copy, behind which its pointer comes
abbrev FreesAlone : List Task → Type 0
FreesAlone [] = Unit {0}
FreesAlone (Map at marks ∷ tasks) = AreFree marks × FreesAlone tasks
FreesAlone (Copy move ∷ tasks) = BeginsWithPointer tasks
FreesAlone (Pointer move ∷ tasks) = ⊥

-- a move was made; or what is lost is known, and what is left frees alone up to the first pointer
abbrev IsKnown : ℕ → List ℕ → Course → List Task → Type 0
IsKnown more first course tasks = ((1 ≤ course.moves) × (1 ≤ course.writes)) ⊎ (IsAmong more first course.lost × (FreesAlone tasks ⊎ BeginsWithPointer tasks))

freed_only : (lost : List ℕ) (marks : List Mark) → AreFree marks → (place : ℕ) → Contains (lost_after lost marks) place → Contains lost place
freed_only lost [] free place has = has
freed_only lost (mark ∷ marks) free place has =
    let rest : Contains (lost_after (without lost mark.place) marks) place =
    subst (λ b. Contains (lost_after (if b then without lost mark.place else (mark.place ∷ without lost mark.place)) marks) place) free.0 has in
    (out_of_filter (λ other. not (other == mark.place)) lost place (freed_only (without lost mark.place) marks free.1 place rest)).0

module _ (directory : Directory) (more : ℕ) (first : List ℕ) where
  known_step : (course : Course) (task : Task) (tasks : List Task) → IsKnown more first course (task ∷ tasks) → IsKnown more first (course_after directory course task) tasks
  known_step course (Map at marks) tasks (inl made) = inl (made.0, omega (arith, made.1))
  known_step course (Map at marks) tasks (inr known) = elim known.1 [
    | inl frees ↦ inr (λ place has. known.0 place (freed_only course.lost marks frees.0 place has), inl frees.1)
    | inr begins ↦ absurd begins
  ]
  known_step course (Copy move) tasks (inl made) = inl (made.0, omega (arith, made.1))
  known_step course (Copy move) tasks (inr known) = elim known.1 [
    | inl begins ↦ inr (known.0, inr begins)
    | inr begins ↦ absurd begins
  ]
  known_step course (Pointer move) tasks known = inl (omega arith, omega arith)

  known_after : (course : Course) (made left : List Task) → IsKnown more first course (made ++ left) → IsKnown more first (course_after_all directory course made) left
  known_after course [] left known = known
  known_after course (task ∷ made) left known = known_after (course_after directory course task) made left (known_step course task (made ++ left) known)

known_few : (units n more : ℕ) (first : List ℕ) (course : Course) (tasks : List Task) → IsKnown more first course tasks → IsFewLost units n course tasks
    → AreFewLost first course.lost
known_few units n more first course tasks (inr known) few = inr (more, known.0)
known_few units n more first course tasks (inl made) few = elim few [
  | inl one ↦ inl (omega (arith, one))
  | inr other ↦ elim other [
    | inl two ↦ inl two.1
    | inr start ↦ elim start [
      | inl none ↦ absurd (omega (arith, none.0, made.1))
      | inr change ↦ absurd (omega (arith, change.1, made.0))
    ]
  ]
]

with_mark_frees : (at : ℕ) (mark : Mark) (tasks rest : List Task) → mark.free ≡ true → FreesAlone (tasks ++ rest) → FreesAlone (with_mark at mark tasks ++ rest)
with_mark_frees at mark [] rest is frees = ((is, tt), frees)
with_mark_frees at mark (Map unit marks ∷ tasks) rest is frees = by_unit (unit == at)
  where
    by_unit : (b : Bool) → FreesAlone ((if b then (Map at (mark ∷ marks) ∷ tasks) else (Map at (mark ∷ []) ∷ Map unit marks ∷ tasks)) ++ rest)
    by_unit true = ((is, frees.0), frees.1)
    by_unit false = ((is, tt), frees)
with_mark_frees at mark (Copy move ∷ tasks) rest is frees = ((is, tt), frees)
with_mark_frees at mark (Pointer move ∷ tasks) rest is frees = ((is, tt), frees)

releases_free : (directory : Directory) (places : List ℕ) (rest : List Task) → FreesAlone rest → FreesAlone (releases directory places ++ rest)
releases_free directory [] rest frees = frees
releases_free directory (p ∷ ps) rest frees = with_mark_frees (map_place directory p) (freed p) (releases directory ps) rest refl (releases_free directory ps rest frees)

all_freed : (places : List ℕ) → AreFree (map freed places)
all_freed [] = tt
all_freed (p ∷ ps) = (refl, all_freed ps)

-- after the first write of a change
first_among : (place : ℕ) (first others : List ℕ) → IsAmong place first (lost_after first (used place ∷ map freed others))
first_among place first others other has =
    elim (Contains-cases place (without first place) other (freed_only (place ∷ without first place) (map freed others) (all_freed others) other has)) [
      | inl same ↦ inl (sym same)
      | inr later ↦ inr (out_of_filter (λ o. not (o == place)) first other later).0
    ]

pub few_lost_of : (directory : Directory) (units n : ℕ) (at first : List ℕ) (moves : List Move) (made left : List Task) → writes_of directory at first moves ≡ made ++ left
    → IsFewLost units n (course_after_all directory (at_first at first) made) left → AreFewLost first (course_after_all directory (at_first at first) made).lost
few_lost_of directory units n at first moves [] left is few = inr (0, λ place has. inr has)
few_lost_of directory units n at first [] (task ∷ made) left is few =
    known_few units n 0 first (course_after_all directory (at_first at first) (task ∷ made)) left
    (known_after directory 0 first (at_first at first) (task ∷ made) left
    (inr (λ place has. inr has, inl (subst FreesAlone (append-nil (releases directory first) ∙ is) (releases_free directory first [] tt))))) few
few_lost_of directory units n at first (move ∷ moves) (task ∷ made) left is few =
    known_few units n place first (course_after_all directory (at_first at first) (task ∷ made)) left
    (known_after directory place first (course_after directory (at_first at first) task) made left
    (inr (among, inl (subst FreesAlone rest_is (releases_free directory far (Copy move ∷ Pointer move ∷ later) tt))))) few
  where
    place : ℕ
    place = place_of directory move.to

    far : List ℕ
    far = outside directory (Some (map_place directory place)) first

    later : List Task
    later = writes_after directory (slice_index at move.part) (moved at move) moves

    begin : Task
    begin = Map (map_place directory place) (used place ∷ map freed (beside directory place first))

    whole : begin ∷ (releases directory far ++ Copy move ∷ Pointer move ∷ later) ≡ task ∷ (made ++ left)
    whole = is

    task_is : begin ≡ task
    task_is = cc whole

    rest_is : releases directory far ++ Copy move ∷ Pointer move ∷ later ≡ made ++ left
    rest_is = cc whole

    among : IsAmong place first (course_after directory (at_first at first) task).lost
    among = subst (λ t. IsAmong place first (course_after directory (at_first at first) t).lost) task_is (first_among place first (beside directory place first))
