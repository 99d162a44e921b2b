-- Places that are marked free one after the other.
use Rattle.std.proofs.Common.{◌≡◌, ◌≢◌, ℕ, ◌+◌, ◌<◌, ◌≤◌, true, false, eqb, List, [], ◌∷◌, ◌++◌, length, drop, get_or, refl, ap, sym, ◌∙◌, append_assoc, drop-cons, add-one, inl, inr, subst}
use Rattle.std.specs.Prelude.{◌==◌, not, Option, Some, None}
use Rattle.std.proofs.lemmas.Bool.{cases_eq, eq-eqb, ne_eqb}
use Rattle.std.specs.Option.{option_eq}
use Rattle.std.proofs.lemmas.Option.{none-some}
use Rattle.std.proofs.lemmas.List.{append-nil, drop_all}
use Rattle.vol_format.specs.Directory.{Directory, map_place}
use Rattle.vol_laws.specs.declared.mark.Mark.{Mark}
use Rattle.vol_mover.specs.Drafts.{Drafted, turned_to}
use Rattle.vol_mover.specs.Tasks.{Task, Map, Copy, Pointer}
use Rattle.vol_mover.specs.Writes.{freed, with_mark, releases, outside}

same : (a : ℕ) → (a == a) ≡ true
same a = eq-eqb a a refl

other : (a b : ℕ) → a ≢ b → (a == b) ≡ false
other a b ne = ne_eqb a b ne

-- marks of one unit before other writes
abbrev pub with_marks : ℕ → List Mark → List Task → List Task
with_marks at [] tasks = tasks
with_marks at (mark ∷ marks) tasks = with_mark at mark (with_marks at marks tasks)

with_marks-push : (at : ℕ) (marks : List Mark) (mark : Mark) (tasks : List Task) → with_marks at (marks ++ mark ∷ []) tasks ≡ with_marks at marks (with_mark at mark tasks)
with_marks-push at [] mark tasks = refl
with_marks-push at (m ∷ marks) mark tasks = ap (with_mark at m) (with_marks-push at marks mark tasks)

-- one mark before a write of the same unit, and of another
pub same_unit : (at : ℕ) (mark : Mark) (marks : List Mark) (tasks : List Task) → with_mark at mark (Map at marks ∷ tasks) ≡ Map at (mark ∷ marks) ∷ tasks
same_unit at mark marks tasks = let e = same at in rw e refl

pub other_unit : (at unit : ℕ) (mark : Mark) (marks : List Mark) (tasks : List Task) → unit ≢ at
    → with_mark at mark (Map unit marks ∷ tasks) ≡ Map at (mark ∷ []) ∷ Map unit marks ∷ tasks
other_unit at unit mark marks tasks ne = let e = other unit at ne in rw e refl

-- all marks of one unit, with nothing behind or a write of another unit
pub whole_at_end : (at : ℕ) (mark : Mark) (marks : List Mark) → with_marks at (mark ∷ marks) [] ≡ Map at (mark ∷ marks) ∷ []
whole_at_end at mark [] = refl
whole_at_end at mark (m ∷ marks) = ap (with_mark at mark) (whole_at_end at m marks) ∙ same_unit at mark (m ∷ marks) []

whole_before : (at unit : ℕ) (mark : Mark) (marks behind : List Mark) (tasks : List Task) → unit ≢ at
    → with_marks at (mark ∷ marks) (Map unit behind ∷ tasks) ≡ Map at (mark ∷ marks) ∷ Map unit behind ∷ tasks
whole_before at unit mark [] behind tasks ne = other_unit at unit mark behind tasks ne
whole_before at unit mark (m ∷ marks) behind tasks ne =
    ap (with_mark at mark) (whole_before at unit m marks behind tasks ne) ∙ same_unit at mark (m ∷ marks) (Map unit behind ∷ tasks)

-- a mark before some writes is in the first of them
pub record IsHeaded (at : ℕ) (tasks : List Task) : Type 0 where
  pub marks : List Mark
  pub rest : List Task
  pub is : tasks ≡ Map at marks ∷ rest

pub headed : (at : ℕ) (mark : Mark) (tasks : List Task) → IsHeaded at (with_mark at mark tasks)
headed at mark [] = record { marks = mark ∷ []; rest = []; is = refl }
headed at mark (Copy move ∷ tasks) = record { marks = mark ∷ []; rest = Copy move ∷ tasks; is = refl }
headed at mark (Pointer move ∷ tasks) = record { marks = mark ∷ []; rest = Pointer move ∷ tasks; is = refl }
headed at mark (Map unit marks ∷ tasks) =
    elim (cases_eq unit at) [
      | inl e ↦ record { marks = mark ∷ marks; rest = tasks; is = ap (λ u. with_mark at mark (Map u marks ∷ tasks)) e ∙ same_unit at mark marks tasks }
      | inr ne ↦ record { marks = mark ∷ []; rest = Map unit marks ∷ tasks; is = other_unit at unit mark marks tasks ne }
    ]

whole_before_mark : (at unit : ℕ) (m : Mark) (ms : List Mark) (mark : Mark) (tasks : List Task) → unit ≢ at
    → with_marks unit (m ∷ ms) (with_mark at mark tasks) ≡ Map unit (m ∷ ms) ∷ with_mark at mark tasks
whole_before_mark at unit m ms mark tasks ne =
    let h = headed at mark tasks in
    ap (with_marks unit (m ∷ ms)) h.is ∙ (whole_before unit at m ms h.marks h.rest (λ e. ne (sym e)) ∙ ap (λ ts. Map unit (m ∷ ms) ∷ ts) (sym h.is))

-- the writes of an agenda that is being made, with what is still to come; and that its marks are of the unit that is named
abbrev pub pending : Option ℕ → Drafted → List Task → List Task
pending None draft rest = draft.tasks ++ rest
pending (Some unit) draft rest = draft.tasks ++ with_marks unit draft.marks rest

abbrev pub IsOpen : Option ℕ → Drafted → Type 0
IsOpen None draft = draft.marks ≡ []
IsOpen (Some unit) draft = draft.marks ≢ []

-- one more mark
abbrev pub one_more : Option ℕ → ℕ → Mark → Drafted → Drafted
one_more unit at mark draft = record (turned_to unit at draft) { marks = (turned_to unit at draft).marks ++ mark ∷ [] }

pushed_some : (marks : List Mark) (mark : Mark) → marks ++ mark ∷ [] ≢ []
pushed_some [] mark e = cc
pushed_some (m ∷ marks) mark e = cc

one_more_open : (unit : Option ℕ) (at : ℕ) (mark : Mark) (draft : Drafted) → IsOpen (Some at) (one_more unit at mark draft)
one_more_open unit at mark draft = pushed_some (turned_to unit at draft).marks mark

turned_same : (unit at : ℕ) (draft : Drafted) → unit ≡ at → turned_to (Some unit) at draft ≡ draft
turned_same unit at draft e = let t : (unit == at) ≡ true = ap (λ u. u == at) e ∙ same at in rw t refl

turned_other : (unit at : ℕ) (draft : Drafted) → unit ≢ at → turned_to (Some unit) at draft ≡ record { tasks = draft.tasks ++ Map unit draft.marks ∷ []; marks = [] }
turned_other unit at draft ne = let t = other unit at ne in rw t refl

some_marks : (tasks : List Task) (unit at : ℕ) (marks : List Mark) (mark : Mark) (rest : List Task) → unit ≢ at → marks ≢ []
    → (tasks ++ Map unit marks ∷ []) ++ with_mark at mark rest ≡ tasks ++ with_marks unit marks (with_mark at mark rest)
some_marks tasks unit at [] mark rest ne some = absurd (some refl)
some_marks tasks unit at (m ∷ ms) mark rest ne some =
    append_assoc tasks (Map unit (m ∷ ms) ∷ []) (with_mark at mark rest) ∙ ap (λ ts. tasks ++ ts) (sym (whole_before_mark at unit m ms mark rest ne))

one_more_pending : (unit : Option ℕ) (at : ℕ) (mark : Mark) (draft : Drafted) (rest : List Task) → IsOpen unit draft
    → pending (Some at) (one_more unit at mark draft) rest ≡ pending unit draft (with_mark at mark rest)
one_more_pending None at mark draft rest empty = ap (λ ms. draft.tasks ++ with_marks at (ms ++ mark ∷ []) rest) empty
one_more_pending (Some unit) at mark draft rest some =
    elim (cases_eq unit at) [
      | inl e ↦
          ap (λ d. pending (Some at) (record d { marks = d.marks ++ mark ∷ [] }) rest) (turned_same unit at draft e)
          ∙ (ap (λ ts. draft.tasks ++ ts) (with_marks-push at draft.marks mark rest) ∙ ap (λ u. draft.tasks ++ with_marks u draft.marks (with_mark at mark rest)) (sym e))
      | inr ne ↦
          ap (λ d. pending (Some at) (record d { marks = d.marks ++ mark ∷ [] }) rest) (turned_other unit at draft ne)
          ∙ some_marks draft.tasks unit at draft.marks mark rest ne some
    ]

-- what comes next of some places
outside-skipped : (directory : Directory) (skipped : Option ℕ) (place : ℕ) (places : List ℕ) → skipped ≡ Some (map_place directory place)
    → outside directory skipped (place ∷ places) ≡ outside directory skipped places
outside-skipped directory skipped place places is =
    let e = same (map_place directory place) in
    ap (λ s. outside directory s (place ∷ places)) is ∙ rw e refl ∙ ap (λ s. outside directory s places) (sym is)

outside-next : (directory : Directory) (skipped : Option ℕ) (place : ℕ) (places : List ℕ) → skipped ≢ Some (map_place directory place)
    → outside directory skipped (place ∷ places) ≡ place ∷ outside directory skipped places
outside-next directory None place places ne = refl
outside-next directory (Some unit) place places ne =
    let e = other (map_place directory place) unit (λ e. ne (ap Some (sym e))) in
    rw e refl

-- The places before index i are marked, those of the last unit among them in the next write.
pub record IsReleasing (directory : Directory) (skipped : Option ℕ) (places : List ℕ) (first : List Task) (i : ℕ) (unit : Option ℕ) (draft : Drafted) : Type 0 where
  pub opened : IsOpen unit draft
  pub all : pending unit draft (releases directory (outside directory skipped (drop i places))) ≡ first ++ releases directory (outside directory skipped places)

module _ (directory : Directory) (skipped : Option ℕ) (places : List ℕ) (first : List Task) (i : ℕ) (unit : Option ℕ) (draft : Drafted)
    (is : IsReleasing directory skipped places first i unit draft) where
  next_places : i < length places → drop i places ≡ get_or places i 0 ∷ drop (i + 1) places
  next_places within = rw (add-one i) (drop-cons places i 0 within)

  pub releasing-skipped : i < length places → skipped ≡ Some (map_place directory (get_or places i 0)) → IsReleasing directory skipped places first (i + 1) unit draft
  releasing-skipped within same = record {
    opened = is.opened;
    all = ap (λ ps. pending unit draft (releases directory ps))
        (sym (outside-skipped directory skipped (get_or places i 0) (drop (i + 1) places) same) ∙ ap (outside directory skipped) (sym (next_places within))) ∙ is.all;
  }

  pub releasing-more : i < length places → skipped ≢ Some (map_place directory (get_or places i 0))
      → IsReleasing directory skipped places first (i + 1) (Some (map_place directory (get_or places i 0)))
      (one_more unit (map_place directory (get_or places i 0)) (freed (get_or places i 0)) draft)
  releasing-more within other = record {
    opened = one_more_open unit (map_place directory (get_or places i 0)) (freed (get_or places i 0)) draft;
    all =
        one_more_pending unit (map_place directory (get_or places i 0)) (freed (get_or places i 0)) draft (releases directory (outside directory skipped (drop (i + 1) places))) is.opened
        ∙ (ap (λ ps. pending unit draft (releases directory ps))
        (sym (outside-next directory skipped (get_or places i 0) (drop (i + 1) places) other) ∙ ap (outside directory skipped) (sym (next_places within))) ∙ is.all);
  }

-- at the start, and at the end
pub releasing-none : (directory : Directory) (skipped : Option ℕ) (places : List ℕ) (draft : Drafted) → draft.marks ≡ []
    → IsReleasing directory skipped places draft.tasks 0 None draft
releasing-none directory skipped places draft empty = record { opened = empty; all = refl }

outside-nothing : (directory : Directory) (skipped : Option ℕ) → outside directory skipped [] ≡ []
outside-nothing directory None = refl
outside-nothing directory (Some unit) = refl

all_released : (directory : Directory) (skipped : Option ℕ) (places : List ℕ) (i : ℕ) → length places ≤ i
    → releases directory (outside directory skipped (drop i places)) ≡ []
all_released directory skipped places i past = ap (λ ps. releases directory (outside directory skipped ps)) (drop_all i places past) ∙ ap (releases directory) (outside-nothing directory skipped)

some_whole : (tasks : List Task) (unit : ℕ) (marks : List Mark) → marks ≢ [] → tasks ++ with_marks unit marks [] ≡ tasks ++ Map unit marks ∷ []
some_whole tasks unit [] some = absurd (some refl)
some_whole tasks unit (m ∷ ms) some = ap (λ ts. tasks ++ ts) (whole_at_end unit m ms)

pub released-some : (directory : Directory) (skipped : Option ℕ) (places : List ℕ) (first : List Task) (i unit : ℕ) (draft : Drafted)
    → IsReleasing directory skipped places first i (Some unit) draft → length places ≤ i
    → draft.tasks ++ Map unit draft.marks ∷ [] ≡ first ++ releases directory (outside directory skipped places)
released-some directory skipped places first i unit draft is past =
    sym (some_whole draft.tasks unit draft.marks is.opened)
    ∙ (ap (λ ts. draft.tasks ++ with_marks unit draft.marks ts) (sym (all_released directory skipped places i past)) ∙ is.all)

pub released-none : (directory : Directory) (skipped : Option ℕ) (places : List ℕ) (first : List Task) (i : ℕ) (draft : Drafted)
    → IsReleasing directory skipped places first i None draft → length places ≤ i
    → draft.tasks ≡ first ++ releases directory (outside directory skipped places)
released-none directory skipped places first i draft is past =
    sym (append-nil draft.tasks) ∙ (ap (λ ts. draft.tasks ++ ts) (sym (all_released directory skipped places i past)) ∙ is.all)

-- the test whether a place is skipped
is_not_skipped : (skipped : Option ℕ) (at : ℕ) → not (option_eq eqb skipped (Some at)) ≡ true → skipped ≢ Some at
is_not_skipped None at e = λ is. none-some at is
is_not_skipped (Some unit) at e = λ is. let u : unit ≡ at = cc in let t : eqb unit at ≡ true = eq-eqb unit at u in cc

is_skipped : (skipped : Option ℕ) (at : ℕ) → not (option_eq eqb skipped (Some at)) ≡ false → skipped ≡ Some at
is_skipped None at e = cc
is_skipped (Some unit) at e = elim (cases_eq unit at) [ inl same ↦ ap Some same | inr ne ↦ let t : eqb unit at ≡ false = ne_eqb unit at ne in cc ]

module _ (directory : Directory) (skipped : Option ℕ) (places : List ℕ) (first : List Task) (i : ℕ) (unit : Option ℕ) (draft : Drafted)
    (is : IsReleasing directory skipped places first i unit draft) (within : i < length places) (at : ℕ) (here : at ≡ map_place directory (get_or places i 0)) where
  pub releasing-else : not (option_eq eqb skipped (Some at)) ≡ false → IsReleasing directory skipped places first (i + 1) unit draft
  releasing-else e = releasing-skipped directory skipped places first i unit draft is within (is_skipped skipped at e ∙ ap Some here)

  pub releasing-then : not (option_eq eqb skipped (Some at)) ≡ true
      → IsReleasing directory skipped places first (i + 1) (Some at) (one_more unit at (freed (get_or places i 0)) draft)
  releasing-then e =
      subst (λ a. IsReleasing directory skipped places first (i + 1) (Some a) (one_more unit a (freed (get_or places i 0)) draft)) (sym here)
      (releasing-more directory skipped places first i unit draft is within (λ same. is_not_skipped skipped at e (same ∙ ap Some (sym here))))

-- an agenda that is being made whole, by the last write of the map
pub whole-some : (directory : Directory) (skipped : Option ℕ) (places : List ℕ) (start : Drafted) (i unit : ℕ) (draft : Drafted)
    → start.marks ≡ [] → IsReleasing directory skipped places start.tasks i (Some unit) draft → length places ≤ i
    → record { tasks = draft.tasks ++ Map unit draft.marks ∷ []; marks = [] } ≡ record start { tasks = start.tasks ++ releases directory (outside directory skipped places) }
whole-some directory skipped places start i unit draft empty is past =
    let tasks = released-some directory skipped places start.tasks i unit draft is past in
    ap (λ ts. record { tasks = ts; marks = [] }) tasks ∙ ap (λ ms. record { tasks = start.tasks ++ releases directory (outside directory skipped places); marks = ms }) (sym empty)
