-- A session after a read, after a write that failed, and after a write that was made.
use Rattle.std.specs.Prelude.{◌≡◌, ◌<◌, ℕ, ◌+◌, true, false, List, [], ◌∷◌, length, IsTrue}
use Rattle.std.proofs.Common.{sym, ◌∙◌, ap, subst, arith}
use Rattle.std.proofs.lemmas.List.{length-set}
use Rattle.a2_device.specs.Device.{DeviceState, IsSameDevice}
use Rattle.vol_layout.specs.Plans.{moved}
use Rattle.vol_layout.specs.declared.moves.Move.{Move}
use Rattle.vol_layout.proofs.PlanLemmas.{IsLayout-moved}
use Rattle.vol_layout.proofs.ShortestPlans.{rest_is_shortest}
use Rattle.vol_format.specs.Meaning.{Meaning}
use Rattle.vol_mover.specs.Tasks.{Course, Task, Map, Copy, Pointer, course_after, moves_of}
use Rattle.vol_mover.specs.Open.{IsOpen}
use Rattle.vol_mover.specs.Present.{Present, IsSession, IsShortest, copies}
use Rattle.vol_mover.specs.Resuming.{CanResume}
use Rattle.vol_mover.specs.Steps.{advanced}
use Rattle.vol_mover.proofs.NextWrites.{first_fits}

-- a move lowers the deficit by one
pub shortest_next : (at : List ℕ) (places : ℕ) (move : Move) (rest : List Move) → IsShortest at places (move ∷ rest) → IsShortest (moved at move) places rest
shortest_next at places move rest plan = record {
  layout = IsLayout-moved at places move plan.layout plan.legal.0;
  legal = plan.legal.1;
  target = plan.target;
  deficit = rest_is_shortest at places (move ∷ []) rest plan.layout plan.legal plan.target plan.deficit;
}

-- a session on a device with the same store
pub resumed_session : (format : Meaning) (old : Present) (course : Course) → IsSession format old course → (device : DeviceState) (unit : List ℕ) → length unit ≡ length old.unit
    → CanResume old.device device → IsSession format (record old { device = device; unit = unit }) course
resumed_session format old course session device unit size can = record {
  takes = session.takes;
  places = can.places ∙ session.places;
  unit_size = can.unit_size ∙ session.unit_size;
  unit = size ∙ session.unit;
  files = session.files;
  numbers = session.numbers;
  available = session.available;
  layout = session.layout;
  moves = session.moves;
  writes = session.writes;
  counted = session.counted;
  agenda = session.agenda;
  plan = session.plan;
  is_open = λ honest opened.
      subst (λ s. IsOpen format old.opening s old.parts course) (sym (can.store honest)) (session.is_open (can.honest honest) opened);
}

module _ (format : Meaning) (old : Present) (course : Course) (session : IsSession format old course) (device : DeviceState) (unit : List ℕ)
    (same : IsSameDevice old.device device) (size : length unit ≡ length old.unit) where
  pub read_session : (IsTrue old.device.honest → device.store ≡ old.device.store) → IsSession format (record old { device = device; unit = unit }) course
  read_session store = resumed_session format old course session device unit size (record {
    places = same.places;
    unit_size = same.unit_size;
    honest = λ honest. subst IsTrue same.honest honest;
    store = λ honest. store (subst IsTrue same.honest honest);
  })

  pub closed_session : IsSession format (record old { device = device; unit = unit; closed = true }) course
  closed_session = record {
    takes = session.takes;
    places = same.places ∙ session.places;
    unit_size = same.unit_size ∙ session.unit_size;
    unit = size ∙ session.unit;
    files = session.files;
    numbers = session.numbers;
    available = session.available;
    layout = session.layout;
    moves = session.moves;
    writes = session.writes;
    counted = session.counted;
    agenda = session.agenda;
    plan = session.plan;
    is_open = λ honest opened. absurd (cc (opened));
  }

  module _ (rest : List Task) where
    fewer : (task : Task) → old.tasks ≡ task ∷ rest → old.map_writes + old.moves + length rest + 1 < 4294967296
    fewer task next = let count : length old.tasks ≡ length (task ∷ rest) = ap length next in omega (arith, session.counted, count)

    pub advanced_session : (task : Task) → old.tasks ≡ task ∷ rest
        → (IsTrue old.device.honest → old.closed ≡ false → IsOpen format old.opening device.store old.parts (course_after old.opening course task))
        → IsSession format (record (advanced old task rest) { device = device; unit = unit }) (course_after old.opening course task)
    advanced_session (Map at marks) next opens = record {
      takes = session.takes;
      places = same.places ∙ session.places;
      unit_size = same.unit_size ∙ session.unit_size;
      unit = size ∙ session.unit;
      files = session.files;
      numbers = session.numbers;
      available = session.available;
      layout = session.layout;
      moves = session.moves;
      writes = omega (arith, session.writes);
      counted = omega (arith, fewer (Map at marks) next);
      agenda = (first_fits format old course session (Map at marks) rest next).2;
      plan = subst (λ tasks. IsShortest old.at old.places (moves_of tasks)) next session.plan;
      is_open = λ honest opened. opens (subst IsTrue same.honest honest) opened;
    }
    advanced_session (Copy move) next opens =
        let fits = first_fits format old course session (Copy move) rest next in
        let none : copies course.copied ≡ 0 = ap copies fits.0.0 in
        record {
          takes = session.takes;
          places = same.places ∙ session.places;
          unit_size = same.unit_size ∙ session.unit_size;
          unit = size ∙ session.unit;
          files = session.files;
          numbers = session.numbers;
          available = session.available;
          layout = session.layout;
          moves = session.moves;
          writes = omega (arith, session.writes, none);
          counted = omega (arith, fewer (Copy move) next);
          agenda = fits.2;
          plan = subst (λ tasks. IsShortest old.at old.places (moves_of tasks)) next session.plan;
          is_open = λ honest opened. opens (subst IsTrue same.honest honest) opened;
        }
    advanced_session (Pointer move) next opens =
        let fits = first_fits format old course session (Pointer move) rest next in
        let one : copies course.copied ≡ 1 = ap copies fits.0.0 in
        record {
          takes = session.takes;
          places = same.places ∙ session.places;
          unit_size = same.unit_size ∙ session.unit_size;
          unit = size ∙ session.unit;
          files = session.files;
          numbers = length-set old.at move.part move.to ∙ session.numbers;
          available = session.available;
          layout = ap (λ at. moved at move) session.layout;
          moves = ap (λ n. n + 1) session.moves;
          writes = omega (arith, session.writes, one);
          counted = omega (arith, fewer (Pointer move) next);
          agenda = fits.2;
          plan = shortest_next old.at old.places move (moves_of rest) (subst (λ tasks. IsShortest old.at old.places (moves_of tasks)) next session.plan);
          is_open = λ honest opened. opens (subst IsTrue same.honest honest) opened;
        }
