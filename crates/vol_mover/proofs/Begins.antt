-- A session at the start of its work.
use Rattle.std.specs.Prelude.{◌≡◌, ◌⊎◌, ◌↔◌, ◌<◌, ◌≤◌, ℕ, true, false, List, [], length, Contains, IsTrue, slice_index_or}
use Rattle.std.proofs.Common.{refl, sym, ◌∙◌, ap, subst, arith}
use Rattle.std.proofs.lemmas.List.{get_or_default}
use Rattle.a2_device.specs.Device.{DeviceState, OnlyReads}
use Rattle.vol_layout.specs.Layouts.{Placement, IsLayout, IsTarget}
use Rattle.vol_layout.specs.Plans.{IsPlan, after}
use Rattle.vol_layout.specs.Rings.{IsDeficit}
use Rattle.move_plan.specs.declared.answer.Plan.{Plan}
use Rattle.vol_format.specs.Accepted.{IsAccepted}
use Rattle.vol_format.specs.Directory.{Directory}
use Rattle.vol_format.specs.Laws.{IsDirectory}
use Rattle.vol_format.specs.Meaning.{Meaning}
use Rattle.vol_format.specs.Reach.{IsPartsOf}
use Rattle.vol_format.specs.Standing.{IsLost, lost_places}
use Rattle.vol_check.specs.Told.{Told, IsToldOf}
use Rattle.vol_mover.specs.Opening.{IsPlanOf, IsAllowed}
use Rattle.vol_mover.specs.declared.opening.Options.{Options}
use Rattle.vol_mover.specs.Tasks.{Task, IsAgenda, at_first, moves_of}
use Rattle.vol_mover.specs.Work.{IsWork}
use Rattle.vol_mover.specs.Writes.{writes_of}
use Rattle.vol_mover.specs.Begun.{IsBegun, TakesWrites}
use Rattle.vol_mover.specs.Open.{IsOpen}
use Rattle.vol_mover.specs.Present.{Present, IsSession}
use Rattle.vol_mover.proofs.Beginning.{counted, size, opens}
use Rattle.vol_mover.proofs.Deficits.{few_moves, takes_writes}

-- the moves of a plan of a told layout are few
pub few_planned : {A : Type 0} (format : Meaning) (directory : Directory) → IsDirectory format directory → (told : Told) → IsToldOf directory told → (plan : Plan A)
    → IsPlanOf told.layout plan → length told.layout.at ≤ told.layout.places → length plan.moves.items ≤ 131072
few_planned format directory of told is plan planned enough =
    let count : told.layout.places ≡ length directory.available = ap (λ (l : Placement). l.places) is.layout in
    omega (arith, few_moves told.layout.at (length plan.moves.items) planned.deficit, enough, count, of.few_available)

module _ {A : Type 0} (format : Meaning) (options : Options) (device now : DeviceState) (directory : Directory) (of : IsDirectory format directory) (told : Told)
    (is : IsToldOf directory told) (layout : IsLayout told.layout.at told.layout.places) (plan : Plan A) (planned : IsPlanOf told.layout plan) (tasks : List Task) (unit : List ℕ)
    (takes : format.Takes device.places) (unit_size : device.unit_size ≡ format.unit_size) (reads : OnlyReads false device now)
    (places : directory.places ≡ device.places) (unit_is : length unit ≡ now.unit_size)
    (agenda : IsAgenda directory (length told.lost) (at_first told.layout.at told.lost) tasks) (moves : moves_of tasks ≡ plan.moves.items) (order : tasks ≡ writes_of directory told.layout.at told.lost plan.moves.items) (few : length tasks < 4294967296)
    (accepted : IsTrue device.honest → IsAccepted format directory device.store) (parts : IsTrue device.honest → IsPartsOf format directory device.store told.parts)
    (lost : IsTrue device.honest → (place : ℕ) → Contains told.lost place ↔ IsLost format directory device.store place) where
  abbrev present : Present
  present = record {
    device = now;
    opening = directory;
    parts = told.parts;
    at = told.layout.at;
    places = told.layout.places;
    tasks = tasks;
    map_writes = 0;
    moves = 0;
    lost_at_first = length told.lost;
    closed = false;
    unit = unit;
  }

  session : IsSession format present (at_first told.layout.at told.lost)
  session = record {
    takes = subst format.Takes (sym places) takes;
    places = reads.same.places ∙ sym places;
    unit_size = reads.same.unit_size ∙ unit_size;
    unit = unit_is ∙ reads.same.unit_size ∙ unit_size;
    files = λ i d within.
        is.in_files (slice_index_or told.parts i d) (i, within, sym (get_or_default told.parts i d (slice_index_or told.parts i d) within));
    numbers = size format directory of told is layout;
    available = counted format directory of told is layout;
    layout = refl;
    moves = refl;
    writes = refl;
    counted = omega (arith, few);
    agenda = agenda;
    plan = record {
      layout = layout;
      legal = subst (λ ms. IsPlan told.layout.at told.layout.places ms) (sym moves) planned.legal;
      target = subst (λ ms. IsTarget (after told.layout.at ms)) (sym moves) planned.target;
      deficit = subst (λ ms. IsDeficit told.layout.at (length ms)) (sym moves) planned.deficit;
    };
    is_open = λ honest opened.
        let was : IsTrue device.honest = subst IsTrue reads.same.honest honest in
        subst (λ (d : DeviceState). IsOpen format directory d.store told.parts (at_first told.layout.at told.lost)) (sym (reads.kept was refl))
        (opens format directory of told is layout device.store (parts was) (accepted was) (lost was));
  }

  pub begun : IsWork (length directory.map_units) told.layout.at told.lost plan.moves.items (length tasks) → IsAllowed options told
      → IsBegun format options device (record {
        device = now;
        opening = directory;
        parts = told.parts;
        at = told.layout.at;
        places = told.layout.places;
        tasks = tasks;
        map_writes = 0;
        moves = 0;
        lost_at_first = length told.lost;
        closed = false;
        unit = unit;
      })
  begun work allowed = record {
    reads = reads;
    session = subst (λ (places : List ℕ). IsSession format present (at_first told.layout.at places)) is.lost session;
    opened = refl;
    layout = ap (λ (l : Placement). l.at) is.layout;
    lost = ap (λ (places : List ℕ). length places) is.lost;
    tasks = subst (λ ms. tasks ≡ writes_of directory told.layout.at (lost_places directory told.parts) ms) (sym moves)
        (subst (λ (places : List ℕ). tasks ≡ writes_of directory told.layout.at places plan.moves.items) is.lost order);
    writes = subst (λ (places : List ℕ). TakesWrites (length directory.map_units) told.layout.at places (length tasks)) is.lost
        (takes_writes (length directory.map_units) told.layout.at told.lost plan.moves.items (length tasks) planned.deficit planned.starts work);
    allowed = subst (λ (places : List ℕ). (options.reclaim ≡ true) ⊎ (places ≡ [])) is.lost allowed.lost;
    free = allowed.free;
    accepted = accepted;
    parts = parts;
  }
