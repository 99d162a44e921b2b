use Rattle.std.proofs.Common.{rules, refl, ◌≡◌, ◌<◌, ◌∙◌, sym, ap, subst, length, All, ℕ}
use Rattle.std.proofs.lemmas.List.{with_items_is}
use Rattle.std.specs.Vec.{with_items}
use Rattle.vol_laws.specs.Marked.{with_marks}
use Rattle.vol_laws.specs.declared.mark.Mark.{Mark}
use Rattle.vol_mover.specs.Shown.{present}
use Rattle.vol_mover.specs.Agenda.{next_marks}
use Rattle.vol_mover.specs.Tasks.{Map}
use Rattle.vol_mover.proofs.Agendas.{map_first}
use Rattle.vol_mover.proofs.NextWrites.{first_fits, map_next}
use Rattle.vol_mover.proofs.Preparing.{prepared, marks_inside, read_failed, unprepared}
use Rattle.vol_mover.proofs.session.Session.prepare_map.Goals as goal

pub make_marks-requires-clause-places : goal.make_marks-requires-clause-places
make_marks-requires-clause-places g c =
    let self = c.args.self.now in
    let old = present g.D.Device.state g.F.Format.directory self in
    let first = map_first self.agenda c.args.at c.requires.next in
    subst (λ marks. (places : ℕ) × (g.F.Format.meaning self.format.now).Takes places × All (λ (mark : Mark). mark.place < places) marks) (sym c.marks.ensures)
    (marks_inside (g.F.Format.meaning self.format.now) old c.requires.session.0 (g.met.F.Format.rooted self.format.now self.volume) c.requires.session.1 c.args.at
    (next_marks self.agenda) first.0 first.1)

pub returns-in_err-read_unit-clause-prepares : goal.returns-in_err-read_unit-clause-prepares
returns-in_err-read_unit-clause-prepares g c =
    let self = c.args.self.now in
    let unit = c.read_unit.new.unit in
    let size : length unit ≡ self.unit.len = search rules in
    let unit_is : (with_items self.unit unit).items ≡ unit = with_items_is self.unit unit size in
    unprepared (g.F.Format.meaning self.format.now) (present g.D.Device.state g.F.Format.directory self) (g.D.Device.state c.read_unit.new.device)
    (with_items self.unit unit).items (ap length unit_is ∙ size ∙ self.unit.ok.0) c.from_residual.result
    (read_failed c.read_unit.result c.from_residual.result c.in_err-read_unit.field-0.0 c.from_residual.ensures.1 c.in_err-read_unit.was
    (c.in_err-read_unit.was ∙ c.in_err-read_unit.ensures.error refl))
    c.in_err-read_unit.ensures.device

pub returns-clause-prepares : goal.returns-clause-prepares
returns-clause-prepares g c =
    let self = c.args.self.now in
    let format = self.format.now in
    let old = present g.D.Device.state g.F.Format.directory self in
    let session = c.requires.session.1 in
    let read = with_items self.unit c.read_unit.new.unit in
    let unit = c.make_marks.new.unit in
    let read_size : length c.read_unit.new.unit ≡ self.unit.len = search rules in
    let read_is : read.items ≡ c.read_unit.new.unit = with_items_is self.unit c.read_unit.new.unit read_size in
    let size : length unit ≡ read.len = search rules in
    let unit_is : (with_items read unit).items ≡ unit = with_items_is read unit size in
    let same : length (with_items read unit).items ≡ length self.unit.items = ap length unit_is ∙ size ∙ self.unit.ok.0 in
    let first = map_first self.agenda c.args.at c.requires.next in
    let fits = (first_fits (g.F.Format.meaning format) old c.requires.session.0 session (Map c.args.at (next_marks self.agenda)) first.0 first.1).0 in
    prepared (g.F.Format.meaning format) old (g.D.Device.state c.read_unit.new.device) (with_items read unit).items same c.args.at c.in_ok-read_unit.ensures.device
    (subst (λ n. c.args.at < n) (sym session.places) fits.1)
    (λ honest opened course is.
    map_next (g.F.Format.meaning format) (g.met.F.Format.readable format) (g.met.F.WritableFormat.movable format) (g.met.F.WritableFormat.writable format) old course is
    (g.met.D.Device.whole self.device honest) (is.is_open honest opened) first.0 c.args.at (next_marks self.agenda) (with_items read unit).items first.1
    (unit_is ∙ c.make_marks.ensures ∙ ap (λ marks. with_marks (g.F.Format.meaning format) c.deref_mut-2.result.now marks) c.marks.ensures
    ∙ ap (λ u. with_marks (g.F.Format.meaning format) u (next_marks self.agenda)) (c.deref_mut-2.ensures.value ∙ read_is ∙ c.in_ok-read_unit.ensures.read honest)))
