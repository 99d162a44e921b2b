use Rattle.std.proofs.Common.{rules, refl, ◌≡◌, ◌<◌, ◌∙◌, sym, ap, subst, length, slice_index}
use Rattle.std.proofs.lemmas.List.{with_items_is}
use Rattle.std.specs.Vec.{with_items}
use Rattle.vol_mover.specs.Tasks.{place_of}
use Rattle.vol_mover.specs.Shown.{present}
use Rattle.vol_mover.proofs.Agendas.{copy_first}
use Rattle.vol_mover.proofs.NextWrites.{copy_next}
use Rattle.vol_mover.proofs.Preparing.{prepared, read_failed, unprepared}
use Rattle.vol_mover.proofs.session.Session.prepare_copy.Goals as goal

pub returns-in_err-read_unit-clause-prepares : goal.returns-in_err-read_unit-clause-prepares
returns-in_err-read_unit-clause-prepares g c =
    let self = c.args.self.now in
    let unit = c.read_unit.new.unit in
    let size : length unit ≡ self.unit.len = search rules in
    let unit_is : (with_items self.unit unit).items ≡ unit = with_items_is self.unit unit size in
    unprepared (g.F.Format.meaning self.format.now) (present g.D.Device.state g.F.Format.directory self) (g.D.Device.state c.read_unit.new.device)
    (with_items self.unit unit).items (ap length unit_is ∙ size ∙ self.unit.ok.0) c.from_residual.result
    (read_failed c.read_unit.result c.from_residual.result c.in_err-read_unit.field-0.0 c.from_residual.ensures.1 c.in_err-read_unit.was
    (c.in_err-read_unit.was ∙ c.in_err-read_unit.ensures.error refl))
    c.in_err-read_unit.ensures.device

pub returns-clause-prepares : goal.returns-clause-prepares
returns-clause-prepares g c =
    let self = c.args.self.now in
    let format = self.format.now in
    let old = present g.D.Device.state g.F.Format.directory self in
    let session = c.requires.session.1 in
    let unit = c.read_unit.new.unit in
    let size : length unit ≡ self.unit.len = search rules in
    let unit_is : (with_items self.unit unit).items ≡ unit = with_items_is self.unit unit size in
    let same : length (with_items self.unit unit).items ≡ length self.unit.items = ap length unit_is ∙ size ∙ self.unit.ok.0 in
    let first = copy_first self.agenda c.args.step c.requires.next in
    prepared (g.F.Format.meaning format) old (g.D.Device.state c.read_unit.new.device) (with_items self.unit unit).items same c.place-to.result c.in_ok-read_unit.ensures.device
    (subst (λ n. c.place-to.result < n) (sym session.places) c.place-to.ensures.inside)
    (λ honest opened course is.
    copy_next (g.F.Format.meaning format) (g.met.F.Format.readable format) (g.met.F.WritableFormat.movable format) (g.met.F.WritableFormat.writable format) old course is
    (g.met.D.Device.whole self.device honest) (is.is_open honest opened) first.0 c.args.step c.place-from.result c.place-to.result (with_items self.unit unit).items first.1
    (c.place-from.ensures.is ∙ ap (λ at. place_of old.opening (slice_index at c.args.step.part)) c.at.ensures.value) c.place-to.ensures.is
    (unit_is ∙ c.in_ok-read_unit.ensures.read honest))
