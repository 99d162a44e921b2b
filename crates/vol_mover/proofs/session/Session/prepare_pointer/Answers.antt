use Rattle.std.proofs.Common.{rules, refl, ◌≡◌, ◌<◌, ◌∙◌, sym, ap, subst, length}
use Rattle.std.proofs.lemmas.List.{with_items_is}
use Rattle.std.specs.Vec.{with_items}
use Rattle.vol_format.specs.Holding.{with_slot}
use Rattle.vol_mover.specs.Shown.{present}
use Rattle.vol_mover.proofs.Agendas.{pointer_first}
use Rattle.vol_mover.proofs.NextWrites.{FindsHolder, pointer_next}
use Rattle.vol_mover.proofs.Numbers.{can_name}
use Rattle.vol_mover.proofs.Preparing.{prepared, read_failed, unprepared}
use Rattle.vol_mover.proofs.session.Session.prepare_pointer.Goals as goal

pub put_pointer-requires-clause-place : goal.put_pointer-requires-clause-place
put_pointer-requires-clause-place g c =
    let self = c.args.self.now in
    let format = self.format.now in
    let opening = g.F.Format.directory format self.volume in
    let inside : c.args.step.to < length opening.available = search rules in
    (opening.places, can_name (g.F.Format.meaning format) opening (g.met.F.Format.rooted format self.volume) c.args.step.to c.place-to.result inside c.place-to.ensures.is)

pub returns-in_err-read_unit-clause-prepares : goal.returns-in_err-read_unit-clause-prepares
returns-in_err-read_unit-clause-prepares g c =
    let self = c.args.self.now in
    let unit = c.read_unit.new.unit in
    let size : length unit ≡ self.unit.len = search rules in
    let unit_is : (with_items self.unit unit).items ≡ unit = with_items_is self.unit unit size in
    unprepared (g.F.Format.meaning self.format.now) (present g.D.Device.state g.F.Format.directory self) (g.D.Device.state c.read_unit.new.device)
    (with_items self.unit unit).items (ap length unit_is ∙ size ∙ self.unit.ok.0) c.from_residual.result
    (read_failed c.read_unit.result c.from_residual.result c.in_err-read_unit.field-0.0 c.from_residual.ensures.1 c.in_err-read_unit.was
    (c.in_err-read_unit.was ∙ c.in_err-read_unit.ensures.error refl))
    c.in_err-read_unit.ensures.device

pub returns-clause-prepares : goal.returns-clause-prepares
returns-clause-prepares g c =
    let self = c.args.self.now in
    let format = self.format.now in
    let old = present g.D.Device.state g.F.Format.directory self in
    let session = c.requires.session.1 in
    let holder = c.holder-holder.result in
    let read = with_items self.unit c.read_unit.new.unit in
    let unit = c.put_pointer.new.unit in
    let read_size : length c.read_unit.new.unit ≡ self.unit.len = search rules in
    let read_is : read.items ≡ c.read_unit.new.unit = with_items_is self.unit c.read_unit.new.unit read_size in
    let size : length unit ≡ read.len = search rules in
    let unit_is : (with_items read unit).items ≡ unit = with_items_is read unit size in
    let same : length (with_items read unit).items ≡ length self.unit.items = ap length unit_is ∙ size ∙ self.unit.ok.0 in
    let first = pointer_first self.agenda c.args.step c.requires.next in
    prepared (g.F.Format.meaning format) old (g.D.Device.state c.read_unit.new.device) (with_items read unit).items same holder.place c.in_ok-read_unit.ensures.device
    (subst (λ n. holder.place < n) (sym session.places) c.holder-holder.ensures.inside)
    (λ honest opened course is.
    pointer_next (g.F.Format.meaning format) (g.met.F.Format.readable format) (g.met.F.WritableFormat.movable format) (g.met.F.WritableFormat.writable format) old course is
    (g.met.D.Device.whole self.device honest) (is.is_open honest opened) first.0 c.args.step holder c.place-to.result (with_items read unit).items first.1
    (subst (λ parts. FindsHolder (g.F.Format.meaning format) old.opening parts self.layout.at holder c.args.step.part) c.deref.ensures.value c.holder-holder.ensures.holds)
    c.holder-holder.ensures.inside c.place-to.ensures.is
    (unit_is ∙ c.put_pointer.ensures
    ∙ ap (λ u. with_slot (g.F.Format.meaning format) u holder c.place-to.result) (c.deref_mut-2.ensures.value ∙ read_is ∙ c.in_ok-read_unit.ensures.read honest)))
