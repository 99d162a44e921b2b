use Rattle.std.proofs.Common.{◌≡◌, ◌∙◌, true, Some, None, refl, subst, sym, ap}
use Rattle.std.specs.Prelude.{ℕ, List, Err}
use Rattle.std.proofs.lemmas.Result.{err_from_is_err_and}
use Rattle.a2_device.specs.declared.device.DeviceError.TheVariants.{Fault}
use Rattle.a2_device.specs.declared.failing.FaultDevice.{FaultDevice}
use Rattle.a2_device.specs.Device.{DeviceState}
use Rattle.a2_device.specs.Met.{WritesToOrder, at_last_count, passed_on, old_unit_stands, new_unit_stands, refused_within}
use Rattle.a2_device.specs.Orders.{with_orders}
use Rattle.a2_device.specs.Writes.{Writes}
use Rattle.a2_device.proofs.Ordered.{passed, used}
use Rattle.a2_device.proofs.failing.FaultDevice.write_as_ordered.Goals as goal
use Rattle.a2_device.proofs.failing.FaultDevice.write_as_ordered.Goals.{then-took+in_ok-write-in-Some, else-took}

pub returns-in_err-write-in-Some-clause-writes : goal.returns-in_err-write-in-Some-clause-writes
returns-in_err-write-in-Some-clause-writes g c =
    let d = c.args.self.now in
    let old = g.D.Device.state d.device in
    let new = g.D.Device.state c.write-then-took.new.self in
    let order : Some true ≡ d.write_order = sym (c.in-Some.is ∙ ap Some c.if-took.true) in
    let given = err_from_is_err_and c.from_residual.result c.from_residual.ensures.1 in
    let same : c.write-then-took.result ≡ c.from_residual.result = cc (given.1, given.2) in
    let asked = c.write-then-took.ensures in
    subst (λ r. Writes c.args.place c.args.unit.now r (with_orders d.read_order d.write_order d.writes d.faults old) (with_orders d.read_order d.write_order d.writes d.faults new)) same
    (subst (λ o. Writes c.args.place c.args.unit.now c.write-then-took.result (with_orders d.read_order o d.writes d.faults old) (with_orders d.read_order o d.writes d.faults new)) order
    (passed d.read_order (Some true) d.writes d.faults c.args.place c.args.unit.now old new
    (λ last. c.if-writes-eq18446744073709551615.false (c.writes.ensures ∙ last))
    (λ took uses. used took old.write_failures new.write_failures uses)
    c.write-then-took.result
    (record {
      same = asked.same;
      faults = asked.faults;
      writes = asked.writes;
      spent = asked.spent;
      spent_keeps = asked.spent_keeps;
      written = asked.written;
      closed = asked.closed;
      closed_keeps = asked.closed_keeps;
      failed = asked.failed;
    })))

pub returns-then-writes-eq18446744073709551615-clause-to_order : goal.returns-then-writes-eq18446744073709551615-clause-to_order
returns-then-writes-eq18446744073709551615-clause-to_order g c = at_last_count (sym c.writes.ensures ∙ c.if-writes-eq18446744073709551615.true) refl

pub returns-in-None-clause-to_order : goal.returns-in-None-clause-to_order
returns-in-None-clause-to_order g c = let asked = c.write.ensures in passed_on c.write.result c.in-None.is (record {
  same = asked.same;
  faults = asked.faults;
  writes = asked.writes;
  spent = asked.spent;
  spent_keeps = asked.spent_keeps;
  written = asked.written;
  closed = asked.closed;
  closed_keeps = asked.closed_keeps;
  failed = asked.failed;
}) refl

pub returns-in_err-write-in-Some-clause-to_order : goal.returns-in_err-write-in-Some-clause-to_order
returns-in_err-write-in-Some-clause-to_order g c =
    let old = c.args.self.now in
    let given = err_from_is_err_and c.from_residual.result c.from_residual.ensures.1 in
    let told : c.write-then-took.result ≡ Err given.0 = cc (given.2) in
    let asked = c.write-then-took.ensures in
    subst (λ r. WritesToOrder g.D.Device.state old (record old { device = c.write-then-took.new.self }) c.args.place c.args.unit.now r) (sym given.1)
    (refused_within given.0 (c.in-Some.is ∙ ap Some c.if-took.true)
    (subst (λ r. Writes c.args.place c.args.unit.now r (g.D.Device.state old.device) (g.D.Device.state c.write-then-took.new.self)) told (record {
      same = asked.same;
      faults = asked.faults;
      writes = asked.writes;
      spent = asked.spent;
      spent_keeps = asked.spent_keeps;
      written = asked.written;
      closed = asked.closed;
      closed_keeps = asked.closed_keeps;
      failed = asked.failed;
    }))
    refl)

-- an order is met by a device that this one becomes
abbrev Met : {D : Type 0} → (D → DeviceState) → FaultDevice D → ℕ → List ℕ → ℕ → FaultDevice D → Type 0
Met state old place unit faults self = WritesToOrder {T = Unit {0}} state old (record self { write_order = None; faults = faults }) place unit (Err Fault)

pub returns-after-took-clause-to_order : goal.returns-after-took-clause-to_order
returns-after-took-clause-to_order g c = elim c.if-took.branch [
  | then-took+in_ok-write-in-Some w ↦
      (let asked = w.write-then-took.ensures in
      subst (Met g.D.Device.state c.args.self.now c.args.place c.args.unit.now c.with_refusal-self-in-Some.result) (sym w.self-is) (new_unit_stands w.in_ok-write-in-Some.field-0 (c.in-Some.is ∙ ap Some w.if-took.true)
      (subst (λ r. Writes c.args.place c.args.unit.now r (g.D.Device.state c.args.self.now.device) (g.D.Device.state w.write-then-took.new.self)) w.in_ok-write-in-Some.was (record {
        same = asked.same;
        faults = asked.faults;
        writes = asked.writes;
        spent = asked.spent;
        spent_keeps = asked.spent_keeps;
        written = asked.written;
        closed = asked.closed;
        closed_keeps = asked.closed_keeps;
        failed = asked.failed;
      }))
      refl))
  | else-took w ↦ subst (Met g.D.Device.state c.args.self.now c.args.place c.args.unit.now c.with_refusal-self-in-Some.result) (sym w.self-is) (old_unit_stands (c.in-Some.is ∙ ap Some w.if-took.false) refl)
]
