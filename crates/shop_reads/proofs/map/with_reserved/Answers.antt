use Rattle.std.proofs.Common.{◌≡◌, ◌∙◌, ℕ, IfSome, subst, sym}
use Rattle.a2_device.specs.Reading.{unread}
use Rattle.shop_reads.specs.MapSteps.{TellsReserved}
use Rattle.shop_reads.proofs.PlaceTables.{full, reserved_are}
use Rattle.shop_reads.proofs.Readings.{no_error}
use Rattle.shop_reads.proofs.map.with_reserved.Goals as goal

pub returns-clause-map : goal.returns-clause-map
returns-clause-map g c = λ honest bare.
    let format = g.F.Format.meaning c.args.format.now in
    let store = (g.D.Device.state c.args.device.now).store in
    let own = g.F.Format.directory c.in-Some.plain c.in_ok-volume.volume in
    let plain = subst (λ o. IfSome o (λ f. f ≡ g.F.ShownFormat.unreserved c.args.format.now)) c.in-Some.is c.in_ok-plain.ensures.some in
    let places = c.places.ensures ∙ c.in_ok-volume.ensures.device.same.places ∙ sym c.requires.size ∙ bare.are_states.all in
    record {
      volume = full format store bare.directory bare.parts own;
      accepted = bare.accepted;
      own = subst (λ f. (g.F.Format.meaning f).Describes store own) plain (c.in_ok-volume.ensures.described honest);
      are_parts = bare.are_parts;
      many = bare.are_many;
      are_states = reserved_are format store bare.directory bare.parts own c.args.map.places.items c.tell_reserved.result.items bare.are_states
          (subst (λ (n : ℕ). TellsReserved n own c.args.map.places.items c.tell_reserved.result.items) places c.tell_reserved.ensures);
    }

pub returns-in_default-clause-device : goal.returns-in_default-clause-device
returns-in_default-clause-device g c = unread (g.D.Device.state c.args.device.now)

pub returns-in_default-clause-found : goal.returns-in_default-clause-found
returns-in_default-clause-found g c = λ is. no_error _ _ is

pub returns-in_default-clause-check : goal.returns-in_default-clause-check
returns-in_default-clause-check g c = λ honest bare is. no_error _ _ is

pub returns-clause-device : goal.returns-clause-device
returns-clause-device g c = c.in_ok-volume.ensures.device

pub returns-clause-found : goal.returns-clause-found
returns-clause-found g c = λ is. no_error _ _ is

pub returns-clause-check : goal.returns-clause-check
returns-clause-check g c = λ honest bare is. no_error _ _ is

pub tell_reserved-requires-clause-places : goal.tell_reserved-requires-clause-places
tell_reserved-requires-clause-places g c = c.places.ensures ∙ c.in_ok-volume.ensures.device.same.places ∙ sym c.in_ok-volume.ensures.places

pub tell_reserved-requires-clause-size : goal.tell_reserved-requires-clause-size
tell_reserved-requires-clause-size g c = c.requires.size ∙ sym c.in_ok-volume.ensures.device.same.places ∙ sym c.places.ensures
