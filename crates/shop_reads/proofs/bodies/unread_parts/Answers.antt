use Rattle.std.proofs.Common.{Global, Vec, ◌≡◌, ◌∙◌, ◌++◌, ◌∷◌, [], ap, arith, get_or, subst, sym, take_all}
use Rattle.std.specs.Prelude.{Contains, IsTrue, not, if◌then◌else◌}
use Rattle.std.proofs.lemmas.List.{get_or_default}
use Rattle.std.proofs.lemmas.Grind.{common_steps}
use Rattle.a2_device.specs.Device.{FailsRead}
use Rattle.a2_device.specs.declared.part.Part.{Part}
use Rattle.file_cmds.specs.lemmas.Reading.{none_read, one_reading, read_twice}
use Rattle.vol_format.specs.Standing.{no_part}
use Rattle.shop_reads.specs.BodiesReply.{unread_parts}
use Rattle.shop_reads.proofs.Unread.{either_among, read_part}
use Rattle.shop_reads.proofs.bodies.unread_parts.Goals as goal
use Rattle.shop_reads.proofs.bodies.unread_parts.Goals.{then-not-is_readable+in_ok-push, else-not-is_readable}

pub loop-part-preserved : goal.loop-part-preserved
loop-part-preserved g c =
    let start = g.D.Device.state c.args.device.now in
    let now = g.D.Device.state c.loop-part.device in
    let after = g.D.Device.state c.is_readable.new.device in
    let so_far = c.loop-part.invariant in
    let new = c.if-not-is_readable.unread.items in
    let unread = c.loop-part.unread.items in
    let part = get_or c.args.parts.now c.loop-part.part-index no_part in
    let same_part = get_or_default c.args.parts.now c.loop-part.part-index _ no_part c.loop-part-test.true in
    let new_is : new ≡ (if c.is_readable.result then unread else (unread ++ part ∷ [])) = elim c.if-not-is_readable.branch [
      | then-not-is_readable+in_ok-push w ↦
          ap (λ (parts : Vec Part Global). parts.items) w.unread-is ∙ w.in_ok-push.ensures.items ∙ ap (λ (p : Part). unread ++ p ∷ []) same_part
          ∙ ap (λ b. if b then unread else (unread ++ part ∷ [])) (sym w.if-not-is_readable.true)
      | else-not-is_readable w ↦
          ap (λ (parts : Vec Part Global). parts.items) w.unread-is ∙ ap (λ b. if b then unread else (unread ++ part ∷ [])) (sym w.if-not-is_readable.false)
    ] in
    record {
      reads = read_twice start now after so_far.reads (one_reading now after (not c.is_readable.result) c.is_readable.ensures.device);
      unit = grind (arith, common_steps);
      among = either_among start c.args.parts.now c.loop-part.part-index no_part c.loop-part-test.true unread c.is_readable.result new so_far.among new_is;
      unread = λ honest.
          let still = subst IsTrue (sym so_far.reads.same.honest) honest in
          read_part start c.args.parts.now now after c.loop-part.part-index no_part unread c.loop-part-test.true so_far.reads
          c.is_readable.result c.is_readable.ensures.device
          (λ lacks. c.is_readable.ensures.unreadable still (subst (λ (p : Part). Contains now.unreadable p.place) (sym same_part) lacks))
          (λ unreadable. subst (λ (p : Part). FailsRead p.place now after) same_part (c.is_readable.ensures.failed still unreadable)) new (so_far.unread honest) new_is;
    }

pub is_readable-requires-clause-unit : goal.is_readable-requires-clause-unit
is_readable-requires-clause-unit g c = omega (arith, c.deref_mut.ensures.len, c.loop-part.invariant.unit, c.loop-part.invariant.reads.same.unit_size)

pub returns-clause-device : goal.returns-clause-device
returns-clause-device g c = c.loop-part.invariant.reads

pub returns-clause-among : goal.returns-clause-among
returns-clause-among g c = c.loop-part.invariant.among

pub returns-clause-unread : goal.returns-clause-unread
returns-clause-unread g c = λ honest lacking.
    c.loop-part.invariant.unread honest lacking
    ∙ ap (unread_parts (g.D.Device.state c.args.device.now).unreadable) (take_all c.loop-part.part-index c.args.parts.now (omega arith))

pub returns-in_err-push-clause-device : goal.returns-in_err-push-clause-device
returns-in_err-push-clause-device g c =
    let now = g.D.Device.state c.loop-part.device in
    let after = g.D.Device.state c.is_readable.new.device in
    read_twice (g.D.Device.state c.args.device.now) now after c.loop-part.invariant.reads (one_reading now after (not c.is_readable.result) c.is_readable.ensures.device)

pub returns-in_err-unit-clause-device : goal.returns-in_err-unit-clause-device
returns-in_err-unit-clause-device g c = none_read (g.D.Device.state c.args.device.now)
