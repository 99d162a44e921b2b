use Rattle.std.proofs.Common.{◌≡◌, ◌∙◌, ◌+◌, sym, subst, IfErr, IsTrue, false, refl}
use Rattle.std.proofs.lemmas.Result.{err_from_is_err_and}
use Rattle.a2_device.specs.Device.{DeviceState}
use Rattle.a2_device.specs.Reading.{then_reads}
use Rattle.a2_device.specs.declared.fault.Fault.{Fault}
use Rattle.a2_device.specs.declared.fault.WalkError.TheVariants.{Fault as AFault}
use Rattle.pro_tree.specs.Parts.{rank, FileFaultAt}
use Rattle.pro_tree.specs.Walk.{IsRefusedAt, IsReached, IsTaking}
use Rattle.pro_tree.proofs.Steps.{named_is}
use Rattle.pro_tree.proofs.Ends.{null_followed, index_followed, index_reached, index_refused}
use Rattle.pro_tree.proofs.file_walk.FileWalk.take_tree.Goals as goal
use Rattle.pro_tree.proofs.file_walk.FileWalk.take_tree.Goals.{in-Some+in_ok-take_index, in_default}

pub returns-in_err-index-clause-refused : goal.returns-in_err-index-clause-refused
returns-in_err-index-clause-refused g c = λ file storage key entry honest reached.
    let start = g.D.Device.state c.args.device.now in
    let whole = g.met.D.Device.whole c.args.device.now honest in
    let old = c.args.self.now in
    let master = c.args.master.now in
    let now = c.loop-number in
    let size = whole.all ∙ c.requires.places ∙ sym now.invariant.places in
    let link = c.child-link.ensures ∙ sym (named_is start.store master now.self.places c.read_index.new.unit now.number size (now.invariant.read honest)) in
    let given = err_from_is_err_and c.from_residual-in_err-index.result c.from_residual-in_err-index.ensures.1 in
    subst (λ r. IfErr r (λ e. (fault : Fault) → e ≡ AFault fault → FileFaultAt start.store file storage key entry fault)) (sym given.1)
    (λ fault same.
    let gives = given.2 in
    let mine : c.in_err-index.field-0.0 ≡ AFault fault = cc in
    index_refused start.store file storage key entry master old.met.items now.self.met.items old.parts.items now.self.parts.items now.number
    c.requires.kind c.requires.number (now.invariant.taking honest) now.invariant.table reached fault
    (subst (λ l. IsRefusedAt now.self.met.items master.place l fault) link (c.in_err-index.ensures.refused fault mine)))

pub returns-in_err-take_index-clause-device : goal.returns-in_err-take_index-clause-device
returns-in_err-take_index-clause-device g c =
    let start = g.D.Device.state c.args.device.now in
    let mid = g.D.Device.state c.loop-number.device in
    let new = g.D.Device.state c.take_index.new.device in
    let given = err_from_is_err_and c.from_residual-in_err-take_index.result c.from_residual-in_err-take_index.ensures.1 in
    rw (given.1, given.2) (then_reads _ start mid new c.loop-number.invariant.device c.in_err-take_index.ensures.device)

pub returns-in_err-take_index-clause-refused : goal.returns-in_err-take_index-clause-refused
returns-in_err-take_index-clause-refused g c = λ file storage key entry honest reached.
    let start = g.D.Device.state c.args.device.now in
    let whole = g.met.D.Device.whole c.args.device.now honest in
    let old = c.args.self.now in
    let master = c.args.master.now in
    let now = c.loop-number in
    let index = c.in-Some.index in
    let size = whole.all ∙ c.requires.places ∙ sym now.invariant.places in
    let link = c.child-link.ensures ∙ sym (named_is start.store master now.self.places c.read_index.new.unit now.number size (now.invariant.read honest)) in
    let same_device = now.invariant.device.kept honest refl in
    let still = subst IsTrue (sym now.invariant.device.same.honest) honest in
    let some = sym c.in_ok-index.ensures.named ∙ c.in-Some.is in
    let table = c.in_ok-index.ensures.table (now.invariant.table reached.table) in
    let here = index_reached start.store file storage key master old.met.items c.follow.new.self.met.items old.parts.items now.self.parts.items c.follow.new.self.parts.items
    now.number c.child-link.result index c.requires.kind c.requires.number (now.invariant.taking honest) (sym link) some c.in_ok-index.ensures.parts table reached in
    let given = err_from_is_err_and c.from_residual-in_err-take_index.result c.from_residual-in_err-take_index.ensures.1 in
    subst (λ r. IfErr r (λ e. (fault : Fault) → e ≡ AFault fault → FileFaultAt start.store file storage key entry fault)) (sym given.1)
    (λ fault same.
    let gives = given.2 in
    let mine : c.in_err-take_index.field-0.0 ≡ AFault fault = cc in
    subst (λ (d : DeviceState). FileFaultAt d.store file storage key entry fault) same_device
    (c.in_err-take_index.ensures.refused file storage key entry still
    (subst (λ (d : DeviceState). IsReached d.store file storage key index c.follow.new.self.met.items c.follow.new.self.parts.items) (sym same_device) here) fault mine))

pub loop-number-preserved : goal.loop-number-preserved
loop-number-preserved g c =
    let start = g.D.Device.state c.args.device.now in
    let old = c.args.self.now in
    let master = c.args.master.now in
    let now = c.loop-number in
    let followed = c.follow.new.self in
    let ok = c.in_ok-index.ensures in
    elim c.match-branch-3.branch [
      | in-Some+in_ok-take_index w ↦
          rw w.self-is
          (rw w.device-is
          (record {
            device = then_reads false start (g.D.Device.state now.device) (g.D.Device.state w.take_index.new.device) now.invariant.device w.in_ok-take_index.ensures.device;
            places = w.take_index.ensures.places ∙ c.follow.ensures.places ∙ now.invariant.places;
            size = w.take_index.ensures.size ∙ c.follow.ensures.size ∙ now.invariant.size;
            table = λ met. w.in_ok-take_index.ensures.table (ok.table (now.invariant.table met));
            read = now.invariant.read;
            taking = λ honest.
                let whole = g.met.D.Device.whole c.args.device.now honest in
                let size = whole.all ∙ c.requires.places ∙ sym now.invariant.places in
                let link = c.child-link.ensures ∙ sym (named_is start.store master now.self.places c.read_index.new.unit now.number size (now.invariant.read honest)) in
                let same_device = now.invariant.device.kept honest refl in
                let still = subst IsTrue (sym now.invariant.device.same.honest) honest in
                let index = w.in-Some.index in
                index_followed start.store master old.parts.items now.self.parts.items followed.parts.items w.take_index.new.self.parts.items now.number c.child-link.result index
                c.requires.kind c.requires.number (now.invariant.taking honest) (sym link) (sym ok.named ∙ w.in-Some.is) ok.parts
                (subst (λ (d : DeviceState). IsTaking d.store index followed.parts.items w.take_index.new.self.parts.items 256 (rank index + 1 + 256)) same_device
                (w.in_ok-take_index.ensures.taken still));
          }))
      | in_default w ↦
          rw w.self-is
          (rw w.device-is
          (record {
            device = now.invariant.device;
            places = c.follow.ensures.places ∙ now.invariant.places;
            size = c.follow.ensures.size ∙ now.invariant.size;
            table = λ met. ok.table (now.invariant.table met);
            read = now.invariant.read;
            taking = λ honest.
                let whole = g.met.D.Device.whole c.args.device.now honest in
                let size = whole.all ∙ c.requires.places ∙ sym now.invariant.places in
                let link = c.child-link.ensures ∙ sym (named_is start.store master now.self.places c.read_index.new.unit now.number size (now.invariant.read honest)) in
                null_followed start.store master old.parts.items now.self.parts.items followed.parts.items now.number c.child-link.result
                (now.invariant.taking honest) (sym link) ok.tame (sym ok.named ∙ w.in_default.is) ok.parts;
          }))
    ]
