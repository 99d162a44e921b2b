use Rattle.std.proofs.Common.{◌≡◌, ◌<◌, ℕ, refl, sym, ◌∙◌, ap, subst, arith, false, true}
use Rattle.std.specs.Prelude.{IsTrue}
use Rattle.std.specs.Option.{option_or}
use Rattle.std.proofs.lemmas.Result.{err_from_is_err_and}
use Rattle.a2_device.specs.Device.{DeviceState, unit_at}
use Rattle.a2_device.specs.Reading.{then_reads, unread}
use Rattle.a2_device.specs.declared.fault.Fault.TheVariants.{DirLink}
use Rattle.pro_dir.specs.Tree.{HasBadLink}
use Rattle.pro_dir.specs.Walk.{first_free_of}
use Rattle.pro_dir.specs.Within.{IsReadWithin}
use Rattle.pro_dir.proofs.Table.{and_more, none_more, one_more, tabled_on}
use Rattle.pro_dir.proofs.Following.{followed_on, bad_link, read_out}
use Rattle.pro_dir.proofs.tree.Tree.follow.Goals as goal

pub returns-then-not-is_new-clause-refused : goal.returns-then-not-is_new-clause-refused
returns-then-not-is_new-clause-refused g c = λ honest before following fault same.
    let start = g.D.Device.state c.args.device.now in
    let now = c.loop-next in
    let whole = g.met.D.Device.whole c.args.device.now honest in
    let key = c.args.reading.now.key in
    let bad : HasBadLink start.store before key now.holder =
    bad_link start.store start.places now.self.met.items key before now.self.blocks.items now.reading.free now.holder now.unit now.next
    whole.all now.invariant.table (now.invariant.following honest before following) now.invariant.next
    (λ none. absurd (omega (arith, c.loop-next-test.true, none)))
    (λ new. let no_way : false ≡ true = c.if-not-is_new.ensures.1 (new.0, omega (arith, new.1, c.places.ensures, now.invariant.device.same.places), new.2) in cc) in
    let is : DirLink now.holder ≡ fault = cc in
    (now.holder, sym is, bad)

pub loop-next-preserved : goal.loop-next-preserved
loop-next-preserved g c =
    let start = g.D.Device.state c.args.device.now in
    let now = c.loop-next in
    let read = c.in_ok-read.ensures in
    let new = c.if-not-is_new.ensures.0 refl in
    let below : now.next < start.places = omega (arith, new.1, c.places.ensures, now.invariant.device.same.places) in
    let named = now.invariant.key in
    let first = read.first ∙ ap (λ (key : ℕ). option_or now.reading.free (first_free_of key now.next c.read.new.unit)) named in
    record {
      device = then_reads false start (g.D.Device.state now.device) (g.D.Device.state c.read.new.device) now.invariant.device read.device;
      next = c.next_block-next-in-loop-next.ensures;
      table = tabled_on start.places now.self.met.items c.read.new.self.met.items now.self.blocks.items c.read.new.self.blocks.items now.next new.0 below new.2 now.invariant.table read.met read.blocks;
      more = and_more c.args.self.now.met.items now.self.met.items c.read.new.self.met.items c.args.self.now.blocks.items now.self.blocks.items c.read.new.self.blocks.items now.invariant.more
          (one_more start.places now.self.met.items c.read.new.self.met.items now.self.blocks.items c.read.new.self.blocks.items now.next now.invariant.table.size below new.2 read.met read.blocks);
      within = λ first.
          let before = subst (λ key. IsReadWithin start.places key now.reading.free) (sym named) (now.invariant.within first) in
          subst (λ key. IsReadWithin start.places key c.read.new.reading.free) named (read.within start.places below before);
      key = read.key ∙ named;
      following = λ honest before following.
          let still = subst IsTrue (sym now.invariant.device.same.honest) honest in
          let whole = g.met.D.Device.whole c.args.device.now honest in
          let unit : c.read.new.unit ≡ unit_at start.store now.next =
          subst (λ (d : DeviceState). c.read.new.unit ≡ unit_at d.store now.next) (now.invariant.device.kept honest refl) (read.unit still) in
          followed_on start.store c.args.reading.now.key before now.self.blocks.items c.read.new.self.blocks.items now.reading.free c.read.new.reading.free now.holder now.unit c.read.new.unit now.next
          (now.invariant.following honest before following) (new.0, omega (arith, below, whole.all)) now.invariant.next read.blocks first unit;
      entries = read.same.0 ∙ now.invariant.entries;
      pending = read.same.1 ∙ now.invariant.pending;
      free = read.same.2 ∙ now.invariant.free;
    }

pub returns-clause-found : goal.returns-clause-found
returns-clause-found g c = λ honest before following.
    let start = g.D.Device.state c.args.device.now in
    let now = c.loop-next in
    read_out start.store c.args.reading.now.key before now.self.blocks.items now.reading.free now.holder now.unit
    (now.invariant.following honest before following) (sym now.invariant.next ∙ omega (arith, c.loop-next-test.false))

pub returns-in_err-read-clause-device : goal.returns-in_err-read-clause-device
returns-in_err-read-clause-device g c =
    let given = err_from_is_err_and c.from_residual.result c.from_residual.ensures.1 in
    rw (given.1, given.2) (then_reads _ (g.D.Device.state c.args.device.now) (g.D.Device.state c.loop-next.device) (g.D.Device.state c.read.new.device) c.loop-next.invariant.device c.in_err-read.ensures.device)

pub loop-next-init : goal.loop-next-init
loop-next-init g c =
    let self = c.args.self.now in
    record {
      device = unread (g.D.Device.state c.args.device.now);
      next = c.next_block-next.ensures;
      table = c.requires.table;
      more = none_more self.met.items self.blocks.items;
      within = λ first. first;
      key = refl;
      following = λ _ _ following. following;
      entries = refl;
      pending = refl;
      free = refl;
    }

pub is_new-requires : goal.is_new-requires
is_new-requires g c =
    let now = c.loop-next.invariant in
    now.table.size ∙ sym (c.places.ensures ∙ now.device.same.places)

pub read-requires-clause-size : goal.read-requires-clause-size
read-requires-clause-size g c = c.loop-next.invariant.device.same.unit_size ∙ c.requires.size

pub read-requires-clause-met : goal.read-requires-clause-met
read-requires-clause-met g c = c.loop-next.invariant.table.size ∙ sym c.loop-next.invariant.device.same.places

pub read-requires-clause-block : goal.read-requires-clause-block
read-requires-clause-block g c = subst (λ n. c.loop-next.next < n) c.places.ensures (c.if-not-is_new.ensures.0 refl).1

pub returns-clause-device : goal.returns-clause-device
returns-clause-device g c = c.loop-next.invariant.device

pub returns-clause-table : goal.returns-clause-table
returns-clause-table g c = c.loop-next.invariant.table

pub returns-clause-more : goal.returns-clause-more
returns-clause-more g c = c.loop-next.invariant.more

pub returns-clause-same : goal.returns-clause-same
returns-clause-same g c = (c.loop-next.invariant.entries, c.loop-next.invariant.pending, c.loop-next.invariant.free)
