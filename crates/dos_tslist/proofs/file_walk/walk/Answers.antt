use Rattle.std.proofs.Common.{◌≡◌, ◌∙◌, ◌+◌, ◌*◌, ◌≤◌, ℕ, List, Some, None, Option, sym, subst, refl, ap, arith, IfErr, IsTrue, false, replicate, length, option_to_list, ◌++◌}
use Rattle.std.specs.Prelude.{not, count_by}
use Rattle.std.proofs.lemmas.Result.{err_from_is_err_and}
use Rattle.std.proofs.lemmas.List.{length-replicate}
use Rattle.std.proofs.lemmas.List.Sums.{count_by-le-length}
use Rattle.a2_device.specs.Device.{DeviceState, unit_at}
use Rattle.a2_device.specs.Reading.{unread, then_reads}
use Rattle.a2_device.specs.declared.part.Part.{Part}
use Rattle.a2_device.specs.declared.part.PartKind.TheVariants.{List as AList}
use Rattle.a2_device.specs.declared.fault.Fault.{Fault}
use Rattle.a2_device.specs.declared.fault.WalkError.TheVariants.{Fault as AFault}
use Rattle.dos_tslist.specs.Reach.{FileFaultAt, ListAt, entry_pointer, place_named, is_wild}
use Rattle.dos_tslist.specs.Walk.{IsRefusedAt, IsWalked, IsAtList, IsPairing, pointed}
use Rattle.a2_device.specs.Table.{IsTable}
use Rattle.dos_tslist.proofs.Steps.{refused_entry, length-pointed, at_first, at_next, at_end, link_refused}
use Rattle.a2_device.proofs.Tables.{all_within, empty_table}
use Rattle.dos_tslist.proofs.file_walk.walk.Goals as goal

pub returns-in_err-list-clause-refused : goal.returns-in_err-list-clause-refused
returns-in_err-list-clause-refused g c = λ honest.
    let store = (g.D.Device.state c.args.device.now).store in
    let entry = c.args.entry.now in
    let given = err_from_is_err_and c.from_residual.result c.from_residual.ensures.1 in
    subst (λ r. IfErr r (λ e. (fault : Fault) → e ≡ AFault fault → FileFaultAt store c.args.file (entry_pointer entry) entry.place fault)) (sym given.1)
    (λ fault same.
    let gives = given.2 in
    let mine : c.in_err-list.field-0.0 ≡ AFault fault = cc in
    refused_entry store c.args.file (entry_pointer entry) entry.place (replicate 560 false) (empty_table 560) fault
    (subst (λ p. IsRefusedAt (replicate 560 false) entry.place p fault) c.pointer_at-first.ensures (c.in_err-list.ensures.refused fault mine)))

pub loop-list-init : goal.loop-list-init
loop-list-init g c =
    let start = g.D.Device.state c.args.device.now in
    let lengths = ap (λ o. length (option_to_list o)) c.in_ok-list.ensures.named in
    record {
      device = unread start;
      file = c.follow.ensures.file;
      size = c.follow.ensures.size;
      table = c.in_ok-list.ensures.table (subst (λ (ps : List Part). IsTable (replicate 560 false) ps) (sym c.new.ensures.items) (empty_table 560));
      room = omega (
        arith,
        c.in_ok-list.ensures.unmet,
        lengths,
        length-pointed c.args.file AList 0 (place_named c.pointer_at-first.result),
        count_by-le-length not (replicate 560 false),
        length-replicate 560 false,
      );
      within = c.in_ok-list.ensures.within;
      at = λ honest.
          at_first start.store c.args.file (entry_pointer c.args.entry.now) c.args.file c.in_ok-list.list c.follow.new.self.parts.items refl
          (ap is_wild (sym c.pointer_at-first.ensures) ∙ c.in_ok-list.ensures.tame)
          (c.in_ok-list.ensures.named ∙ ap place_named c.pointer_at-first.ensures)
          (c.in_ok-list.ensures.parts
          ∙ ap (λ (ps : List Part). ps ++ pointed c.args.file AList 0 (place_named c.pointer_at-first.result)) c.new.ensures.items
          ∙ ap (λ (p : Option (ℕ × ℕ)). pointed c.args.file AList 0 (place_named p)) c.pointer_at-first.ensures);
    }

pub returns-in_err-take_pairs-clause-refused : goal.returns-in_err-take_pairs-clause-refused
returns-in_err-take_pairs-clause-refused g c = λ honest.
    let start = g.D.Device.state c.args.device.now in
    let entry = c.args.entry.now in
    let now = c.loop-list in
    let at = now.invariant.at honest in
    let still = subst IsTrue (sym now.invariant.device.same.honest) honest in
    let same_device = now.invariant.device.kept honest refl in
    let unit : c.read_list.new.unit ≡ unit_at start.store c.in-Some.place =
    subst (λ (d : DeviceState). c.read_list.new.unit ≡ unit_at d.store c.in-Some.place) same_device (c.in_ok-read_list.ensures.unit still) in
    let given = err_from_is_err_and c.from_residual-in_err-take_pairs.result c.from_residual-in_err-take_pairs.ensures.1 in
    subst (λ r. IfErr r (λ e. (fault : Fault) → e ≡ AFault fault → FileFaultAt start.store c.args.file (entry_pointer entry) entry.place fault)) (sym given.1)
    (λ fault same.
    let gives = given.2 in
    let mine : c.in_err-take_pairs.field-0.0 ≡ AFault fault = cc in
    subst (λ f. FileFaultAt start.store f (entry_pointer entry) entry.place fault) now.invariant.file
    (c.in_err-take_pairs.ensures.refused start.store (entry_pointer entry) entry.place (sym unit) ((at.here c.in-Some.place).0 c.in-Some.is) now.invariant.table
    (subst (λ f. IsWalked start.store f (entry_pointer entry) (123 * now.number + 1) now.found.parts.items) (sym now.invariant.file) at.walked) fault mine))

pub returns-in_err-list-2-clause-refused : goal.returns-in_err-list-2-clause-refused
returns-in_err-list-2-clause-refused g c = λ honest.
    let start = g.D.Device.state c.args.device.now in
    let entry = c.args.entry.now in
    let now = c.loop-list in
    let first = entry_pointer entry in
    let at = subst (λ l. IsAtList start.store c.args.file first l now.number now.found.parts.items) c.in-Some.is (now.invariant.at honest) in
    let still = subst IsTrue (sym now.invariant.device.same.honest) honest in
    let same_device = now.invariant.device.kept honest refl in
    let unit : c.read_list.new.unit ≡ unit_at start.store c.in-Some.place =
    subst (λ (d : DeviceState). c.read_list.new.unit ≡ unit_at d.store c.in-Some.place) same_device (c.in_ok-read_list.ensures.unit still) in
    let paired = subst (λ f. IsPairing f now.number c.in-Some.place c.read_list.new.unit now.found.met c.take_pairs.new.self.met now.found.parts.items c.take_pairs.new.self.parts.items 122)
    now.invariant.file c.in_ok-take_pairs.ensures.pairing in
    let given = err_from_is_err_and c.from_residual-in_err-list-2.result c.from_residual-in_err-list-2.ensures.1 in
    subst (λ r. IfErr r (λ e. (fault : Fault) → e ≡ AFault fault → FileFaultAt start.store c.args.file first entry.place fault)) (sym given.1)
    (λ fault same.
    let gives = given.2 in
    let mine : c.in_err-list-2.field-0.0 ≡ AFault fault = cc in
    link_refused start.store c.args.file first now.number c.in-Some.place now.found.met c.take_pairs.new.self.met now.found.parts.items c.take_pairs.new.self.parts.items
    c.read_list.new.unit at unit paired entry.place now.invariant.table c.next.result c.next.ensures fault (c.in_err-list-2.ensures.refused fault mine))

pub loop-list-preserved : goal.loop-list-preserved
loop-list-preserved g c =
    let start = g.D.Device.state c.args.device.now in
    let now = c.loop-list in
    let first = entry_pointer c.args.entry.now in
    let file = c.take_pairs.ensures.file ∙ now.invariant.file in
    let paired = subst (λ f. IsPairing f now.number c.in-Some.place c.read_list.new.unit now.found.met c.take_pairs.new.self.met now.found.parts.items c.take_pairs.new.self.parts.items 122)
    now.invariant.file c.in_ok-take_pairs.ensures.pairing in
    let lengths = ap (λ o. length (option_to_list o)) c.in_ok-list-2.ensures.named in
    let one = ap (λ o. length (option_to_list o)) c.in-Some.is in
    record {
      device = then_reads false start (g.D.Device.state now.device) (g.D.Device.state c.read_list.new.device) now.invariant.device c.in_ok-read_list.ensures.device;
      file = c.follow-in-Some.ensures.file ∙ file;
      size = c.follow-in-Some.ensures.size;
      table = c.in_ok-list-2.ensures.table (paired.table now.invariant.table);
      room = omega (
        arith,
        c.in_ok-list-2.ensures.unmet,
        lengths,
        one,
        paired.fewer,
        now.invariant.room,
        length-pointed c.take_pairs.new.self.file AList (now.number + 1) (place_named c.next.result),
      );
      within = c.in_ok-list-2.ensures.within;
      at = λ honest.
          let at = subst (λ l. IsAtList start.store c.args.file first l now.number now.found.parts.items) c.in-Some.is (now.invariant.at honest) in
          let still = subst IsTrue (sym now.invariant.device.same.honest) honest in
          let same_device = now.invariant.device.kept honest refl in
          let unit : c.read_list.new.unit ≡ unit_at start.store c.in-Some.place =
          subst (λ (d : DeviceState). c.read_list.new.unit ≡ unit_at d.store c.in-Some.place) same_device (c.in_ok-read_list.ensures.unit still) in
          at_next start.store c.args.file first now.number c.in-Some.place now.found.met c.take_pairs.new.self.met now.found.parts.items c.take_pairs.new.self.parts.items
          c.read_list.new.unit at unit paired c.take_pairs.new.self.file c.next.result c.in_ok-list-2.list c.follow-in-Some.new.self.parts.items file c.next.ensures
          c.in_ok-list-2.ensures.tame c.in_ok-list-2.ensures.named c.in_ok-list-2.ensures.parts;
    }

pub returns-clause-parts : goal.returns-clause-parts
returns-clause-parts g c = λ honest.
    let store = (g.D.Device.state c.args.device.now).store in
    let now = c.loop-list in
    let at = subst (λ l. IsAtList store c.args.file (entry_pointer c.args.entry.now) l now.number now.found.parts.items) c.in_default.is (now.invariant.at honest) in
    (at_end store c.args.file (entry_pointer c.args.entry.now) now.number now.found.parts.items at).0

pub returns-clause-tame : goal.returns-clause-tame
returns-clause-tame g c = λ honest.
    let store = (g.D.Device.state c.args.device.now).store in
    let now = c.loop-list in
    let at = subst (λ l. IsAtList store c.args.file (entry_pointer c.args.entry.now) l now.number now.found.parts.items) c.in_default.is (now.invariant.at honest) in
    (at_end store c.args.file (entry_pointer c.args.entry.now) now.number now.found.parts.items at).1

pub returns-clause-within : goal.returns-clause-within
returns-clause-within g c = λ k d inside.
    omega (arith, c.loop-list.invariant.size, all_within c.loop-list.found.met c.loop-list.found.parts.items c.loop-list.invariant.table k d inside)
