use Rattle.std.proofs.Common.{◌≡◌, ◌++◌, sym, ◌∙◌, ap, subst, arith, Vec}
use Rattle.std.specs.Prelude.{filter, map}
use Rattle.std.specs.List.{range_with_len}
use Rattle.dos_catalog.specs.declared.entry.Entry.{Entry}
use Rattle.dos_catalog.specs.Entry.{is_in_use, entry_at}
use Rattle.dos_catalog.proofs.Sectors.{taken, passed}
use Rattle.dos_catalog.proofs.catalog.take_entries.Goals as goal
use Rattle.dos_catalog.proofs.catalog.take_entries.Goals.{then-is_in_use+in_ok-push, else-is_in_use}

pub loop-slot-preserved : goal.loop-slot-preserved
loop-slot-preserved g c =
    let step = entry_at c.args.place c.args.unit.now in
    elim c.if-is_in_use.branch [
      | then-is_in_use+in_ok-push w ↦
          ap (λ (v : Vec Entry _). v.items) w.entries-is ∙ w.in_ok-push.ensures.items
          ∙ taken is_in_use step c.args.entries.now.items c.loop-slot.entries.items c.loop-slot.slot c.loop-slot.invariant c.at-entry.result c.at-entry.ensures (sym c.is_in_use.ensures ∙ w.if-is_in_use.true)
      | else-is_in_use w ↦
          ap (λ (v : Vec Entry _). v.items) w.entries-is
          ∙ passed is_in_use step c.args.entries.now.items c.loop-slot.entries.items c.loop-slot.slot c.loop-slot.invariant c.at-entry.result c.at-entry.ensures (sym c.is_in_use.ensures ∙ w.if-is_in_use.false)
    ]

pub returns : goal.returns
returns g c =
    let last : c.loop-slot.slot ≡ 7 = omega (arith, c.loop-slot-test.false, c.loop-slot.auto.slot-end) in
    subst (λ n. c.loop-slot.entries.items ≡ c.args.entries.now.items ++ filter is_in_use (map (entry_at c.args.place c.args.unit.now) (range_with_len 0 n))) last c.loop-slot.invariant
