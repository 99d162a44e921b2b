use Rattle.std.proofs.Common.{◌≡◌, ◌++◌, ◌∷◌, [], ◌+◌, sym, ◌∙◌, ap, subst, arith, length, length-append}
use Rattle.std.specs.Prelude.{All}
use Rattle.pro_dir.specs.declared.tree.Tree.{Tree}
use Rattle.pro_dir.specs.Walk.{IsListing, entries_from}
use Rattle.pro_dir.specs.Within.{IsInSlot}
use Rattle.pro_dir.proofs.Slots.{from_end}
use Rattle.pro_dir.proofs.Within.{in_slot, listed_within}
use Rattle.pro_dir.proofs.Listing.{slot_listed, slot_passed, slot_stops}
use Rattle.pro_dir.proofs.tree.Tree.list_files.Goals as goal
use Rattle.pro_dir.proofs.tree.Tree.list_files.Goals.{then-is_listed+else-is_directory+in_ok-add, else-is_listed}

pub returns-then-is_directory-clause-listed : goal.returns-then-is_directory-clause-listed
returns-then-is_directory-clause-listed g c = λ store others so.
    let first = c.args.self.now in
    let now = c.loop-slot in
    slot_stops store first.blocks.items now.self.entries.items first.free.items c.args.slots.directory c.args.slots.place c.args.unit.now now.slot others c.at-entry.result
    c.loop-slot-test.true c.at-entry.ensures (now.invariant.listed store others so) (sym c.is_listed.ensures ∙ c.if-is_listed.true)

pub loop-slot-preserved : goal.loop-slot-preserved
loop-slot-preserved g c =
    let first = c.args.self.now in
    let now = c.loop-slot in
    let entry = c.at-entry.result in
    let slots = c.args.slots in
    elim c.if-is_listed.branch [
      | then-is_listed+else-is_directory+in_ok-add w ↦
          let add = w.in_ok-add.ensures in
          let longer : c.if-is_listed.self.entries.items ≡ now.self.entries.items ++ entry ∷ [] = ap (λ (t : Tree _). t.entries.items) w.self-is ∙ add.entries in
          record {
            few = omega (arith, now.invariant.few, ap length longer, length-append now.self.entries.items (entry ∷ []));
            within = λ places inside all.
                let here = in_slot places slots.directory slots.place c.args.unit.now inside.directory inside.place c.told-unit now.slot c.loop-slot-test.true in
                listed_within places now.self.entries.items c.if-is_listed.self.entries.items entry longer (now.invariant.within places inside all)
                (subst (IsInSlot places) (sym c.at-entry.ensures) here);
            listed = λ store others so.
                slot_listed store first.blocks.items now.self.entries.items first.free.items slots.directory slots.place c.args.unit.now now.slot others entry c.loop-slot-test.true c.at-entry.ensures
                (now.invariant.listed store others so) c.if-is_listed.self.entries.items (sym c.is_listed.ensures ∙ w.if-is_listed.true) (sym w.is_directory.ensures ∙ w.if-is_directory.false) longer;
            blocks = ap (λ (t : Tree _). t.blocks) w.self-is ∙ add.same.0 ∙ now.invariant.blocks;
            met = ap (λ (t : Tree _). t.met) w.self-is ∙ add.same.1 ∙ now.invariant.met;
            pending = ap (λ (t : Tree _). t.pending) w.self-is ∙ add.same.2 ∙ now.invariant.pending;
            free = ap (λ (t : Tree _). t.free) w.self-is ∙ add.same.3 ∙ now.invariant.free;
          }
      | else-is_listed w ↦
          let same : c.if-is_listed.self.entries.items ≡ now.self.entries.items = ap (λ (t : Tree _). t.entries.items) w.self-is in
          record {
            few = omega (arith, now.invariant.few, ap length same);
            within = λ places inside all. subst (All (IsInSlot places)) (sym same) (now.invariant.within places inside all);
            listed = λ store others so.
                subst (λ es. IsListing store first.blocks.items es (entries_from slots.directory slots.place c.args.unit.now (now.slot + 1) ++ others) first.free.items) (sym same)
                (slot_passed store first.blocks.items now.self.entries.items first.free.items slots.directory slots.place c.args.unit.now now.slot others entry c.loop-slot-test.true c.at-entry.ensures
                (now.invariant.listed store others so) (sym c.is_listed.ensures ∙ w.if-is_listed.false));
            blocks = ap (λ (t : Tree _). t.blocks) w.self-is ∙ now.invariant.blocks;
            met = ap (λ (t : Tree _). t.met) w.self-is ∙ now.invariant.met;
            pending = ap (λ (t : Tree _). t.pending) w.self-is ∙ now.invariant.pending;
            free = ap (λ (t : Tree _). t.free) w.self-is ∙ now.invariant.free;
          }
    ]

pub returns-clause-listed : goal.returns-clause-listed
returns-clause-listed g c = λ store others so.
    let first = c.args.self.now in
    let now = c.loop-slot in
    let slots = c.args.slots in
    let last : now.slot ≡ 13 = omega (arith, c.loop-slot-test.false, now.auto.slot-end c.requires) in
    let none = ap (entries_from slots.directory slots.place c.args.unit.now) last ∙ from_end slots.directory slots.place c.args.unit.now in
    subst (λ es. IsListing store first.blocks.items now.self.entries.items (es ++ others) first.free.items) none (now.invariant.listed store others so)
