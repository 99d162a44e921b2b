use Rattle.std.proofs.Common.{◌≡◌, ◌<◌, length, get_or, ◌∙◌}
use Rattle.std.proofs.lemmas.List.{get_or_default, length-set}
use Rattle.vol_layout.proofs.PlanLemmas.{IsLayout-moved}
use Rattle.vol_layout.proofs.TableLemmas.{HasParts-moved, HasOnlyParts-moved}
use Rattle.vol_layout.proofs.layout.Layout.put.Goals as goal

pub invariant_of-self : goal.invariant_of-self
invariant_of-self g c =
    let inside = c.self.inside in
    let kept = c.self.invariant in
    let table = kept.table in
    let step = c.args.step in
    let legal = rw (← c.self.view_is) at c.requires in
    let left = c.index-left.result.now in
    let left_is : left ≡ get_or inside.at.items step.part 0 =
    c.index-left.ensures ∙ get_or_default inside.at.items step.part left 0 legal.part in
    let within : left < length inside.part_at.items = rw (left_is, table.size) (kept.layout.below step.part 0 legal.part) in
    let room : step.to < length inside.part_at.items = rw table.size legal.place in
    record {
      layout = IsLayout-moved inside.at.items inside.places step kept.layout legal;
      few = kept.few;
      parts = rw length-set kept.parts;
      table = record {
        size = simp length-set table.size;
        has = HasParts-moved inside.at.items inside.part_at.items step.part step.to left table.has table.only legal.part left_is within room legal.free;
        only = HasOnlyParts-moved inside.at.items inside.part_at.items step.part step.to left table.has table.only legal.part left_is within room legal.free;
      };
    }
