use Rattle.std.proofs.Common.{◌<◌, ◌∙◌, ◌++◌, ◌∷◌, [], sym, ap, arith, length, reverse, List, ℕ}
use Rattle.pro_dir.specs.Parents.{path_above}
use Rattle.pro_dir.specs.Paths.{name_below}
use Rattle.pro_dir.proofs.Paths.{backward, named_on, path-named}
use Rattle.pro_dir.proofs.volume.VolumeDir.path_into.Goals as goal

pub loop-parent-init : goal.loop-parent-init
loop-parent-init g c =
    let entries = c.args.self.now.entries.items in record {
      inside = c.requires;
      path = path-named entries c.args.entry c.requires
          ∙ ap (name_below (path_above entries c.args.entry))
          (sym (backward c.push_backward.new.text.items c.clear.new.self.items _ c.in_ok-push_backward.ensures c.clear.ensures.items ∙ c.name_at.ensures));
    }

pub loop-parent-preserved : goal.loop-parent-preserved
loop-parent-preserved g c =
    let entries = c.args.self.now.entries.items in
    let now = c.loop-parent in
    let inside : c.in-Some.parent < length entries = omega (arith, c.in-Some.ensures.before, now.invariant.inside) in
    let text = c.in_ok-push_backward-2.ensures ∙ ap (λ (front : List ℕ). front ++ reverse c.name_at-in-Some.result.now) c.in_ok-push.ensures.items
    ∙ ap (λ (name : List ℕ). (now.path.items ++ 0x2f ∷ []) ++ reverse name) c.name_at-in-Some.ensures in
    record {
      inside = inside;
      path = named_on entries c.args.entry now.number c.in-Some.parent now.path.items inside (sym c.in-Some.ensures.value) now.invariant.path
          ∙ ap (λ (text : List ℕ). name_below (path_above entries c.in-Some.parent) (reverse text)) (sym text);
    }
