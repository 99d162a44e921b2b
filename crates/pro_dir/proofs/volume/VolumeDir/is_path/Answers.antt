use Rattle.std.proofs.Common.{◌≡◌, ◌∙◌, ◌++◌, ◌∷◌, sym, ap, arith, false, List, ℕ, None}
use Rattle.pro_dir.specs.Letters.{taken}
use Rattle.pro_dir.specs.Parents.{parent_of}
use Rattle.pro_dir.specs.Paths.{path_of}
use Rattle.pro_dir.proofs.Folding.{is_bytes_eq, path-alone, path-parent, same_above}
use Rattle.pro_dir.proofs.volume.VolumeDir.is_path.Goals as goal

pub returns-in_default-without_name : goal.returns-in_default-without_name
returns-in_default-without_name g c =
    let entries = c.args.self.now.entries.items in
    let now = c.loop-parent in
    let path = path-parent entries now.number c.in-Some.parent now.invariant.inside (sym c.in-Some.ensures.value) in
    is_bytes_eq false (taken c.args.letters c.args.path.now) (path_of entries c.args.entry) (
      λ e. absurd (cc),
      λ same. absurd (c.in_default-without_name.ensures.none (path_of entries c.in-Some.parent)
          (now.invariant.same.0 same ∙ path ∙ ap (λ (name : List ℕ). path_of entries c.in-Some.parent ++ 0x2f ∷ name) (sym c.name_at.ensures))),
    )

pub loop-parent-preserved : goal.loop-parent-preserved
loop-parent-preserved g c =
    let entries = c.args.self.now.entries.items in
    let now = c.loop-parent in
    let path = path-parent entries now.number c.in-Some.parent now.invariant.inside (sym c.in-Some.ensures.value) in
    let above = c.in-Some-without_name.above.now in
    let step = same_above (taken c.args.letters now.rest.now) (path_of entries now.number) (taken c.args.letters above) (path_of entries c.in-Some.parent) c.name_at.result.now c.in-Some-without_name.ensures.some
    (path ∙ ap (λ (name : List ℕ). path_of entries c.in-Some.parent ++ 0x2f ∷ name) (sym c.name_at.ensures)) in
    record {
      inside = omega (arith, c.in-Some.ensures.before, now.invariant.inside);
      same = (λ same. step.0 (now.invariant.same.0 same), λ same. now.invariant.same.1 (step.1 same));
    }

pub returns : goal.returns
returns g c =
    let entries = c.args.self.now.entries.items in
    let now = c.loop-parent in
    let alone : parent_of entries now.number ≡ None = cc in
    let path = path-alone entries now.number now.invariant.inside alone in
    is_bytes_eq c.is_name.result (taken c.args.letters c.args.path.now) (path_of entries c.args.entry) (
      λ is. now.invariant.same.1 (c.is_name.ensures.0 is ∙ c.name_at-2.ensures ∙ sym path),
      λ same. c.is_name.ensures.1 (now.invariant.same.0 same ∙ path ∙ sym c.name_at-2.ensures),
    )
