use Rattle.std.proofs.Common.{rules}
use Rattle.host_folders.proofs.Splits.{safe_name-behind, safe_path-before, safe_path-single}
use Rattle.host_folders.proofs.path.is_safe_path.Goals as goal

pub returns-then-not-is_safe_name : goal.returns-then-not-is_safe_name
returns-then-not-is_safe_name c =
    let before = c.loop-parent.invariant.1 in (
      λ told. absurd (cc),
      λ is. c.if-not-is_safe_name.ensures.1 (safe_name-behind c.loop-parent.rest.now c.in-Some.parent.now c.in-Some.name.now c.in-Some.ensures (before.0 is)),
    )

pub loop-parent-preserved : goal.loop-parent-preserved
loop-parent-preserved c =
    let before = c.loop-parent.invariant.1 in
    let split = safe_path-before c.loop-parent.rest.now c.in-Some.parent.now c.in-Some.name.now c.in-Some.ensures (c.if-not-is_safe_name.ensures.0 cc) in
    (search rules, (λ is. split.0 (before.0 is), λ is. before.1 (split.1 is)))

pub returns : goal.returns
returns c =
    let before = c.loop-parent.invariant.1 in
    let single = safe_path-single c.loop-parent.rest.now c.in_default.ensures in
    (λ told. before.1 (single.1 (c.is_safe_name-2.ensures.0 told)), λ is. c.is_safe_name-2.ensures.1 (single.0 (before.0 is)))
