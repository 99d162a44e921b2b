use Rattle.std.proofs.Common.{◌≡◌, ◌∙◌, ◌<◌, ℕ, [], arith, length, map, refl, sym, subst}
use Rattle.image_survey.specs.Grouping.{AreSorted}
use Rattle.image_survey.specs.Same.{AreGroupsUpTo}
use Rattle.image_survey.specs.Told.{candidate_of, keys_by}
use Rattle.image_survey.proofs.Groups.{none_yet}
use Rattle.image_survey.proofs.Keys.{key_of_kept, many_keys}
use Rattle.image_survey.proofs.same.same_lines.Goals as goal

pub loop-number-preserved : goal.loop-number-preserved
loop-number-preserved c =
    let likeness = c.args.likeness in
    let kept = c.args.kept.now in
    let keys = keys_by likeness (map candidate_of kept) in
    let number = c.loop-number.number in
    let low : number < length kept = omega (arith, c.loop-number-test.true) in
    let within : number < length keys = omega (arith, low, many_keys likeness kept) in
    c.in_ok-add_of.ensures keys within
    (key_of_kept likeness kept number c.index-kept-number.result low c.index-kept-number.is ∙ sym c.key.ensures)
    (subst (AreSorted keys) (sym c.as_slice.ensures.value) c.in_ok-keys.ensures)
    c.loop-number.invariant

pub loop-number-init : goal.loop-number-init
loop-number-init c = record {
  groups = [];
  are = none_yet (keys_by c.args.likeness (map candidate_of c.args.kept.now));
  counted = refl;
  few = omega arith;
  is = c.new.ensures.items;
}

pub returns : goal.returns
returns c =
    let keys = keys_by c.args.likeness (map candidate_of c.args.kept.now) in
    let before = c.loop-number.invariant in
    let all : c.loop-number.number ≡ length keys = omega (arith, c.loop-number-test.false, c.loop-number.auto.number-end, many_keys c.args.likeness c.args.kept.now) in
    record { groups = before.groups; are = subst (λ (many : ℕ). AreGroupsUpTo keys many before.groups) all before.are; is = before.is }

pub add_of-requires : goal.add_of-requires
add_of-requires c = omega (arith, c.loop-number.invariant.few, c.loop-number-test.true)
