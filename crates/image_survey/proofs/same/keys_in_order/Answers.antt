use Rattle.std.proofs.Common.{◌≡◌, ◌∙◌, ◌<◌, ◌+◌, Global, Vec, ap, arith, length, map, subst, sym}
use Rattle.image_survey.specs.Grouping.{AreNumbered}
use Rattle.image_survey.specs.Told.{candidate_of, keys_by}
use Rattle.image_survey.specs.declared.same.NumberedKey.{NumberedKey}
use Rattle.image_survey.proofs.Keys.{key_of_kept, none_yet, numbered_more, numbered_same}
use Rattle.image_survey.proofs.same.keys_in_order.Goals as goal
use Rattle.image_survey.proofs.same.keys_in_order.Goals.{in-Some+in_ok-push, in_default}

pub loop-number-init : goal.loop-number-init
loop-number-init c =
    subst (AreNumbered (keys_by c.args.likeness (map candidate_of c.args.kept.now)) 0) (sym c.in_ok-keys.ensures.items)
    (none_yet (keys_by c.args.likeness (map candidate_of c.args.kept.now)))

pub loop-number-preserved : goal.loop-number-preserved
loop-number-preserved c =
    let keys = keys_by c.args.likeness (map candidate_of c.args.kept.now) in
    let number = c.loop-number.number in
    let low : number < length c.args.kept.now = omega (arith, c.loop-number-test.true) in
    let is = key_of_kept c.args.likeness c.args.kept.now number c.index-kept-number.result low c.index-kept-number.is ∙ sym c.key.ensures in
    elim c.match-key.branch [
      | in-Some+in_ok-push w ↦
          subst (AreNumbered keys (number + 1)) (sym (ap (λ (all : Vec NumberedKey Global). all.items) w.keys-is ∙ w.in_ok-push.ensures.items))
          (numbered_more keys number c.loop-number.keys.items c.loop-number.invariant w.in-Some.key (is ∙ w.in-Some.is))
      | in_default w ↦
          subst (AreNumbered keys (number + 1)) (sym (ap (λ (all : Vec NumberedKey Global). all.items) w.keys-is))
          (numbered_same keys number c.loop-number.keys.items c.loop-number.invariant (is ∙ w.in_default.is))
    ]

pub returns : goal.returns
returns c =
    let keys = keys_by c.args.likeness (map candidate_of c.args.kept.now) in
    let all : c.loop-number.number ≡ length c.args.kept.now = omega (arith, c.loop-number-test.false, c.loop-number.auto.number-end) in
    subst (λ n. AreNumbered keys n c.loop-number.keys.items) all c.loop-number.invariant
