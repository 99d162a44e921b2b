use Rattle.std.proofs.Common.{◌≡◌, ◌∙◌, ◌+◌, ◌*◌, None, get_or, ap, sym, arith, refl}
use Rattle.std.proofs.lemmas.List.{get_or_default}
use Rattle.a2_image.proofs.ImageLemmas.{field_kept, no_field_kept}
use Rattle.a2_image.proofs.image.Image.field.Goals as goal

pub returns-then-is_nibble-clause-some : goal.returns-then-is_nibble-clause-some
returns-then-is_nibble-clause-some g c =
    let fields = c.self.inside.fields.items in
    let number : 16 * c.args.track + c.args.sector ≡ 16 * c.from.result + c.from-then-is_nibble.result = omega (arith, c.from.ensures, c.from-then-is_nibble.ensures) in
    let long = (c.self.invariant.keeps (c.if-is_nibble.ensures.0 refl)).count in
    field_kept c.args.self.now c.self.inside.order c.self.inside.bytes.items fields c.self.view_is c.self.invariant
    (c.if-is_nibble.ensures.0 refl) c.args.track c.args.sector c.requires.exists.0 c.requires.exists.1 c.index.result.now
    (ap (λ k. get_or fields k None) number ∙ get_or_default fields _ None c.index.result.now (omega (arith, long, number)) ∙ sym c.index.ensures)

pub returns-then-is_nibble-clause-none : goal.returns-then-is_nibble-clause-none
returns-then-is_nibble-clause-none g c =
    let fields = c.self.inside.fields.items in
    let number : 16 * c.args.track + c.args.sector ≡ 16 * c.from.result + c.from-then-is_nibble.result = omega (arith, c.from.ensures, c.from-then-is_nibble.ensures) in
    let long = (c.self.invariant.keeps (c.if-is_nibble.ensures.0 refl)).count in
    no_field_kept c.args.self.now c.self.inside.order c.self.inside.bytes.items fields c.self.view_is c.self.invariant
    (c.if-is_nibble.ensures.0 refl) c.args.track c.args.sector c.requires.exists.0 c.requires.exists.1 c.index.result.now
    (ap (λ k. get_or fields k None) number ∙ get_or_default fields _ None c.index.result.now (omega (arith, long, number)) ∙ sym c.index.ensures)
