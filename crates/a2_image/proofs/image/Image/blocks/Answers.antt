use Rattle.std.proofs.Common.{◌∙◌, ◌≤◌, ap, sym, subst, length}
use Rattle.a2_device.specs.Order.{blocks_of}
use Rattle.a2_image.proofs.ImageLemmas.{few_blocks, image_disk}
use Rattle.a2_image.proofs.image.Image.blocks.Goals as goal

pub returns-clause-few : goal.returns-clause-few
returns-clause-few g c =
    subst (λ n. (16 ≤ n) × (n ≤ 65535)) (sym (c.blocks-2.ensures ∙ ap (blocks_of c.self.inside.order) (c.len.ensures ∙ c.self.inside.bytes.ok.0)))
    (few_blocks c.self.inside.order (length c.self.inside.bytes.items) c.self.invariant.long)

pub returns-clause-disk : goal.returns-clause-disk
returns-clause-disk g c = image_disk c.args.self.now c.self.inside.order c.self.inside.bytes.items c.self.inside.fields.items c.self.view_is c.self.invariant
