use Rattle.std.proofs.Common.{◌∙◌, ap, arith, length}
use Rattle.a2_image.proofs.ImageLemmas.{stored_length}
use Rattle.a2_image.proofs.image.Image.read_stored.Goals as goal

pub copy_part-requires : goal.copy_part-requires
copy_part-requires g c =
    let long = ap length c.as_slice.ensures.value
    ∙ stored_length c.args.self.now c.self.inside.order c.self.inside.bytes.items c.self.inside.fields.items c.self.view_is c.self.invariant c.requires.other_size in
    omega (arith, long, c.told-block, c.requires.number)
