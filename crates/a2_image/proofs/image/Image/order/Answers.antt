use Rattle.a2_image.proofs.ImageLemmas.{image_holds, image_kept}
use Rattle.a2_image.proofs.image.Image.order.Goals as goal

pub returns-clause-holds : goal.returns-clause-holds
returns-clause-holds g c = image_holds c.args.self.now c.self.inside.order c.self.inside.bytes.items c.self.inside.fields.items c.self.view_is c.self.invariant

pub returns-clause-kept : goal.returns-clause-kept
returns-clause-kept g c = image_kept c.args.self.now c.self.inside.order c.self.inside.bytes.items c.self.inside.fields.items c.self.view_is c.self.invariant
