use Rattle.std.proofs.Common.{◌∙◌, ap, sym, length}
use Rattle.a2_image.specs.Image.{DiskImage, sectors_by}
use Rattle.a2_image.proofs.ImageLemmas.{plain_length, plain_sectors}
use Rattle.a2_image.proofs.image.Image.stored.Goals as goal

pub returns-clause-sectors : goal.returns-clause-sectors
returns-clause-sectors g c =
    plain_sectors c.args.self.now c.self.inside.order c.self.inside.bytes.items c.self.inside.fields.items c.self.view_is c.self.invariant
    (λ e. c.requires.plain (ap (λ (i : DiskImage). i.order) (sym c.self.view_is) ∙ e)) c.requires.disk
    ∙ ap (λ order. sectors_by order c.self.inside.bytes.items) (ap (λ (i : DiskImage). i.order) c.self.view_is)
    ∙ ap (sectors_by c.args.self.now.order) (sym c.as_slice.ensures.value)

pub returns-clause-long : goal.returns-clause-long
returns-clause-long g c =
    ap length c.as_slice.ensures.value
    ∙ plain_length c.args.self.now c.self.inside.order c.self.inside.bytes.items c.self.inside.fields.items c.self.view_is c.self.invariant
    (λ e. c.requires.plain (ap (λ (i : DiskImage). i.order) (sym c.self.view_is) ∙ e)) c.requires.disk
