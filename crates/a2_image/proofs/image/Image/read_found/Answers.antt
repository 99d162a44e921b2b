use Rattle.std.proofs.Common.{◌∙◌, ap, sym, length}
use Rattle.a2_image.specs.Image.{DiskImage, sectors_by, sector_in}
use Rattle.a2_image.proofs.ImageLemmas.{nibble_bytes, plain_length, plain_sectors}
use Rattle.a2_image.proofs.image.Image.read_found.Goals as goal

pub read_kept-requires-clause-whole : goal.read_kept-requires-clause-whole
read_kept-requires-clause-whole g c =
    ap length c.as_slice.ensures.value
    ∙ nibble_bytes c.args.self.now c.self.inside.order c.self.inside.bytes.items c.self.inside.fields.items c.self.view_is c.self.invariant
    (ap (λ (i : DiskImage). i.order) c.self.view_is ∙ c.in-Some.ensures.some.nibble)

pub read_plain-requires-clause-whole : goal.read_plain-requires-clause-whole
read_plain-requires-clause-whole g c =
    ap length c.as_slice-in-None.ensures.value
    ∙ plain_length c.args.self.now c.self.inside.order c.self.inside.bytes.items c.self.inside.fields.items c.self.view_is c.self.invariant
    (λ e. c.requires.has (c.in-None.ensures.none (ap (λ (i : DiskImage). i.order) (sym c.self.view_is) ∙ e))) c.requires.disk

pub returns-in-None : goal.returns-in-None
returns-in-None g c =
    ap (λ all. sector_in all c.args.track c.args.sector)
    (plain_sectors c.args.self.now c.self.inside.order c.self.inside.bytes.items c.self.inside.fields.items c.self.view_is c.self.invariant
    (λ e. c.requires.has (c.in-None.ensures.none (ap (λ (i : DiskImage). i.order) (sym c.self.view_is) ∙ e))) c.requires.disk)
    ∙ ap (λ bytes. sector_in (sectors_by c.self.inside.order bytes) c.args.track c.args.sector) (sym c.as_slice-in-None.ensures.value)
    ∙ c.read_plain.ensures
