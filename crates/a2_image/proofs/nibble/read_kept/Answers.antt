use Rattle.std.proofs.Common.{sym, subst}
use Rattle.a2_nibble.specs.Sector.{SectorOf, IsFieldOf}
use Rattle.a2_image.proofs.KeptLemmas.{content_of-field}
use Rattle.a2_image.proofs.nibble.read_kept.Goals as goal

pub returns : goal.returns
returns c =
    let field = c.requires.field.1 in
    let there = subst (λ n. IsFieldOf n c.args.track c.requires.field.0 c.args.field.volume c.args.field.data_at) (sym c.copied_track.ensures) field in
    content_of-field _ c.args.track c.requires.field.0 _ _ _ field
    (subst (λ n. SectorOf n c.args.track c.requires.field.0 c.read_field.new.content) c.copied_track.ensures
    (c.read_field.ensures.content c.args.track c.requires.field.0 there))
