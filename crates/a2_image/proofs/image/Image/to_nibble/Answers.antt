use Rattle.std.proofs.Common.{◌≡◌, ◌∙◌, ap, sym, subst, length, arith}
use Rattle.std.proofs.lemmas.List.{with_items_is}
use Rattle.a2_device.specs.declared.order.Order.TheVariants.{Nibble}
use Rattle.a2_device.specs.Order.{blocks_of}
use Rattle.a2_image.specs.Tracks.{track_of}
use Rattle.a2_image.specs.Kept.{IsKept, kept_sectors}
use Rattle.a2_image.specs.Converting.{MakesTrack}
use Rattle.a2_image.proofs.ConvertLemmas.{blocks_of-nibble, IsKept-nibble, KeepsFields-made, kept_sectors-made, there-made}
use Rattle.a2_image.proofs.image.Image.to_nibble.Goals as goal

pub from_kept-requires : goal.from_kept-requires
from_kept-requires g c =
    let same : length c.fill_tracks.new.bytes ≡ length c.in_ok-bytes.bytes.items = c.fill_tracks.auto.bytes ∙ ap length c.as_mut_slice.ensures.value in
    let stands = with_items_is c.in_ok-bytes.bytes c.fill_tracks.new.bytes (same ∙ sym c.in_ok-bytes.bytes.ok.0) in
    let long : length c.fill_tracks.new.bytes ≡ 232960 = same ∙ sym c.in_ok-bytes.bytes.ok.0 ∙ c.in_ok-bytes.ensures.len in
    subst (λ bytes. IsKept Nibble bytes c.in_ok-fields.fields.items) (sym stands)
    (IsKept-nibble c.fill_tracks.new.bytes c.in_ok-fields.fields.items long
    (KeepsFields-made c.fill_tracks.new.bytes c.args.volume c.args.self.now.sectors (omega arith) c.in_ok-fill_tracks.ensures.made c.in_ok-fields.fields.items c.in_ok-fields.ensures))

pub returns-clause-disk : goal.returns-clause-disk
returns-clause-disk g c =
    ap (λ order. blocks_of order (length c.from_kept.result.bytes)) c.from_kept.ensures.order ∙ blocks_of-nibble (length c.from_kept.result.bytes)

pub returns-clause-sectors : goal.returns-clause-sectors
returns-clause-sectors g c =
    let same : length c.fill_tracks.new.bytes ≡ length c.in_ok-bytes.bytes.items = c.fill_tracks.auto.bytes ∙ ap length c.as_mut_slice.ensures.value in
    let stands = with_items_is c.in_ok-bytes.bytes c.fill_tracks.new.bytes (same ∙ sym c.in_ok-bytes.bytes.ok.0) in
    c.from_kept.ensures.sectors
    ∙ ap (λ bytes. kept_sectors Nibble bytes c.in_ok-fields.fields.items) stands
    ∙ kept_sectors-made c.fill_tracks.new.bytes c.args.volume c.args.self.now.sectors (omega arith) c.in_ok-fill_tracks.ensures.made c.in_ok-fields.fields.items c.requires.sectors.count c.in_ok-fields.ensures

pub returns-clause-there : goal.returns-clause-there
returns-clause-there g c = λ _ track sector lt ls. record {
  track_fits = lt;
  sector_fits = ls;
  disk = c.requires.disk;
  has = there-made c.fill_tracks.new.bytes c.args.volume c.args.self.now.sectors (omega arith) c.in_ok-fill_tracks.ensures.made track sector lt ls;
}

pub returns-clause-made : goal.returns-clause-made
returns-clause-made g c =
    let same : length c.fill_tracks.new.bytes ≡ length c.in_ok-bytes.bytes.items = c.fill_tracks.auto.bytes ∙ ap length c.as_mut_slice.ensures.value in
    let stands = with_items_is c.in_ok-bytes.bytes c.fill_tracks.new.bytes (same ∙ sym c.in_ok-bytes.bytes.ok.0) in
    λ track lt. subst (λ bytes. MakesTrack (track_of bytes track) c.args.volume track c.args.self.now.sectors) (sym (c.from_kept.ensures.bytes ∙ stands)) (c.in_ok-fill_tracks.ensures.made track lt)
