use Rattle.std.proofs.Common.{◌≡◌, ◌∙◌, ap, sym, subst, length}
use Rattle.std.proofs.lemmas.List.{with_items_is}
use Rattle.a2_device.specs.Order.{blocks_of}
use Rattle.a2_image.specs.Kept.{IsKept, kept_sectors}
use Rattle.a2_image.proofs.ConvertLemmas.{plain_image, IsKept-plain}
use Rattle.a2_image.proofs.ImageLemmas.{kept-plain}
use Rattle.a2_image.proofs.image.Image.to_plain.Goals as goal

pub from_kept-requires : goal.from_kept-requires
from_kept-requires g c =
    let same : length c.fill_plain.new.bytes ≡ length c.in_ok-bytes.bytes.items = c.fill_plain.auto.bytes ∙ ap length c.as_mut_slice.ensures.value in
    let stands = with_items_is c.in_ok-bytes.bytes c.fill_plain.new.bytes (same ∙ sym c.in_ok-bytes.bytes.ok.0) in
    let long : length c.fill_plain.new.bytes ≡ 143360 = same ∙ sym c.in_ok-bytes.bytes.ok.0 ∙ c.in_ok-bytes.ensures.len in
    subst (λ bytes. IsKept c.args.order bytes c.new.result.items) (sym stands) (IsKept-plain c.args.order c.fill_plain.new.bytes c.new.result.items c.requires.plain long)

pub returns-clause-disk : goal.returns-clause-disk
returns-clause-disk g c =
    let same : length c.fill_plain.new.bytes ≡ length c.in_ok-bytes.bytes.items = c.fill_plain.auto.bytes ∙ ap length c.as_mut_slice.ensures.value in
    let stands = with_items_is c.in_ok-bytes.bytes c.fill_plain.new.bytes (same ∙ sym c.in_ok-bytes.bytes.ok.0) in
    let long : length c.fill_plain.new.bytes ≡ 143360 = same ∙ sym c.in_ok-bytes.bytes.ok.0 ∙ c.in_ok-bytes.ensures.len in
    ap (λ order. blocks_of order (length c.from_kept.result.bytes)) c.from_kept.ensures.order
    ∙ ap (λ bytes. blocks_of c.args.order (length bytes)) (c.from_kept.ensures.bytes ∙ stands)
    ∙ (plain_image c.args.order c.fill_plain.new.bytes c.requires.plain long).1

pub returns-clause-sectors : goal.returns-clause-sectors
returns-clause-sectors g c =
    let same : length c.fill_plain.new.bytes ≡ length c.in_ok-bytes.bytes.items = c.fill_plain.auto.bytes ∙ ap length c.as_mut_slice.ensures.value in
    let stands = with_items_is c.in_ok-bytes.bytes c.fill_plain.new.bytes (same ∙ sym c.in_ok-bytes.bytes.ok.0) in
    let long : length c.fill_plain.new.bytes ≡ 143360 = same ∙ sym c.in_ok-bytes.bytes.ok.0 ∙ c.in_ok-bytes.ensures.len in
    c.from_kept.ensures.sectors
    ∙ ap (λ bytes. kept_sectors c.args.order bytes c.new.result.items) stands
    ∙ kept-plain c.args.order c.fill_plain.new.bytes c.new.result.items c.requires.plain (plain_image c.args.order c.fill_plain.new.bytes c.requires.plain long).1
    ∙ c.in_ok-fill_plain.ensures.sectors
