use Rattle.std.proofs.Common.{◌≡◌, ◌∙◌, ◌+◌, ◌*◌, ap, arith, length, take, drop, set, Some}
use Rattle.std.specs.Prelude.{slice_range}
use Rattle.a2_device.specs.Order.{blocks_of}
use Rattle.a2_image.specs.Blocks.{sector_of_half}
use Rattle.a2_image.proofs.BlockLemmas.{HasSector-front, HasSector-second, blocks-halves}
use Rattle.a2_image.proofs.PartLemmas.{rear_half}
use Rattle.a2_image.proofs.image.Image.write_halves.Goals as goal

pub write_found-requires : goal.write_found-requires
write_found-requires g c =
    HasSector-front c.args.self.now c.args.number c.requires.disk c.requires.there _ _
    c.sectors_of_block-track.ensures.exist.0 c.sectors_of_block-track.ensures.exist.1 c.sectors_of_block-track.ensures.front

pub write_found-requires-2 : goal.write_found-requires-2
write_found-requires-2 g c =
    HasSector-second c.args.self.now c.write_found.new.self c.args.number c.copy_part.new.content c.requires.there c.requires.disk _ _ _
    c.sectors_of_block-track.ensures.exist.0 c.sectors_of_block-track.ensures.exist.2 c.sectors_of_block-track.ensures.front c.sectors_of_block-track.ensures.rear
    (ap (blocks_of c.write_found.new.self.order) c.write_found.ensures.long ∙ ap (λ o. blocks_of o (length c.args.self.now.bytes)) c.write_found.ensures.order)
    c.write_found.ensures.written

pub returns-clause-sectors : goal.returns-clause-sectors
returns-clause-sectors g c =
    let front : c.copy_part.new.content ≡ take 256 c.args.block.now = c.copy_part.ensures in
    let end : 256 + length c.copy_part.new.content ≡ 512 = omega (arith, c.copy_part.auto.content) in
    let rear : c.copy_part-2.new.content ≡ drop 256 c.args.block.now = c.copy_part-2.ensures ∙ ap (slice_range c.args.block.now 256) end ∙ rear_half c.args.block.now (omega (arith, c.told-block)) in
    c.write_found-2.ensures.written
    ∙ ap (λ n. set c.write_found.new.self.sectors n (Some c.copy_part-2.new.content)) c.sectors_of_block-track.ensures.rear
    ∙ ap (λ content. set c.write_found.new.self.sectors (sector_of_half (2 * c.args.number + 1)) (Some content)) rear
    ∙ ap (λ all. set all (sector_of_half (2 * c.args.number + 1)) (Some (drop 256 c.args.block.now)))
    (c.write_found.ensures.written
    ∙ ap (λ n. set c.args.self.now.sectors n (Some c.copy_part.new.content)) c.sectors_of_block-track.ensures.front
    ∙ ap (λ content. set c.args.self.now.sectors (sector_of_half (2 * c.args.number)) (Some content)) front)

pub returns-clause-written : goal.returns-clause-written
returns-clause-written g c =
    let new = c.write_found-2.new.self in
    let old = c.args.self.now in
    blocks-halves old new c.args.number c.args.block.now c.requires.disk c.requires.sectors.count c.requires.there.within
    (ap (blocks_of new.order) (c.write_found-2.ensures.long ∙ c.write_found.ensures.long)
    ∙ ap (λ o. blocks_of o (length old.bytes)) (c.write_found-2.ensures.order ∙ c.write_found.ensures.order))
    (returns-clause-sectors g c)
