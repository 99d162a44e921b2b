use Rattle.std.proofs.Common.{◌≡◌, ◌∙◌, ◌+◌, ◌++◌, Some, None, ap, sym, refl, arith, length, get_or, inl}
use Rattle.std.specs.Prelude.{slice_range}
use Rattle.a2_image.specs.Image.{block_count}
use Rattle.a2_image.proofs.BlockLemmas.{block_in-stored, block_in-disk, HasSector-front, HasSector-rear, block_of_sectors-there}
use Rattle.a2_image.proofs.PartLemmas.{halves_joined}
use Rattle.a2_image.proofs.image.Image.block.Goals as goal

pub returns-then-blocks-ne-DISK_BLOCKS-clause-value : goal.returns-then-blocks-ne-DISK_BLOCKS-clause-value
returns-then-blocks-ne-DISK_BLOCKS-clause-value g c =
    block_in-stored c.args.self.now c.args.number (λ e. c.if-blocks-ne-DISK_BLOCKS.true (c.blocks-2.ensures.value ∙ e)) ∙ ap Some (sym c.read_stored.ensures)

pub read_found-requires : goal.read_found-requires
read_found-requires g c =
    let disk : block_count c.args.self.now ≡ 280 = omega (arith, c.blocks-2.ensures.value) in
    HasSector-front c.args.self.now c.args.number disk (c.in_ok-find_block.ensures.ok.0 refl) _ _
    c.sectors_of_block-track.ensures.exist.0 c.sectors_of_block-track.ensures.exist.1 c.sectors_of_block-track.ensures.front

pub read_found-requires-2 : goal.read_found-requires-2
read_found-requires-2 g c =
    let disk : block_count c.args.self.now ≡ 280 = omega (arith, c.blocks-2.ensures.value) in
    HasSector-rear c.args.self.now c.args.number disk (c.in_ok-find_block.ensures.ok.0 refl) _ _
    c.sectors_of_block-track.ensures.exist.0 c.sectors_of_block-track.ensures.exist.2 c.sectors_of_block-track.ensures.rear

pub returns-clause-value : goal.returns-clause-value
returns-clause-value g c =
    let disk : block_count c.args.self.now ≡ 280 = omega (arith, c.blocks-2.ensures.value) in
    let all = c.args.self.now.sectors in
    let long : length c.replace-2.new.bytes ≡ 512 = omega (arith, c.replace-2.auto.bytes, c.replace.auto.bytes, c.told-block) in
    let front_end : 256 ≡ 0 + length c.read_found.new.content = omega (arith, c.read_found.array_long) in
    let rear_end : 512 ≡ 256 + length c.read_found-2.new.content = omega (arith, c.read_found-2.array_long) in
    let front : slice_range c.replace-2.new.bytes 0 256 ≡ c.read_found.new.content =
    c.replace-2.ensures.others 0 256 (omega arith) (inl (omega arith)) ∙ ap (slice_range c.replace.new.bytes 0) front_end ∙ c.replace.ensures.written in
    let rear : slice_range c.replace-2.new.bytes 256 512 ≡ c.read_found-2.new.content =
    ap (slice_range c.replace-2.new.bytes 256) rear_end ∙ c.replace-2.ensures.written in
    block_in-disk c.args.self.now c.args.number disk
    ∙ block_of_sectors-there all c.args.number c.read_found.new.content c.read_found-2.new.content
    (ap (λ n. get_or all n None) (sym c.sectors_of_block-track.ensures.front) ∙ c.read_found.ensures)
    (ap (λ n. get_or all n None) (sym c.sectors_of_block-track.ensures.rear) ∙ c.read_found-2.ensures)
    ∙ ap Some (sym (halves_joined c.replace-2.new.bytes long ∙ ap (λ xs. xs ++ slice_range c.replace-2.new.bytes 256 512) front ∙ ap (λ xs. c.read_found.new.content ++ xs) rear))
