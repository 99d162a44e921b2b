use Rattle.std.proofs.Common.{◌∙◌, ap, map}
use Rattle.std.specs.List.{range_with_len}
use Rattle.pro_dir.specs.Listed.{directory_of}
use Rattle.pro_dir.specs.Volume.{total_blocks}
use Rattle.pro_format.specs.Pro.{is_fixed}
use Rattle.pro_format.proofs.Readers.{first_below, blocks_below}
use Rattle.pro_format.proofs.Tables.{system_made}
use Rattle.pro_format.proofs.prodos.Prodos.system.Goals as goal

pub fixed_places-requires-clause-first : goal.fixed_places-requires-clause-first
fixed_places-requires-clause-first g c =
    let tree = directory_of c.args.directory.now in
    first_below c.args.self.now tree (total_blocks tree.header) c.requires.within c.requires.places

pub with_blocks-requires : goal.with_blocks-requires
with_blocks-requires g c =
    let tree = directory_of c.args.directory.now in
    blocks_below c.self.inside.reserved tree (total_blocks tree.header) c.blocks-2.result.now c.in_ok-fixed.fixed.items c.requires.within c.blocks-2.ensures c.in_ok-fixed.ensures

pub returns : goal.returns
returns g c =
    let tree = directory_of c.args.directory.now in
    system_made c.args.self.now tree c.blocks-2.result.now c.in_ok-fixed.fixed.items c.with_blocks.result.items
    (c.in_ok-fixed.ensures ∙ ap (λ reserved. map (is_fixed reserved tree) (range_with_len 0 (total_blocks tree.header))) c.self.view_is) c.blocks-2.ensures c.with_blocks.ensures
