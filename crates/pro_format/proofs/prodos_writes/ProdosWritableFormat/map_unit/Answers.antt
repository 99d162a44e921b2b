use Rattle.std.proofs.Common.{◌∙◌, ◌+◌, ◌/◌, ap, sym, ℕ}
use Rattle.pro_dir.specs.Volume.{map_first, total_blocks}
use Rattle.pro_format.specs.lemmas.ProDirectory.{map_place_is}
use Rattle.pro_format.specs.ProVolume.{tree_of}
use Rattle.pro_format.proofs.prodos_writes.ProdosWritableFormat.map_unit.Goals as goal

pub returns : goal.returns
returns g c =
    let v = c.args.volume.now in
    c.unit_of.ensures.value
    ∙ ap (λ (first : ℕ). first + c.args.place / 4096) v.fitted.first
    ∙ sym (map_place_is (map_first (tree_of v).header) (total_blocks (tree_of v).header) c.args.place c.requires)
