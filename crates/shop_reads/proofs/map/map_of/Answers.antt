use Rattle.std.proofs.Common.{◌∙◌, List, ap, arith, length}
use Rattle.std.proofs.lemmas.List.FromFn.{length-map-range_with_len}
use Rattle.vol_check.specs.Told.{told_of, volume_of}
use Rattle.shop_reads.specs.MapSteps.{vacant_state}
use Rattle.shop_reads.specs.declared.place_state.PlaceState.{PlaceState}
use Rattle.shop_reads.proofs.PlaceTables.{parts_inside}
use Rattle.shop_reads.proofs.map.map_of.Goals as goal

pub put_parts-requires-clause-places : goal.put_parts-requires-clause-places
put_parts-requires-clause-places g c = λ k part low.
    let directory = g.F.Format.directory c.args.format.now (volume_of c.args.checked.now) in
    let inside = parts_inside directory (told_of c.args.checked.now) c.parts-parts.result.now c.requires.told c.parts-parts.ensures k part low in
    let size = ap (λ (table : List PlaceState). length table) c.in_ok-vacant.ensures ∙ length-map-range_with_len (vacant_state (g.F.Format.directory c.args.format.now c.volume.result.now)) 0 c.args.places in
    omega (arith, inside, size, c.requires.places)

pub returns-clause-size : goal.returns-clause-size
returns-clause-size g c =
    c.put_parts.ensures.size
    ∙ ap (λ (table : List PlaceState). length table) c.in_ok-vacant.ensures
    ∙ length-map-range_with_len (vacant_state (g.F.Format.directory c.args.format.now c.volume.result.now)) 0 c.args.places
