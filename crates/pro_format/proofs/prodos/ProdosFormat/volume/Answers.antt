use Rattle.std.proofs.Common.{◌∙◌, ap, arith, length}
use Rattle.pro_dir.specs.Listed.{directory_of}
use Rattle.pro_format.specs.Pro.{available_in}
use Rattle.pro_format.specs.lemmas.ProSystem.{length-system}
use Rattle.pro_format.proofs.Readers.{few_places, fitted, below_last, few_numbers}
use Rattle.pro_format.proofs.prodos.ProdosFormat.volume.Goals as goal

pub available_places-requires : goal.available_places-requires
available_places-requires g c =
    few_places c.args.self.now (directory_of c.in_ok-directory.directory) _ c.as_slice.result.now c.in_ok-directory.ensures.within c.requires.fits.places (c.as_slice.ensures.value ∙ c.in_ok-system.ensures)

pub new-requires-clause-below : goal.new-requires-clause-below
new-requires-clause-below g c =
    below_last c.as_slice.result.now c.in_ok-places.places.items c.total-2.result c.in_ok-places.ensures
    (omega (arith, ap length (c.as_slice.ensures.value ∙ c.in_ok-system.ensures), length-system c.args.self.now (directory_of c.in_ok-directory.directory), c.total-2.ensures))

pub new-requires-clause-few : goal.new-requires-clause-few
new-requires-clause-few g c =
    few_numbers c.as_slice.result.now c.in_ok-places.places.items c.in_ok-places.ensures
    (few_places c.args.self.now (directory_of c.in_ok-directory.directory) _ c.as_slice.result.now c.in_ok-directory.ensures.within c.requires.fits.places (c.as_slice.ensures.value ∙ c.in_ok-system.ensures))

pub invariant_of-result : goal.invariant_of-result
invariant_of-result g c = record {
  fitted = fitted c.args.self.now (directory_of c.in_ok-directory.directory) _ c.in_ok-map.map c.in_ok-system.system.items c.in_ok-available.available
      c.in_ok-directory.ensures.within c.requires.fits.places (c.in_ok-map.ensures.blocks.0 ∙ c.bitmap.ensures) (c.in_ok-map.ensures.blocks.1 ∙ c.total.ensures)
      c.in_ok-system.ensures
      (c.in_ok-available.ensures ∙ c.in_ok-places.ensures ∙ ap available_in c.as_slice.ensures.value);
}
