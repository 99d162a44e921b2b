use Rattle.std.proofs.Common.{◌≡◌, subst, List, ℕ}
use Rattle.std.specs.Prelude.{IfSome, Some, slice_get}
use Rattle.pro_format.specs.ProVolume.{tree_of, map_in, system_of}
use Rattle.pro_format.proofs.Readers.{no_number-pro}
use Rattle.pro_format.proofs.prodos.ProdosFormat.index.Goals as goal

pub returns-clause-none : goal.returns-clause-none
returns-clause-none g c =
    let v = c.args.volume.now in
    no_number-pro (system_of v) (tree_of v) (map_in v).units c.args.place c.number.result v.available v.fitted.sound.size c.requires v.fitted.available_is c.number.ensures.none

pub returns-clause-some : goal.returns-clause-some
returns-clause-some g c =
    let v = c.args.volume.now in
    subst (λ (xs : List ℕ). IfSome c.number.result (λ number. slice_get xs number ≡ Some c.args.place)) v.fitted.available_is c.number.ensures.some
