use Rattle.std.proofs.Common.{refl}
use Rattle.vol_format.proofs.layouts.a_volume_has_its_layout.Goals as goal

pub returns : goal.returns
returns g c =
    λ directory store parts accepted are.
    record { directory = directory; accepted = accepted; parts = parts; are_parts = are; is = refl }
