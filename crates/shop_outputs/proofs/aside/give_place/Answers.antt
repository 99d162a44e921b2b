use Rattle.shop_outputs.proofs.Taking.{over_takes, takes_as}
use Rattle.shop_outputs.proofs.aside.give_place.Goals as goal

pub returns-in-Over : goal.returns-in-Over
returns-in-Over g c = λ honest bytes stands apart.
    takes_as _ _ _ _ bytes _ _ _ c.in-Over.is (over_takes _ _ bytes _ _ _ stands (c.rename.ensures honest))

pub returns-in-Free : goal.returns-in-Free
returns-in-Free g c = λ honest bytes stands apart.
    takes_as _ _ _ _ bytes _ _ _ c.in-Free.is (c.take_free_place.ensures honest bytes stands apart)
