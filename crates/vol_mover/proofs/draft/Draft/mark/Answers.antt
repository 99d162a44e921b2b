use Rattle.vol_mover.proofs.Drafts.{drafted-mark}
use Rattle.vol_mover.proofs.draft.Draft.mark.Goals as goal

pub returns : goal.returns
returns g c = rw (← c.self.view_is) (drafted-mark c.self.inside c.args.mark c.push.new.self.items c.self.invariant c.in_ok-push.ensures.items)
