use Rattle.apple_text.proofs.Runs.{shown_more}
use Rattle.apple_text.proofs.shown.text_of.Goals as goal

pub loop-rest-preserved : goal.loop-rest-preserved
loop-rest-preserved g c =
    shown_more _ _ _ c.loop-rest.invariant c.in-len1-up.len_at_least _ _ _ c.in_ok-push_shown.ensures c.in_ok-rest.ensures.shown c.in_ok-rest.ensures.left
