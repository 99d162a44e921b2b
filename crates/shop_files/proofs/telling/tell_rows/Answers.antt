use Rattle.shop_host.specs.lemmas.Runs.{look_both}
use Rattle.shop_files.proofs.telling.tell_rows.Goals as goal

pub returns-in_err-tell_row : goal.returns-in_err-tell_row
returns-in_err-tell_row g c = record { looked = look_both _ _ _ c.loop-row.invariant c.tell_row.ensures.looked }

pub loop-row-preserved : goal.loop-row-preserved
loop-row-preserved g c = look_both _ _ _ c.loop-row.invariant c.tell_row.ensures.looked
