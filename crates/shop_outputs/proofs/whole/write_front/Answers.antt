use Rattle.std.proofs.Common.{false}
use Rattle.std.proofs.lemmas.List.{take_rest}
use Rattle.shop_outputs.proofs.Steps.{run_write}
use Rattle.shop_outputs.proofs.whole.write_front.Goals as goal

pub returns-in-Ok-eq0-clause-run : goal.returns-in-Ok-eq0-clause-run
returns-in-Ok-eq0-clause-run g c = λ honest. run_write _ _ _ _ _ (c.write.ensures.file honest)

pub returns-in-Ok-clause-run : goal.returns-in-Ok-clause-run
returns-in-Ok-clause-run g c = λ honest. run_write _ _ _ _ _ (c.write.ensures.file honest)

pub returns-in-Ok-clause-rest : goal.returns-in-Ok-clause-rest
returns-in-Ok-clause-rest g c = λ honest held stands.
    (c.in-Ok.count, take_rest c.args.bytes.now c.in-Ok.count, (c.in-Ok.ensures.file honest).done (record { bytes = held; on_disk = false }) stands)

pub returns-in-Err-clause-run : goal.returns-in-Err-clause-run
returns-in-Err-clause-run g c = λ honest. run_write _ _ _ _ _ (c.write.ensures.file honest)

pub returns-in-Err-2-clause-run : goal.returns-in-Err-2-clause-run
returns-in-Err-2-clause-run g c = λ honest. run_write _ _ _ _ _ (c.write.ensures.file honest)
