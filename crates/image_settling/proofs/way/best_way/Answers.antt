use Rattle.std.proofs.Common.{inr, subst}
use Rattle.std.proofs.lemmas.Bool.{false≢true}
use Rattle.image_readings.specs.BestReading.{IsChoice}
use Rattle.image_readings.specs.declared.best.Choice.{Choice}
use Rattle.image_settling.proofs.way.best_way.Goals as goal

pub returns-in-Way-2-clause-refused : goal.returns-in-Way-2-clause-refused
returns-in-Way-2-clause-refused c = inr (record {
  way = (c.in-Way.file_system, c.in-Way.order);
  chosen = subst (λ (choice : Choice). IsChoice c.args.file_system c.args.order c.args.image.now.items choice) c.in-Way.is c.in_ok-file_system.ensures.choice;
  other = λ agrees. false≢true (c.if-agrees.ensures.1 agrees);
})
