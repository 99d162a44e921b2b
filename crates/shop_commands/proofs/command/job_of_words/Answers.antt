use Rattle.shop_commands.proofs.Answered.{memory_told}
use Rattle.shop_commands.proofs.command.job_of_words.Goals as goal

pub returns-in-Err-clause-plain : goal.returns-in-Err-clause-plain
returns-in-Err-clause-plain g c = λ plain.
    memory_told c.in-Err.fault c.tell_words_fault.result _ _ (c.in-Err.ensures.plain plain) c.tell_words_fault.ensures

pub returns-in-Err-clause-told : goal.returns-in-Err-clause-told
returns-in-Err-clause-told g c = (c.in-Err.fault, c.in-Err.ensures.taken, c.in-Err.ensures.fault, c.tell_words_fault.ensures)
