use Rattle.applesoft.proofs.Relisted.{listed_again}
use Rattle.applesoft.proofs.law.a_listing_is_its_program.Goals as goal

pub returns : goal.returns
returns c = listed_again
