use Rattle.integer_basic.proofs.Utf8.{listed_utf8}
use Rattle.integer_basic.proofs.law.a_listing_is_utf8.Goals as goal

pub returns : goal.returns
returns c = listed_utf8
