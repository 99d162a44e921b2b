use Rattle.shop_changes.proofs.AsNew.{given_as_new}
use Rattle.shop_changes.proofs.law.what_takes_the_place_of_none_is_saved.Goals as goal

pub returns : goal.returns
returns c said plain is = given_as_new said said.form plain is
