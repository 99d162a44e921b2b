use Rattle.apple_text.proofs.Alike.{alike}
use Rattle.apple_text.proofs.law.each_text_has_one_form.Goals as goal

pub returns : goal.returns
returns c = alike
