use Rattle.apple_text.proofs.Utf8.{shown_utf8}
use Rattle.apple_text.proofs.law.what_is_shown_is_utf8.Goals as goal

pub returns : goal.returns
returns c = shown_utf8
