use Rattle.disk_container.proofs.Unwrapped.{unwrapped}
use Rattle.disk_container.proofs.law.what_is_wrapped_is_unwrapped.Goals as goal

pub returns : goal.returns
returns c = λ order volume comment protect payload. unwrapped order volume comment protect payload
