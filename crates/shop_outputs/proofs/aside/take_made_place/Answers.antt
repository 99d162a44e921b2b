use Rattle.shop_outputs.proofs.Taking.{made_fails, made_takes, make_refused, quiet_honest}
use Rattle.shop_outputs.proofs.aside.take_made_place.Goals as goal

pub returns-in-Err : goal.returns-in-Err
returns-in-Err g c = λ honest bytes stands apart. make_refused _ _ _ bytes _ _ _ _ honest (c.in-Err.ensures honest)

pub returns-in-Ok-rename : goal.returns-in-Ok-rename
returns-in-Ok-rename g c = λ honest bytes stands apart.
    let made = c.in-Ok.ensures honest in
    let quiet = c.node_of-node.ensures made.done.0.honest in
    made_takes _ _ _ bytes _ _ _ _ _ _ _ apart stands made quiet
    (c.in-Ok-rename.ensures (quiet_honest _ _ made.done.0.honest quiet))

pub returns-in-Err-rename : goal.returns-in-Err-rename
returns-in-Err-rename g c = λ honest bytes stands apart.
    let made = c.in-Ok.ensures honest in
    let quiet = c.node_of-node.ensures made.done.0.honest in
    let renamed = c.in-Err-rename.ensures (quiet_honest _ _ made.done.0.honest quiet) in
    made_fails _ _ _ bytes _ _ _ _ _ _ _ _ apart stands made quiet renamed (c.take_back.ensures renamed.noted.honest)
