use Rattle.shop_outputs.proofs.Apart.{ok_left, prepared_alone, prepared_both, put_behind}
use Rattle.shop_outputs.proofs.settling.flush_both.Goals as goal

pub returns-in-Ok-clause-held : goal.returns-in-Ok-clause-held
returns-in-Ok-clause-held g c = λ honest image said has told apart.
    let place = g.H.Host.place in
    let out = c.args.out.now in
    let certificate = c.args.certificate.now in
    let (run, ready, failed) = c.flush_to_disk.ensures.held honest said told in
    let (then, both, neither) = c.in-Ok.ensures.held run.honest image (put_behind place out certificate image _ _ apart run has) in
    prepared_both place out c.flush_to_disk-2.new.self image certificate c.flush_to_disk.new.self said _ _ _ _ apart
    c.flush_to_disk.ensures.destination run (ok_left _ c.in_default-flush_to_disk.not-Err ready) then both

pub returns-in-Err-flush_to_disk-clause-held : goal.returns-in-Err-flush_to_disk-clause-held
returns-in-Err-flush_to_disk-clause-held g c = λ honest image said has told apart.
    let place = g.H.Host.place in
    let out = c.args.out.now in
    let certificate = c.args.certificate.now in
    let (run, ready, failed) = c.flush_to_disk.ensures.held honest said told in
    let (then, both, still) = c.in-Err-flush_to_disk.ensures.held run.honest image
    (put_behind place out certificate image _ _ apart run has) in
    prepared_alone place out c.flush_to_disk-2.new.self image certificate c.flush_to_disk.new.self said _ _ _ _ run
    (ok_left _ c.in_default-flush_to_disk.not-Err ready) then still
