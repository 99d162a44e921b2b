use Rattle.shop_outputs.proofs.Putting.{made_same, none_left, on_disk_same, on_err_failed, on_ok_both, on_err_true, on_ok_true, put_of, run_held, run_output, unfailed}
use Rattle.shop_outputs.proofs.output.Output.flush_to_disk.Goals as goal

pub returns-in-Aside-clause-held : goal.returns-in-Aside-clause-held
returns-in-Aside-clause-held g c = λ honest held has.
    let file = c.in-Aside.file in
    let flushed = c.flush_to_disk.ensures in
    let (aside, content) = put_of g.H.Host.place c.args.self.now file held _ c.in-Aside.is has in
    let none = unfailed c.args.self.now file _ c.in-Aside.is c.failure.ensures (none_left _ c.in_default.not-Some) in
    let made = made_same g.H.Host.place file c.flush_to_disk.new.self flushed.file flushed.destination aside in (
      run_output _ c.args.self.now file _ _ c.in-Aside.is (flushed.run honest aside),
      on_ok_both _ _ made (on_disk_same _ _ held _ _ flushed.file (flushed.flushed honest aside held (content none))),
      on_err_failed _ _ _ made flushed.failed,
    )

pub returns-in-Held-clause-held : goal.returns-in-Held-clause-held
returns-in-Held-clause-held g c = λ honest held has.
    (run_held _ c.args.self.now c.in-Held.file _ _ c.in-Held.is (c.write_straight.ensures.run honest), on_ok_true _, on_err_true _)
