use Rattle.shop_outputs.proofs.Putting.{put_of, run_output, unfailed, unless_failed}
use Rattle.shop_outputs.proofs.output.Output.put.Goals as goal

pub returns-in-Aside-clause-held : goal.returns-in-Aside-clause-held
returns-in-Aside-clause-held g c = λ honest held has.
    let file = c.in-Aside.file in
    let (aside, content) = put_of g.H.Host.place c.args.self.now file held _ c.in-Aside.is has in
    let none = unfailed c.args.self.now file _ c.in-Aside.is c.failure.ensures c.in-None.is in (
      (
        c.put.ensures.aside honest aside,
        unless_failed _ _ c.put.ensures.failed (c.put.ensures.content honest aside held (content none)),
      ),
      run_output _ c.args.self.now file _ _ c.in-Aside.is (c.put.ensures.run honest aside),
    )
