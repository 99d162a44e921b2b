use Rattle.std.proofs.Common.{arith, ◌<◌, ◌++◌, ◌∙◌, ap, subst, length, List, ℕ, Option, string_bytes}
use Rattle.std.specs.Prelude.{codes}
use Rattle.volume_extract.specs.Items.{host_below}
use Rattle.volume_extract.specs.Kept.{StandsBefore, kept_at}
use Rattle.volume_extract.proofs.Chain.{in_items, longer, still_before}
use Rattle.volume_extract.proofs.hosts.host_below.Goals as goal

pub loop-next-preserved : goal.loop-next-preserved
loop-next-preserved g c =
    let opened = c.args.opened.now in
    let own = g.F.TreeFormat.own opened.format.now in
    let directory = g.F.Format.directory opened.format.now opened.volume in
    let kept = c.args.kept.now in
    let number = c.in-Some.directory in
    let before = c.loop-next.invariant in
    let inside : number < length kept = subst (StandsBefore (length kept)) c.in-Some.is before.before in
    let name = string_bytes c.in_ok-longer.longer in
    let path = string_bytes c.loop-next.path in
    record {
      before =
          let some = c.requires.kept in
          let low = in_items opened.form own directory opened.naming some.0 kept some.1 number inside in
          still_before opened.form own directory opened.naming some.0 kept some.1 number inside (kept_at kept number).head.above (some.1.each number low).before;
      path = λ items are.
          before.path items are
          ∙ ap (λ (next : Option ℕ). host_below items next path) c.in-Some.is
          ∙ longer opened.form own directory opened.naming items kept are number inside name path (string_bytes c.push_str.new.self) c.in_ok-longer.ensures
          (c.in_ok-push_str.ensures.bytes
          ∙ ap (λ (front : List ℕ). front ++ c.as_str.result.now) (c.in_ok-push.ensures.bytes ∙ ap (λ (slash : List ℕ). name ++ slash) (c.in_ok-push.ensures.ascii (omega arith)))
          ∙ ap (λ (back : List ℕ). name ++ codes "/" ++ back) c.as_str.ensures.value);
    }
