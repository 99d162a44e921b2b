use Rattle.shop_replies.proofs.Appended.{appends_both, front_before, front_behind}
use Rattle.shop_replies.proofs.writing.write_both.Goals as goal

pub returns-then-write_whole-clause-whole : goal.returns-then-write_whole-clause-whole
returns-then-write_whole-clause-whole g c = λ all.
    appends_both (g.W.Write.contents c.args.writer.now) (g.W.Write.contents c.write_whole.new.writer) (g.W.Write.contents c.write_whole-then-write_whole.new.writer)
    c.args.first.now c.args.other.now (c.write_whole.ensures.whole c.if-write_whole.true) (c.write_whole-then-write_whole.ensures.whole all)

pub returns-then-write_whole-clause-front : goal.returns-then-write_whole-clause-front
returns-then-write_whole-clause-front g c =
    front_behind (g.W.Write.contents c.args.writer.now) (g.W.Write.contents c.write_whole.new.writer) (g.W.Write.contents c.write_whole-then-write_whole.new.writer)
    c.args.first.now c.args.other.now (c.write_whole.ensures.whole c.if-write_whole.true) c.write_whole-then-write_whole.ensures.front

pub returns-else-write_whole-clause-front : goal.returns-else-write_whole-clause-front
returns-else-write_whole-clause-front g c =
    front_before (g.W.Write.contents c.args.writer.now) (g.W.Write.contents c.write_whole.new.writer) c.args.first.now c.args.other.now c.write_whole.ensures.front
