use Rattle.std.proofs.lemmas.Result.{on_ok_weaker}
use Rattle.ring_cert.proofs.Written.{word_written}
use Rattle.ring_cert.proofs.printing.push_word.Goals as goal

pub returns : goal.returns
returns g c =
    on_ok_weaker c.push_number.result
    (word_written c.args.number c.args.text.now.items c.push.new.self.items c.push_number.new.text.items c.in_ok-push.ensures.items)
    c.push_number.ensures
