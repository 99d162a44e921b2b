use Rattle.std.proofs.lemmas.Result.{on_ok_weaker}
use Rattle.ring_cert.proofs.Written.{size_written}
use Rattle.ring_cert.proofs.printing.push_size.Goals as goal

pub returns : goal.returns
returns g c =
    on_ok_weaker c.push_line.result
    (size_written c.args.parts c.args.places c.args.text.now.items c.extend_from_slice.new.self.items c.push_word.new.text.items
    c.push_line.new.text.items c.in_ok-extend_from_slice.ensures.items c.in_ok-push_word.ensures)
    c.push_line.ensures.text
