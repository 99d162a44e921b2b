use Rattle.std.proofs.Common.{◌++◌, sym, ◌∙◌, subst, append-nil, arith}
use Rattle.std.proofs.lemmas.List.{get_or_default, take_all}
use Rattle.ring_cert.specs.Certificates.{IsSmall, word}
use Rattle.ring_cert.proofs.Written.{line_written, run_written}
use Rattle.ring_cert.proofs.printing.push_line.Goals as goal

pub loop-number-init : goal.loop-number-init
loop-number-init g c = c.in_ok-extend_from_slice.ensures.items ∙ sym (append-nil (c.args.text.now.items ++ c.args.name.now))

pub loop-number-preserved : goal.loop-number-preserved
loop-number-preserved g c =
    run_written word (c.args.text.now.items ++ c.args.name.now) c.args.numbers.now c.loop-number.number-index 0 c.loop-number.text.items c.push_word.new.text.items
    c.loop-number-test.true c.loop-number.invariant c.in_ok-push_word.ensures

pub returns-clause-text : goal.returns-clause-text
returns-clause-text g c =
    line_written c.args.name.now c.args.numbers.now c.args.text.now.items c.loop-number.text.items c.push.new.self.items
    (rw (take_all c.loop-number.number-index c.args.numbers.now (omega arith)) at c.loop-number.invariant) c.in_ok-push.ensures.items

pub returns-clause-small : goal.returns-clause-small
returns-clause-small g c = λ k d within. subst IsSmall (get_or_default c.args.numbers.now k 0 d within) (c.type_inv.numbers k).fits
