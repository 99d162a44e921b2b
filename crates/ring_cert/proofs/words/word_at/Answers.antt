use Rattle.std.proofs.Common.{take, drop, sym, ◌∙◌}
use Rattle.std.proofs.lemmas.List.{take-append-drop}
use Rattle.ring_cert.proofs.Spelling.{word_no_space, word_no_number, word_found}
use Rattle.ring_cert.proofs.words.word_at.Goals as goal

pub returns-in_err-spaced-clause-none : goal.returns-in_err-spaced-clause-none
returns-in_err-spaced-clause-none c = rw c.from_residual.ensures (word_no_space c.args.bytes.now c.in_err-spaced.ensures)

pub returns-in_err-number-clause-none : goal.returns-in_err-number-clause-none
returns-in_err-number-clause-none c =
    let spaced = c.in_ok-spaced.spaced.now in
    let len = c.digits_at.result in
    rw c.from_residual-in_err-number.ensures
    (word_no_number c.args.bytes.now spaced (take len spaced) (drop len spaced) c.in_ok-spaced.ensures (sym (take-append-drop len spaced))
    c.digits_at.ensures.digits c.digits_at.ensures.end
    (λ n small e. c.in_err-number.ensures.none n small (c.split_at.ensures.front ∙ e)))

pub returns-clause-found : goal.returns-clause-found
returns-clause-found c =
    let spaced = c.in_ok-spaced.spaced.now in
    let len = c.digits_at.result in
    rw c.split_at.ensures.back
    (word_found c.args.bytes.now spaced (take len spaced) (drop len spaced) c.in_ok-number.number c.in_ok-spaced.ensures
    (sym (take-append-drop len spaced)) (sym c.split_at.ensures.front ∙ c.in_ok-number.ensures.found))
