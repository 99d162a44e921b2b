use Rattle.std.proofs.Common.{◌≢◌, ℕ, ◌+◌, ◌<◌, length, Option, sym, ◌∙◌, subst, arith}
use Rattle.std.proofs.lemmas.Option.{slice_get_within}
use Rattle.a2_nibble.specs.declared.search.Field.{Field}
use Rattle.a2_nibble.specs.Search.{FindsBelow}
use Rattle.a2_nibble.proofs.AnswerLemmas.{slots-set, FindsBelow-other}
use Rattle.a2_nibble.proofs.fields.keep_first.Goals as goal

pub returns-then-slot-lt-SECTORS : goal.returns-then-slot-lt-SECTORS
returns-then-slot-lt-SECTORS c =
    let P : ℕ → Option Field → Type 0 = λ s answer. FindsBelow c.args.nibbles.now c.args.track s (c.args.place + 1) answer in
    let room : c.from-slot.result < length c.args.fields.now = omega (arith, c.told-fields) in
    slots-set P c.args.fields.now c.from-slot.result c.first_of.result room
    (subst (λ s. P s c.first_of.result) (sym c.from-slot.ensures) c.first_of.ensures)
    (λ s answer other is.
    let inside : s < length c.args.fields.now = slice_get_within c.args.fields.now s answer is in
    FindsBelow-other c.args.nibbles.now c.args.track s c.args.place c.number_at-sector.result (omega (arith, c.told-fields))
    c.number_at-sector.ensures (λ e. other (e ∙ sym c.from-slot.ensures)) answer (c.requires.below s answer is))

pub returns-else-slot-lt-SECTORS : goal.returns-else-slot-lt-SECTORS
returns-else-slot-lt-SECTORS c = λ s answer is.
    let inside : s < length c.args.fields.now = slice_get_within c.args.fields.now s answer is in
    let other : s ≢ c.number_at-sector.result = omega (arith, c.told-fields) in
    FindsBelow-other c.args.nibbles.now c.args.track s c.args.place c.number_at-sector.result (omega (arith, c.told-fields))
    c.number_at-sector.ensures other answer (c.requires.below s answer is)
