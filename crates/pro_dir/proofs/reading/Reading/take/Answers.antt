use Rattle.std.proofs.Common.{◌∙◌, ap}
use Rattle.std.specs.Option.{option_or}
use Rattle.pro_dir.proofs.Within.{read_within}
use Rattle.pro_dir.proofs.reading.Reading.take.Goals as goal

pub returns-clause-within : goal.returns-clause-within
returns-clause-within c = λ places below before.
    read_within places c.args.self.now.key c.args.place c.args.unit.now c.args.self.now.free c.or-self.result below
    (c.or-self.ensures ∙ ap (option_or c.args.self.now.free) c.first_free.ensures) before
