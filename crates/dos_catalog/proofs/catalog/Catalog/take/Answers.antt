use Rattle.std.proofs.Common.{◌∙◌, ap}
use Rattle.std.specs.Option.{option_or}
use Rattle.dos_catalog.proofs.catalog.Catalog.take.Goals as goal

pub returns-clause-free : goal.returns-clause-free
returns-clause-free g c = c.or-self.ensures ∙ ap (option_or c.args.self.now.free) c.first_free.ensures
