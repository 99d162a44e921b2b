use Rattle.std.proofs.Common.{◌≡◌, ◌∙◌, sym}
use Rattle.a2_device.proofs.Results.{at_ok}
use Rattle.dos_catalog.proofs.catalog.Catalog.read.Goals as goal

pub returns-clause-unit : goal.returns-clause-unit
returns-clause-unit g c = λ honest. at_ok c.read.result (sym c.is_err.ensures.value ∙ c.if-is_err.false) (c.read.ensures.read honest)
