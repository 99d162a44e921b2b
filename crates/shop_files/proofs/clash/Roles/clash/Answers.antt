use Rattle.std.proofs.Common.{◌≡◌, Some, None}
use Rattle.shop_files.specs.declared.clash.Clash.TheVariants.{FromAndCertificate}
use Rattle.shop_files.proofs.clash.Roles.clash.Goals as goal

pub returns-then-is_same_file-clause-none : goal.returns-then-is_same_file-clause-none
returns-then-is_same_file-clause-none c = (
  λ never. absurd (let some : Some FromAndCertificate ≡ None = never in cc),
  λ none. absurd (none FromAndCertificate (c.is_same_file.ensures.0 c.if-is_same_file.true)),
)
