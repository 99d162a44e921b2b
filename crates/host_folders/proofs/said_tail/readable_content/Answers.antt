use Rattle.std.proofs.Common.{ℕ, sym, subst, codes}
use Rattle.host_folders.specs.declared.said.Content.TheVariants.{Text, Program}
use Rattle.host_folders.specs.HostEntries.{SaysContent, listed, readable}
use Rattle.host_folders.proofs.said_tail.readable_content.Goals as goal

pub returns-in-4-clause-some : goal.returns-in-4-clause-some
returns-in-4-clause-some c = subst (λ (type : ℕ). SaysContent (codes ".utf8.txt") type Text) (sym c.in-4.is) readable

pub returns-in-252-clause-some : goal.returns-in-252-clause-some
returns-in-252-clause-some c =
    subst (λ (type : ℕ). SaysContent (codes ".utf8.txt") type Program) (sym c.in-252.is) listed
