use Rattle.std.proofs.Common.{◌≡◌, true}
use Rattle.host_folders.proofs.Parts.{front_before, no_number, whole_before}
use Rattle.host_folders.proofs.said_stem.before_number.Goals as goal

pub returns-in-Some-clause-some : goal.returns-in-Some-clause-some
returns-in-Some-clause-some c =
    front_before c.args.text.now c.in-Some.front c.in-Some.digits c.in-Some.ensures.cases
    (c.is_number.ensures.0 c.if-is_number.true)

pub returns-in-Some-2-clause-none : goal.returns-in-Some-2-clause-none
returns-in-Some-2-clause-none c =
    no_number c.args.text.now c.in-Some.front c.in-Some.digits c.in-Some.ensures.cases
    (λ number. let is : c.is_number.result ≡ true = c.is_number.ensures.1 number in absurd (cc))

pub returns-in-None-clause-some : goal.returns-in-None-clause-some
returns-in-None-clause-some c = whole_before c.args.text.now c.in-None.ensures.cases
