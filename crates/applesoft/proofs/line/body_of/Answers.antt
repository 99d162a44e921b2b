use Rattle.applesoft.specs.Scan.{IsScanned}
use Rattle.applesoft.specs.Tokens.{Shows}
use Rattle.std.proofs.Common.{true}
use Rattle.applesoft.proofs.Bodies.{no_fit_at, no_scan_at}
use Rattle.applesoft.proofs.Split.{none_at, some_at}
use Rattle.applesoft.proofs.line.body_of.Goals as goal

pub returns-in_default-2-clause-none : goal.returns-in_default-2-clause-none
returns-in_default-2-clause-none g c =
    no_scan_at c.args.text.now c.in-Some.codes.items c.as_slice.result.now c.as_slice.ensures.value
    (some_at c.in_ok-codes.field-0 c.in-Some.codes c.in-Some.is (λ v. Shows c.args.text.now v.items) c.in_ok-codes.ensures.some)
    (none_at c.in_ok-body.field-0 c.in_default-2.is c.in_ok-body.ensures.none)

pub returns-clause-none : goal.returns-clause-none
returns-clause-none g c =
    no_fit_at c.args.text.now c.in-Some.codes.items c.as_slice.result.now c.in-Some-2.body.items c.as_slice-2.result.now c.fits.result c.as_slice.ensures.value
    (some_at c.in_ok-codes.field-0 c.in-Some.codes c.in-Some.is (λ v. Shows c.args.text.now v.items) c.in_ok-codes.ensures.some)
    (some_at c.in_ok-body.field-0 c.in-Some-2.body c.in-Some-2.is (λ v. IsScanned true c.as_slice.result.now v.items) c.in_ok-body.ensures.some)
    c.as_slice-2.ensures.value c.fits.ensures c.if-fits.false
