use Rattle.std.proofs.Common.{◌≡◌, length, take, All, arith, subst}
use Rattle.std.proofs.lemmas.List.Elements.{All-more}
use Rattle.applesoft.specs.Program.{IsCode}
use Rattle.applesoft.proofs.Split.{no_code, no_end}
use Rattle.applesoft.proofs.listing.body_len.Goals as goal

pub loop-index-preserved : goal.loop-index-preserved
loop-index-preserved c =
    All-more IsCode c.args.bytes.now c.loop-index.index 0 c.loop-index-test.true c.loop-index.invariant
    (record { some = c.if-byte-eq0.false; token = omega (arith, c.if-byte-gt-LAST_TOKEN.false) })

pub returns-then-byte-gt-LAST_TOKEN-clause-none : goal.returns-then-byte-gt-LAST_TOKEN-clause-none
returns-then-byte-gt-LAST_TOKEN-clause-none c =
    no_code c.args.bytes.now c.loop-index.index c.loop-index.invariant c.loop-index-test.true (omega (arith, c.if-byte-gt-LAST_TOKEN.true))

pub returns-clause-none : goal.returns-clause-none
returns-clause-none c =
    let all : c.loop-index.index ≡ length c.args.bytes.now = omega arith in
    no_end c.args.bytes.now (subst (λ n. All IsCode (take n c.args.bytes.now)) all c.loop-index.invariant)
