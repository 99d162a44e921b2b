use Rattle.std.proofs.Common.{◌*◌, ◌∙◌, arith, sym}
use Rattle.edit_formats.specs.lemmas.Membership.{any_of}
use Rattle.edit_formats.proofs.Ranges.{none_here, none_of, none_yet}
use Rattle.edit_formats.proofs.pro_file_parts.has_units.Goals as goal

pub loop-number-init : goal.loop-number-init
loop-number-init c = none_yet c.args.stored.now (256 * c.args.index)

pub returns-then-is_stored : goal.returns-then-is_stored
returns-then-is_stored c =
    sym (any_of c.args.stored.now c.loop-number.number (256 * c.args.index) 256 (sym c.is_stored.ensures ∙ c.if-is_stored.true) c.loop-number.auto.number (omega (arith, c.loop-number-test.true)))

pub loop-number-preserved : goal.loop-number-preserved
loop-number-preserved c =
    none_here c.args.stored.now (256 * c.args.index) c.loop-number.number c.loop-number.auto.number c.loop-number.invariant (sym c.is_stored.ensures ∙ c.if-is_stored.false)

pub returns : goal.returns
returns c = sym (none_of c.args.stored.now (256 * c.args.index) c.loop-number.number 256 c.loop-number-test.false (omega (arith, c.loop-number.auto.number-end)) c.loop-number.invariant)
