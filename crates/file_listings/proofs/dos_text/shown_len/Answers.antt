use Rattle.std.proofs.Common.{◌∙◌, sym, arith}
use Rattle.file_listings.proofs.Names.{one_space_less, no_space_left}
use Rattle.file_listings.proofs.dos_text.shown_len.Goals as goal

pub loop-len-preserved : goal.loop-len-preserved
loop-len-preserved c =
    let is_space = sym c.shown_byte.ensures.value ∙ c.if-shown_byte-eq32.true in
    record { within = omega arith; text = one_space_less _ _ c.loop-len-test.true c.loop-len.invariant.within is_space ∙ c.loop-len.invariant.text }

pub returns-else-shown_byte-eq32-clause-text : goal.returns-else-shown_byte-eq32-clause-text
returns-else-shown_byte-eq32-clause-text c =
    no_space_left _ _ c.loop-len-test.true c.loop-len.invariant.within (λ e. c.if-shown_byte-eq32.false (c.shown_byte.ensures.value ∙ e)) ∙ c.loop-len.invariant.text
