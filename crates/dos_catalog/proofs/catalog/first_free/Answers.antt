use Rattle.std.proofs.Common.{◌≡◌, ◌∙◌, ℕ, Bool, ap, sym, not}
use Rattle.std.specs.Prelude.{option_map}
use Rattle.dos_catalog.specs.Entry.{entry_at, is_in_use}
use Rattle.dos_catalog.specs.Walk.{first_free_of}
use Rattle.dos_catalog.proofs.Sectors.{find_here, find_on, find_end}
use Rattle.dos_catalog.proofs.catalog.first_free.Goals as goal

pub returns-then-not-is_in_use : goal.returns-then-not-is_in_use
unfolding first_free_of
returns-then-not-is_in_use c =
    let is_free : ℕ → Bool = λ slot. not (is_in_use (entry_at c.args.place c.args.unit.now slot)) in
    let used = sym (ap is_in_use c.at.ensures) ∙ sym c.is_in_use.ensures ∙ c.if-not-is_in_use.true in
    ap (option_map (λ slot. (c.args.place, slot))) (sym (find_here is_free c.loop-number.number 7 _ c.loop-number.invariant c.loop-number-test.true (ap not used)))

pub loop-number-preserved : goal.loop-number-preserved
loop-number-preserved c =
    let is_free : ℕ → Bool = λ slot. not (is_in_use (entry_at c.args.place c.args.unit.now slot)) in
    let used = sym (ap is_in_use c.at.ensures) ∙ sym c.is_in_use.ensures ∙ c.if-not-is_in_use.false in
    find_on is_free c.loop-number.number 7 _ c.loop-number.invariant c.loop-number-test.true (ap not used)

pub returns : goal.returns
unfolding first_free_of
returns c =
    let is_free : ℕ → Bool = λ slot. not (is_in_use (entry_at c.args.place c.args.unit.now slot)) in
    ap (option_map (λ slot. (c.args.place, slot))) (sym (find_end is_free c.loop-number.number 7 _ c.loop-number.invariant c.loop-number-test.false))
