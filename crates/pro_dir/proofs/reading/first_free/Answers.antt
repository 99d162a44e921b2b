use Rattle.std.proofs.Common.{◌∙◌, ℕ, Bool, ap, sym}
use Rattle.std.specs.Prelude.{option_map}
use Rattle.pro_dir.specs.Entry.{entry_at, is_inactive}
use Rattle.pro_dir.specs.Walk.{first_free_of}
use Rattle.pro_dir.proofs.Slots.{find_here, find_on, find_end}
use Rattle.pro_dir.proofs.reading.first_free.Goals as goal

pub returns-then-is_inactive : goal.returns-then-is_inactive
unfolding first_free_of
returns-then-is_inactive c =
    let is_free : ℕ → Bool = λ slot. is_inactive (entry_at c.args.directory c.args.place c.args.unit.now slot) in
    let unused = sym (ap is_inactive c.at.ensures) ∙ sym c.is_inactive.ensures ∙ c.if-is_inactive.true in
    ap (option_map (λ slot. (c.args.place, slot))) (sym (find_here is_free c.loop-number.number 13 _ c.loop-number.invariant c.loop-number-test.true unused))

pub loop-number-preserved : goal.loop-number-preserved
loop-number-preserved c =
    let is_free : ℕ → Bool = λ slot. is_inactive (entry_at c.args.directory c.args.place c.args.unit.now slot) in
    let used = sym (ap is_inactive c.at.ensures) ∙ sym c.is_inactive.ensures ∙ c.if-is_inactive.false in
    find_on is_free c.loop-number.number 13 _ c.loop-number.invariant c.loop-number-test.true used

pub returns : goal.returns
unfolding first_free_of
returns c =
    let is_free : ℕ → Bool = λ slot. is_inactive (entry_at c.args.directory c.args.place c.args.unit.now slot) in
    ap (option_map (λ slot. (c.args.place, slot))) (sym (find_end is_free c.loop-number.number 13 _ c.loop-number.invariant c.loop-number-test.false))
