use Rattle.std.proofs.Common.{rules, ◌≡◌, ◌<◌, length, get_or, replicate, None, arith, sym, ◌∙◌}
use Rattle.std.proofs.lemmas.List.{get_or_read, take_all}
use Rattle.vol_layout.proofs.TableLemmas.{IsTableOf-none, IsTableOf-more, repeat_in_table, length_in_table, distinct_from_table}
use Rattle.vol_layout.proofs.table.table_of.Goals as goal

pub loop-part-init : goal.loop-part-init
loop-part-init g c =
    let empty : c.in_ok-table.table.items ≡ replicate c.args.places None = search rules in
    IsTableOf-none c.args.places c.in_ok-table.table.items empty

pub returns-then-is_some-clause-repeat : goal.returns-then-is_some-clause-repeat
returns-then-is_some-clause-repeat g c =
    let i = c.loop-part.part in
    let table = c.loop-part.table.items in
    let within : i < length c.args.at.now = c.loop-part-test.true in
    let room : get_or c.args.at.now i 0 < length table = rw c.loop-part.invariant.size (c.requires i 0 within) in
    let read = get_or_read table (get_or c.args.at.now i 0) c.index.result.now room c.index.ensures None in
    repeat_in_table c.args.at.now c.args.places table i c.loop-part.invariant c.index.result.now within read
    (sym c.is_some.ensures ∙ c.if-is_some.true)

pub overflow_cast-part : goal.overflow_cast-part
overflow_cast-part g c =
    omega (arith, length_in_table c.args.at.now c.args.places c.loop-part.table.items c.loop-part.part c.loop-part.invariant c.loop-part-test.true c.requires, c.ranges.places.fits)

pub loop-part-preserved : goal.loop-part-preserved
loop-part-preserved g c =
    let i = c.loop-part.part in
    let table = c.loop-part.table.items in
    let within : i < length c.args.at.now = c.loop-part-test.true in
    let below = c.requires i 0 within in
    let room : get_or c.args.at.now i 0 < length table = rw c.loop-part.invariant.size below in
    let read = get_or_read table (get_or c.args.at.now i 0) c.index.result.now room c.index.ensures None in
    let none : c.index.result.now ≡ None = search rules in
    IsTableOf-more c.args.at.now c.args.places table i c.loop-part.invariant within below (sym read ∙ none)

pub returns-clause-distinct : goal.returns-clause-distinct
returns-clause-distinct g c =
    let made = rw (take_all c.loop-part.part c.args.at.now (omega arith)) at c.loop-part.invariant in
    distinct_from_table c.args.at.now c.loop-part.table.items made.has

pub returns-clause-table : goal.returns-clause-table
returns-clause-table g c =
    rw (take_all c.loop-part.part c.args.at.now (omega arith)) at c.loop-part.invariant
