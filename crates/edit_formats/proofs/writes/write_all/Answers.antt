use Rattle.std.proofs.Common.{◌≡◌, ◌∙◌, ap, sym, map, length, arith, refl}
use Rattle.std.proofs.lemmas.List.{length-map, get_or-map}
use Rattle.std.proofs.lemmas.Result.{err_from_is_err_and}
use Rattle.std.specs.Prelude.{◌<◌, ℕ, List, slice_index_or}
use Rattle.vol_laws.specs.Writes.{Write}
use Rattle.edit_formats.specs.Prepared.{write_of}
use Rattle.edit_formats.specs.Writes.{no_write}
use Rattle.edit_formats.proofs.Making.{one_more, one_refused}
use Rattle.edit_formats.proofs.writes.write_all.Goals as goal

pub loop-write-preserved : goal.loop-write-preserved
loop-write-preserved g c =
    let writes = c.args.writes.now in
    let all = map write_of writes in
    let n = c.loop-write.write-index in
    let mid = g.D.Device.state c.loop-write.device in
    let new = g.D.Device.state c.write_unit.new.device in
    let below : n < length all = omega (arith, c.loop-write-test.true, length-map writes write_of) in
    let write : Write = record { place = c.write-item.result.place; unit = c.as_slice.result.now } in
    let item : slice_index_or all n no_write ≡ write =
    get_or-map write_of writes n c.write-item.result no_write c.loop-write-test.true ∙ sym (ap write_of c.write-item.is)
    ∙ ap (λ (u : List ℕ). record { place = c.write-item.result.place; unit = u }) (sym c.as_slice.ensures.value) in
    one_more all n (g.D.Device.state c.args.device.now) mid new c.loop-write.invariant below c.in_ok-write_unit.ensures.device write item
    c.in_ok-write_unit.ensures.faults c.in_ok-write_unit.ensures.written

pub returns-in_err-write_unit-clause-edited : goal.returns-in_err-write_unit-clause-edited
returns-in_err-write_unit-clause-edited g c =
    let writes = c.args.writes.now in
    let all = map write_of writes in
    let n = c.loop-write.write-index in
    let mid = g.D.Device.state c.loop-write.device in
    let new = g.D.Device.state c.write_unit.new.device in
    let below : n < length all = omega (arith, c.loop-write-test.true, length-map writes write_of) in
    let write : Write = record { place = c.write-item.result.place; unit = c.as_slice.result.now } in
    let item : slice_index_or all n no_write ≡ write =
    get_or-map write_of writes n c.write-item.result no_write c.loop-write-test.true ∙ sym (ap write_of c.write-item.is)
    ∙ ap (λ (u : List ℕ). record { place = c.write-item.result.place; unit = u }) (sym c.as_slice.ensures.value) in
    let given = err_from_is_err_and c.from_residual.result c.from_residual.ensures.1 in
    one_refused all n (g.D.Device.state c.args.device.now) mid new c.loop-write.invariant below c.in_err-write_unit.ensures.device c.from_residual.result
    write item (cc (given.2, c.in_err-write_unit.ensures.error refl)) c.in_err-write_unit.ensures.faults (λ honest. c.in_err-write_unit.ensures.refused honest refl)
