use Rattle.std.proofs.Common.{◌≡◌, ◌∙◌, ◌+◌, ◌*◌, ◌≤◌, ℕ, List, length, ap, arith, rules, sym, subst}
use Rattle.a2_image.specs.Lending.{written}
use Rattle.new_volumes.specs.DosUnits.{empty_sector}
use Rattle.new_volumes.specs.Filling.{Filled}
use Rattle.new_volumes.proofs.Fills.{Filled-more, apart_256}
use Rattle.new_volumes.proofs.Plains.{on_track}
use Rattle.new_volumes.proofs.dos.write_track_17.Goals as goal

pub loop-sector-preserved : goal.loop-sector-preserved
loop-sector-preserved c =
    let low = c.loop-sector-test.true in
    let Is : ℕ → List ℕ → Type 0 = λ place unit. unit ≡ empty_sector c.args.number c.args.data_disk place in
    let long : length c.track_17-unit.result ≡ 256 = search rules in
    let room : 256 * (272 + c.loop-sector.sector) + 256 ≤ length c.args.disk.now = omega (arith, low, c.requires) in
    let next : 272 + c.loop-sector.sector + 1 ≡ 272 + (c.loop-sector.sector + 1) = omega arith in
    subst (λ n. Filled 256 Is 272 n c.args.disk.now c.put_unit.new.image) next
    (subst (Filled 256 Is 272 (272 + c.loop-sector.sector + 1) c.args.disk.now) (sym (c.put_unit.ensures ∙ ap (λ n. written c.loop-sector.disk (256 * (272 + n)) c.track_17-unit.result) c.from.ensures))
    (Filled-more 256 Is 272 (272 + c.loop-sector.sector) c.args.disk.now c.loop-sector.disk c.track_17-unit.result c.loop-sector.invariant (omega arith) apart_256 long room
    (c.track_17-unit.ensures ∙ sym (on_track c.args.number c.args.data_disk c.loop-sector.sector low))))
