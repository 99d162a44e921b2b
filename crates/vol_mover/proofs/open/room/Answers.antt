use Rattle.std.proofs.Common.{◌≡◌, ◌≤◌, ◌<◌, ◌+◌, ◌*◌, sym, ap, subst, arith, length, ℕ, List}
use Rattle.vol_mover.specs.Tasks.{Task}
use Rattle.vol_layout.specs.declared.moves.Move.{Move}
use Rattle.vol_mover.specs.Work.{AreSpare}
use Rattle.vol_mover.specs.Writes.{writes_of}
use Rattle.vol_mover.specs.Opening.{told_in}
use Rattle.vol_mover.proofs.Begins.{few_planned}
use Rattle.vol_mover.proofs.Beginning.{spare, few_lost}
use Rattle.vol_mover.proofs.FewTasks.{few_writes}
use Rattle.vol_mover.proofs.open.room.Goals as goal

below : (tasks writes lost lost' moves moves' : ℕ) → tasks ≡ writes → writes ≤ lost + 4 * moves → lost ≡ lost' → moves ≡ moves' → lost' ≤ 65536 → moves' ≤ 131072 → tasks < 4294967296
below tasks writes lost lost' moves moves' a b c d e f = omega (arith, a, b, c, d, e, f)

pub new-requires-clause-spare : goal.new-requires-clause-spare
new-requires-clause-spare g c =
    let opening = c.args.opening.now in
    let format = c.args.format.now in
    let directory = g.F.Format.directory format opening.volume in
    subst (λ (at : List ℕ). AreSpare directory at c.as_slice.result.now) (sym c.at.ensures.value)
    (subst (λ (lost : List ℕ). AreSpare directory opening.layout.at lost) (sym c.as_slice.ensures.value)
    (spare (g.F.Format.meaning format) directory (g.met.F.Format.rooted format opening.volume) (told_in directory opening) c.requires.told c.at.ensures.layout))

pub new-requires-clause-few : goal.new-requires-clause-few
new-requires-clause-few g c =
    let opening = c.args.opening.now in
    let format = c.args.format.now in
    let directory = g.F.Format.directory format opening.volume in
    let count : length c.as_slice-2.result.now ≡ length opening.plan.moves.items = ap (λ (moves : List Move). length moves) c.as_slice-2.ensures.value in
    omega (
      arith,
      count,
      few_planned (g.F.Format.meaning format) directory (g.met.F.Format.rooted format opening.volume) (told_in directory opening) c.requires.told opening.plan
          c.requires.plan c.at.ensures.few,
    )

pub returns-clause-few : goal.returns-clause-few
returns-clause-few g c =
    let opening = c.args.opening.now in
    let format = c.args.format.now in
    let directory = g.F.Format.directory format opening.volume in
    let of = g.met.F.Format.rooted format opening.volume in
    let told = told_in directory opening in
    let moves : length c.as_slice-2.result.now ≡ length opening.plan.moves.items = ap (λ (moves : List Move). length moves) c.as_slice-2.ensures.value in
    let lost : length c.as_slice.result.now ≡ length opening.lost.items = ap (λ (places : List ℕ). length places) c.as_slice.ensures.value in
    let order : length c.in_ok-agenda.agenda ≡ length (writes_of directory c.at.result.now c.as_slice.result.now c.as_slice-2.result.now) =
    ap (λ (tasks : List Task). length tasks) c.in_ok-agenda.ensures.order in
    let few_made : length opening.plan.moves.items ≤ 131072 =
    few_planned (g.F.Format.meaning format) directory of told c.requires.told opening.plan c.requires.plan c.at.ensures.few in
    let few_places : length opening.lost.items ≤ 65536 = few_lost (g.F.Format.meaning format) directory of told c.requires.told c.at.ensures.layout in
    below (length c.in_ok-agenda.agenda) _ _ _ _ _ order (few_writes directory c.at.result.now c.as_slice.result.now c.as_slice-2.result.now) lost moves few_places few_made
