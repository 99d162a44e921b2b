use Rattle.std.proofs.Common.{◌∙◌, arith, ap, sym, inl, inr}
use Rattle.volume_compare.specs.Pairs.{is_path, paths_of}
use Rattle.volume_compare.specs.Candidates.{key_at}
use Rattle.volume_compare.proofs.Free.{free_found, none_more, path_of_entry}
use Rattle.volume_compare.proofs.candidates.first_free.Goals as goal
use Rattle.volume_compare.proofs.candidates.first_free.Goals.{else-not-taken-key-via-then-not-taken-key+in_ok-has_path+else-branch, else-not-taken-key-via-else-not-taken-key}

pub returns-then-branch : goal.returns-then-branch
returns-then-branch g c =
    let files = g.F.FileFormat.files c.args.format.now in
    let directory = g.F.Format.directory c.args.format.now c.args.volume.now in
    let file = (key_at c.args.keys.now c.loop-place.place).file in
    let here = path_of_entry files directory file (c.requires.files c.loop-place.place (omega arith)) in
    free_found (paths_of files directory) c.args.taken.now c.args.path.now c.args.keys.now c.loop-place.place c.loop-place.invariant (omega arith)
    c.if-not-taken-key.true (ap (is_path c.args.path.now) here ∙ sym c.in_ok-has_path.ensures ∙ c.if-branch.true)

pub loop-place-preserved : goal.loop-place-preserved
loop-place-preserved g c =
    let files = g.F.FileFormat.files c.args.format.now in
    let directory = g.F.Format.directory c.args.format.now c.args.volume.now in
    let file = (key_at c.args.keys.now c.loop-place.place).file in
    let here = path_of_entry files directory file (c.requires.files c.loop-place.place (omega arith)) in
    none_more (paths_of files directory) c.args.taken.now c.args.path.now c.args.keys.now c.loop-place.place c.loop-place.invariant
    (elim c.else-not-taken-key.branch [
      | else-not-taken-key-via-then-not-taken-key+in_ok-has_path+else-branch w ↦ inr (ap (is_path c.args.path.now) here ∙ sym w.in_ok-has_path.ensures ∙ w.if-branch.false)
      | else-not-taken-key-via-else-not-taken-key w ↦ inl (w.if-not-taken-key.false)
    ])
