use Rattle.std.proofs.Common.{◌≡◌, ℕ, ◌<◌, ◌+◌, ◌∙◌, arith, ap, sym, subst, List, length, Some, None, [], ◌∷◌, ◌++◌}
use Rattle.std.proofs.lemmas.List.{length-map}
use Rattle.vol_format.specs.Directory.{entries}
use Rattle.volume_compare.specs.Candidates.{AreKeysUpTo, hash_of, key_of}
use Rattle.volume_compare.specs.Pairs.{file_path, path_at, paths_of}
use Rattle.volume_compare.proofs.Free.{path_of_entry}
use Rattle.volume_compare.proofs.RisingKeys.{keys_less, keys_more}
use Rattle.volume_compare.proofs.keys.keys_in_order.Goals as goal
use Rattle.volume_compare.proofs.keys.keys_in_order.Goals.{in-Some+in_ok-push, in_default}

pub loop-file-preserved : goal.loop-file-preserved
loop-file-preserved g c =
    let files = g.F.FileFormat.files c.args.format.now in
    let directory = g.F.Format.directory c.args.format.now c.args.volume.now in
    let file = c.loop-file.file in
    let low : file < entries directory = omega (arith, c.loop-file-test.true, c.entries-file-end.ensures) in
    let here = path_of_entry files directory file low in
    let before = c.loop-file.invariant in
    let keys = c.loop-file.keys.items in
    let paths = paths_of files directory in
    elim c.match-branch-3.branch [
      | in-Some+in_ok-push w ↦
          let path : List ℕ = w.in-Some.path in
          let is : path_at paths file ≡ Some path = here ∙ sym c.in_ok-path.ensures ∙ w.in-Some.is in
          let hash : w.hash_of-hash.result ≡ hash_of path = w.hash_of-hash.ensures ∙ ap hash_of w.as_bytes.ensures in
          let pushed : c.match-branch-3.keys.items ≡ keys ++ key_of path file ∷ [] =
          ap (λ k. k.items) w.keys-is ∙ w.in_ok-push.ensures.items ∙ ap (λ (hash : ℕ). keys ++ record { hash = hash; file = file } ∷ []) hash in
          subst (AreKeysUpTo paths (file + 1)) (sym pushed) (keys_more paths file keys before path is)
      | in_default w ↦
          let is : path_at paths file ≡ None = here ∙ sym c.in_ok-path.ensures ∙ w.in_default.is in
          subst (AreKeysUpTo paths (file + 1)) (sym (ap (λ k. k.items) w.keys-is)) (keys_less paths file keys before is)
    ]

pub returns : goal.returns
returns g c =
    let files = g.F.FileFormat.files c.args.format.now in
    let directory = g.F.Format.directory c.args.format.now c.args.volume.now in
    let all : c.loop-file.file ≡ length (paths_of files directory) =
    omega (arith, c.loop-file-test.false, c.entries-file-end.ensures, c.loop-file.auto.file-end, length-map directory.listed (file_path files)) in
    subst (λ (many : ℕ). AreKeysUpTo (paths_of files directory) many c.loop-file.keys.items) all c.loop-file.invariant
