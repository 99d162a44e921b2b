use Rattle.std.proofs.Common.{◌≡◌, ◌<◌, ◌+◌, ◌∙◌, ℕ, List, Some, None, [], ◌∷◌, ◌++◌, arith, ap, sym, subst, length, inl, inr}
use Rattle.std.proofs.lemmas.Bool.{cases_lt}
use Rattle.std.proofs.lemmas.List.{length-map}
use Rattle.vol_format.specs.Directory.{entries}
use Rattle.volume_compare.specs.Pairs.{file_path, path_at, paths_of}
use Rattle.volume_compare.proofs.Free.{path_of_entry}
use Rattle.image_survey.specs.Naming.{AreNamed}
use Rattle.image_survey.specs.Ordered.{path_size}
use Rattle.image_survey.proofs.Naming.{bytes_more, bytes_within, named_less, named_more}
use Rattle.image_survey.proofs.ordered.named_files.Goals as goal
use Rattle.image_survey.proofs.ordered.named_files.Goals.{in-Some+in-Some-checked_sub+in_ok-push, in_default}

pub returns-in_default-checked_sub-clause-many : goal.returns-in_default-checked_sub-clause-many
returns-in_default-checked_sub-clause-many g c =
    let files = g.F.FileFormat.files c.args.format.now in
    let directory = g.F.Format.directory c.args.format.now c.args.volume.now in
    let paths = paths_of files directory in
    let file = c.loop-file.file in
    let low : file < entries directory = omega (arith, c.loop-file-test.true, c.entries-file-end.ensures) in
    let within : file < length paths = omega (arith, low, length-map directory.listed (file_path files)) in
    let is : path_at paths file ≡ Some c.in-Some.path = path_of_entry files directory file low ∙ sym c.in_ok-path.ensures ∙ c.in-Some.is in
    let size : path_size (path_at paths file) ≡ length c.as_bytes.result.now = ap path_size is ∙ ap length (sym c.as_bytes.ensures) in
    let many : c.loop-file.left < length c.as_bytes.result.now = elim (cases_lt c.loop-file.left (length c.as_bytes.result.now)) [
      | inl less ↦ less
      | inr high ↦ absurd (c.in_default-checked_sub.ensures high)
    ] in
    omega (arith, many, size, c.loop-file.invariant.left, bytes_more paths file within, bytes_within paths (file + 1))

pub loop-file-preserved : goal.loop-file-preserved
loop-file-preserved g c =
    let files = g.F.FileFormat.files c.args.format.now in
    let directory = g.F.Format.directory c.args.format.now c.args.volume.now in
    let paths = paths_of files directory in
    let file = c.loop-file.file in
    let low : file < entries directory = omega (arith, c.loop-file-test.true, c.entries-file-end.ensures) in
    let within : file < length paths = omega (arith, low, length-map directory.listed (file_path files)) in
    let named = c.loop-file.named.items in
    let before = c.loop-file.invariant in
    let here = path_of_entry files directory file low ∙ sym c.in_ok-path.ensures in
    let bytes = bytes_more paths file within in
    elim c.match-branch-2.branch [
      | in-Some+in-Some-checked_sub+in_ok-push w ↦
          let path : List ℕ = w.in-Some.path in
          let is : path_at paths file ≡ Some path = here ∙ w.in-Some.is in
          let pushed : c.match-branch-2.named.items ≡ named ++ record { path = path; file = file } ∷ [] =
          ap (λ v. v.items) w.named-is ∙ w.in_ok-push.ensures.items in
          let size : path_size (path_at paths file) ≡ length path = ap path_size is in
          record {
            named = subst (AreNamed paths (file + 1)) (sym pushed) (named_more paths file within named before.named path is);
            left = omega (arith, w.left-is, w.in-Some-checked_sub.ensures.0, w.in-Some-checked_sub.ensures.1, before.left, bytes, size, ap length w.as_bytes.ensures);
          }
      | in_default w ↦
          let is : path_at paths file ≡ None = here ∙ w.in_default.is in
          record {
            named = subst (AreNamed paths (file + 1)) (sym (ap (λ v. v.items) w.named-is)) (named_less paths file within named before.named is);
            left = omega (arith, w.left-is, before.left, bytes, ap path_size is);
          }
    ]

pub returns-clause-named : goal.returns-clause-named
returns-clause-named g c =
    let files = g.F.FileFormat.files c.args.format.now in
    let directory = g.F.Format.directory c.args.format.now c.args.volume.now in
    let all : c.loop-file.file ≡ length (paths_of files directory) =
    omega (arith, c.loop-file-test.false, c.entries-file-end.ensures, c.loop-file.auto.file-end, length-map directory.listed (file_path files)) in
    subst (λ (many : ℕ). AreNamed (paths_of files directory) many c.loop-file.named.items) all c.loop-file.invariant.named
