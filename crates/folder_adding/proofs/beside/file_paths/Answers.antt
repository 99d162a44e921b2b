use Rattle.std.proofs.Common.{◌≡◌, ◌∙◌, ℕ, List, Bool, HashSet, BuildHasherDefault, FoldHasher, ap}
use Rattle.std.specs.HashSet.{contains_by}
use Rattle.std.specs.Str.{bytes_eq}
use Rattle.folder_adding.specs.HostEntries.{is_file}
use Rattle.folder_adding.proofs.FilesBeside.{not_file, one_file_more, same_files}
use Rattle.folder_adding.proofs.beside.file_paths.Goals as goal
use Rattle.folder_adding.proofs.beside.file_paths.Goals.{in-File+in_ok-insert, in_default}
use denote.Ref.{Bor}

-- whether a path is one of some
abbrev among : List ℕ → HashSet (Bor (List ℕ)) (BuildHasherDefault FoldHasher) → Bool
among path paths = contains_by (λ file. bytes_eq path file.now) paths

pub loop-entry-preserved : goal.loop-entry-preserved
loop-entry-preserved c = λ path.
    let inside = c.loop-entry-test.true in
    let entries = c.args.entries.now in
    let number = c.loop-entry.entry-index in
    let entry = c.entry-item.result in
    elim c.match-entry.branch [
      | in-File+in_ok-insert w ↦
          one_file_more entries number entry inside c.entry-item.is path (ap is_file w.in-File.is) w.as_str.result.now w.as_str.ensures.value
          (among path c.loop-entry.paths) (among path c.match-entry.paths) (c.loop-entry.invariant path)
          (ap (among path) w.paths-is ∙ w.in_ok-insert.ensures.updates.0 (record { ref_ptr = (0, 0); now = path }))
      | in_default w ↦
          same_files entries number entry inside c.entry-item.is path (not_file entry.kind w.in_default.not-File) (among path c.match-entry.paths)
          (ap (among path) w.paths-is ∙ c.loop-entry.invariant path)
    ]
