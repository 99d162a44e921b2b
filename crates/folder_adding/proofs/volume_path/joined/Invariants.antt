use Rattle.std.proofs.Common.{◌≡◌, ◌++◌, flat_map, take}
use Rattle.folder_adding.specs.HostPaths.{before}
use Rattle.folder_adding.proofs.volume_path.joined.Given as goal

-- behind the front the directories so far
abbrev pub invariant-loop-directory : goal.invariant-loop-directory
invariant-loop-directory l =
    l.path.items ≡ l.initial.path.items ++ flat_map (λ name. before name.items) (take l.directory-index l.directories)
