use Rattle.std.proofs.Common.{◌∙◌, ◌++◌, ◌≤◌, List, ℕ, Vec, Global, ap, length, map, arith}
use Rattle.std.specs.Prelude.{flat_map}
use Rattle.std.specs.Option.{option_copied, option_to_list}
use Rattle.folder_adding.specs.HostPaths.{Text, before}
use Rattle.folder_adding.proofs.VolumePaths.{pro_joined}
use Rattle.folder_adding.proofs.volume_path.joined.Goals as goal

pub returns : goal.returns
returns c =
    c.in_ok-extend_from_slice.ensures.items
    ∙ pro_joined c.args.directories.now c.args.name.now (option_copied c.args.into) c.in_ok-path.path.items c.loop-directory.path.items c.loop-directory.directory-index
    c.in_ok-path.ensures c.loop-directory.invariant (omega arith)
