use Rattle.folder_adding.proofs.VolumePaths.{names_had, no_directory_had, no_name_had}
use Rattle.folder_adding.proofs.volume_path.pro_path.Goals as goal
use Rattle.folder_adding.proofs.volume_path.pro_path.Goals.{then-not-are_names-via-then-not-are_names, then-not-are_names-via-else-not-are_names+then-not-is_pro_name}

pub returns-then-not-are_names : goal.returns-then-not-are_names
returns-then-not-are_names c =
    let directories = c.args.directories.now in
    let name = c.args.name.now in
    elim c.then-not-are_names.branch [
      | then-not-are_names-via-then-not-are_names w ↦
          no_directory_had directories name w.if-not-are_names.ensures
      | then-not-are_names-via-else-not-are_names+then-not-is_pro_name w ↦
          no_name_had directories name w.if-not-is_pro_name.ensures
    ]

pub returns : goal.returns
returns c = (
  names_had c.args.directories.now c.args.name.now c.if-not-are_names.ensures
      c.if-not-is_pro_name.ensures,
  c.in_ok-joined.ensures,
)
