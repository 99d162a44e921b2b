use Rattle.std.proofs.Common.{sym, subst}
use Rattle.std.specs.Prelude.{IfOk, string_bytes}
use Rattle.folder_adding.specs.HostPaths.{Text}
use Rattle.folder_adding.specs.Verdicts.{IsFileVerdict, IsFolderVerdict, IsVerdictOf}
use Rattle.folder_adding.specs.Weighing.{folder_at, verdict_view}
use Rattle.folder_adding.specs.declared.host_entry.HostKind.{HostKind}
use Rattle.folder_adding.proofs.weighing.weigh.Goals as goal

pub returns-in-File : goal.returns-in-File
returns-in-File c = λ entries are.
    subst (λ (kind : HostKind). IfOk c.weigh_file.result (λ weighed. IsVerdictOf (folder_at c.args.destination.now entries)
    (string_bytes c.args.entry.now.path) kind (verdict_view weighed))) (sym c.in-File.is)
    (subst (λ (path : Text). IfOk c.weigh_file.result (λ weighed. IsFileVerdict (folder_at c.args.destination.now entries) path (verdict_view weighed)))
    c.as_str-path.ensures.value (c.weigh_file.ensures entries are))

pub returns-in-Folder : goal.returns-in-Folder
returns-in-Folder c = λ entries are.
    subst (λ (kind : HostKind). IfOk c.weigh_folder.result (λ weighed. IsVerdictOf (folder_at c.args.destination.now entries)
    (string_bytes c.args.entry.now.path) kind (verdict_view weighed))) (sym c.in-Folder.is)
    (subst (λ (path : Text). IfOk c.weigh_folder.result (λ weighed. IsFolderVerdict (folder_at c.args.destination.now entries) path (verdict_view weighed)))
    c.as_str-path.ensures.value (c.weigh_folder.ensures entries))
