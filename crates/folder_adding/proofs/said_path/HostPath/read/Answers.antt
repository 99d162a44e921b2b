use Rattle.std.proofs.Common.{ℕ, List, sym, subst}
use Rattle.std.specs.Prelude.{IfOk, MatchOption}
use Rattle.folder_adding.specs.HostPaths.{SaidPath, SaysPath}
use Rattle.folder_adding.specs.Weighing.{said_view}
use Rattle.shop_jobs.specs.declared.input.FileSystem.{FileSystem}
use Rattle.folder_adding.proofs.said_path.HostPath.read.Goals as goal

pub returns-in-Dos : goal.returns-in-Dos
returns-in-Dos c =
    subst (λ (file_system : FileSystem). IfOk c.path_alone.result (λ found. MatchOption found
    ((said : SaidPath) → ¬ SaysPath file_system c.args.path.now said) (λ said. SaysPath file_system c.args.path.now (said_view said))))
    (sym c.in-Dos.is) c.path_alone.ensures
