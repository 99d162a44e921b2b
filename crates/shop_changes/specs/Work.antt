-- Work that changes a volume, with the bytes of its files read.
use Rattle.std.specs.Prelude.{ℕ, Bool, List}
use Rattle.file_formats.specs.FileNames.{FileNameView, name_view}
use Rattle.pro_dir.specs.declared.date.ProDate.{ProDate}
use Rattle.shop_changes.specs.SaidFile.{SaidView, said_view}
use Rattle.shop_jobs.specs.Job.{EditView, edit_view}
use Rattle.shop_changes.specs.declared.work.Work.{Work}
use Rattle.shop_changes.specs.declared.work.Work.TheVariants as works

-- Work as contracts see it: of the order of a volume whether lost places are reclaimed, and by how many writes at most;
-- of a file its edit and its name; of a new file its path, and the file as it is said, and so of one that takes the
-- place of another; that lost places are marked free; or of a new directory its path and its date.
pub data WorkView : Type 0 where
  Optimize : Bool → ℕ → WorkView
  EditOf : EditView → FileNameView → WorkView
  Save : List ℕ → SaidView → WorkView
  Replace : List ℕ → SaidView → WorkView
  Reclaim : WorkView
  MakeDirectory : List ℕ → ProDate → WorkView

abbrev pub work_view : Work → WorkView
work_view (works.Optimize reclaim limit) = Optimize reclaim limit
work_view (works.Edit edit name) = EditOf (edit_view edit.now) (name_view name)
work_view (works.Save path said) = Save path.now (said_view said)
work_view (works.Replace path said) = Replace path.now (said_view said)
work_view works.Reclaim = Reclaim
work_view (works.MakeDirectory path date) = MakeDirectory path.now date
