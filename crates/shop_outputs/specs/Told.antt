-- Which jobs tell that their output could not be written.
use Rattle.std.specs.Prelude.{◌⊎◌}
use Rattle.shop_jobs.specs.Job.{
  AddTo,
  AskView,
  ChangeOf,
  InPlace,
  JobView,
  MakeDirectory,
  OfTheVolume,
  Reclaim,
  TargetView,
  ToFile,
  ToFolder,
  ToNewFile,
  ToNothing,
}

-- a new file or a new folder is made
abbrev pub IsMadeNew : TargetView → Type 0
IsMadeNew ToNothing = ⊥
IsMadeNew (ToNewFile path) = Unit {0}
IsMadeNew (ToFile path) = ⊥
IsMadeNew InPlace = ⊥
IsMadeNew (ToFolder path) = Unit {0}

-- files are added, a directory is made, or lost places are marked free
abbrev pub IsTellingAsk : AskView → Type 0
IsTellingAsk (OfTheVolume (AddTo options)) = Unit {0}
IsTellingAsk (OfTheVolume (ChangeOf Reclaim)) = Unit {0}
IsTellingAsk (OfTheVolume (ChangeOf (MakeDirectory path date))) = Unit {0}
IsTellingAsk ask = ⊥

-- A job tells on a line that its output file or its folder could not be written: one that makes a new file or a new
-- folder; and, wherever its image goes, one that adds files, makes a directory or marks lost places free.
abbrev pub TellsOfOutput : JobView → Type 0
TellsOfOutput job = IsMadeNew job.output ⊎ IsTellingAsk job.ask
