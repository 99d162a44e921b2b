-- What is read beside the image of a job.
use Rattle.std.specs.Prelude.{◌≡◌, ◌+◌, ℕ, List, [], IfSome, take}
use Rattle.shop_host.specs.Reading.{IsFrontOf}
use Rattle.shop_host.specs.Runs.{IsLooking, IsReadingInput}
use Rattle.shop_host.specs.State.{HostState}
use Rattle.shop_jobs.specs.Input.{BesideView, FileBeside, FolderBeside, ImageBeside, NothingBeside}
use Rattle.shop_jobs.specs.Input.{FromFile, Nowhere, SourceView, StandardInput}
use Rattle.shop_replies.specs.Reading.{most_beside}

-- These are the bytes of an image, up to one past so many, and none where there is no image.
abbrev pub IsImageFront : SourceView → ℕ → List ℕ → HostState → HostState → Type 0
IsImageFront Nowhere most read old new = read ≡ []
IsImageFront StandardInput most read old new = IfSome old.input (λ bytes. read ≡ take (most + 1) bytes)
IsImageFront (FromFile path) most read old new = IsFrontOf path most read old new

-- These are the bytes of the file beside the image, or of the other image, up to one past the most that are taken of
-- them; none where nothing is read beside it, and of a folder, whose files are read one at a time.
abbrev pub IsExtraOf : BesideView → List ℕ → HostState → HostState → Type 0
IsExtraOf NothingBeside read old new = read ≡ []
IsExtraOf (FileBeside path) read old new = IsFrontOf path (most_beside (FileBeside path)) read old new
IsExtraOf (ImageBeside source order) read old new =
    IsImageFront source (most_beside (ImageBeside source order)) read old new
IsExtraOf (FolderBeside path) read old new = read ≡ []

-- what reading an image changes of a host
abbrev pub IsReadingImage : SourceView → HostState → HostState → Type 0
IsReadingImage Nowhere old new = IsLooking old new
IsReadingImage StandardInput old new = IsReadingInput old new
IsReadingImage (FromFile path) old new = IsLooking old new

-- what reading beside the image changes of it
abbrev pub IsReadingBeside : BesideView → HostState → HostState → Type 0
IsReadingBeside NothingBeside old new = IsLooking old new
IsReadingBeside (FileBeside path) old new = IsLooking old new
IsReadingBeside (ImageBeside source order) old new = IsReadingImage source old new
IsReadingBeside (FolderBeside path) old new = IsLooking old new
