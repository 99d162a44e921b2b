-- Where the files that a job writes go, and what may come to stand there on the way.
use Rattle.std.specs.Prelude.{◌≡◌, ◌≢◌, ◌⊎◌, ⊤, ℕ, List, [], Option, Some, None, IfSome, Result, OnErr, OnOk, option_map, string_bytes}
use Rattle.std.specs.declared.string.String.{String}
use Rattle.std.specs.declared.alloc.Global.{Global}
use Rattle.std.specs.declared.io.Error.{Error}
use Rattle.shop_host.specs.State.{Content, Files, HostState, Path, removing, unflushed, whole}
use Rattle.shop_host.specs.Calls.{IsRefused}
use Rattle.shop_host.specs.Runs.{IsRun, May}
use Rattle.shop_outputs.specs.Folders.{IsBeside}
use Rattle.shop_outputs.specs.declared.target.Target.{Target}
use Rattle.shop_outputs.specs.declared.target.Target.TheVariants.{Place, Straight, StandardOutput, Nowhere}
use Rattle.shop_outputs.specs.declared.aside.AsideFile.{AsideFile}
use Rattle.shop_outputs.specs.declared.aside.Placing.{Placing}
use Rattle.shop_outputs.specs.declared.aside.Placing.TheVariants.{Free}
use Rattle.shop_outputs.specs.declared.output.Output.{Output}
use Rattle.shop_outputs.specs.declared.output.Output.TheVariants.{Nothing, Aside, Held}

-- Where a file goes: nowhere; to a place, of which it may take such a one, over a file aside that has not the path of
-- another file of the job; or straight to what a path leads to.
pub data Destination : Type 0 where
  nowhere : Destination
  to_place : (place : Path) (apart : Option Path) (placing : Placing) → Destination
  straight_to : (path : Path) → Destination

-- where a file goes that takes the place that a target is
abbrev pub over_target : Target → Option Path → Placing → Destination
over_target (Place place) apart placing = to_place (string_bytes place.path) apart placing
over_target Straight apart placing = nowhere
over_target StandardOutput apart placing = nowhere
over_target Nowhere apart placing = nowhere

abbrev pub destination_of : {H File Units Names : Type 0} → AsideFile H File Units Names → Destination
destination_of file = over_target file.target.now (option_map (λ s. s.now) file.apart) file.placing

abbrev pub destination : {H File Units Names : Type 0} → Output H File Units Names → Destination
destination Nothing = nowhere
destination (Aside file) = destination_of file
destination (Held file) = straight_to file.path.now

-- where the file of a path goes that leads to a target
abbrev pub IsDestinationOf : Path → Target → Option Path → Placing → Destination → Type 0
IsDestinationOf path (Place place) apart placing to = to ≡ to_place (string_bytes place.path) apart placing
IsDestinationOf path Straight apart placing to = to ≡ straight_to path
IsDestinationOf path StandardOutput apart placing to = to ≡ straight_to path
IsDestinationOf path Nowhere apart placing to = to ≡ nowhere

-- whatever comes to stand at a path, and nothing elsewhere
abbrev pub may_at : Path → May
may_at at path content = path ≡ at

-- A path is aside of a place: one of a hundred names beside it, and not the path of another file of the job.
abbrev pub IsAside : Path → Option Path → Path → Type 0
IsAside place apart path = IsBeside place path × (Some path ≢ apart)

abbrev pub may_beside : Path → Option Path → May
may_beside place apart path content = IsAside place apart path

-- what may come to stand where before a file takes its place: a file aside, whatever it holds
abbrev pub may_aside : Destination → May
may_aside nowhere path content = ⊥
may_aside (to_place place apart placing) path content = IsAside place apart path
may_aside (straight_to to) path content = ⊥

-- What may come to stand at a place that is taken: these bytes, whole and on the disk; or an empty file, where the file
-- system knows no second names and only a free place may be taken.
abbrev pub MayTake : Placing → Path → List ℕ → May
MayTake placing place bytes path content = (path ≡ place)
    × ((content ≡ whole bytes) ⊎ ((placing ≡ Free) × (content ≡ unflushed [])))

-- what may come to stand where while a file with these bytes takes its place
abbrev pub may_take : Destination → List ℕ → May
may_take nowhere bytes path content = ⊥
may_take (to_place place apart placing) bytes path content =
    IsAside place apart path ⊎ MayTake placing place bytes path content
may_take (straight_to to) bytes path content = ⊥

-- what may come to stand while a file aside takes a place
abbrev pub may_give : Placing → Path → Path → List ℕ → May
may_give placing aside place bytes path content = (path ≡ aside) ⊎ MayTake placing place bytes path content

-- At a place stands what stood there; or an empty file, where only a free place may be taken.
abbrev pub StaysAt : Placing → Path → Files → Files → Type 0
StaysAt placing place old files = (files place ≡ old place)
    ⊎ ((placing ≡ Free) × (old place ≡ None) × (files place ≡ unflushed []))

-- these bytes stand at a place, which was free where only a free one may be taken
abbrev pub StandsAt : Placing → Path → List ℕ → Files → Files → Type 0
StandsAt placing place bytes old files = (files place ≡ whole bytes) × (placing ≡ Free → old place ≡ None)

-- what stood at the place of a destination stands
abbrev pub Stays : Destination → Files → Files → Type 0
Stays nowhere old files = ⊤
Stays (to_place place apart placing) old files = StaysAt placing place old files
Stays (straight_to to) old files = ⊤

-- these bytes stand at the place of a destination
abbrev pub Stands : Destination → List ℕ → Files → Files → Type 0
Stands nowhere bytes old files = ⊤
Stands (to_place place apart placing) bytes old files = StandsAt placing place bytes old files
Stands (straight_to to) bytes old files = ⊤

-- the file that was made is open at its path, which is aside of the place
abbrev pub IsMadeAside : {H File Units Names : Type 0} → (File → Path) → AsideFile H File Units Names → Type 0
IsMadeAside place file = IfSome file.made (λ made. (place made.1 ≡ string_bytes made.0)
    × may_aside (destination_of file) (string_bytes made.0) None)

-- what the file holds that was made, or nothing where none was
abbrev pub content_of : {F : Type 0} → Option (String Global × F) → Files → Option Content
content_of None files = unflushed []
content_of (Some made) files = files (string_bytes made.0)

-- the file that was made has these bytes on the disk, or none was made
abbrev pub IsOnDisk : {F : Type 0} → Option (String Global × F) → List ℕ → Files → Type 0
IsOnDisk None bytes files = ⊤
IsOnDisk (Some made) bytes files = files (string_bytes made.0) ≡ whole bytes

-- nothing stands at a path, or it could not be removed
abbrev pub IsGone : Path → HostState → Type 0
IsGone path host = (host.files path ≡ None) ⊎ IsRefused (removing path) host

-- what may stand at a place from which an empty file is taken away again: that file, or nothing
abbrev pub may_empty : Path → May
may_empty place path content = (path ≡ place) × ((content ≡ None) ⊎ (content ≡ unflushed []))

-- An empty file that stood at a place stands, or nothing does.
pub record IsTakenBack (place : Path) (old new : HostState) : Type 0 where
  pub run : IsRun (may_empty place) old new
  pub stands : (new.files place ≡ None) ⊎ (new.files place ≡ unflushed [])

-- A file aside with these bytes took a place, or what stood there stands.
pub record TakesPlace {T : Type 0} (placing : Placing) (aside place : Path) (bytes : List ℕ) (result : Result T Error)
    (old new : HostState) : Type 0 where
  pub run : IsRun (may_give placing aside place bytes) old new
  pub done : OnOk result (StandsAt placing place bytes old.files new.files)
  pub stays : OnErr result (StaysAt placing place old.files new.files)

-- A file took its place with these bytes, if it was made and no call of it had failed; or what stood there stands.
pub record IsTaken {T H File Units Names : Type 0} (file : AsideFile H File Units Names) (bytes : List ℕ)
    (result : Result T Error) (old new : HostState) : Type 0 where
  pub run : IsRun (may_take (destination_of file) bytes) old new
  pub done : OnOk result (IfSome file.made (λ _. Stands (destination_of file) bytes old.files new.files))
  pub stays : OnErr result (Stays (destination_of file) old.files new.files)
