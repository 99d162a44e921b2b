-- What the calls of an honest host do, each as one fact of its result and of the host before and after it.
use Rattle.std.specs.Prelude.{◌≡◌, ◌≢◌, ℕ, List, [], ◌∷◌, ◌++◌, Option, Some, None, IsTrue, Result, IfErr, IfOk, IfSome, OnErr, string_bytes, take}
use Rattle.std.specs.declared.string.String.{String}
use Rattle.std.specs.declared.alloc.Global.{Global}
use Rattle.std.specs.IoError.{error_kind}
use Rattle.std.specs.declared.io.Error.{Error}
use Rattle.std.specs.declared.io.ErrorKind.TheVariants.{Interrupted, NotFound}
use Rattle.shop_host.specs.declared.found.Found.{Found}
use Rattle.shop_host.specs.declared.host.Lock.{Lock}
use Rattle.shop_host.specs.State.{Content, Files, HostState, IsNoted, IsQuiet, IsSameBut, Path, Request, unflushed, whole}
use Rattle.shop_host.specs.State.{
  flushing,
  linking,
  locking,
  looking,
  making,
  making_folder,
  opening,
  reading_input,
  removing,
  renaming,
  writing,
}
use Rattle.a2_media.specs.File.{FileState}
use Rattle.shop_host.specs.Paths.{IsIn, behind, in_folder}

-- a request was refused, and is known as that
abbrev pub IsRefused : Request → HostState → Type 0
IsRefused request host = IsTrue (host.refused request)

-- A call that only looks: it changes nothing, whether it is refused or not.
pub record Asks {T : Type 0} (request : Request) (result : Result T Error) (old new : HostState) : Type 0 where
  pub quiet : IsQuiet old new
  pub refused : OnErr result (IsRefused request new)

-- what a path leads to, links followed
pub record Finds (path : Path) (result : Result Found Error) (old new : HostState) : Type 0 where
  pub asks : Asks (looking path) result old new
  pub found : IfOk result (λ found. old.kind (old.leads path) ≡ Some found.kind)
  pub missing : IfErr result (λ error. error_kind error ≡ NotFound → old.files (old.leads path) ≡ None)

-- What stands at a path itself, which may be a link. Where nothing does, the path leads to its name in its folder.
pub record FindsItself (path : Path) (result : Result Found Error) (old new : HostState) : Type 0 where
  pub asks : Asks (looking path) result old new
  pub found : IfOk result (λ found. old.kind path ≡ Some found.kind)
  pub missing : IfErr result (λ error. error_kind error ≡ NotFound → (old.kind path ≡ None)
      × ((folder name : Path) → IsIn folder name path → old.leads path ≡ in_folder (old.leads folder) name))

-- the path to which a path leads, of something that stands there
pub record FindsOwnPath (path : Path) (result : Result (String Global) Error) (old new : HostState) : Type 0 where
  pub asks : Asks (looking path) result old new
  pub found : IfOk result (λ own. string_bytes own ≡ old.leads path)

-- The path in a link that stands at a path: to what it leads from the link's folder on, the link leads.
pub record FollowsLink (path : Path) (result : Result (String Global) Error) (old new : HostState) : Type 0 where
  pub asks : Asks (looking path) result old new
  pub found : IfOk result (λ to. (folder name : Path) → IsIn folder name path
      → old.leads path ≡ old.leads (behind folder (string_bytes to)))

-- A file was opened: the one to which the path leads, and of a regular one all bytes are still to be read.
pub record Opens {F : Type 0} (at : F → Path) (rest : F → Option (List ℕ)) (path : Path) (result : Result F Error)
    (old new : HostState) : Type 0 where
  pub asks : Asks (opening path) result old new
  pub place : IfOk result (λ file. at file ≡ old.leads path)
  pub unread : IfOk result (λ file. IfSome (old.files (old.leads path)) (λ content. rest file ≡ Some content.bytes))

-- a lock was taken, and is noted, or it was not
pub record Locks {T : Type 0} (place : Path) (lock : Lock) (result : Result T Error)
    (old new : HostState) : Type 0 where
  pub done : IfOk result (λ _. IsQuiet (record old { locks = (place, lock) ∷ old.locks }) new)
  pub refused : OnErr result (IsQuiet old new × IsRefused (locking place) new)

-- a new empty file was made, at a path at which nothing stood
pub record Makes {F : Type 0} (place : F → Path) (path : Path) (result : Result F Error)
    (old new : HostState) : Type 0 where
  pub done : IfOk result (λ file. IsNoted old new × (place file ≡ path) × (old.files path ≡ None)
      × (new.files path ≡ unflushed []) × IsSameBut path old.files new.files)
  pub refused : OnErr result (IsQuiet old new × IsRefused (making path) new)

-- A file was opened and nothing is left in it, or it is none and stays.
pub record OpensEmpty {F : Type 0} (at : F → Path) (path : Path) (result : Result F Error)
    (old new : HostState) : Type 0 where
  pub noted : IsNoted old new
  pub same : IsSameBut (old.leads path) old.files new.files
  pub place : IfOk result (λ file. at file ≡ old.leads path)
  pub refused : OnErr result (IsRefused (opening path) new)

-- A front of these bytes was written behind those of a file. Where that is refused, nothing is known of it, unless it
-- was interrupted.
pub record Writes (place : Path) (bytes : List ℕ) (result : Result ℕ Error) (old new : HostState) : Type 0 where
  pub noted : IsNoted old new
  pub same : IsSameBut place old.files new.files
  pub done : IfOk result (λ count. (content : Content) → old.files place ≡ Some content
      → new.files place ≡ unflushed (content.bytes ++ take count bytes))
  pub interrupted : IfErr result (λ error. error_kind error ≡ Interrupted → new.files place ≡ old.files place)
  pub refused : OnErr result (IsRefused (writing place) new)

-- What a file holds was put onto the disk. Where that is refused, nothing is known of it.
pub record Flushes {T : Type 0} (place : Path) (result : Result T Error) (old new : HostState) : Type 0 where
  pub noted : IsNoted old new
  pub same : IsSameBut place old.files new.files
  pub done : IfOk result (λ _. (content : Content) → old.files place ≡ Some content
      → new.files place ≡ whole content.bytes)
  pub refused : OnErr result (IsRefused (flushing place) new)

-- These bytes were put onto the disk as those of a file. Where that is refused, nothing is known of it.
pub record Keeps {T : Type 0} (place : Path) (bytes : List ℕ) (result : Result T Error)
    (old new : HostState) : Type 0 where
  pub noted : IsNoted old new
  pub same : IsSameBut place old.files new.files
  pub done : IfOk result (λ _. new.files place ≡ whole bytes)
  pub refused : OnErr result (IsRefused (flushing place) new)

-- A file took another path, whatever stood there, in one step; or nothing was moved.
pub record Renames {T : Type 0} (from to : Path) (result : Result T Error) (old new : HostState) : Type 0 where
  pub noted : IsNoted old new
  pub done : IfOk result (λ _. (content : Content) → old.files from ≡ Some content
      → (new.files to ≡ Some content) × (from ≢ to → new.files from ≡ None)
      × ((other : Path) → other ≢ from → other ≢ to → new.files other ≡ old.files other))
  pub refused : OnErr result ((new.files ≡ old.files) × IsRefused (renaming from to) new)

-- A file got a second path, at which nothing stood; or nothing was changed.
pub record Links {T : Type 0} (from to : Path) (result : Result T Error) (old new : HostState) : Type 0 where
  pub noted : IsNoted old new
  pub done : IfOk result (λ _. (old.files to ≡ None) × (new.files to ≡ old.files from)
      × IsSameBut to old.files new.files)
  pub refused : OnErr result ((new.files ≡ old.files) × IsRefused (linking from to) new)

-- a path was taken away, or it was not
pub record Removes {T : Type 0} (path : Path) (result : Result T Error) (old new : HostState) : Type 0 where
  pub noted : IsNoted old new
  pub done : IfOk result (λ _. (new.files path ≡ None) × IsSameBut path old.files new.files)
  pub refused : OnErr result ((new.files ≡ old.files) × IsRefused (removing path) new)

-- A folder was made, or it was not: no file has changed.
pub record MakesFolder {T : Type 0} (path : Path) (result : Result T Error) (old new : HostState) : Type 0 where
  pub noted : IsNoted old new
  pub same : new.files ≡ old.files
  pub refused : OnErr result (IsRefused (making_folder path) new)

-- What is in a folder was removed, or some of it.
pub record RemovesFolder {T : Type 0} (path : Path) (result : Result T Error) (old new : HostState) : Type 0 where
  pub noted : IsNoted old new
  pub same : (other : Path) → other ≢ path → (¬ ((below : Path) × (other ≡ in_folder path below)))
      → new.files other ≡ old.files other
  pub refused : OnErr result (IsRefused (removing path) new)

-- The bytes of an open file were handed out to be changed where they stand: those of a regular file, whole, by a file
-- that is honest too.
pub record LendsUnits {U : Type 0} (units_place : U → Path) (state : U → FileState) (at : Path)
    (result : Result U Error) (old new : HostState) : Type 0 where
  pub asks : Asks (opening at) result old new
  pub place : IfOk result (λ units. units_place units ≡ at)
  pub bytes : IfOk result (λ units. IfSome (old.files at) (λ content. IsTrue (state units).honest
      × ((state units).bytes ≡ content.bytes)))

-- bytes of standard input were read, or they were not: nothing else has changed
pub record ReadsInput {T : Type 0} (result : Result T Error) (old new : HostState) : Type 0 where
  pub quiet : IsQuiet (record old { input = new.input }) new
  pub refused : OnErr result (IsRefused reading_input new)
