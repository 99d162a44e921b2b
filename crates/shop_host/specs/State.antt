-- A host, as contracts see it.
use Rattle.std.specs.Prelude.{◌≡◌, ◌≢◌, ◌⊎◌, ℕ, Bool, true, false, List, ◌∷◌, Option, Some, IsTrue}
use Rattle.shop_host.specs.declared.found.FoundKind.{FoundKind}
use Rattle.shop_host.specs.declared.host.Lock.{Lock}

-- a path, as its bytes
abbrev pub Path : Type 0
Path = List ℕ

-- what a file holds, and whether all of it is on the disk
pub record Content : Type 0 where
  pub bytes : List ℕ
  pub on_disk : Bool

-- what stands at each own path: the bytes of a regular file, and nothing else
abbrev pub Files : Type 0
Files = Path → Option Content

-- these bytes, all of them on the disk
abbrev pub whole : List ℕ → Option Content
whole bytes = Some (record { bytes = bytes; on_disk = true })

-- these bytes, which may be lost where the system stops
abbrev pub unflushed : List ℕ → Option Content
unflushed bytes = Some (record { bytes = bytes; on_disk = false })

-- a call of a host that may be refused, with the paths that it is of
pub data Request : Type 0 where
  looking : (path : Path) → Request
  opening : (path : Path) → Request
  locking : (path : Path) → Request
  reading : (path : Path) → Request
  making : (path : Path) → Request
  writing : (path : Path) → Request
  flushing : (path : Path) → Request
  giving : (path : Path) → Request
  renaming : (from to : Path) → Request
  linking : (from to : Path) → Request
  removing : (path : Path) → Request
  making_folder : (path : Path) → Request
  listing : (path : Path) → Request
  reading_input : Request

-- A host: whether it is honest; what stands at each path, and of which kind that is; where a path leads, links
-- followed, whether something stands there or not; what standard input still has, where that is known; the locks
-- that were taken, the newest first; what stood after each call that changed a file, the newest first; and the
-- requests of which one was refused.
pub record HostState : Type 0 where
  pub honest : Bool
  pub files : Files
  pub kind : Path → Option FoundKind
  pub leads : Path → Path
  pub input : Option (List ℕ)
  pub locks : List (Path × Lock)
  pub moments : List Files
  pub refused : Request → Bool

-- a refused request stays known
abbrev pub AreRefusedStill : HostState → HostState → Type 0
AreRefusedStill old new = (request : Request) → IsTrue (old.refused request) → IsTrue (new.refused request)

-- a call changed nothing but what is known to be refused
pub record IsQuiet (old new : HostState) : Type 0 where
  pub same : new ≡ record old { refused = new.refused }
  pub refused : AreRefusedStill old new

-- each path but this one holds what it held
abbrev pub IsSameBut : Path → Files → Files → Type 0
IsSameBut path old new = (other : Path) → other ≢ path → new other ≡ old other

-- A call that may change files: what stands behind it is noted, or it left all as it was.
pub record IsNoted (old new : HostState) : Type 0 where
  pub honest : IsTrue new.honest
  pub leads : new.leads ≡ old.leads
  pub input : new.input ≡ old.input
  pub noted : (new.moments ≡ new.files ∷ old.moments) ⊎ ((new.moments ≡ old.moments) × (new.files ≡ old.files))
  pub refused : AreRefusedStill old new
