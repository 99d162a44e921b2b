-- What stands at each path while calls are made.
use Rattle.std.specs.Prelude.{◌≡◌, ◌⊎◌, List, ◌++◌, Option, IsTrue}
use Rattle.std.specs.List.{AllByRecursion, Contains}
use Rattle.shop_host.specs.declared.host.Lock.{Lock}
use Rattle.shop_host.specs.State.{AreRefusedStill, Content, Files, HostState, Path}

-- what may come to stand at which paths
abbrev pub May : Type 1
May = Path → Option Content → Type 0

-- at each path stands what stood there, or what may come to stand there
abbrev pub IsKeptBut : May → Files → Files → Type 0
IsKeptBut may old files = (path : Path) → (files path ≡ old path) ⊎ may path (files path)

-- Calls were made on an honest host: after each of them, and now, there stands at each path what stood there, or what
-- may come to stand there. No path leads elsewhere than before.
pub record IsRun (may : May) (old now : HostState) : Type 0 where
  pub honest : IsTrue now.honest
  pub leads : now.leads ≡ old.leads
  pub since : List Files
  pub noted : now.moments ≡ since ++ old.moments
  pub each : AllByRecursion (IsKeptBut may old.files) since
  pub files : IsKeptBut may old.files now.files
  pub refused : AreRefusedStill old now

-- Calls were made that only look, read and lock: nothing that stands has changed, nor what standard input has, and no
-- lock was let go.
pub record IsLooking (old now : HostState) : Type 0 where
  pub same : now ≡ record old { refused = now.refused; locks = now.locks }
  pub refused : AreRefusedStill old now
  pub locks : (held : Path × Lock) → Contains old.locks held → Contains now.locks held

-- The same, but that standard input was read too.
abbrev pub IsReadingInput : HostState → HostState → Type 0
IsReadingInput old now = IsLooking (record old { input = now.input }) now
