-- How files are read, and why one is not open to be read.
use Rattle.std.specs.Prelude.{◌≡◌, ◌⊎◌, ◌+◌, ℕ, List, Option, Some, IfSome, take}
use Rattle.std.specs.List.{Contains}
use Rattle.shop_host.specs.declared.reading.OpenFault.{OpenFault}
use Rattle.shop_host.specs.declared.reading.OpenFault.TheVariants.{Held, Unopened}
use Rattle.shop_host.specs.declared.host.Lock.{Lock}
use Rattle.shop_host.specs.declared.host.Lock.TheVariants.{Shared}
use Rattle.shop_host.specs.State.{HostState, Path, locking, opening}
use Rattle.shop_host.specs.Calls.{IsRefused}
use Rattle.shop_replies.specs.Reading.{IsReadFailure}

-- a file is not opened since it can't be read, or for want of memory; or another holds its lock
abbrev pub IsOpenFault : OpenFault → Type 0
IsOpenFault (Unopened failure) = IsReadFailure failure
IsOpenFault Held = Unit {0}

-- the lock of a file was taken, or it was refused: by another who holds one, or since the file system knows none
abbrev pub HasLock : Path → Lock → HostState → Type 0
HasLock at lock host = Contains host.locks (at, lock) ⊎ IsRefused (locking at) host

-- A file was opened: the one to which the path leads, and of a regular one all bytes are still to be read. Its lock was
-- taken, or the file system refused one.
pub record IsOpened (at : Path) (rest : Option (List ℕ)) (path : Path) (lock : Lock)
    (old new : HostState) : Type 0 where
  pub place : at ≡ old.leads path
  pub unread : IfSome (old.files (old.leads path)) (λ content. rest ≡ Some content.bytes)
  pub locked : HasLock (old.leads path) lock new

-- it could not be opened, or its lock was refused
abbrev pub IsUnopened : Path → HostState → Type 0
IsUnopened path new = IsRefused (opening path) new ⊎ IsRefused (locking (new.leads path)) new

-- These are the bytes of the regular file to which a path leads, up to one past so many, and they were read under its
-- lock, or the file system refused one. What is read of another thing, as a pipe, is not known.
pub record IsFrontOf (path : Path) (most : ℕ) (read : List ℕ) (old new : HostState) : Type 0 where
  pub bytes : IfSome (old.files (old.leads path)) (λ content. read ≡ take (most + 1) content.bytes)
  pub locked : HasLock (old.leads path) Shared new
