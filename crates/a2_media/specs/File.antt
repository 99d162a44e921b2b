-- A file that is read and written at a position, as contracts see it.
use Rattle.std.specs.Prelude.{◌≡◌, ℕ, ◌+◌, Bool, List}
use Rattle.a2_image.specs.Lending.{written}

-- How many bytes a file has, whether it is honest, its bytes as far as it is, and how many of the writes into it stand.
pub record FileState : Type 0 where
  pub size : ℕ
  pub honest : Bool
  pub bytes : List ℕ
  pub standing : ℕ

-- the last value of a counter
abbrev pub last_standing : ℕ
last_standing = 18446744073709551615

-- what no call changes
pub record IsSameFile (old new : FileState) : Type 0 where
  pub size : new.size ≡ old.size
  pub honest : new.honest ≡ old.honest

-- the file after a write that stands: these bytes over those from a position on
abbrev pub after_write : ℕ → List ℕ → FileState → FileState
after_write position bytes file = record file {
  bytes = written file.bytes position bytes;
  standing = file.standing + 1;
}
