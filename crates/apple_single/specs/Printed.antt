-- The AppleSingle file of a name, a file info and a data fork.
use Rattle.std.specs.Prelude.{◌≤◌, ◌⊎◌, ℕ, ◌+◌, ◌^◌, List, [], ◌∷◌, ◌++◌, length, replicate}
use Rattle.apple_single.specs.declared.entries.Entry.{Entry}
use Rattle.apple_single.specs.declared.single.FileInfo.{FileInfo}
use Rattle.apple_single.specs.Format.{data_fork_id, file_info_id, header, info_bytes, real_name_id}

-- name, file info and data fork, one behind the other from byte 62 on, for a name and a fork of these many bytes
abbrev pub printed_entries : ℕ → ℕ → List Entry
printed_entries name fork =
    record { id = real_name_id; offset = 62; size = name }
    ∷ record { id = file_info_id; offset = 62 + name; size = 8 }
    ∷ record { id = data_fork_id; offset = 70 + name; size = fork }
    ∷ []

-- the file: its header, the name, the file info, and the data fork
abbrev pub single_bytes : List ℕ → FileInfo → List ℕ → List ℕ
single_bytes name info fork =
    header (replicate 16 0) (printed_entries (length name) (length fork)) ++ name ++ info_bytes info ++ fork

-- where the data fork begins, which is the greatest offset, or how long it is needs more than four bytes
abbrev pub IsTooLong : ℕ → ℕ → Type 0
IsTooLong name fork = (2 ^ 32 ≤ 70 + name) ⊎ (2 ^ 32 ≤ fork)
