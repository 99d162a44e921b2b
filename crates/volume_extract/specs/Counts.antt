-- A table of how many names are alike.
use Rattle.std.specs.Prelude.{◌≡◌, ℕ, List, count_by, unwrap_or}
use Rattle.std.specs.HashMap.{get_by}
use Rattle.volume_extract.specs.Keys.{NameKey, is_key}
use Rattle.volume_extract.specs.declared.names.Key.{Key}
use Rattle.volume_extract.specs.declared.names.Names.{Names}

abbrev pub key_view : Key → NameKey
key_view key = record { above = key.above; name = key.name.items }

-- how many it has of a key
abbrev pub count_in : Names → NameKey → ℕ
count_in names key = unwrap_or (get_by (λ other. is_key key (key_view other)) names.counts) 0

-- the table has of each key how many of these are it
abbrev pub AreCounted : List NameKey → Names → Type 0
AreCounted keys names = (key : Key) → count_in names (key_view key) ≡ count_by (is_key (key_view key)) keys
