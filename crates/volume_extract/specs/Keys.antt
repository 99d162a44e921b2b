-- How many names of a folder are alike.
use Rattle.std.specs.Prelude.{◌&&◌, ℕ, Bool, List, Option, map, nat_eq}
use Rattle.std.specs.Option.{option_eq}
use Rattle.std.specs.Str.{bytes_eq}
use Rattle.host_folders.specs.HostNames.{bare_name, folded}
use Rattle.host_folders.specs.declared.entry.Naming.{Naming}
use Rattle.volume_extract.specs.Items.{Item}

-- the directory of an entry, and its bare name with small letters
pub record NameKey : Type 0 where
  pub above : Option ℕ
  pub name : List ℕ

abbrev pub is_key : NameKey → NameKey → Bool
is_key key other = option_eq nat_eq key.above other.above && bytes_eq key.name other.name

abbrev pub key_with : Option ℕ → List ℕ → NameKey
key_with above name = record { above = above; name = name }

abbrev pub key_of : Naming → Item → NameKey
key_of naming item = key_with item.above (folded (bare_name naming item.entry))

abbrev pub keys_of : Naming → List Item → List NameKey
keys_of naming items = map (key_of naming) items
