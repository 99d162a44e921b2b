-- How an entry is named.
use Rattle.std.specs.Prelude.{◌≡◌, ℕ, ◌+◌, ◌≤◌, Bool, List, [], ◌∷◌, ◌++◌, count_by, length}
use Rattle.vol_layout.specs.declared.form.PlaceForm.{PlaceForm}
use Rattle.host_folders.specs.HostNames.{bare_name, folded}
use Rattle.host_folders.specs.Laws.{IsEntry}
use Rattle.host_folders.specs.declared.entry.Naming.{Naming}
use Rattle.volume_extract.specs.Counts.{AreCounted}
use Rattle.volume_extract.specs.Keys.{NameKey, is_key, key_with}
use Rattle.volume_extract.specs.Kept.{head_entry}
use Rattle.volume_extract.specs.declared.kept.Head.{Head}
use Rattle.volume_extract.specs.declared.kept.Tail.{Tail}
use Rattle.volume_extract.specs.declared.names.Names.{Names}
use Rattle.volume_extract.specs.declared.placing.Place.{Place}

abbrev pub key_by : PlaceForm → List ℕ → Naming → Head → NameKey
key_by form name naming head = key_with head.above (folded (bare_name naming (head_entry form name head)))

-- what the name of an entry says, that stands there and has this own name; and its number among these names
pub record IsHead (form : PlaceForm) (name : List ℕ) (folder : Bool) (naming : Naming) (place : Place) (tail : Tail)
    (keys : List NameKey) (names : Names) (head : Head) : Type 0 where
  pub above : head.above ≡ place.above
  pub depth : head.depth ≡ place.depth
  pub kind : head.kind ≡ tail.kind
  pub aux : head.aux ≡ tail.aux
  pub text : head.text ≡ tail.text
  pub directory : head.directory ≡ folder
  pub fits : IsEntry (head_entry form name head)
  pub short : length name ≤ 30
  pub number : head.number ≡ count_by (is_key (key_by form name naming head)) keys + 1
  pub counted : AreCounted (keys ++ key_by form name naming head ∷ []) names
