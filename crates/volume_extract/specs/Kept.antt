-- What is kept of the items of the first entries of a volume.
use Rattle.std.specs.Prelude.{◌≡◌, ◌<◌, ◌≤◌, ℕ, false, List, Option, Some, None, length, slice_index_or}
use Rattle.vol_layout.specs.declared.form.PlaceForm.{PlaceForm}
use Rattle.vol_format.specs.Directory.{Directory, Listed, entries, entry_of}
use Rattle.host_folders.specs.HostNames.{Entry, host_name}
use Rattle.host_folders.specs.declared.entry.Naming.{Naming}
use Rattle.volume_extract.specs.ExtractText.{outcome_of, totals_of}
use Rattle.volume_extract.specs.Items.{Item, host_below, item_at}
use Rattle.volume_extract.specs.declared.kept.Head.{Head}
use Rattle.volume_extract.specs.declared.kept.Kept.{Kept}
use Rattle.volume_extract.specs.declared.kept.Outcome.TheVariants.{Folder}
use Rattle.volume_extract.specs.declared.totals.Totals.{Totals}

abbrev pub no_head : Head
no_head = record { above = None; number = 0; depth = 0; kind = 0; aux = 0; directory = false; text = false }

abbrev pub kept_at : List Kept → ℕ → Kept
kept_at kept number = slice_index_or kept number (record { head = no_head; outcome = Folder })

-- what the name of an entry says that has this own name
abbrev pub head_entry : PlaceForm → List ℕ → Head → Entry
head_entry form name head = record {
  form = form;
  name = name;
  kind = head.kind;
  aux = head.aux;
  directory = head.directory;
  text = head.text;
}

-- the entry of a directory stands before one of this number
abbrev pub StandsBefore : ℕ → Option ℕ → Type 0
StandsBefore number None = Unit {0}
StandsBefore number (Some above) = above < number

-- an item among these is kept so, and its path follows from the names
pub record IsKept (form : PlaceForm) (name : List ℕ) (naming : Naming) (items : List Item) (number : ℕ) (item : Item)
    (kept : Kept) : Type 0 where
  pub above : kept.head.above ≡ item.above
  pub before : StandsBefore number kept.head.above
  pub numbered : kept.head.number ≡ item.number
  pub some : 1 ≤ kept.head.number
  pub depth : kept.head.depth ≡ item.depth
  pub shallow : kept.head.depth ≤ 64
  pub entry : item.entry ≡ head_entry form name kept.head
  pub outcome : kept.outcome ≡ outcome_of item.found
  pub host : item.host ≡ host_below items item.above (host_name naming item.entry item.number)

-- what is kept of these items
pub record AreKept (form : PlaceForm) (own : Listed → List ℕ) (directory : Directory) (naming : Naming)
    (items : List Item) (kept : List Kept) : Type 0 where
  pub long : length kept ≡ length items
  pub within : length items ≤ entries directory
  pub each : (number : ℕ) → number < length items
      → IsKept form (own (entry_of directory number)) naming items number (item_at items number) (kept_at kept number)

-- an extraction tells these items, those of all entries: a line for each, and how many there are
pub record TellsItems (form : PlaceForm) (own : Listed → List ℕ) (directory : Directory) (naming : Naming)
    (items : List Item) (kept : List Kept) (totals : Totals) : Type 0 where
  pub are_kept : AreKept form own directory naming items kept
  pub all : length items ≡ entries directory
  pub counts : totals ≡ totals_of items
