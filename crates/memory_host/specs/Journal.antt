-- What a host in memory holds: what came of all that was put into it and done to it, the oldest first.
use Rattle.std.specs.Prelude.{◌≡◌, ℕ, Bool, true, false, List, [], ◌∷◌, ◌++◌, Option, Some, None, bytes_eq, if◌then◌else◌, map, nat_eq, option_map, string_bytes, drop}
use Rattle.std.specs.List.{fold, starts_with}
use Rattle.shop_host.specs.declared.found.FoundKind.{FoundKind}
use Rattle.shop_host.specs.declared.found.FoundKind.TheVariants.{File}
use Rattle.shop_host.specs.declared.host.Lock.{Lock}
use Rattle.shop_host.specs.State.{Content, Files, HostState, Path}
use Rattle.shop_host.specs.Paths.{in_folder}
use Rattle.memory_host.specs.declared.entries.Entry.{Entry}
use Rattle.memory_host.specs.declared.journal.Change.{Change}
use Rattle.memory_host.specs.declared.journal.Change.TheVariants.{Stands, Moved, Carried, Wrote, Flushed, Gone, Emptied}
use Rattle.memory_host.specs.declared.journal.Item.{Item}
use Rattle.memory_host.specs.declared.journal.Piece.{Piece}
use Rattle.memory_host.specs.declared.store.Link.{Link}
use Rattle.memory_host.specs.declared.store.Store.{Store}
use Rattle.memory_host.specs.declared.open.Unread.{Unread}
use Rattle.memory_host.specs.Paths.{rooted}

-- the content of what is of such a kind: only a regular file has any
abbrev pub regular : FoundKind → List ℕ → Bool → Option Content
regular File bytes on_disk = Some (record { bytes = bytes; on_disk = on_disk })
regular kind bytes on_disk = None

abbrev pub content_of : Entry → Option Content
content_of entry = regular entry.kind entry.bytes.items entry.on_disk

abbrev pub content_in : Option Entry → Option Content
content_in None = None
content_in (Some entry) = content_of entry

abbrev pub kind_in : Option Entry → Option FoundKind
kind_in None = None
kind_in (Some entry) = Some entry.kind

-- a file with more bytes behind its own
abbrev pub longer : List ℕ → Option Content → Option Content
longer bytes content = option_map (λ c. record { bytes = c.bytes ++ bytes; on_disk = false }) content

-- a file of which all is on the disk
abbrev pub flushed : Option Content → Option Content
flushed content = option_map (λ c. record { bytes = c.bytes; on_disk = true }) content

-- what stands at its path after a change
abbrev pub content_here : Change → Option Content → Option Content
content_here (Stands entry) now = content_of entry
content_here (Moved entry from) now = content_of entry
content_here (Carried entry from pieces) now = content_of entry
content_here (Wrote bytes) now = longer bytes.items now
content_here Flushed now = flushed now
content_here Gone now = None
content_here Emptied now = None

abbrev pub kind_here : Change → Option FoundKind → Option FoundKind
kind_here (Stands entry) now = Some entry.kind
kind_here (Moved entry from) now = Some entry.kind
kind_here (Carried entry from pieces) now = Some entry.kind
kind_here (Wrote bytes) now = now
kind_here Flushed now = now
kind_here Gone now = None
kind_here Emptied now = None

-- what stands at a path after these were carried to theirs, by what is known of each
abbrev pub carried : {X : Type 0} → (Entry → Option X) → List Piece → Path → Option X → Option X
carried known [] path now = now
carried known (piece ∷ pieces) path now = if bytes_eq (string_bytes piece.to) path then known piece.entry
    else (if bytes_eq (string_bytes piece.from) path then None else carried known pieces path now)

-- what stands at another path after a change
abbrev pub beyond : {X : Type 0} → (Entry → Option X) → Change → Path → Path → Option X → Option X
beyond known (Moved entry from) here path now = if bytes_eq (string_bytes from) path then None else now
beyond known (Carried entry from pieces) here path now =
    if bytes_eq (string_bytes from) path then None else carried known pieces.items path now
beyond known Emptied here path now = if starts_with nat_eq path (in_folder here []) then None else now
beyond known change here path now = now

abbrev pub kind_of : Entry → Option FoundKind
kind_of entry = Some entry.kind

-- what stands at a path after a change of this one or another
abbrev pub content_after : Path → Change → Path → Option Content → Option Content
content_after here change path now =
    if bytes_eq here path then content_here change now else beyond content_of change here path now

abbrev pub kind_after : Path → Change → Path → Option FoundKind → Option FoundKind
kind_after here change path now =
    if bytes_eq here path then kind_here change now else beyond kind_of change here path now

abbrev pub files_after : Path → Change → Files → Files
files_after here change files = λ path. content_after here change path (files path)

-- the same of the kinds, which are known of each path by which something is named
abbrev pub kinds_after : Path → Change → (Path → Option FoundKind) → Path → Option FoundKind
kinds_after here change kinds = λ path. kind_after here change (rooted path) (kinds path)

-- what came of some items
pub record Held : Type 0 where
  pub files : Files
  pub kind : Path → Option FoundKind
  pub moments : List Files

abbrev pub held_after : Held → Item → Held
held_after held item = record {
  files = files_after (string_bytes item.path) item.change held.files;
  kind = kinds_after (string_bytes item.path) item.change held.kind;
  moments = files_after (string_bytes item.path) item.change held.files ∷ held.moments;
}

abbrev pub nothing : Held
nothing = record { files = λ path. None; kind = λ path. None; moments = [] }

abbrev pub held_of : List Item → Held
held_of items = fold held_after nothing items

-- what stands at a path from the root on after these items
pub record IsFound (items : List Item) (path : Path) (found : Option Entry) : Type 0 where
  pub files : (held_of items).files path ≡ content_in found
  pub kind : (given : Path) → rooted given ≡ path → (held_of items).kind given ≡ kind_in found

-- where a path from the root on leads by these links
abbrev pub followed : List Link → Path → Path
followed [] path = path
followed (link ∷ links) path =
    if bytes_eq (string_bytes link.path) path then string_bytes link.to else followed links path

abbrev pub leads_of : List Link → Path → Path
leads_of links path = rooted (followed links (rooted path))

-- what is still to be read
abbrev pub rest : Unread → List ℕ
rest unread = drop unread.read unread.bytes.items

-- A host in memory: each call of it may be refused.
abbrev pub state_of : List Link → List Item → List (Path × Lock) → List ℕ → HostState
state_of links items locks input = record {
  honest = true;
  files = (held_of items).files;
  kind = (held_of items).kind;
  leads = leads_of links;
  input = Some input;
  locks = locks;
  moments = (held_of items).moments;
  refused = λ request. true;
}

abbrev pub memory_state : Store → HostState
memory_state store = state_of store.links.items store.items.items
    (map (λ taken. (string_bytes taken.path, taken.lock)) store.locks.items) (rest store.input)

-- a host after one more change
abbrev pub done : Path → Change → HostState → HostState
done here change host = record host {
  files = files_after here change host.files;
  kind = kinds_after here change host.kind;
  moments = files_after here change host.files ∷ host.moments;
}
