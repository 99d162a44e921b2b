-- What is read of the file of an entry.
use Rattle.std.specs.Prelude.{◌≡◌, ◌&&◌, ◌||◌, not, ℕ, Bool, true, false, if◌then◌else◌, List, Option, Some, None}
use Rattle.file_cmds.specs.Text.{IsWholeTextOf}
use Rattle.file_formats.specs.DosFiles.{number_at}
use Rattle.file_formats.specs.Files.{FileMeaning}
use Rattle.file_formats.specs.declared.listing.ListEntry.{ListEntry}
use Rattle.file_forms.specs.Found.{FileView}
use Rattle.vol_layout.specs.declared.form.PlaceForm.{PlaceForm}
use Rattle.vol_format.specs.Directory.{Listed}
use Rattle.file_cmds.specs.Address.{is_binary}
use Rattle.volume_compare.specs.Contents.{IsUnread, SeenVolume}
use Rattle.volume_extract.specs.Items.{Found, found_folder, found_file, found_both, found_text, found_unread, IsAddress, IsFound, IsFoundIn, is_folder_at, is_text, shown_of}
use Rattle.volume_extract.specs.Texts.{are_alone, view_of}
use Rattle.volume_extract.specs.declared.body.Body.{Body}
use Rattle.volume_extract.specs.declared.body.Body.TheVariants as body
use Rattle.volume_extract.specs.declared.looking.Looked.{Looked}
use Rattle.volume_extract.specs.declared.looking.Looked.TheVariants as looked
use Rattle.volume_extract.specs.declared.seeing.Seen.{Seen}
use Rattle.volume_extract.specs.declared.texts.Texts.{Texts}
use Rattle.volume_extract.specs.declared.texts.Texts.TheVariants.{Without, Beside, Alone}

-- a directory; a file with this whole text; or one that can't be read
abbrev pub IsLooked : SeenVolume → (ℕ → Type 0) → ℕ → Looked → Type 0
IsLooked volume failed entry looked.Folder = is_folder_at volume entry ≡ true
IsLooked volume failed entry (looked.Whole whole) =
    (is_folder_at volume entry ≡ false) × IsWholeTextOf volume.meaning volume.directory volume.store entry whole.items
IsLooked volume failed entry looked.Unreadable = (is_folder_at volume entry ≡ false) × IsUnread volume failed entry

-- what is found of it
abbrev pub body_view : Body → Found
body_view body.Folder = found_folder
body_view (body.File bytes) = found_file bytes.items
body_view (body.Both bytes text) = found_both bytes.items text.items
body_view (body.Text text) = found_text text.items
body_view body.Unreadable = found_unread

-- a file of a kind, whose entry has these bytes, with this whole text
abbrev pub view_with : PlaceForm → ℕ → FileMeaning → Listed → List ℕ → FileView
view_with form kind files entry whole = view_of form kind whole (files.body entry.bytes whole)

-- what was seen of it, where it is this; `view` is the file with a whole text
abbrev pub IsSeenBy : Texts → (List ℕ → FileView) → Looked → Seen → Type 0
IsSeenBy texts view looked.Folder seen = body_view seen.body ≡ found_folder
IsSeenBy texts view (looked.Whole whole) seen =
    IsFoundIn texts (view whole.items) (body_view seen.body) × (seen.address ≡ number_at whole.items 0)
IsSeenBy texts view looked.Unreadable seen = (body_view seen.body ≡ found_unread) × (seen.address ≡ 0)

-- what is found of it, and of a file its address
pub record IsSeen (texts : Texts) (volume : SeenVolume) (failed : ℕ → Type 0) (entry : ℕ) (seen : Seen) : Type 0 where
  pub found : IsFound texts volume failed entry (body_view seen.body)
  pub address : is_folder_at volume entry ≡ false → IsAddress volume failed entry seen.address

-- a file that has to be seen before it is named: one that has an address, or any where the name says whether it has a
-- readable form
abbrev pub is_early : Texts → SeenVolume → ℕ → Bool
is_early texts volume entry =
    not (is_folder_at volume entry) && (are_alone texts || is_binary volume.form (shown_of volume entry))

-- What was seen of one before it is named; of another it is not known.
abbrev pub IsEarly : Type 0 → Texts → SeenVolume → (ℕ → Type 0) → ℕ → Option Seen → Type 0
IsEarly Holds texts volume failed entry None = is_early texts volume entry ≡ false
IsEarly Holds texts volume failed entry (Some seen) =
    (is_early texts volume entry ≡ true) × (Holds → IsSeen texts volume failed entry seen)

-- the aux type that is told: what is shown, or the address
abbrev pub aux_seen : {A : Type 0} → PlaceForm → ListEntry A → Option Seen → ℕ
aux_seen form shown None = shown.aux
aux_seen form shown (Some seen) = if is_binary form shown then seen.address else shown.aux

-- whether the name says that a readable form stands there in the place of its file
abbrev pub text_seen : Texts → Option Seen → Bool
text_seen Alone (Some seen) = is_text (body_view seen.body)
text_seen Alone None = false
text_seen Beside early = false
text_seen Without early = false

-- what was seen early is not seen anew
abbrev pub IsSeenOn : Option Seen → Seen → Type 0
IsSeenOn None seen = Unit {0}
IsSeenOn (Some early) seen = seen ≡ early
