-- Items on a device that is read on.
use Rattle.std.proofs.Common.{◌≡◌, ℕ, Bool, true, false, List, length, refl, ap, subst, inl, inr, ⊎_elim}
use Rattle.std.specs.Prelude.{IsTrue}
use Rattle.a2_device.specs.Device.{DeviceState}
use Rattle.vol_format.specs.Directory.{Listed}
use Rattle.file_cmds.specs.ReadingOn.{FailedInFile, ReadsOn}
use Rattle.file_cmds.specs.lemmas.Reading.{failed_in_file_before, failed_in_file_since}
use Rattle.host_folders.specs.declared.entry.Naming.{Naming}
use Rattle.volume_compare.specs.Contents.{IsUnread, SeenVolume}
use Rattle.volume_extract.specs.Items.{AreItems, AuxBy, Contents, Found, IsAddress, IsAux, IsFound, IsNamed, IsNext, Item, SaysText, SaysTextBy, found_folder, found_file, found_both, found_text, found_unread, has_address, no_items, one_more}
use Rattle.volume_extract.specs.Looked.{IsSeen, body_view}
use Rattle.volume_extract.specs.Source.{Source, contents_at, contents_since, seen_at}
use Rattle.volume_extract.specs.Texts.{are_alone}
use Rattle.volume_extract.specs.declared.seeing.Seen.{Seen}
use Rattle.volume_extract.specs.declared.texts.Texts.{Texts}

-- ---- what is told of contents by one is told by another

module _ (volume : SeenVolume) (own : Listed → List ℕ) (naming : Naming) (old new : Contents) (same : old.alone ≡ new.alone)
    (aux : (entry n : ℕ) → old.HasAux entry n → new.HasAux entry n)
    (found : (entry : ℕ) (text : Bool) (f : Found) → old.HasFound entry text f → new.HasFound entry text f) where
  text_by : (b : Bool) (entry : ℕ) (text : Bool) → SaysTextBy b old entry text → SaysTextBy b new entry text
  text_by true entry text is = (is.0, found entry text is.0 is.1)
  text_by false entry text is = is

  pub named_by : (items : List Item) (item : Item) → IsNamed volume own old naming items item → IsNamed volume own new naming items item
  named_by items item is = record {
    above = is.above;
    form = is.form;
    name = is.name;
    kind = is.kind;
    aux = aux _ _ is.aux;
    text = subst (λ (b : Bool). SaysTextBy b new (length items) item.entry.text) same (text_by old.alone (length items) item.entry.text is.text);
    folder_or_file = is.folder_or_file;
    fits = is.fits;
    short = is.short;
    number = is.number;
    few = is.few;
    depth = is.depth;
    host = is.host;
  }

  pub next_by : (items : List Item) (item : Item) → IsNext volume own old naming items item → IsNext volume own new naming items item
  next_by items item is = record { named = named_by items item is.named; found = found _ _ _ is.found }

  pub items_by : (items : List Item) → AreItems volume own old naming items → AreItems volume own new naming items
  items_by items no_items = no_items
  items_by items (one_more earlier item are is) = one_more earlier item (items_by earlier are) (next_by earlier item is)

-- ---- failures

module _ (volume : SeenVolume) (old new : ℕ → Type 0) (failed : (entry : ℕ) → old entry → new entry) where
  pub unread_by : (entry : ℕ) → IsUnread volume old entry → IsUnread volume new entry
  unread_by entry is = ⊎_elim (λ fault. inl fault) (λ one. inr (failed entry one)) is

  pub found_wider : (texts : Texts) (entry : ℕ) (f : Found) → IsFound texts volume old entry f → IsFound texts volume new entry f
  found_wider texts entry found_folder is = is
  found_wider texts entry (found_file bytes) is = is
  found_wider texts entry (found_both bytes text) is = is
  found_wider texts entry (found_text text) is = is
  found_wider texts entry found_unread is = (is.0, unread_by entry is.1)

  address_wider : (entry n : ℕ) → IsAddress volume old entry n → IsAddress volume new entry n
  address_wider entry n is = ⊎_elim (λ whole. inl whole) (λ unread. inr (unread_by entry unread.0, unread.1)) is

  aux_in : (b : Bool) (entry n : ℕ) → AuxBy b volume old entry n → AuxBy b volume new entry n
  aux_in true entry n is = address_wider entry n is
  aux_in false entry n is = is

  pub aux_wider : (entry n : ℕ) → IsAux volume old entry n → IsAux volume new entry n
  aux_wider entry n is = aux_in (has_address volume entry) entry n is

  pub seen_wider : (texts : Texts) (entry : ℕ) (seen : Seen) → IsSeen texts volume old entry seen → IsSeen texts volume new entry seen
  seen_wider texts entry seen is = record {
    found = found_wider texts entry (body_view seen.body) is.found;
    address = λ of_file. address_wider entry seen.address (is.address of_file);
  }

-- ---- reading on

module _ (source : Source) (start now later : DeviceState) (reads : ReadsOn now later) where
  pub failed_later : (entry : ℕ) → FailedInFile source.meaning source.directory start now entry → FailedInFile source.meaning source.directory start later entry
  failed_later entry failed = failed_in_file_before source.meaning source.directory start now later entry reads failed

  pub aux_later : (entry n : ℕ) → (contents_since source start now).HasAux entry n → (contents_since source start later).HasAux entry n
  aux_later entry n is = λ honest. aux_wider (seen_at source start) _ _ failed_later entry n (is honest)

  pub found_later : (entry : ℕ) (text : Bool) (f : Found) → (contents_since source start now).HasFound entry text f
      → (contents_since source start later).HasFound entry text f
  found_later entry text f is = λ honest.
      let known = is honest in
      (found_wider (seen_at source start) _ _ failed_later source.texts entry f known.0, known.1)

  pub items_later : (items : List Item) → AreItems (seen_at source start) source.own (contents_since source start now) source.naming items
      → AreItems (seen_at source start) source.own (contents_since source start later) source.naming items
  items_later = items_by (seen_at source start) source.own source.naming (contents_since source start now) (contents_since source start later) refl aux_later found_later

  pub next_later : (items : List Item) (item : Item) → IsNext (seen_at source start) source.own (contents_since source start now) source.naming items item
      → IsNext (seen_at source start) source.own (contents_since source start later) source.naming items item
  next_later = next_by (seen_at source start) source.own source.naming (contents_since source start now) (contents_since source start later) refl aux_later found_later

  pub text_later : (entry : ℕ) (text : Bool) → SaysText (contents_since source start now) entry text
      → SaysText (contents_since source start later) entry text
  text_later entry text is =
      text_by (seen_at source start) source.own source.naming (contents_since source start now) (contents_since source start later) refl aux_later found_later
      (are_alone source.texts) entry text is

-- of an honest device
module _ (source : Source) (start now : DeviceState) (honest : IsTrue start.honest) where
  pub items_here : (items : List Item) → AreItems (seen_at source start) source.own (contents_since source start now) source.naming items
      → AreItems (seen_at source start) source.own (contents_at source start now) source.naming items
  items_here = items_by (seen_at source start) source.own source.naming (contents_since source start now) (contents_at source start now) refl
      (λ entry n is. is honest) (λ entry text f is. is honest)

  pub named_here : (items : List Item) (item : Item) → IsNamed (seen_at source start) source.own (contents_since source start now) source.naming items item
      → IsNamed (seen_at source start) source.own (contents_at source start now) source.naming items item
  named_here = named_by (seen_at source start) source.own source.naming (contents_since source start now) (contents_at source start now) refl
      (λ entry n is. is honest) (λ entry text f is. is honest)

  pub next_here : (items : List Item) (item : Item) → IsNext (seen_at source start) source.own (contents_since source start now) source.naming items item
      → IsNext (seen_at source start) source.own (contents_at source start now) source.naming items item
  next_here = next_by (seen_at source start) source.own source.naming (contents_since source start now) (contents_at source start now) refl
      (λ entry n is. is honest) (λ entry text f is. is honest)

-- what was looked at since
module _ (source : Source) (start now last : DeviceState) (honest : IsTrue start.honest) (reads : ReadsOn start now) where
  pub same_seen : seen_at source now ≡ seen_at source start
  same_seen = ap (λ (device : DeviceState). seen_at source device) (reads.kept honest)

  pub seen_since : (entry : ℕ) (seen : Seen)
      → IsSeen source.texts (seen_at source now) (FailedInFile source.meaning source.directory now last) entry seen
      → IsSeen source.texts (seen_at source start) (FailedInFile source.meaning source.directory start last) entry seen
  seen_since entry seen is =
      seen_wider (seen_at source start) (FailedInFile source.meaning source.directory now last) (FailedInFile source.meaning source.directory start last)
      (λ one failed. failed_in_file_since source.meaning source.directory start now last one honest reads failed) source.texts entry seen
      (subst (λ (volume : SeenVolume). IsSeen source.texts volume (FailedInFile source.meaning source.directory now last) entry seen) same_seen is)
