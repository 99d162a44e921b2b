-- From the readable forms of an extraction the bytes of their files are taken.
use Rattle.std.proofs.Common.{◌≡◌, ◌<◌, ◌∙◌, ℕ, true, List, Option, Some, None, codes, length, refl, sym, ap, ap₂, subst, arith, inl, inr}
use Rattle.std.specs.Prelude.{◌&&◌, Bool, Contains, slice_get, slice_index_or}
use Rattle.std.specs.Str.{bytes_eq}
use Rattle.std.proofs.lemmas.List.{append_cancel_right}
use Rattle.std.proofs.lemmas.List.Quantifiers.{position-Some}
use Rattle.std.proofs.lemmas.Option.{slice_get-get_or, slice_get_within}
use Rattle.std.proofs.lemmas.Slice.Eq.{bytes_eq-Decides}
use Rattle.file_formats.specs.DosFiles.{dos_body}
use Rattle.file_forms.specs.Found.{FileView}
use Rattle.file_forms.specs.Readable.{IsTakenBack, IsTextTakenBack}
use Rattle.file_forms.specs.Shown.{form_of as file_form}
use Rattle.file_forms.specs.declared.form.FileForm.{FileForm}
use Rattle.file_forms.specs.declared.form.FileForm.TheVariants as forms
use Rattle.folder_adding.specs.AddReply.{batch_of}
use Rattle.folder_adding.specs.HostEntries.{EntryView, is_file as is_file_entry, second_at, stands_beside}
use Rattle.folder_adding.specs.Items.{ItemView}
use Rattle.folder_adding.specs.OneVerdict.{HasOneVerdict}
use Rattle.folder_adding.specs.Plan.{IsPlan, PlanView}
use Rattle.folder_adding.specs.Reads.{AreGivenBack, GivesBack, host_file}
use Rattle.folder_adding.specs.Verdicts.{AddedFolder, form_beside, second_in}
use Rattle.folder_adding.specs.declared.host_entry.HostKind.{HostKind}
use Rattle.folder_adding.specs.declared.host_entry.HostKind.TheVariants.{File, Folder, Other}
use Rattle.folder_adding.specs.declared.item.Second.{Second}
use Rattle.host_folders.specs.declared.said.Content.TheVariants.{Bytes}
use Rattle.host_folders.specs.Folder.{file, folder as made_folder}
use Rattle.host_folders.specs.HostNames.{dos_type, text_beside, type_in, type_of}
use Rattle.host_folders.specs.declared.entry.Naming.TheVariants.{Naps}
use Rattle.pro_dir.specs.declared.date.ProDate.{ProDate}
use Rattle.round_trip.specs.Extracted.{Extracted, IsExtracted, entry_in, item_in}
use Rattle.round_trip.specs.Planned.{file_at, item_again}
use Rattle.round_trip.specs.Whole.{AreEntriesOf, HoldWhatWasMade, IsFileIn, MayAllBeNew, body_of}
use Rattle.round_trip.proofs.Bodies.{bodies}
use Rattle.round_trip.proofs.Forms.{no_text_alone, program_type, text_type}
use Rattle.round_trip.proofs.Items.{Failed, known, volume_of}
use Rattle.round_trip.proofs.Made.{either, made_at, only}
use Rattle.round_trip.proofs.Own.{no_form, same_number}
use Rattle.round_trip.proofs.Whole.{whole as all_planned}
use Rattle.shop_jobs.specs.declared.folders.ExtractOptions.{ExtractOptions}
use Rattle.shop_jobs.specs.declared.input.FileSystem.{FileSystem}
use Rattle.shop_jobs.specs.declared.input.FileSystem.TheVariants.{Dos, Prodos}
use Rattle.shop_commands.specs.Extracting.{plan_in}
use Rattle.shop_replies.specs.Volume.{form_of}
use Rattle.std.specs.declared.alloc.Global.{Global}
use Rattle.vol_format.specs.Directory.{Listed}
use Rattle.volume_extract.specs.ExtractText.{is_file}
use Rattle.volume_extract.specs.Items.{Found, IsFound, found_both, found_file, found_folder, found_text, found_unread, made_by, made_in}
use Rattle.volume_extract.specs.Texts.{texts_for, view_of}

-- ---- a file of the host is taken from what the file of the volume was taken from

text_kind : (kind : ℕ) → dos_type kind ≡ 0x04 → kind ≡ 0
text_kind kind is = grind (arith, is)

module _ (data_disk : Bool) (options : ExtractOptions) where
  abbrev seen : FileSystem → Listed → List ℕ → FileView
  seen file_system entry whole =
      let files = (plan_in file_system data_disk options).files in
      view_of (form_of file_system) (files.shown {A = Global} entry).kind whole (files.body entry.bytes whole)

  text_back : (file_system : FileSystem) (entry : Listed) (whole text : List ℕ) → (seen file_system entry whole).info.file_type ≡ 0x04
      → IsTextTakenBack (seen file_system entry whole) text → IsTextTakenBack (host_file file_system (seen file_system entry whole).body) text
  text_back Dos entry whole text type taken =
      let kind = ((plan_in Dos data_disk options).files.shown {A = Global} entry).kind in
      let same : (seen Dos entry whole).body ≡ whole = ap (λ (kind : ℕ). dos_body kind whole) (text_kind kind type) in
      subst (λ (bytes : List ℕ). IsTextTakenBack (host_file Dos bytes) text) (sym same) (record { taken = taken.taken; zeros = taken.zeros })
  text_back Prodos entry whole text type taken = record { taken = taken.taken; zeros = taken.zeros }

  taken_in : (file_system : FileSystem) (entry : Listed) (whole text : List ℕ) (shown form : FileForm)
      → file_form (seen file_system entry whole).info.file_type ≡ Some shown → IsTakenBack shown (seen file_system entry whole) text
      → form_beside Bytes (seen file_system entry whole).info.file_type ≡ Some form
      → GivesBack file_system form text (seen file_system entry whole).body
  taken_in file_system entry whole text forms.Text form is taken beside =
      let type = text_type (seen file_system entry whole).info.file_type is in
      let same : Some forms.Text ≡ Some form = sym (ap (form_beside Bytes) type) ∙ beside in
      let one : forms.Text ≡ form = cc in
      subst (λ (f : FileForm). GivesBack file_system f text (seen file_system entry whole).body) one (text_back file_system entry whole text type taken)
  taken_in file_system entry whole text forms.Applesoft form is taken beside =
      let type = program_type (seen file_system entry whole).info.file_type is in
      let same : Some forms.Applesoft ≡ Some form = sym (ap (form_beside Bytes) type) ∙ beside in
      let one : forms.Applesoft ≡ form = cc in
      subst (λ (f : FileForm). GivesBack file_system f text (seen file_system entry whole).body) one taken
  taken_in file_system entry whole text forms.Integer form is taken beside = absurd taken
  taken_in file_system entry whole text forms.Single form is taken beside = absurd taken

-- ---- the readable form that stands beside a file

second_parts : (form : Option FileForm) (place : Option ℕ) (second : Second) → second_in form place ≡ Some second
    → (form ≡ Some second.form) × (place ≡ Some second.file)
second_parts None place second is = absurd cc
second_parts (Some form) None second is = absurd cc
second_parts (Some form) (Some place) second is =
    let one : record { file = place; form = form } ≡ second = cc in
    (ap (λ (s : Second). Some s.form) one, ap (λ (s : Second). Some s.file) one)

abbrev no_entry : EntryView
no_entry = record { path = codes ""; kind = Other }

as_file : (path : List ℕ) (entry : EntryView) → stands_beside path entry ≡ true → entry ≡ file_at (text_beside path)
as_file path entry is = by entry.kind refl is
  where
    by : (kind : HostKind) → entry.kind ≡ kind → (is_file_entry kind && bytes_eq (text_beside path) entry.path) ≡ true → entry ≡ file_at (text_beside path)
    by File of is =
        ap₂ (λ (p : List ℕ) (k : HostKind). (λ (e : EntryView). e) (record { path = p; kind = k })) (sym ((bytes_eq-Decides (text_beside path) entry.path).0 is)) of
    by Folder of is = absurd cc
    by Other of is = absurd cc

there_at : (entries : List EntryView) (path : List ℕ) (place : ℕ) → second_at entries path ≡ Some place
    → slice_get entries place ≡ Some (file_at (text_beside path))
there_at entries path place is =
    let found = position-Some (stands_beside path) entries place no_entry is in
    slice_get-get_or entries place no_entry found.0
    ∙ ap (λ (e : EntryView). Some e) (as_file path (slice_index_or entries place no_entry) found.1)

module _ (e : Extracted) (is : IsExtracted e) (number : ℕ) (inside : number < length e.items) (read : is_file (item_in e number).found ≡ true)
    (text : List ℕ) where
  -- what was put there is the readable form of the file
  abbrev IsItsForm : Type 0
  IsItsForm = (put : List ℕ) × ((item_in e number).found ≡ found_both put text)

  of_other : (other : ℕ) (found : Found) → other < length e.items → (item_in e other).found ≡ found → is_file found ≡ true
      → (item_in e other).host ≡ text_beside (item_in e number).host → ⊥
  of_other other found low same also host = no_form e is number other inside low read (ap is_file same ∙ also) (sym host)

  by_found : (other : ℕ) → other < length e.items → (found : Found) → (item_in e other).found ≡ found
      → Contains (made_by (item_in e other).host found) (file (text_beside (item_in e number).host) text) → IsItsForm
  by_found other low found_folder same has =
      let differ : made_folder (item_in e other).host ≡ file (text_beside (item_in e number).host) text = only _ _ has in absurd cc
  by_found other low (found_file put) same has =
      let one : file (item_in e other).host put ≡ file (text_beside (item_in e number).host) text = only _ _ has in
      let host : (item_in e other).host ≡ text_beside (item_in e number).host = cc in
      absurd (of_other other (found_file put) low same refl host)
  by_found other low (found_both put shown) same has = elim (either _ _ _ has) [
    | inl first ↦
        let host : (item_in e other).host ≡ text_beside (item_in e number).host = cc in
        absurd (of_other other (found_both put shown) low same refl host)
    | inr second ↦
        let hosts : text_beside (item_in e other).host ≡ text_beside (item_in e number).host = cc in
        let texts : shown ≡ text = cc in
        let one = same_number e is other number low inside (append_cancel_right (item_in e other).host (item_in e number).host (codes ".utf8.txt") hosts) in
        (put, ap (λ (n : ℕ). (item_in e n).found) (sym one) ∙ same ∙ ap (found_both put) texts)
  ]
  by_found other low (found_text shown) same has = absurd (no_text_alone e is other low shown same)
  by_found other low found_unread same has = absurd (omega (arith, has.1))

  its_form : Contains (made_in e.items) (file (text_beside (item_in e number).host) text) → IsItsForm
  its_form has =
      let at = made_at e.items (file (text_beside (item_in e number).host) text) has in
      by_found at.0 at.1 (item_in e at.0).found refl at.2

  -- and the bytes of the file are taken from it
  form_back : IsItsForm → (form : FileForm) → form_beside Bytes (type_of (item_in e number).entry) ≡ Some form
      → GivesBack e.volume.file_system form text (body_of (item_in e number).found)
  form_back its form beside =
      let k = known e is number inside in
      let entry = entry_in e number in
      let found = subst (IsFound (texts_for Naps e.options.texts) (volume_of e) (Failed e) number) its.1 k.found in
      let readable = found.is_found.2 in
      let type = ap₂ type_in k.form k.kind in
      subst (λ (bytes : List ℕ). GivesBack e.volume.file_system form text bytes) (sym (ap body_of its.1 ∙ found.is_found.1))
      (taken_in e.volume.data_disk e.options e.volume.file_system entry found.whole text readable.form form readable.of_type readable.taken_back (sym (ap (form_beside Bytes) type) ∙ beside))

-- ---- the plan

module _ (one_verdict : (folder : AddedFolder) (entry : EntryView) → HasOneVerdict folder entry) (e : Extracted) (folder : AddedFolder) (plan : PlanView)
    (date : ProDate) (contents : ℕ → List ℕ) (is : IsExtracted e) (same : folder.file_system ≡ e.volume.file_system)
    (hold : HoldWhatWasMade (made_in e.items) folder.entries contents) where
  file_back : (number : ℕ) → IsFileIn e number → (second : Second) → (item_again folder e number Bytes).second ≡ Some second
      → GivesBack folder.file_system second.form (contents second.file) (body_of (item_in e number).found)
  file_back number of second beside =
      let parts = second_parts (form_beside Bytes (type_of (item_in e number).entry)) (second_at folder.entries (item_in e number).host) second beside in
      let path = text_beside (item_in e number).host in
      let made = hold second.file path (there_at folder.entries (item_in e number).host second.file parts.1) in
      subst (λ (file_system : FileSystem). GivesBack file_system second.form (contents second.file) (body_of (item_in e number).found)) (sym same)
      (form_back e is number of.0 of.1 (contents second.file) (its_form e is number of.0 of.1 (contents second.file) made) second.form parts.0)

  pub given_back : AreEntriesOf (made_in e.items) folder.entries → MayAllBeNew e → IsPlan folder plan
      → AreGivenBack (batch_of (record { folder = folder; plan = plan; date = date })) contents
  given_back are may planned = λ place item second there beside.
      let again = (all_planned one_verdict e is folder same are may).again plan planned in
      let found = again.files.none_else place (slice_get_within plan.items place item there) in
      let number = found.0 in
      let one : Some item ≡ Some (item_again folder e number Bytes) = sym there ∙ found.1.item in
      let item_is : item ≡ item_again folder e number Bytes = cc in
      subst (λ (bytes : List ℕ). GivesBack folder.file_system second.form (contents second.file) bytes)
      (sym (bodies e folder plan contents is hold place number found.1))
      (file_back number found.1.of second (ap (λ (i : ItemView). i.second) (sym item_is) ∙ beside))
