-- Readable forms and folders that were extracted.
use Rattle.std.proofs.Common.{◌≡◌, ◌≢◌, ◌<◌, ◌⊎◌, ◌∙◌, ℕ, suc, zero, ◌+◌, true, false, List, [], ◌∷◌, Option, Some, None, codes, length, refl, sym, ap, ap₂, subst, arith, inl, inr}
use Rattle.std.specs.Prelude.{◌&&◌, ◌||◌, Bool, Ok, if◌then◌else◌, nat_lt, slice_index_or}
use Rattle.std.specs.Str.{bytes_eq}
use Rattle.std.proofs.lemmas.Bool.{false≢true}
use Rattle.std.proofs.lemmas.Bool.Decides.{Decides-like, same_from_decides}
use Rattle.std.proofs.lemmas.List.{append_cancel_right}
use Rattle.std.proofs.lemmas.Slice.Eq.{bytes_eq-Decides}
use Rattle.a2_device.specs.declared.part.PartKind.{PartKind}
use Rattle.a2_device.specs.declared.part.PartKind.TheVariants.{List as AList}
use Rattle.dos_catalog.specs.Entry.{entries_in}
use Rattle.dos_catalog.specs.declared.entry.Entry.{Entry}
use Rattle.dos_format.specs.Dos.{link_to, numbered}
use Rattle.dos_tslist.specs.Reach.{entry_pointer}
use Rattle.file_forms.specs.Found.{FileView as FormView}
use Rattle.file_forms.specs.Readable.{IsTakenBack}
use Rattle.file_forms.specs.Shown.{form_of as file_form}
use Rattle.file_forms.specs.declared.form.FileForm.{FileForm}
use Rattle.file_forms.specs.declared.form.FileForm.TheVariants as forms
use Rattle.folder_adding.specs.HostEntries.{EntryView, has_file, has_file_beside, is_file as is_file_entry, readable_path}
use Rattle.folder_adding.specs.HostPaths.{SayFolders, SaysDirectory, Text, parts, pro_path}
use Rattle.folder_adding.specs.Verdicts.{AddedFolder, IsVerdict, directory_type, is_directory as is_directory_verdict, is_readable, is_second, makes, no_directory_name, second_form, second_of}
use Rattle.host_folders.specs.HostEntries.{FileView, SaysFile, SaysFolder}
use Rattle.host_folders.specs.ReadBack.{entry_file}
use Rattle.host_folders.specs.declared.said.Content.{Content}
use Rattle.host_folders.specs.declared.said.Content.TheVariants.{Bytes, Text as AText, Program}
use Rattle.host_folders.proofs.ReadBack.{text_read_back}
use Rattle.host_folders.specs.HostNames.{Entry as HostEntry, host_name, text_beside, type_in, type_of}
use Rattle.host_folders.specs.declared.entry.Naming.TheVariants.{Naps}
use Rattle.host_folders.proofs.Beside.{beside_is_safe}
use Rattle.vol_layout.specs.declared.form.PlaceForm.TheVariants.{Block}
use Rattle.round_trip.specs.Extracted.{Extracted, IsExtracted, directories_of, directory_said, entry_in, item_in, said_of}
use Rattle.round_trip.specs.Planned.{IsDirectoryAgain, IsFormPlannedAgain, content_in, content_of, folder_at, path_again, path_in}
use Rattle.round_trip.proofs.Above.{host_no_slash, say_parts, says_folder}
use Rattle.round_trip.proofs.Items.{Failed, file_found, folder_found, known, volume_of}
use Rattle.round_trip.proofs.Paths.{safe_no_slash}
use Rattle.round_trip.proofs.Planning.{planned}
use Rattle.round_trip.proofs.Says.{pro_again, says_path}
use Rattle.shop_jobs.specs.declared.input.FileSystem.{FileSystem}
use Rattle.shop_jobs.specs.declared.input.FileSystem.TheVariants.{Dos, Prodos}
use Rattle.shop_replies.specs.Volume.{meaning_of}
use Rattle.vol_format.specs.Directory.{Directory, entry_of, is_directory, leads_to_directory, no_entry}
use Rattle.vol_format.specs.declared.link.Link.{Link}
use Rattle.volume_compare.specs.Contents.{SeenVolume}
use Rattle.volume_extract.specs.ExtractText.{has_text, is_file, is_folder}
use Rattle.volume_extract.specs.Items.{Found, IsFound, found_both, found_file, found_folder, found_text, found_unread, shown_of}
use Rattle.volume_extract.specs.Texts.{texts_for}
use Rattle.volume_extract.specs.declared.texts.Texts.TheVariants.{Alone}
use Rattle.volume_extract.proofs.SafeHosts.{beside_below}

-- ---- which files have a readable form

abbrev HasForm : ℕ → Type 0
HasForm type = (type ≡ 0x04) ⊎ (type ≡ 0xfc)

pub text_type : (type : ℕ) → file_form type ≡ Some forms.Text → type ≡ 0x04
text_type type is = grind (arith, is)

pub program_type : (type : ℕ) → file_form type ≡ Some forms.Applesoft → type ≡ 0xfc
program_type type is = grind (arith, is)

readable_type : (file : FormView) (text : List ℕ) (form : FileForm) → file_form file.info.file_type ≡ Some form → IsTakenBack form file text
    → HasForm file.info.file_type
readable_type file text forms.Text is taken = inl (text_type file.info.file_type is)
readable_type file text forms.Applesoft is taken = inr (program_type file.info.file_type is)
readable_type file text forms.Integer is taken = absurd taken
readable_type file text forms.Single is taken = absurd taken

none_alone : (texts : Bool) → texts_for Naps texts ≡ Alone → ⊥
none_alone false is = cc
none_alone true is = cc

module _ (wanted : Bool) (volume : SeenVolume) (failed : ℕ → Type 0) (number : ℕ) where
  has_form : (found : Found) → IsFound (texts_for Naps wanted) volume failed number found → has_text found ≡ true
      → HasForm (type_in volume.form (shown_of volume number).kind) × (is_file found ≡ true)
  has_form found_folder is has = absurd cc
  has_form (found_file bytes) is has = absurd cc
  has_form (found_both bytes text) is has =
      let readable = is.is_found.2 in (readable_type _ text readable.form readable.of_type readable.taken_back, refl)
  has_form (found_text text) is has = absurd (none_alone wanted is.is_found.0)
  has_form found_unread is has = absurd cc

-- no readable form stands in the place of its file
pub no_text_alone : (e : Extracted) → IsExtracted e → (number : ℕ) → number < length e.items → (text : List ℕ)
    → (item_in e number).found ≡ found_text text → ⊥
no_text_alone e is number inside text same =
    let found = subst (IsFound (texts_for Naps e.options.texts) (volume_of e) (Failed e) number) same (known e is number inside).found in
    none_alone e.options.texts found.is_found.0

-- its name says its content
text_says : (e : HostEntry) (name : Text) (type : ℕ) → type_of e ≡ type
    → (type ≡ 0x04 → SaysFile e.form (text_beside name) (entry_file e AText))
    → (type ≡ 0xfc → SaysFile e.form (text_beside name) (entry_file e Program)) → HasForm type
    → SaysFile e.form (text_beside name) (entry_file e (content_of type))
text_says e name type of_type text program (inl is) =
    subst (λ (t : ℕ). SaysFile e.form (text_beside name) (entry_file e (content_of t))) (sym is) (text is)
text_says e name type of_type text program (inr is) =
    subst (λ (t : ℕ). SaysFile e.form (text_beside name) (entry_file e (content_of t))) (sym is) (program is)

-- a readable form has none beside it
none_beside : (entries : List EntryView) (path other : Text) (file : FileView) (content : Content) → is_readable content ≡ true
    → second_of entries path (record file { content = content }) ≡ second_of entries other (record file { content = content })
none_beside entries path other file Bytes is = absurd cc
none_beside entries path other file AText is = refl
none_beside entries path other file Program is = refl

-- nor has a directory one
plain_type : (type : ℕ) → HasForm type → type ≢ directory_type
plain_type type (inl is) same = absurd (omega (arith, is, same))
plain_type type (inr is) same = absurd (omega (arith, is, same))

readable_content : (type : ℕ) → HasForm type → is_readable (content_of type) ≡ true
readable_content type (inl is) = subst (λ (t : ℕ). is_readable (content_of t) ≡ true) (sym is) refl
readable_content type (inr is) = subst (λ (t : ℕ). is_readable (content_of t) ≡ true) (sym is) refl

-- ---- beside which file a form stands

same_beside : (one other : List ℕ) → bytes_eq one other ≡ bytes_eq (readable_path one) (readable_path other)
same_beside one other =
    same_from_decides (bytes_eq one other) (bytes_eq (readable_path one) (readable_path other)) (bytes_eq-Decides one other)
    (Decides-like (bytes_eq (readable_path one) (readable_path other)) (append_cancel_right one other (codes ".utf8.txt")) (ap readable_path)
    (bytes_eq-Decides (readable_path one) (readable_path other)))

beside_file : (entries : List EntryView) (path : List ℕ) → has_file entries path ≡ has_file_beside entries (readable_path path)
beside_file [] path = refl
beside_file (entry ∷ entries) path =
    ap₂ (λ (here behind : Bool). (is_file_entry entry.kind && here) || behind) (same_beside path entry.path) (beside_file entries path)

second : (b c : Bool) → b ≡ true → (b && c) ≡ c
second true c is = refl
second false c is = absurd cc

module _ (e : Extracted) (is : IsExtracted e) (number : ℕ) (inside : number < length e.items) (has : has_text (item_in e number).found ≡ true) where
  form_has : HasForm (type_of (item_in e number).entry) × (is_file (item_in e number).found ≡ true)
  form_has =
      let k = known e is number inside in
      let form = has_form e.options.texts (volume_of e) (Failed e) number (item_in e number).found k.found has in
      (subst HasForm (sym (ap₂ type_in k.form k.kind)) form.0, form.1)

  pub file_of_form : is_file (item_in e number).found ≡ true
  file_of_form = form_has.1

  -- where the file is an entry, its form is the second one
  is_second_form : (folder : AddedFolder) (b : Bool) → has_file folder.entries (item_in e number).host ≡ b
      → is_second folder (text_beside (item_in e number).host) (said_of e number (content_in e number)) ≡ b
  is_second_form folder b there =
      let type = type_of (item_in e number).entry in
      second (is_readable (content_of type)) (has_file_beside folder.entries (text_beside (item_in e number).host)) (readable_content type form_has.0)
      ∙ sym (beside_file folder.entries (item_in e number).host) ∙ there

  pub form_again : (folder : AddedFolder) → folder.file_system ≡ e.volume.file_system → IsFormPlannedAgain folder e number
  form_again folder same =
      let all = known e is in
      let k = all number inside in
      let item = item_in e number in
      let host = host_name Naps item.entry item.number in
      let type = type_of item.entry in
      let content = content_in e number in
      let path = text_beside item.host in
      let back = text_read_back item.entry item.number k.fits k.counts (file_found e is number inside file_of_form) in
      let lacks = safe_no_slash (text_beside host) (beside_is_safe Naps item.entry item.number k.fits k.short k.counts) in
      let says = says_path e all number inside (text_beside host) content lacks
      (text_says item.entry host type refl back.text back.program form_has.0) folder.file_system same path
      (ap text_beside k.host ∙ beside_below e.items item.above host) in
      record {
        says = says;
        passed = λ there. second_form (said_of e number content) (says, plain_type type form_has.0) (is_second_form folder true there);
        alone = λ none may.
            planned e all number inside folder same path content says (is_second_form folder false none)
            (none_beside folder.entries path item.host (said_of e number content).file content (readable_content type form_has.0)) may;
      }

-- ---- folders

choice_leads_on : (b : Bool) (one other : Link) → leads_to_directory one ≡ false → leads_to_directory other ≡ false
    → leads_to_directory (if b then one else other) ≡ false
choice_leads_on true one other is also = is
choice_leads_on false one other is also = also

-- no entry of DOS 3.3 is a directory's
link_to_file : (file number : ℕ) (kind : PartKind) (pointer : Option (ℕ × ℕ)) → leads_to_directory (link_to file kind number pointer) ≡ false
link_to_file file number kind None = refl
link_to_file file number kind (Some pointer) = choice_leads_on (nat_lt 34 pointer.0 || nat_lt 15 pointer.1) _ _ refl refl

numbered_files : (file : ℕ) (entries : List Entry) (number : ℕ) → is_directory (slice_index_or (numbered file entries) number no_entry) ≡ false
numbered_files file [] number = refl
numbered_files file (entry ∷ entries) zero = link_to_file file 0 AList (entry_pointer entry)
numbered_files file (entry ∷ entries) (suc number) = numbered_files (file + 1) entries number

module _ (e : Extracted) (is : IsExtracted e) (number : ℕ) (inside : number < length e.items) (led : is_folder (item_in e number).found ≡ true) where
  dos_has_none : e.volume.file_system ≡ Dos → ⊥
  dos_has_none dos =
      let described = subst (λ (file_system : FileSystem). (meaning_of file_system e.volume.data_disk []).Describes e.device.store e.directory) dos is.described in
      let k = known e is number inside in
      let one : is_directory (entry_of e.directory number) ≡ true = sym k.directory ∙ folder_found e is number inside led in
      let none : is_directory (entry_of e.directory number) ≡ false =
      ap (λ (directory : Directory). is_directory (entry_of directory number)) described.says
      ∙ numbered_files 0 (entries_in e.device.store described.sectors) number in
      false≢true (sym none ∙ one)

  of_prodos : (file_system : FileSystem) → e.volume.file_system ≡ file_system → e.volume.file_system ≡ Prodos
  of_prodos Dos dos = absurd (dos_has_none dos)
  of_prodos Prodos prodos = prodos

  module _ (folder : AddedFolder) (same : folder.file_system ≡ e.volume.file_system) where
    is_prodos : e.volume.file_system ≡ Prodos
    is_prodos = of_prodos e.volume.file_system refl

    says_directory : SaysDirectory folder.file_system (item_in e number).host (directory_said e number)
    says_directory =
        let all = known e is in
        let k = all number inside in
        let item = item_in e number in
        let host = host_name Naps item.entry item.number in
        subst (λ (file_system : FileSystem). SaysDirectory file_system item.host (directory_said e number)) (sym (same ∙ is_prodos))
        (subst (λ (path : Text). SayFolders (parts path) (directories_of e number) item.entry.name) (sym k.host)
        (say_parts e all is_prodos Text (SaysFolder Block) number host item.entry.name inside (host_no_slash e number k)
        (says_folder e all is_prodos number inside (folder_found e is number inside led))))

    path_is : pro_path folder.into (directories_of e number) (item_in e number).entry.name ≡ path_in folder e number
    path_is =
        pro_again e (known e is) number inside folder.into
        ∙ ap (λ (file_system : FileSystem). path_again file_system folder.into (entry_in e number)) (sym (same ∙ is_prodos))

    pub directory_again : IsDirectoryAgain folder e number
    directory_again = record {
      prodos = is_prodos;
      says = says_directory;
      planned = λ named.
          subst (λ (path : Text). IsVerdict folder (folder_at (item_in e number).host) (Ok (makes path))) path_is
          (is_directory_verdict (directory_said e number) says_directory named);
      no_name = λ unnamed. no_directory_name (directory_said e number) says_directory unnamed;
    }
