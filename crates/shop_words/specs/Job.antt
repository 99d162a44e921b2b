-- What the words ask for.
use Rattle.std.specs.Prelude.{ℕ, Bool, true, false, ◌==◌, ◌&&◌, ◌||◌, not, List, [], ◌∷◌, Option, Some, None, codes, nat_le, find, is_some, option_map, option_and_then, if◌then◌else◌}
use Rattle.std.specs.Str.{bytes_eq}
use Rattle.std.specs.Str.Parse.{digits_value}
use Rattle.clap.specs.Walk.{Row, first_of}
use Rattle.a2_device.specs.declared.order.Order.{Order}
use Rattle.a2_device.specs.declared.order.Order.TheVariants as orders
use Rattle.apple_text.specs.declared.form.HighBit.{HighBit}
use Rattle.apple_text.specs.declared.form.HighBit.TheVariants as high_bits
use Rattle.file_forms.specs.declared.form.FileForm.TheVariants as file_forms
use Rattle.host_folders.specs.declared.entry.Naming.{Naming}
use Rattle.host_folders.specs.declared.entry.Naming.TheVariants as namings
use Rattle.shop_jobs.specs.Input.{AsBytes, AsSectors, AsVolume, BesideView, FileBeside, FolderBeside, FromFile, ImageBeside, NothingBeside, Nowhere, ReadingView, SourceView, StandardInput, is_settled}
use Rattle.shop_jobs.specs.Job.{AddTo, AdditionView, AskView, AttributesView, ByPath, ByStored, Catalog, ChangeOf, ChangeView, Check, Compare, Convert, Create, CreationView, Delete, DosVolume, EditOf, EditView, Entries, ExtractFrom, FileNameView, Identify, InPlace, JobView, Lock, LookAt, LookView, MakeDirectory, Map, NewVolumeView, OfTheVolume, Optimize, Plan, ProdosVolume, Read, Reclaim, Rename, Save, Survey, TargetView, ToFile, ToFolder, ToNewFile, ToNothing, Unlock, Unwrap, Verify, Wrap, WrappingView}
use Rattle.shop_jobs.specs.declared.changes.SaveForm.{SaveForm}
use Rattle.shop_jobs.specs.declared.changes.SaveForm.TheVariants as save_forms
use Rattle.shop_jobs.specs.declared.folders.ExtractOptions.{ExtractOptions}
use Rattle.shop_jobs.specs.declared.folders.SurveyForm.{SurveyForm}
use Rattle.shop_jobs.specs.declared.folders.SurveyForm.TheVariants as survey_forms
use Rattle.shop_jobs.specs.declared.input.FileSystem.{FileSystem}
use Rattle.shop_jobs.specs.declared.input.FileSystem.TheVariants as file_systems
use Rattle.shop_jobs.specs.declared.input.OrderSaid.{OrderSaid}
use Rattle.shop_jobs.specs.declared.input.OrderSaid.TheVariants.{ByContainer, ByReading, Is}
use Rattle.shop_jobs.specs.declared.looks.ListForm.{ListForm}
use Rattle.shop_jobs.specs.declared.looks.ListForm.TheVariants as list_forms
use Rattle.shop_jobs.specs.declared.looks.ReadForm.{ReadForm}
use Rattle.shop_jobs.specs.declared.looks.ReadForm.TheVariants as read_forms
use Rattle.shop_words.specs.Hexadecimal.{bytes_named}
use Rattle.shop_words.specs.Plain.{Use, address_named, is_number, is_short, positional_names, value_of}
use Rattle.shop_words.specs.Table.{Text, FormView, forms, fewest_blocks, greatest_number, most_blocks, most_comment, most_writes}
use Rattle.shop_words.specs.Ways.{Said, Words, has_order, is_auto_word, is_container_word, is_on, said, takes_container}
use Rattle.shop_words.specs.declared.table.Reading.{Reading}
use Rattle.shop_words.specs.declared.table.Reading.TheVariants as readings
use Rattle.shop_words.specs.declared.table.Verb.{Verb}
use Rattle.shop_words.specs.declared.table.Verb.TheVariants as verbs

-- ---- what a word names

abbrev pub file_system_named : Text → Option FileSystem
file_system_named word =
    if bytes_eq word (codes "dos") then Some file_systems.Dos else
    if bytes_eq word (codes "prodos") then Some file_systems.Prodos else None

abbrev pub order_named : Text → Option Order
order_named word =
    if bytes_eq word (codes "dos") then Some orders.Dos else
    if bytes_eq word (codes "prodos") then Some orders.Prodos else
    if bytes_eq word (codes "nibble") then Some orders.Nibble else None

-- the number that a word of decimal digits writes, up to the greatest
abbrev pub number_named : ℕ → Text → Option ℕ
number_named greatest word = if is_number greatest word then Some (digits_value 10 word) else None

-- the volume number that is said, 254 where none is
abbrev pub volume_number : Option Text → Option ℕ
volume_number None = Some 254
volume_number (Some word) = number_named 255 word

-- the limit of writes that is said, or that none is
abbrev pub limit_named : Option Text → Option (Option ℕ)
limit_named None = Some None
limit_named (Some word) = option_map Some (number_named most_writes word)

-- the auxiliary type that is said, or that none is
abbrev pub aux_named : Option Text → Option (Option ℕ)
aux_named None = Some None
aux_named (Some word) = option_map Some (address_named word)

-- the form of a list that is said, the names where none is
abbrev pub form_named : Text → Option ListForm
form_named word =
    if bytes_eq word (codes "names") then Some list_forms.Names else
    if bytes_eq word (codes "json") then Some list_forms.Json else
    if bytes_eq word (codes "csv") then Some list_forms.Csv else None

abbrev pub form_said : Option Text → Option ListForm
form_said None = Some list_forms.Names
form_said (Some word) = form_named word

-- the bytes that files may have in all, 2 to the power of 30 where none are said
abbrev pub most_bytes : Option Text → Option ℕ
most_bytes None = Some 1073741824
most_bytes (Some word) = number_named greatest_number word

-- what the names of files tell that is said, type and aux type where nothing is
abbrev pub naming_named : Text → Option Naming
naming_named word =
    if bytes_eq word (codes "naps") then Some namings.Naps else
    if bytes_eq word (codes "plain") then Some namings.Plain else None

abbrev pub naming_said : Option Text → Option Naming
naming_said None = Some namings.Naps
naming_said (Some word) = naming_named word

-- the volume number that a container tells, or that it tells none
abbrev pub told_volume : Option Text → Option (Option ℕ)
told_volume None = Some None
told_volume (Some word) = option_map Some (number_named 255 word)

-- the comment that is said, an empty one where none is
abbrev pub comment_said : Option Text → Option Text
comment_said None = Some []
comment_said (Some word) = if is_short most_comment word then Some word else None

-- the form of a survey that is said, lines where none is
abbrev pub survey_form_named : Text → Option SurveyForm
survey_form_named word =
    if bytes_eq word (codes "lines") then Some survey_forms.Lines else
    if bytes_eq word (codes "json") then Some survey_forms.Json else None

abbrev pub survey_form_said : Option Text → Option SurveyForm
survey_form_said None = Some survey_forms.Lines
survey_form_said (Some word) = survey_form_named word

-- how many blocks a new volume has, 280 where none are said
abbrev pub enough_blocks : ℕ → Option ℕ
enough_blocks blocks = if nat_le fewest_blocks blocks then Some blocks else None

abbrev pub blocks_said : Option Text → Option ℕ
blocks_said None = Some 280
blocks_said (Some word) = option_and_then enough_blocks (number_named most_blocks word)

-- the order of the image of a new volume, that of its file system where none is said
abbrev pub usual_order : FileSystem → Order
usual_order file_systems.Dos = orders.Dos
usual_order file_systems.Prodos = orders.Prodos

abbrev pub order_said : FileSystem → Option Text → Option Order
order_said file_system None = Some (usual_order file_system)
order_said file_system (Some word) = order_named word

-- the image whose system is copied, or that none is; to a data disk none is
abbrev pub boot_said : Bool → Option Text → Option (Option Text)
boot_said false boot = Some boot
boot_said true None = Some None
boot_said true (Some boot) = None

-- ---- how an image is read

-- the order of an image: `auto` is that of its best reading, `2img` that of the header of its container
abbrev pub order_meant : Reading → Text → Option OrderSaid
order_meant reading word =
    if has_order reading && is_auto_word word then Some ByReading else
    if takes_container reading && is_container_word word then Some ByContainer else option_map Is (order_named word)

abbrev pub order_by : Reading → Said → Option OrderSaid
order_by reading said = option_and_then (order_meant reading) (said (codes "order"))

-- files are added to a directory of ProDOS alone
abbrev pub names_directory : Verb → Option Text → Bool
names_directory verbs.Add (Some into) = true
names_directory verb into = false

-- the file system of a volume: `auto` is that of the best reading of its image, but where a directory is named
abbrev pub found_in : Bool → Option FileSystem
found_in true = Some file_systems.Prodos
found_in false = None

abbrev pub file_system_meant : Bool → Text → Option (Option FileSystem)
file_system_meant in_directory word =
    if is_auto_word word then Some (found_in in_directory) else option_map Some (file_system_named word)

abbrev pub file_system_by : Verb → Said → Option (Option FileSystem)
file_system_by verb said =
    option_and_then (file_system_meant (names_directory verb (said (codes "into")))) (said (codes "fs"))

-- that of a volume of ProDOS, said or left out or to the image
abbrev pub is_prodos : Option Text → Bool
is_prodos None = true
is_prodos (Some word) = bytes_eq word (codes "prodos") || is_auto_word word

abbrev pub prodos_by : Said → Option (Option FileSystem)
prodos_by said = if is_prodos (said (codes "fs")) then Some (Some file_systems.Prodos) else None

-- a volume in an order, a data disk where a flag says so; places to reserve are said or not
abbrev pub volume_in : Option (Option FileSystem) → Option OrderSaid → Bool → Option Text → Option ReadingView
volume_in (Some file_system) (Some order) data_disk reserve = Some (AsVolume (record {
  file_system = file_system;
  order = order;
  data_disk = data_disk;
  reserve = reserve;
}))
volume_in _ _ data_disk reserve = None

abbrev pub volume_by : Reading → Option (Option FileSystem) → Said → Option ReadingView
volume_by reading file_system said =
    volume_in file_system (order_by reading said) (is_on (said (codes "data-disk"))) (said (codes "reserve"))

-- as what the image is read: as bytes, where words say nothing of it; as a volume; or as sectors in an order
abbrev pub reading_by : Verb → Reading → Said → Option ReadingView
reading_by verb readings.Nothing said = Some AsBytes
reading_by verb (readings.Volume out) said = volume_by (readings.Volume out) (file_system_by verb said) said
reading_by verb (readings.Prodos out) said = volume_by (readings.Prodos out) (prodos_by said) said
reading_by verb (readings.Order out) said = option_map AsSectors (order_by (readings.Order out) said)
reading_by verb (readings.Bare out) said = option_map AsSectors (order_by (readings.Bare out) said)

-- where the image is: `-` is standard input
abbrev pub is_input : Text → Bool
is_input path = bytes_eq path (codes "-")

abbrev pub source_named : Text → SourceView
source_named path = if is_input path then StandardInput else FromFile path

-- a survey looks at what stands at a path, and a volume is made of no image
abbrev pub source_by : Verb → Said → Option SourceView
source_by verbs.Create said = Some Nowhere
source_by verbs.Survey said = option_map source_named (said (codes "path"))
source_by verb said = option_map source_named (said (codes "image"))

-- ---- what is said of a volume

-- where an image goes: to the file that is said, or in place where a flag says so; of the two exactly one is said
abbrev pub target_named : Option Text → Bool → Option TargetView
target_named (Some file) false = Some (ToFile file)
target_named None true = Some InPlace
target_named (Some file) true = None
target_named None false = None

abbrev pub target_by : Said → Option TargetView
target_by said = target_named (said (codes "out")) (is_on (said (codes "in-place")))

-- how a file is named: by its path, or where a flag says so by the bytes that the word writes
abbrev pub file_named : Bool → Text → Option FileNameView
file_named false word = Some (ByPath word)
file_named true word = option_map ByStored (bytes_named word)

abbrev pub name_by : Said → Option FileNameView
name_by said = option_and_then (file_named (is_on (said (codes "stored")))) (said (codes "name"))

-- ---- what is asked of a volume that is only read

-- places are told in JSON alone
abbrev pub is_json : ListForm → Bool
is_json list_forms.Json = true
is_json form = false

abbrev pub form_for : Bool → Option ListForm → Option ListForm
form_for places (Some form) = if not places || is_json form then Some form else None
form_for places None = None

-- a list in the form that is said, with digests and with places where flags say so
abbrev pub list_of : Option ListForm → Bool → Bool → Option ℕ → Option LookView
list_of (Some form) digests places (Some most) =
    Some (Entries (record { form = form; digests = digests; places = places; most = most }))
list_of _ digests places _ = None

abbrev pub list_by : Said → Option LookView
list_by said = let places = is_on (said (codes "places")) in
    list_of (form_for places (form_said (said (codes "format")))) (is_on (said (codes "digests"))) places
    (most_bytes (said (codes "most")))

-- files that are the same are told too where a flag says so
abbrev pub compare_by : Said → Option LookView
compare_by said = option_map (λ most. Compare (record { all = is_on (said (codes "all")); most = most }))
    (most_bytes (said (codes "most")))

-- the bodies are checked too where a flag says so
abbrev pub check_by : Said → LookView
check_by said = Check (is_on (said (codes "bodies")))

-- as what a file is read: its body, the whole of it where a flag says so, or the form that is said
abbrev pub read_form_named : Text → Option ReadForm
read_form_named word =
    if bytes_eq word (codes "text") then Some (read_forms.As file_forms.Text) else
    if bytes_eq word (codes "applesoft") then Some (read_forms.As file_forms.Applesoft) else
    if bytes_eq word (codes "integer") then Some (read_forms.As file_forms.Integer) else
    if bytes_eq word (codes "single") then Some (read_forms.As file_forms.Single) else
    if bytes_eq word (codes "shown") then Some read_forms.Shown else None

abbrev pub read_form_said : Bool → Option Text → Option ReadForm
read_form_said false None = Some read_forms.Body
read_form_said true None = Some read_forms.Whole
read_form_said false (Some word) = read_form_named word
read_form_said true (Some word) = None

-- a file, as what it is read; its bytes go to a new file where one is said
abbrev pub read_of : Option FileNameView → Option ReadForm → Bool → Option LookView
read_of (Some name) (Some form) to_file = Some (Read name form to_file)
read_of _ _ to_file = None

abbrev pub read_by : Said → Option LookView
read_by said = read_of (name_by said)
    (read_form_said (is_on (said (codes "whole"))) (said (codes "as"))) (is_some (said (codes "out")))

-- a plan is told as a certificate, or in words where a flag says so
abbrev pub plan_by : Said → LookView
plan_by said = Plan (is_on (said (codes "reclaim"))) (is_on (said (codes "words")))

abbrev pub verify_by : Said → LookView
verify_by said = Verify (is_on (said (codes "reclaim")))

-- ---- what is changed of a volume

abbrev pub optimize_by : Said → Option ChangeView
optimize_by said = option_map (Optimize (is_on (said (codes "reclaim")))) (limit_named (said (codes "stop-after")))

abbrev pub edit_by : EditView → Said → Option ChangeView
edit_by edit said = option_map (λ name. EditOf name edit) (name_by said)

-- a file gets the new name that is said
abbrev pub rename_by : Said → Option ChangeView
rename_by said = option_and_then (λ new. edit_by (Rename new) said) (said (codes "new"))

-- the highest bit of the bytes of a text that is said, or that none is
abbrev pub high_named : Text → Option HighBit
high_named word =
    if bytes_eq word (codes "on") then Some high_bits.On else
    if bytes_eq word (codes "off") then Some high_bits.Off else None

abbrev pub high_said : Option Text → Option (Option HighBit)
high_said None = Some None
high_said (Some word) = option_map Some (high_named word)

-- the form in which a new file is given; of a text alone the highest bit is said
abbrev pub text_given : Option (Option HighBit) → Option (Option SaveForm)
text_given high = option_map (λ h. Some (save_forms.Text h)) high

abbrev pub without_high : Option Text → Option SaveForm → Option (Option SaveForm)
without_high None form = Some form
without_high (Some high) form = None

abbrev pub save_form_named : Text → Option Text → Option (Option SaveForm)
save_form_named word high =
    if bytes_eq word (codes "text") then text_given (high_said high) else
    if bytes_eq word (codes "applesoft") then without_high high (Some save_forms.Applesoft) else
    if bytes_eq word (codes "single") then without_high high (Some save_forms.Single) else None

abbrev pub save_form_said : Option Text → Option Text → Option (Option SaveForm)
save_form_said None high = without_high high None
save_form_said (Some word) high = save_form_named word high

-- a program whose listing is given is loaded at $0801, so no other auxiliary type is said of it
abbrev pub is_loadable : Option SaveForm → Option ℕ → Bool
is_loadable (Some save_forms.Applesoft) (Some aux) = aux == 0x0801
is_loadable form aux = true

abbrev pub loadable : Option ℕ → Option SaveForm → Option (Option SaveForm)
loadable aux form = if is_loadable form aux then Some form else None

abbrev pub save_form_by : Option ℕ → Said → Option (Option SaveForm)
save_form_by aux said = option_and_then (loadable aux) (save_form_said (said (codes "as")) (said (codes "high")))

-- the type and the date of a new file are said or not
abbrev pub attributes_by : Option ℕ → Said → AttributesView
attributes_by aux said = record { kind = said (codes "type"); aux = aux; date = said (codes "date") }

-- a new file, where each part of it is there; it takes the place of another one or not
abbrev pub save_of : Bool → Option Text → AttributesView → Option (Option SaveForm) → Option ChangeView
save_of replace (Some name) attributes (Some form) = Some (Save name attributes form replace)
save_of replace _ attributes _ = None

abbrev pub save_with : Said → Option ℕ → Option ChangeView
save_with said aux = save_of (is_on (said (codes "replace"))) (said (codes "name")) (attributes_by aux said)
    (save_form_by aux said)

abbrev pub save_by : Said → Option ChangeView
save_by said = option_and_then (save_with said) (aux_named (said (codes "aux")))

-- a directory of this path is made, whose date is said or not
abbrev pub directory_made_by : Said → Option ChangeView
directory_made_by said = option_map (λ path. MakeDirectory path (said (codes "date"))) (said (codes "name"))

-- ---- files of folders, other orders and containers

-- how the files of the volume are put into a folder, with their readable forms where a flag says so
abbrev pub extraction_of : Option Naming → Bool → Option ℕ → Option ExtractOptions
extraction_of (Some naming) texts (Some most) = Some (record { naming = naming; texts = texts; most = most })
extraction_of _ texts _ = None

abbrev pub extraction_by : Said → Option ExtractOptions
extraction_by said = extraction_of (naming_said (said (codes "names"))) (is_on (said (codes "texts")))
    (most_bytes (said (codes "most")))

-- the order that is written, and the volume number of tracks that are made
abbrev pub conversion_of : Option Order → Option ℕ → Option AskView
conversion_of (Some to) (Some volume) = Some (Convert to volume)
conversion_of _ _ = None

abbrev pub convert_by : Said → Option AskView
convert_by said =
    conversion_of (option_and_then order_named (said (codes "to"))) (volume_number (said (codes "volume")))

-- how an image is put into a container, with protection where a flag says so
abbrev pub wrapping_of : Option (Option ℕ) → Option Text → Bool → Option WrappingView
wrapping_of (Some volume) (Some comment) protect =
    Some (record { volume = volume; comment = comment; protect = protect })
wrapping_of _ _ protect = None

abbrev pub wrapping_by : Said → Option WrappingView
wrapping_by said = wrapping_of (told_volume (said (codes "volume"))) (comment_said (said (codes "comment")))
    (is_on (said (codes "protect")))

-- the directory under which the paths of the files begin that are added, or that none is said; a DOS 3.3 disk has none
abbrev pub is_dos_said : Option Text → Bool
is_dos_said None = false
is_dos_said (Some word) = bytes_eq word (codes "dos")

abbrev pub directory_said : Bool → Option Text → Option (Option Text)
directory_said false into = Some into
directory_said true None = Some None
directory_said true (Some into) = None

abbrev pub addition_by : Said → Option AdditionView
addition_by said = option_map (λ into. record { into = into; date = said (codes "date") })
    (directory_said (is_dos_said (said (codes "fs"))) (said (codes "into")))

-- ---- a new volume

-- of a DOS 3.3 disk no blocks, no name and no date are said
abbrev pub dos_volume : Option Text → Option Text → Option Text → Bool → Option NewVolumeView
dos_volume None None None data_disk = Some (DosVolume data_disk)
dos_volume _ _ _ data_disk = None

abbrev pub prodos_volume : Option ℕ → Option Text → Option Text → Option NewVolumeView
prodos_volume blocks name date = option_map (λ b. ProdosVolume b name date) blocks

-- what is said of a new volume beside its file system
pub record NewVolumeWords : Type 0 where
  pub blocks : Option Text
  pub name : Option Text
  pub date : Option Text
  pub order : Option Text
  pub number : Option Text
  pub data_disk : Bool

abbrev pub new_volume_words : Said → NewVolumeWords
new_volume_words said = record {
  blocks = said (codes "blocks");
  name = said (codes "name");
  date = said (codes "date");
  order = said (codes "order");
  number = said (codes "volume");
  data_disk = is_on (said (codes "data-disk"));
}

abbrev pub new_volume_of : NewVolumeWords → FileSystem → Option NewVolumeView
new_volume_of words file_systems.Dos = dos_volume words.blocks words.name words.date words.data_disk
new_volume_of words file_systems.Prodos = prodos_volume (blocks_said words.blocks) words.name words.date

abbrev pub creation_of : Option NewVolumeView → Option Order → Option ℕ → Option CreationView
creation_of (Some volume) (Some order) (Some number) = Some (record { volume = volume; order = order; number = number })
creation_of _ _ _ = None

abbrev pub creation_in : NewVolumeWords → FileSystem → Option CreationView
creation_in words file_system =
    creation_of (new_volume_of words file_system) (order_said file_system words.order) (volume_number words.number)

abbrev pub creation_by : Said → Option CreationView
creation_by said =
    option_and_then (creation_in (new_volume_words said)) (option_and_then file_system_named (said (codes "fs")))

-- the order of its image
abbrev pub new_order_by : Said → Option Order
new_order_by said = option_and_then (λ file_system. order_said file_system (said (codes "order")))
    (option_and_then file_system_named (said (codes "fs")))

-- ---- what is asked

abbrev pub look_asked : Option LookView → Option AskView
look_asked look = option_map (λ l. OfTheVolume (LookAt l)) look

abbrev pub change_asked : Option ChangeView → Option AskView
change_asked change = option_map (λ c. OfTheVolume (ChangeOf c)) change

-- what a command asks, by what is said under each name
abbrev pub ask_by : Verb → Said → Option AskView
ask_by verbs.Catalog said = look_asked (Some Catalog)
ask_by verbs.List said = look_asked (list_by said)
ask_by verbs.Compare said = look_asked (compare_by said)
ask_by verbs.Map said = look_asked (Some Map)
ask_by verbs.Check said = look_asked (Some (check_by said))
ask_by verbs.Read said = look_asked (read_by said)
ask_by verbs.Extract said = option_map (λ options. OfTheVolume (ExtractFrom options)) (extraction_by said)
ask_by verbs.Convert said = convert_by said
ask_by verbs.Plan said = look_asked (Some (plan_by said))
ask_by verbs.Optimize said = change_asked (optimize_by said)
ask_by verbs.Lock said = change_asked (edit_by Lock said)
ask_by verbs.Unlock said = change_asked (edit_by Unlock said)
ask_by verbs.Delete said = change_asked (edit_by Delete said)
ask_by verbs.Rename said = change_asked (rename_by said)
ask_by verbs.Save said = change_asked (save_by said)
ask_by verbs.Verify said = look_asked (Some (verify_by said))
ask_by verbs.Identify said = Some Identify
ask_by verbs.Wrap said = option_map Wrap (wrapping_by said)
ask_by verbs.Unwrap said = Some Unwrap
ask_by verbs.Survey said = option_map Survey (survey_form_said (said (codes "format")))
ask_by verbs.Create said = option_map Create (creation_by said)
ask_by verbs.Reclaim said = change_asked (Some Reclaim)
ask_by verbs.Add said = option_map (λ options. OfTheVolume (AddTo options)) (addition_by said)
ask_by verbs.MakeDirectory said = change_asked (directory_made_by said)

-- ---- what is read beside the image

-- the path of the other image of a comparison; not both images are standard input
abbrev pub other_named : Option Text → Option Text → Option Text
other_named (Some image) (Some other) = if is_input image && is_input other then None else Some other
other_named _ _ = None

-- its order, that of the image where none is said
abbrev pub other_order : Reading → Option Text → Option Text → Option OrderSaid
other_order reading None order = option_and_then (order_meant reading) order
other_order reading (Some word) order = order_meant reading word

abbrev pub other_image : Option Text → Option OrderSaid → Option BesideView
other_image (Some other) (Some order) = Some (ImageBeside (source_named other) order)
other_image _ _ = None

-- the image whose system is copied to a new volume, in the order of that; none where none is said
abbrev pub system_image : Option (Option Text) → Option Order → Option BesideView
system_image (Some (Some boot)) (Some order) = Some (ImageBeside (FromFile boot) (Is order))
system_image (Some None) order = Some NothingBeside
system_image _ _ = None

abbrev pub beside_by : Verb → Reading → Said → Option BesideView
beside_by verbs.Verify reading said = option_map FileBeside (said (codes "from"))
beside_by verbs.Save reading said = option_map FileBeside (said (codes "from"))
beside_by verbs.Add reading said = option_map FolderBeside (said (codes "from"))
beside_by verbs.Compare reading said = other_image (other_named (said (codes "image")) (said (codes "other")))
    (other_order reading (said (codes "other-order")) (said (codes "order")))
beside_by verbs.Create reading said =
    system_image (boot_said (is_on (said (codes "data-disk"))) (said (codes "boot"))) (new_order_by said)
beside_by verb reading said = Some NothingBeside

-- ---- where what is made goes

-- the bytes of a file go to a new file, or are told
abbrev pub new_file_said : Option Text → TargetView
new_file_said (Some out) = ToNewFile out
new_file_said None = ToNothing

abbrev pub output_by : Verb → Said → Option TargetView
output_by verbs.Read said = Some (new_file_said (said (codes "out")))
output_by verbs.Extract said = option_map ToFolder (said (codes "into"))
output_by verbs.Convert said = option_map ToFile (said (codes "out"))
output_by verbs.Add said = option_map ToFile (said (codes "out"))
output_by verbs.Wrap said = option_map ToNewFile (said (codes "out"))
output_by verbs.Unwrap said = option_map ToNewFile (said (codes "out"))
output_by verbs.Create said = option_map ToNewFile (said (codes "out"))
output_by verbs.Optimize said = target_by said
output_by verbs.Lock said = target_by said
output_by verbs.Unlock said = target_by said
output_by verbs.Delete said = target_by said
output_by verbs.Rename said = target_by said
output_by verbs.Save said = target_by said
output_by verbs.Reclaim said = target_by said
output_by verbs.MakeDirectory said = target_by said
output_by verb said = Some ToNothing

-- ---- the job

-- a job, where each part of it is there
abbrev pub job_of : Option SourceView → Option ReadingView → Option BesideView → Option AskView → Option TargetView
    → Option Text → Option JobView
job_of (Some image) (Some reading) (Some beside) (Some ask) (Some output) certificate = Some (record {
  input = record { image = image; reading = reading; beside = beside };
  ask = ask;
  output = output;
  certificate = certificate;
})
job_of _ _ _ _ _ certificate = None

-- the job of a command; its certificate goes to a file where one is said
abbrev pub job_by : FormView → Said → Option JobView
job_by f said = job_of (source_by f.verb said) (reading_by f.verb f.reading said) (beside_by f.verb f.reading said)
    (ask_by f.verb said) (output_by f.verb said) (said (codes "cert"))

-- ---- the words that clap finds

-- what rows say under each name
abbrev pub rows_say : List Row → Said
rows_say rows = λ name. first_of name rows

-- a flag of the program that may stand more than once says how often it does
abbrev pub is_counted : Option Text → Bool
is_counted None = false
is_counted (Some text) = not (bytes_eq text (codes "0"))

-- whether one is there, before the command's name or behind it
abbrev pub is_flagged : Text → List Row → List Row → Bool
is_flagged name above rows = is_counted (first_of name above) || is_counted (first_of name rows)

-- the form of a command
abbrev pub form_of : Text → Option FormView
form_of command = find (λ f. bytes_eq f.name command) forms

abbrev pub words_by : List Row → List Row → FormView → Words
words_by above rows f = record { form = f; is_auto = is_flagged (codes "auto") above rows; say = rows_say rows }

-- what no words stand for
abbrev pub standard_words : List Text
standard_words = codes "catalog" ∷ codes "--fs" ∷ codes "dos" ∷ codes "--order" ∷ codes "dos" ∷ codes "-" ∷ []

abbrev pub meant_words : List Text → List Text
meant_words [] = standard_words
meant_words (w ∷ ws) = w ∷ ws

-- ---- the job that they ask for

-- `--auto` is nothing that is said of a new volume
abbrev pub takes_auto : Verb → Bool → Bool
takes_auto verbs.Create auto = not auto
takes_auto verb auto = true

-- the job of words; what they leave to the images stands in it as such
abbrev pub words_job : Words → Option JobView
words_job w = if takes_auto w.form.verb w.is_auto then job_by w.form (said w) else None

-- a job that leaves nothing to the images
abbrev pub settled_alone : JobView → Option JobView
settled_alone job = if is_settled job.input then Some job else None

-- ---- what a plain list says under each name: the value of its use, or its positional word

abbrev pub positional_said : List Text → List Text → Said → Said
positional_said (n ∷ ns) (w ∷ ws) uses name = if bytes_eq n name then Some w else positional_said ns ws uses name
positional_said _ _ uses name = uses name

abbrev pub line_said : FormView → List Text → List Use → Said
line_said f positionals uses = positional_said (positional_names f) positionals (λ name. value_of name uses)

-- the job of a plain list
abbrev pub line_job : FormView → List Text → List Use → Option JobView
line_job f positionals uses = job_by f (line_said f positionals uses)
