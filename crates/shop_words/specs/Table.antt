-- The table of the commands as contracts see it: the form of each command, with texts for its words.
use Rattle.std.specs.Prelude.{ℕ, List, [], ◌∷◌, map, codes}
use Rattle.shop_words.specs.declared.table.Values.{Values}
use Rattle.shop_words.specs.declared.table.Values.TheVariants as values
use Rattle.shop_words.specs.declared.table.Kind.{Kind}
use Rattle.shop_words.specs.declared.table.Kind.TheVariants as kinds
use Rattle.shop_words.specs.declared.table.Parameter.{Parameter}
use Rattle.shop_words.specs.declared.table.Form.{Form}
use Rattle.shop_words.specs.declared.table.Reading.{Reading}
use Rattle.shop_words.specs.declared.table.Reading.TheVariants as readings
use Rattle.shop_words.specs.declared.table.LeftOut.TheVariants as left
use Rattle.shop_words.specs.declared.table.Verb.{Verb}
use Rattle.shop_words.specs.declared.table.Verb.TheVariants as verbs

-- the bytes of a word
abbrev pub Text : Type 0
Text = List ℕ

-- what words an option takes
pub data ValuesView : Type 0 where
  any : ValuesView
  one_of : List Text → ValuesView
  number : ℕ → ValuesView
  between : ℕ → ℕ → ValuesView
  address : ValuesView
  short : ℕ → ValuesView

-- how a parameter stands among the words; a `way` says how an image is read: a plain list says it, and other words may
-- leave it to the image
pub data KindView : Type 0 where
  positional : KindView
  needed : ValuesView → KindView
  way : ValuesView → KindView
  optional : ValuesView → KindView
  flag : KindView

pub record ParameterView : Type 0 where
  pub name : Text
  pub kind : KindView

-- a command: its name, what it does, how its words say in which way its image is read, and its parameters
pub record FormView : Type 0 where
  pub name : Text
  pub verb : Verb
  pub reading : Reading
  pub parameters : List ParameterView

abbrev pub values_view : Values → ValuesView
values_view values.Any = any
values_view (values.OneOf words) = one_of (map (λ w. w.now) words.now)
values_view (values.Way words stand_ins) = one_of (map (λ w. w.now) words.now)
values_view (values.Number greatest) = number greatest
values_view (values.Between least greatest) = between least greatest
values_view values.Address = address
values_view (values.Short most) = short most

abbrev pub kind_view : Kind → KindView
kind_view kinds.Positional = positional
kind_view (kinds.Needed vs) = needed (values_view vs)
kind_view (kinds.Way vs) = way (values_view vs)
kind_view (kinds.Optional vs) = optional (values_view vs)
kind_view kinds.Flag = flag

abbrev pub parameter_view : Parameter → ParameterView
parameter_view p = record { name = p.name.now; kind = kind_view p.kind }

abbrev pub form_view : Form → FormView
form_view f = record {
  name = f.name.now;
  verb = f.verb;
  reading = f.reading;
  parameters = map parameter_view f.parameters.now;
}

-- the greatest number that an option takes, where it takes any
abbrev pub greatest_number : ℕ
greatest_number = 18446744073709551615

-- the greatest limit of writes
abbrev pub most_writes : ℕ
most_writes = greatest_number

abbrev pub parameter : Text → KindView → ParameterView
parameter name kind = record { name = name; kind = kind }

abbrev pub file_system_words : List Text
file_system_words = codes "dos" ∷ codes "prodos" ∷ []

abbrev pub order_words : List Text
order_words = codes "dos" ∷ codes "prodos" ∷ codes "nibble" ∷ []

-- `image`, `--fs FS`, `--order ORDER` and `--data-disk`
abbrev pub image : ParameterView
image = parameter (codes "image") positional

abbrev pub file_system : ParameterView
file_system = parameter (codes "fs") (way (one_of file_system_words))

abbrev pub order : ParameterView
order = parameter (codes "order") (way (one_of order_words))

abbrev pub data_disk : ParameterView
data_disk = parameter (codes "data-disk") flag

abbrev pub catalog_form : FormView
catalog_form = record {
  name = codes "catalog";
  verb = verbs.Catalog;
  reading = readings.Volume left.ByAuto;
  parameters = image ∷ file_system ∷ order ∷ data_disk ∷ [];
}

-- `--format FORM`, `--digests`, `--places` and `--most BYTES`
abbrev pub format : ParameterView
format = parameter (codes "format") (optional (one_of (codes "names" ∷ codes "json" ∷ codes "csv" ∷ [])))

abbrev pub digests : ParameterView
digests = parameter (codes "digests") flag

abbrev pub places : ParameterView
places = parameter (codes "places") flag

abbrev pub most : ParameterView
most = parameter (codes "most") (optional (number greatest_number))

abbrev pub list_form : FormView
list_form = record {
  name = codes "list";
  verb = verbs.List;
  reading = readings.Volume left.Always;
  parameters = image ∷ file_system ∷ order ∷ format ∷ digests ∷ places ∷ most ∷ data_disk ∷ [];
}

-- `other`, `--other-order ORDER` and `--all`
abbrev pub other : ParameterView
other = parameter (codes "other") positional

abbrev pub other_order : ParameterView
other_order = parameter (codes "other-order") (optional (one_of order_words))

abbrev pub all_files : ParameterView
all_files = parameter (codes "all") flag

abbrev pub compare_form : FormView
compare_form = record {
  name = codes "compare";
  verb = verbs.Compare;
  reading = readings.Volume left.Always;
  parameters = image ∷ other ∷ file_system ∷ order ∷ other_order ∷ all_files ∷ most ∷ data_disk ∷ [];
}

-- `--reserve LIST`
abbrev pub reserve : ParameterView
reserve = parameter (codes "reserve") (optional any)

abbrev pub map_form : FormView
map_form = record {
  name = codes "map";
  verb = verbs.Map;
  reading = readings.Volume left.Always;
  parameters = image ∷ file_system ∷ order ∷ data_disk ∷ reserve ∷ [];
}

-- `--bodies`
abbrev pub bodies : ParameterView
bodies = parameter (codes "bodies") flag

abbrev pub check_form : FormView
check_form = record {
  name = codes "check";
  verb = verbs.Check;
  reading = readings.Volume left.ByAuto;
  parameters = image ∷ file_system ∷ order ∷ bodies ∷ data_disk ∷ reserve ∷ [];
}

-- `name` and `--whole`
abbrev pub name_of_file : ParameterView
name_of_file = parameter (codes "name") positional

abbrev pub whole : ParameterView
whole = parameter (codes "whole") flag

-- `--stored`
abbrev pub stored : ParameterView
stored = parameter (codes "stored") flag

-- `--out FILE`, of a command that need not write one
abbrev pub out_file : ParameterView
out_file = parameter (codes "out") (optional any)

-- `--as FORM` of what is read
abbrev pub read_as : ParameterView
read_as = parameter (codes "as") (optional (one_of
    (codes "text" ∷ codes "applesoft" ∷ codes "integer" ∷ codes "single" ∷ codes "shown" ∷ [])))

abbrev pub read_form : FormView
read_form = record {
  name = codes "read";
  verb = verbs.Read;
  reading = readings.Volume left.ByAuto;
  parameters = image ∷ name_of_file ∷ file_system ∷ order ∷ whole ∷ read_as ∷ out_file ∷ data_disk ∷ stored ∷ [];
}

-- `--into FOLDER`, `--names NAMES` and `--texts`
abbrev pub into : ParameterView
into = parameter (codes "into") (needed any)

abbrev pub names : ParameterView
names = parameter (codes "names") (optional (one_of (codes "naps" ∷ codes "plain" ∷ [])))

abbrev pub texts : ParameterView
texts = parameter (codes "texts") flag

abbrev pub extract_form : FormView
extract_form = record {
  name = codes "extract";
  verb = verbs.Extract;
  reading = readings.Volume left.Always;
  parameters = image ∷ file_system ∷ order ∷ into ∷ names ∷ texts ∷ most ∷ data_disk ∷ [];
}

-- the new name of a file
abbrev pub new_name : ParameterView
new_name = parameter (codes "new") positional

-- `--to ORDER`, `--out FILE` and `--volume V`
abbrev pub to : ParameterView
to = parameter (codes "to") (needed (one_of order_words))

abbrev pub out : ParameterView
out = parameter (codes "out") (needed any)

-- `--in-place`, where it is not `--out FILE`
abbrev pub in_place : ParameterView
in_place = parameter (codes "in-place") flag

abbrev pub volume : ParameterView
volume = parameter (codes "volume") (optional (number 255))

abbrev pub convert_form : FormView
convert_form = record {
  name = codes "convert";
  verb = verbs.Convert;
  reading = readings.Order left.ByAuto;
  parameters = image ∷ order ∷ to ∷ out ∷ volume ∷ data_disk ∷ [];
}

-- `--reclaim`, `--stop-after K`, `--cert FILE`, `--words` and `--from FILE`
abbrev pub reclaim : ParameterView
reclaim = parameter (codes "reclaim") flag

abbrev pub stop_after : ParameterView
stop_after = parameter (codes "stop-after") (optional (number most_writes))

abbrev pub cert : ParameterView
cert = parameter (codes "cert") (optional any)

abbrev pub in_words : ParameterView
in_words = parameter (codes "words") flag

abbrev pub from : ParameterView
from = parameter (codes "from") (needed any)

abbrev pub plan_form : FormView
plan_form = record {
  name = codes "plan";
  verb = verbs.Plan;
  reading = readings.Volume left.ByAuto;
  parameters = image ∷ file_system ∷ order ∷ data_disk ∷ reserve ∷ reclaim ∷ in_words ∷ [];
}

abbrev pub optimize_form : FormView
optimize_form = record {
  name = codes "optimize";
  verb = verbs.Optimize;
  reading = readings.Volume left.ByAuto;
  parameters = image ∷ file_system ∷ order ∷ out_file ∷ in_place ∷ data_disk ∷ reserve ∷ reclaim ∷ stop_after ∷ cert
      ∷ [];
}

-- a command that changes a file
abbrev pub edit_form : Text → Verb → FormView
edit_form command verb = record {
  name = command;
  verb = verb;
  reading = readings.Volume left.ByAuto;
  parameters = image ∷ name_of_file ∷ file_system ∷ order ∷ out_file ∷ in_place ∷ data_disk ∷ reserve ∷ stored ∷ [];
}

abbrev pub lock_form : FormView
lock_form = edit_form (codes "lock") verbs.Lock

abbrev pub unlock_form : FormView
unlock_form = edit_form (codes "unlock") verbs.Unlock

abbrev pub delete_form : FormView
delete_form = edit_form (codes "delete") verbs.Delete

abbrev pub rename_form : FormView
rename_form = record {
  name = codes "rename";
  verb = verbs.Rename;
  reading = readings.Volume left.ByAuto;
  parameters = image ∷ name_of_file ∷ new_name ∷ file_system ∷ order ∷ out_file ∷ in_place ∷ data_disk ∷ reserve
      ∷ stored ∷ [];
}

-- `--type T`, `--aux N` and `--date D`
abbrev pub type_of_file : ParameterView
type_of_file = parameter (codes "type") (optional any)

abbrev pub aux : ParameterView
aux = parameter (codes "aux") (optional address)

abbrev pub date : ParameterView
date = parameter (codes "date") (optional any)

-- `--as FORM` and `--high on|off` of what is given
abbrev pub save_as : ParameterView
save_as = parameter (codes "as") (optional (one_of (codes "text" ∷ codes "applesoft" ∷ codes "single" ∷ [])))

abbrev pub high : ParameterView
high = parameter (codes "high") (optional (one_of (codes "on" ∷ codes "off" ∷ [])))

-- `--replace`
abbrev pub replace : ParameterView
replace = parameter (codes "replace") flag

abbrev pub save_form : FormView
save_form = record {
  name = codes "save";
  verb = verbs.Save;
  reading = readings.Volume left.ByAuto;
  parameters = image ∷ name_of_file ∷ file_system ∷ order ∷ from ∷ save_as ∷ high ∷ out_file ∷ in_place ∷ type_of_file
      ∷ aux ∷ date
      ∷ data_disk ∷ reserve ∷ replace ∷ [];
}

abbrev pub verify_form : FormView
verify_form = record {
  name = codes "verify";
  verb = verbs.Verify;
  reading = readings.Volume left.ByAuto;
  parameters = image ∷ file_system ∷ order ∷ from ∷ data_disk ∷ reserve ∷ reclaim ∷ [];
}

abbrev pub identify_form : FormView
identify_form = record {
  name = codes "identify";
  verb = verbs.Identify;
  reading = readings.Nothing;
  parameters = image ∷ [];
}

-- the most bytes of a comment
abbrev pub most_comment : ℕ
most_comment = 65472

-- `--comment TEXT` and `--protect`
abbrev pub comment : ParameterView
comment = parameter (codes "comment") (optional (short most_comment))

abbrev pub protect : ParameterView
protect = parameter (codes "protect") flag

abbrev pub wrap_form : FormView
wrap_form = record {
  name = codes "wrap";
  verb = verbs.Wrap;
  reading = readings.Bare left.Always;
  parameters = image ∷ order ∷ out ∷ comment ∷ volume ∷ protect ∷ [];
}

abbrev pub unwrap_form : FormView
unwrap_form = record {
  name = codes "unwrap";
  verb = verbs.Unwrap;
  reading = readings.Nothing;
  parameters = image ∷ out ∷ [];
}

-- `path` and `--format FORM` of a survey
abbrev pub path : ParameterView
path = parameter (codes "path") positional

abbrev pub survey_format : ParameterView
survey_format = parameter (codes "format") (optional (one_of (codes "lines" ∷ codes "json" ∷ [])))

abbrev pub survey_form : FormView
survey_form = record {
  name = codes "survey";
  verb = verbs.Survey;
  reading = readings.Nothing;
  parameters = path ∷ survey_format ∷ [];
}

-- the fewest and the most blocks of a ProDOS volume
abbrev pub fewest_blocks : ℕ
fewest_blocks = 16

abbrev pub most_blocks : ℕ
most_blocks = 65535

-- `--fs FS`, `--order ORDER`, `--blocks N`, `--name NAME` and `--boot FILE` of a new volume
abbrev pub new_file_system : ParameterView
new_file_system = parameter (codes "fs") (needed (one_of file_system_words))

abbrev pub new_order : ParameterView
new_order = parameter (codes "order") (optional (one_of order_words))

abbrev pub blocks : ParameterView
blocks = parameter (codes "blocks") (optional (between fewest_blocks most_blocks))

abbrev pub volume_name : ParameterView
volume_name = parameter (codes "name") (optional any)

abbrev pub boot : ParameterView
boot = parameter (codes "boot") (optional any)

abbrev pub create_form : FormView
create_form = record {
  name = codes "create";
  verb = verbs.Create;
  reading = readings.Nothing;
  parameters = new_file_system ∷ new_order ∷ out ∷ blocks ∷ volume_name ∷ date ∷ volume ∷ data_disk ∷ boot ∷ [];
}

abbrev pub reclaim_form : FormView
reclaim_form = record {
  name = codes "reclaim";
  verb = verbs.Reclaim;
  reading = readings.Volume left.UnlessInPlace;
  parameters = image ∷ file_system ∷ order ∷ out_file ∷ in_place ∷ data_disk ∷ reserve ∷ [];
}

-- `--into DIRECTORY` of files that are added
abbrev pub directory : ParameterView
directory = parameter (codes "into") (optional any)

abbrev pub add_form : FormView
add_form = record {
  name = codes "add";
  verb = verbs.Add;
  reading = readings.Volume left.Always;
  parameters = image ∷ file_system ∷ order ∷ from ∷ out ∷ directory ∷ date ∷ data_disk ∷ reserve ∷ [];
}

-- `--fs FS` of a command that knows ProDOS alone
abbrev pub only_prodos : ParameterView
only_prodos = parameter (codes "fs") (optional (one_of (codes "prodos" ∷ [])))

abbrev pub mkdir_form : FormView
mkdir_form = record {
  name = codes "mkdir";
  verb = verbs.MakeDirectory;
  reading = readings.Prodos left.UnlessInPlace;
  parameters = image ∷ name_of_file ∷ only_prodos ∷ order ∷ out_file ∷ in_place ∷ date ∷ reserve ∷ [];
}

-- the forms of all commands
unfoldable pub forms : List FormView
forms = catalog_form ∷ list_form ∷ compare_form ∷ map_form ∷ check_form ∷ read_form ∷ extract_form ∷ convert_form
    ∷ plan_form ∷ optimize_form ∷ lock_form ∷ unlock_form ∷ delete_form ∷ rename_form ∷ save_form ∷ verify_form
    ∷ identify_form ∷ wrap_form ∷ unwrap_form ∷ survey_form ∷ create_form ∷ reclaim_form ∷ add_form ∷ mkdir_form ∷ []
