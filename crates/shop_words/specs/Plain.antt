-- The plain lists of words: no word at all, or printed from a command's form, its positional words
-- and its uses of flags and options.
use Rattle.std.specs.Prelude.{◌≡◌, ◌⊎◌, ◌==◌, All, Any, Contains, IsSome, Option, None, Some, option_map, if◌then◌else◌, ℕ, Bool, true, false, not, ◌&&◌, nat_le, List, [], ◌∷◌, ◌++◌, codes, length, filter, find, map}
use Rattle.std.specs.List.{AllPass, AllZip, IsDistinct, list_all}
use Rattle.std.specs.Char.{is_ascii_digit}
use Rattle.std.specs.Str.{bytes_eq}
use Rattle.std.specs.Str.Parse.{digits_value}
use Rattle.shop_words.specs.Table.{Text, ValuesView, address, any, between, one_of, number, KindView, positional, needed, way, optional, flag, ParameterView, FormView, aux, blocks, boot, data_disk, date, directory, file_system, format, forms, high, in_place, name_of_file, out_file, parameter, places, read_as, save_as, short, stored, volume_name, whole}
use Rattle.shop_words.specs.Hexadecimal.{bytes_named, hex_number}

-- `-`
abbrev pub hyphen : ℕ
hyphen = 45

-- the word is not empty and does not begin with a hyphen
abbrev pub is_plain_word : Text → Bool
is_plain_word [] = false
is_plain_word (x ∷ xs) = not (x == hyphen)

abbrev pub is_positional : KindView → Bool
is_positional positional = true
is_positional _ = false

-- a plain list says it
abbrev pub is_needed : KindView → Bool
is_needed (needed values) = true
is_needed (way values) = true
is_needed _ = false

abbrev pub positional_names : FormView → List Text
positional_names f = map (λ p. p.name) (filter (λ p. is_positional p.kind) f.parameters)

-- a flag `--name`, or an option `--name VALUE`
pub data Use : Type 0 where
  alone : Text → Use
  valued : Text → Text → Use

abbrev pub use_name : Use → Text
use_name (alone name) = name
use_name (valued name value) = name

-- what it says; a flag says `true`
abbrev pub use_value : Use → Text
use_value (alone name) = codes "true"
use_value (valued name value) = value

abbrev pub value_of : Text → List Use → Option Text
value_of name uses = option_map use_value (find (λ u. bytes_eq (use_name u) name) uses)

abbrev pub dashed : Text → Text
dashed name = hyphen ∷ hyphen ∷ name

abbrev pub use_words : Use → List Text
use_words (alone name) = dashed name ∷ []
use_words (valued name value) = dashed name ∷ value ∷ []

abbrev pub all_use_words : List Use → List Text
all_use_words [] = []
all_use_words (u ∷ us) = use_words u ++ all_use_words us

-- the word is of decimal digits, and writes a number up to the greatest
abbrev pub is_number : ℕ → Text → Bool
is_number greatest [] = false
is_number greatest (x ∷ xs) = list_all is_ascii_digit (x ∷ xs) && nat_le (digits_value 10 (x ∷ xs)) greatest

-- the same of a number that is not below the least
abbrev pub is_between : ℕ → ℕ → Text → Bool
is_between least greatest word = is_number greatest word && nat_le least (digits_value 10 word)

-- the number of two bytes that a word writes: in hexadecimal digits behind `$` or `0x`, else in decimal ones
abbrev pub decimal_address : Text → Option ℕ
decimal_address word = if is_number 65535 word then Some (digits_value 10 word) else None

abbrev pub address_behind : ℕ → Text → Option ℕ
address_behind first [] = decimal_address (first ∷ [])
address_behind first (x ∷ xs) =
    if first == 48 && x == 120 then hex_number xs else decimal_address (first ∷ x ∷ xs)

abbrev pub address_named : Text → Option ℕ
address_named [] = None
address_named (x ∷ xs) = if x == 36 then hex_number xs else address_behind x xs

-- the word has no more bytes
abbrev pub is_short : ℕ → Text → Bool
is_short most word = nat_le (length word) most

abbrev pub IsOfValues : ValuesView → Text → Type 0
IsOfValues any value = Unit {0}
IsOfValues (one_of words) value = Contains words value
IsOfValues (number greatest) value = is_number greatest value ≡ true
IsOfValues (between least greatest) value = is_between least greatest value ≡ true
IsOfValues address value = IsSome (address_named value)
IsOfValues (short most) value = is_short most value ≡ true

-- it is an option, which takes the value
abbrev pub TakesValue : KindView → Text → Type 0
TakesValue positional value = ⊥
TakesValue (needed values) value = IsOfValues values value
TakesValue (way values) value = IsOfValues values value
TakesValue (optional values) value = IsOfValues values value
TakesValue flag value = ⊥

-- the use is of one of the parameters
abbrev pub IsUseOf : List ParameterView → Use → Type 0
IsUseOf parameters (alone name) = Contains parameters (parameter name flag)
IsUseOf parameters (valued name value) =
    Any (λ p. (p.name ≡ name) × TakesValue p.kind value) parameters × (is_plain_word value ≡ true)

-- one of the two names is used, and the other is not
abbrev pub UsesOneOf : Text → Text → List Use → Type 0
UsesOneOf one other uses =
    (Contains (map use_name uses) one × ¬ Contains (map use_name uses) other)
    ⊎ (Contains (map use_name uses) other × ¬ Contains (map use_name uses) one)

-- of positional words with these names that of a file's name writes bytes
abbrev pub WritesBytes : List Text → List Text → Type 0
WritesBytes names words = AllZip (λ name word. name ≡ name_of_file.name → IsSome (bytes_named word)) names words

-- the form of a list that is used is JSON
abbrev pub UsesJson : List Use → Type 0
UsesJson uses = find (λ u. bytes_eq (use_name u) format.name) uses ≡ Some (valued format.name (codes "json"))

-- what is said of a new volume: the system is copied to no data disk, and of a DOS 3.3 disk no blocks, no name and no
-- date are said
pub record IsNewVolume (uses : List Use) : Type 0 where
  pub started : IsSome (value_of boot.name uses) → value_of data_disk.name uses ≡ None
  pub of_dos : value_of file_system.name uses ≡ Some (codes "dos")
      → (value_of blocks.name uses ≡ None) × (value_of volume_name.name uses ≡ None) × (value_of date.name uses ≡ None)

-- the positional words and uses are those of a plain list of the form; where the image may be changed in place, exactly
-- one of `--out` and `--in-place` is used; with `--stored` the name of the file is in hexadecimal digits, and with
-- `--places` the form is JSON; `--as` and `--whole` do not go together, `--high` goes with `--as text` alone, and with
-- `--as applesoft` the auxiliary type is $0801; of the command that makes a volume what is said is said of one; files
-- are added to a directory of ProDOS alone
pub record IsPlainLine (f : FormView) (positionals : List Text) (uses : List Use) : Type 0 where
  pub as_many : length positionals ≡ length (positional_names f)
  pub plain : AllPass is_plain_word positionals
  pub known : All (IsUseOf f.parameters) uses
  pub once : IsDistinct bytes_eq (map use_name uses)
  pub complete :
      All (λ p. is_needed p.kind ≡ true → Contains (map use_name uses) p.name) f.parameters
  pub targeted : Contains f.parameters in_place → UsesOneOf out_file.name in_place.name uses
  pub stored : Contains (map use_name uses) stored.name → WritesBytes (positional_names f) positionals
  pub placed : Contains (map use_name uses) places.name → UsesJson uses
  pub formed : IsSome (value_of whole.name uses) → value_of read_as.name uses ≡ None
  pub high_of_text : IsSome (value_of high.name uses) → value_of save_as.name uses ≡ Some (codes "text")
  pub loaded : value_of save_as.name uses ≡ Some (codes "applesoft") → (word : Text)
      → value_of aux.name uses ≡ Some word
      → address_named word ≡ Some 0x0801
  pub created : Contains f.parameters boot → IsNewVolume uses
  pub added : Contains f.parameters directory → IsSome (value_of directory.name uses)
      → value_of file_system.name uses ≡ Some (codes "prodos")

-- the list that is printed from them
abbrev pub line_words : FormView → List Text → List Use → List Text
line_words f positionals uses = f.name ∷ (positionals ++ all_use_words uses)

-- the list is a plain one, of a form in the table
pub record IsLine (list : List Text) (f : FormView) (positionals : List Text)
    (uses : List Use) : Type 0 where
  pub form : Contains forms f
  pub plain : IsPlainLine f positionals uses
  pub printed : list ≡ line_words f positionals uses

abbrev pub IsPlain : List Text → Type 0
IsPlain list = (list ≡ [])
    ⊎ ((f : FormView) × (positionals : List Text) × (uses : List Use) × IsLine list f positionals uses)
