-- How the words of a command say in which file system and order its image is read, and what of that they leave out.
use Rattle.std.specs.Prelude.{Bool, true, false, ◌||◌, ◌&&◌, not, Option, Some, None, codes, if◌then◌else◌}
use Rattle.std.specs.Str.{bytes_eq}
use Rattle.shop_words.specs.Table.{Text, FormView}
use Rattle.shop_words.specs.declared.table.LeftOut.{LeftOut}
use Rattle.shop_words.specs.declared.table.LeftOut.TheVariants.{ByAuto, Always, UnlessInPlace}
use Rattle.shop_words.specs.declared.table.Reading.{Reading}
use Rattle.shop_words.specs.declared.table.Reading.TheVariants as readings

-- what is said under each parameter's name; a flag says `true`
abbrev pub Said : Type 0
Said = Text → Option Text

-- a flag is on where it says `true`
abbrev pub is_on : Option Text → Bool
is_on None = false
is_on (Some text) = bytes_eq text (codes "true")

-- the words of a command: its form, whether they say `--auto`, and what they say under each name
pub record Words : Type 0 where
  pub form : FormView
  pub is_auto : Bool
  pub say : Said

-- `auto` stands for what the best reading of an image has, `2img` for the order in the header of its container
abbrev pub is_auto_word : Text → Bool
is_auto_word word = bytes_eq word (codes "auto")

abbrev pub is_container_word : Text → Bool
is_container_word word = bytes_eq word (codes "2img")

-- the words say in which file system the image is read
abbrev pub has_file_system : Reading → Bool
has_file_system (readings.Volume out) = true
has_file_system reading = false

-- they say in which order, which may be left to a container
abbrev pub has_order : Reading → Bool
has_order readings.Nothing = false
has_order reading = true

abbrev pub takes_container : Reading → Bool
takes_container readings.Nothing = false
takes_container (readings.Bare out) = false
takes_container reading = true

-- what is left out is `auto`: where the words say `--auto`, always, or but where an image is changed in place
abbrev pub is_left : LeftOut → Bool → Bool → Bool
is_left ByAuto auto in_place = auto
is_left Always auto in_place = true
is_left UnlessInPlace auto in_place = auto || not in_place

abbrev pub may_leave : Reading → Bool → Bool → Bool
may_leave readings.Nothing auto in_place = false
may_leave (readings.Volume out) auto in_place = is_left out auto in_place
may_leave (readings.Prodos out) auto in_place = is_left out auto in_place
may_leave (readings.Order out) auto in_place = is_left out auto in_place
may_leave (readings.Bare out) auto in_place = is_left out auto in_place

abbrev pub leaves_open : Words → Bool
leaves_open w = may_leave w.form.reading w.is_auto (is_on (w.say (codes "in-place")))

abbrev pub or_auto : Bool → Option Text → Option Text
or_auto is_open (Some word) = Some word
or_auto true None = Some (codes "auto")
or_auto false None = None

-- what the words say of the file system and of the order
abbrev pub file_system_said : Words → Option Text
file_system_said w = or_auto (has_file_system w.form.reading && leaves_open w) (w.say (codes "fs"))

abbrev pub order_said : Words → Option Text
order_said w = or_auto (leaves_open w) (w.say (codes "order"))

-- what the words say under each name, with `auto` in the place of a way that they leave out and may leave out
abbrev pub said : Words → Said
said w name =
    if bytes_eq name (codes "fs") then file_system_said w else
    if bytes_eq name (codes "order") then order_said w else w.say name
