-- What the order of an image says of it in a header: its number, how long the image is, and how many blocks are told.
use Rattle.std.specs.Prelude.{ℕ, ◌*◌, ◌/◌}
use Rattle.a2_device.specs.declared.order.Order.{Order}
use Rattle.a2_device.specs.declared.order.Order.TheVariants.{Dos, Prodos, Nibble}

-- the number of an order in a header
abbrev pub format_of : Order → ℕ
format_of Dos = 0
format_of Prodos = 1
format_of Nibble = 2

-- the length of an image of which a header tells no length, but so many blocks
abbrev pub whole_size : Order → ℕ → ℕ
whole_size Dos blocks = 143360
whole_size Prodos blocks = 512 * blocks
whole_size Nibble blocks = 232960

-- the blocks that a header tells of an image of so many bytes: none but in ProDOS order
abbrev pub blocks_of : Order → ℕ → ℕ
blocks_of Dos bytes = 0
blocks_of Prodos bytes = bytes / 512
blocks_of Nibble bytes = 0
