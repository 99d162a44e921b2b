-- What the pointers of a file name (ProDOS 8 Technical Reference Manual, Appendix B).
use Rattle.std.specs.Prelude.{◌<◌, ℕ, ◌+◌, ◌*◌, ◌/◌, ◌%◌, ◌==◌, nat_lt, if◌then◌else◌, List}
use Rattle.a2_device.specs.declared.part.PartKind.{PartKind}
use Rattle.a2_device.specs.declared.part.PartKind.TheVariants.{Master, Index, Body}
use Rattle.vol_format.specs.declared.link.Link.{Link}
use Rattle.vol_format.specs.declared.link.Link.TheVariants.{Null, Wild, Directory as ToDirectory, OtherType, To}
use Rattle.pro_tree.specs.Pointers.{pointer_of}

-- A pointer 0 names nothing, and one to a block that the volume has not is wild.
abbrev pub pro_link : ℕ → ℕ → PartKind → ℕ → ℕ → Link
pro_link places file kind number block =
    if block == 0 then Null
    else (if nat_lt block places then To (record { file = file; kind = kind; number = number; place = block })
    else Wild)

-- The key block of a seedling (storage type 1) is the one unit of its body, that of a sapling (2) an index, that of a
-- tree (3) a master index. A subdirectory (D) has no parts, and other storage types are not read.
abbrev pub pro_root : ℕ → ℕ → ℕ → ℕ → Link
pro_root places file storage key =
    if storage == 1 then pro_link places file Body 0 key
    else (if storage == 2 then pro_link places file Index 0 key
    else (if storage == 3 then pro_link places file Master 0 key
    else (if storage == 13 then ToDirectory else OtherType)))

-- Pointer i of an index names unit 256 m + i of the body, where the index has the number m. Of a master index, the
-- first 128 pointers name the indexes of their numbers; the others are not followed.
abbrev pub pro_pointers : PartKind → ℕ
pro_pointers Master = 128
pro_pointers Index = 256
pro_pointers kind = 0

abbrev pub link_below : ℕ → PartKind → ℕ → ℕ → ℕ → List ℕ → ℕ → Link
link_below width kind places file number unit i =
    if nat_lt i width then pro_link places file kind (width * number + i) (pointer_of unit i) else Null

abbrev pub pro_child : ℕ → PartKind → ℕ → ℕ → List ℕ → ℕ → Link
pro_child places Master file number unit i = link_below 128 Index places file number unit i
pro_child places Index file number unit i = link_below 256 Body places file number unit i
pro_child places kind file number unit i = Null

-- The order of a file's parts: the master index, index 0, the units that its pointers name, index 1, and so on.
abbrev pub pro_rank : PartKind → ℕ → ℕ
pro_rank Index number = 1 + 257 * number
pro_rank Body number = 2 + 257 * (number / 256) + number % 256
pro_rank kind number = 0

-- the last rank that a part or one below it can have
abbrev pub last_rank : PartKind → ℕ → ℕ
last_rank Master number = 257 * 128 * (number + 1)
last_rank Index number = 257 * (number + 1)
last_rank kind number = pro_rank kind number

abbrev pub pro_ends : PartKind → ℕ → ℕ → Type 0
pro_ends kind number rank = last_rank kind number < rank

-- as many masters come before a part's; a file has one, of number 0
abbrev pub pro_depth : PartKind → ℕ → ℕ
pro_depth Master number = number
pro_depth Index number = number / 128
pro_depth kind number = 0
