-- Files of other kinds, by what they begin with: WOZ (the WOZ 2.0 reference), gzip (RFC 1952), zip (its local file
-- header), ShrinkIt (the NuFX documentation), 2IMG (its header) and DiskCopy 4.2 (its header); or by how many bytes
-- they have: 65,536 blocks of 512, 35 tracks of 13 sectors of 256, 36 or 40 tracks of 16 sectors of 256, and 35 tracks
-- of 6,384 disk bytes.
use Rattle.std.specs.Prelude.{ℕ, ◌*◌, ◌==◌, ◌||◌, ◌&&◌, Bool, List, [], ◌∷◌, Option, Some, None, codes, if◌then◌else◌, length, nat_eq, nat_le, slice_index}
use Rattle.std.specs.List.{starts_with}
use Rattle.shop_files.specs.declared.foreign.Foreign.{Foreign}
use Rattle.shop_files.specs.declared.foreign.Foreign.TheVariants.{Woz, Gzip, Zip, ShrinkIt, DiskCopy, Container, TooManyBlocks, ThirteenSectors, ThirtySixTracks, FortyTracks, ShortTracks}

abbrev pub is_woz : List ℕ → Bool
is_woz bytes = starts_with nat_eq bytes (codes "WOZ1") || starts_with nat_eq bytes (codes "WOZ2")

-- the mark is in the last two bytes of the header
abbrev pub is_disk_copy : List ℕ → Bool
is_disk_copy bytes = nat_le 84 (length bytes) && slice_index bytes 82 == 1 && slice_index bytes 83 == 0

abbrev pub of_length : ℕ → Option Foreign
of_length count =
    if count == 65536 * 512 then Some TooManyBlocks else
    if count == 35 * 13 * 256 then Some ThirteenSectors else
    if count == 36 * 16 * 256 then Some ThirtySixTracks else
    if count == 40 * 16 * 256 then Some FortyTracks else
    if count == 35 * 6384 then Some ShortTracks else None

abbrev pub foreign_of : List ℕ → Option Foreign
foreign_of bytes =
    if is_woz bytes then Some Woz else
    if starts_with nat_eq bytes (0x1f ∷ 0x8b ∷ []) then Some Gzip else
    if starts_with nat_eq bytes (80 ∷ 75 ∷ 3 ∷ 4 ∷ []) then Some Zip else
    if starts_with nat_eq bytes (0x4e ∷ 0xf5 ∷ 0x46 ∷ 0xe9 ∷ 0x6c ∷ 0xe5 ∷ []) then Some ShrinkIt else
    if starts_with nat_eq bytes (codes "2IMG") then Some Container else
    if is_disk_copy bytes then Some DiskCopy else of_length (length bytes)
