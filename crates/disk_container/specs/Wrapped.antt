-- The container of an image: a header of 64 bytes, the image, and a comment.
use Rattle.std.specs.Prelude.{◌≤◌, ℕ, ◌+◌, ◌/◌, ◌%◌, ◌==◌, Bool, List, [], ◌∷◌, ◌++◌, Option, Some, None, codes}
use Rattle.std.specs.Prelude.{if◌then◌else◌, length, replicate}
use Rattle.a2_device.specs.declared.order.Order.{Order}
use Rattle.a2_device.specs.Order.{IsImageLength}
use Rattle.disk_container.specs.Order.{blocks_of, format_of}

-- a number as two bytes
abbrev pub two_bytes : ℕ → List ℕ
two_bytes n = n % 256 ∷ n / 256 % 256 ∷ []

-- a number as four bytes
abbrev pub four_bytes : ℕ → List ℕ
four_bytes n = n % 256 ∷ n / 256 % 256 ∷ n / 65536 % 256 ∷ n / 16777216 % 256 ∷ []

-- ---- the flags

abbrev pub protected_flag : Bool → ℕ
protected_flag protect = if protect then 0x8000_0000 else 0

abbrev pub volume_flags : Option ℕ → ℕ
volume_flags None = 0
volume_flags (Some volume) = 0x100 + volume

abbrev pub flags_of : Option ℕ → Bool → ℕ
flags_of volume protect = protected_flag protect + volume_flags volume

-- ---- the header

-- what it begins with: the magic number, the creator, its own length, and the version
abbrev pub top_bytes : List ℕ
top_bytes = codes "2IMG" ++ codes "A2SH" ++ two_bytes 64 ++ two_bytes 1

-- order and flags of an image of so many bytes, and its blocks
abbrev pub kind_bytes : Order → Option ℕ → Bool → ℕ → List ℕ
kind_bytes order volume protect size =
    four_bytes (format_of order) ++ four_bytes (flags_of volume protect) ++ four_bytes (blocks_of order size)

-- what it says of an image of so many bytes: the same, where the data begin, and how many bytes they have
abbrev pub image_bytes : Order → Option ℕ → Bool → ℕ → List ℕ
image_bytes order volume protect size =
    kind_bytes order volume protect size ++ four_bytes 64 ++ four_bytes size

-- where a comment of so many bytes begins, behind the image; 0 where there is none
abbrev pub comment_start : ℕ → ℕ → ℕ
comment_start size comment = if comment == 0 then 0 else 64 + size

-- where the comment begins and how many bytes it has, no data of the creator's own, and what is reserved
abbrev pub end_bytes : ℕ → ℕ → List ℕ
end_bytes size comment = four_bytes (comment_start size comment) ++ four_bytes comment ++ replicate 24 0

-- the header, for an image and a comment of so many bytes
abbrev pub header_bytes : Order → Option ℕ → Bool → ℕ → ℕ → List ℕ
header_bytes order volume protect size comment =
    top_bytes ++ image_bytes order volume protect size ++ end_bytes size comment

-- ---- the file

abbrev pub wrapped_bytes : Order → Option ℕ → List ℕ → Bool → List ℕ → List ℕ
wrapped_bytes order volume comment protect payload =
    header_bytes order volume protect (length payload) (length comment) ++ payload ++ comment

-- an image of the order may have so many bytes, and a comment of so many leaves the file short enough
pub record CanBeWrapped (order : Order) (size comment : ℕ) : Type 0 where
  pub image : IsImageLength order size
  pub not_long : comment ≤ 65472
