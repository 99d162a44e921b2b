-- Which bytes are a container, and what it says.
use Rattle.std.specs.Prelude.{◌≡◌, ◌≤◌, ◌⊎◌, ℕ, ◌+◌, List, ◌++◌, length, slice_range}
use Rattle.disk_container.specs.declared.container.Container.{Container}
use Rattle.disk_container.specs.declared.header.Header.{Header}
use Rattle.a2_device.specs.declared.order.Order.{Order}
use Rattle.disk_container.specs.Format.{BeginsLikeContainer, header_of, image_size, is_protected, volume_of}
use Rattle.a2_device.specs.Order.{IsImageLength}
use Rattle.disk_container.specs.Order.{format_of}

-- the longest container: the longest image, and 65,536 bytes around it
abbrev pub most_bytes : ℕ
most_bytes = 33553920 + 65536

-- the bytes are not too many, and begin with a header of 64 bytes, or of 52 as in some old files
pub record HasHeader (bytes : List ℕ) : Type 0 where
  pub begins : BeginsLikeContainer bytes
  pub not_long : length bytes ≤ most_bytes
  pub sized : ((header_of bytes).size ≡ 52) ⊎ ((header_of bytes).size ≡ 64)
  pub whole : (header_of bytes).size ≤ length bytes

-- the header says that the image has this order
pub record IsOfOrder (header : Header) (order : Order) : Type 0 where
  pub number : header.format ≡ format_of order

-- the data, those of an image of this order, lie behind the header and wholly inside a file of so many bytes
pub record HoldsData (header : Header) (order : Order) (bytes : ℕ) : Type 0 where
  pub behind : header.size ≤ header.data_start
  pub inside : header.data_start + image_size order header ≤ bytes

-- the bytes are a container, and this is what it says
pub record IsContainer (bytes : List ℕ) (container : Container) : Type 0 where
  pub header : HasHeader bytes
  pub order : IsOfOrder (header_of bytes) container.order
  pub holds : HoldsData (header_of bytes) container.order (length bytes)
  pub image : IsImageLength container.order (image_size container.order (header_of bytes))
  pub protection : container.protected ≡ is_protected (header_of bytes).flags
  pub volume : container.volume ≡ volume_of (header_of bytes).flags
  pub start : container.start ≡ (header_of bytes).data_start
  pub size : container.size ≡ image_size container.order (header_of bytes)

-- the payload of a container: its data
abbrev pub payload_in : List ℕ → Container → List ℕ
payload_in bytes container = slice_range bytes container.start (container.start + container.size)

-- bytes in three parts: what stands in front of the payload of a container, the payload, and what stands behind it
pub record HasParts (bytes : List ℕ) (container : Container) (front payload back : List ℕ) : Type 0 where
  pub joined : bytes ≡ front ++ payload ++ back
  pub front_size : length front ≡ container.start
  pub payload_size : length payload ≡ container.size
