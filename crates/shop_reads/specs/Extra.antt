-- What a look reads beside its image.
use Rattle.std.specs.Prelude.{ℕ, List, []}
use Rattle.a2_device.specs.declared.order.Order.{Order}
use Rattle.shop_reads.specs.declared.extra.Extra.{Extra}
use Rattle.shop_reads.specs.declared.extra.Extra.TheVariants as extras

-- the bytes of a file, or of another image in its order
pub data ExtraView : Type 0 where
  FileBytes : List ℕ → ExtraView
  ImageBytes : Order → List ℕ → ExtraView

abbrev pub extra_view : Extra → ExtraView
extra_view (extras.File bytes) = FileBytes bytes.items
extra_view (extras.Image bytes order) = ImageBytes order bytes.items

-- the bytes of the file; an image is none
abbrev pub given_bytes : ExtraView → List ℕ
given_bytes (FileBytes bytes) = bytes
given_bytes (ImageBytes order bytes) = []
