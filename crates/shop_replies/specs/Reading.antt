-- How many bytes are read, and what may go wrong.
use Rattle.std.specs.Prelude.{◌≡◌, ◌⊎◌, ℕ, Option, Some, None}
use Rattle.disk_container.specs.Container.{most_bytes as most_around}
use Rattle.shop_jobs.specs.Input.{BesideView, FileBeside, FolderBeside, ImageBeside, NothingBeside, ReadingView, order_of}
use Rattle.shop_jobs.specs.declared.input.OrderSaid.{OrderSaid}
use Rattle.shop_jobs.specs.declared.input.OrderSaid.TheVariants.{Is, ByContainer, ByReading}
use Rattle.shop_replies.specs.Disk.{most_bytes}
use Rattle.shop_replies.specs.declared.refusal.Failure.{Failure}
use Rattle.shop_replies.specs.declared.refusal.Failure.TheVariants.{Input, Memory}

-- the reader fails, or there is no room for what it has
abbrev pub IsReadFailure : Failure → Type 0
IsReadFailure failure = (failure ≡ Input) ⊎ (failure ≡ Memory)

-- the most bytes that are taken of an image: those of its order, or where that is not known, as it may be a container,
-- those of one
abbrev pub most_in_order : OrderSaid → ℕ
most_in_order (Is order) = most_bytes order
most_in_order ByReading = most_around
most_in_order ByContainer = most_around

abbrev pub most_said : Option OrderSaid → ℕ
most_said (Some order) = most_in_order order
most_said None = most_around

abbrev pub most_of_image : ReadingView → ℕ
most_of_image reading = most_said (order_of reading)

-- the most bytes that are taken of what is read beside it: of another image the same, of a certificate or of a file
-- that is saved 16,777,216
abbrev pub most_beside : BesideView → ℕ
most_beside (ImageBeside source order) = most_in_order order
most_beside NothingBeside = 16777216
most_beside (FileBeside path) = 16777216
most_beside (FolderBeside path) = 16777216
