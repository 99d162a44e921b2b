-- What `wrap` and `unwrap` answer, and what is handed out of a job on the payload of a container.
use Rattle.std.specs.Prelude.{◌≡◌, ◌⊎◌, List, ◌++◌, ℕ, None, length}
use Rattle.a2_device.specs.declared.order.Order.{Order}
use Rattle.disk_container.specs.declared.container.Container.{Container}
use Rattle.disk_container.specs.declared.error.ContainerFault.{ContainerFault}
use Rattle.disk_container.specs.Container.{IsContainer, payload_in}
use Rattle.disk_container.specs.Faults.{IsFault}
use Rattle.disk_container.specs.Wrapped.{CanBeWrapped, wrapped_bytes}
use Rattle.shop_jobs.specs.Job.{WrappingView}
use Rattle.shop_replies.specs.declared.refusal.Failure.TheVariants as failures
use Rattle.shop_replies.specs.declared.refusal.Refusal.TheVariants as refusals
use Rattle.shop_replies.specs.declared.reply.Reply.{Reply}
use Rattle.shop_replies.specs.Reply.{IsMade, IsMadeReply, failed, made_of, refused}

-- an image of so many bytes in an order may be wrapped, by these words
abbrev pub TakesImage : Order → WrappingView → ℕ → Type 0
TakesImage order words bytes = CanBeWrapped order bytes (length words.comment)

-- its container, by these words
abbrev pub container_by : Order → WrappingView → List ℕ → List ℕ
container_by order words image = wrapped_bytes order words.volume words.comment words.protect image

-- What `wrap` answers: the container; `Length` where no image of the order has so many bytes, or the comment is too
-- long; or want of memory.
abbrev pub IsWrapReply : Order → WrappingView → List ℕ → Reply → Type 0
IsWrapReply order words image reply =
    (TakesImage order words (length image) × IsMadeReply reply × (made_of reply ≡ container_by order words image))
    ⊎ ((reply ≡ refused refusals.Length) × ¬ TakesImage order words (length image))
    ⊎ (reply ≡ failed failures.Memory)

-- What `unwrap` answers: the payload of the container; or what is wrong with a file that is none.
abbrev pub IsUnwrapReply : List ℕ → Reply → Type 0
IsUnwrapReply file reply =
    ((container : Container) × IsContainer file container × IsMadeReply reply
    × (made_of reply ≡ payload_in file container))
    ⊎ ((fault : ContainerFault) × IsFault file fault × (reply ≡ refused (refusals.Container fault)))

-- the same reply, and it hands out an image with this in front of it and that behind it
pub record IsAround (front back : List ℕ) (reply around : Reply) : Type 0 where
  pub status : around.status ≡ reply.status
  pub told : around.told ≡ reply.told
  pub made : IsMade around
  pub image : made_of around ≡ front ++ made_of reply ++ back

-- A reply in a shell: the image that it hands out stands in it, or there was no memory for that; one without an image
-- is the same.
abbrev pub IsInShell : List ℕ → List ℕ → Reply → Reply → Type 0
IsInShell front back reply around =
    ((reply.image ≡ None) × (around ≡ reply))
    ⊎ (IsMade reply × (IsAround front back reply around ⊎ (around ≡ failed failures.Memory)))
