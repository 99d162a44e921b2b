-- What was read of an image, up to one byte past the most that an image of its order has, answers for all of it.
use Rattle.std.proofs.Common.{◌≡◌, ℕ, ◌+◌, ◌<◌, ◌≤◌, Bool, true, false, List, [], ◌∷◌, length, take, take_all, length-take, arith, ap, refl, subst, sym, ◌∙◌, inl, inr}
use Rattle.std.proofs.lemmas.Bool.Decides.{nat_tests}
use Rattle.std.specs.List.{starts_with}
use Rattle.std.specs.Prelude.{Option, IsTrue, codes, nat_eq, nat_le}
use Rattle.a2_device.specs.declared.order.Order.{Order}
use Rattle.a2_device.specs.declared.order.Order.TheVariants.{Dos, Prodos, Nibble}
use Rattle.a2_device.specs.Device.{DeviceState}
use Rattle.a2_device.specs.Order.{IsImageLength}
use Rattle.shop_jobs.specs.declared.input.FileSystem.{FileSystem}
use Rattle.shop_jobs.specs.declared.input.FileSystem.TheVariants.{Dos as Dos_volume, Prodos as Prodos_volume}
use Rattle.shop_replies.specs.declared.reply.Reply.{Reply}
use Rattle.shop_replies.specs.Reply.{made_of}
use Rattle.disk_container.specs.declared.container.Container.{Container}
use Rattle.disk_container.specs.declared.error.ContainerFault.{ContainerFault}
use Rattle.disk_container.specs.declared.error.ContainerFault.TheVariants as faults
use Rattle.disk_container.specs.Container.{IsContainer, most_bytes as most_around}
use Rattle.disk_container.specs.Faults.{IsFault}
use Rattle.disk_container.specs.Format.{BeginsLikeContainer}
use Rattle.shop_jobs.specs.Job.{WrappingView}
use Rattle.shop_replies.specs.ContainerReply.{IsUnwrapReply, IsWrapReply, TakesImage}
use Rattle.shop_replies.specs.ConvertReply.{IsConvertReply, IsConverted}
use Rattle.shop_replies.specs.Volume.{OfVolume, TakesBytes}
use Rattle.shop_replies.specs.Disk.{IsDiskImage, LacksOne, OfDisk, disk_bytes, most_bytes}

pub disk_bytes-lt : (order : Order) → disk_bytes order ≤ most_bytes order
disk_bytes-lt Dos = omega arith
disk_bytes-lt Prodos = omega arith
disk_bytes-lt Nibble = omega arith

-- one byte past the most is enough to tell the images of a disk from others
take-disk : (order : Order) (image : List ℕ) → IsDiskImage order (take (most_bytes order + 1) image) → take (most_bytes order + 1) image ≡ image
take-disk order image long =
    let few = disk_bytes-lt order in
    take_all (most_bytes order + 1) image (omega (arith, long, few, length-take (most_bytes order + 1) image))

IsDiskImage-take : (order : Order) (image : List ℕ) → IsDiskImage order image → IsDiskImage order (take (most_bytes order + 1) image)
IsDiskImage-take order image long =
    let few = disk_bytes-lt order in
    ap length (take_all (most_bytes order + 1) image (omega (arith, long, few))) ∙ long

OfDisk-whole : (order : Order) (image : List ℕ) (P : List (Option (List ℕ)) → Type 0)
    → OfDisk order (take (most_bytes order + 1) image) P → OfDisk order image P
OfDisk-whole order image P disk = subst (λ bytes. OfDisk order bytes P) (take-disk order image disk.0) disk

pub convert-whole : (order to : Order) (volume : ℕ) (image : List ℕ) (reply : Reply) → IsConvertReply order to volume (take (most_bytes order + 1) image) reply
    → IsConvertReply order to volume image reply
convert-whole order to volume image reply is = elim is [
  | inl made ↦ inl (made.0, OfDisk-whole order image (λ sectors. IsConverted sectors to volume (made_of reply)) made.1)
  | inr (inl long) ↦ inr (inl (long.0, λ is. long.1 (IsDiskImage-take order image is)))
  | inr (inr (inl lacks)) ↦ inr (inr (inl (lacks.0, OfDisk-whole order image LacksOne lacks.1)))
  | inr (inr (inr memory)) ↦ inr (inr (inr memory))
]

-- and so of a volume's image
most-takes : (file_system : FileSystem) (order : Order) (bytes : ℕ) → TakesBytes file_system order bytes → bytes ≤ most_bytes order
unfolding IsImageLength
most-takes Dos_volume order bytes takes = let few = disk_bytes-lt order in omega (arith, few, takes)
most-takes Prodos_volume Dos bytes takes = omega (arith, takes)
most-takes Prodos_volume Prodos bytes takes = omega (arith, takes.2)
most-takes Prodos_volume Nibble bytes takes = omega (arith, takes)

-- one byte past the most is enough to tell what is taken from what is not
past-most : (file_system : FileSystem) (order : Order) (image : List ℕ) → TakesBytes file_system order (length (take (most_bytes order + 1) image)) → take (most_bytes order + 1) image ≡ image
past-most file_system order image takes =
    take_all (most_bytes order + 1) image
    (omega (arith, most-takes file_system order (length (take (most_bytes order + 1) image)) takes, length-take (most_bytes order + 1) image))

pub TakesBytes-take : (file_system : FileSystem) (order : Order) (image : List ℕ) → TakesBytes file_system order (length image)
    → TakesBytes file_system order (length (take (most_bytes order + 1) image))
TakesBytes-take file_system order image takes =
    subst (λ bytes. TakesBytes file_system order (length bytes)) (sym (take_all (most_bytes order + 1) image (omega (arith, most-takes file_system order (length image) takes)))) takes

pub OfVolume-whole : (file_system : FileSystem) (order : Order) (image : List ℕ) (P : DeviceState → Type 0)
    → OfVolume file_system order (take (most_bytes order + 1) image) P → OfVolume file_system order image P
OfVolume-whole file_system order image P volume = subst (λ bytes. OfVolume file_system order bytes P) (past-most file_system order image volume.0) volume

-- so of an image that is wrapped
pub wrap-whole : (order : Order) (words : WrappingView) (image : List ℕ) (reply : Reply) → IsWrapReply order words (take (most_bytes order + 1) image) reply
    → IsWrapReply order words image reply
wrap-whole order words image reply is = elim is [
  | inl wrapped ↦
      let whole = past-most Prodos_volume order image wrapped.0.image in
      subst (λ bytes. IsWrapReply order words bytes reply) whole (inl wrapped)
  | inr (inl long) ↦ inr (inl (long.0, λ takes. long.1 (record { image = TakesBytes-take Prodos_volume order image takes.image; not_long = takes.not_long })))
  | inr (inr memory) ↦ inr (inr memory)
]

-- ---- containers

-- what bytes begin with is known of a front of them
begins_front : (bytes : List ℕ) → starts_with nat_eq (take (most_around + 1) bytes) (codes "2IMG") ≡ starts_with nat_eq bytes (codes "2IMG")
begins_front [] = refl
begins_front (a ∷ []) = refl
begins_front (a ∷ b ∷ []) = refl
begins_front (a ∷ b ∷ c ∷ []) = refl
begins_front (a ∷ b ∷ c ∷ d ∷ rest) = refl

-- of a front of one byte past the most, and of all bytes, the same is wrong
fault_past : (bytes : List ℕ) (fault : ContainerFault) → most_around < length bytes → IsFault (take (most_around + 1) bytes) fault → IsFault bytes fault
fault_past bytes faults.Magic many is = λ begins. is (subst IsTrue (sym (begins_front bytes)) begins)
fault_past bytes faults.Header many is = absurd (omega (arith, many, is.1, length-take (most_around + 1) bytes))
fault_past bytes faults.Format many is = absurd (omega (arith, many, is.header.not_long, length-take (most_around + 1) bytes))
fault_past bytes faults.Data many is = absurd (omega (arith, many, is.has_order.header.not_long, length-take (most_around + 1) bytes))
fault_past bytes faults.Length many (inl (begins, more)) = inl (subst IsTrue (begins_front bytes) begins, many)
fault_past bytes faults.Length many (inr odd) = absurd (omega (arith, many, odd.has_order.header.not_long, length-take (most_around + 1) bytes))

-- one byte past the most is enough to tell what is a container, and what is wrong with a file that is none
pub container-whole : (bytes : List ℕ) (container : Container) → IsContainer (take (most_around + 1) bytes) container → take (most_around + 1) bytes ≡ bytes
container-whole bytes container is = take_all (most_around + 1) bytes (omega (arith, is.header.not_long, length-take (most_around + 1) bytes))

pub fault-whole : (bytes : List ℕ) (fault : ContainerFault) → IsFault (take (most_around + 1) bytes) fault → IsFault bytes fault
fault-whole bytes fault is = by_length (nat_le (length bytes) most_around) refl
  where
    by_length : (b : Bool) → nat_le (length bytes) most_around ≡ b → IsFault bytes fault
    by_length true short =
        let few : length bytes ≤ most_around + 1 = grind (arith, nat_tests, short) in
        subst (λ (front : List ℕ). IsFault front fault) (take_all (most_around + 1) bytes few) is
    by_length false long =
        let many : most_around < length bytes = grind (arith, nat_tests, long) in
        fault_past bytes fault many is

pub begins-whole : (bytes : List ℕ) → BeginsLikeContainer (take (most_around + 1) bytes) → BeginsLikeContainer bytes
begins-whole bytes begins = subst IsTrue (begins_front bytes) begins

pub begins-front : (bytes : List ℕ) → BeginsLikeContainer bytes → BeginsLikeContainer (take (most_around + 1) bytes)
begins-front bytes begins = subst IsTrue (sym (begins_front bytes)) begins

pub unwrap-whole : (file : List ℕ) (reply : Reply) → IsUnwrapReply (take (most_around + 1) file) reply → IsUnwrapReply file reply
unwrap-whole file reply (inl (container, is, handed, payload)) =
    subst (λ (bytes : List ℕ). IsUnwrapReply bytes reply) (container-whole file container is) (inl (container, is, handed, payload))
unwrap-whole file reply (inr (fault, is, told)) = inr (fault, fault-whole file fault is, told)
