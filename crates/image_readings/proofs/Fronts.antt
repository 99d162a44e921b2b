-- What was read of an image, up to one byte past the most that any reading allows, answers for all of it.
use Rattle.std.proofs.Common.{◌≡◌, ◌∙◌, ◌<◌, ◌≤◌, ◌+◌, ◌==◌, subst, refl, inl, inr, ℕ, Bool, true, false, List, [], ◌∷◌, length, map, filter, take, take_all, length-take, arith}
use Rattle.std.proofs.lemmas.Bool.Decides.{nat_tests}
use Rattle.std.specs.Prelude.{nat_le}
use Rattle.a2_device.specs.declared.order.Order.{Order}
use Rattle.a2_device.specs.declared.order.Order.TheVariants as orders
use Rattle.shop_jobs.specs.declared.input.FileSystem.{FileSystem}
use Rattle.shop_jobs.specs.declared.input.FileSystem.TheVariants as systems
use Rattle.disk_container.specs.Container.{most_bytes as most_around}
use Rattle.shop_replies.proofs.Fronts.{begins-front, begins-whole, container-whole, fault-whole}
use Rattle.shop_replies.specs.declared.reply.Reply.{Reply}
use Rattle.image_readings.specs.declared.reading.Reading.{Reading}
use Rattle.image_readings.specs.IdentifyReply.{IsIdentifyReply, IsImageReply, allows, way_of, ways}

passed_over : {X : Type 0} (p : X → Bool) (x : X) (xs : List X) → p x ≡ false → filter p (x ∷ xs) ≡ filter p xs
passed_over p x xs fails = rw fails refl

-- no way to read so many bytes
none_past : (bytes : ℕ) → 33553920 < bytes → filter (allows bytes) ways ≡ []
none_past bytes past =
    let fifth : List (FileSystem × Order) = (systems.Prodos, orders.Nibble) ∷ [] in
    let fourth : List (FileSystem × Order) = (systems.Prodos, orders.Prodos) ∷ fifth in
    let third : List (FileSystem × Order) = (systems.Prodos, orders.Dos) ∷ fourth in
    let second : List (FileSystem × Order) = (systems.Dos, orders.Nibble) ∷ third in
    let first : List (FileSystem × Order) = (systems.Dos, orders.Prodos) ∷ second in
    passed_over (allows bytes) (systems.Dos, orders.Dos) first no_disk
    ∙ passed_over (allows bytes) (systems.Dos, orders.Prodos) second no_disk
    ∙ passed_over (allows bytes) (systems.Dos, orders.Nibble) third no_tracks
    ∙ passed_over (allows bytes) (systems.Prodos, orders.Dos) fourth no_disk
    ∙ passed_over (allows bytes) (systems.Prodos, orders.Prodos) fifth no_blocks
    ∙ passed_over (allows bytes) (systems.Prodos, orders.Nibble) [] no_tracks
  where
    no_disk : (bytes == 143360) ≡ false
    no_disk = grind (arith, nat_tests, past)

    no_tracks : (bytes == 232960) ≡ false
    no_tracks = grind (arith, nat_tests, past)

    no_blocks : allows bytes (systems.Prodos, orders.Prodos) ≡ false
    no_blocks = grind (arith, nat_tests, past)

no_readings : (readings : List Reading) → map way_of readings ≡ [] → readings ≡ []
no_readings [] none = refl
no_readings (reading ∷ rest) none = cc

-- an image, of which one byte past the most of a container was read
image-whole : (head image : List ℕ) (reply : Reply) → IsImageReply head (take (most_around + 1) image) reply → IsImageReply head image reply
image-whole head image reply is = by_length (nat_le (length image) most_around) refl
  where
    read : List ℕ
    read = take (most_around + 1) image

    by_length : (b : Bool) → nat_le (length image) most_around ≡ b → IsImageReply head image reply
    by_length true short =
        let few : length image ≤ most_around + 1 = grind (arith, nat_tests, short) in
        subst (λ (bytes : List ℕ). IsImageReply head bytes reply) (take_all (most_around + 1) image few) is
    by_length false long =
        let many : most_around < length image = grind (arith, nat_tests, long) in
        let past : 33553920 < length read = omega (arith, many, length-take (most_around + 1) image) in
        elim is [
          | inl told ↦ absurd (told.some (no_readings told.readings (told.are.in_order ∙ none_past (length read) past)))
          | inr (inl refused) ↦ inr (inl (refused.0, none_past (length image) (omega (arith, many))))
          | inr (inr memory) ↦ inr (inr memory)
        ]

pub identify-whole : (file : List ℕ) (reply : Reply) → IsIdentifyReply (take (most_around + 1) file) reply → IsIdentifyReply file reply
identify-whole file reply (inl (plain, is)) = inl (λ begins. plain (begins-front file begins), image-whole [] file reply is)
identify-whole file reply (inr (inl (container, is, told))) =
    subst (λ (bytes : List ℕ). IsIdentifyReply bytes reply) (container-whole file container is) (inr (inl (container, is, told)))
identify-whole file reply (inr (inr (fault, begins, is, told))) = inr (inr (fault, begins-whole file begins, fault-whole file fault is, told))
