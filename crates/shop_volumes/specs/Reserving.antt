-- The places that words reserve on a volume.
use Rattle.std.specs.Prelude.{◌≡◌, ◌⊎◌, ℕ, Bool, List, [], Option, Some, None}
use Rattle.vol_layout.specs.Reserved.{IsPlaceList, Reserves}
use Rattle.vol_layout.specs.declared.reserve_error.ReserveError.{ReserveError}
use Rattle.vol_layout.specs.declared.reserve_error.ReserveError.TheVariants as reserves
use Rattle.vol_layout.specs.declared.form.PlaceForm.{PlaceForm}
use Rattle.file_listings.specs.DosText.{Text}
use Rattle.shop_jobs.specs.declared.input.FileSystem.{FileSystem}
use Rattle.shop_replies.specs.declared.refusal.Refusal.TheVariants as refusals
use Rattle.shop_replies.specs.declared.refusal.Failure.TheVariants as failures
use Rattle.shop_replies.specs.declared.reply.Reply.{Reply}
use Rattle.shop_replies.specs.Reply.{failed, refused}
use Rattle.shop_replies.specs.Volume.{form_of}

-- the words name places to reserve, or do not speak of them
abbrev pub NamesPlaces : PlaceForm → Option Text → Type 0
NamesPlaces form None = Unit {0}
NamesPlaces form (Some text) = (places : List ℕ) × IsPlaceList form text places

-- what is reserved is what the words name
abbrev pub ReservesNamed : PlaceForm → Option Text → List Bool → Type 0
ReservesNamed form None reserved = reserved ≡ []
ReservesNamed form (Some text) reserved = Reserves form text reserved

-- the reply to a text of places to reserve that is not taken
abbrev pub reply_to_reserve : ReserveError → Reply
reply_to_reserve reserves.Syntax = refused refusals.Reserve
reply_to_reserve reserves.Memory = failed failures.Memory

-- this is said where the words reserve these places on a volume of a file system
abbrev pub OfReserved : FileSystem → Option Text → (List Bool → Type 0) → Type 0
OfReserved file_system reserve P =
    (reserved : List Bool) × ReservesNamed (form_of file_system) reserve reserved × P reserved

-- The reply to work on a device: `Reserve` for a text that is no list of places; want of memory; or one of which this
-- is said, where the words reserve these places.
abbrev pub IsDeviceReply : FileSystem → Option Text → (List Bool → Type 0) → Reply → Type 0
IsDeviceReply file_system reserve Tells reply =
    ((reply ≡ refused refusals.Reserve) × ¬ NamesPlaces (form_of file_system) reserve)
    ⊎ (reply ≡ failed failures.Memory)
    ⊎ OfReserved file_system reserve Tells
