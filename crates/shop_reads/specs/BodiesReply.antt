-- What is told of a volume that is checked with the bodies of its files.
use Rattle.std.specs.Prelude.{◌≡◌, ◌⊎◌, ◌↔◌, ◌==◌, ℕ, List, [], ◌∷◌, ◌++◌, codes, filter, flat_map, Contains}
use Rattle.std.specs.List.{list_any}
use Rattle.a2_device.specs.Device.{DeviceState}
use Rattle.a2_device.specs.declared.part.Part.{Part}
use Rattle.file_formats.specs.Files.{FileMeaning}
use Rattle.file_listings.specs.DosText.{Text, line}
use Rattle.file_listings.specs.Steps.{path_of, shown_path}
use Rattle.vol_layout.specs.Reserved.{told_place}
use Rattle.vol_layout.specs.declared.form.PlaceForm.{PlaceForm}
use Rattle.vol_format.specs.Accepted.{IsAccepted}
use Rattle.vol_format.specs.Directory.{Directory}
use Rattle.vol_format.specs.Meaning.{Meaning}
use Rattle.vol_format.specs.Reach.{IsPartsOf}
use Rattle.vol_format.specs.Standing.{IsLost}
use Rattle.vol_check.specs.Told.{Told, IsToldOf}
use Rattle.shop_reads.specs.CheckReply.{IsUnaccepted, TellsAccepted}
use Rattle.shop_replies.specs.declared.refusal.Failure.TheVariants as failures
use Rattle.shop_replies.specs.declared.reply.Reply.{Reply}
use Rattle.shop_replies.specs.Reply.{IsTold, failed, text_of}
use Rattle.shop_replies.specs.declared.reply.Status.TheVariants.{Wrong}

-- of some parts those whose units are among these that can't be read, in their order
abbrev pub unread_parts : List ℕ → List Part → List Part
unread_parts unreadable parts = filter (λ (part : Part). list_any (λ place. place == part.place) unreadable) parts

-- the place of such a part, and the path of its file as a listing shows it
abbrev pub unread_text : PlaceForm → ℕ → List ℕ → Text
unread_text form place path = codes "UNREADABLE " ++ (told_place form place ++ (32 ∷ shown_path form path))

abbrev pub unread_line : PlaceForm → FileMeaning → Directory → Part → Text
unread_line form files directory part = line (unread_text form part.place (path_of files directory part.file))

-- a line for each of these parts, or want of memory
abbrev pub TellsUnread : PlaceForm → FileMeaning → Directory → List Part → Reply → Type 0
TellsUnread form files directory parts reply =
    (IsTold Wrong reply × (text_of reply ≡ flat_map (unread_line form files directory) parts))
    ⊎ (reply ≡ failed failures.Memory)

-- what is told of an accepted volume, of whose parts these can't be read
abbrev pub TellsBodies : PlaceForm → FileMeaning → Directory → Told → List Part → Reply → Type 0
TellsBodies form files directory told [] reply = TellsAccepted told reply
TellsBodies form files directory told (part ∷ parts) reply = TellsUnread form files directory (part ∷ parts) reply

-- The volume is accepted, and these are its files, their parts, the available places and the lost ones, by number.
pub record IsBodiesReply (form : PlaceForm) (files : FileMeaning) (format : Meaning) (device : DeviceState)
    (reply : Reply) : Type 0 where
  pub directory : Directory
  pub accepted : IsAccepted format directory device.store
  pub told : Told
  pub of_directory : IsToldOf directory told
  pub parts : IsPartsOf format directory device.store told.parts
  pub lost : (place : ℕ) → Contains told.lost place ↔ IsLost format directory device.store place
  pub is : TellsBodies form files directory told (unread_parts device.unreadable told.parts) reply

-- The reply to a check with bodies: of an accepted volume a line for each part whose unit can't be read, or what a
-- check tells where there is none; or why no volume is accepted.
abbrev pub IsCheckedWhole : PlaceForm → FileMeaning → Meaning → DeviceState → Reply → Type 0
IsCheckedWhole form files format device reply =
    IsBodiesReply form files format device reply ⊎ IsUnaccepted form format device reply
