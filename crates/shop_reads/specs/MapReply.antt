-- What is told of a volume whose map is drawn.
use Rattle.std.specs.Prelude.{◌≡◌, ◌⊎◌, ℕ, List}
use Rattle.a2_device.specs.Device.{DeviceState}
use Rattle.a2_device.specs.declared.fault.Fault.{Fault}
use Rattle.vol_layout.specs.declared.form.PlaceForm.{PlaceForm}
use Rattle.vol_format.specs.Meaning.{Meaning}
use Rattle.vol_check.specs.Answer.{AreFaults}
use Rattle.file_listings.specs.DosText.{Text}
use Rattle.shop_replies.specs.declared.refusal.Refusal.TheVariants as refusals
use Rattle.shop_replies.specs.declared.refusal.Failure.TheVariants as failures
use Rattle.shop_replies.specs.declared.reply.Reply.{Reply}
use Rattle.shop_replies.specs.declared.reply.Status.TheVariants.{Done}
use Rattle.shop_replies.specs.Reply.{IsTold, failed, refused, text_of}
use Rattle.shop_replies.specs.Volume.{LacksUnit}
use Rattle.shop_reads.specs.MapStates.{IsMap}
use Rattle.shop_reads.specs.MapText.{map_text}
use Rattle.shop_reads.specs.declared.place_state.PlaceState.{PlaceState}

-- the text is the map of the volume
pub record IsMapText (form : PlaceForm) (format unreserved : Meaning) (store : List (List ℕ))
    (text : Text) : Type 0 where
  pub parts : ℕ
  pub places : List PlaceState
  pub of_volume : IsMap format unreserved store parts places
  pub is : text ≡ map_text form parts places

-- the reply with the map of a volume that has so many parts and whose places are in these states, or for want of memory
abbrev pub TellsMap : PlaceForm → ℕ → List PlaceState → Reply → Type 0
TellsMap form parts places reply =
    (IsTold Done reply × (text_of reply ≡ map_text form parts places)) ⊎ (reply ≡ failed failures.Memory)

-- the checker tells faults of the volume
abbrev pub HasFaults : Meaning → List (List ℕ) → Type 0
HasFaults format store = (faults : List Fault) × AreFaults format store faults

-- The reply to `map`: the map of an accepted volume; `Check` where the checker tells faults; a failure where a unit
-- can't be read; or want of memory.
abbrev pub IsMapped : PlaceForm → Meaning → Meaning → DeviceState → Reply → Type 0
IsMapped form format unreserved device reply =
    (IsTold Done reply × IsMapText form format unreserved device.store (text_of reply))
    ⊎ ((reply ≡ refused refusals.Check) × HasFaults format device.store)
    ⊎ ((reply ≡ failed failures.Device) × LacksUnit device)
    ⊎ (reply ≡ failed failures.Memory)
