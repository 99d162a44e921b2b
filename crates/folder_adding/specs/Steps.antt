-- One of the items, saved or not, by its number.
use Rattle.std.specs.Prelude.{ℕ, List, [], Option, None, slice_index_or}
use Rattle.a2_device.specs.Device.{DeviceState}
use Rattle.folder_adding.specs.Added.{IsItemAdded}
use Rattle.folder_adding.specs.Items.{BatchView, ItemView, file_at}
use Rattle.folder_adding.specs.Refused.{IsItemRefused}
use Rattle.edit_formats.specs.Saves.{SaveMeaning}
use Rattle.shop_replies.specs.declared.refusal.Failure.{Failure}
use Rattle.shop_replies.specs.declared.reply.Reply.{Reply}
use Rattle.vol_format.specs.Meaning.{Meaning}

-- what stands for an item of a number that there is not
abbrev pub no_item : ItemView
no_item = record { path = []; kind = None; aux = None; form = None; second = None }

abbrev pub item_at : List ItemView → ℕ → ItemView
item_at items number = slice_index_or items number no_item

abbrev pub IsAddedAt : BatchView → Option (ℕ → List ℕ) → SaveMeaning → Meaning → ℕ → DeviceState → DeviceState → Type 0
IsAddedAt batch holds saves format number old new =
    IsItemAdded batch holds saves format (file_at batch number) (item_at batch.items number) old new

abbrev pub IsRefusedAt : {H : Type 0} → (H → ℕ → Failure → Type 0) → BatchView → Option (ℕ → List ℕ) → SaveMeaning
    → Meaning → ℕ → DeviceState → DeviceState → ℕ → Reply → Type 0
IsRefusedAt may_fail batch holds saves format number old new told reply =
    IsItemRefused may_fail batch holds saves format (file_at batch number) (item_at batch.items number) old new told
    reply
