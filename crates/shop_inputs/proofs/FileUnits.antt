-- The units of an image's file are those of its file system.
use Rattle.std.proofs.Common.{◌≡◌, ◌*◌, ◌≤◌, ◌<◌, ℕ, inl, inr, refl, sym, subst, arith}
use Rattle.std.specs.Prelude.{Result, Ok, Err, IfOk}
use Rattle.a2_device.specs.Order.{IsImageLength}
use Rattle.a2_device.specs.declared.order.Order.{Order}
use Rattle.a2_device.specs.declared.order.Order.TheVariants as orders
use Rattle.a2_device.specs.Device.{DeviceState}
use Rattle.a2_media.specs.declared.units.UnitKind.{UnitKind}
use Rattle.a2_media.specs.declared.units.UnitKind.TheVariants.{Sector, Block}
use Rattle.shop_jobs.specs.declared.input.FileSystem.{FileSystem}
use Rattle.shop_jobs.specs.declared.input.FileSystem.TheVariants.{Dos, Prodos}
use Rattle.shop_replies.specs.Volume.{HasUnitsOf, kind_of}
use Rattle.a2_media.specs.File.{FileState}
use Rattle.a2_media.specs.System.{IsDeviceOf}

disk_sectors : (places size : ℕ) → 256 * places ≡ size → IsImageLength orders.Dos size → places ≡ 560
unfolding IsImageLength
disk_sectors places size whole long = let bytes : size ≡ 143360 = long in omega (arith, whole, bytes)

image_blocks : (places size : ℕ) → 512 * places ≡ size → IsImageLength orders.Prodos size → (16 ≤ places) × (places < 65536)
unfolding IsImageLength
image_blocks places size whole long = (omega (arith, whole, long.1), omega (arith, whole, long.2))

sectors_of : (order : Order) (part : FileState) (device : DeviceState) → IsDeviceOf order Sector part device → HasUnitsOf Dos device
sectors_of order part device (inl dos, (places, whole, long, is)) =
    subst (λ (d : DeviceState). (d.unit_size ≡ 256) × (d.places ≡ 560)) (sym is)
    (refl, disk_sectors places part.size whole (subst (λ (o : Order). IsImageLength o part.size) dos.0 long))
sectors_of order part device (inr prodos, (places, whole, long, is)) = absurd (let never : Sector ≡ Block = prodos.1 in cc)

blocks_of : (order : Order) (part : FileState) (device : DeviceState) → IsDeviceOf order Block part device → HasUnitsOf Prodos device
blocks_of order part device (inl dos, (places, whole, long, is)) = absurd (let never : Block ≡ Sector = dos.1 in cc)
blocks_of order part device (inr prodos, (places, whole, long, is)) =
    subst (λ (d : DeviceState). (d.unit_size ≡ 512) × (16 ≤ d.places) × (d.places < 65536)) (sym is)
    (let within = image_blocks places part.size whole (subst (λ (o : Order). IsImageLength o part.size) prodos.0 long) in (refl, within.0, within.1))

pub units_of : (system : FileSystem) (order : Order) (kind : UnitKind) (part : FileState) (device : DeviceState) → kind ≡ kind_of system
    → IsDeviceOf order kind part device → HasUnitsOf system device
units_of Dos order kind part device same is = sectors_of order part device (subst (λ (k : UnitKind). IsDeviceOf order k part device) same is)
units_of Prodos order kind part device same is = blocks_of order part device (subst (λ (k : UnitKind). IsDeviceOf order k part device) same is)

-- what follows of each value
pub each_ok : {T E : Type 0} {P Q : T → Type 0} (result : Result T E) → ((value : T) → P value → Q value) → IfOk result P → IfOk result Q
each_ok (Ok value) follows is = follows value is
each_ok (Err error) follows is = tt
