-- The way to read an image that is chosen.
use Rattle.std.specs.Prelude.{◌≡◌, ℕ, List, None, length, slice_index_or}
use Rattle.std.proofs.Common.{sym, ap, subst}
use Rattle.a2_device.specs.declared.order.Order.{Order}
use Rattle.a2_device.specs.declared.order.Order.TheVariants as orders
use Rattle.shop_jobs.specs.declared.input.FileSystem.{FileSystem}
use Rattle.shop_jobs.specs.declared.input.FileSystem.TheVariants as systems
use Rattle.shop_replies.specs.Volume.{TakesBytes}
use Rattle.image_readings.specs.BestReading.{IsChoice, choice_of}
use Rattle.image_readings.specs.Ranking.{IsVerdict, no_reading}
use Rattle.image_readings.specs.declared.best.Choice.{Choice}
use Rattle.image_readings.specs.declared.best.Choice.TheVariants as choices
use Rattle.image_readings.specs.declared.ranking.Verdict.{Verdict}
use Rattle.image_readings.specs.declared.ranking.Verdict.TheVariants.{Best, Ambiguous, NoVolume}
use Rattle.image_readings.specs.declared.reading.Reading.{Reading}

-- the file system and the order of a way that is chosen
system_in : Choice → FileSystem
system_in (choices.Way file_system order) = file_system
system_in choices.Ambiguous = systems.Dos
system_in choices.Unknown = systems.Dos

order_in : Choice → Order
order_in (choices.Way file_system order) = order
order_in choices.Ambiguous = orders.Dos
order_in choices.Unknown = orders.Dos

-- the length of the image allows it
pub choice_takes : (image : List ℕ) (file_system : FileSystem) (order : Order) → IsChoice None None image (choices.Way file_system order)
    → TakesBytes file_system order (length image)
unfolding system_in order_in
choice_takes image file_system order choice = by_verdict choice.verdict choice.is choice.chosen
  where
    by_verdict : (verdict : Verdict) → IsVerdict choice.readings verdict → choices.Way file_system order ≡ choice_of choice.readings verdict
        → TakesBytes file_system order (length image)
    by_verdict (Best number) is chosen =
        let best : Reading = slice_index_or choice.readings number no_reading in
        let takes = (choice.are.each number no_reading is.0).0 in
        subst (λ (s : FileSystem). TakesBytes s order (length image)) (sym (ap system_in chosen))
        (subst (λ (o : Order). TakesBytes best.file_system o (length image)) (sym (ap order_in chosen)) takes)
    by_verdict Ambiguous is chosen = absurd (cc)
    by_verdict NoVolume is chosen = absurd (cc)
