use Rattle.std.proofs.Common.{length, sym, subst}
use Rattle.shop_jobs.specs.declared.input.FileSystem.{FileSystem}
use Rattle.shop_replies.specs.Volume.{TakesBytes, device_of}
use Rattle.image_readings.specs.Readings.{IsToldOf}
use Rattle.image_readings.proofs.Taken.{reads_bytes, takes_disk}
use Rattle.image_readings.proofs.volume.reading_of.Goals as goal

pub dos_finding-requires : goal.dos_finding-requires
dos_finding-requires c =
    let image = c.args.image.now in
    takes_disk image.order (length image.bytes) (subst (λ (system : FileSystem). TakesBytes system image.order (length image.bytes)) c.in-Dos.is c.requires)

pub returns-in_ok-finding-in-Dos-clause-found : goal.returns-in_ok-finding-in-Dos-clause-found
returns-in_ok-finding-in-Dos-clause-found c =
    let image = c.args.image.now in
    let finding = c.in_ok-finding-in-Dos.finding in
    reads_bytes c.args.file_system image c.order-order.result finding c.order-order.ensures.value c.requires c.order-order.ensures.holds c.order-order.ensures.kept
    (subst (λ (system : FileSystem). IsToldOf system (device_of system image) finding) (sym c.in-Dos.is) c.in_ok-finding-in-Dos.ensures)

pub returns-in_ok-finding-in-Prodos-clause-found : goal.returns-in_ok-finding-in-Prodos-clause-found
returns-in_ok-finding-in-Prodos-clause-found c =
    let image = c.args.image.now in
    let finding = c.in_ok-finding-in-Prodos.finding in
    reads_bytes c.args.file_system image c.order-order.result finding c.order-order.ensures.value c.requires c.order-order.ensures.holds c.order-order.ensures.kept
    (subst (λ (system : FileSystem). IsToldOf system (device_of system image) finding) (sym c.in-Prodos.is) c.in_ok-finding-in-Prodos.ensures)
