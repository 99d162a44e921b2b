use Rattle.std.proofs.Common.{◌≡◌}
use Rattle.a2_media.specs.ImageDevice.{place_count, unit_bytes}
use Rattle.library_tests.proofs.files.dos_listings.failed_at_read.Given as goal

abbrev pub invariant-loop : goal.invariant-loop
invariant-loop l = record {
  places : place_count l.device.device.kind l.device.device.image ≡ 560;
  unit : unit_bytes l.device.device.kind ≡ 256;
}
