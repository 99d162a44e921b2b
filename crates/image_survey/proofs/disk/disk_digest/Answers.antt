use Rattle.std.proofs.Common.{◌≡◌, ◌<◌, arith, length}
use Rattle.image_survey.specs.Disk.{units_of}
use Rattle.image_survey.proofs.Disks.{all_hashed, many_units, none_hashed, one_hashed}
use Rattle.image_survey.proofs.disk.disk_digest.Goals as goal

pub loop-place-init : goal.loop-place-init
loop-place-init c = none_hashed (units_of c.args.image.now) c.new-hasher.result c.new-hasher.ensures

pub returns-then-not-hash_place : goal.returns-then-not-hash_place
returns-then-not-hash_place c = record {
  place = c.loop-place.place;
  within = omega (arith, c.loop-place-test.true, c.places_of-place-end.ensures, many_units c.args.image.now);
  lacks = c.if-not-hash_place.ensures;
}

pub loop-place-preserved : goal.loop-place-preserved
loop-place-preserved c =
    let within : c.loop-place.place < length (units_of c.args.image.now) =
    omega (arith, c.loop-place-test.true, c.places_of-place-end.ensures, many_units c.args.image.now) in
    let hashed = c.if-not-hash_place.ensures in
    one_hashed (units_of c.args.image.now) c.loop-place.place hashed.0 c.loop-place.hasher c.hash_place.new.hasher within hashed.1 hashed.2
    c.loop-place.invariant

pub returns : goal.returns
returns c =
    let all : c.loop-place.place ≡ length (units_of c.args.image.now) =
    omega (arith, c.loop-place-test.false, c.loop-place.auto.place-end, c.places_of-place-end.ensures, many_units c.args.image.now) in
    all_hashed (units_of c.args.image.now) c.loop-place.place c.loop-place.hasher c.finalize.result all c.loop-place.invariant c.finalize.ensures
