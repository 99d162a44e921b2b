use Rattle.std.proofs.Common.{◌<◌, refl}
use Rattle.a2_device.specs.declared.part.Part.{Part}
use Rattle.vol_check.specs.Told.{told_of}
use Rattle.vol_check.specs.Walk.{lists}
use Rattle.vol_check.proofs.Verdict.{each_part, all_told}
use Rattle.vol_check.proofs.checker.checked.Goals as goal

pub layout_of-requires-clause-places : goal.layout_of-requires-clause-places
layout_of-requires-clause-places g c =
    let directory = g.F.Format.directory c.args.format.now c.args.volume in
    each_part (λ (part : Part). part.place < directory.places) c.as_slice.result.now c.args.walk.parts.items c.as_slice.ensures.value c.requires.part_place

pub returns-clause-told : goal.returns-clause-told
returns-clause-told g c =
    all_told (g.F.Format.meaning c.args.format.now) (g.F.Format.directory c.args.format.now c.args.volume) (lists c.args.walk) c.requires
    (told_of (record { volume = c.args.volume; files = c.count_files-files.result; parts = c.args.walk.parts; layout = c.in_ok-layout.layout; lost = c.in_ok-lost.lost }))
    c.as_slice.result.now c.as_slice-2.result.now refl c.as_slice.ensures.value c.as_slice-2.ensures.value c.count_files-files.ensures c.in_ok-layout.ensures c.in_ok-lost.ensures
