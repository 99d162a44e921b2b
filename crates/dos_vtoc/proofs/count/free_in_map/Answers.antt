use Rattle.std.proofs.Common.{◌≡◌, ◌∙◌, ◌*◌, ◌+◌, ap, sym, arith, Fits}
use Rattle.dos_vtoc.specs.Count.{free_below}
use Rattle.dos_vtoc.proofs.Tracks.{track_more, group_more, free_below-zero, free_below-all, free_below-le}
use Rattle.dos_vtoc.proofs.count.free_in_map.Goals as goal

pub loop-group-init : goal.loop-group-init
loop-group-init c = free_below-zero c.args.vtoc.now

pub overflow_add-free : goal.overflow_add-free
overflow_add-free c =
    let vtoc = c.args.vtoc.now in
    let is : c.loop-group.free ≡ free_below vtoc (64 * c.loop-group.group) = c.loop-group.invariant in
    record { fits = omega (arith, is, c.free_in_group-free.ensures, c.loop-group-test.true, group_more vtoc c.loop-group.group c.fits-vtoc, free_below-le vtoc (64 * (c.loop-group.group + 1))) }

pub loop-group-preserved : goal.loop-group-preserved
loop-group-preserved c =
    let vtoc = c.args.vtoc.now in
    let is : c.loop-group.free ≡ free_below vtoc (64 * c.loop-group.group) = c.loop-group.invariant in
    omega (arith, is, c.free_in_group-free.ensures, group_more vtoc c.loop-group.group c.fits-vtoc)

pub overflow_add-free-in-loop-track-3 : goal.overflow_add-free-in-loop-track-3
overflow_add-free-in-loop-track-3 c =
    let vtoc = c.args.vtoc.now in
    let is : c.loop-track.free ≡ free_below vtoc (16 * c.loop-track.track) = c.loop-track.invariant in
    record { fits = omega (arith, is, c.loop-track-test.true, track_more vtoc c.loop-track.track c.fits-vtoc, free_below-le vtoc (16 * c.loop-track.track + 16)) }

pub loop-track-preserved : goal.loop-track-preserved
loop-track-preserved c =
    let vtoc = c.args.vtoc.now in
    let is : c.loop-track.free ≡ free_below vtoc (16 * c.loop-track.track) = c.loop-track.invariant in
    let next : 16 * (c.loop-track.track + 1) ≡ 16 * c.loop-track.track + 16 = omega arith in
    omega (arith, is, track_more vtoc c.loop-track.track c.fits-vtoc, ap (free_below vtoc) next)

pub returns : goal.returns
returns c =
    let vtoc = c.args.vtoc.now in
    let is : c.loop-track.free ≡ free_below vtoc (16 * c.loop-track.track) = c.loop-track.invariant in
    let end : 16 * c.loop-track.track ≡ 560 = omega (arith, c.loop-track-test.false, c.loop-track.auto) in
    is ∙ ap (free_below vtoc) end ∙ free_below-all vtoc
