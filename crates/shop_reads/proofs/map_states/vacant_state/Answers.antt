use Rattle.std.proofs.Common.{◌≡◌, ℕ, Bool, true, false}
use Rattle.vol_format.specs.Directory.{Directory, is_free, is_system}
use Rattle.shop_reads.proofs.PlaceTables.{outside_system}
use Rattle.shop_reads.specs.MapSteps.{vacant_state}
use Rattle.shop_reads.specs.declared.place_state.PlaceState.TheVariants as states
use Rattle.shop_reads.proofs.map_states.vacant_state.Goals as goal

in_system : (directory : Directory) (place : ℕ) → is_system directory place ≡ true → states.System ≡ vacant_state directory place
in_system directory place own = rw own

marked_free : (directory : Directory) (place : ℕ) (free : Bool) → is_system directory place ≡ false → free ≡ is_free directory place → free ≡ true
    → states.Free ≡ vacant_state directory place
marked_free directory place free own marked is = rw (own, ← marked, is)

marked_used : (directory : Directory) (place : ℕ) (free : Bool) → is_system directory place ≡ false → free ≡ is_free directory place → free ≡ false
    → states.Lost ≡ vacant_state directory place
marked_used directory place free own marked is = rw (own, ← marked, is)

pub returns-in-None : goal.returns-in-None
returns-in-None g c = in_system (g.F.Format.directory c.args.format.now c.args.volume.now) c.args.place (c.in-None.ensures.none)

pub returns-in-Some : goal.returns-in-Some
returns-in-Some g c =
    let directory = g.F.Format.directory c.args.format.now c.args.volume.now in
    marked_free directory c.args.place c.is_free.result
    (outside_system (g.F.Format.meaning c.args.format.now) directory c.args.place c.in-Some.field-0 (g.met.F.Format.rooted c.args.format.now c.args.volume.now) c.in-Some.ensures.some)
    c.is_free.ensures c.if-is_free.true

pub returns-in-Some-2 : goal.returns-in-Some-2
returns-in-Some-2 g c =
    let directory = g.F.Format.directory c.args.format.now c.args.volume.now in
    marked_used directory c.args.place c.is_free.result
    (outside_system (g.F.Format.meaning c.args.format.now) directory c.args.place c.in-Some-2.field-0 (g.met.F.Format.rooted c.args.format.now c.args.volume.now) c.in-Some-2.ensures.some)
    c.is_free.ensures c.if-is_free.false

pub index-requires : goal.index-requires
index-requires g c = c.requires

pub is_free-requires : goal.is_free-requires
is_free-requires g c = c.requires
