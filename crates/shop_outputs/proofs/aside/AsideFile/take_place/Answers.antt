use Rattle.std.specs.declared.string.String.{String}
use Rattle.std.specs.declared.alloc.Global.{Global}
use Rattle.shop_outputs.proofs.Putting.{apart_from, aside_at, on_disk_of, taken_by, taken_failed}
use Rattle.shop_outputs.proofs.Steps.{made_aside}
use Rattle.shop_outputs.proofs.aside.AsideFile.take_place.Goals as goal

pub returns-in-Some-clause-taken : goal.returns-in-Some-clause-taken
returns-in-Some-clause-taken g c = λ honest aside bytes ready.
    taken_failed c.args.self bytes _ _ _ (c.discard.ensures.run honest aside)

pub returns-clause-taken : goal.returns-clause-taken
returns-clause-taken g c = λ honest aside bytes ready.
    let file = c.args.self in
    let made : String Global × g.row.H-File.Denot = (c.in-Some-Place.path, c.in-Some-Place.file) in
    let place = c.in-Some-Place.place in
    let (same, is) = made_aside g.H.Host.place file made c.in-Some-Place.is-0 aside in
    let at = aside_at file place _ _ _ c.in-Some-Place.is-1 c.as_str-2.ensures.value c.as_str.ensures.value is in
    taken_by file place _ _ made bytes _ _ _ c.in-Some-Place.is-1 c.as_str-2.ensures.value c.in-Some-Place.is-0 at
    (c.take.ensures honest bytes (on_disk_of file.made made _ bytes _ c.in-Some-Place.is-0 c.as_str.ensures.value ready)
    (apart_from _ _ _ at))
