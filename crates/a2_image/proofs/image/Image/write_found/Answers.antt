use Rattle.std.proofs.Common.{◌≡◌, ◌∙◌, ◌+◌, ◌*◌, Some, ap, sym, subst, length, set}
use Rattle.std.proofs.lemmas.List.{with_items_is}
use Rattle.a2_nibble.specs.Sector.{IsFieldOf, WritesSector}
use Rattle.a2_image.specs.Image.{DiskImage, sectors_by}
use Rattle.a2_image.specs.Tracks.{track_of, WritesTrack}
use Rattle.a2_image.specs.Kept.{IsKept, kept_bytes, kept_sectors}
use Rattle.a2_image.proofs.ImageLemmas.{nibble_bytes, plain_length, IsKept-written, sectors-written, plain-written, kept-written, kept-plain_written}
use Rattle.a2_image.proofs.image.Image.write_found.Goals as goal

pub write_kept-requires-clause-whole : goal.write_kept-requires-clause-whole
write_kept-requires-clause-whole g c =
    ap length c.as_mut_slice.ensures.value
    ∙ nibble_bytes c.args.self.now c.self.inside.order c.self.inside.bytes.items c.self.inside.fields.items c.self.view_is c.self.invariant
    (ap (λ (i : DiskImage). i.order) c.self.view_is ∙ c.in-Some.ensures.some.nibble)

pub invariant_of-self : goal.invariant_of-self
invariant_of-self g c =
    let same : length c.write_kept.new.bytes ≡ length c.self.inside.bytes.items = c.write_kept.auto.bytes ∙ ap length c.as_mut_slice.ensures.value in
    let stands = with_items_is c.self.inside.bytes c.write_kept.new.bytes (same ∙ sym c.self.inside.bytes.ok.0) in
    let from = c.as_mut_slice.ensures.value in
    let image = from ∙ ap (λ (i : DiskImage). i.bytes) c.self.view_is in
    let field = subst (λ bytes. IsFieldOf (track_of bytes c.args.track) c.args.track c.args.sector c.in-Some.field.volume c.in-Some.field.data_at) (sym image) c.in-Some.ensures.some.stands in
    subst (λ bytes. IsKept c.self.inside.order bytes c.self.inside.fields.items) (sym stands)
    (IsKept-written c.args.self.now c.self.inside.order c.self.inside.bytes.items c.self.inside.fields.items c.self.view_is c.self.invariant
    (ap (λ (i : DiskImage). i.order) c.self.view_is ∙ c.in-Some.ensures.some.nibble) c.write_kept.new.bytes c.args.track c.args.sector c.args.content.now c.requires.track_fits c.requires.sector_fits
    (subst (λ bytes. WritesSector (track_of bytes c.args.track) (track_of c.write_kept.new.bytes c.args.track) c.args.track c.args.sector c.args.content.now) from
    (c.write_kept.ensures.writes c.args.sector field))
    (λ other differ. c.write_kept.ensures.others other differ ∙ ap (λ bytes. track_of bytes other) from) same)

pub returns-in-Some-clause-written : goal.returns-in-Some-clause-written
returns-in-Some-clause-written g c =
    let same : length c.write_kept.new.bytes ≡ length c.self.inside.bytes.items = c.write_kept.auto.bytes ∙ ap length c.as_mut_slice.ensures.value in
    let stands = with_items_is c.self.inside.bytes c.write_kept.new.bytes (same ∙ sym c.self.inside.bytes.ok.0) in
    let from = c.as_mut_slice.ensures.value in
    let image = from ∙ ap (λ (i : DiskImage). i.bytes) c.self.view_is in
    let field = subst (λ bytes. IsFieldOf (track_of bytes c.args.track) c.args.track c.args.sector c.in-Some.field.volume c.in-Some.field.data_at) (sym image) c.in-Some.ensures.some.stands in
    ap (λ bytes. kept_sectors c.self.inside.order bytes c.self.inside.fields.items) stands
    ∙ sectors-written c.args.self.now c.self.inside.order c.self.inside.bytes.items c.self.inside.fields.items c.self.view_is c.self.invariant
    (ap (λ (i : DiskImage). i.order) c.self.view_is ∙ c.in-Some.ensures.some.nibble) c.write_kept.new.bytes c.args.track c.args.sector c.args.content.now c.requires.track_fits c.requires.sector_fits
    (subst (λ bytes. WritesSector (track_of bytes c.args.track) (track_of c.write_kept.new.bytes c.args.track) c.args.track c.args.sector c.args.content.now) from
    (c.write_kept.ensures.writes c.args.sector field))
    (λ other differ. c.write_kept.ensures.others other differ ∙ ap (λ bytes. track_of bytes other) from)

pub write_plain-requires-clause-whole : goal.write_plain-requires-clause-whole
write_plain-requires-clause-whole g c =
    ap length c.as_mut_slice-in-None.ensures.value
    ∙ plain_length c.args.self.now c.self.inside.order c.self.inside.bytes.items c.self.inside.fields.items c.self.view_is c.self.invariant
    (λ e. c.requires.has (c.in-None.ensures.none (ap (λ (i : DiskImage). i.order) (sym c.self.view_is) ∙ e))) c.requires.disk

pub returns-in-None-clause-written : goal.returns-in-None-clause-written
returns-in-None-clause-written g c =
    let same : length c.write_plain.new.bytes ≡ length c.self.inside.bytes.items = c.write_plain.auto.bytes ∙ ap length c.as_mut_slice-in-None.ensures.value in
    let stands = with_items_is c.self.inside.bytes c.write_plain.new.bytes (same ∙ sym c.self.inside.bytes.ok.0) in
    ap (λ bytes. kept_sectors c.self.inside.order bytes c.self.inside.fields.items) stands
    ∙ plain-written c.args.self.now c.self.inside.order c.self.inside.bytes.items c.self.inside.fields.items c.self.view_is c.self.invariant
    (λ e. c.requires.has (c.in-None.ensures.none (ap (λ (i : DiskImage). i.order) (sym c.self.view_is) ∙ e))) c.requires.disk c.write_plain.new.bytes _ c.args.content.now same
    (c.write_plain.ensures ∙ ap (λ bytes. set (sectors_by c.self.inside.order bytes) (16 * c.args.track + c.args.sector) (Some c.args.content.now)) c.as_mut_slice-in-None.ensures.value)

pub returns-in-Some-clause-tracks : goal.returns-in-Some-clause-tracks
returns-in-Some-clause-tracks g c =
    let same : length c.write_kept.new.bytes ≡ length c.self.inside.bytes.items = c.write_kept.auto.bytes ∙ ap length c.as_mut_slice.ensures.value in
    let stands = with_items_is c.self.inside.bytes c.write_kept.new.bytes (same ∙ sym c.self.inside.bytes.ok.0) in
    let image = c.as_mut_slice.ensures.value ∙ ap (λ (i : DiskImage). i.bytes) c.self.view_is in
    let field = subst (λ bytes. IsFieldOf (track_of bytes c.args.track) c.args.track c.args.sector c.in-Some.field.volume c.in-Some.field.data_at) (sym image) c.in-Some.ensures.some.stands in
    λ _. subst (λ new. WritesTrack c.args.self.now.bytes new c.args.track c.args.sector c.args.content.now) (sym stands)
    (subst (λ old. WritesTrack old c.write_kept.new.bytes c.args.track c.args.sector c.args.content.now) image
    (record { writes = c.write_kept.ensures.writes c.args.sector field; others = c.write_kept.ensures.others }))

pub returns-in-None-clause-tracks : goal.returns-in-None-clause-tracks
returns-in-None-clause-tracks g c = λ nibble. absurd (c.requires.has (c.in-None.ensures.none nibble))

pub returns-in-Some-clause-kept : goal.returns-in-Some-clause-kept
returns-in-Some-clause-kept g c =
    let same : length c.write_kept.new.bytes ≡ length c.self.inside.bytes.items = c.write_kept.auto.bytes ∙ ap length c.as_mut_slice.ensures.value in
    let stands = with_items_is c.self.inside.bytes c.write_kept.new.bytes (same ∙ sym c.self.inside.bytes.ok.0) in
    let from = c.as_mut_slice.ensures.value in
    let image = from ∙ ap (λ (i : DiskImage). i.bytes) c.self.view_is in
    let field = subst (λ bytes. IsFieldOf (track_of bytes c.args.track) c.args.track c.args.sector c.in-Some.field.volume c.in-Some.field.data_at) (sym image) c.in-Some.ensures.some.stands in
    ap (λ bytes. kept_bytes c.self.inside.order bytes c.self.inside.fields.items) stands
    ∙ kept-written c.args.self.now c.self.inside.order c.self.inside.bytes.items c.self.inside.fields.items c.self.view_is c.self.invariant
    (ap (λ (i : DiskImage). i.order) c.self.view_is ∙ c.in-Some.ensures.some.nibble) c.write_kept.new.bytes c.args.track c.args.sector c.args.content.now c.requires.track_fits c.requires.sector_fits
    (subst (λ bytes. WritesSector (track_of bytes c.args.track) (track_of c.write_kept.new.bytes c.args.track) c.args.track c.args.sector c.args.content.now) from
    (c.write_kept.ensures.writes c.args.sector field))
    (λ other differ. c.write_kept.ensures.others other differ ∙ ap (λ bytes. track_of bytes other) from) same

pub returns-in-None-clause-kept : goal.returns-in-None-clause-kept
returns-in-None-clause-kept g c =
    let same : length c.write_plain.new.bytes ≡ length c.self.inside.bytes.items = c.write_plain.auto.bytes ∙ ap length c.as_mut_slice-in-None.ensures.value in
    let stands = with_items_is c.self.inside.bytes c.write_plain.new.bytes (same ∙ sym c.self.inside.bytes.ok.0) in
    ap (λ bytes. kept_bytes c.self.inside.order bytes c.self.inside.fields.items) stands
    ∙ kept-plain_written c.args.self.now c.self.inside.order c.self.inside.bytes.items c.self.inside.fields.items c.self.view_is
    (λ e. c.requires.has (c.in-None.ensures.none (ap (λ (i : DiskImage). i.order) (sym c.self.view_is) ∙ e))) c.write_plain.new.bytes same
