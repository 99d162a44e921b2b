use Rattle.std.proofs.Common.{inl, inr, ⊎_elim, option_map, subst, sym}
use Rattle.shop_jobs.specs.Job.{look_view}
use Rattle.vol_layout.specs.declared.form.PlaceForm.{PlaceForm}
use Rattle.shop_replies.specs.declared.reply.Reply.{Reply}
use Rattle.shop_volumes.specs.Reserving.{ReservesNamed}
use Rattle.shop_reads.specs.GoingOn.{ReadsFor, going_of}
use Rattle.shop_reads.proofs.Readings.{none_looked, none_reserved, not_failed}
use Rattle.shop_reads.proofs.looking.look_on_device.Goals as goal

pub returns-in-Ok-clause-told : goal.returns-in-Ok-clause-told
returns-in-Ok-clause-told g c = λ honest works.
    ⊎_elim
    (λ memory. inr (inl memory))
    (λ told. inr (inr (c.in-Ok.reserved, subst (λ (form : PlaceForm). ReservesNamed form (option_map (λ s. s.now) c.args.reserve) c.in-Ok.reserved) c.form_of.ensures c.in-Ok.ensures.read, told)))
    (c.look_at_volume.ensures.told honest
    (not_failed (going_of (look_view c.args.look.now)) c.look_at_volume.result (g.D.Device.state c.args.device.now) (g.D.Device.state c.look_at_volume.new.device) works))

pub returns-in-Ok-clause-reads : goal.returns-in-Ok-clause-reads
returns-in-Ok-clause-reads g c = c.look_at_volume.ensures.reads

pub returns-in-Err-clause-reads : goal.returns-in-Err-clause-reads
returns-in-Err-clause-reads g c =
    let device = g.D.Device.state c.args.device.now in
    subst (λ (reply : Reply). ReadsFor (look_view c.args.look.now) reply device device) (sym c.reserve_reply.ensures)
    (none_looked (going_of (look_view c.args.look.now)) c.in-Err.error device)

pub returns-in-Err-clause-told : goal.returns-in-Err-clause-told
returns-in-Err-clause-told g c = λ honest works.
    none_reserved c.args.options.file_system (option_map (λ s. s.now) c.args.reserve) _ c.form_of.result c.in-Err.error c.reserve_reply.result
    c.form_of.ensures c.in-Err.ensures.syntax c.reserve_reply.ensures

pub look_at_volume-requires : goal.look_at_volume-requires
look_at_volume-requires g c = c.requires
