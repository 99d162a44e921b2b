use Rattle.std.proofs.Common.{ℕ, Vec, refl, sym, subst}
use Rattle.event_replay.specs.Holds.{AnswersRead}
use Rattle.event_replay.specs.declared.event.Answer.TheVariants.{Bytes}
use Rattle.event_replay.proofs.Holding.{read_device, texts}
use Rattle.event_replay.proofs.turning.read_body.Goals as goal

pub returns-in-Ok : goal.returns-in-Ok
returns-in-Ok g c =
    let items = λ (v : Vec ℕ g.row.A.Denot). v.items in
    let told = c.read.ensures in
    read_device items _ _ _ _ _ _ c.read.result told.device told.text told.check told.not_found
    (subst (λ r. AnswersRead (texts items r) (Bytes c.in-Ok.bytes)) (sym c.in-Ok.is) refl)

pub returns-in-Err : goal.returns-in-Err
returns-in-Err g c =
    let items = λ (v : Vec ℕ g.row.A.Denot). v.items in
    let told = c.read.ensures in
    read_device items _ _ _ _ _ _ c.read.result told.device told.text told.check told.not_found
    (subst (λ r. AnswersRead {A = g.row.A.Denot} (texts items r) c.answer_of.result) (sym c.in-Err.is) c.answer_of.ensures)
