use Rattle.std.proofs.Common.{ap, inl, inr}
use Rattle.shop_outputs.specs.declared.ending.Ending.{Ending}
use Rattle.shop_outputs.proofs.Putting.{held_of}
use Rattle.shop_outputs.proofs.Apart.{apart_now, failed_unflushed, held_put, prepared_removed, settled_done, settled_kept, settled_stopped, status_unflushed}
use Rattle.shop_outputs.proofs.settling.settle.Goals as goal

pub returns-then-is_empty-clause-files : goal.returns-then-is_empty-clause-files
returns-then-is_empty-clause-files g c = λ honest image said has told apart.
    let place = g.H.Host.place in
    settled_kept c.args.out image c.args.certificate said _ _ _ _ apart (inr (c.is_empty.ensures.0 c.if-is_empty.true))
    (c.discard_both.ensures honest (held_put place c.args.out image _ has) (held_put place c.args.certificate said _ told))

pub returns-in-Err-clause-failed : goal.returns-in-Err-clause-failed
returns-in-Err-clause-failed g c =
    failed_unflushed _ c.in-Err.kind c.in-Err.unwritten c.tell_unflushed.result (g.T.Write.contents c.args.text.now)
    (g.T.Write.contents c.tell_unflushed.new.text) c.in-Err.ensures.failed c.tell_unflushed.ensures

pub returns-in-Err-clause-files : goal.returns-in-Err-clause-files
returns-in-Err-clause-files g c = λ honest image said has told apart.
    let goes = c.flush_both.ensures.destinations in
    let first = c.in-Err.ensures.held honest image said has told apart in
    let status = status_unflushed c.in-Err.kind c.in-Err.unwritten c.tell_unflushed.result
    (g.T.Write.contents c.args.text.now) (g.T.Write.contents c.tell_unflushed.new.text) c.tell_unflushed.ensures in
    settled_kept c.args.out image c.args.certificate said _ _ _ _ apart (inl status)
    (prepared_removed g.H.Host.place c.args.out c.flush_both.new.out image c.args.certificate c.flush_both.new.certificate said
    _ _ _ _ goes.0 goes.1 first (c.discard_both-in-Err.ensures first.run.honest first.failed.0 first.failed.1))

pub returns-then-written-status-clause-files : goal.returns-then-written-status-clause-files
returns-then-written-status-clause-files g c = λ honest image said has told apart.
    let place = g.H.Host.place in
    let out_now = c.flush_both.new.out in
    let certificate_now = c.flush_both.new.certificate in
    let goes = c.flush_both.ensures.destinations in
    let first = c.in_default.ensures.held honest image said has told apart in
    settled_kept c.args.out image c.args.certificate said _ _ _ _ apart (inl (ap (λ (e : Ending). e.status) c.stopped.ensures))
    (prepared_removed place c.args.out out_now image c.args.certificate certificate_now said _ _ _ _ goes.0 goes.1 first
    (c.discard_both-then-written-status.ensures first.run.honest (held_of place out_now image _ first.done.0)
    (held_of place certificate_now said _ first.done.1)))

pub returns-in-Ok-clause-files : goal.returns-in-Ok-clause-files
returns-in-Ok-clause-files g c = λ honest image said has told apart.
    let goes = c.flush_both.ensures.destinations in
    let flushed = c.in_default.ensures.done in
    let first = c.in_default.ensures.held honest image said has told apart in
    settled_done g.H.Host.place c.args.out c.flush_both.new.out image c.args.certificate c.flush_both.new.certificate said
    _ _ _ _ _ _ _ apart c.written-in-Ok.ensures goes.0 goes.1 flushed.0 flushed.1 first
    (c.in-Ok.ensures.placed first.run.honest image said first.done.0 first.done.1
    (apart_now _ _ _ _ _ _ first.run.leads goes.0 goes.1 apart))

pub returns-in-Err-take_both_places-clause-files : goal.returns-in-Err-take_both_places-clause-files
returns-in-Err-take_both_places-clause-files g c = λ honest image said has told apart.
    let goes = c.flush_both.ensures.destinations in
    let flushed = c.in_default.ensures.done in
    let first = c.in_default.ensures.held honest image said has told apart in
    settled_stopped g.H.Host.place c.args.out c.flush_both.new.out image c.args.certificate c.flush_both.new.certificate said
    _ _ _ _ _ _ _ apart c.stopped-in-Err-take_both_places.ensures goes.0 goes.1 flushed.1 first
    (c.in-Err-take_both_places.ensures.placed first.run.honest image said first.done.0 first.done.1
    (apart_now _ _ _ _ _ _ first.run.leads goes.0 goes.1 apart))
