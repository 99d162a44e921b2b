use Rattle.std.proofs.Common.{◌∙◌, sym, arith}
use Rattle.std.proofs.lemmas.Result.{err_from_is_err_and}
use Rattle.pro_dir.specs.Listed.{directory_of, free_slot_of}
use Rattle.edit_formats.proofs.ProTargets.{at_slot, full, in_use, key_below, no_name}
use Rattle.edit_formats.proofs.pro_saves.ProdosSavableFormat.target.Goals as goal

pub returns-in_err-walked-clause-described : goal.returns-in_err-walked-clause-described
returns-in_err-walked-clause-described g c = λ directory honest described same.
    let given = err_from_is_err_and c.from_residual.result c.from_residual.ensures.1 in
    c.walk_directories.ensures.described described.tree honest described.described (cc (same, given.1, given.2, c.in_err-walked.is, c.in_err-walked.was))

pub returns-then-directory-places-clause-described : goal.returns-then-directory-places-clause-described
returns-then-directory-places-clause-described g c = λ directory honest described same.
    let store = (g.D.Device.state c.args.device.now).store in
    let whole = g.met.D.Device.whole c.args.device.now honest in
    let below = key_below store c.args.path.now (directory_of c.in_ok-walked.walked) (c.in_ok-walked.ensures.walked honest) c.in-Some.directory c.in-Some.ensures.some in
    absurd (omega (arith, below, whole.all, c.places-places.ensures, c.if-directory-places.true))

pub returns-then-not-is_pro_name-clause-told : goal.returns-then-not-is_pro_name-clause-told
returns-then-not-is_pro_name-clause-told g c = λ directory honest described.
    no_name (g.D.Device.state c.args.device.now).store c.args.path.now (directory_of c.in_ok-walked.walked) (c.in_ok-walked.ensures.walked honest)
    c.in-Some.directory c.in-Some.ensures.some c.last_name-name.result.now c.is_pro_name.result c.last_name-name.ensures c.is_pro_name.ensures c.if-not-is_pro_name.true

pub returns-then-is_in_use-clause-told : goal.returns-then-is_in_use-clause-told
returns-then-is_in_use-clause-told g c = λ directory honest described.
    in_use (g.D.Device.state c.args.device.now).store c.args.path.now (directory_of c.in_ok-walked.walked) (c.in_ok-walked.ensures.walked honest)
    c.in-Some.directory c.in-Some.ensures.some c.last_name-name.result.now c.is_pro_name.result c.last_name-name.ensures c.is_pro_name.ensures
    c.entries.result.now c.is_in_use.result c.entries.ensures c.is_in_use.ensures c.if-not-is_pro_name.false c.if-is_in_use.true

pub returns-in-None-clause-told : goal.returns-in-None-clause-told
returns-in-None-clause-told g c = λ directory honest described.
    let walked = c.in_ok-walked.walked in
    let key = c.in-Some.directory in
    full (g.D.Device.state c.args.device.now).store c.args.path.now (directory_of walked) (c.in_ok-walked.ensures.walked honest)
    key c.in-Some.ensures.some c.last_name-name.result.now c.is_pro_name.result c.last_name-name.ensures c.is_pro_name.ensures
    c.entries.result.now c.is_in_use.result c.entries.ensures c.is_in_use.ensures c.if-not-is_pro_name.false
    (free_slot_of walked key) c.if-is_in_use.false (λ own is_key run. c.in_ok-walked.ensures.free honest key own is_key run) (sym c.free_slot.ensures ∙ c.in-None.is)

pub returns-clause-told : goal.returns-clause-told
returns-clause-told g c = λ directory honest described.
    let walked = c.in_ok-walked.walked in
    let key = c.in-Some.directory in
    at_slot (g.D.Device.state c.args.device.now).store c.args.path.now (directory_of walked) (c.in_ok-walked.ensures.walked honest)
    key c.in-Some.ensures.some c.last_name-name.result.now c.is_pro_name.result c.last_name-name.ensures c.is_pro_name.ensures
    c.entries.result.now c.is_in_use.result c.entries.ensures c.is_in_use.ensures c.if-not-is_pro_name.false
    (free_slot_of walked key) c.if-is_in_use.false (λ own is_key run. c.in_ok-walked.ensures.free honest key own is_key run)
    c.in-Some-free_slot.place c.in-Some-free_slot.number (sym c.free_slot.ensures ∙ c.in-Some-free_slot.is)
