use Rattle.std.proofs.Common.{◌∙◌, ap, ap₂, sym, Bool, Some, codes, option_map}
use Rattle.clap.specs.Matches.{found_of}
use Rattle.clap.specs.Walk.{rows_of}
use Rattle.shop_words.specs.Asked.{AskedView, asked_by, asked_view, found_asked}
use Rattle.shop_words.specs.Job.{is_flagged, rows_say}
use Rattle.shop_words.specs.Table.{form_view}
use Rattle.shop_words.proofs.CommandRows.{pairs-some}
use Rattle.shop_words.proofs.asked.asked_in.Goals as goal

pub returns-in_err-form : goal.returns-in_err-form
returns-in_err-form c =
    let above = rows_of (found_of c.args.above) in
    let rows = rows_of (found_of c.in_ok-command.matches) in
    let pair = pairs-some _ _ _ _ _ c.in_ok-command.ensures.name c.in_ok-command.ensures.rows in
    ap (option_map asked_view) c.from_residual-in_err-form.ensures ∙ ap (option_map (asked_by above rows)) c.in_err-form.ensures ∙ ap (found_asked above) (sym pair)

pub returns : goal.returns
returns c =
    let above = rows_of (found_of c.args.above) in
    let rows = rows_of (found_of c.in_ok-command.matches) in
    let pair = pairs-some _ _ _ _ _ c.in_ok-command.ensures.name c.in_ok-command.ensures.rows in
    let kept = c.in_ok-command.ensures.kept in
    let view : Bool → Bool → AskedView = λ is_auto is_explained. record {
      words = record { form = form_view c.in_ok-form.form.now; is_auto = is_auto; say = rows_say rows };
      is_explained = is_explained;
    } in
    let auto = c.is_flagged.ensures ∙ ap (λ found. is_flagged (codes "auto") (rows_of found) rows) kept in
    let explain = c.is_flagged-2.ensures ∙ ap (λ found. is_flagged (codes "explain") (rows_of found) rows) kept in
    ap₂ (λ a e. Some (view a e)) auto explain ∙ ap (option_map (asked_by above rows)) c.in_ok-form.ensures ∙ ap (found_asked above) (sym pair)
