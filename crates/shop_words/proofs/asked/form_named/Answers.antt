use Rattle.std.proofs.Common.{◌∙◌, ap, find, option_map, List}
use Rattle.std.specs.Str.{bytes_eq}
use Rattle.clap.proofs.WalkLemmas.{find-map}
use Rattle.shop_words.specs.Table.{FormView, form_view}
use Rattle.shop_words.proofs.CommandRows.{mapped_twice}
use Rattle.shop_words.proofs.asked.form_named.Goals as goal

pub returns : goal.returns
returns c =
    mapped_twice form_view (λ f. f.now) c.form_among.result
    ∙ ap (option_map form_view) c.form_among.ensures
    ∙ find-map (λ (f : FormView). bytes_eq f.name c.args.name.now) form_view c.all_forms.result.now
    ∙ ap (λ (fs : List FormView). find (λ f. bytes_eq f.name c.args.name.now) fs) c.all_forms.ensures
