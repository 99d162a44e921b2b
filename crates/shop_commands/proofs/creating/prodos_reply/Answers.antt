use Rattle.std.proofs.Common.{◌∙◌, ap, inl}
use Rattle.std.proofs.lemmas.Bool.{false≢true}
use Rattle.std.specs.Prelude.{List, ℕ, Option, Some, None, option_map}
use Rattle.edit_formats.specs.ProNames.{is_pro_name}
use Rattle.pro_dates.specs.SaidDates.{IsDateOf, NamesDate}
use Rattle.pro_dir.specs.declared.date.ProDate.{ProDate}
use Rattle.shop_replies.specs.declared.refusal.Refusal.TheVariants as refusals
use Rattle.shop_commands.proofs.creating.prodos_reply.Goals as goal

named : (said : Option (List ℕ)) (date : ProDate) → IsDateOf said date → NamesDate said
named None date is = tt
named (Some word) date is = (is.0, is.1)

pub returns-then-not-is_pro_name : goal.returns-then-not-is_pro_name
returns-then-not-is_pro_name c = inl (
  refusals.Name,
  c.refused-then-not-is_pro_name.ensures,
  (
    named (option_map (λ s. s.now) c.args.said) c.in-Some.date c.in-Some.ensures.said,
    λ is. false≢true (c.if-not-is_pro_name.ensures ∙ ap is_pro_name c.name_said-name.ensures ∙ is),
  ),
)
