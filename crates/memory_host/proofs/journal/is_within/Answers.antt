use Rattle.std.proofs.Common.{◌∙◌, ap, nat_eq}
use Rattle.std.specs.List.{starts_with}
use Rattle.std.proofs.lemmas.Str.Pattern.{starts_text}
use Rattle.memory_host.proofs.journal.is_within.Goals as goal

pub returns : goal.returns
returns c =
    starts_text c.starts_with.result _ c.args.path.now c.starts_with.ensures.cases
    ∙ ap (starts_with nat_eq c.args.path.now) (c.as_str.ensures.value ∙ c.in_ok-within.ensures)
