use Rattle.std.proofs.Common.{List, ℕ, subst, sym}
use Rattle.std.specs.Prelude.{Option}
use Rattle.shop_jobs.specs.Input.{input_view}
use Rattle.shop_jobs.specs.Job.{Wrap, ask_view, creation_view, wrapping_view}
use Rattle.shop_jobs.specs.declared.job.Ask.{Ask}
use Rattle.shop_commands.specs.Answer.{IsToldOfAsk}
use Rattle.shop_commands.specs.CreateReply.{IsCreateReply}
use Rattle.shop_commands.proofs.job.reply_to.Goals as goal

pub returns-in-Identify : goal.returns-in-Identify
returns-in-Identify c =
    subst (λ (ask : Ask). IsToldOfAsk (ask_view ask) (input_view c.args.job.now.input) c.args.image.items c.args.extra.items c.identify_reply.result) (sym c.in-Identify.is)
    c.identify_reply.ensures

pub returns-in-Convert : goal.returns-in-Convert
returns-in-Convert c =
    subst (λ (ask : Ask). IsToldOfAsk (ask_view ask) (input_view c.args.job.now.input) c.args.image.items c.args.extra.items c.converted_reply.result) (sym c.in-Convert.is)
    c.converted_reply.ensures

pub returns-in-Wrap : goal.returns-in-Wrap
returns-in-Wrap c =
    subst (λ (ask : Ask). IsToldOfAsk (ask_view ask) (input_view c.args.job.now.input) c.args.image.items c.args.extra.items c.wrapped_reply.result) (sym c.in-Wrap.is)
    (subst (λ (bytes : List ℕ). IsToldOfAsk (Wrap (wrapping_view c.in-Wrap.options)) (input_view c.args.job.now.input) bytes c.args.extra.items c.wrapped_reply.result) c.as_slice.ensures.value
    c.wrapped_reply.ensures)

pub returns-in-Create : goal.returns-in-Create
returns-in-Create c =
    subst (λ (ask : Ask). IsToldOfAsk (ask_view ask) (input_view c.args.job.now.input) c.args.image.items c.args.extra.items c.create_reply.result) (sym c.in-Create.is)
    (subst (λ (boot : Option (List ℕ)). IsCreateReply (creation_view c.in-Create.options) boot c.create_reply.result) c.boot_of.ensures c.create_reply.ensures)
