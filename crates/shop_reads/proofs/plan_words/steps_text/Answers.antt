use Rattle.std.proofs.Common.{◌∙◌, Global, List, get_or, length, ℕ, ◌++◌, ap, arith, string_bytes, take_all}
use Rattle.std.specs.Prelude.{flat_map}
use Rattle.a2_device.specs.declared.part.PartKind.TheVariants as kinds
use Rattle.file_formats.specs.declared.listing.ListEntry.{ListEntry}
use Rattle.file_listings.specs.DosText.{line}
use Rattle.file_listings.specs.Steps.{count_text, step_line, step_text}
use Rattle.file_listings.specs.declared.step.Step.{Step}
use Rattle.shop_reads.proofs.Pictures.{lines_more}
use Rattle.shop_reads.proofs.plan_words.steps_text.Goals as goal

-- what stands for a step behind the last
abbrev past : Step
past = record { part = record { file = 0; kind = kinds.List; number = 0; place = 0 }; to = 0 }

pub loop-step-preserved : goal.loop-step-preserved
loop-step-preserved g c =
    let steps = c.args.steps.now in
    let i = c.loop-step.step-index in
    let now = string_bytes c.loop-step.text in
    let path = c.as_bytes.ensures ∙ ap (λ (e : ListEntry Global). e.path) c.in_ok-entry.ensures in
    lines_more (step_line c.args.form (g.F.FileFormat.files c.args.format.now) (g.F.Format.directory c.args.format.now c.args.volume.now)) steps past now
    (string_bytes c.writeln.new.self) i c.loop-step-test.true c.loop-step.invariant
    (c.in_ok-writeln.ensures.bytes ∙ ap (λ (p : List ℕ). now ++ line (step_text c.args.form p (get_or steps i past))) path)

pub returns : goal.returns
returns g c =
    let steps = c.args.steps.now in
    let lines = flat_map (step_line c.args.form (g.F.FileFormat.files c.args.format.now) (g.F.Format.directory c.args.format.now c.args.volume.now)) in
    c.in_ok-writeln-2.ensures.bytes
    ∙ ap (λ (t : List ℕ). t ++ line (count_text (length steps))) (c.loop-step.invariant ∙ ap lines (take_all c.loop-step.step-index steps (omega arith)))
