use Rattle.std.proofs.Common.{◌≡◌, ◌∙◌, ◌*◌, ap, sym, subst, length}
use Rattle.std.proofs.lemmas.List.{with_items_is}
use Rattle.new_volumes.specs.Fields.{zeros}
use Rattle.new_volumes.specs.Plain.{IsPlain}
use Rattle.new_volumes.specs.Wanted.{NewPro}
use Rattle.new_volumes.proofs.plain.block_bytes.Goals as goal

pub fill_blocks-requires-clause-zeroed : goal.fill_blocks-requires-clause-zeroed
fill_blocks-requires-clause-zeroed c = c.as_mut_slice.ensures.value ∙ c.in_ok-bytes.ensures ∙ ap (λ n. zeros (512 * n)) c.from.ensures

pub returns-clause-made : goal.returns-clause-made
returns-clause-made c =
    let same : length c.fill_blocks.new.volume ≡ length c.in_ok-bytes.bytes.items = c.fill_blocks.auto.volume ∙ ap length c.as_mut_slice.ensures.value in
    let stands = with_items_is c.in_ok-bytes.bytes c.fill_blocks.new.volume (same ∙ sym c.in_ok-bytes.bytes.ok.0) in
    subst (IsPlain (NewPro c.args.blocks c.args.name.now c.args.date.0) c.args.order _) (sym stands) c.in_ok-fill_blocks.ensures.made
