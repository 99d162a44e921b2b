use Rattle.std.proofs.Common.{◌≡◌, ◌∙◌, ap, sym, subst, length}
use Rattle.std.proofs.lemmas.List.{with_items_is}
use Rattle.new_volumes.specs.Plain.{IsPlain}
use Rattle.new_volumes.specs.Wanted.{NewDos}
use Rattle.new_volumes.proofs.plain.disk_bytes.Goals as goal

pub fill_disk-requires-clause-zeroed : goal.fill_disk-requires-clause-zeroed
fill_disk-requires-clause-zeroed c = c.as_mut_slice.ensures.value ∙ c.in_ok-bytes.ensures

pub returns-clause-made : goal.returns-clause-made
returns-clause-made c =
    let same : length c.fill_disk.new.disk ≡ length c.in_ok-bytes.bytes.items = c.fill_disk.auto.disk ∙ ap length c.as_mut_slice.ensures.value in
    let stands = with_items_is c.in_ok-bytes.bytes c.fill_disk.new.disk (same ∙ sym c.in_ok-bytes.bytes.ok.0) in
    subst (IsPlain (NewDos c.args.number c.args.data_disk) c.args.order _) (sym stands) c.in_ok-fill_disk.ensures.made
