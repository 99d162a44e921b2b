use Rattle.std.proofs.Common.{◌≡◌, ◌<◌, subst, sym, length, List}
use Rattle.a2_device.specs.declared.part.PartKind.TheVariants.{List as AList, Body}
use Rattle.std.specs.Prelude.{◌≢◌}
use Rattle.edit_formats.specs.declared.new_part.NewPart.{NewPart}
use Rattle.edit_formats.specs.Order.{AreDosParts, part_at}
use Rattle.edit_formats.specs.lemmas.DosSavable.{are_dos_parts, is_a_list}
use Rattle.edit_formats.proofs.dos_saves.Dos33SavableFormat.build.Goals as goal

pub build_list-requires-clause-file : goal.build_list-requires-clause-file
build_list-requires-clause-file g c =
    let of = c.requires.parts in
    subst AreDosParts (sym of.2) (are_dos_parts of.0 of.1)

pub build_list-requires-clause-list : goal.build_list-requires-clause-list
build_list-requires-clause-list g c =
    let of = c.requires.parts in
    let at = c.args.at in
    subst (λ (parts : List NewPart). (part_at parts at).kind ≡ AList) (sym of.2)
    (is_a_list of.0 at of.1 (subst (λ (parts : List NewPart). at < length parts) of.2 c.requires.at)
    (subst (λ (parts : List NewPart). (part_at parts at).kind ≢ Body) of.2 c.requires.table))
