use Rattle.std.proofs.Common.{◌≡◌, ◌<◌, ◌≢◌, List, sym, subst}
use Rattle.a2_device.specs.declared.part.PartKind.TheVariants.{Index, Master, Body}
use Rattle.edit_formats.specs.declared.new_part.NewPart.{NewPart}
use Rattle.edit_formats.specs.Order.{AreProParts, part_at}
use Rattle.edit_formats.specs.Parts.{storage_type}
use Rattle.std.specs.Prelude.{length}
use Rattle.edit_formats.specs.lemmas.ProSavable.{are_pro_parts, master_is_first}
use Rattle.edit_formats.proofs.pro_saves.ProdosSavableFormat.build.Goals as goal

pub build_index-requires-clause-file : goal.build_index-requires-clause-file
build_index-requires-clause-file g c =
    let of = c.requires.parts in
    (storage_type (length of.0), subst (AreProParts (storage_type (length of.0))) (sym of.2) (are_pro_parts of.0 of.1))

pub build_master-requires : goal.build_master-requires
build_master-requires g c =
    let of = c.requires.parts in
    let at = c.args.at in
    record {
      file = (storage_type (length of.0), subst (AreProParts (storage_type (length of.0))) (sym of.2) (are_pro_parts of.0 of.1));
      master = subst (λ (parts : List NewPart). (part_at parts 0).kind ≡ Master) (sym of.2)
          (master_is_first of.0 at of.1 (subst (λ (parts : List NewPart). at < length parts) of.2 c.requires.at)
          (subst (λ (parts : List NewPart). (part_at parts at).kind ≢ Body) of.2 c.requires.table)
          (subst (λ (parts : List NewPart). (part_at parts at).kind ≢ Index) of.2 (λ index. c.in_default.not-Index index)));
      count = c.requires.count;
      places = λ k d within. (c.requires.places.1 k d within).1;
      unit = c.requires.unit;
    }
