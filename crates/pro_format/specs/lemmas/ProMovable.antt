-- The laws of ProDOS that moves ask for.
use Rattle.std.specs.Prelude.{Bool, List}
use Rattle.std.proofs.Common.{refl, sym, subst}
use Rattle.pro_tree.specs.lemmas.ContentLaws.{pro_content_kept, pro_content_of_body}
use Rattle.pro_tree.specs.lemmas.Written.{pro_rank_of, pro_one_slot, pro_set_here, pro_set_elsewhere, pro_slot_below, pro_pointer_length}
use Rattle.vol_format.specs.Laws.{IsMovable, IsDirectory}
use Rattle.pro_format.specs.Pro.{map_of, pro_system, pro_meaning}
use Rattle.pro_format.specs.lemmas.ProDescribed.{described_sound}
use Rattle.pro_format.specs.lemmas.ProDirectory.{pro_is_directory}
use Rattle.pro_format.specs.lemmas.ProMarks.{outside_pro}

pub pro_is_movable : (reserved : List Bool) → IsMovable (pro_meaning reserved)
pro_is_movable reserved = record {
  described = λ store directory described. subst (IsDirectory (pro_meaning reserved)) (sym described.says)
      (pro_is_directory reserved described.tree (pro_system reserved described.tree) (map_of store described.tree)
      (described_sound reserved store described.tree described.size described.described));
  place_free = λ places part unit i place. refl;
  rank_of = λ part other kind number. pro_rank_of part other kind number;
  one_slot = λ places part other child same unit unit' i j file is is' kind number. pro_one_slot places part other child same unit unit' i j is is' kind number;
  set_here = λ places part child unit i place whole named is. pro_set_here places part.file part.number unit i place child whole named.0 part.kind is;
  set_elsewhere = λ places part unit i j place apart. pro_set_elsewhere places part.kind part.file part.number unit i j place apart;
  slot = λ places part child unit i is. pro_slot_below places part child unit i is;
  content_free = λ places part place unit. refl;
  content_kept = λ places part child unit i place whole named is. pro_content_kept places part.file part.number unit i place child whole named.0 part.kind is;
  content_of_body = λ places part unit body. pro_content_of_body places part.kind unit body;
  pointer_length = λ unit i place. pro_pointer_length unit i place;
  outside = λ store directory place unit described outside. outside_pro reserved store directory described place unit outside;
}
