-- The laws of ProDOS that reading asks for.
use Rattle.std.specs.Prelude.{◌≡◌, ℕ, Bool, List, length}
use Rattle.std.proofs.Common.{sym, ◌∙◌, ap}
use Rattle.pro_dir.specs.Volume.{Directory as Tree, total_blocks}
use Rattle.pro_dir.specs.lemmas.VolumeLaws.{one_directory, no_directory}
use Rattle.pro_tree.specs.lemmas.ReachLaws.{pro_child_place, pro_child_file, pro_child_depth, pro_child_later, pro_child_inside, pro_children_apart, pro_no_more, pro_few_pointers, pro_child_type, pro_child_no_directory, pro_ends_after, pro_body_order}
use Rattle.vol_format.specs.Directory.{Directory}
use Rattle.vol_format.specs.Laws.{IsReadable}
use Rattle.pro_format.specs.Pro.{map_of, pro_directory, DescribesPro, pro_meaning}

-- the header tells how many places there are
pub total_is : (reserved : List Bool) (store : List (List ℕ)) (directory : Directory) (described : DescribesPro reserved store directory)
    → total_blocks described.tree.header ≡ length store
total_is reserved store directory described = ap total_blocks described.described.header ∙ described.described.geometry.total

pub pro_is_readable : (reserved : List Bool) → IsReadable (pro_meaning reserved)
pro_is_readable reserved = record {
  child_place = λ places part child unit i takes is. pro_child_place places part child unit i is;
  child_file = λ places part child unit i is. pro_child_file places part child unit i is;
  child_depth = λ places part child unit i is. pro_child_depth places part child unit i is;
  child_later = λ places part child unit i is. pro_child_later places part child unit i is;
  child_inside = λ places part child unit i r is ends. pro_child_inside places part child unit i r is ends;
  children_apart = λ places part child later unit i j less is later_is. pro_children_apart places part child later unit i j less is later_is;
  no_more = λ places part unit i past. pro_no_more places part.kind part.file part.number unit i past;
  few_pointers = λ part. pro_few_pointers part.kind;
  few_places = λ places takes. takes.1;
  child_type = λ places part unit i. pro_child_type places part.kind part.file part.number unit i;
  child_no_directory = λ places part unit i. pro_child_no_directory places part.kind part.file part.number unit i;
  ends = λ part r ends. pro_ends_after part.kind part.number r ends;
  body_order = λ part later body later_body less. pro_body_order part later body later_body less;
  header_fault = λ store directory fault at described. no_directory store fault described.tree at described.described;
  one_directory = λ store directory other one two.
      one.says
      ∙ ap (λ (tree : Tree). pro_directory reserved tree (map_of store tree)) (one_directory store two.tree one.tree two.described one.described)
      ∙ sym two.says;
  all_places = λ store directory described. ap (λ (d : Directory). d.places) described.says ∙ total_is reserved store directory described;
}
