-- What is true of a volume that was read, whatever its store says.
use Rattle.std.proofs.Common.{ap, sym, ◌∙◌}
use Rattle.vol_format.specs.Directory.{Directory}
use Rattle.vol_format.specs.Meaning.{Meaning}
use Rattle.vol_format.specs.Laws.{IsReadable, IsDirectory}
use Rattle.file_cmds.specs.KnownVolume.{of_known}

module _ (format : Meaning) (directory : Directory) where
  pub known_is_readable : IsReadable format → IsReadable (of_known format directory)
  known_is_readable laws = record {
    child_place = λ places part child unit i takes is. laws.child_place places part child unit i takes.1 is;
    child_file = laws.child_file;
    child_depth = laws.child_depth;
    child_later = laws.child_later;
    child_inside = laws.child_inside;
    children_apart = laws.children_apart;
    no_more = laws.no_more;
    few_pointers = laws.few_pointers;
    few_places = λ places takes. laws.few_places places takes.1;
    child_type = laws.child_type;
    child_no_directory = laws.child_no_directory;
    ends = laws.ends;
    body_order = laws.body_order;
    header_fault = λ store d fault fault_at described. fault_at;
    one_directory = λ store d other described described'. described.0 ∙ sym described'.0;
    all_places = λ store d described. ap (λ (e : Directory). e.places) described.0 ∙ sym described.1;
  }

  pub known_is_directory : IsDirectory format directory → IsDirectory (of_known format directory) directory
  known_is_directory of = record {
    root_place = of.root_place;
    root_file = of.root_file;
    root_depth = of.root_depth;
    entry_below = of.entry_below;
    entry_slot = of.entry_slot;
    few_entries = of.few_entries;
    available_of = of.available_of;
    available_once = of.available_once;
    available_named = λ place has. tt;
    few_available = of.few_available;
    available_by_unit = of.available_by_unit;
    map_counted = of.map_counted;
    map_below = of.map_below;
  }
