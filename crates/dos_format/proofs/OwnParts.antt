-- What the pointers of one file reach is what the file has on the volume.
use Rattle.std.specs.Prelude.{◌≡◌, ◌↔◌, ◌<◌, ℕ, zero, suc, ◌+◌, ◌*◌, ◌/◌, ◌%◌, nat_lt, ◌||◌, Bool, true, false, List, length, Option, Some, None, if◌then◌else◌, slice_get}
use Rattle.std.proofs.Common.{sym, ◌∙◌, ap, arith, subst}
use Rattle.std.proofs.lemmas.Option.{slice_get_within, get_or_from_slice_get}
use Rattle.a2_device.specs.Device.{unit_at}
use Rattle.a2_device.specs.declared.part.Part.{Part}
use Rattle.a2_device.specs.declared.part.PartKind.{PartKind}
use Rattle.a2_device.specs.declared.part.PartKind.TheVariants.{List as AList, Master, Index, Body}
use Rattle.dos_vtoc.specs.Vtoc.{link_of}
use Rattle.dos_catalog.specs.declared.entry.Entry.{Entry}
use Rattle.dos_catalog.specs.Entry.{entries_in}
use Rattle.dos_catalog.specs.Catalog.{IsCatalog}
use Rattle.dos_catalog.specs.lemmas.Chain.{one_catalog}
use Rattle.dos_tslist.specs.Pointers.{pair_of}
use Rattle.dos_tslist.specs.Reach.{ListAt, BodyAt, PlacedAt, InFile, IsPartsOf as IsWalkOf, entry_pointer, place_named}
use Rattle.vol_format.specs.declared.link.Link.{Link}
use Rattle.vol_format.specs.declared.link.Link.TheVariants.{Wild, To}
use Rattle.vol_format.specs.Directory.{Directory, Listed, entries, root_of}
use Rattle.vol_format.specs.Reach.{Reach, at_root, at_child}
use Rattle.vol_format.specs.Layout.{IsPartsOfFile}
use Rattle.dos_format.specs.Dos.{DescribesDos, dos_child, dos_meaning, link_to, list_link}
use Rattle.dos_format.specs.lemmas.DosDirectory.{length-numbered, entry_of-dos}
use Rattle.dos_format.specs.lemmas.DosLaws.{link_to-To, list_link_cases, dos_child-To}
use Rattle.dos_format.specs.lemmas.DosMovable.{dos_is_movable}

abbrev part_of : ℕ → PartKind → ℕ → ℕ → Part
part_of file kind number place = record { file = file; kind = kind; number = number; place = place }

abbrev place_of : Link → Option ℕ
place_of (To part) = Some part.place
place_of link = None

-- a pointer names a part where it names a place
named : (file : ℕ) (kind : PartKind) (number place : ℕ) (pointer : Option (ℕ × ℕ)) → place_named pointer ≡ Some place
    → link_to file kind number pointer ≡ To (part_of file kind number place)
named file kind number place None is = absurd (cc)
named file kind number place (Some pointer) is = by_test (nat_lt 34 pointer.0 || nat_lt 15 pointer.1) is
  where
    by_test : (wild : Bool) → (if wild then None else Some (16 * pointer.0 + pointer.1)) ≡ Some place
        → (if wild then Wild else To (part_of file kind number (16 * pointer.0 + pointer.1))) ≡ To (part_of file kind number place)
    by_test true is' = absurd (cc)
    by_test false is' = let same : 16 * pointer.0 + pointer.1 ≡ place = cc in ap (λ at. To (part_of file kind number at)) same

placed : (file : ℕ) (kind : PartKind) (number : ℕ) (pointer : Option (ℕ × ℕ)) (part : Part) → link_to file kind number pointer ≡ To part → place_named pointer ≡ Some part.place
placed file kind number None part is = absurd (cc)
placed file kind number (Some pointer) part is = by_test (nat_lt 34 pointer.0 || nat_lt 15 pointer.1) is
  where
    by_test : (wild : Bool) → (if wild then Wild else To (part_of file kind number (16 * pointer.0 + pointer.1))) ≡ To part
        → (if wild then None else Some (16 * pointer.0 + pointer.1)) ≡ Some part.place
    by_test true is' = absurd (cc)
    by_test false is' = ap place_of is'

module _ (data_disk : Bool) (reserved : List Bool) (store : List (List ℕ)) (directory : Directory) (described : DescribesDos data_disk reserved store directory)
    (file : ℕ) (first : Option (ℕ × ℕ)) (inside : file < entries directory) (root : root_of directory file ≡ link_to file AList 0 first) where
  -- a list, and a unit of the body, are reached
  list_reached : (number place : ℕ) → ListAt store first number place → Reach (dos_meaning data_disk reserved) directory store (part_of file AList number place)
  list_reached zero place is = at_root file inside (root ∙ named file AList 0 place first is)
  list_reached (suc number) place at =
      let following : list_link file number (unit_at store at.0) 122 ≡ To (part_of file AList (number + 1) place) =
      named file AList (number + 1) place (link_of (unit_at store at.0)) at.2 in
      let same : number + 1 ≡ suc number = omega arith in
      at_child 122 (list_reached number at.0 at.1) (following ∙ ap (λ n. To (part_of file AList n place)) same)

  body_reached : (number place : ℕ) → BodyAt store first number place → Reach (dos_meaning data_disk reserved) directory store (part_of file Body number place)
  body_reached number place at = at_child (number % 122) (list_reached (number / 122) at.0 at.1)
      (list_link_cases (λ link. link ≡ To (part_of file Body number place)) file (number / 122) (unit_at store at.0) (number % 122)
      (λ pair.
      let same : 122 * (number / 122) + number % 122 ≡ number = omega arith in
      named file Body (122 * (number / 122) + number % 122) place (pair_of (unit_at store at.0) (number % 122)) at.2
      ∙ ap (λ n. To (part_of file Body n place)) same)
      (λ last. absurd (omega (arith, last)))
      (λ past. absurd (omega (arith, past))))

  placed_reached : (kind : PartKind) (number place : ℕ) → PlacedAt store first kind number place
      → Reach (dos_meaning data_disk reserved) directory store (part_of file kind number place)
  placed_reached AList number place at = list_reached number place at
  placed_reached Body number place at = body_reached number place at
  placed_reached Master number place at = absurd at
  placed_reached Index number place at = absurd at

  in_file_reached : (part : Part) → InFile store file first part → Reach (dos_meaning data_disk reserved) directory store part × (part.file ≡ file)
  in_file_reached part is = (
    subst (λ f. Reach (dos_meaning data_disk reserved) directory store (part_of f part.kind part.number part.place)) (sym is.0)
        (placed_reached part.kind part.number part.place is.1),
    is.0,
  )

  at_kind : (kind : PartKind) (number : ℕ) (part : Part) → part.kind ≡ kind → part.number ≡ number → PlacedAt store first kind number part.place
      → PlacedAt store first part.kind part.number part.place
  at_kind kind number part kind_is number_is at =
      subst (λ k. PlacedAt store first k part.number part.place) (sym kind_is) (subst (λ n. PlacedAt store first kind n part.place) (sym number_is) at)

  at_pair : (number list i place : ℕ) → i < 122 → ListAt store first number list → place_named (pair_of (unit_at store list) i) ≡ Some place
      → BodyAt store first (122 * number + i) place
  at_pair number list i place below at names =
      let above : number ≡ (122 * number + i) / 122 = omega (arith, below) in
      let pair : i ≡ (122 * number + i) % 122 = omega (arith, below) in
      (list, subst (λ n. ListAt store first n list) above at, subst (λ k. place_named (pair_of (unit_at store list) k) ≡ Some place) pair names)

  -- what a list of the file points to
  below_list : (parent part : Part) (i : ℕ) → ListAt store first parent.number parent.place
      → list_link parent.file parent.number (unit_at store parent.place) i ≡ To part → PlacedAt store first part.kind part.number part.place
  below_list parent part i at =
      list_link_cases (λ link. link ≡ To part → PlacedAt store first part.kind part.number part.place) parent.file parent.number (unit_at store parent.place) i
      (λ pair is.
      let pointer = pair_of (unit_at store parent.place) i in
      let names = link_to-To parent.file Body (122 * parent.number + i) pointer part is in
      at_kind Body (122 * parent.number + i) part names.same_kind names.same_number
      (at_pair parent.number parent.place i part.place pair at (placed parent.file Body (122 * parent.number + i) pointer part is)))
      (λ last is.
      let pointer = link_of (unit_at store parent.place) in
      let names = link_to-To parent.file AList (parent.number + 1) pointer part is in
      let number : part.number ≡ suc parent.number = omega (arith, names.same_number) in
      at_kind AList (suc parent.number) part names.same_kind number (parent.place, at, placed parent.file AList (parent.number + 1) pointer part is))
      (λ past is. absurd (cc))

  reached_placed : (part : Part) → Reach (dos_meaning data_disk reserved) directory store part → part.file ≡ file → PlacedAt store first part.kind part.number part.place
  reached_placed part (at_root entry within is) in_file =
      let same : entry ≡ file = sym (((dos_is_movable data_disk reserved).described store directory described).root_file entry part is) ∙ in_file in
      let is' : link_to file AList 0 first ≡ To part = sym root ∙ ap (root_of directory) (sym same) ∙ is in
      let names = link_to-To file AList 0 first part is' in
      at_kind AList 0 part names.same_kind names.same_number (placed file AList 0 first part is')
  reached_placed part (at_child {parent} i reached link) in_file =
      let to = dos_child-To parent.kind parent.file parent.number (unit_at store parent.place) i part link in
      let above = reached_placed parent reached (sym to.1.same_file ∙ in_file) in
      below_list parent part i
      (subst (λ k. PlacedAt store first k parent.number parent.place) to.0 above)
      (subst (λ k. dos_child k parent.file parent.number (unit_at store parent.place) i ≡ To part) to.0 link)

  of_file : (part : Part) → InFile store file first part ↔ (Reach (dos_meaning data_disk reserved) directory store part × (part.file ≡ file))
  of_file part = (in_file_reached part, λ is. (is.1, reached_placed part is.0 is.1))

-- the entry of a number in the catalog
module _ (data_disk : Bool) (reserved : List Bool) (store : List (List ℕ)) (directory : Directory) (sectors : List ℕ) (file : ℕ) (entry : Entry)
    (described : DescribesDos data_disk reserved store directory) (catalog : IsCatalog store sectors) (at : slice_get (entries_in store sectors) file ≡ Some entry) where
  same_catalog : sectors ≡ described.sectors
  same_catalog = one_catalog store described.sectors sectors described.catalog catalog

  at' : slice_get (entries_in store described.sectors) file ≡ Some entry
  at' = ap (λ s. slice_get (entries_in store s) file) (sym same_catalog) ∙ at

  within : file < length (entries_in store described.sectors)
  within = slice_get_within (entries_in store described.sectors) file entry at'

  inside_directory : file < entries directory
  inside_directory = omega (arith, within, length-numbered 0 (entries_in store described.sectors), ap (λ (d : Directory). entries d) described.says)

  root_is : root_of directory file ≡ link_to file AList 0 (entry_pointer entry)
  root_is =
      ap (λ (d : Directory). root_of d file) described.says
      ∙ ap (λ (listed : Listed). listed.root) (entry_of-dos data_disk reserved (unit_at store 272) (entries_in store described.sectors) file entry within)
      ∙ ap (λ (e : Entry). link_to file AList 0 (entry_pointer e)) (get_or_from_slice_get (entries_in store described.sectors) file entry entry at')

  own : (part : Part) → InFile store file (entry_pointer entry) part ↔ (Reach (dos_meaning data_disk reserved) directory store part × (part.file ≡ file))
  own = of_file data_disk reserved store directory described file (entry_pointer entry) inside_directory root_is

  own_parts : (parts : List Part) → IsWalkOf store file (entry_pointer entry) parts ↔ IsPartsOfFile (dos_meaning data_disk reserved) directory store file parts
  own_parts parts = (
    λ is. record {
      members = λ part. (λ has. (own part).0 ((is.members part).0 has), λ reached. (is.members part).1 ((own part).1 reached));
      ordered = is.ordered;
    },
    λ is. record {
      members = λ part. (λ has. (own part).1 ((is.members part).0 has), λ in_file. (is.members part).1 ((own part).0 in_file));
      ordered = is.ordered;
    },
  )

pub same_part : (data_disk : Bool) (reserved : List Bool) (store : List (List ℕ)) (directory : Directory) (sectors : List ℕ) (file : ℕ) (entry : Entry) (part : Part)
    → DescribesDos data_disk reserved store directory → IsCatalog store sectors → slice_get (entries_in store sectors) file ≡ Some entry
    → InFile store file (entry_pointer entry) part ↔ (Reach (dos_meaning data_disk reserved) directory store part × (part.file ≡ file))
same_part data_disk reserved store directory sectors file entry part described catalog at = own data_disk reserved store directory sectors file entry described catalog at part

pub same_parts : (data_disk : Bool) (reserved : List Bool) (store : List (List ℕ)) (directory : Directory) (sectors : List ℕ) (file : ℕ) (entry : Entry) (parts : List Part)
    → DescribesDos data_disk reserved store directory → IsCatalog store sectors → slice_get (entries_in store sectors) file ≡ Some entry
    → IsWalkOf store file (entry_pointer entry) parts ↔ IsPartsOfFile (dos_meaning data_disk reserved) directory store file parts
same_parts data_disk reserved store directory sectors file entry parts described catalog at = own_parts data_disk reserved store directory sectors file entry described catalog at parts
