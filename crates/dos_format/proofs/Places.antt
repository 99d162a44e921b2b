-- Where the entries of the catalog stand.
use Rattle.std.specs.Prelude.{◌≡◌, ◌<◌, ℕ, Bool, true, List, [], length, slice_set}
use Rattle.std.proofs.Common.{sym, arith, subst}
use Rattle.std.proofs.lemmas.List.{length-set, get_or-set_other}
use Rattle.a2_device.specs.Device.{unit_at}
use Rattle.dos_catalog.specs.Entry.{entries_in}
use Rattle.vol_format.specs.Directory.{Directory, Listed, entries, is_system}
use Rattle.dos_format.specs.Dos.{DescribesDos}
use Rattle.dos_format.specs.lemmas.DosDirectory.{length-numbered, entry_of-dos, no_list}
use Rattle.dos_format.specs.lemmas.DosEntries.{on_track}
use Rattle.dos_format.specs.lemmas.DosMarks.{track_inside}
use Rattle.dos_format.specs.lemmas.DosWritable.{entry_on_track}
use Rattle.vol_laws.specs.Entered.{HasSameRest}
use Rattle.dos_format.specs.Rewriting.{place_of_entry, slot_of_entry}

-- a write to a unit of the system leaves the others
pub system_written : (directory : Directory) (store : List (List ℕ)) (place : ℕ) (unit : List ℕ) → is_system directory place ≡ true
    → HasSameRest directory store (slice_set store place unit)
system_written directory store place unit inside = record {
  size = length-set store place unit;
  units = λ other outside. get_or-set_other store place other unit [] (λ same.
      let system : is_system directory other ≡ true = subst (λ p. is_system directory p ≡ true) (sym same) inside in absurd (cc (outside, system)));
}

module _ (data_disk : Bool) (reserved : List Bool) (store : List (List ℕ)) (directory : Directory) where
  pub entry_inside : (file : ℕ) → DescribesDos data_disk reserved store directory → file < entries directory
      → (place_of_entry directory file < length store) × (is_system directory (place_of_entry directory file) ≡ true)
  entry_inside file described within =
      let on = entry_on_track data_disk reserved store directory described file within in
      (omega (arith, on.1, described.size), track_inside data_disk reserved store directory described (place_of_entry directory file) (omega (arith, on.0), on.1))

  pub slot_inside : (file : ℕ) → DescribesDos data_disk reserved store directory → file < entries directory → slot_of_entry directory file < 7
  slot_inside file described = subst (λ (d : Directory). file < entries d → slot_of_entry d file < 7) (sym described.says) (λ within.
      let all = entries_in store described.sectors in
      let inside : file < length all = omega (arith, within, length-numbered 0 all) in
      subst (λ (e : Listed). e.slot < 7) (sym (entry_of-dos data_disk reserved (unit_at store 272) all file no_list inside))
      ((on_track store described.sectors described.catalog).slots file no_list inside))

  pub rest_kept : (file : ℕ) (unit : List ℕ) → DescribesDos data_disk reserved store directory → file < entries directory
      → HasSameRest directory store (slice_set store (place_of_entry directory file) unit)
  rest_kept file unit described within = system_written directory store (place_of_entry directory file) unit (entry_inside file described within).1
