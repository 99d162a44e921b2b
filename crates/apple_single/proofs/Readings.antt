-- What is read from a file, where its table is known.
use Rattle.std.proofs.Common.{ℕ, List, Option, Some, None, sym, subst}
use Rattle.apple_single.specs.declared.entries.Entry.{Entry}
use Rattle.apple_single.specs.declared.single.FileInfo.{FileInfo}
use Rattle.apple_single.specs.Format.{data_fork_id, file_info_id}
use Rattle.apple_single.specs.Reading.{HasNone, IsTable}
use Rattle.apple_single.specs.Single.{AreSound, CanBeRead, IsHeader, IsInfo, IsInfoOf, IsPart, IsSingle}
use Rattle.apple_single.proofs.Headers.{HasTable, table_is}
use Rattle.apple_single.proofs.Parts.{one_part, part_listed}

pub no_header : (file : List ℕ) → ((entries : List Entry) → ¬ IsHeader file entries) → ¬ CanBeRead file
no_header file none (info, fork, single) = none single.entries single.begins

module _ (file table : List ℕ) (has : HasTable file table) where
  pub not_sound : ((entries : List Entry) → IsTable table entries → ¬ AreSound file entries) → ¬ CanBeRead file
  not_sound bad (info, fork, single) = bad single.entries
      (table_is file table single.entries has single.begins) single.sound

  pub no_fork : ((entries : List Entry) → IsTable table entries → AreSound file entries
      → HasNone entries data_fork_id) → ¬ CanBeRead file
  no_fork none (info, fork, single) =
      part_listed file single.entries data_fork_id fork single.data_fork
      (none single.entries (table_is file table single.entries has single.begins) single.sound)

  no_info_of : (entries : List Entry) (bytes : List ℕ) (info : Option FileInfo) → AreSound file entries
      → IsPart file entries file_info_id bytes
      → ((i : FileInfo) → ¬ IsInfo bytes i) → ¬ IsInfoOf file entries info
  no_info_of entries bytes None sound part none is = part_listed file entries file_info_id bytes part is
  no_info_of entries bytes (Some info) sound part none is =
      none info (subst (λ b. IsInfo b info) (sym (one_part file entries file_info_id bytes is.0 sound part is.1)) is.2)

  pub no_info : (bytes : List ℕ) → ((entries : List Entry) → IsTable table entries
      → IsPart file entries file_info_id bytes)
      → ((info : FileInfo) → ¬ IsInfo bytes info) → ¬ CanBeRead file
  no_info bytes part none (info, fork, single) =
      no_info_of single.entries bytes info single.sound
      (part single.entries (table_is file table single.entries has single.begins)) none single.file_info

  module _ (fork : List ℕ) (sound : (entries : List Entry) → IsTable table entries → AreSound file entries)
      (part : (entries : List Entry) → IsTable table entries → IsPart file entries data_fork_id fork) where
    pub with_info : (bytes : List ℕ) (info : FileInfo)
        → ((entries : List Entry) → IsTable table entries → IsPart file entries file_info_id bytes)
        → IsInfo bytes info → IsSingle file (Some info) fork
    with_info bytes info info_part is = record {
      entries = has.0;
      begins = has.1;
      sound = sound has.0 has.2;
      data_fork = part has.0 has.2;
      file_info = (bytes, info_part has.0 has.2, is);
    }

    pub without_info : ((entries : List Entry) → IsTable table entries → AreSound file entries
        → HasNone entries file_info_id)
        → IsSingle file None fork
    without_info none = record {
      entries = has.0;
      begins = has.1;
      sound = sound has.0 has.2;
      data_fork = part has.0 has.2;
      file_info = none has.0 has.2 (sound has.0 has.2);
    }
