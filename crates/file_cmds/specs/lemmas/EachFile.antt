-- Files of a volume that was opened, on a device that is read.
use Rattle.std.specs.Prelude.{IsTrue, Option, Some, None}
use Rattle.std.specs.declared.vec.Vec.{Vec}
use Rattle.std.proofs.Common.{sym, ◌∙◌, subst}
use Rattle.a2_device.specs.Device.{DeviceState}
use Rattle.a2_device.specs.declared.part.Part.{Part}
use Rattle.vol_check.specs.FileWalker.{HasTables}
use Rattle.vol_check.specs.declared.file_walker.FileWalker.{FileWalker}
use Rattle.vol_check.specs.Marks.{HasOwnMarks}
use Rattle.vol_check.specs.Walk.{lists}
use Rattle.vol_format.specs.Directory.{Directory}
use Rattle.vol_format.specs.Meaning.{Meaning}
use Rattle.file_cmds.specs.EachFile.{AreFilesOf, AreKeptOf, HasWalker, KeptWithin}
use Rattle.file_cmds.specs.ReadingOn.{ReadsOn}
use Rattle.file_cmds.specs.declared.each_file.VolumeFiles.{VolumeFiles}

module _ {A : Type 0} (old new : DeviceState) (reads : ReadsOn old new) where
  same_tables : (walker : FileWalker A) → HasTables old walker → HasTables new walker
  same_tables walker tables = record {
    marks = subst (λ places. HasOwnMarks places (lists walker.walk)) (sym reads.same.places) tables.marks;
    unit = tables.unit ∙ sym reads.same.unit_size;
  }

  same_walker : (parts : Option (Vec Part A)) (walker : Option (FileWalker A)) → HasWalker old parts walker → HasWalker new parts walker
  same_walker (Some parts) walker has = tt
  same_walker None (Some walker) has = same_tables walker has
  same_walker None None has = has

  still_open_after : (format : Meaning) (directory : Directory) (files : VolumeFiles A) → AreFilesOf format directory old files → AreFilesOf format directory new files
  still_open_after format directory files are = record {
    within = subst (λ places. KeptWithin places files.parts) (sym reads.same.places) are.within;
    walker = same_walker files.parts files.walker are.walker;
    kept = λ honest.
        let was : IsTrue old.honest = subst IsTrue reads.same.honest honest in
        subst (λ (device : DeviceState). AreKeptOf format directory device.store files.parts) (sym (reads.kept was)) (are.kept was);
  }

-- calls that read alone leave it open
pub still_open : {A : Type 0} (format : Meaning) (directory : Directory) (old new : DeviceState) (files : VolumeFiles A) → ReadsOn old new
    → AreFilesOf format directory old files → AreFilesOf format directory new files
still_open format directory old new files reads are = still_open_after old new reads format directory files are
