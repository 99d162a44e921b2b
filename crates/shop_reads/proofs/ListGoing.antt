-- A list reads on where it reads files, and ends where a unit can't be read where it does not.
use Rattle.std.proofs.Common.{◌≡◌, ℕ, Bool, true, false, List, ap, refl, subst, sym}
use Rattle.std.specs.Prelude.{◌||◌, ◌&&◌, not, Err, IsTrue, if◌then◌else◌, length, slice_index_or}
use Rattle.a2_device.specs.Device.{DeviceState, OnlyReads}
use Rattle.file_cmds.specs.ReadingOn.{FailedInFile, ReadsOn}
use Rattle.file_cmds.specs.Refusal.{told_device}
use Rattle.file_cmds.specs.declared.error.CmdError.{CmdError}
use Rattle.file_cmds.specs.declared.error.CmdError.TheVariants as commands
use Rattle.file_cmds.specs.lemmas.Reading.{lacking_where_quiet, one_reading, read_twice}
use Rattle.file_listings.specs.Known.{FileFacts, no_facts}
use Rattle.shop_jobs.specs.declared.looks.ListForm.{ListForm}
use Rattle.shop_jobs.specs.declared.looks.ListForm.TheVariants as forms
use Rattle.shop_jobs.specs.declared.looks.ListOptions.{ListOptions}
use Rattle.shop_replies.specs.declared.reply.Reply.{Reply}
use Rattle.volume_compare.specs.Contents.{SeenVolume}
use Rattle.shop_reads.specs.EntriesReply.{AddressIs, AreFacts, AreFactsUpTo, DigestIs, LacksUnitOf, PartsAre, ReadTooMuch, is_json, is_names, reads_files, wants_address, wants_places}
use Rattle.shop_reads.specs.GoingOn.{Ends, FailsForLackBy, ReadsBy, TellsFile, list_going}
use Rattle.shop_reads.specs.Refusals.{reply_to_refusal}
use Rattle.shop_volumes.specs.TellingFailures.{FailsForLack, tells_device}
use Rattle.shop_reads.proofs.FirstFiles.{wider_up_to}
use Rattle.shop_reads.proofs.Readings.{refusal_failed}

neither : (digests names : Bool) → (digests || not names) ≡ false → (digests ≡ false) × (names ≡ true)
neither false true is = (refl, refl)
neither false false is = absurd (cc)
neither true names is = absurd (cc)

-- names tell no places
unplaced : (form : ListForm) (places : Bool) → is_names form ≡ true → (places && is_json form) ≡ false
unplaced forms.Names true names = refl
unplaced forms.Names false names = refl
unplaced forms.Json places names = absurd (cc)
unplaced forms.Csv places names = absurd (cc)

module _ (volume : SeenVolume) (options : ListOptions) (failed more : ℕ → Type 0) where
  -- of a file of which nothing is wanted nothing is told, whatever failed
  told_alike : reads_files options ≡ false → (file : ℕ) (facts : FileFacts) → AreFacts volume options failed file facts → AreFacts volume options more file facts
  told_alike never file facts are =
      let wants = neither options.digests (is_names options.form) never in
      let no_address : wants_address volume options file ≡ false = rw wants.1 refl in
      let no_places : wants_places options ≡ false = unplaced options.form options.places wants.1 in
      record {
        address = subst (λ b. AddressIs b volume more file facts.address) (sym no_address) (subst (λ b. AddressIs b volume failed file facts.address) no_address are.address);
        digest = subst (λ b. DigestIs b volume more file facts.digest) (sym wants.0) (subst (λ b. DigestIs b volume failed file facts.digest) wants.0 are.digest);
        parts = subst (λ b. PartsAre b volume more file facts.parts) (sym no_places) (subst (λ b. PartsAre b volume failed file facts.parts) no_places are.parts);
      }

  told_up_to : reads_files options ≡ false → (many : ℕ) (facts : List FileFacts) → AreFactsUpTo volume options failed many facts → AreFactsUpTo volume options more many facts
  told_up_to never many facts are = record {
    within = are.within;
    each = λ file low. told_alike never file (slice_index_or facts file no_facts) (are.each file low);
  }

module _ (volume : SeenVolume) (options : ListOptions) (reply : Reply) (old new : DeviceState) (honest : IsTrue old.honest) where
  -- a unit of a file could not be read
  abbrev fails_in : ℕ → Type 0
  fails_in = FailedInFile volume.meaning volume.directory old new

  abbrev lacks_in : ℕ → Type 0
  lacks_in = LacksUnitOf volume.meaning volume.directory old

  -- what is known of files, where a list failed only since a unit can't be read
  pub lacks_up_to : FailsForLackBy (list_going options) reply old new → (many : ℕ) (facts : List FileFacts)
      → AreFactsUpTo volume options fails_in many facts → AreFactsUpTo volume options lacks_in many facts
  lacks_up_to lack many facts are = by_reading (reads_files options) refl lack
    where
      by_reading : (b : Bool) → reads_files options ≡ b → FailsForLackBy (if b then TellsFile else Ends) reply old new
          → AreFactsUpTo volume options lacks_in many facts
      by_reading true is lacks = wider_up_to volume options fails_in lacks_in on many facts are
        where
          on : (file : ℕ) → fails_in file → lacks_in file
          on file failed = record {
            part = failed.part;
            reached = failed.reached;
            in_file = failed.in_file;
            lacks = lacks (failed.part.place, failed.failed);
            unreadable = λ quiet. lacking_where_quiet old new honest quiet failed.part.place failed.failed;
          }
      by_reading false is lacks = told_up_to volume options fails_in lacks_in is many facts are

  pub lacks_too_much : FailsForLackBy (list_going options) reply old new → ReadTooMuch volume options fails_in → ReadTooMuch volume options lacks_in
  lacks_too_much lack much = record { facts = much.facts; are = lacks_up_to lack (length much.facts) much.facts much.are; many = much.many }

module _ (options : ListOptions) (old mid new : DeviceState) where
  -- a list that tells no failure
  pub list_read : (reply : Reply) → tells_device reply ≡ false → OnlyReads false old mid → ReadsOn mid new → (reads_files options ≡ false → new ≡ mid)
      → ReadsBy (list_going options) reply old new
  list_read reply quiet reads later alone = by_reading (reads_files options) refl
    where
      by_reading : (b : Bool) → reads_files options ≡ b → ReadsBy (if b then TellsFile else Ends) reply old new
      by_reading true is = record {
        reads = read_twice old mid new (one_reading old mid false reads) later;
        told = λ tells. absurd (cc);
      }
      by_reading false is =
          subst (λ (d : DeviceState). OnlyReads (tells_device reply) old d) (sym (alone is))
          (subst (λ b. OnlyReads b old mid) (sym quiet) reads)

same_failure : (T : Type 0) (error : CmdError) → tells_device (reply_to_refusal error) ≡ told_device {T = T} (Err error)
same_failure T commands.Check = refl
same_failure T commands.NotFound = refl
same_failure T commands.Device = refl
same_failure T commands.Memory = refl

-- a list that is refused
pub list_refused : (T : Type 0) (options : ListOptions) (old new : DeviceState) (error : CmdError) → OnlyReads (told_device {T = T} (Err error)) old new
    → ReadsBy (list_going options) (reply_to_refusal error) old new
list_refused T options old new error reads = by_reading (reads_files options)
  where
    by_reading : (b : Bool) → ReadsBy (if b then TellsFile else Ends) (reply_to_refusal error) old new
    by_reading true = record {
      reads = one_reading old new (told_device {T = T} (Err error)) reads;
      told = λ tells honest. refusal_failed T old new error honest reads tells;
    }
    by_reading false = subst (λ b. OnlyReads b old new) (sym (same_failure T error)) reads

-- and it fails for want of a unit alone
pub refused_for_lack : (T : Type 0) (options : ListOptions) (old new : DeviceState) (error : CmdError) → IsTrue old.honest
    → OnlyReads (told_device {T = T} (Err error)) old new → FailsForLackBy (list_going options) (reply_to_refusal error) old new
    → FailsForLack old (reply_to_refusal error)
refused_for_lack T options old new error honest reads lack = by_reading (reads_files options) lack
  where
    by_reading : (b : Bool) → FailsForLackBy (if b then TellsFile else Ends) (reply_to_refusal error) old new → FailsForLack old (reply_to_refusal error)
    by_reading true lacks = λ is. lacks (refusal_failed T old new error honest reads (ap tells_device is))
    by_reading false lacks = lacks
