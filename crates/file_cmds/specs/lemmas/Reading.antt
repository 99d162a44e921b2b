-- Readings that go on, one after the other.
use Rattle.std.specs.Prelude.{◌≡◌, ◌≤◌, ◌==◌, ℕ, ◌+◌, Bool, true, false, if◌then◌else◌, Contains, IsTrue, Option, Some}
use Rattle.std.proofs.Common.{refl, sym, ◌∙◌, ap, subst, arith, ⊎_elim}
use Rattle.a2_device.specs.Device.{DeviceState, FailsRead, IsSameDevice, OnlyReads, UsesRead, counted, last_count}
use Rattle.vol_format.specs.Directory.{Directory}
use Rattle.vol_format.specs.Meaning.{Meaning}
use Rattle.vol_format.specs.Reach.{Reach}
use Rattle.vol_check.specs.Failures.{FailsInFile}
use Rattle.file_cmds.specs.ReadingOn.{FailedAt, FailedBetween, FailedInFile, ReadsOn}

pub none_read : (device : DeviceState) → ReadsOn device device
none_read device = record {
  same = record { places = refl; unit_size = refl; image = refl; honest = refl; unreadable = refl };
  faults = omega arith;
  kept = λ honest. refl;
  quiet = λ honest is. is;
}

same_twice : (first second third : DeviceState) → IsSameDevice first second → IsSameDevice second third → IsSameDevice first third
same_twice first second third is later = record {
  places = later.places ∙ is.places;
  unit_size = later.unit_size ∙ is.unit_size;
  image = later.image ∙ is.image;
  honest = later.honest ∙ is.honest;
  unreadable = later.unreadable ∙ is.unreadable;
}

pub still_honest : (old new : DeviceState) → ReadsOn old new → IsTrue old.honest → IsTrue new.honest
still_honest old new reads honest = subst IsTrue (sym reads.same.honest) honest

pub read_twice : (first second third : DeviceState) → ReadsOn first second → ReadsOn second third → ReadsOn first third
read_twice first second third reads later = record {
  same = same_twice first second third reads.same later.same;
  faults = omega (arith, reads.faults, later.faults);
  kept = λ honest. later.kept (still_honest first second reads honest)
      ∙ ap (λ (d : DeviceState). record d { faults = third.faults; read_failures = third.read_failures }) (reads.kept honest);
  quiet = λ honest is. later.quiet (still_honest first second reads honest) (reads.quiet honest is);
}

module _ (old new : DeviceState) where
  as_read : (faults : ℕ) (failures : Option ℕ) → new ≡ record old { faults = faults; read_failures = failures }
      → new ≡ record old { faults = new.faults; read_failures = new.read_failures }
  as_read faults failures is =
      subst (λ (d : DeviceState). d ≡ record old { faults = d.faults; read_failures = d.read_failures }) (sym is) refl

  failing_kept : (place : ℕ) → FailsRead place old new → new ≡ record old { faults = new.faults; read_failures = new.read_failures }
  failing_kept place fails =
      ⊎_elim (λ met. as_read (counted old.faults) new.read_failures met.1) (λ lacks. as_read (counted old.faults) old.read_failures lacks.1) fails

  failing_quiet : (place : ℕ) → FailsRead place old new → old.read_failures ≡ Some 0 → new.read_failures ≡ Some 0
  failing_quiet place fails never =
      ⊎_elim
      (λ met. let used = subst (λ failures. UsesRead failures new.read_failures) never met.0 in absurd (omega (arith, used.1)))
      (λ lacks. ap (λ (d : DeviceState). d.read_failures) lacks.1 ∙ never)
      fails

  not_fewer : (failed : Bool) → new.faults ≡ (if failed then counted old.faults else old.faults) → old.faults ≤ new.faults
  not_fewer false is = omega (arith, is)
  not_fewer true is = by_last (old.faults == last_count) refl is
    where
      by_last : (b : Bool) → (old.faults == last_count) ≡ b → new.faults ≡ counted old.faults → old.faults ≤ new.faults
      by_last true at is = let same : new.faults ≡ old.faults = is ∙ rw at refl in omega (arith, same)
      by_last false at is = let more : new.faults ≡ old.faults + 1 = is ∙ rw at refl in omega (arith, more)

  -- calls that read alone, of which one failed or none
  pub one_reading : (failed : Bool) → OnlyReads failed old new → ReadsOn old new
  one_reading false reads = record {
    same = reads.same;
    faults = not_fewer false reads.faults;
    kept = λ honest. subst (λ (d : DeviceState). d ≡ record old { faults = d.faults; read_failures = d.read_failures }) (sym (reads.kept honest refl)) refl;
    quiet = λ honest is. ap (λ (d : DeviceState). d.read_failures) (reads.kept honest refl) ∙ is;
  }
  one_reading true reads = record {
    same = reads.same;
    faults = not_fewer true reads.faults;
    kept = λ honest. let met = reads.met honest refl in failing_kept met.0 met.1;
    quiet = λ honest is. let met = reads.met honest refl in failing_quiet met.0 met.1 is;
  }

  pub failed_at : (place : ℕ) → FailsRead place old new → FailedAt place old new
  failed_at place fails = record { before = old; after = new; reached = none_read old; failed = fails; left = none_read new }

  pub one_failed : IsTrue old.honest → OnlyReads true old new → FailedBetween old new
  one_failed honest reads = let met = reads.met honest refl in (met.0, failed_at met.0 met.1)

  -- where no failure is to come, a read fails at a place that can't be read alone
  pub lacking_where_quiet : IsTrue old.honest → old.read_failures ≡ Some 0 → (place : ℕ) → FailedAt place old new → Contains old.unreadable place
  lacking_where_quiet honest never place failed =
      ⊎_elim
      (λ met. let used = subst (λ failures. UsesRead failures failed.after.read_failures) (failed.reached.quiet honest never) met.0 in absurd (omega (arith, used.1)))
      (λ lacks. subst (λ places. Contains places place) failed.reached.same.unreadable lacks.0)
      failed.failed

  pub lacks_where_quiet : IsTrue old.honest → old.read_failures ≡ Some 0 → FailedBetween old new → (place : ℕ) × Contains old.unreadable place
  lacks_where_quiet honest never failed = (failed.0, lacking_where_quiet honest never failed.0 failed.1)

-- a read that failed among some calls failed among more of them
pub failed_at_among : (place : ℕ) (first before after last : DeviceState) → ReadsOn first before → ReadsOn after last
    → FailedAt place before after → FailedAt place first last
failed_at_among place first before after last reads later failed = record {
  before = failed.before;
  after = failed.after;
  reached = read_twice first before failed.before reads failed.reached;
  failed = failed.failed;
  left = read_twice failed.after after last failed.left later;
}

pub failed_among : (first before after last : DeviceState) → ReadsOn first before → ReadsOn after last → FailedBetween before after → FailedBetween first last
failed_among first before after last reads later failed =
    (failed.0, failed_at_among failed.0 first before after last reads later failed.1)

-- the same of a unit of a file
pub once_failed_in_file : (format : Meaning) (directory : Directory) (old new : DeviceState) (file : ℕ) → FailsInFile format directory old new file
    → FailedInFile format directory old new file
once_failed_in_file format directory old new file fails = record {
  part = fails.part;
  reached = fails.reached;
  in_file = fails.in_file;
  failed = failed_at old new fails.part.place fails.failed;
}

module _ (format : Meaning) (directory : Directory) (first now last : DeviceState) (file : ℕ) where
  pub failed_in_file_before : ReadsOn now last → FailedInFile format directory first now file → FailedInFile format directory first last file
  failed_in_file_before later failed = record {
    part = failed.part;
    reached = failed.reached;
    in_file = failed.in_file;
    failed = failed_at_among failed.part.place first first now last (none_read first) later failed.failed;
  }

  pub failed_in_file_since : IsTrue first.honest → ReadsOn first now → FailedInFile format directory now last file → FailedInFile format directory first last file
  failed_in_file_since honest reads failed = record {
    part = failed.part;
    reached = subst (λ (device : DeviceState). Reach format directory device.store failed.part) (reads.kept honest) failed.reached;
    in_file = failed.in_file;
    failed = failed_at_among failed.part.place first now last last reads (none_read last) failed.failed;
  }
