-- Work that is not done, where no failure of the device is told, leaves the device as it was.
use Rattle.std.proofs.Common.{◌≡◌, ◌≢◌, ◌∙◌, ℕ, Bool, refl, sym, inl, inr, List}
use Rattle.std.specs.Prelude.{◌⊎◌, IsTrue, Option, Result, Ok, Err}
use Rattle.std.specs.declared.alloc.Global.{Global}
use Rattle.a2_device.specs.Device.{DeviceState}
use Rattle.vol_format.specs.Meaning.{Meaning}
use Rattle.edit_formats.specs.declared.error.EditError.{EditError}
use Rattle.edit_formats.specs.declared.error.EditError.TheVariants as edits
use Rattle.vol_mover.specs.Optimizing.{IsRefused}
use Rattle.vol_mover.specs.declared.report.OptError.{OptError}
use Rattle.vol_mover.specs.declared.report.OptError.TheVariants.{Open, Step, Memory}
use Rattle.vol_mover.specs.declared.error.OpenError.TheVariants as opens
use Rattle.shop_replies.specs.declared.refusal.Failure.TheVariants as failures
use Rattle.shop_replies.specs.declared.reply.Reply.{Reply}
use Rattle.shop_replies.specs.Reply.{failed, refused}
use Rattle.shop_replies.specs.Volume.{form_of}
use Rattle.shop_jobs.specs.declared.input.FileSystem.{FileSystem}
use Rattle.shop_volumes.specs.Reserving.{ReservesNamed}
use Rattle.shop_changes.specs.Changing.{IsChangeOutcome, IsWorkOutcome, KeepsDevice, LacksMemory}
use Rattle.shop_changes.specs.EditOutcome.{TellsEdit}
use Rattle.shop_changes.specs.EditRules.{ChangedMeaning}
use Rattle.shop_changes.specs.GivenFile.{GivenView}
use Rattle.shop_changes.specs.OptimizeOutcome.{IsOptimizeOutcome, TellsError}
use Rattle.shop_changes.specs.SaveOutcome.{IsSaveOutcome}
use Rattle.shop_changes.specs.Work.{WorkView, Optimize, EditOf, MakeDirectory, Reclaim, Replace, Save}
use Rattle.shop_changes.specs.declared.outcome.Outcome.{Outcome}
use Rattle.shop_changes.specs.declared.outcome.Outcome.TheVariants.{Optimized, Changed, Stopped, Unfinished}

same_reply : (a b : Reply) → Unfinished a ≡ Unfinished b → a ≡ b
same_reply a b is = cc

module _ (old new : DeviceState) (honest : IsTrue old.honest) (reply : Reply) (quiet : reply ≢ failed failures.Device) where
  error_kept : (format : Meaning) (reclaim : Bool) (limit : ℕ) (error : OptError Global) (told : Reply) → told ≡ reply → TellsError error told
      → IsRefused format (record { reclaim = reclaim }) limit old new error → new ≡ old
  error_kept format reclaim limit (Open (opens.Check faults)) told same tells refused = refused.0.kept honest refl
  error_kept format reclaim limit (Open (opens.Lost count)) told same tells refused = refused.0.kept honest refl
  error_kept format reclaim limit (Open opens.NoFreePlace) told same tells refused = refused.0.kept honest refl
  error_kept format reclaim limit (Open opens.Device) told same tells refused = absurd (quiet (sym same ∙ tells))
  error_kept format reclaim limit (Open opens.Memory) told same tells refused = refused.0.kept honest refl
  error_kept format reclaim limit (Step error) told same tells refused = absurd tells
  error_kept format reclaim limit Memory told same tells refused = refused.2 ∙ refused.1.reads.kept honest refl

  optimize_kept : (format : Meaning) (reclaim : Bool) (limit : ℕ) (outcome : Outcome) → IsOptimizeOutcome reclaim limit format old new outcome → outcome ≡ Unfinished reply → new ≡ old
  optimize_kept format reclaim limit (Optimized report) is told = absurd (let e : Optimized report ≡ Unfinished reply = told in cc)
  optimize_kept format reclaim limit Changed is told = absurd is
  optimize_kept format reclaim limit Stopped is told = absurd (let e : Stopped ≡ Unfinished reply = told in cc)
  optimize_kept format reclaim limit (Unfinished answer) is told = error_kept format reclaim limit is.0 answer (same_reply answer reply told) is.2 is.1

  edit_kept : (result : Result (Unit {0}) EditError) (outcome : Outcome) → TellsEdit result outcome
      → ((error : EditError) → result ≡ Err error → error ≢ edits.Device → new ≡ old) → outcome ≡ Unfinished reply → new ≡ old
  edit_kept (Ok done) outcome tells refused told = absurd (let e : Changed ≡ Unfinished reply = sym tells ∙ told in cc)
  edit_kept (Err edits.Device) outcome tells refused told = absurd (quiet (same_reply reply (failed failures.Device) (sym told ∙ tells)))
  edit_kept (Err edits.Check) outcome tells refused told = refused edits.Check refl (λ is. cc)
  edit_kept (Err edits.NotFound) outcome tells refused told = refused edits.NotFound refl (λ is. cc)
  edit_kept (Err edits.Name) outcome tells refused told = refused edits.Name refl (λ is. cc)
  edit_kept (Err edits.Exists) outcome tells refused told = refused edits.Exists refl (λ is. cc)
  edit_kept (Err edits.Locked) outcome tells refused told = refused edits.Locked refl (λ is. cc)
  edit_kept (Err edits.TooLong) outcome tells refused told = refused edits.TooLong refl (λ is. cc)
  edit_kept (Err edits.DirFull) outcome tells refused told = refused edits.DirFull refl (λ is. cc)
  edit_kept (Err edits.VolumeFull) outcome tells refused told = refused edits.VolumeFull refl (λ is. cc)
  edit_kept (Err edits.Memory) outcome tells refused told = refused edits.Memory refl (λ is. cc)

  save_kept : (path : List ℕ) (given : GivenView) (format : ChangedMeaning) (outcome : Outcome) → IsSaveOutcome path given format.edits.save format.units old new outcome
      → outcome ≡ Unfinished reply → new ≡ old
  save_kept path given format outcome is told = elim is [
    | inl long ↦ long.2
    | inr (inl long) ↦ long.3
    | inr (inr (inl memory)) ↦ memory.3
    | inr (inr (inr tried)) ↦ edit_kept tried.2.result outcome tried.2.told (tried.2.edited.refused honest) told
  ]

  work_kept : (work : WorkView) (format : ChangedMeaning) (outcome : Outcome) → IsWorkOutcome work format old new outcome → outcome ≡ Unfinished reply → new ≡ old
  work_kept (Optimize reclaim limit) format outcome is told = optimize_kept format.units reclaim limit outcome is told
  work_kept (EditOf edit name) format outcome is told = edit_kept is.result outcome is.told (is.edited.refused honest) told
  work_kept Reclaim format outcome is told = edit_kept is.result outcome is.told (is.edited.refused honest) told
  work_kept (MakeDirectory path date) format outcome is told = edit_kept is.result outcome is.told (is.edited.refused honest) told
  work_kept (Replace path said) format outcome is told = is.1
  work_kept (Save path said) format outcome is told = elim is [
    | inl long ↦ long.2
    | inr (inl none) ↦ none.1.3
    | inr (inr given) ↦ save_kept path given.1.0 format outcome given.1.2 told
  ]

-- what work makes of a volume, or want of memory for its format
module _ (work : WorkView) (format : ChangedMeaning) (old new : DeviceState) (outcome : Outcome) where
  pub volume_kept : LacksMemory old new outcome ⊎ IsWorkOutcome work format old new outcome → KeepsDevice old new outcome
  volume_kept made = λ honest reply told quiet. elim made [
    | inl memory ↦ memory.1
    | inr works ↦ work_kept old new honest reply quiet work format outcome works told
  ]

pub was_changed : (file_system : FileSystem) (reserve : Option (List ℕ)) (reserved : List Bool) (Works : List Bool → DeviceState → DeviceState → Outcome → Type 0)
    (old new : DeviceState) (outcome : Outcome) → ReservesNamed (form_of file_system) reserve reserved → LacksMemory old new outcome ⊎ Works reserved old new outcome
    → KeepsDevice old new outcome → IsChangeOutcome file_system reserve Works old new outcome
was_changed file_system reserve reserved Works old new outcome named made kept = record {
  tried = elim made [
    | inl memory ↦ inr (inl memory)
    | inr works ↦ inr (inr (reserved, named, works))
  ];
  kept = kept;
}
