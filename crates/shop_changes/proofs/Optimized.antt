-- What is told of an optimization, by what became of it.
use Rattle.std.proofs.Common.{◌≡◌, ◌∙◌, ℕ, Bool, List, inl, inr, ap, subst, sym, Global}
use Rattle.std.specs.Prelude.{Some, Err, length}
use Rattle.a2_image.specs.KeptBytes.{HoldsKept}
use Rattle.a2_device.specs.Device.{DeviceState, ImageForm, OnlyReads}
use Rattle.vol_format.specs.Meaning.{Meaning}
use Rattle.vol_mover.specs.Optimizing.{IsRefused}
use Rattle.vol_mover.specs.Refused.{is_device_error}
use Rattle.vol_mover.specs.declared.report.OptError.{OptError}
use Rattle.vol_mover.specs.declared.report.OptError.TheVariants as optimizes
use Rattle.shop_replies.specs.declared.reply.Reply.{Reply}
use Rattle.shop_replies.proofs.Lacking.{unit_lacks}
use Rattle.shop_volumes.specs.Unopened.{TellsOpening}
use Rattle.shop_changes.specs.OptimizeOutcome.{IsOptimizeOutcome, TellsError}
use Rattle.shop_changes.specs.declared.outcome.Outcome.{Outcome}
use Rattle.shop_changes.specs.declared.outcome.Outcome.TheVariants.{Optimized, Changed, Stopped, Unfinished}
use Rattle.shop_changes.specs.ChangeReply.{TellsOutcome}
use Rattle.shop_changes.specs.ImageBytes.{AreBytesOf, KeepsBytes}
use Rattle.shop_changes.specs.OptimizeReply.{IsOptimized}
use Rattle.shop_volumes.proofs.Fresh.{IsFresh}

-- the image under a device is still of the form that it had at first
pub keeps_bytes : (old new : DeviceState) (bytes : List ℕ) → new.image ≡ old.image → AreBytesOf new bytes → KeepsBytes old bytes
keeps_bytes old new bytes same (image, is, holds, kept, form, units) first of =
    let one : Some first ≡ Some (record { order = image.order; bytes = length image.bytes; kept = image.kept }) = sym of ∙ sym same ∙ form in
    let that : first ≡ record { order = image.order; bytes = length image.bytes; kept = image.kept } = cc in
    subst (λ (f : ImageForm). HoldsKept f.order bytes f.kept) (sym that) (subst (λ bs. HoldsKept image.order bs image.kept) (sym is) kept)

module _ (reclaim : Bool) (limit : ℕ) (format : Meaning) (old new : DeviceState) (fresh : IsFresh old) (reply : Reply) where
  not_optimized : (answer : Reply) (error : OptError Global) → IsRefused format (record { reclaim = reclaim }) limit old new error → TellsError error answer
      → reply ≡ answer → IsOptimized reclaim limit format old reply
  not_optimized answer (optimizes.Open error) refused tells same =
      inr (inl (record {
        error = error;
        refusal = refused.1 fresh.honest;
        lacks = λ is. unit_lacks old new fresh.honest fresh.reads (subst (λ failed. OnlyReads failed old new) (ap (λ e. is_device_error {T = Unit {0}} (Err e)) is) refused.0);
        told = subst (λ (r : Reply). TellsOpening error r) (sym same) tells;
      }))
  not_optimized answer (optimizes.Step error) refused tells same = absurd tells
  not_optimized answer optimizes.Memory refused tells same = inr (inr (inr (same ∙ tells)))

  pub optimized : (outcome : Outcome) → IsOptimizeOutcome reclaim limit format old new outcome → TellsOutcome new outcome reply → IsOptimized reclaim limit format old reply
  optimized (Optimized report) is told = elim told [
    | inl done ↦ inl (record { after = new; report = report; reported = is; optimized = done.0; text = done.1; made = done.2; kept = keeps_bytes old new _ is.worked.device.image done.2 })
    | inr failed ↦ inr (inr (inr failed))
  ]
  optimized Changed is told = absurd is
  optimized Stopped is told =
      inr (inr (inl (record { after = new; error = is.0; stopped = is.1; interrupted = told.0; made = told.1; kept = keeps_bytes old new _ is.1.worked.device.image told.1 })))
  optimized (Unfinished answer) is told = not_optimized answer is.0 is.1 is.2 told
