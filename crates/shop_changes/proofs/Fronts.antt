-- What was read of a file that is saved, up to one byte past the most that it may have, answers for all of it.
use Rattle.std.proofs.Common.{◌≡◌, ◌∙◌, ℕ, ◌+◌, List, length, take, take_all, length-take, arith, ap, subst, inl, inr}
use Rattle.a2_device.specs.Device.{DeviceState}
use Rattle.vol_format.specs.Meaning.{Meaning}
use Rattle.edit_formats.specs.Saves.{SaveMeaning}
use Rattle.shop_changes.specs.GivenFile.{most_input}
use Rattle.shop_changes.specs.SaidFile.{SaidView}
use Rattle.shop_replies.specs.declared.reply.Reply.{Reply}
use Rattle.shop_changes.specs.EditRules.{ChangedMeaning}
use Rattle.shop_changes.specs.ReplaceReply.{IsReplaced}
use Rattle.shop_changes.specs.SaveReply.{IsSaidSaved}

-- the same is said of a file, of which there are other bytes
abbrev pub with_said_bytes : SaidView → List ℕ → SaidView
with_said_bytes said bytes = record said { bytes = bytes }

pub saved-take : (path front bytes : List ℕ) (said : SaidView) (saves : SaveMeaning) (format : Meaning) (device : DeviceState) (reply : Reply) → front ≡ take (most_input + 1) bytes
    → IsSaidSaved path (with_said_bytes said front) saves format device reply → IsSaidSaved path (with_said_bytes said bytes) saves format device reply
saved-take path front bytes said saves format device reply taken is = elim is [
  | inl long ↦ inl (long.0, omega (arith, long.1, ap (λ (xs : List ℕ). length xs) taken, length-take (most_input + 1) bytes))
  | inr short ↦ subst (λ (all : List ℕ). IsSaidSaved path (with_said_bytes said all) saves format device reply)
      (taken ∙ take_all (most_input + 1) bytes (omega (arith, short.0, ap (λ (xs : List ℕ). length xs) taken, length-take (most_input + 1) bytes))) (inr short)
]

-- so of one that takes the place of another file
pub replaced-take : (path front bytes : List ℕ) (said : SaidView) (format : ChangedMeaning) (device : DeviceState) (reply : Reply) → front ≡ take (most_input + 1) bytes
    → IsReplaced path (with_said_bytes said front) format device reply → IsReplaced path (with_said_bytes said bytes) format device reply
replaced-take path front bytes said format device reply taken is = elim is [
  | inl long ↦ inl (long.0, omega (arith, long.1, ap (λ (xs : List ℕ). length xs) taken, length-take (most_input + 1) bytes))
  | inr short ↦ subst (λ (all : List ℕ). IsReplaced path (with_said_bytes said all) format device reply)
      (taken ∙ take_all (most_input + 1) bytes (omega (arith, short.0, ap (λ (xs : List ℕ). length xs) taken, length-take (most_input + 1) bytes))) (inr short)
]
