-- Files of which one reading fails.
use Rattle.std.specs.Prelude.{◌≡◌, ◌⊎◌, ℕ, ◌+◌, min, Result, Err, Some}
use Rattle.folder_adding.specs.declared.failing.FailingFiles.{FailingFiles}
use Rattle.shop_replies.specs.declared.refusal.Failure.{Failure}
use Rattle.shop_replies.specs.declared.refusal.Failure.TheVariants.{Input}

-- the reading that is to fail is the next one
abbrev pub IsNext : {H : Type 0} → FailingFiles H → Type 0
IsNext f = f.failing ≡ Some f.calls

-- one reading was counted, up to the last value of the counter, and which one is to fail is as it was
pub record IsCounted {H : Type 0} (old new : FailingFiles H) : Type 0 where
  pub calls : new.calls ≡ min (old.calls + 1) 18446744073709551615
  pub failing : new.failing ≡ old.failing

-- the reading failed, and the files within were not asked
pub record IsRefused {H T : Type 0} (old new : FailingFiles H) (result : Result T Failure) : Type 0 where
  pub failed : result ≡ Err Input
  pub files : new.files ≡ old.files

-- the failures that a reading may answer: that of the reading that is to fail, and those of the files within
abbrev pub MayFail : {H : Type 0} → (H → ℕ → Failure → Type 0) → FailingFiles H → ℕ → Failure → Type 0
MayFail within f number failure = (IsNext f × (failure ≡ Input)) ⊎ within f.files number failure
