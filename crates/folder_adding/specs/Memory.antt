-- Files in memory.
use Rattle.std.specs.Prelude.{◌≡◌, ◌≤◌, ◌⊎◌, ℕ, List, [], length, map, slice_index_or, Vec}
use Rattle.shop_replies.specs.declared.refusal.Failure.{Failure}
use Rattle.shop_replies.specs.declared.refusal.Failure.TheVariants.{Input, Memory}

-- the bytes of the file with a number; there are none where there are not so many files
abbrev pub bytes_of : {A : Type 0} → List (Vec ℕ A) → ℕ → List ℕ
bytes_of files number = slice_index_or (map (λ file. file.items) files) number []

-- a reading fails where there are not so many files, or for want of memory
abbrev pub MayFail : {A : Type 0} → List (Vec ℕ A) → ℕ → Failure → Type 0
MayFail files number failure = ((failure ≡ Input) × (length files ≤ number)) ⊎ (failure ≡ Memory)
