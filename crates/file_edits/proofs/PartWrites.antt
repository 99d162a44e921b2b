-- The writes of the parts of a new file, one after another.
use Rattle.std.specs.Prelude.{◌≡◌, ◌+◌, ℕ, Bool, List, [], ◌∷◌, ◌++◌, slice_index_or}
use Rattle.std.proofs.Common.{refl, sym, subst, arith, inl, inr}
use Rattle.std.proofs.lemmas.Bool.{cases_lt}
use Rattle.std.proofs.lemmas.List.{length-append, get_or_append_left, get_or_push}
use Rattle.vol_laws.specs.Writes.{Write}
use Rattle.edit_formats.specs.declared.new_part.NewPart.{NewPart}
use Rattle.edit_formats.specs.Writes.{no_write}
use Rattle.edit_formats.specs.Saves.{SaveMeaning}
use Rattle.file_edits.specs.Parts.{HasPartWrites, IsPartWrite}

module _ (saves : SaveMeaning) (size : ℕ) (parts : List NewPart) (places : List ℕ) (stored : List Bool) (text : List ℕ) where
  pub none_written : HasPartWrites saves size parts places stored text 0 []
  none_written = record { count_is = refl; each = λ k below. absurd (omega (arith, below)) }

  pub one_written : (count : ℕ) (writes : List Write) (write : Write) → HasPartWrites saves size parts places stored text count writes
      → IsPartWrite saves size parts places stored text count write → HasPartWrites saves size parts places stored text (count + 1) (writes ++ write ∷ [])
  one_written count writes write was is = record {
    count_is = omega (arith, length-append writes (write ∷ []), was.count_is);
    each = λ k below. elim (cases_lt k count) [
      | inl low ↦ subst (IsPartWrite saves size parts places stored text k) (sym (get_or_append_left writes (write ∷ []) no_write k (omega (arith, low, was.count_is)))) (was.each k low)
      | inr high ↦
          let last : count ≡ k = omega (arith, high, below) in
          subst (λ n. IsPartWrite saves size parts places stored text n (slice_index_or (writes ++ write ∷ []) n no_write)) last
          (subst (IsPartWrite saves size parts places stored text count) (sym (get_or_push writes write no_write count was.count_is)) is)
    ];
  }
