-- Units that are written one behind the other.
use Rattle.std.proofs.Common.{◌≡◌, ◌∙◌, ◌⊎◌, ℕ, ◌+◌, ◌*◌, ◌<◌, ◌≤◌, List, length, sym, ap, subst, refl, arith, inl, inr, ⊎_elim}
use Rattle.std.specs.Prelude.{slice_range}
use Rattle.std.proofs.lemmas.Bool.{cases_order}
use Rattle.a2_image.specs.Lending.{written}
use Rattle.a2_image.proofs.LentLemmas.{length-written}
use Rattle.a2_image.proofs.LentSectors.{written_here, written_elsewhere}
use Rattle.a2_media.specs.FileDevice.{file_unit}
use Rattle.new_volumes.specs.Filling.{Filled}

pub Filled-none : (size : ℕ) (Is : ℕ → List ℕ → Type 0) (first : ℕ) (bytes : List ℕ) → Filled size Is first first bytes bytes
Filled-none size Is first bytes = record { long = refl; here = λ place l m. absurd (omega (arith, l, m)); others = λ place apart. refl }

module _ (size : ℕ) (Is : ℕ → List ℕ → Type 0) (first past : ℕ) (old new unit : List ℕ) (filled : Filled size Is first past old new) (order : first ≤ past)
    (apart : (j k : ℕ) → j < k → size * j + size ≤ size * k) (long : length unit ≡ size) (room : size * past + size ≤ length old) (is : Is past unit) where
  fits : size * past + length unit ≤ length new
  fits = let same = filled.long in omega (arith, long, room, same)

  made : List ℕ
  made = written new (size * past) unit

  own : file_unit size (written new (size * past) unit) past ≡ unit
  own =
      let end : size * past + size ≡ size * past + length unit = omega (arith, long) in
      ap (slice_range (written new (size * past) unit) (size * past)) end ∙ written_here new (size * past) unit fits

  kept : (place : ℕ) → (place < past) ⊎ (past < place) → file_unit size (written new (size * past) unit) place ≡ file_unit size new place
  kept place differ =
      written_elsewhere new (size * past) unit fits (size * place) (size * place + size) (omega arith)
      (⊎_elim (λ less. inl (apart place past less)) (λ more. let from = apart past place more in inr (omega (arith, from, long))) differ)

  pub Filled-more : Filled size Is first (past + 1) old (written new (size * past) unit)
  Filled-more = record {
    long = length-written new (size * past) unit (omega (arith, fits)) ∙ filled.long;
    here = λ place l m. ⊎_elim
        (λ same. subst (λ p. Is p (file_unit size (written new (size * past) unit) p)) (sym same) (subst (Is past) (sym own) is))
        (λ differ. ⊎_elim
        (λ less. subst (Is place) (sym (kept place (inl less))) (filled.here place l less))
        (λ more. absurd (omega (arith, more, m)))
        differ)
        (cases_order place past);
    others = λ place outside. ⊎_elim
        (λ before. kept place (inl (omega (arith, before, order))) ∙ filled.others place (inl before))
        (λ behind. kept place (inr (omega (arith, behind))) ∙ filled.others place (inr (omega (arith, behind))))
        outside;
  }

-- units of 256 and of 512 bytes stand apart
pub apart_256 : (j k : ℕ) → j < k → 256 * j + 256 ≤ 256 * k
apart_256 j k less = omega (arith, less)

pub apart_512 : (j k : ℕ) → j < k → 512 * j + 512 ≤ 512 * k
apart_512 j k less = omega (arith, less)
