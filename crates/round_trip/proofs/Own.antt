-- Each item has a path of its own.
use Rattle.std.proofs.Common.{◌≡◌, ◌<◌, ◌⊎◌, ℕ, true, length, ap, ap₂, inl, inr, arith}
use Rattle.host_folders.specs.HostNames.{folded, has_tail, text_beside}
use Rattle.round_trip.specs.Extracted.{Extracted, IsExtracted, item_in, source_in}
use Rattle.round_trip.proofs.Items.{file_found, volume_of}
use Rattle.volume_extract.specs.ExtractText.{is_file}
use Rattle.volume_extract.specs.Source.{contents_at}
use Rattle.volume_extract.proofs.Apart.{own_paths, own_texts}

same_or_not : (a b : ℕ) → (a ≡ b) ⊎ (a < b) ⊎ (b < a)
same_or_not a b = grind arith

module _ (e : Extracted) (is : IsExtracted e) where
  pub same_number : (one other : ℕ) → one < length e.items → other < length e.items → (item_in e one).host ≡ (item_in e other).host → one ≡ other
  same_number one other low low_other same = by_order (same_or_not one other)
    where
      apart : (one ≡ other → ⊥) → ⊥
      apart differ =
          own_paths (volume_of e) (source_in e).own (contents_at (source_in e) e.device e.device_now) (source_in e).naming e.items is.are_items one other
          low low_other differ (ap folded same)

      by_order : (one ≡ other) ⊎ (one < other) ⊎ (other < one) → one ≡ other
      by_order (inl equal) = equal
      by_order (inr (inl before)) = absurd (apart (λ equal. omega (arith, before, equal)))
      by_order (inr (inr behind)) = absurd (apart (λ equal. omega (arith, behind, equal)))

  tailed : (number : ℕ) → number < length e.items → is_file (item_in e number).found ≡ true
      → has_tail (source_in e).naming (item_in e number).entry.directory ≡ true
  tailed number inside read = ap₂ has_tail is.named (file_found e is number inside read)

  -- no readable form beside a file stands at the path of a file
  pub no_form : (one other : ℕ) → one < length e.items → other < length e.items → is_file (item_in e one).found ≡ true
      → is_file (item_in e other).found ≡ true → text_beside (item_in e one).host ≡ (item_in e other).host → ⊥
  no_form one other low low_other read also same =
      (own_texts (volume_of e) (source_in e).own (contents_at (source_in e) e.device e.device_now) (source_in e).naming e.items is.are_items one other
      low low_other).file (tailed one low read) (tailed other low_other also) (ap folded same)
