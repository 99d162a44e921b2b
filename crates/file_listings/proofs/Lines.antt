-- The lines of a listing, written one after the other.
use Rattle.std.proofs.Common.{◌≡◌, ◌≤◌, ◌++◌, ℕ, List, ap, ◌∙◌, codes, decimal, take, length, take_all}
use Rattle.std.specs.Prelude.{flat_map}
use Rattle.file_formats.specs.declared.listing.ListEntry.{ListEntry}
use Rattle.file_listings.specs.DosText.{Text, line, file_line, lines_of}

-- the last line behind those of all files
pub lines_ended : {A : Type 0} (volume number at free : ℕ) (files read : List (ListEntry A)) (so_far whole : Text) → number ≡ volume → read ≡ files
    → so_far ≡ line (codes "DISK VOLUME " ++ decimal number) ++ flat_map (λ file. line (file_line file)) (take at read) → length read ≤ at
    → whole ≡ so_far ++ line (codes "FREE " ++ decimal free) → whole ≡ lines_of volume files free
lines_ended volume number at free files read so_far whole is same written all ends =
    ends ∙ ap (λ (text : Text). text ++ line (codes "FREE " ++ decimal free)) (written
    ∙ ap (λ n. line (codes "DISK VOLUME " ++ decimal n) ++ flat_map (λ file. line (file_line file)) (take at read)) is
    ∙ ap (λ fs. line (codes "DISK VOLUME " ++ decimal volume) ++ flat_map (λ file. line (file_line file)) fs) (take_all at read all ∙ same))
