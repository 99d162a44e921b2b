use Rattle.std.proofs.Common.{◌≡◌, ◌++◌, take, string_bytes, codes, decimal}
use Rattle.std.specs.Prelude.{flat_map}
use Rattle.file_listings.specs.DosText.{line, file_line}
use Rattle.file_listings.proofs.dos_text.dos_listing_text.Given as goal

abbrev pub invariant-loop-file : goal.invariant-loop-file
invariant-loop-file g l =
    string_bytes l.text ≡ line (codes "DISK VOLUME " ++ decimal l.volume) ++ flat_map (λ file. line (file_line file)) (take l.file-index l.file-items)
