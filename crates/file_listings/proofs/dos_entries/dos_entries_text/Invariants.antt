use Rattle.std.proofs.Common.{◌≡◌, take, string_bytes}
use Rattle.file_listings.specs.DosEntries.{listed_volume}
use Rattle.file_listings.specs.Known.{facts_in}
use Rattle.file_listings.specs.Rows.{dos_row, rows_of, rows_text}
use Rattle.file_listings.proofs.dos_entries.dos_entries_text.Given as goal

abbrev pub invariant-loop-number : goal.invariant-loop-number
invariant-loop-number g l =
    string_bytes l.text ≡ rows_text l.style (listed_volume l.listing) (take l.number (rows_of dos_row l.entry-items (facts_in l.known)))
