use Rattle.std.proofs.Common.{◌∙◌, ◌++◌, ℕ, List, take, take_all, ap, arith, sym}
use Rattle.std.specs.Prelude.{slice_index_or}
use Rattle.row_text.specs.Row.{RowView, row_view}
use Rattle.file_formats.specs.declared.listing.ListEntry.{ListEntry}
use Rattle.file_listings.specs.DosEntries.{listed_volume}
use Rattle.file_listings.specs.Rows.{dos_row, row_line, rows_of, rows_text}
use Rattle.file_listings.specs.Known.{FileFacts, facts_in, no_facts}
use Rattle.file_listings.proofs.RowLines.{dos_more, length-rows}
use Rattle.file_listings.proofs.dos_entries.dos_entries_text.Goals as goal

pub loop-number-preserved : goal.loop-number-preserved
loop-number-preserved g c =
    let style = c.args.style in
    let volume = listed_volume c.args.listing.now in
    let items = c.deref-entry-items.result.now in
    let facts = facts_in c.args.known.now in
    let n = c.loop-number.number in
    let before = rows_text style volume (take n (rows_of dos_row items facts)) in
    c.in_ok-write-2.ensures.bytes
    ∙ ap (λ (text : List ℕ). text ++ row_line style (row_view c.dos_row.result)) c.loop-number.invariant
    ∙ ap (λ (row : RowView). before ++ row_line style row) (c.dos_row.ensures
    ∙ ap (λ (known : FileFacts). dos_row c.entry-item.result known) c.at.ensures
    ∙ ap (λ (entry : ListEntry _). dos_row entry (slice_index_or facts n no_facts)) c.entry-item.is)
    ∙ sym (dos_more style volume items facts n (dos_row c.entry-item.result no_facts) c.entry-item.result c.loop-number-test.true)

pub returns : goal.returns
returns g c =
    let style = c.args.style in
    let volume = listed_volume c.args.listing.now in
    let items = c.deref-entry-items.result.now in
    let facts = facts_in c.args.known.now in
    c.loop-number.invariant
    ∙ ap (rows_text style volume) (take_all c.loop-number.number (rows_of dos_row items facts) (omega (arith, c.loop-number-test.false, length-rows dos_row items facts)))
    ∙ ap (λ (files : List (ListEntry _)). rows_text style volume (rows_of dos_row files facts)) c.deref-entry-items.ensures.value
