use Rattle.std.proofs.Common.{◌<◌, ◌∙◌, ◌++◌, ℕ, List, ap, arith, sym}
use Rattle.std.specs.declared.alloc.Global.{Global}
use Rattle.vol_format.specs.Directory.{entries, entry_of, no_entry}
use Rattle.file_formats.specs.ProFiles.{pro_shown}
use Rattle.file_formats.specs.declared.listing.ListEntry.{ListEntry}
use Rattle.file_listings.specs.ProLines.{listed_in}
use Rattle.file_listings.specs.ProText.{told_line}
use Rattle.file_listings.specs.Rows.{pro_row}
use Rattle.file_listings.specs.Known.{FileFacts, facts_of, no_facts}
use Rattle.file_listings.proofs.RowLines.{length-lines, line_at}
use Rattle.file_listings.proofs.pro_lines.ProLines.make_entry.Goals as goal

pub listed_entry-requires : goal.listed_entry-requires
listed_entry-requires g c =
    let listed = listed_in c.args.self.now in
    omega (arith, c.requires, length-lines listed.style listed.directory listed.facts)

pub returns-clause-line : goal.returns-clause-line
returns-clause-line g c =
    let listed = listed_in c.args.self.now in
    let low : c.args.entry < entries listed.directory = omega (arith, c.requires, length-lines listed.style listed.directory listed.facts) in
    c.in_ok-write.ensures.bytes
    ∙ ap (λ (bytes : List ℕ). bytes ++ told_line listed.style c.in_ok-listed.listed (facts_of c.at.result)) c.clear.ensures.bytes
    ∙ ap (λ (entry : ListEntry _). told_line listed.style entry (facts_of c.at.result)) c.in_ok-listed.ensures
    ∙ ap (λ (facts : FileFacts). told_line {A = g.row.A.Denot} listed.style (pro_shown (entry_of listed.directory c.args.entry)) facts) c.at.ensures
    ∙ sym (line_at g.row.A.Denot listed.directory listed.facts c.args.entry (pro_row {A = Global} (pro_shown no_entry) no_facts) low listed.style)
