use Rattle.row_text.proofs.Reading.{row_reads_back, volume_reads_back}
use Rattle.row_text.proofs.law.a_line_reads_back.Goals as goal

pub returns : goal.returns
returns c = record { row = row_reads_back; volume = volume_reads_back }
