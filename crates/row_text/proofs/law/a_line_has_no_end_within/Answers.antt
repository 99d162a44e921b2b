use Rattle.row_text.proofs.OneLine.{row_is_one_line, volume_is_one_line, csv_is_one_line, header_is_one_line}
use Rattle.row_text.proofs.law.a_line_has_no_end_within.Goals as goal

pub returns : goal.returns
returns c = record {
  row = row_is_one_line;
  volume = volume_is_one_line;
  csv = csv_is_one_line;
  header = header_is_one_line;
}
