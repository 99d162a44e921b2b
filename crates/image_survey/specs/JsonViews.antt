-- What is told of a file, as its line of JSON is made.
use Rattle.std.specs.Prelude.{option_map}
use Rattle.image_survey.specs.JsonLines.{RowView}
use Rattle.image_survey.specs.declared.json_row.JsonRow.{JsonRow}

abbrev pub row_view : JsonRow → RowView
row_view r = record {
  content = r.content;
  disk = r.disk;
  files = r.files;
  free = r.free;
  file_system = r.file_system;
  image = r.image;
  lost = r.lost;
  order = r.order;
  path = r.path.now;
  container = r.container;
  word = r.word;
  volume = option_map (λ string. string.now) r.volume;
}
