-- What is noted of the files of a job, to be explained.
use Rattle.std.specs.Prelude.{false, None}
use Rattle.shop_files.specs.declared.telling.Found.{Found}

-- nothing is known of the files of a job, and nothing is to be explained
abbrev pub nothing_found : Found
nothing_found = record {
  is_wanted = false;
  path = None;
  given = None;
  out = None;
  certificate = None;
  folder = None;
  order = None;
  bytes = None;
  most = None;
  fault = None;
  unwritten = None;
  fault_files = None;
  foreign = None;
  ways = None;
  boot = None;
  is_content = false;
}
