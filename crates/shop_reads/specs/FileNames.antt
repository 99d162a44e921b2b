-- How a job names a file, to the formats of files.
use Rattle.file_formats.specs.FileNames.{FileNameView, GivenPath, StoredPath}
use Rattle.shop_jobs.specs.Job.{ByPath, ByStored}
use Rattle.shop_jobs.specs.Job as jobs

abbrev pub named_by : jobs.FileNameView → FileNameView
named_by (ByPath path) = GivenPath path
named_by (ByStored bytes) = StoredPath bytes
