-- Where the paths of a job lead, and the files that it writes.
use Rattle.std.specs.Prelude.{◌≡◌, ◌≢◌, ℕ, false, true, List, Option, Some, None, option_map, string_bytes}
use Rattle.shop_outputs.specs.declared.target.Target.{Target}
use Rattle.shop_outputs.specs.declared.target.Target.TheVariants.{Nowhere}
use Rattle.shop_jobs.specs.Input.{StandardInput, folder_of, path_beside, path_of}
use Rattle.shop_jobs.specs.Job.{JobView, TargetView, file_of, is_new_file}
use Rattle.shop_outputs.specs.Asides.{Destination, IsDestinationOf, nowhere}
use Rattle.shop_outputs.specs.Written.{GoesTo, IsUntouched}
use Rattle.shop_outputs.specs.declared.aside.Placing.{Placing}
use Rattle.shop_outputs.specs.declared.aside.Placing.TheVariants.{Free, Over}
use Rattle.shop_outputs.specs.declared.output.Output.{Output}
use Rattle.shop_outputs.specs.declared.output.Output.TheVariants.{Nothing}
use Rattle.shop_files.specs.declared.files.JobFiles.{JobFiles}
use Rattle.shop_files.specs.declared.files.NamedFile.{NamedFile}

-- the file of a path that may be left out: none without a path, else a new one that goes to this target, of which it
-- may take such a place
abbrev pub IsOutputOf :
    {H File Units Names : Type 0} → Option (List ℕ) → Target → Placing → Output H File Units Names → Type 0
IsOutputOf None target placing output = output ≡ Nothing
IsOutputOf (Some path) target placing output = GoesTo path target placing output × IsUntouched output

-- where the output of a path goes that may be left out: nowhere without a path
abbrev pub IsDestination : Option (List ℕ) → Target → Option (List ℕ) → Placing → Destination → Type 0
IsDestination None target apart placing to = to ≡ nowhere
IsDestination (Some path) target apart placing to = IsDestinationOf path target apart placing to

-- an output file that is to be a new one may take a free place alone
pub record IsPlacingOf (output : TargetView) (placing : Placing) : Type 0 where
  pub free : is_new_file output ≡ true → placing ≡ Free
  pub over : is_new_file output ≡ false → placing ≡ Over

-- A file has this path, or none; without a path it leads nowhere.
pub record IsNamed (path : Option (List ℕ)) (file : NamedFile) : Type 0 where
  pub same : option_map string_bytes file.path ≡ path
  pub nowhere : path ≡ None → file.target ≡ Nowhere

-- Each file has the path that the job names for it, there is a folder only where the job adds the files of one, and it
-- is asked which file standard input is only where the image comes from there.
pub record NamesFiles (job : JobView) (files : JobFiles) : Type 0 where
  pub image : IsNamed (path_of job.input.image) files.image
  pub input : job.input.image ≢ StandardInput → files.input ≡ None
  pub from : IsNamed (path_beside job.input.beside) files.from
  pub folder : folder_of job.input.beside ≡ None → files.folder ≡ None
  pub out : IsNamed (file_of job.output) files.out
  pub placing : IsPlacingOf job.output files.placing
  pub certificate : IsNamed job.certificate files.certificate
