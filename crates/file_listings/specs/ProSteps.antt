-- The steps of a plan of a ProDOS volume, in words.
use Rattle.std.specs.Prelude.{ℕ, List, length, slice_index_or, string_bytes}
use Rattle.vol_layout.specs.declared.form.PlaceForm.TheVariants.{Block}
use Rattle.pro_format.specs.Pro.{directory_with}
use Rattle.pro_format.specs.ProVolume.{map_in, system_of, tree_of}
use Rattle.vol_format.specs.Directory.{Directory}
use Rattle.file_listings.specs.DosText.{Text, line}
use Rattle.file_formats.specs.ProFiles.{pro_files}
use Rattle.file_listings.specs.Steps.{count_text, no_step, plan_words_text, step_line}
use Rattle.file_listings.specs.declared.pro_steps.ProSteps.{ProSteps}
use Rattle.file_listings.specs.declared.step.Step.{Step}

-- what a volume's directories say, and the steps of a plan of it, in their order
pub record ProPlan : Type 0 where
  pub directory : Directory
  pub steps : List Step

-- the whole text, the line of a step in it, and its last line
abbrev pub plan_text : ProPlan → Text
plan_text plan = plan_words_text Block pro_files plan.directory plan.steps

abbrev pub plan_line : ProPlan → Step → Text
plan_line plan step = step_line Block pro_files plan.directory step

abbrev pub step_at : ProPlan → ℕ → Step
step_at plan number = slice_index_or plan.steps number no_step

abbrev pub count_line : ProPlan → Text
count_line plan = line (count_text (length plan.steps))

-- the plan whose steps these are, and the line that was made last
abbrev pub plan_in : {A : Type 0} → ProSteps A → ProPlan
plan_in lines = record {
  directory = directory_with (system_of lines.volume) (tree_of lines.volume) (map_in lines.volume).units;
  steps = lines.steps.items;
}

abbrev pub line_in : {A : Type 0} → ProSteps A → Text
line_in lines = string_bytes lines.line
