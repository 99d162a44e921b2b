-- The steps of a plan in words.
use Rattle.std.specs.Prelude.{ℕ, ◌==◌, false, List, ◌∷◌, ◌++◌, length, flat_map, codes, decimal, if◌then◌else◌}
use Rattle.std.specs.declared.alloc.Global.{Global}
use Rattle.vol_layout.specs.Reserved.{told_place}
use Rattle.vol_layout.specs.declared.form.PlaceForm.{PlaceForm}
use Rattle.vol_layout.specs.declared.form.PlaceForm.TheVariants.{Sector, Block}
use Rattle.row_text.specs.Places.{kind_word}
use Rattle.vol_format.specs.Directory.{Directory, entry_of}
use Rattle.vol_format.specs.Standing.{no_part}
use Rattle.file_listings.specs.DosText.{Text, line, name_text}
use Rattle.file_formats.specs.Files.{FileMeaning}
use Rattle.file_listings.specs.ProText.{path_text}
use Rattle.file_listings.specs.declared.step.Step.{Step}

-- the path of a file, as a listing shows it
abbrev pub shown_path : PlaceForm → List ℕ → Text
shown_path Sector path = name_text path
shown_path Block path = path_text false path

-- a step: the path of the file, the kind of the part and its number among those of the kind, and its two places
abbrev pub step_text : PlaceForm → List ℕ → Step → Text
step_text form path step = shown_path form path ++ (32 ∷ (kind_word step.part.kind ++ (32 ∷ (decimal step.part.number
    ++ (codes " from " ++ (told_place form step.part.place ++ (codes " to " ++ told_place form step.to)))))))

-- the path that a listing shows of the file of an entry
abbrev pub path_of : FileMeaning → Directory → ℕ → List ℕ
path_of files directory file = (files.shown {A = Global} (entry_of directory file)).path

abbrev pub step_line : PlaceForm → FileMeaning → Directory → Step → Text
step_line form files directory step = line (step_text form (path_of files directory step.part.file) step)

-- how many moves there are
abbrev pub count_text : ℕ → Text
count_text moves = decimal moves ++ (if moves == 1 then codes " move" else codes " moves")

-- a line for each step, and how many there are
abbrev pub plan_words_text : PlaceForm → FileMeaning → Directory → List Step → Text
plan_words_text form files directory steps =
    flat_map (step_line form files directory) steps ++ line (count_text (length steps))

-- what stands for a step of a number that there is not
abbrev pub no_step : Step
no_step = record { part = no_part; to = 0 }
