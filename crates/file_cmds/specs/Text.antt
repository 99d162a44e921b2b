-- The text of a file.
use Rattle.std.specs.Prelude.{◌≡◌, ◌≢◌, ◌↔◌, ◌<◌, ◌+◌, ◌-◌, ◌*◌, ℕ, Bool, true, false, List, [], ◌∷◌, ◌++◌, replicate, AllPairs, Contains}
use Rattle.a2_device.specs.declared.part.Part.{Part}
use Rattle.vol_format.specs.declared.link.Link.TheVariants.{Wild, OtherType}
use Rattle.vol_format.specs.Directory.{Directory, entry_of, root_of}
use Rattle.vol_format.specs.Meaning.{Meaning, link_from}
use Rattle.vol_format.specs.Reach.{Reach}
use Rattle.vol_format.specs.Files.{Stored, IsStored}
use Rattle.file_formats.specs.Files.{FileMeaning}

-- What is wrong with a file by itself: it is of a kind that is not read, one of its pointers is wild, or two of its
-- parts stand at one place.
pub data OwnFault (format : Meaning) (directory : Directory) (store : List (List ℕ)) (file : ℕ) : Type 0 where
  other_type : root_of directory file ≡ OtherType → OwnFault format directory store file
  wild_root : root_of directory file ≡ Wild → OwnFault format directory store file
  wild_pointer : (part : Part) (pointer : ℕ) → Reach format directory store part → part.file ≡ file
      → link_from format store part pointer ≡ Wild → OwnFault format directory store file
  shared : (part other : Part) → Reach format directory store part → Reach format directory store other
      → part.file ≡ file → other.file ≡ file
      → part.place ≡ other.place → part ≢ other → OwnFault format directory store file

-- the units of a file's body, in rising order of their numbers
pub record AreUnitsOf (format : Meaning) (directory : Directory) (store : List (List ℕ)) (file : ℕ)
    (units : List Stored) : Type 0 where
  pub members : (stored : Stored) → Contains units stored ↔ IsStored format directory store file stored
  pub rising : AllPairs (λ (stored later : Stored). stored.number < later.number) units

-- The text of units from a number on: what comes before the first of them is zeros, and nothing comes after the last.
abbrev pub text_from : ℕ → ℕ → List Stored → List ℕ
text_from unit_size number [] = []
text_from unit_size number (stored ∷ later) =
    replicate ((stored.number - number) * unit_size) 0 ++ stored.unit ++ text_from unit_size (stored.number + 1) later

abbrev pub whole_text : ℕ → List Stored → List ℕ
whole_text unit_size units = text_from unit_size 0 units

-- the whole text of a file that has no fault of its own
pub record IsWholeTextOf (format : Meaning) (directory : Directory) (store : List (List ℕ)) (file : ℕ)
    (text : List ℕ) : Type 0 where
  pub faultless : ¬ OwnFault format directory store file
  pub units : List Stored
  pub are_units : AreUnitsOf format directory store file units
  pub is : text ≡ whole_text format.unit_size units

-- the whole text of a file whose entry has these bytes, or its body alone
abbrev pub text_of : FileMeaning → ℕ → Bool → List ℕ → List Stored → List ℕ
text_of files unit_size true bytes units = whole_text unit_size units
text_of files unit_size false bytes units = files.body bytes (whole_text unit_size units)

-- the text of an entry's file that has no fault of its own, whole or its body alone
pub record IsEntryText (format : Meaning) (files : FileMeaning) (directory : Directory) (store : List (List ℕ))
    (file : ℕ) (whole : Bool) (text : List ℕ) : Type 0 where
  pub faultless : ¬ OwnFault format directory store file
  pub units : List Stored
  pub are_units : AreUnitsOf format directory store file units
  pub is : text ≡ text_of files format.unit_size whole (entry_of directory file).bytes units
