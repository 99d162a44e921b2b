-- A plain list names a file.
use Rattle.std.proofs.Common.{◌≡◌, ◌∙◌, sym, ap, refl, Bool, true, false, List, Some, codes, is_some, Contains, map}
use Rattle.std.specs.Prelude.{IsSome}
use Rattle.shop_jobs.specs.Job.{ByStored}
use Rattle.shop_words.specs.Table.{Text}
use Rattle.shop_words.specs.Hexadecimal.{bytes_named}
use Rattle.shop_words.specs.Plain.{Use, use_name, value_of}
use Rattle.shop_words.specs.Job.{file_named, name_by}
use Rattle.shop_words.specs.Ways.{Said, is_on}
use Rattle.shop_words.proofs.PlainSaid.{mapped_there}
use Rattle.shop_words.proofs.PlainUsed.{use_said}

-- a word names a file, where it writes bytes if a flag says so
there : (stored : Bool) (word : Text) → (stored ≡ true → IsSome (bytes_named word)) → is_some (file_named stored word) ≡ true
there false word writes = refl
there true word writes = mapped_there ByStored (bytes_named word) (writes refl)

pub name_by-line : (uses : List Use) (said : Said) (word : Text) → (Contains (map use_name uses) (codes "stored") → IsSome (bytes_named word))
    → said (codes "name") ≡ Some word → said (codes "stored") ≡ value_of (codes "stored") uses → is_some (name_by said) ≡ true
name_by-line uses said word writes name_said stored_said =
    rw name_said (there (is_on (said (codes "stored"))) word (λ on. writes (use_said (codes "stored") uses (sym (ap is_on stored_said) ∙ on))))
