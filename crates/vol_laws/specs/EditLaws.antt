-- What a format must meet for its files to be numbered anew: what a unit means does not depend on the number of its
-- file.
use Rattle.std.specs.Prelude.{◌≡◌, ℕ, List}
use Rattle.a2_device.specs.declared.part.Part.{Part}
use Rattle.vol_format.specs.Meaning.{Meaning}
use Rattle.vol_laws.specs.Inserted.{in_file, refiled}

pub record IsFileFree (format : Meaning) : Type 0 where
  pub child_refiled : (places : ℕ) (part : Part) (unit : List ℕ) (i file : ℕ)
      → format.child places (in_file part file) unit i ≡ refiled file (format.child places part unit i)
  pub content_refiled : (places : ℕ) (part : Part) (file : ℕ) (unit : List ℕ)
      → format.content places (in_file part file) unit ≡ format.content places part unit
