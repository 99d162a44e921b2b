-- Files that no one may write.
use Rattle.std.specs.Prelude.{◌≡◌, Option, Some, None}
use Rattle.std.specs.Fs.{IsReadonly}
use Rattle.shop_outputs.specs.declared.target.Standing.{Standing}
use Rattle.shop_outputs.specs.declared.target.Target.{Target}
use Rattle.shop_outputs.specs.declared.target.Target.TheVariants.{Place, Straight, StandardOutput, Nowhere}
use Rattle.shop_outputs.specs.declared.output.Output.{Output}
use Rattle.shop_outputs.specs.declared.output.Output.TheVariants.{Nothing, Aside, Held}

-- a file stands there whose mode lets no one write it
abbrev pub IsReadonlyFile : Option Standing → Type 0
IsReadonlyFile None = ⊥
IsReadonlyFile (Some standing) = IsReadonly standing.mode

-- the same of what a path leads to: only at a place stands a file
abbrev pub IsProtected : Target → Type 0
IsProtected (Place place) = IsReadonlyFile place.standing
IsProtected Straight = ⊥
IsProtected StandardOutput = ⊥
IsProtected Nowhere = ⊥

-- nothing is made yet of a file that is to take the place of a protected one, and no call of it failed
abbrev pub IsKept : {H File Units Names : Type 0} → Output H File Units Names → Type 0
IsKept Nothing = ⊥
IsKept (Aside file) = IsProtected file.target.now × (file.made ≡ None) × (file.failure ≡ None)
IsKept (Held file) = ⊥
