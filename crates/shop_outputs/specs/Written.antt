-- The files that a job writes.
use Rattle.std.specs.Prelude.{◌≡◌, ◌≢◌, ◌⊎◌, ℕ, Bool, true, false, List, [], Option, Some, None, if◌then◌else◌}
use Rattle.std.specs.Io.KnownBytes.{Appends}
use Rattle.std.specs.declared.io.ErrorKind.{ErrorKind}
use Rattle.shop_outputs.specs.declared.target.Target.{Target}
use Rattle.shop_outputs.specs.declared.target.Target.TheVariants.{Straight, StandardOutput}
use Rattle.shop_outputs.specs.declared.aside.Placing.{Placing}
use Rattle.shop_outputs.specs.declared.output.HeldFile.{HeldFile}
use Rattle.shop_outputs.specs.declared.output.Output.{Output}
use Rattle.shop_outputs.specs.declared.output.Output.TheVariants.{Nothing, Aside, Held}

-- nothing was to be written to it, and no call of it failed
abbrev pub IsUntouched : {H File Units Names : Type 0} → Output H File Units Names → Type 0
IsUntouched Nothing = Unit {0}
IsUntouched (Aside file) = (file.made ≡ None) × (file.failure ≡ None)
IsUntouched (Held file) = (file.bytes.items ≡ []) × (file.failure ≡ None)

-- why a call of it failed, if one has
abbrev pub failure_of : {H File Units Names : Type 0} → Output H File Units Names → Option ErrorKind
failure_of Nothing = None
failure_of (Aside file) = file.failure
failure_of (Held file) = file.failure

-- the bytes that are held for a path that is written straight
abbrev pub held_bytes : {H File Units Names : Type 0} → Output H File Units Names → Option (List ℕ)
held_bytes Nothing = None
held_bytes (Aside file) = None
held_bytes (Held file) = Some file.bytes.items

-- no call of it had failed, and these bytes were written behind what it held; or no file is asked for
abbrev pub HasPut :
    {H File Units Names : Type 0} → List ℕ → Output H File Units Names → Output H File Units Names → Type 0
HasPut bytes old new = ((failure_of old ≡ None) × Appends (held_bytes old) (held_bytes new) bytes) ⊎ (new ≡ Nothing)

-- its path is written straight, before the text is told
abbrev pub IsStraight : {H File Units Names : Type 0} → Output H File Units Names → Type 0
IsStraight Nothing = ⊥
IsStraight (Aside file) = ⊥
IsStraight (Held file) = file.follows_text ≡ false

-- what is held once all is flushed: on standard output what was, since it follows the text, and of another path nothing
abbrev pub still_held : HeldFile → List ℕ
still_held file = if file.follows_text then file.bytes.items else []

-- No call of it had failed, and none has: what was written aside stays as it is, and what was held was written, but for
-- what follows the text.
abbrev pub IsFlushed : {H File Units Names : Type 0} → Output H File Units Names → Output H File Units Names → Type 0
IsFlushed Nothing new = new ≡ Nothing
IsFlushed (Aside file) new = (file.failure ≡ None) × (new ≡ Aside file)
IsFlushed (Held file) new =
    (file.failure ≡ None) × (failure_of new ≡ None) × (held_bytes new ≡ Some (still_held file))

-- a path is written straight, and its bytes follow the text exactly where it leads to standard output
abbrev pub IsHeldFor : Target → Bool → Type 0
IsHeldFor Straight follows_text = follows_text ≡ false
IsHeldFor StandardOutput follows_text = follows_text ≡ true
IsHeldFor target follows_text = ⊥

-- It goes to a path that leads to such a target: held for the path itself where that is written straight, else aside,
-- for the target, of which it may take such a place.
abbrev pub GoesTo : {H File Units Names : Type 0} → List ℕ → Target → Placing → Output H File Units Names → Type 0
GoesTo path target placing Nothing = ⊥
GoesTo path target placing (Aside file) =
    (target ≢ Straight) × (target ≢ StandardOutput) × (file.target.now ≡ target) × (file.placing ≡ placing)
GoesTo path target placing (Held file) = IsHeldFor target file.follows_text × (file.path.now ≡ path)
