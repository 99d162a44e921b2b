-- What a writer that hands all on has heard.
use Rattle.std.specs.Prelude.{◌≡◌, ℕ, ◌-◌, List, ◌++◌, Option, Some, None, length, take}

-- the most bytes that are kept
abbrev pub MOST_HEARD : ℕ
MOST_HEARD = 8388608

-- these bytes are kept behind what was heard, as far as there is room for them; or there was no memory, and from then
-- on nothing is kept
abbrev pub Hears : Option (List ℕ) → Option (List ℕ) → List ℕ → Type 0
Hears (Some old) (Some new) bytes = new ≡ old ++ take (MOST_HEARD - length old) bytes
Hears None (Some new) bytes = ⊥
Hears old None bytes = Unit {0}
