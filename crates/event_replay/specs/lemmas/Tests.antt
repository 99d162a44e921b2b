-- What a test of two tests means.
use Rattle.std.specs.Prelude.{Bool, true, false, ◌&&◌, IsTrue, refl}

pub first_test : (a b : Bool) → IsTrue (a && b) → IsTrue a
first_test true b holds = refl
first_test false b holds = holds
