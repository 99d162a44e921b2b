-- A command's name and its rows, there or not.
use Rattle.std.proofs.Common.{◌≡◌, refl, true, List, Option, Some, None, is_some, option_map}
use Rattle.clap.specs.Walk.{Row}
use Rattle.shop_words.specs.Table.{Text}

pub none_is_some : {X : Type 0} (o : Option X) → o ≡ None → is_some o ≡ true → ⊥
none_is_some None none some = cc
none_is_some (Some x) none some = cc

-- ---- a command's name and its rows

-- a name and rows that are there are a pair
abbrev pub pairs : {B : Type 0} → (B → Text) → (B → List Row) → Option B → Option (Text × List Row)
pairs {B} f g o = option_map {T = B} {U = Text × List Row} (λ b. (f b, g b)) o

pub pairs-some : {B : Type 0} (f : B → Text) (g : B → List Row) (o : Option B) (n : Text) (r : List Row) → Some n ≡ option_map f o
    → Some r ≡ option_map (λ (p : Text × List Row). p.1) (pairs f g o) → pairs f g o ≡ Some (n, r)
pairs-some f g None n r name rows = cc
pairs-some f g (Some b) n r name rows =
    let same_name : f b ≡ n = cc in
    let same_rows : g b ≡ r = cc in
    rw (same_name, same_rows) refl

pub pairs-none : {B : Type 0} (f : B → Text) (g : B → List Row) (o : Option B) → None ≡ option_map f o → pairs f g o ≡ None
pairs-none f g None name = refl
pairs-none f g (Some b) name = cc

pub mapped_twice : {X Y Z : Type 0} (g : Y → Z) (f : X → Y) (o : Option X) → option_map (λ x. g (f x)) o ≡ option_map g (option_map f o)
mapped_twice g f None = refl
mapped_twice g f (Some x) = refl
