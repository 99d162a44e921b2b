-- What the readers of programs answer.
use Rattle.std.specs.Prelude.{◌≡◌, ◌<◌, ◌≤◌, ℕ, List, [], ◌∷◌, ◌++◌, decimal, length}
use Rattle.apple_text.specs.Shown.{Text}
use Rattle.integer_basic.specs.declared.items.Item as items
use Rattle.integer_basic.specs.declared.items.Item.TheVariants as kinds
use Rattle.integer_basic.specs.Items.{IsShown, Item, characters, remark_text, string_text}
use Rattle.integer_basic.specs.Program.{line_bytes, line_text}

-- an item as it is shown
abbrev pub item_text : items.Item → Text
item_text (kinds.Quoted inside) = string_text inside.now
item_text (kinds.Remark inside) = remark_text inside.now
item_text (kinds.Number number) = decimal number
item_text (kinds.Name name) = characters name.now
item_text (kinds.Word word) = word.now

-- an item, as it is read, and what is left behind it
abbrev pub item_view : items.Item → List ℕ → Item
item_view item rest = record { text = item_text item; rest = rest }

-- the bytes begin with a line of this number and body, and the rest stands behind it
pub record IsFirst (bytes : List ℕ) (number : ℕ) (body rest : List ℕ) : Type 0 where
  pub small : number < 65536
  pub short : length body ≤ 251
  pub split : bytes ≡ line_bytes number body ++ rest

abbrev pub HasNoLine : List ℕ → Type 0
HasNoLine bytes = (number : ℕ) (body rest : List ℕ) → ¬ IsFirst bytes number body rest

-- what the body is shown as was put behind the text
pub record IsPut (before : Text) (body : List ℕ) (after : Text) : Type 0 where
  pub text : Text
  pub shown : IsShown body text
  pub after_is : after ≡ before ++ text

-- a line of this number and body, and a newline, were put behind the text
pub record IsLinePut (before : Text) (number : ℕ) (body : List ℕ) (after : Text) : Type 0 where
  pub text : Text
  pub shown : IsShown body text
  pub after_is : after ≡ before ++ (line_text number text ++ 10 ∷ [])
