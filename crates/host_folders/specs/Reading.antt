-- What the readers of names answer.
use Rattle.std.specs.Prelude.{◌≡◌, ◌≢◌, ◌⊎◌, ℕ, ◌<◌, ◌≤◌, All, IsTrue, List, [], ◌∷◌, ◌++◌, length, codes}
use Rattle.std.specs.List.{list_all}
use Rattle.std.specs.Char.{is_ascii_alphanumeric}
use Rattle.vol_layout.specs.declared.form.PlaceForm.{PlaceForm}
use Rattle.vol_layout.specs.declared.form.PlaceForm.TheVariants.{Sector}
use Rattle.host_folders.specs.HostNames.{character_byte, escape_byte, is_plain}
use Rattle.host_folders.specs.declared.said_tail.Tail.{Tail}
use Rattle.host_folders.specs.HostEntries.{IsHexadecimal, IsNumbering, SaysTail, is_escape}

-- the rest stands behind a plain character, or behind two percent signs
abbrev pub BeginsWithCharacter : List ℕ → ℕ → List ℕ → Type 0
BeginsWithCharacter text c rest =
    (IsTrue (is_plain c) × (text ≡ c ∷ rest)) ⊎ ((c ≡ 37) × (text ≡ 37 ∷ 37 ∷ rest))

-- the rest stands behind the two digits of a number
pub record BeginsWithNumber (text : List ℕ) (n : ℕ) (rest : List ℕ) : Type 0 where
  pub high : ℕ
  pub low : ℕ
  pub split : text ≡ high ∷ low ∷ rest
  pub number : IsHexadecimal 2 (high ∷ low ∷ []) n

-- the rest stands behind `%` and the two digits of a number
pub record BeginsWithEscape (text : List ℕ) (n : ℕ) (rest : List ℕ) : Type 0 where
  pub behind : List ℕ
  pub split : text ≡ 37 ∷ behind
  pub number : BeginsWithNumber behind n rest

-- the rest stands behind the escape that follows `%7f`
pub record BeginsWithMarked (text : List ℕ) (byte : ℕ) (rest : List ℕ) : Type 0 where
  pub escape : BeginsWithEscape text byte rest
  pub seen : 0x20 ≤ byte
  pub low : byte < 0x80

-- the rest stands behind an escape, or behind two, that say a byte
abbrev pub BeginsWithEscaped : PlaceForm → List ℕ → ℕ → List ℕ → Type 0
BeginsWithEscaped form text byte rest =
    ((n : ℕ) × BeginsWithEscape text n rest × IsTrue (is_escape form n) × (byte ≡ escape_byte form n))
    ⊎ ((marked : List ℕ) × (form ≡ Sector) × BeginsWithEscape text 0x7f marked × BeginsWithMarked marked byte rest)

-- the rest stands behind a piece that says a byte
abbrev pub BeginsWith : PlaceForm → List ℕ → ℕ → List ℕ → Type 0
BeginsWith form text byte rest =
    ((c : ℕ) × BeginsWithCharacter text c rest × (byte ≡ character_byte form c))
    ⊎ BeginsWithEscaped form text byte rest

-- a text without `~`, behind which there is a number or nothing
pub record IsBeforeNumber (text front : List ℕ) : Type 0 where
  pub number : List ℕ
  pub split : text ≡ front ++ number
  pub numbering : IsNumbering number
  pub lacks : All (λ c. c ≢ 126) front

-- the texts before and behind the last `#`
pub record IsAroundHash (text front tail : List ℕ) : Type 0 where
  pub split : text ≡ front ++ (codes "#" ++ tail)
  pub lacks : All (λ c. c ≢ 35) tail

-- a word of one to three letters or digits
pub record IsShortWord (text : List ℕ) : Type 0 where
  pub some : 1 ≤ length text
  pub most : length text ≤ 3
  pub allowed : IsTrue (list_all is_ascii_alphanumeric text)

-- a type, an aux type and what the bytes are, as a tail says them
abbrev pub IsTail : List ℕ → Tail → Type 0
IsTail text t = SaysTail text t.file_type t.aux_type t.content
