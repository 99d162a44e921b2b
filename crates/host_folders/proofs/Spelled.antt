-- How a text spells the bytes of a name: each as a character, as an escape, or as two escapes.
use Rattle.std.proofs.Common.{◌≡◌, ◌≢◌, ℕ, ◌+◌, ◌-◌, ◌<◌, ◌≤◌, true, false, List, [], ◌∷◌, ◌++◌, arith, refl, sym, ap, subst, inl, inr, map}
use Rattle.std.specs.Prelude.{⊤, flat_map}
use Rattle.std.specs.List.{AllByRecursion}
use Rattle.std.proofs.lemmas.Grind.{common_steps}
use Rattle.std.proofs.lemmas.Bool.{cases_lt, cases_Bool}
use Rattle.vol_layout.specs.declared.form.PlaceForm.{PlaceForm}
use Rattle.vol_layout.specs.declared.form.PlaceForm.TheVariants.{Sector, Block}
use Rattle.host_folders.specs.HostNames.{block_piece, character_byte, escape, escape_byte, high_piece, is_plain, is_printed, piece, sector_piece}

-- an escape is a byte by itself
abbrev pub IsAlone : PlaceForm → ℕ → Type 0
IsAlone Sector n = n ≢ 127
IsAlone Block n = ⊤

pub data Spells (form : PlaceForm) : List ℕ → List ℕ → Type 0 where
  none : Spells form [] []
  stands : (c : ℕ) (bytes text : List ℕ) → is_plain c ≡ true → Spells form bytes text
      → Spells form (character_byte form c ∷ bytes) (c ∷ text)
  escaped : (n : ℕ) (bytes text : List ℕ) → n < 256 → IsAlone form n → Spells form bytes text
      → Spells form (escape_byte form n ∷ bytes) (escape n ++ text)
  marked : (b : ℕ) (bytes text : List ℕ) → form ≡ Sector → 32 ≤ b → b < 128 → Spells form bytes text
      → Spells form (b ∷ bytes) (escape 127 ++ (escape b ++ text))

-- ---- characters

pub printed_range : (c : ℕ) → is_printed c ≡ true → (32 ≤ c) × (c < 127)
printed_range c h = grind (arith, common_steps)

pub plain_printed : (c : ℕ) → is_plain c ≡ true → is_printed c ≡ true
plain_printed c h = grind (arith, common_steps)

pub plain_no_percent : (c : ℕ) → is_plain c ≡ true → c ≢ 37
plain_no_percent c h e = grind (arith, common_steps)

unprinted_low : (c : ℕ) → c < 32 → is_printed c ≡ false
unprinted_low c h = grind arith

unprinted_high : (c : ℕ) → 127 ≤ c → is_printed c ≡ false
unprinted_high c h = grind arith

pub escape_byte_unprinted : (n : ℕ) → is_printed n ≡ false → escape_byte Sector n ≡ n
escape_byte_unprinted n h = rw (h) refl

pub escape_byte_printed : (n : ℕ) → is_printed n ≡ true → escape_byte Sector n ≡ 128 + n
escape_byte_printed n h = rw (h) refl

-- ---- the pieces of a name

low_is : (b : ℕ) → b < 32 → sector_piece b ≡ escape b
low_is b h = grind arith

inverse_is : (b : ℕ) → 32 ≤ b → b < 128 → sector_piece b ≡ escape 127 ++ escape b
inverse_is b h k = grind arith

high_is : (b : ℕ) → 128 ≤ b → sector_piece b ≡ high_piece (b - 128)
high_is b h = grind arith

plain_is : (c : ℕ) → is_plain c ≡ true → high_piece c ≡ c ∷ []
plain_is c h = grind (arith, common_steps)

printed_is : (c : ℕ) → is_plain c ≡ false → is_printed c ≡ true → high_piece c ≡ escape c
printed_is c h k = rw (h) (rw (k) refl)

control_is : (c : ℕ) → is_plain c ≡ false → is_printed c ≡ false → high_piece c ≡ escape (128 + c)
control_is c h k = rw (h) (rw (k) refl)

module _ (form : PlaceForm) where
  pub as_byte : (b d : ℕ) (bytes text : List ℕ) → d ≡ b → Spells form (d ∷ bytes) text → Spells form (b ∷ bytes) text
  as_byte b d bytes text e h = subst (λ (x : ℕ). Spells form (x ∷ bytes) text) e h

  pub as_text : (bytes text other : List ℕ) → text ≡ other → Spells form bytes text → Spells form bytes other
  as_text bytes text other e h = subst (Spells form bytes) e h

spelled_high : (c : ℕ) (bytes text : List ℕ) → c < 128 → Spells Sector bytes text
    → Spells Sector ((128 + c) ∷ bytes) (high_piece c ++ text)
spelled_high c bytes text h s = elim (cases_Bool (is_plain c)) [
  | inl good ↦ as_text Sector _ _ _ (ap (λ (t : List ℕ). t ++ text) (sym (plain_is c good)))
      (stands c bytes text good s)
  | inr bad ↦ elim (cases_Bool (is_printed c)) [
    | inl seen ↦ let p = printed_range c seen in
        as_text Sector _ _ _ (ap (λ (t : List ℕ). t ++ text) (sym (printed_is c bad seen)))
        (as_byte Sector _ _ _ _ (escape_byte_printed c seen)
        (escaped c bytes text (omega arith) (λ e. omega (arith, p.1)) s))
    | inr not_seen ↦ let big : is_printed (128 + c) ≡ false = unprinted_high (128 + c) (omega arith) in
        as_text Sector _ _ _ (ap (λ (t : List ℕ). t ++ text) (sym (control_is c bad not_seen)))
        (as_byte Sector _ _ _ _ (escape_byte_unprinted (128 + c) big)
        (escaped (128 + c) bytes text (omega arith) (λ e. omega arith) s))
  ]
]

spelled_low : (b : ℕ) (bytes text : List ℕ) → b < 128 → Spells Sector bytes text
    → Spells Sector (b ∷ bytes) (sector_piece b ++ text)
spelled_low b bytes text h s = elim (cases_lt b 32) [
  | inl less ↦ as_text Sector _ _ _ (ap (λ (t : List ℕ). t ++ text) (sym (low_is b less)))
      (as_byte Sector _ _ _ _ (escape_byte_unprinted b (unprinted_low b less))
      (escaped b bytes text (omega arith) (λ e. omega arith) s))
  | inr more ↦ as_text Sector _ _ _ (ap (λ (t : List ℕ). t ++ text) (sym (inverse_is b more h)))
      (marked b bytes text refl more h s)
]

spelled_sector : (b : ℕ) (bytes text : List ℕ) → b < 256 → Spells Sector bytes text
    → Spells Sector (b ∷ bytes) (sector_piece b ++ text)
spelled_sector b bytes text h s = elim (cases_lt b 128) [
  | inl low ↦ spelled_low b bytes text low s
  | inr high ↦ let sum : 128 + (b - 128) ≡ b = omega arith in
      as_text Sector _ _ _ (ap (λ (t : List ℕ). t ++ text) (sym (high_is b high)))
      (as_byte Sector _ _ _ _ sum (spelled_high (b - 128) bytes text (omega arith) s))
]

block_plain : (b : ℕ) → is_plain b ≡ true → block_piece b ≡ b ∷ []
block_plain b h = rw (h) refl

block_escape : (b : ℕ) → is_plain b ≡ false → block_piece b ≡ escape b
block_escape b h = rw (h) refl

spelled_block : (b : ℕ) (bytes text : List ℕ) → b < 256 → Spells Block bytes text
    → Spells Block (b ∷ bytes) (block_piece b ++ text)
spelled_block b bytes text h s = elim (cases_Bool (is_plain b)) [
  | inl good ↦ as_text Block _ _ _ (ap (λ (t : List ℕ). t ++ text) (sym (block_plain b good)))
      (stands b bytes text good s)
  | inr bad ↦ as_text Block _ _ _ (ap (λ (t : List ℕ). t ++ text) (sym (block_escape b bad)))
      (escaped b bytes text h tt s)
]

spelled_piece : (form : PlaceForm) (b : ℕ) (bytes text : List ℕ) → b < 256 → Spells form bytes text
    → Spells form (b ∷ bytes) (piece form b ++ text)
spelled_piece Sector = spelled_sector
spelled_piece Block = spelled_block

-- a stem spells its name
pub spelled_name : (form : PlaceForm) (bytes : List ℕ) → AllByRecursion (λ b. b < 256) bytes
    → Spells form bytes (flat_map (piece form) bytes)
spelled_name form [] h = none
spelled_name form (b ∷ bytes) h = spelled_piece form b bytes _ h.0 (spelled_name form bytes h.1)

-- characters that are plain spell themselves
pub spelled_plain : (form : PlaceForm) (text : List ℕ) → AllByRecursion (λ c. is_plain c ≡ true) text
    → Spells form (map (character_byte form) text) text
spelled_plain form [] h = none
spelled_plain form (c ∷ text) h = stands c _ text h.0 (spelled_plain form text h.1)

pub spelled_append : (form : PlaceForm) (bytes text more end : List ℕ) → Spells form bytes text → Spells form more end
    → Spells form (bytes ++ more) (text ++ end)
spelled_append form _ _ more end none t = t
spelled_append form _ _ more end (stands c bytes text h s) t =
    stands c _ _ h (spelled_append form bytes text more end s t)
spelled_append form _ _ more end (escaped n bytes text h k s) t =
    escaped n _ _ h k (spelled_append form bytes text more end s t)
spelled_append form _ _ more end (marked b bytes text e h k s) t =
    marked b _ _ e h k (spelled_append form bytes text more end s t)
