-- What clap's walk makes of all flags and options of a plain list.
use Rattle.std.proofs.Common.{◌≡◌, ◌∙◌, ℕ, ap, refl, Bool, true, false, List, [], ◌∷◌, ◌++◌, Some, None, ◌==◌, fold, map, append_assoc, codes}
use Rattle.std.proofs.lemmas.Bool.{and_from, not-true, or_parts}
use Rattle.std.proofs.lemmas.List.{append-nil}
use Rattle.std.specs.Str.{bytes_eq}
use Rattle.clap.specs.Walk.{Held, Row, Text, at_row, has_row, more_values, reacted, settled, settled_rows, walked, used, without}
use Rattle.clap.specs.Simple.{Shape}
use Rattle.clap.specs.Takes.{settle_passes, use_passes, walk_passes}
use Rattle.clap.specs.declared.parser.matches.ValueSource.TheVariants.{CommandLine}
use Rattle.clap.specs.declared.builder.value_parser.Reading.TheVariants as reading
use Rattle.shop_words.specs.Plain.{Use, alone, valued, all_use_words, is_plain_word}
use Rattle.shop_words.proofs.PlainWalk.{standing, positional_built, needed_built, flag_built, HasOption, HasFlag, walked-option, walked-value, walked-flag, turn_passes-option, turn_passes-value, turn_passes-flag}

abbrev pub text_row : Text → Text → Row
text_row name value = record { id = name; values = value ∷ []; count = None; source = Some CommandLine; reading = reading.AsWritten }

abbrev pub use_row : Use → Row
use_row (alone name) = text_row name (codes "true")
use_row (valued name value) = text_row name value

pub at_row-missing : (id : Text) (change : Row → List Row) (missing rows : List Row) → has_row id rows ≡ false
    → at_row id change missing rows ≡ rows ++ missing
at_row-missing id change missing [] e = refl
at_row-missing id change missing (r ∷ rs) e =
    let parts = or_parts (bytes_eq r.id id) (has_row id rs) e in
    rw parts.0 (ap (λ (more : List Row). r ∷ more) (at_row-missing id change missing rs parts.1))

without-missing : (id : Text) (rows : List Row) → has_row id rows ≡ false → without id rows ≡ rows
without-missing id rows e = at_row-missing id (λ _. []) [] rows e ∙ append-nil rows

pub used-positional : (i : ℕ) (name value : Text) (rows : List Row) → has_row name rows ≡ false
    → used (positional_built i name) (value ∷ []) rows ≡ rows ++ text_row name value ∷ []
used-positional i name value rows e = rw (without-missing name rows e) (at_row-missing name (more_values CommandLine (value ∷ [])) _ rows e)

pub used-option : (required : Bool) (name value : Text) (rows : List Row) → has_row name rows ≡ false
    → used (needed_built required name) (value ∷ []) rows ≡ rows ++ text_row name value ∷ []
used-option required name value rows e = rw (without-missing name rows e) (at_row-missing name (more_values CommandLine (value ∷ [])) _ rows e)

pub used-flag : (name : Text) (rows : List Row) → has_row name rows ≡ false
    → used (flag_built name) [] rows ≡ rows ++ text_row name (codes "true") ∷ []
used-flag name rows e = rw (without-missing name rows e) (at_row-missing name (more_values CommandLine (codes "true" ∷ [])) _ rows e)

-- the rows that are there once the pending argument is used, which it may be
pub record At (s : Shape) (rows : List Row) (h : Held) : Type 0 where
  pub rows_are : settled_rows s.rules h.pending h.rows ≡ rows
  pub passes : settle_passes s.rules s.args_override_self h ≡ true

-- the rule takes the use, which is the first of its name
abbrev pub FitsUse : Shape → List Row → Use → Type 0
FitsUse s rows (alone name) = HasFlag s.rules name × (has_row name rows ≡ false)
FitsUse s rows (valued name value) =
    ((required : Bool) × HasOption s.rules required name) × (has_row name rows ≡ false) × (is_plain_word value ≡ true)

abbrev pub FitUses : Shape → List Row → List Use → Type 0
FitUses s rows [] = Unit {0}
FitUses s rows (u ∷ us) = FitsUse s rows u × FitUses s (rows ++ use_row u ∷ []) us

abbrev pub use_rows : List Use → List Row
use_rows = map use_row

-- what the words come to
pub record Walks (s : Shape) (i : ℕ) (h : Held) (words : List Text) (rows : List Row) : Type 0 where
  pub position : ℕ
  pub after : Held
  pub walks : fold (walked s.rules []) (standing i h) words ≡ standing position after
  pub at : At s rows after
  pub passes : walk_passes s [] (standing i h) words ≡ true

flag_at : (s : Shape) (rows : List Row) (h : Held) (name : Text) → At s rows h → has_row name rows ≡ false
    → At s (rows ++ text_row name (codes "true") ∷ []) (reacted s.rules (flag_built name) [] h)
flag_at s rows h name at new = record {
  rows_are = ap (used (flag_built name) []) at.rows_are ∙ used-flag name rows new;
  passes = refl;
}

option_at : (s : Shape) (required : Bool) (rows : List Row) (h : Held) (name value : Text) → At s rows h
    → HasOption s.rules required name → has_row name rows ≡ false
    → At s (rows ++ text_row name value ∷ []) (record (settled s.rules h) { pending = Some (name, value ∷ []) })
option_at s required rows h name value at has new = record {
  rows_are = rw has.by_id (ap (used (needed_built required name) (value ∷ [])) at.rows_are ∙ used-option required name value rows new);
  passes = rw (has.by_id, at.rows_are, new) refl;
}

pub walks_uses : (s : Shape) (i : ℕ) (uses : List Use) (rows : List Row) (h : Held) → At s rows h → FitUses s rows uses
    → Walks s i h (all_use_words uses) (rows ++ use_rows uses)
unfolding walk_passes
walks_uses s i [] rows h at fit = record { position = i; after = h; walks = refl; at = rw append-nil at; passes = refl }
walks_uses s i (alone name ∷ us) rows h at fit =
    let has = fit.0.0 in
    let now = reacted s.rules (flag_built name) [] h in
    let rest = walks_uses s i us (rows ++ use_row (alone name) ∷ []) now (flag_at s rows h name at fit.0.1) fit.1 in
    let uses : use_passes s.args_override_self (flag_built name) [] (settled s.rules h).rows ≡ true = rw (at.rows_are, fit.0.1) refl in
    record {
      position = rest.position;
      after = rest.after;
      walks = rw (walked-flag s name i h has) rest.walks;
      at = rw append_assoc at rest.at;
      passes = and_from _ _ (turn_passes-flag s name i h has at.passes uses) (rw (walked-flag s name i h has) rest.passes);
    }
walks_uses s i (valued name [] ∷ us) rows h at fit = cc
walks_uses s i (valued name (x ∷ xs) ∷ us) rows h at fit =
    let required = fit.0.0.0 in
    let has = fit.0.0.1 in
    let held = settled s.rules h in
    let plain = not-true (x == 45) fit.0.2 in
    let now = record held { pending = Some (name, (x ∷ xs) ∷ []) } in
    let rest = walks_uses s i us (rows ++ use_row (valued name (x ∷ xs)) ∷ []) now (option_at s required rows h name (x ∷ xs) at has fit.0.1) fit.1 in
    record {
      position = rest.position;
      after = rest.after;
      walks = rw (walked-option s required name i h has, walked-value s required name i held x xs has plain) rest.walks;
      at = rw append_assoc at rest.at;
      passes = and_from _ _ (turn_passes-option s required name i h has at.passes)
          (rw (walked-option s required name i h has)
          (and_from _ _ (turn_passes-value s required name i (record held { pending = Some (name, []) }) x xs has plain)
          (rw (walked-value s required name i held x xs has plain) rest.passes)));
    }
