-- What clap's walk makes of one plain word, one flag and one option with its value.
use Rattle.std.proofs.Common.{◌≡◌, ℕ, ◌+◌, ap, refl, Bool, true, false, List, [], ◌∷◌, Some, None, cond, ◌==◌, ◌&&◌, min}
use Rattle.std.proofs.lemmas.Bool.{and_from, and_right, or_right}
use Rattle.std.specs.Str.{bytes_eq}
use Rattle.clap.specs.Lexer.{usize_max, long_of}
use Rattle.clap.specs.Walk.{Held, Rule, Text, Walk, idle, option, arg_by_id, arg_by_index, arg_by_long, pushed, reacted, settled, walked, is_pending, positional_held}
use Rattle.clap.specs.Simple.{Shape, filled, with_index}
use Rattle.clap.specs.Takes.{settle_passes, turn_passes, use_passes}
use Rattle.shop_words.specs.Table.{any, positional, optional, flag}
use Rattle.shop_words.specs.Grammar.{rule_by}
use Rattle.shop_words.specs.Plain.{dashed}

-- where the walk stands between two uses
abbrev pub standing : ℕ → Held → Walk
standing position h = record { held = h; waiting = idle; position = position; is_trailing = false; stopped = None }

-- the rule of a place, an option and a flag in a built command
abbrev pub positional_built : ℕ → Text → Rule
positional_built i name = with_index i (filled (rule_by positional name))

abbrev pub needed_built : Bool → Text → Rule
needed_built required name = record (filled (rule_by (optional any) name)) { required = required }

abbrev pub flag_built : Text → Rule
flag_built name = filled (rule_by flag name)

held-positional : (c : List Rule) (name : Text) (i : ℕ) (h : Held) (word : Text)
    → positional_held c (positional_built i name) word h ≡ pushed name word (settled c h)
held-positional c name i h word =
    ap (λ (b : Bool). pushed name word (cond b h (settled c h))) (and_right (is_pending (positional_built i name) h.pending) false refl)

pub walked-positional : (s : Shape) (name : Text) (i : ℕ) (h : Held) (x : ℕ) (xs : Text) → (x == 45) ≡ false
    → arg_by_index s.rules i ≡ Some (positional_built i name)
    → walked s.rules [] (standing i h) (x ∷ xs) ≡ standing (min (i + 1) usize_max) (pushed name (x ∷ xs) (settled s.rules h))
unfolding walked
walked-positional s name i h x xs plain rule =
    rw (plain, plain, rule) (ap (standing (min (i + 1) usize_max)) (held-positional s.rules name i h (x ∷ xs)))

pub turn_passes-positional : (s : Shape) (name : Text) (i : ℕ) (h : Held) (x : ℕ) (xs : Text) → (x == 45) ≡ false
    → arg_by_index s.rules i ≡ Some (positional_built i name) → settle_passes s.rules s.args_override_self h ≡ true
    → turn_passes s [] (standing i h) (x ∷ xs) ≡ true
turn_passes-positional s name i h x xs plain rule passes = rw (plain, plain, rule) (or_right (is_pending (positional_built i name) h.pending && false) _ passes)

-- `--name VALUE`, where the command has the option
pub record HasOption (c : List Rule) (required : Bool) (name : Text) : Type 0 where
  pub by_long : arg_by_long c name ≡ Some (needed_built required name)
  pub by_id : arg_by_id c name ≡ Some (needed_built required name)
  pub same : bytes_eq name name ≡ true
  pub long : long_of (dashed name) ≡ Some (name, None)
  pub dashes : bytes_eq (dashed name) (45 ∷ 45 ∷ []) ≡ false

pub record HasFlag (c : List Rule) (name : Text) : Type 0 where
  pub by_long : arg_by_long c name ≡ Some (flag_built name)
  pub long : long_of (dashed name) ≡ Some (name, None)
  pub dashes : bytes_eq (dashed name) (45 ∷ 45 ∷ []) ≡ false

pub awaiting : ℕ → Text → Held → Walk
awaiting i name h = record (standing i h) { waiting = option name }

pub walked-option : (s : Shape) (required : Bool) (name : Text) (i : ℕ) (h : Held) → HasOption s.rules required name
    → walked s.rules [] (standing i h) (dashed name) ≡ awaiting i name (record (settled s.rules h) { pending = Some (name, []) })
unfolding walked awaiting
walked-option s required name i h has = rw (has.dashes, has.long, has.by_long) refl

pub walked-value : (s : Shape) (required : Bool) (name : Text) (i : ℕ) (h : Held) (x : ℕ) (xs : Text) → HasOption s.rules required name
    → (x == 45) ≡ false
    → walked s.rules [] (awaiting i name (record h { pending = Some (name, []) })) (x ∷ xs) ≡ standing i (record h { pending = Some (name, (x ∷ xs) ∷ []) })
unfolding walked awaiting
walked-value s required name i h x xs has plain = rw (plain, plain, has.by_id, has.same) refl

pub walked-flag : (s : Shape) (name : Text) (i : ℕ) (h : Held) → HasFlag s.rules name
    → walked s.rules [] (standing i h) (dashed name) ≡ standing i (reacted s.rules (flag_built name) [] h)
unfolding walked
walked-flag s name i h has = rw (has.dashes, has.long, has.by_long) refl

pub turn_passes-option : (s : Shape) (required : Bool) (name : Text) (i : ℕ) (h : Held) → HasOption s.rules required name
    → settle_passes s.rules s.args_override_self h ≡ true → turn_passes s [] (standing i h) (dashed name) ≡ true
turn_passes-option s required name i h has passes =
    rw (has.dashes, has.long, has.by_long) (and_from _ true passes refl)

pub turn_passes-value : (s : Shape) (required : Bool) (name : Text) (i : ℕ) (h : Held) (x : ℕ) (xs : Text) → HasOption s.rules required name
    → (x == 45) ≡ false → turn_passes s [] (awaiting i name h) (x ∷ xs) ≡ true
unfolding awaiting
turn_passes-value s required name i h x xs has plain = rw (plain, plain) refl

pub turn_passes-flag : (s : Shape) (name : Text) (i : ℕ) (h : Held) → HasFlag s.rules name
    → settle_passes s.rules s.args_override_self h ≡ true
    → use_passes s.args_override_self (flag_built name) [] (settled s.rules h).rows ≡ true
    → turn_passes s [] (standing i h) (dashed name) ≡ true
turn_passes-flag s name i h has passes uses =
    rw (has.dashes, has.long, has.by_long) (and_from _ true (and_from _ _ passes uses) refl)
