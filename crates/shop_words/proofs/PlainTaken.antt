-- Clap takes each plain list of a form that it knows, and finds the list's rows.
use Rattle.std.proofs.Common.{◌≡◌, ◌∙◌, sym, ap, refl, true, List, [], ◌∷◌, ◌++◌, Some, fold, append_assoc, option_map}
use Rattle.std.proofs.lemmas.Bool.{and_from}
use Rattle.std.proofs.lemmas.List.{append-nil}
use Rattle.clap.specs.Walk.{Names, Row, Rule, Text, Walk, finished, nothing_held, stop_after, walk_from, walked, with_default}
use Rattle.clap.specs.Simple.{Shape, built, entered, is_simple, matches_of, rows_at, subcommand_of}
use Rattle.clap.specs.Takes.{takes, walk_passes}
use Rattle.shop_words.specs.Grammar.{shop}
use Rattle.shop_words.specs.Table.{FormView, forms}
use Rattle.shop_words.specs.Plain.{Use, all_use_words, IsPlainLine, line_words, positional_names}
use Rattle.shop_words.proofs.PlainUses.{use_rows}
use Rattle.shop_words.proofs.PlainLine.{positional_rows, rows_after-line}
use Rattle.shop_words.proofs.PlainForms.{IsKnown, line_passes, line_walks, shape_named, stopped_at, top_names, top_rules}
use Rattle.shop_words.proofs.Shop.{is_simple-shop, whole}

is_simple-whole : is_simple whole ≡ true
unfolding shop
is_simple-whole = is_simple-shop

-- the words after the command's name wait for the command
walked-stopped : (c : List Rule) (names : Names) (name : Text) (so_far words : List Text)
    → fold (walked c names) (stopped_at name so_far) words ≡ stopped_at name (so_far ++ words)
unfolding walked
walked-stopped c names name so_far [] = ap (stopped_at name) (sym (append-nil so_far))
walked-stopped c names name so_far (w ∷ ws) =
    walked-stopped c names name (so_far ++ w ∷ []) ws ∙ ap (stopped_at name) (append_assoc so_far (w ∷ []) ws)

walk_passes-stopped : (s : Shape) (names : Names) (name : Text) (so_far words : List Text)
    → walk_passes s names (stopped_at name so_far) words ≡ true
unfolding walk_passes walked
walk_passes-stopped s names name so_far [] = refl
walk_passes-stopped s names name so_far (w ∷ ws) = walk_passes-stopped s names name (so_far ++ w ∷ []) ws

walked-line : (f : FormView) (s : Shape) (words : List Text) → IsKnown f s
    → fold (walked top_rules top_names) (walk_from nothing_held) (f.name ∷ words) ≡ stopped_at f.name words
walked-line f s words known =
    ap (λ (w : Walk). fold (walked top_rules top_names) w words) known.met ∙ walked-stopped top_rules top_names f.name [] words

walk_passes-line : (f : FormView) (s : Shape) (words : List Text) → IsKnown f s
    → walk_passes (built whole).top top_names (walk_from nothing_held) (f.name ∷ words) ≡ true
unfolding walk_passes
walk_passes-line f s words known =
    and_from _ _ known.first (rw known.met (walk_passes-stopped (built whole).top top_names f.name [] words))

pub takes-line : (f : FormView) (s : Shape) (positionals : List Text) (uses : List Use) → IsKnown f s → IsPlainLine f positionals uses
    → takes whole (line_words f positionals uses) ≡ true
unfolding forms
takes-line f s positionals uses known plain =
    let words = positionals ++ all_use_words uses in
    and_from _ _ is_simple-whole
    (rw (walked-line f s words known, known.named)
    (and_from _ _ (line_passes f s positionals uses known plain) (and_from _ _ (walk_passes-line f s words known) refl)))

-- the rows of a plain list, with the defaults
abbrev pub finished_rows : FormView → List Text → List Use → List Row
finished_rows f positionals uses =
    fold with_default (positional_rows (positional_names f) positionals ++ use_rows uses) (shape_named f.name).rules

pub subcommand_of-line : (f : FormView) (positionals : List Text) (uses : List Use) → IsKnown f (shape_named f.name) → IsPlainLine f positionals uses
    → subcommand_of whole (line_words f positionals uses) ≡ Some ((shape_named f.name).name, finished_rows f positionals uses)
subcommand_of-line f positionals uses known plain =
    let s = shape_named f.name in
    let words = positionals ++ all_use_words uses in
    let rows = rows_after-line s words (positional_rows (positional_names f) positionals ++ use_rows uses) (line_walks f s positionals uses known plain) in
    let stop : stop_after top_rules top_names (f.name ∷ words) ≡ Some (f.name, words) = ap (λ (w : Walk). w.stopped) (walked-line f s words known) in
    ap (entered (built whole)) stop ∙ ap (option_map (λ (x : Shape). rows_at x words)) known.named ∙ ap (λ (r : List Row). Some (s.name, r)) rows

-- the rows of the program itself before a command's name
abbrev pub top_rows : List Row
top_rows = finished top_rules nothing_held

pub matches_of-line : (f : FormView) (positionals : List Text) (uses : List Use) → IsKnown f (shape_named f.name)
    → matches_of whole (line_words f positionals uses) ≡ top_rows
matches_of-line f positionals uses known =
    ap (λ (w : Walk). finished top_rules w.held) (walked-line f (shape_named f.name) (positionals ++ all_use_words uses) known)
