-- The words of the bytes $00 to $7F of a line, in order. (The tokens of Integer BASIC, as the listing routine of its
-- ROM shows them; Apple II Reference Manual.)
use Rattle.std.specs.Prelude.{ℕ, ◌-◌, ◌&&◌, not, Bool, if◌then◌else◌, List, [], ◌∷◌, ◌++◌, bytes_eq, codes, length, map, slice_index, slice_index_or}
use Rattle.std.specs.Char.{is_ascii_uppercase}
use Rattle.std.specs.List.{list_any}
use Rattle.apple_text.specs.Shown.{Text}

-- what stands in the table for a byte that is used inside the machine alone, or of whose word there are two accounts
abbrev pub no_word : Text
no_word = []

abbrev pub words : List Text
words =
    no_word ∷ no_word ∷ no_word ∷ codes ":" ∷ codes "LOAD" ∷ codes "SAVE" ∷ codes "CON" ∷ codes "RUN" ∷
    codes "RUN" ∷ codes "DEL" ∷ codes "," ∷ codes "NEW" ∷ codes "CLR" ∷ codes "AUTO" ∷ codes "," ∷ codes "MAN" ∷
    codes "HIMEM:" ∷ codes "LOMEM:" ∷ codes "+" ∷ codes "-" ∷ codes "*" ∷ codes "/" ∷ codes "=" ∷ codes "#" ∷
    codes ">=" ∷ codes ">" ∷ codes "<=" ∷ codes "<>" ∷ codes "<" ∷ codes "AND" ∷ codes "OR" ∷ codes "MOD" ∷
    codes "^" ∷ no_word ∷ codes "(" ∷ codes "," ∷ codes "THEN" ∷ codes "THEN" ∷ codes "," ∷ codes "," ∷
    codes "\"" ∷ codes "\"" ∷ codes "(" ∷ no_word ∷ no_word ∷ codes "(" ∷ codes "PEEK" ∷ codes "RND" ∷
    codes "SGN" ∷ codes "ABS" ∷ codes "PDL" ∷ no_word ∷ codes "(" ∷ codes "+" ∷ codes "-" ∷ codes "NOT" ∷
    codes "(" ∷ codes "=" ∷ codes "#" ∷ codes "LEN(" ∷ codes "ASC(" ∷ codes "SCRN(" ∷ codes "," ∷ codes "(" ∷
    codes "$" ∷ codes "$" ∷ codes "(" ∷ codes "," ∷ codes "," ∷ codes ";" ∷ codes ";" ∷ codes ";" ∷
    codes "," ∷ codes "," ∷ codes "," ∷ codes "TEXT" ∷ codes "GR" ∷ codes "CALL" ∷ codes "DIM" ∷ codes "DIM" ∷
    codes "TAB" ∷ codes "END" ∷ codes "INPUT" ∷ codes "INPUT" ∷ codes "INPUT" ∷ codes "FOR" ∷ codes "=" ∷ codes "TO" ∷
    codes "STEP" ∷ codes "NEXT" ∷ codes "," ∷ codes "RETURN" ∷ codes "GOSUB" ∷ codes "REM" ∷ codes "LET" ∷
    codes "GOTO" ∷ codes "IF" ∷ codes "PRINT" ∷ codes "PRINT" ∷ codes "PRINT" ∷ codes "POKE" ∷ codes "," ∷
    codes "COLOR=" ∷ codes "PLOT" ∷ codes "," ∷ codes "HLIN" ∷ codes "," ∷ codes "AT" ∷ codes "VLIN" ∷ codes "," ∷
    codes "AT" ∷ codes "VTAB" ∷ codes "=" ∷ codes "=" ∷ codes ")" ∷ codes ")" ∷ codes "LIST" ∷ codes "," ∷
    codes "LIST" ∷ codes "POP" ∷ codes "NODSP" ∷ codes "NODSP" ∷ codes "NOTRACE" ∷ codes "DSP" ∷ codes "DSP" ∷
    codes "TRACE" ∷ codes "PR#" ∷ codes "IN#" ∷ []

-- ---- spaces

-- the words that have a space before them
abbrev pub words_apart : List Text
words_apart =
    codes "AND" ∷ codes "OR" ∷ codes "MOD" ∷ codes "THEN" ∷ codes "TO" ∷ codes "STEP" ∷ codes "AT" ∷ []

abbrev pub stands_apart : Text → Bool
stands_apart word = list_any (bytes_eq word) words_apart

-- a word that ends with a letter, and not with (, :, = or #, has a space behind it, but END has none
abbrev pub ends_apart : Text → Bool
ends_apart word = is_ascii_uppercase (slice_index word (length word - 1)) && not (bytes_eq word (codes "END"))

-- a word with its spaces
abbrev pub spaced : Text → Text
spaced word =
    (if stands_apart word then 32 ∷ [] else []) ++ word ++ (if ends_apart word then 32 ∷ [] else [])

-- the word of a byte, with its spaces; nothing where it has none
unfoldable pub word_text : ℕ → Text
word_text byte = slice_index_or (map spaced words) byte no_word
