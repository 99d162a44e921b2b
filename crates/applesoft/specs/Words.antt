-- The words of the tokens $80 to $EA, in order: the reserved words of the Applesoft BASIC Programmer's Reference
-- Manual.
use Rattle.std.specs.Prelude.{ℕ, List, [], ◌∷◌, codes, slice_index_or}
use Rattle.apple_text.specs.Shown.{Text}

abbrev pub words : List Text
words =
    codes "END" ∷ codes "FOR" ∷ codes "NEXT" ∷ codes "DATA" ∷ codes "INPUT" ∷ codes "DEL" ∷ codes "DIM" ∷
    codes "READ" ∷ codes "GR" ∷ codes "TEXT" ∷ codes "PR#" ∷ codes "IN#" ∷ codes "CALL" ∷ codes "PLOT" ∷
    codes "HLIN" ∷ codes "VLIN" ∷ codes "HGR2" ∷ codes "HGR" ∷ codes "HCOLOR=" ∷ codes "HPLOT" ∷
    codes "DRAW" ∷ codes "XDRAW" ∷ codes "HTAB" ∷ codes "HOME" ∷ codes "ROT=" ∷ codes "SCALE=" ∷
    codes "SHLOAD" ∷ codes "TRACE" ∷ codes "NOTRACE" ∷ codes "NORMAL" ∷ codes "INVERSE" ∷ codes "FLASH" ∷
    codes "COLOR=" ∷ codes "POP" ∷ codes "VTAB" ∷ codes "HIMEM:" ∷ codes "LOMEM:" ∷ codes "ONERR" ∷
    codes "RESUME" ∷ codes "RECALL" ∷ codes "STORE" ∷ codes "SPEED=" ∷ codes "LET" ∷ codes "GOTO" ∷
    codes "RUN" ∷ codes "IF" ∷ codes "RESTORE" ∷ codes "&" ∷ codes "GOSUB" ∷ codes "RETURN" ∷ codes "REM" ∷
    codes "STOP" ∷ codes "ON" ∷ codes "WAIT" ∷ codes "LOAD" ∷ codes "SAVE" ∷ codes "DEF" ∷ codes "POKE" ∷
    codes "PRINT" ∷ codes "CONT" ∷ codes "LIST" ∷ codes "CLEAR" ∷ codes "GET" ∷ codes "NEW" ∷ codes "TAB(" ∷
    codes "TO" ∷ codes "FN" ∷ codes "SPC(" ∷ codes "THEN" ∷ codes "AT" ∷ codes "NOT" ∷ codes "STEP" ∷
    codes "+" ∷ codes "-" ∷ codes "*" ∷ codes "/" ∷ codes "^" ∷ codes "AND" ∷ codes "OR" ∷ codes ">" ∷
    codes "=" ∷ codes "<" ∷ codes "SGN" ∷ codes "INT" ∷ codes "ABS" ∷ codes "USR" ∷ codes "FRE" ∷
    codes "SCRN(" ∷ codes "PDL" ∷ codes "POS" ∷ codes "SQR" ∷ codes "RND" ∷ codes "LOG" ∷ codes "EXP" ∷
    codes "COS" ∷ codes "SIN" ∷ codes "TAN" ∷ codes "ATN" ∷ codes "PEEK" ∷ codes "LEN" ∷ codes "STR$" ∷
    codes "VAL" ∷ codes "ASC" ∷ codes "CHR$" ∷ codes "LEFT$" ∷ codes "RIGHT$" ∷ codes "MID$" ∷ []

-- the word of a token, counted from $80
abbrev pub word_of : ℕ → Text
word_of token = slice_index_or words token []
