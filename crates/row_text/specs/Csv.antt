-- The rows of a listing as lines of CSV.
use Rattle.std.specs.Prelude.{ℕ, ◌==◌, Bool, List, [], ◌∷◌, ◌++◌, Option, Some, None, map, flat_map, codes, decimal, if◌then◌else◌}
use Rattle.row_text.specs.Shown.{Text, shown, lower_hex}
use Rattle.row_text.specs.Row.{RowView}
use Rattle.row_text.specs.declared.row.Digested.{Digested}
use Rattle.row_text.specs.declared.row.Digested.TheVariants.{Untold, Missing, Of}

-- fields with a comma before each
abbrev pub after_commas : List Text → Text
after_commas [] = []
after_commas (field ∷ fields) = 44 ∷ (field ++ after_commas fields)

-- a line: its first field, and the others behind commas
abbrev pub csv_line : Text → List Text → Text
csv_line first fields = first ++ after_commas fields

-- what stands in quotation marks for a character
abbrev pub doubled : ℕ → Text
doubled x = if x == 34 then 34 ∷ 34 ∷ [] else x ∷ []

abbrev pub csv_quoted : Text → Text
csv_quoted text = 34 ∷ (flat_map doubled text ++ 34 ∷ [])

abbrev pub flag_word : Bool → Text
flag_word flag = if flag then codes "true" else codes "false"

abbrev pub number_or_empty : Option ℕ → Text
number_or_empty None = []
number_or_empty (Some n) = decimal n

abbrev pub text_or_empty : Option (List ℕ) → Text
text_or_empty None = []
text_or_empty (Some bytes) = map shown bytes

-- where digests are told, how many bytes the file has and their SHA-256
abbrev pub digest_fields : Digested → List Text
digest_fields Untold = []
digest_fields Missing = [] ∷ [] ∷ []
digest_fields (Of digest) = decimal digest.count ∷ lower_hex digest.sha256 ∷ []

-- the fields behind the path
abbrev pub csv_fields : RowView → List Text
csv_fields r = flag_word r.directory ∷ map shown r.type_word ∷ decimal r.kind ∷ number_or_empty r.aux
    ∷ number_or_empty r.access ∷ flag_word r.locked ∷ decimal r.size ∷ number_or_empty r.eof
    ∷ text_or_empty r.created ∷ text_or_empty r.modified ∷ digest_fields r.digest

abbrev pub csv_row : RowView → Text
csv_row r = csv_line (csv_quoted (map shown r.path)) (csv_fields r)

-- the names of the fields
abbrev pub digest_names : Bool → List Text
digest_names digests = if digests then codes "bytes" ∷ codes "sha256" ∷ [] else []

abbrev pub csv_header : Bool → Text
csv_header digests = csv_line (codes "path") (codes "directory" ∷ codes "type" ∷ codes "kind" ∷ codes "aux"
    ∷ codes "access" ∷ codes "locked" ∷ codes "size" ∷ codes "eof" ∷ codes "created" ∷ codes "modified"
    ∷ digest_names digests)
