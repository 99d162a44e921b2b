-- Programs that are worked out by hand: the definitions compute to them.
use Rattle.std.proofs.Common.{◌≡◌, true, false, refl, Some, None, [], ◌∷◌, ◌++◌, codes}
use Rattle.std.specs.Fmt as fmt
use Rattle.applesoft.specs.Program.{Line, listing, program_bytes}
use Rattle.applesoft.specs.Scan.{first_item, first_word}

-- 10 HOME : PRINT "HELLO"
home : Line
home = record { link = 0x0810; number = 10; body = 0x97 ∷ 0x3a ∷ 0xba ∷ codes "\"HELLO\"" }

home_bytes : program_bytes (home ∷ []) ≡ 0x10 ∷ 0x08 ∷ 0x0a ∷ 0x00 ∷ 0x97 ∷ 0x3a ∷ 0xba ∷ codes "\"HELLO\"" ++ 0x00 ∷ 0x00 ∷ 0x00 ∷ []
unfolding home
home_bytes = refl

home_listed : listing (home ∷ []) ≡ codes "10  HOME : PRINT \"HELLO\"\n"
unfolding home fmt.digits
home_listed = refl

-- GOTO is found with its letters apart, and AT is passed over before the O of ATO
apart : first_item true (codes "Go to 5") ≡ Some (record { bytes = 0xab ∷ []; rest = codes " 5"; begins = false })
unfolding first_word
apart = refl

no_at : first_item true (codes "ATOB") ≡ Some (record { bytes = 0x41 ∷ []; rest = codes "TOB"; begins = false })
unfolding first_word
no_at = refl

at : first_item true (codes "AT N") ≡ Some (record { bytes = 0xc5 ∷ []; rest = codes " N"; begins = false })
unfolding first_word
at = refl

-- a DATA ends at a colon outside of quotation marks
data_ends : first_item false (codes "DATA  \"B:C\",3:X") ≡ Some (record { bytes = 0x83 ∷ codes " \"B:C\",3"; rest = codes ":X"; begins = false })
unfolding first_word
data_ends = refl

no_question : first_item false (codes "? A") ≡ None
no_question = refl
