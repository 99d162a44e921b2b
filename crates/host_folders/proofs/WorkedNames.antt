-- Names that are worked out by hand: the definitions compute to them, and read them.
use Rattle.std.proofs.Common.{◌≡◌, ℕ, true, false, refl, Some, None, List, [], ◌∷◌, codes}
use Rattle.std.specs.Fmt as fmt
use Rattle.vol_layout.specs.declared.form.PlaceForm.TheVariants.{Sector, Block}
use Rattle.host_folders.specs.HostNames.{Entry, entry_named, host_name, is_device}
use Rattle.host_folders.specs.declared.entry.Naming.TheVariants.{Naps, Plain}

-- a binary file of DOS 3.3
binary : List ℕ → Entry
binary name = record { form = Sector; name = name; kind = 4; aux = 0x300; directory = false; text = false }

-- HELLO in inverse, and a slash
inverse : List ℕ
inverse = 0x08 ∷ 0x05 ∷ 0x0c ∷ 0x2f ∷ 0x7f ∷ 0xaf ∷ 0xa0 ∷ []

inverse_name : host_name Naps (binary inverse) 12 ≡ codes "%08%05%0c%7f%2f%7f%7f%2f~12#060300"
unfolding binary inverse is_device fmt.digits
inverse_name = refl

inverse_read : entry_named Sector Naps false false (codes "%08%05%0c%7f%2f%7f%7f%2f~12#060300")
    ≡ record { name = 0x08 ∷ 0x05 ∷ 0x0c ∷ 0x2f ∷ 0x7f ∷ 0xaf ∷ []; type_and_aux = Some (0x06, 0x300) }
inverse_read = refl

device_read : entry_named Sector Plain false false (codes "%43ON.X")
    ≡ record { name = 0xc3 ∷ 0xcf ∷ 0xce ∷ 0xae ∷ 0xd8 ∷ []; type_and_aux = None }
device_read = refl

folder_read : entry_named Block Naps true false (codes "A%2f#060300")
    ≡ record { name = codes "A/#060300"; type_and_aux = None }
folder_read = refl

empty_read : entry_named Block Naps false false (codes "%~2#0f0000") ≡ record { name = []; type_and_aux = Some (0x0f, 0) }
empty_read = refl

-- a letter of DOS 3.3 that stands there as a text, and the name of a device
letter : List ℕ → Entry
letter name = record { form = Sector; name = name; kind = 0; aux = 0; directory = false; text = true }

letter_name : host_name Plain (letter (0xce ∷ 0xcf ∷ 0xae ∷ 0xa0 ∷ [])) 2 ≡ codes "NO.~2.txt"
unfolding letter is_device fmt.digits
letter_name = refl

device_letter : host_name Plain (letter (0xc3 ∷ 0xcf ∷ 0xce ∷ [])) 1 ≡ codes "%43ON.txt"
unfolding letter is_device
device_letter = refl

letter_read : entry_named Sector Plain false true (codes "NO.~2.txt")
    ≡ record { name = 0xce ∷ 0xcf ∷ 0xae ∷ []; type_and_aux = None }
letter_read = refl
