-- Address fields. (Beneath Apple DOS, chapter 3, "Track formatting": the address field.)
use Rattle.std.specs.Prelude.{◌≡◌, ℕ, ◌+◌, ◌*◌, ◌/◌, List, [], ◌∷◌, length, take, drop, slice_index, All, bit_and, bit_or, bit_xor}

-- a number in 4-and-4: a byte of its odd bits, then a byte of its even bits
abbrev pub odd_bits : ℕ → ℕ
odd_bits number = bit_or (number / 2) 0xAA

abbrev pub even_bits : ℕ → ℕ
even_bits number = bit_or number 0xAA

-- the number of two bytes in 4-and-4
abbrev pub number_of : ℕ → ℕ → ℕ
number_of odd even = bit_and odd 0x55 * 2 + bit_and even 0x55

-- an address field without its epilogue: the mark, volume, track, sector and their exclusive or
unfoldable pub address_field : ℕ → ℕ → ℕ → List ℕ
address_field volume track sector =
    let checksum = bit_xor (bit_xor volume track) sector in
    0xD5 ∷ 0xAA ∷ 0x96 ∷ odd_bits volume ∷ even_bits volume ∷ odd_bits track ∷ even_bits track
    ∷ odd_bits sector ∷ even_bits sector ∷ odd_bits checksum ∷ even_bits checksum ∷ []

-- how a reader takes eleven bytes: the mark, eight bytes of the form of 4-and-4, the right checksum
pub record DecodesTo (bytes : List ℕ) (volume track sector : ℕ) : Type 0 where
  pub long : length bytes ≡ 11
  pub mark : take 3 bytes ≡ 0xD5 ∷ 0xAA ∷ 0x96 ∷ []
  pub form : All (λ byte. bit_and byte 0xAA ≡ 0xAA) (drop 3 bytes)
  pub volume_is : number_of (slice_index bytes 3) (slice_index bytes 4) ≡ volume
  pub track_is : number_of (slice_index bytes 5) (slice_index bytes 6) ≡ track
  pub sector_is : number_of (slice_index bytes 7) (slice_index bytes 8) ≡ sector
  pub checksum_is :
      number_of (slice_index bytes 9) (slice_index bytes 10) ≡ bit_xor (bit_xor volume track) sector
