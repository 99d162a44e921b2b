-- Headers that are worked out by hand: the definitions compute to them, and read them.
use Rattle.std.proofs.Common.{◌≡◌, ℕ, List, [], ◌∷◌, ◌++◌, false, true, Some, None, length, arith, refl, inl}
use Rattle.std.proofs.Common.{length-append}
use Rattle.disk_container.specs.declared.header.Header.{Header}
use Rattle.a2_device.specs.declared.order.Order.TheVariants.{Dos, Nibble, Prodos}
use Rattle.a2_device.specs.Order.{IsImageLength}
use Rattle.disk_container.specs.Container.{IsContainer}
use Rattle.disk_container.specs.Format.{header_of, image_size, is_protected, volume_of}
use Rattle.disk_container.specs.Wrapped.{header_bytes}

-- a disk of 280 blocks in ProDOS order, and nothing else
plain : header_bytes Prodos None false 143360 0
    ≡ 0x32 ∷ 0x49 ∷ 0x4d ∷ 0x47 ∷ 0x41 ∷ 0x32 ∷ 0x53 ∷ 0x48 ∷ 0x40 ∷ 0x00 ∷ 0x01 ∷ 0x00 ∷ 0x01 ∷ 0x00 ∷ 0x00 ∷ 0x00
    ∷ 0x00 ∷ 0x00 ∷ 0x00 ∷ 0x00 ∷ 0x18 ∷ 0x01 ∷ 0x00 ∷ 0x00 ∷ 0x40 ∷ 0x00 ∷ 0x00 ∷ 0x00 ∷ 0x00 ∷ 0x30 ∷ 0x02 ∷ 0x00
    ∷ 0x00 ∷ 0x00 ∷ 0x00 ∷ 0x00 ∷ 0x00 ∷ 0x00 ∷ 0x00 ∷ 0x00 ∷ 0x00 ∷ 0x00 ∷ 0x00 ∷ 0x00 ∷ 0x00 ∷ 0x00 ∷ 0x00 ∷ 0x00
    ∷ 0x00 ∷ 0x00 ∷ 0x00 ∷ 0x00 ∷ 0x00 ∷ 0x00 ∷ 0x00 ∷ 0x00 ∷ 0x00 ∷ 0x00 ∷ 0x00 ∷ 0x00 ∷ 0x00 ∷ 0x00 ∷ 0x00 ∷ 0x00 ∷ []
plain = refl

-- a disk in DOS order, protected, of volume 254, with a comment of six bytes
side_a : header_bytes Dos (Some 254) true 143360 6
    ≡ 0x32 ∷ 0x49 ∷ 0x4d ∷ 0x47 ∷ 0x41 ∷ 0x32 ∷ 0x53 ∷ 0x48 ∷ 0x40 ∷ 0x00 ∷ 0x01 ∷ 0x00 ∷ 0x00 ∷ 0x00 ∷ 0x00 ∷ 0x00
    ∷ 0xfe ∷ 0x01 ∷ 0x00 ∷ 0x80 ∷ 0x00 ∷ 0x00 ∷ 0x00 ∷ 0x00 ∷ 0x40 ∷ 0x00 ∷ 0x00 ∷ 0x00 ∷ 0x00 ∷ 0x30 ∷ 0x02 ∷ 0x00
    ∷ 0x40 ∷ 0x30 ∷ 0x02 ∷ 0x00 ∷ 0x06 ∷ 0x00 ∷ 0x00 ∷ 0x00 ∷ 0x00 ∷ 0x00 ∷ 0x00 ∷ 0x00 ∷ 0x00 ∷ 0x00 ∷ 0x00 ∷ 0x00
    ∷ 0x00 ∷ 0x00 ∷ 0x00 ∷ 0x00 ∷ 0x00 ∷ 0x00 ∷ 0x00 ∷ 0x00 ∷ 0x00 ∷ 0x00 ∷ 0x00 ∷ 0x00 ∷ 0x00 ∷ 0x00 ∷ 0x00 ∷ 0x00 ∷ []
side_a = refl

-- a header of 52 bytes, as an old file has it: 16 blocks in ProDOS order, no length, and the data at byte 64
abbrev old_front : List ℕ
old_front =
    0x32 ∷ 0x49 ∷ 0x4d ∷ 0x47 ∷ 0x58 ∷ 0x47 ∷ 0x53 ∷ 0x21 ∷ 0x34 ∷ 0x00 ∷ 0x00 ∷ 0x00 ∷ 0x01 ∷ 0x00 ∷ 0x00 ∷ 0x00
    ∷ 0x00 ∷ 0x00 ∷ 0x00 ∷ 0x80 ∷ 0x10 ∷ 0x00 ∷ 0x00 ∷ 0x00 ∷ 0x40 ∷ 0x00 ∷ 0x00 ∷ 0x00 ∷ 0x00 ∷ 0x00 ∷ 0x00 ∷ 0x00
    ∷ 0x00 ∷ 0x00 ∷ 0x00 ∷ 0x00 ∷ 0x00 ∷ 0x00 ∷ 0x00 ∷ 0x00 ∷ 0x00 ∷ 0x00 ∷ 0x00 ∷ 0x00 ∷ 0x00 ∷ 0x00 ∷ 0x00 ∷ 0x00
    ∷ 0x00 ∷ 0x00 ∷ 0x00 ∷ 0x00 ∷ 0x01 ∷ 0x02 ∷ 0x03 ∷ 0x04 ∷ 0x05 ∷ 0x06 ∷ 0x07 ∷ 0x08 ∷ 0x09 ∷ 0x0a ∷ 0x0b ∷ 0x0c ∷ []

old_header : (behind : List ℕ) → header_of (old_front ++ behind) ≡ record {
  size = 52;
  format = 1;
  flags = 0x8000_0000;
  blocks = 16;
  data_start = 64;
  data_size = 0;
}
old_header behind = refl

old_size : (payload back : List ℕ) → length payload ≡ 8192 → length back ≡ 3
    → length (old_front ++ payload ++ back) ≡ 8259
old_size payload back payload_size back_size = omega (
  arith,
  payload_size,
  back_size,
  length-append (old_front ++ payload) back,
  length-append old_front payload,
)

old_read : (payload back : List ℕ) → length payload ≡ 8192 → length back ≡ 3
    → IsContainer (old_front ++ payload ++ back) (record {
      order = Prodos;
      protected = true;
      volume = None;
      start = 64;
      size = 8192;
    })
unfolding IsImageLength
old_read payload back payload_size back_size =
    let size = old_size payload back payload_size back_size in
    record {
      header = record {
        begins = refl;
        not_long = omega (arith, size);
        sized = inl refl;
        whole = omega (arith, size);
      };
      order = record { number = refl };
      holds = record { behind = omega arith; inside = omega (arith, size) };
      image = (refl, omega arith, omega arith);
      protection = refl;
      volume = refl;
      start = refl;
      size = refl;
    }

-- ---- numbers

dos_volume : volume_of 0x01fe ≡ Some 254
dos_volume = refl

no_volume : volume_of 0x8000_00fe ≡ None
no_volume = refl

not_protected : is_protected 0x7fff_ffff ≡ false
not_protected = refl

abbrev untold : ℕ → ℕ → Header
untold blocks data_size = record {
  size = 64;
  format = 2;
  flags = 0;
  blocks = blocks;
  data_start = 64;
  data_size = data_size;
}

nibble_size : image_size Nibble (untold 280 0) ≡ 232960
nibble_size = refl

dos_size : image_size Dos (untold 0 0) ≡ 143360
dos_size = refl

told : image_size Dos (untold 0 4294967295) ≡ 4294967295
told = refl
