-- Files that are worked out by hand: the definitions compute to them.
use Rattle.std.proofs.Common.{◌≡◌, ◌≢◌, ℕ, List, [], ◌∷◌, Some, codes, replicate, arith, refl}
use Rattle.std.proofs.lemmas.List.Elements.{All-cons, All-nil}
use Rattle.apple_single.specs.declared.entries.Entry.{Entry}
use Rattle.apple_single.specs.declared.single.FileInfo.{FileInfo}
use Rattle.apple_single.specs.Format.{IsEntry}
use Rattle.apple_single.specs.Printed.{single_bytes}
use Rattle.apple_single.specs.Single.{IsSingle}
use Rattle.apple_single.proofs.Judging.{sound_more, sound_none}

-- HELLO, a file of three bytes: 78 bytes
hello : FileInfo
hello = record { access = 0xc3; file_type = 0x06; aux_type = 0x0300 }

hello_printed : single_bytes (codes "HELLO") hello (0xa9 ∷ 0x00 ∷ 0x60 ∷ [])
    ≡ 0x00 ∷ 0x05 ∷ 0x16 ∷ 0x00 ∷ 0x00 ∷ 0x02 ∷ 0x00 ∷ 0x00
    ∷ 0x00 ∷ 0x00 ∷ 0x00 ∷ 0x00 ∷ 0x00 ∷ 0x00 ∷ 0x00 ∷ 0x00 ∷ 0x00 ∷ 0x00 ∷ 0x00 ∷ 0x00 ∷ 0x00 ∷ 0x00 ∷ 0x00 ∷ 0x00
    ∷ 0x00 ∷ 0x03
    ∷ 0x00 ∷ 0x00 ∷ 0x00 ∷ 0x03 ∷ 0x00 ∷ 0x00 ∷ 0x00 ∷ 0x3e ∷ 0x00 ∷ 0x00 ∷ 0x00 ∷ 0x05
    ∷ 0x00 ∷ 0x00 ∷ 0x00 ∷ 0x0b ∷ 0x00 ∷ 0x00 ∷ 0x00 ∷ 0x43 ∷ 0x00 ∷ 0x00 ∷ 0x00 ∷ 0x08
    ∷ 0x00 ∷ 0x00 ∷ 0x00 ∷ 0x01 ∷ 0x00 ∷ 0x00 ∷ 0x00 ∷ 0x4b ∷ 0x00 ∷ 0x00 ∷ 0x00 ∷ 0x03
    ∷ 0x48 ∷ 0x45 ∷ 0x4c ∷ 0x4c ∷ 0x4f
    ∷ 0x00 ∷ 0xc3 ∷ 0x00 ∷ 0x06 ∷ 0x00 ∷ 0x00 ∷ 0x03 ∷ 0x00
    ∷ 0xa9 ∷ 0x00 ∷ 0x60 ∷ []
unfolding hello
hello_printed = refl

-- what cl65 writes for an Apple II: the data fork is the first entry, and there is no name
compiled : List ℕ
compiled =
    0x00 ∷ 0x05 ∷ 0x16 ∷ 0x00 ∷ 0x00 ∷ 0x02 ∷ 0x00 ∷ 0x00
    ∷ 0x00 ∷ 0x00 ∷ 0x00 ∷ 0x00 ∷ 0x00 ∷ 0x00 ∷ 0x00 ∷ 0x00 ∷ 0x00 ∷ 0x00 ∷ 0x00 ∷ 0x00 ∷ 0x00 ∷ 0x00 ∷ 0x00 ∷ 0x00
    ∷ 0x00 ∷ 0x02
    ∷ 0x00 ∷ 0x00 ∷ 0x00 ∷ 0x01 ∷ 0x00 ∷ 0x00 ∷ 0x00 ∷ 0x3a ∷ 0x00 ∷ 0x00 ∷ 0x00 ∷ 0x02
    ∷ 0x00 ∷ 0x00 ∷ 0x00 ∷ 0x0b ∷ 0x00 ∷ 0x00 ∷ 0x00 ∷ 0x32 ∷ 0x00 ∷ 0x00 ∷ 0x00 ∷ 0x08
    ∷ 0x00 ∷ 0xc3 ∷ 0x00 ∷ 0x06 ∷ 0x00 ∷ 0x00 ∷ 0x08 ∷ 0x03
    ∷ 0x18 ∷ 0x60 ∷ []

compiled_info : FileInfo
compiled_info = record { access = 0xc3; file_type = 0x06; aux_type = 0x0803 }

abbrev fork_entry : Entry
fork_entry = record { id = 1; offset = 0x3a; size = 2 }

abbrev info_entry : Entry
info_entry = record { id = 11; offset = 0x32; size = 8 }

compiled_read : IsSingle compiled (Some compiled_info) (0x18 ∷ 0x60 ∷ [])
unfolding compiled compiled_info
compiled_read = record {
  entries = fork_entry ∷ info_entry ∷ [];
  begins = record {
    filler = replicate 16 0x00;
    behind = 0x00 ∷ 0xc3 ∷ 0x00 ∷ 0x06 ∷ 0x00 ∷ 0x00 ∷ 0x08 ∷ 0x03 ∷ 0x18 ∷ 0x60 ∷ [];
    filler_size = refl;
    few = omega arith;
    numbers = All-cons IsEntry fork_entry (info_entry ∷ [])
        (record { id = omega arith; offset = omega arith; size = omega arith })
        (All-cons IsEntry info_entry [] (record { id = omega arith; offset = omega arith; size = omega arith })
        (All-nil IsEntry));
    bytes = refl;
  };
  sound = sound_more compiled fork_entry (info_entry ∷ [])
      (record { within = omega arith; no_resources = λ e. absurd (omega (arith, e)) })
      (All-cons (λ (e : Entry). e.id ≢ 1) info_entry [] (λ e. omega (arith, e)) (All-nil (λ (e : Entry). e.id ≢ 1)))
      (sound_more compiled info_entry [] (record
      { within = omega arith; no_resources = λ e. absurd (omega (arith, e)) })
      (All-nil (λ (e : Entry). e.id ≢ 11)) (sound_none compiled));
  data_fork = record { entry = fork_entry; listed = (0, omega arith, refl); of_id = refl; bytes_are = refl };
  file_info = (
    0x00 ∷ 0xc3 ∷ 0x00 ∷ 0x06 ∷ 0x00 ∷ 0x00 ∷ 0x08 ∷ 0x03 ∷ [],
    record { entry = info_entry; listed = (1, omega arith, refl); of_id = refl; bytes_are = refl },
    record {
      behind = [];
      is_info = record { access = omega arith; file_type = omega arith; aux_type = omega arith };
      split = refl;
    },
  );
}
