-- Lines that are worked out by hand: the definitions compute to them.
use Rattle.std.proofs.Common.{◌≡◌, ℕ, refl, true, false, List, [], ◌∷◌, Some, None, codes, replicate}
use Rattle.std.specs.Fmt.{digits}
use Rattle.json.specs.Print.{escape_byte}
use Rattle.a2_device.specs.declared.part.PartKind.TheVariants.{List as IsList, Index as IsIndex}
use Rattle.vol_layout.specs.declared.form.PlaceForm.TheVariants.{Sector, Block}
use Rattle.serde_json.specs.Written.{compact_text}
use Rattle.row_text.specs.Csv.{csv_row, csv_header}
use Rattle.row_text.specs.Row.{RowView, row_data, volume_data}
use Rattle.row_text.specs.Places.{part_text}
use Rattle.row_text.specs.Places as places
use Rattle.row_text.specs.declared.row.Digested.TheVariants.{Untold, Missing, Of}
use Rattle.row_text.specs.declared.volume.FileSystem.TheVariants.{Prodos}

sha256 : List ℕ
sha256 =
    0x34 ∷ 0x83 ∷ 0x1b ∷ 0x59 ∷ 0xf8 ∷ 0x2b ∷ 0x97 ∷ 0x3 ∷ 0xe0 ∷ 0xc7 ∷ 0xf9 ∷ 0xa8 ∷ 0x5e ∷ 0xb8 ∷ 0x44 ∷ 0xb6 ∷
    0x4d ∷ 0x75 ∷ 0x5a ∷ 0xa7 ∷ 0xa5 ∷ 0x81 ∷ 0x50 ∷ 0xa3 ∷ 0xde ∷ 0xbd ∷ 0x24 ∷ 0x9f ∷ 0x82 ∷ 0xc7 ∷ 0x63 ∷ 0x24 ∷ []

-- a locked binary file of DOS 3.3
hello : RowView
hello = record {
  access = None;
  aux = Some 768;
  created = None;
  directory = false;
  eof = None;
  kind = 4;
  locked = true;
  modified = None;
  path = codes "HELLO";
  size = 2;
  stored = 0xc8 ∷ 0xc5 ∷ 0xcc ∷ 0xcc ∷ 0xcf ∷ replicate 25 0xa0;
  type_word = codes "B";
  digest = Of (record { count = 3; sha256 = sha256 });
  places = places.Of (codes "list 0 3/15" ∷ codes "body 0 3/14" ∷ []);
}

-- a directory of ProDOS
sub : RowView
sub = record {
  access = Some 227;
  aux = Some 0;
  created = Some (codes "1986-05-01T12:30");
  directory = true;
  eof = Some 512;
  kind = 15;
  locked = false;
  modified = Some (codes "1986-05-01T12:30");
  path = codes "SUB";
  size = 1;
  stored = codes "SUB";
  type_word = codes "$0f";
  digest = Missing;
  places = places.Missing;
}

-- a name with a quotation mark and a backslash
odd : RowView
odd = record {
  access = None;
  aux = None;
  created = None;
  directory = false;
  eof = None;
  kind = 0;
  locked = false;
  modified = None;
  path = codes "A\"B\\C";
  size = 1;
  stored = [];
  type_word = codes "T";
  digest = Untold;
  places = places.Untold;
}

hello_line : compact_text (row_data hello) ≡ codes "{\"access\":null,\"aux\":768,\"bytes\":3,\"created\":null,\"directory\":false,\"eof\":null,\"kind\":4,\"locked\":true,\"modified\":null,\"parts\":[\"list 0 3/15\",\"body 0 3/14\"],\"path\":\"HELLO\",\"sha256\":\"34831b59f82b9703e0c7f9a85eb844b64d755aa7a58150a3debd249f82c76324\",\"size\":2,\"stored\":\"C8C5CCCCCFA0A0A0A0A0A0A0A0A0A0A0A0A0A0A0A0A0A0A0A0A0A0A0A0A0\",\"type\":\"B\"}"
unfolding digits escape_byte hello sha256
hello_line = refl

sub_line : compact_text (row_data sub) ≡ codes "{\"access\":227,\"aux\":0,\"bytes\":null,\"created\":\"1986-05-01T12:30\",\"directory\":true,\"eof\":512,\"kind\":15,\"locked\":false,\"modified\":\"1986-05-01T12:30\",\"parts\":null,\"path\":\"SUB\",\"sha256\":null,\"size\":1,\"stored\":\"535542\",\"type\":\"$0f\"}"
unfolding digits escape_byte sub
sub_line = refl

odd_line : compact_text (row_data odd) ≡ codes "{\"access\":null,\"aux\":null,\"created\":null,\"directory\":false,\"eof\":null,\"kind\":0,\"locked\":false,\"modified\":null,\"path\":\"A\\\"B\\\\C\",\"size\":1,\"stored\":\"\",\"type\":\"T\"}"
unfolding digits escape_byte odd
odd_line = refl

volume_line : compact_text (volume_data (record { entries = 3; free = 268; file_system = Prodos; places = 280; volume = codes "WORK" })) ≡ codes "{\"entries\":3,\"free\":268,\"fs\":\"prodos\",\"places\":280,\"volume\":\"WORK\"}"
unfolding digits escape_byte
volume_line = refl

hello_csv : csv_row (record hello { digest = Untold }) ≡ codes "\"HELLO\",false,B,4,768,,true,2,,,"
unfolding digits hello
hello_csv = refl

sub_csv : csv_row sub ≡ codes "\"SUB\",true,$0f,15,0,227,false,1,512,1986-05-01T12:30,1986-05-01T12:30,,"
unfolding digits sub
sub_csv = refl

odd_csv : csv_row odd ≡ codes "\"A\"\"B\\C\",false,T,0,,,false,1,,,"
unfolding digits odd
odd_csv = refl

header_csv : csv_header false ≡ codes "path,directory,type,kind,aux,access,locked,size,eof,created,modified"
header_csv = refl

long_header_csv : csv_header true ≡ codes "path,directory,type,kind,aux,access,locked,size,eof,created,modified,bytes,sha256"
long_header_csv = refl

sector_part : part_text Sector (record { file = 7; kind = IsList; number = 0; place = 63 }) ≡ codes "list 0 3/15"
unfolding digits
sector_part = refl

block_part : part_text Block (record { file = 0; kind = IsIndex; number = 2; place = 8 }) ≡ codes "index 2 block 8"
unfolding digits
block_part = refl
