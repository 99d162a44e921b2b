-- The own names of entries.
use Rattle.std.specs.Prelude.{ℕ, List}
use Rattle.pro_dir.specs.Entry.{name_of}
use Rattle.vol_format.specs.Directory.{Listed}

-- DOS 3.3 has no directories, so the path is the name: its 30 bytes, as they are stored (Beneath Apple DOS, chapter 4)
abbrev pub dos_own : Listed → List ℕ
dos_own entry = entry.path

-- the first byte of an entry has the length of its name, which stands behind it (ProDOS 8 Technical Reference Manual,
-- Appendix B)
abbrev pub pro_own : Listed → List ℕ
pro_own entry = name_of entry.bytes
