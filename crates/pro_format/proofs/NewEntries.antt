-- What the bytes of a new file's entry say.
use Rattle.std.specs.Prelude.{◌≡◌, ℕ, suc, ◌+◌, ◌-◌, ◌*◌, ◌%◌, List, ◌∷◌, ◌++◌, length, take, replicate, slice_index}
use Rattle.std.proofs.Common.{◌∙◌, ap, arith, append_assoc, length-append}
use Rattle.std.proofs.lemmas.List.{length-take-le, length-replicate, take_at, get_or-append_right}
use Rattle.pro_dir.specs.declared.slot.NewFile.{NewFile}
use Rattle.pro_dir.specs.Entry.{name_of, storage_of, word}
use Rattle.pro_dir.specs.Writes.{entry_bytes, long_bytes, padded, word_bytes}
use Rattle.pro_format.specs.Slots.{IsProperFile, SaysOfFile}

module _ (file : NewFile) (is : IsProperFile file) where
  abbrev first : ℕ
  first = 16 * file.storage + file.len

  padded_size : length (padded file.len file.name) ≡ 15
  padded_size = omega (
    arith,
    length-append (take file.len file.name) (replicate (15 - file.len) 0),
    length-take-le file.len file.name (omega (arith, is.short, is.name)),
    length-replicate {A = ℕ} (15 - file.len) 0,
    is.short,
  )

  -- what stands behind the name, from the type on
  abbrev behind_name : List ℕ
  behind_name = file.kind ∷ (word_bytes file.key ++ word_bytes file.blocks ++ long_bytes file.eof ++ file.date.0
      ++ 0 ∷ 0 ∷ file.access ∷ (word_bytes file.aux ++ file.date.0 ++ word_bytes file.dir))

  behind_size : length behind_name ≡ 23
  behind_size = omega (
    arith,
    length-append (word_bytes file.key ++ word_bytes file.blocks ++ long_bytes file.eof ++ file.date.0) (0 ∷ 0 ∷ file.access ∷ (word_bytes file.aux ++ file.date.0 ++ word_bytes file.dir)),
    length-append (word_bytes file.key ++ word_bytes file.blocks ++ long_bytes file.eof) file.date.0,
    length-append (word_bytes file.aux ++ file.date.0) (word_bytes file.dir),
    length-append (word_bytes file.aux) file.date.0,
    is.date,
  )

  -- a byte behind the name
  byte_behind : (k : ℕ) → slice_index (entry_bytes file) (16 + k) ≡ slice_index behind_name k
  byte_behind k =
      let shift : 16 + k ≡ suc (15 + k) = omega arith in
      let back : 15 + k - 15 ≡ k = omega arith in
      ap (slice_index (entry_bytes file)) shift
      ∙ get_or-append_right (padded file.len file.name) behind_name 15 (15 + k) 0 padded_size (omega arith)
      ∙ ap (slice_index behind_name) back

  storage_there : storage_of (entry_bytes file) ≡ file.storage
  storage_there = omega (arith, is.short)

  name_there : name_of (entry_bytes file) ≡ take file.len file.name
  name_there =
      let low : first % 16 ≡ file.len = omega (arith, is.short) in
      ap (λ n. take n (padded file.len file.name ++ behind_name)) low
      ∙ ap (take file.len) (append_assoc (take file.len file.name) (replicate (15 - file.len) 0) behind_name)
      ∙ take_at (take file.len file.name) (replicate (15 - file.len) 0 ++ behind_name) file.len (length-take-le file.len file.name (omega (arith, is.short, is.name)))

  key_there : word (entry_bytes file) 0x11 ≡ file.key
  key_there = omega (arith, byte_behind 1, byte_behind 2)

  pub entry_says : SaysOfFile file (entry_bytes file)
  entry_says = record {
    is = record {
      size = omega (arith, length-append (padded file.len file.name) behind_name, padded_size, behind_size);
      used = λ none. omega (arith, none, storage_there, is.storage.0);
      file = λ directory. omega (arith, directory, storage_there, is.storage.1);
    };
    name_is = name_there;
    storage_is = storage_there;
    key_is = key_there;
  }
