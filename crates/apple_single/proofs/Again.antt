-- What is printed is read back, and a file is read in one way at most.
use Rattle.std.proofs.Common.{◌≡◌, ◌≢◌, ℕ, ◌+◌, ◌-◌, ◌^◌, ◌<◌, ◌≤◌, List, [], ◌∷◌, ◌++◌, Option, Some, None, All}
use Rattle.std.proofs.Common.{length, take, replicate, arith, refl, sym, ap, ◌∙◌, subst, inl, inr, append_assoc}
use Rattle.std.proofs.Common.{length-append}
use Rattle.std.specs.Prelude.{slice_range}
use Rattle.std.proofs.lemmas.Bool.{cases_lt}
use Rattle.std.proofs.lemmas.List.{drop_at, take_all, take_at}
use Rattle.std.proofs.lemmas.List.Elements.{All-cons, All-nil}
use Rattle.apple_single.specs.declared.entries.Entry.{Entry}
use Rattle.apple_single.specs.declared.single.FileInfo.{FileInfo}
use Rattle.apple_single.specs.Format.{IsEntry, IsFileInfo, data_fork_id, file_info_id, header, info_bytes, part}
use Rattle.apple_single.specs.Format.{real_name_id}
use Rattle.apple_single.specs.Printed.{IsTooLong, printed_entries, single_bytes}
use Rattle.apple_single.specs.Single.{AreSound, IsInfoOf, IsPart, IsSingle}
use Rattle.apple_single.proofs.Fronts.{info_front}
use Rattle.apple_single.proofs.Headers.{one_header}
use Rattle.apple_single.proofs.Judging.{sound_more, sound_none}
use Rattle.apple_single.proofs.Parts.{one_part, part_listed}

-- ---- the entries of what is printed

abbrev name_entry : ℕ → Entry
name_entry n = record { id = real_name_id; offset = 62; size = n }

abbrev info_entry : ℕ → Entry
info_entry n = record { id = file_info_id; offset = 62 + n; size = 8 }

abbrev fork_entry : ℕ → ℕ → Entry
fork_entry n f = record { id = data_fork_id; offset = 70 + n; size = f }

-- the 62 bytes of the header
abbrev top : ℕ → ℕ → List ℕ
top n f = header (replicate 16 0) (printed_entries n f)

top_size : (n f : ℕ) → length (top n f) ≡ 62
top_size n f = refl

info_size : (info : FileInfo) → length (info_bytes info) ≡ 8
info_size info = refl

short : (n : ℕ) → ¬ (2 ^ 32 ≤ n) → n < 2 ^ 32
short n not_long = elim (cases_lt n (2 ^ 32)) [ inl less ↦ less | inr more ↦ absurd (not_long more) ]

printed_numbers : (n f : ℕ) → 70 + n < 2 ^ 32 → f < 2 ^ 32 → All IsEntry (printed_entries n f)
printed_numbers n f at size =
    All-cons IsEntry (name_entry n) (info_entry n ∷ fork_entry n f ∷ [])
    (record { id = omega arith; offset = omega arith; size = omega (arith, at) })
    (All-cons IsEntry (info_entry n) (fork_entry n f ∷ [])
    (record { id = omega arith; offset = omega (arith, at); size = omega arith })
    (All-cons IsEntry (fork_entry n f) [] (record { id = omega arith; offset = at; size = size }) (All-nil IsEntry)))

module _ (file : List ℕ) (n f : ℕ) (size : length file ≡ 70 + n + f) where
  printed_sound : AreSound file (printed_entries n f)
  printed_sound =
      sound_more file (name_entry n) (info_entry n ∷ fork_entry n f ∷ [])
      (record { within = omega (arith, size); no_resources = λ e. absurd (omega (arith, e)) })
      (All-cons (λ (e : Entry). e.id ≢ real_name_id) (info_entry n) (fork_entry n f ∷ []) (λ e. omega (arith, e))
      (All-cons (λ (e : Entry). e.id ≢ real_name_id) (fork_entry n f) [] (λ e. omega (arith, e))
      (All-nil (λ (e : Entry). e.id ≢ real_name_id))))
      (sound_more file (info_entry n) (fork_entry n f ∷ [])
      (record { within = omega (arith, size); no_resources = λ e. absurd (omega (arith, e)) })
      (All-cons (λ (e : Entry). e.id ≢ file_info_id) (fork_entry n f) [] (λ e. omega (arith, e))
      (All-nil (λ (e : Entry). e.id ≢ file_info_id)))
      (sound_more file (fork_entry n f) []
      (record { within = omega (arith, size); no_resources = λ e. absurd (omega (arith, e)) })
      (All-nil (λ (e : Entry). e.id ≢ data_fork_id))
      (sound_none file)))

-- ---- the parts of what is printed

slice_at : (p q r : List ℕ) (n m : ℕ) → length p ≡ n → m ≡ n + length q → slice_range (p ++ (q ++ r)) n m ≡ q
slice_at p q r n m at end =
    let size : length q ≡ m - n = omega (arith, end) in
    ap (λ s. take (m - n) s) (drop_at p (q ++ r) n at) ∙ take_at q r (m - n) size

slice_to_end : (p q : List ℕ) (n m : ℕ) → length p ≡ n → m ≡ n + length q → slice_range (p ++ q) n m ≡ q
slice_to_end p q n m at end =
    let size : length q ≤ m - n = omega (arith, end) in
    ap (λ s. take (m - n) s) (drop_at p q n at) ∙ take_all (m - n) q size

module _ (name : List ℕ) (info : FileInfo) (fork : List ℕ) where
  name_end : length (top (length name) (length fork) ++ name) ≡ 62 + length name
  name_end = omega (arith, length-append (top (length name) (length fork)) name, top_size (length name) (length fork))

  info_end : length (top (length name) (length fork) ++ name ++ info_bytes info) ≡ 70 + length name
  info_end = omega (
    arith,
    name_end,
    length-append (top (length name) (length fork) ++ name) (info_bytes info),
    info_size info,
  )

  file_size : length (single_bytes name info fork) ≡ 70 + length name + length fork
  file_size = omega (arith, info_end, length-append (top (length name) (length fork) ++ name ++ info_bytes info) fork)

  info_part : info_bytes info ≡ part (single_bytes name info fork) (info_entry (length name))
  info_part =
      let grouped : single_bytes name info fork ≡ (top (length name) (length fork) ++ name) ++ (info_bytes info ++ fork)
      = append_assoc (top (length name) (length fork) ++ name) (info_bytes info) fork in
      let end : 62 + length name + 8 ≡ 62 + length name + length (info_bytes info)
      = ap (λ k. 62 + length name + k) (sym (info_size info)) in
      sym (ap (λ s. slice_range s (62 + length name) (62 + length name + 8)) grouped
      ∙ slice_at (top (length name) (length fork) ++ name) (info_bytes info) fork (62 + length name)
      (62 + length name + 8) name_end end)

  fork_part : fork ≡ part (single_bytes name info fork) (fork_entry (length name) (length fork))
  fork_part = sym (slice_to_end (top (length name) (length fork) ++ name ++ info_bytes info) fork (70 + length name)
      (70 + length name + length fork) info_end refl)

  pub read_back : IsFileInfo info → ¬ IsTooLong (length name) (length fork)
      → IsSingle (single_bytes name info fork) (Some info) fork
  read_back is fits = record {
    entries = printed_entries (length name) (length fork);
    begins = record {
      filler = replicate 16 0;
      behind = name ++ info_bytes info ++ fork;
      filler_size = refl;
      few = omega arith;
      numbers = printed_numbers (length name) (length fork) (short (70 + length name) (λ long. fits (inl long)))
          (short (length fork) (λ long. fits (inr long)));
      bytes = refl;
    };
    sound = printed_sound (single_bytes name info fork) (length name) (length fork) file_size;
    data_fork = record {
      entry = fork_entry (length name) (length fork);
      listed = (2, omega arith, refl);
      of_id = refl;
      bytes_are = fork_part;
    };
    file_info = (
      info_bytes info,
      record { entry = info_entry (length name); listed = (1, omega arith, refl); of_id = refl; bytes_are = info_part },
      record { behind = []; is_info = is; split = refl },
    );
  }

-- ---- one reading

one_info : (file : List ℕ) (entries : List Entry) (info other : Option FileInfo) → AreSound file entries
    → IsInfoOf file entries info → IsInfoOf file entries other → info ≡ other
one_info file entries None None sound one two = refl
one_info file entries None (Some j) sound one two = absurd (part_listed file entries file_info_id two.0 two.1 one)
one_info file entries (Some i) None sound one two = absurd (part_listed file entries file_info_id one.0 one.1 two)
one_info file entries (Some i) (Some j) sound one two =
    ap (λ k. Some k) (info_front i j one.2.behind two.2.behind
    (sym one.2.split ∙ one_part file entries file_info_id one.0 two.0 sound one.1 two.1 ∙ two.2.split))

same_entries : (file : List ℕ) (entries : List Entry) (info other : Option FileInfo) (fork fork' : List ℕ)
    → AreSound file entries → IsPart file entries data_fork_id fork → IsPart file entries data_fork_id fork'
    → IsInfoOf file entries info → IsInfoOf file entries other
    → (info ≡ other) × (fork ≡ fork')
same_entries file entries info other fork fork' sound part part' is is' = (
  one_info file entries info other sound is is',
  one_part file entries data_fork_id fork fork' sound part part',
)

pub one_thing : (file fork fork' : List ℕ) (info other : Option FileInfo)
    → IsSingle file info fork → IsSingle file other fork'
    → (info ≡ other) × (fork ≡ fork')
one_thing file fork fork' info other one two =
    let same = one_header file two.entries one.entries two.begins one.begins in
    same_entries file one.entries info other fork fork' one.sound one.data_fork
    (subst (λ es. IsPart file es data_fork_id fork') same two.data_fork) one.file_info
    (subst (λ es. IsInfoOf file es other) same two.file_info)
