-- The entries of a DOS 3.3 catalog, numbered, where one is replaced, or one more stands among them.
use Rattle.std.specs.Prelude.{◌≡◌, ◌<◌, ◌≤◌, ◌+◌, ◌*◌, ℕ, zero, suc, nat_lt, ◌||◌, if◌then◌else◌, Bool, true, false, List, [], ◌∷◌, length, map, Option, Some, None, slice_set}
use Rattle.std.proofs.Common.{refl, sym, ◌∙◌, ap, arith, add-zero}
use Rattle.std.proofs.lemmas.Bool.Decides.{nat_tests}
use Rattle.a2_device.specs.declared.part.PartKind.{PartKind}
use Rattle.a2_device.specs.declared.part.PartKind.TheVariants.{List as AList}
use Rattle.dos_catalog.specs.declared.entry.Entry.{Entry}
use Rattle.dos_tslist.specs.Reach.{entry_pointer}
use Rattle.vol_format.specs.declared.link.Link.{Link}
use Rattle.vol_format.specs.declared.link.Link.TheVariants.{Wild, To}
use Rattle.dos_format.specs.Dos.{link_to, dos_entry, numbered}
use Rattle.vol_laws.specs.Inserted.{insert_at, shifted, shifted_link, shifted_entry}

pub numbered_set : (all : List Entry) (from k : ℕ) (entry : Entry) → numbered from (slice_set all k entry) ≡ slice_set (numbered from all) k (dos_entry (from + k) entry)
numbered_set [] from k entry = refl
numbered_set (first ∷ all) from zero entry = ap (λ n. dos_entry n entry ∷ numbered (from + 1) all) (sym (add-zero from))
numbered_set (first ∷ all) from (suc k) entry =
    ap (λ es. dos_entry from first ∷ es) (numbered_set all (from + 1) k entry)
    ∙ ap (λ n. dos_entry from first ∷ slice_set (numbered (from + 1) all) k (dos_entry n entry)) (omega arith)

shifted_low : (at file : ℕ) → file < at → shifted at file ≡ file
shifted_low at file low = by_test (nat_lt file at) refl
  where
    by_test : (test : Bool) → nat_lt file at ≡ test → (if test then file else (file + 1)) ≡ file
    by_test true is = refl
    by_test false is = absurd (grind (arith, nat_tests))

shifted_high : (at file : ℕ) → at ≤ file → shifted at file ≡ file + 1
shifted_high at file high = by_test (nat_lt file at) refl
  where
    by_test : (test : Bool) → nat_lt file at ≡ test → (if test then file else (file + 1)) ≡ file + 1
    by_test true is = absurd (grind (arith, nat_tests))
    by_test false is = refl

link_shifted : (at file : ℕ) (kind : PartKind) (number : ℕ) (pointer : Option (ℕ × ℕ)) → shifted_link at (link_to file kind number pointer) ≡ link_to (shifted at file) kind number pointer
link_shifted at file kind number None = refl
link_shifted at file kind number (Some pointer) = by_test (nat_lt 34 pointer.0 || nat_lt 15 pointer.1)
  where
    named : ℕ → Link
    named f = To (record { file = f; kind = kind; number = number; place = 16 * pointer.0 + pointer.1 })

    by_test : (wild : Bool) → shifted_link at (if wild then Wild else named file) ≡ (if wild then Wild else named (shifted at file))
    by_test true = refl
    by_test false = refl

entry_shifted : (at file : ℕ) (entry : Entry) → shifted_entry at (dos_entry file entry) ≡ dos_entry (shifted at file) entry
entry_shifted at file entry = ap (λ (link : Link). record (dos_entry file entry) { root = link }) (link_shifted at file AList 0 (entry_pointer entry))

numbered_up : (at from : ℕ) (all : List Entry) → at ≤ from → numbered (from + 1) all ≡ map (shifted_entry at) (numbered from all)
numbered_up at from [] low = refl
numbered_up at from (entry ∷ all) low =
    ap (λ e. e ∷ numbered (from + 1 + 1) all) (ap (λ n. dos_entry n entry) (sym (shifted_high at from low)) ∙ sym (entry_shifted at from entry))
    ∙ ap (λ es. shifted_entry at (dos_entry from entry) ∷ es) (numbered_up at (from + 1) all (omega (arith, low)))

-- the entries from a number on, with one more
pub numbered_more : (i from : ℕ) (entry : Entry) (all : List Entry) → i ≤ length all
    → numbered from (insert_at i entry all) ≡ insert_at i (dos_entry (from + i) entry) (map (shifted_entry (from + i)) (numbered from all))
numbered_more zero from entry all within =
    ap (λ n. dos_entry n entry ∷ numbered (from + 1) all) (sym (add-zero from))
    ∙ ap (λ es. dos_entry (from + 0) entry ∷ es) (numbered_up (from + 0) from all (omega arith))
numbered_more (suc i) from entry [] within = absurd (omega (arith, within))
numbered_more (suc i) from entry (first ∷ all) within =
    ap (λ e. e ∷ numbered (from + 1) (insert_at i entry all))
    (ap (λ n. dos_entry n first) (sym (shifted_low (from + suc i) from (omega arith))) ∙ sym (entry_shifted (from + suc i) from first))
    ∙ ap (λ es. shifted_entry (from + suc i) (dos_entry from first) ∷ es)
    (numbered_more i (from + 1) entry all (omega (arith, within))
    ∙ ap (λ n. insert_at i (dos_entry n entry) (map (shifted_entry n) (numbered (from + 1) all))) (omega arith))
