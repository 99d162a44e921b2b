-- Two stores that differ in one slot of one directory block alone have the same runs, and the same listing where the block is none of the listed ones.
use Rattle.std.specs.Prelude.{◌≡◌, ◌≢◌, ◌/◌, ◌++◌, ℕ, suc, Bool, true, false, List, [], ◌∷◌, slice_index, Contains}
use Rattle.std.proofs.Common.{refl, sym, ◌∙◌, ap, subst, arith, inl, inr}
use Rattle.std.proofs.lemmas.Bool.{cases_eq}
use Rattle.std.proofs.lemmas.List.Elements.{Contains-append_left, Contains-append_right}
use Rattle.a2_device.specs.Device.{unit_at}
use Rattle.pro_dir.specs.declared.entry.Entry.{Entry}
use Rattle.pro_dir.specs.Entry.{entries_of, entries_in, is_directory, key_of}
use Rattle.pro_dir.specs.Tree.{Leads, IsRun, IsDirectory, HasBlocks, Lists, next_of}
use Rattle.pro_format.specs.Filled.{IsAlike}
use Rattle.pro_format.specs.Slots.{IsNoHeader}

module _ (less more : List (List ℕ)) (place slot : ℕ) (filled : IsAlike less more place slot) where
  pub next_kept : (block : ℕ) → next_of (unit_at more block) ≡ next_of (unit_at less block)
  next_kept block = elim (cases_eq block place) [
    | inl same ↦ subst (λ p. next_of (unit_at more p) ≡ next_of (unit_at less p)) (sym same) filled.next
    | inr differ ↦ ap next_of (filled.elsewhere block differ)
  ]

  pub leads_kept : (from : ℕ) (blocks : List ℕ) (last : ℕ) → Leads less from blocks last → Leads more from blocks last
  leads_kept from [] last way = way
  leads_kept from (block ∷ rest) last way =
      ((way.0.0, omega (arith, way.0.1, filled.size)), way.1 ∙ sym (next_kept from), leads_kept block rest last way.2)

  pub run_kept : (key : ℕ) (own : List ℕ) → IsRun less key own → IsRun more key own
  run_kept key own run = record {
    rest = run.rest;
    last = run.last;
    is = run.is;
    can_link = (run.can_link.0, omega (arith, run.can_link.1, filled.size));
    leads = leads_kept key run.rest run.last run.leads;
    ends = next_kept run.last ∙ run.ends;
  }

  pub byte_kept : (byte key : ℕ) → IsNoHeader place slot key → (slot ≢ 0 → slice_index (unit_at more place) byte ≡ slice_index (unit_at less place) byte)
      → slice_index (unit_at more key) byte ≡ slice_index (unit_at less key) byte
  byte_kept byte key no_header kept = elim (cases_eq key place) [
    | inl same ↦ subst (λ p. slice_index (unit_at more p) byte ≡ slice_index (unit_at less p) byte) (sym same) (kept (λ first. no_header first (sym same)))
    | inr differ ↦ ap (λ u. slice_index u byte) (filled.elsewhere key differ)
  ]

  pub directory_kept : (kind key : ℕ) (own : List ℕ) → IsNoHeader place slot key → IsDirectory less kind key own → IsDirectory more kind key own
  directory_kept kind key own no_header is = record {
    run = run_kept key own is.run;
    kind_is = ap (λ b. b / 16) (byte_kept 0x04 key no_header filled.kind) ∙ is.kind_is;
    sizes = (byte_kept 0x23 key no_header filled.entry_size ∙ is.sizes.0, byte_kept 0x24 key no_header filled.entry_count ∙ is.sizes.1);
  }

  pub own_kept : (directory : Bool) (key : ℕ) (own : List ℕ) → (directory ≡ true → IsNoHeader place slot key) → HasBlocks directory less key own → HasBlocks directory more key own
  own_kept true key own no_header is = directory_kept 0x0e key own (no_header refl) is
  own_kept false key own no_header none = none

  pub key_inside : (directory : Bool) (key : ℕ) (own : List ℕ) → HasBlocks directory less key own → directory ≡ true → Contains own key
  key_inside true key own is same = subst (λ bs. Contains bs key) (sym is.run.is) (0, omega arith, refl)
  key_inside false key own none same = absurd (cc)

  pub entries_elsewhere : (key other : ℕ) → other ≢ place → entries_of key other (unit_at more other) ≡ entries_of key other (unit_at less other)
  entries_elsewhere key other differ = ap (entries_of key other) (filled.elsewhere other differ)

  pub entries_kept : (key : ℕ) (own : List ℕ) → (Contains own place → ⊥) → entries_in more key own ≡ entries_in less key own
  entries_kept key [] none = refl
  entries_kept key (block ∷ rest) none =
      ap (λ es. es ++ entries_in more key rest) (entries_elsewhere key block (λ same. none (0, omega arith, same)))
      ∙ ap (λ es. entries_of key block (unit_at less block) ++ es) (entries_kept key rest (λ has. none (suc has.0, omega (arith, has.1), has.2)))

  -- what is listed where the block is none of these
  pub lists_kept : (from entries : List Entry) (blocks : List ℕ) (rest : List Entry) → (Contains blocks place → ⊥) → Lists less from entries blocks rest → Lists more from entries blocks rest
  lists_kept from [] blocks rest none so = so
  lists_kept from (entry ∷ entries) blocks rest none so =
      let out : (Contains so.1 place → ⊥) = λ has. none (subst (λ bs. Contains bs place) (sym so.4) (Contains-append_left so.1 so.2 place has)) in
      let out' : (Contains so.2 place → ⊥) = λ has. none (subst (λ bs. Contains bs place) (sym so.4) (Contains-append_right so.1 so.2 place has)) in (
        so.0,
        so.1,
        so.2,
        so.3,
        so.4,
        own_kept (is_directory entry) (key_of entry) so.1 (λ is first same. out (subst (Contains so.1) (sym same) (key_inside (is_directory entry) (key_of entry) so.1 so.5 is))) so.5,
        subst (λ es. Lists more (es ++ so.0) entries so.2 rest) (sym (entries_kept (key_of entry) so.1 out))
            (lists_kept (entries_in less (key_of entry) so.1 ++ so.0) entries so.2 rest out' so.6),
      )
