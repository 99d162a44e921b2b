-- The parts of a file: each ID has one at most.
use Rattle.std.proofs.Common.{◌≡◌, ◌≢◌, ℕ, ◌<◌, List, AllPairs, Contains, length, get_or, arith, sym, ap, ◌∙◌}
use Rattle.std.proofs.Common.{inl, inr}
use Rattle.std.proofs.lemmas.Bool.{cases_eq, cases_lt}
use Rattle.std.proofs.lemmas.List.{get_or_default}
use Rattle.std.proofs.lemmas.List.Elements.{All-contains}
use Rattle.apple_single.specs.declared.entries.Entry.{Entry}
use Rattle.apple_single.specs.Format.{part}
use Rattle.apple_single.specs.Reading.{HasNone}
use Rattle.apple_single.specs.Single.{AreSound, IsPart}

-- an ID that stands before another is another
apart : (entries : List Entry) (e f : Entry) → AllPairs (λ entry later. entry.id ≢ later.id) entries
    → (i j : ℕ) → i < j → j < length entries
    → get_or entries i e ≡ e → get_or entries j f ≡ f → e.id ≢ f.id
apart entries e f once i j less within here there same =
    let there' : get_or entries j e ≡ f = get_or_default entries j e f within ∙ there in
    once i j e less within (ap (λ (g : Entry). g.id) here ∙ same ∙ sym (ap (λ (g : Entry). g.id) there'))

one_entry : (entries : List Entry) (e f : Entry) → AllPairs (λ entry later. entry.id ≢ later.id) entries
    → Contains entries e → Contains entries f → e.id ≡ f.id → e ≡ f
one_entry entries e f once (i, within, here) (j, within', there) same = elim (cases_lt i j) [
  | inl less ↦ absurd (apart entries e f once i j less within' here there same)
  | inr more ↦ elim (cases_eq i j) [
    | inl is ↦ sym here ∙ get_or_default entries i e f within ∙ ap (λ k. get_or entries k f) is ∙ there
    | inr other ↦ absurd (apart entries f e once j i (omega (arith, more, other)) within there here (sym same))
  ]
]

pub one_part : (file : List ℕ) (entries : List Entry) (id : ℕ) (a b : List ℕ) → AreSound file entries
    → IsPart file entries id a → IsPart file entries id b → a ≡ b
one_part file entries id a b sound one other =
    one.bytes_are
    ∙ ap (part file)
    (one_entry entries one.entry other.entry sound.once one.listed other.listed (one.of_id ∙ sym other.of_id))
    ∙ sym other.bytes_are

pub part_listed : (file : List ℕ) (entries : List Entry) (id : ℕ) (bytes : List ℕ) → IsPart file entries id bytes
    → ¬ HasNone entries id
part_listed file entries id bytes is none =
    All-contains (λ (e : Entry). e.id ≢ id) entries is.entry none is.listed is.of_id
