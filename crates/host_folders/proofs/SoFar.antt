-- The bytes of a stem, one after another.
use Rattle.std.proofs.Common.{◌≡◌, ◌≢◌, ℕ, Bool, true, false, List, [], ◌∷◌, ◌++◌, arith, refl, sym, ap, ◌∙◌, subst, length, append_assoc}
use Rattle.std.specs.Prelude.{◌==◌}
use Rattle.std.proofs.lemmas.Grind.{common_steps}
use Rattle.std.proofs.lemmas.List.{append-nil}
use Rattle.vol_layout.specs.declared.form.PlaceForm.{PlaceForm}
use Rattle.host_folders.specs.HostEntries.{SaysBytes, none, more}
use Rattle.host_folders.specs.Reading.{BeginsWith}
use Rattle.host_folders.proofs.Begins.{begin_piece, begins_same, no_first, piece_begins}

-- the bytes so far are those of what stands before the rest, and the text says some only if the rest does
pub record SoFar (form : PlaceForm) (text bytes rest : List ℕ) : Type 0 where
  pub on : (further : List ℕ) → SaysBytes form rest further → SaysBytes form text (bytes ++ further)
  pub back : (all : List ℕ) → SaysBytes form text all → (further : List ℕ) × SaysBytes form rest further

pub at_start : (form : PlaceForm) (text : List ℕ) → SoFar form text [] text
at_start form text = record { on = λ further says. says; back = λ all says. (all, says) }

-- the bytes behind the first one
pub behind_first : (form : PlaceForm) (text bytes : List ℕ) (byte : ℕ) (rest : List ℕ) → SaysBytes form text bytes
    → BeginsWith form text byte rest → (further : List ℕ) × SaysBytes form rest further × (bytes ≡ byte ∷ further)
behind_first form _ _ byte rest none begins = absurd (no_first form byte rest begins)
behind_first form _ _ byte rest (more piece text b bytes says further) begins =
    let same = begins_same form (piece ++ text) b byte text rest (piece_begins form piece b text says) begins in
    (bytes, subst (λ (t : List ℕ). SaysBytes form t bytes) same.1 further, ap (λ (x : ℕ). x ∷ bytes) same.0)

pub none_left : (text : List ℕ) (test : Bool) → test ≡ (length text == 0) → test ≡ true → text ≡ []
none_left [] test is holds = refl
none_left (c ∷ cs) test is holds = grind (arith, common_steps)

pub some_left : (text : List ℕ) (test : Bool) → test ≡ (length text == 0) → test ≡ false → text ≢ []
some_left [] test is fails = grind (arith, common_steps)
some_left (c ∷ cs) test is fails = λ e. cc

pub next : (form : PlaceForm) (text bytes rest : List ℕ) (byte : ℕ) (behind : List ℕ) → SoFar form text bytes rest
    → BeginsWith form rest byte behind → SoFar form text (bytes ++ byte ∷ []) behind
next form text bytes rest byte behind so_far begins = record {
  on = λ further says.
      let piece = begin_piece form rest byte behind begins in
      let here = subst (λ (t : List ℕ). SaysBytes form t (byte ∷ further)) (sym piece.split)
      (more piece.piece behind byte further piece.says says) in
      subst (SaysBytes form text) (sym (append_assoc bytes (byte ∷ []) further)) (so_far.on (byte ∷ further) here);
  back = λ all says.
      let rest_says = so_far.back all says in
      let first = behind_first form rest rest_says.0 byte behind rest_says.1 begins in
      (first.0, first.1);
}

pub at_end : (form : PlaceForm) (text bytes rest : List ℕ) → SoFar form text bytes rest → rest ≡ []
    → SaysBytes form text bytes
at_end form text bytes rest so_far is =
    let nothing = subst (λ (t : List ℕ). SaysBytes form t []) (sym is) none in
    subst (SaysBytes form text) (append-nil bytes) (so_far.on [] nothing)

stuck : (form : PlaceForm) (rest further : List ℕ) → SaysBytes form rest further → rest ≢ []
    → ((byte : ℕ) (behind : List ℕ) → ¬ BeginsWith form rest byte behind) → ⊥
stuck form _ _ none some never = some refl
stuck form _ _ (more piece text byte bytes says further) some never =
    never byte text (piece_begins form piece byte text says)

pub not_said : (form : PlaceForm) (text bytes rest : List ℕ) → SoFar form text bytes rest → rest ≢ []
    → ((byte : ℕ) (behind : List ℕ) → ¬ BeginsWith form rest byte behind) → (all : List ℕ) → ¬ SaysBytes form text all
not_said form text bytes rest so_far some never all says =
    let further = so_far.back all says in stuck form rest further.0 further.1 some never

-- ---- one list of bytes

same_bytes_at : (form : PlaceForm) (text one copy other : List ℕ) → SaysBytes form text one → SaysBytes form copy other
    → copy ≡ text → one ≡ other
same_bytes_at form _ _ _ _ none none e = refl
same_bytes_at form _ _ _ _ none (more piece text byte bytes says behind) e =
    let begins = piece_begins form piece byte text says in
    absurd (no_first form byte text (subst (λ (t : List ℕ). BeginsWith form t byte text) e begins))
same_bytes_at form _ _ copy other (more piece text byte bytes says behind) also e =
    let begins = piece_begins form piece byte text says in
    let first = behind_first form copy other byte text also
    (subst (λ (t : List ℕ). BeginsWith form t byte text) (sym e) begins) in
    ap (λ (t : List ℕ). byte ∷ t) (same_bytes_at form text bytes text first.0 behind first.1 refl) ∙ sym first.2

pub same_bytes : (form : PlaceForm) (text one other : List ℕ) → SaysBytes form text one → SaysBytes form text other
    → one ≡ other
same_bytes form text one other says also = same_bytes_at form text one text other says also refl

-- what says some bytes begins with the first one
pub first_of : (form : PlaceForm) (text name : List ℕ) → name ≢ [] → SaysBytes form text name
    → (byte : ℕ) × (behind : List ℕ) × BeginsWith form text byte behind
first_of form _ _ named none = absurd (named refl)
first_of form _ _ named (more piece rest byte bytes says behind) = (byte, rest, piece_begins form piece byte rest says)
