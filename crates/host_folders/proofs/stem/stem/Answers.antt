use Rattle.std.proofs.Common.{◌≡◌, ◌++◌, ◌∷◌, [], ◌<◌, ◌≤◌, ◌+◌, ℕ, Bool, true, false, List, Vec, length, get_or, take, refl, sym, ap, subst, ◌∙◌, append-nil, arith}
use Rattle.std.specs.Prelude.{◌==◌}
use Rattle.std.specs.List.{flat_map}
use Rattle.std.proofs.lemmas.List.{take_all, take_more}
use Rattle.std.proofs.lemmas.Bool.Decides.{nat_tests}
use Rattle.std.proofs.lemmas.Grind.{flat_map-append}
use Rattle.host_folders.specs.HostNames.{or_percent, piece, stem}
use Rattle.host_folders.proofs.stem.stem.Goals as goal
use Rattle.host_folders.proofs.stem.stem.Goals.{then-is_empty+in_ok-push, else-is_empty}

or_none : (text : List ℕ) (empty : Bool) (len : ℕ) → empty ≡ (len == 0) → len ≡ length text → empty ≡ true → text ++ 37 ∷ [] ≡ or_percent text
or_none [] empty len is len_is tested = refl
or_none (c ∷ cs) empty len is len_is tested = absurd (grind (arith, nat_tests))

or_some : (text : List ℕ) (empty : Bool) (len : ℕ) → empty ≡ (len == 0) → len ≡ length text → empty ≡ false → text ≡ or_percent text
or_some [] empty len is len_is tested = absurd (grind (arith, nat_tests))
or_some (c ∷ cs) empty len is len_is tested = refl

-- the piece of one more byte
one_more : (f : ℕ → List ℕ) (bytes : List ℕ) (i : ℕ) (text longer : List ℕ) → i < length bytes → text ≡ flat_map f (take i bytes)
    → longer ≡ text ++ f (get_or bytes i 0) → longer ≡ flat_map f (take (i + 1) bytes)
one_more f bytes i text longer within is more =
    let x = get_or bytes i 0 in
    more ∙ ap (λ t. t ++ f x) is
    ∙ sym (ap (flat_map f) (take_more bytes i 0 within) ∙ flat_map-append f (take i bytes) (x ∷ []) ∙ ap (λ t. flat_map f (take i bytes) ++ t) (append-nil (f x)))

pub loop-byte-preserved : goal.loop-byte-preserved
loop-byte-preserved g c =
    one_more (piece c.args.form) c.name_bytes-bytes.result.now c.loop-byte.byte-index c.loop-byte.text.items c.push_piece.new.text.items
    c.loop-byte-test.true c.loop-byte.invariant c.in_ok-push_piece.ensures

pub returns : goal.returns
returns g c =
    let text = c.loop-byte.text in
    let bytes = c.name_bytes-bytes.result.now in
    let whole : or_percent text.items ≡ stem c.args.form c.args.name.now =
    ap or_percent (c.loop-byte.invariant ∙ ap (flat_map (piece c.args.form)) (take_all c.loop-byte.byte-index bytes c.loop-byte-test.false ∙ c.name_bytes-bytes.ensures)) in
    elim c.if-is_empty.branch [
      | then-is_empty+in_ok-push w ↦
          ap (λ (v : Vec ℕ _). v.items) w.text-is ∙ w.in_ok-push.ensures.items ∙ or_none text.items c.is_empty.result text.len c.is_empty.ensures text.ok.0 w.if-is_empty.true ∙ whole
      | else-is_empty w ↦
          ap (λ (v : Vec ℕ _). v.items) w.text-is ∙ or_some text.items c.is_empty.result text.len c.is_empty.ensures text.ok.0 w.if-is_empty.false ∙ whole
    ]
