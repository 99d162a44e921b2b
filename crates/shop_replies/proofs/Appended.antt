-- Bytes written in turn.
use Rattle.std.specs.Prelude.{◌≡◌, ◌<◌, ℕ, zero, suc, ◌+◌, List, [], ◌∷◌, ◌++◌, length, take, flat_map, slice_index_or, Option, Some, None}
use Rattle.std.proofs.Common.{refl, sym, ◌∙◌, ap, subst, arith, append_assoc}
use Rattle.std.proofs.Math.ListN.{drop}
use Rattle.std.proofs.Math.Seq.{take-add}
use Rattle.std.proofs.lemmas.List.{append-nil, take-append-drop}
use Rattle.std.specs.Io.KnownBytes.{Appends, Keeps}
use Rattle.shop_replies.specs.Reply.{AppendsFront}

pub appends_on : (old mid new : Option (List ℕ)) (bytes : List ℕ) (n m : ℕ) → Appends old mid (take n bytes) → Appends mid new (take m (drop n bytes))
    → Appends old new (take (n + m) bytes)
appends_on None mid new bytes n m first then = tt
appends_on (Some xs) None new bytes n m first then = absurd first
appends_on (Some xs) (Some ys) None bytes n m first then = absurd then
appends_on (Some xs) (Some ys) (Some zs) bytes n m first then =
    then ∙ ap (λ b. b ++ take m (drop n bytes)) first ∙ append_assoc xs (take n bytes) (take m (drop n bytes)) ∙ ap (λ b. xs ++ b) (sym (take-add n m bytes))

pub appends_kept : (old mid new : Option (List ℕ)) (bytes : List ℕ) → Appends old mid bytes → Keeps mid new → Appends old new bytes
appends_kept None mid new bytes first kept = tt
appends_kept (Some xs) None new bytes first kept = absurd first
appends_kept (Some xs) (Some ys) None bytes first kept = absurd kept
appends_kept (Some xs) (Some ys) (Some zs) bytes first kept = kept ∙ first

pub appends_none : (known : Option (List ℕ)) → Appends known known []
appends_none None = tt
appends_none (Some xs) = sym (append-nil xs)

-- one text behind another
pub appends_both : (old mid new : Option (List ℕ)) (first later : List ℕ) → Appends old mid first → Appends mid new later → Appends old new (first ++ later)
appends_both None mid new first later one other = tt
appends_both (Some xs) None new first later one other = absurd one
appends_both (Some xs) (Some ys) None first later one other = absurd other
appends_both (Some xs) (Some ys) (Some zs) first later one other = other ∙ ap (λ b. b ++ later) one ∙ append_assoc xs first later

-- what a text begins with is a front of it
front_is : (part rest whole : List ℕ) → whole ≡ part ++ rest → take (length part) whole ≡ part
front_is [] rest whole is = refl
front_is (x ∷ part) rest whole is = ap (λ text. take (length (x ∷ part)) text) is ∙ ap (λ text. x ∷ text) (front_is part rest (part ++ rest) refl)

as_front : (old new : Option (List ℕ)) (part rest whole : List ℕ) → whole ≡ part ++ rest → Appends old new part → AppendsFront old new whole
as_front old new part rest whole is grown = (length part, subst (λ text. Appends old new text) (sym (front_is part rest whole is)) grown)

-- a front of a text is one of each longer text, and behind a text it is one of both
pub front_before : (old new : Option (List ℕ)) (first later : List ℕ) → AppendsFront old new first → AppendsFront old new (first ++ later)
front_before old new first later (n, is) =
    as_front old new (take n first) (drop n first ++ later) (first ++ later)
    (ap (λ text. text ++ later) (sym (take-append-drop n first)) ∙ append_assoc (take n first) (drop n first) later) is

pub front_behind : (old mid new : Option (List ℕ)) (first later : List ℕ) → Appends old mid first → AppendsFront mid new later → AppendsFront old new (first ++ later)
front_behind old mid new first later one (n, is) =
    as_front old new (first ++ take n later) (drop n later) (first ++ later)
    (ap (λ text. first ++ text) (sym (take-append-drop n later)) ∙ sym (append_assoc first (take n later) (drop n later)))
    (appends_both old mid new first (take n later) one is)

-- the texts of some items: of those before one, its own, and those behind it
pub texts_at : {X : Type 0} (f : X → List ℕ) (items : List X) (at : ℕ) (d : X) → at < length items
    → flat_map f items ≡ (flat_map f (take at items) ++ f (slice_index_or items at d)) ++ flat_map f (drop (suc at) items)
texts_at f [] at d within = absurd (omega (arith, within))
texts_at f (x ∷ items) zero d within = refl
texts_at f (x ∷ items) (suc at) d within =
    ap (λ text. f x ++ text) (texts_at f items at d (omega (arith, within)))
    ∙ sym (append_assoc (f x) (flat_map f (take at items) ++ f (slice_index_or items at d)) (flat_map f (drop (suc at) items)))
    ∙ ap (λ text. text ++ flat_map f (drop (suc at) items)) (sym (append_assoc (f x) (flat_map f (take at items)) (f (slice_index_or items at d))))

pub texts_on : {X : Type 0} (f : X → List ℕ) (items : List X) (at : ℕ) (d : X) → at < length items
    → flat_map f (take (suc at) items) ≡ flat_map f (take at items) ++ f (slice_index_or items at d)
texts_on f [] at d within = absurd (omega (arith, within))
texts_on f (x ∷ items) zero d within = append-nil (f x)
texts_on f (x ∷ items) (suc at) d within =
    ap (λ text. f x ++ text) (texts_on f items at d (omega (arith, within))) ∙ sym (append_assoc (f x) (flat_map f (take at items)) (f (slice_index_or items at d)))

pub all_front : (old new : Option (List ℕ)) (text : List ℕ) → Appends old new text → AppendsFront old new text
all_front old new text grown = as_front old new text [] text (sym (append-nil text)) grown

-- the texts of some items in turn: a front of the next one's behind those before it, and all of it
module _ {X : Type 0} (f : X → List ℕ) (items : List X) (d : X) (at : ℕ) (old mid new : Option (List ℕ)) (within : at < length items)
    (before : Appends old mid (flat_map f (take at items))) where
  pub texts_stopped : AppendsFront mid new (f (slice_index_or items at d)) → AppendsFront old new (flat_map f items)
  texts_stopped front =
      subst (λ text. AppendsFront old new text) (sym (texts_at f items at d within))
      (front_before old new (flat_map f (take at items) ++ f (slice_index_or items at d)) (flat_map f (drop (suc at) items))
      (front_behind old mid new (flat_map f (take at items)) (f (slice_index_or items at d)) before front))

  pub texts_grown : Appends mid new (f (slice_index_or items at d)) → Appends old new (flat_map f (take (at + 1) items))
  texts_grown text =
      subst (λ n. Appends old new (flat_map f (take n items))) next
      (subst (λ text. Appends old new text) (sym (texts_on f items at d within))
      (appends_both old mid new (flat_map f (take at items)) (f (slice_index_or items at d)) before text))
    where
      next : suc at ≡ at + 1
      next = omega arith
