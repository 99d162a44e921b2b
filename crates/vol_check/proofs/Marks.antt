-- Each step of a walk marks for its own parts and faults alone.
use Rattle.std.proofs.Common.{◌≡◌, ◌≢◌, ◌⊎◌, inl, inr, ⊎_elim, ℕ, zero, suc, ◌+◌, Bool, true, false, List, [], ◌∷◌, ◌++◌, set, replicate, refl, sym, ◌∙◌, ap, subst, arith, length-set}
use Rattle.std.specs.Prelude.{◌==◌, slice_index_or}
use Rattle.std.specs.List.{Contains}
use Rattle.std.proofs.lemmas.List.{get_or-set_other}
use Rattle.std.proofs.lemmas.Bool.Decides.{nat_tests}
use Rattle.std.proofs.Math.ListN.{length-replicate}
use Rattle.a2_device.specs.declared.part.Part.{Part}
use Rattle.a2_device.specs.declared.fault.Fault.{Fault}
use Rattle.vol_format.specs.declared.link.Link.{Link}
use Rattle.vol_check.specs.Known.{knowing, none_known, place_of}
use Rattle.vol_check.specs.Marks.{IsMarkedBy, AreOwnMarks, HasOwnMarks, KeepsMarks}
use Rattle.vol_check.specs.Walk.{Lists, noted, followed, unseen}
use Rattle.vol_check.specs.declared.known.Known.{Known}
use Rattle.vol_check.proofs.Pushed.{in_front, at_end}

module _ {T X : Type 0} (nothing : T) (at : X → ℕ) (items : List X) (table : List T) (marked : IsMarkedBy nothing at items table) (item : X) where
  with_item : IsMarkedBy nothing at (items ++ item ∷ []) table
  with_item place = ⊎_elim inl (λ by. inr (by.0, in_front items item by.0 by.1, by.2)) (marked place)

  with_mark : (mark : T) → IsMarkedBy nothing at (items ++ item ∷ []) (set table (at item) mark)
  with_mark mark place = by_test (place == at item) refl
    where
      by_test : (here : Bool) → (place == at item) ≡ here
          → (slice_index_or (set table (at item) mark) place nothing ≡ nothing) ⊎ ((one : X) × Contains (items ++ item ∷ []) one × (at one ≡ place))
      by_test true is =
          let same : at item ≡ place = grind (arith, nat_tests) in inr (item, at_end items item, same)
      by_test false is =
          let differ : place ≢ at item = grind (arith, nat_tests) in
          ⊎_elim (λ none. inl (get_or-set_other table (at item) place mark nothing differ ∙ none)) inr (with_item place)

module _ (places : ℕ) (parts : List Part) (faults : List Fault) (visited : List Bool) (known : List Known) (marks : AreOwnMarks places parts faults visited known) where
  pub fault_noted : (fault : Fault) (more : List Fault) (now : List Known) → more ≡ faults ++ fault ∷ [] → now ≡ knowing known fault → AreOwnMarks places parts more visited now
  fault_noted fault more now more_is now_is =
      subst (λ ks. AreOwnMarks places parts more visited ks) (sym now_is) (subst (λ fs. AreOwnMarks places parts fs visited (knowing known fault)) (sym more_is) (record {
        visited_size = marks.visited_size;
        known_size = length-set {A = Known} known (place_of fault) _ ∙ marks.known_size;
        met = marks.met;
        noted = with_mark none_known place_of faults known marks.noted fault _;
      }))

  pub fault_told : (fault : Fault) (more : List Fault) → more ≡ faults ++ fault ∷ [] → AreOwnMarks places parts more visited known
  fault_told fault more more_is = subst (λ fs. AreOwnMarks places parts fs visited known) (sym more_is) (record {
    visited_size = marks.visited_size;
    known_size = marks.known_size;
    met = marks.met;
    noted = with_item none_known place_of faults known marks.noted fault;
  })

  pub part_met : (part : Part) (more : List Part) (now : List Bool) → more ≡ parts ++ part ∷ [] → now ≡ set visited part.place true → AreOwnMarks places more faults now known
  part_met part more now more_is now_is =
      subst (λ vs. AreOwnMarks places more faults vs known) (sym now_is) (subst (λ ps. AreOwnMarks places ps faults (set visited part.place true) known) (sym more_is) (record {
        visited_size = length-set {A = Bool} visited part.place true ∙ marks.visited_size;
        known_size = marks.known_size;
        met = with_mark false (λ (p : Part). p.place) parts visited marks.met part true;
        noted = marks.noted;
      }))

-- one step after another
pub marks_then : (first second third : Lists) → KeepsMarks first second → KeepsMarks second third → KeepsMarks first third
marks_then first second third one other places marks = other places (one places marks)

-- the last pointer that is left is noted, and then those before it
pub followed_before : (links : ℕ → Link) (holder before pointer : ℕ) (link : Link) (walk noted_walk : Lists) → before + 1 ≡ pointer → link ≡ links before → noted_walk ≡ noted holder link walk
    → followed links holder before noted_walk ≡ followed links holder pointer walk
followed_before links holder before pointer link walk noted_walk next link_is noted_is =
    let step : suc before ≡ pointer = omega (arith, next) in
    ap (followed links holder before) (noted_is ∙ ap (λ l. noted holder l walk) link_is) ∙ ap (λ n. followed links holder n walk) step

-- nothing is marked in a walk that has seen nothing
module _ {T : Type 0} (nothing : T) where
  pub clear_entry : (places place : ℕ) → slice_index_or (replicate places nothing) place nothing ≡ nothing
  clear_entry zero place = refl
  clear_entry (suc places) zero = refl
  clear_entry (suc places) (suc place) = clear_entry places place

pub unseen_marks : (places : ℕ) → HasOwnMarks places (unseen places)
unseen_marks places = record {
  visited_size = length-replicate {A = Bool} places false;
  known_size = length-replicate {A = Known} places none_known;
  met = λ place. inl (clear_entry false places place);
  noted = λ place. inl (clear_entry none_known places place);
}
