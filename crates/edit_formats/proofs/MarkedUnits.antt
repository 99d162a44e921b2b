-- The writes of units of the map, one after another.
use Rattle.std.specs.Prelude.{◌≡◌, ◌<◌, ◌≤◌, ◌+◌, ℕ, Bool, Option, Some, None, List, [], ◌∷◌, ◌++◌, length, All, AllPairs, Contains, IsTrue}
use Rattle.std.proofs.Common.{refl, sym, ◌∙◌, ap, subst, arith, inl, inr}
use Rattle.std.proofs.lemmas.Bool.{cases_lt}
use Rattle.std.proofs.lemmas.List.{append-nil, append_assoc}
use Rattle.std.proofs.lemmas.List.Elements.{All-nil, All-push, All-contains, Contains-push, Contains-append_left}
use Rattle.std.proofs.lemmas.List.Quantifiers.{all_pairs_push}
use Rattle.a2_device.specs.Device.{DeviceState}
use Rattle.vol_format.specs.Directory.{Directory, map_place}
use Rattle.vol_format.specs.Laws.{IsDirectory}
use Rattle.vol_format.specs.Meaning.{Meaning}
use Rattle.vol_laws.specs.Markings.{marking_write}
use Rattle.edit_formats.specs.declared.writes.Prepared.{Prepared}
use Rattle.edit_formats.specs.Prepared.{write_of}
use Rattle.edit_formats.specs.Markings.{nearest, marked_in, HasMarkOf, IsMarking}
use Rattle.edit_formats.proofs.Nearest.{nearest_some}

module _ {A : Type 0} (format : Meaning) (free : Bool) (directory : Directory) (places : List ℕ) (old : DeviceState) (start : List (Prepared A)) where
  no_pairs : AllPairs (λ (write later : Prepared A). write.place < later.place) []
  no_pairs = λ i j d less inside. absurd (omega (arith, inside))

  pub none_marked : IsMarking format free directory places old start 0 start
  none_marked = record {
    marked = [];
    are = sym (append-nil start);
    below = All-nil (λ (write : Prepared A). write.place < 0);
    rising = no_pairs;
    inside = All-nil (λ (write : Prepared A). write.place < directory.places);
    sizes = All-nil (λ (write : Prepared A). length write.unit.items ≡ old.unit_size);
    own = All-nil (λ (write : Prepared A). HasMarkOf directory places write.place);
    each = λ place has below. absurd (omega (arith, below));
    prepared = λ honest. All-nil (λ (write : Prepared A). write_of write ≡ marking_write format free old.store
        (record { at = write.place; places = marked_in directory write.place places }));
  }

  -- one unit more
  module _ (from at : ℕ) (writes : List (Prepared A)) (was : IsMarking format free directory places old start from writes)
      (next : nearest directory from None places ≡ Some at) (within : at < directory.places)
      (write : Prepared A) (place : write.place ≡ at) (size : length write.unit.items ≡ old.unit_size)
      (is : IsTrue old.honest → write_of write ≡ marking_write format free old.store (record { at = at; places = marked_in directory at places })) where
    abbrev found : (from ≤ at) × HasMarkOf directory places at × ((place : ℕ) → Contains places place → from ≤ map_place directory place → at ≤ map_place directory place)
    found = nearest_some directory from places at next

    each_more : (p : ℕ) → Contains places p → map_place directory p < at + 1
        → (w : Prepared A) × Contains (was.marked ++ write ∷ []) w × (w.place ≡ map_place directory p)
    each_more p has below = elim (cases_lt (map_place directory p) from) [
      | inl low ↦
          let before = was.each p has low in
          (before.0, Contains-append_left was.marked (write ∷ []) before.0 before.1, before.2)
      | inr high ↦ (write, Contains-push was.marked write, omega (arith, place, found.2 p has high, below))
    ]

    pub one_marked : IsMarking format free directory places old start (at + 1) (writes ++ write ∷ [])
    one_marked = record {
      marked = was.marked ++ write ∷ [];
      are = ap (λ (l : List (Prepared A)). l ++ write ∷ []) was.are ∙ append_assoc start was.marked (write ∷ []);
      below = All-push (λ (w : Prepared A). w.place < at + 1) was.marked write (λ i d inside. omega (arith, was.below i d inside, found.0)) (omega (arith, place));
      rising = all_pairs_push (λ (w later : Prepared A). w.place < later.place) was.marked write was.rising
          (λ k d inside. omega (arith, was.below k d inside, found.0, place));
      inside = All-push (λ (w : Prepared A). w.place < directory.places) was.marked write was.inside (omega (arith, place, within));
      sizes = All-push (λ (w : Prepared A). length w.unit.items ≡ old.unit_size) was.marked write was.sizes size;
      own = All-push (λ (w : Prepared A). HasMarkOf directory places w.place) was.marked write was.own (subst (HasMarkOf directory places) (sym place) found.1);
      each = each_more;
      prepared = λ honest. All-push (λ (w : Prepared A). write_of w ≡ marking_write format free old.store
          (record { at = w.place; places = marked_in directory w.place places })) was.marked write (was.prepared honest)
          (subst (λ n. write_of write ≡ marking_write format free old.store (record { at = n; places = marked_in directory n places })) (sym place) (is honest));
    }

-- a unit of the map is a place of the volume
pub unit_inside : (format : Meaning) (directory : Directory) → IsDirectory format directory → (places : List ℕ) → All (λ place. place < directory.places) places
    → (from at : ℕ) → nearest directory from None places ≡ Some at → at < directory.places
unit_inside format directory is places below from at next =
    let found = nearest_some directory from places at next in
    let has = found.1 in
    subst (λ n. n < directory.places) has.2 (is.map_below has.0 (All-contains (λ place. place < directory.places) places has.0 below has.1))

pub above_from : (directory : Directory) (from at : ℕ) (places : List ℕ) → nearest directory from None places ≡ Some at → from ≤ at
above_from directory from at places next = (nearest_some directory from places at next).0

pub not_some : (found : Option ℕ) → ((at : ℕ) → found ≡ Some at → ⊥) → found ≡ None
not_some None none = refl
not_some (Some at) none = absurd (none at refl)
