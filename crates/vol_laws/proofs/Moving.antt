-- A move of one part, from what a write does to the tree of parts and to their contents.
use Rattle.std.specs.Prelude.{◌≡◌, ◌≢◌, ◌⊎◌, ◌==◌, ◌<◌, ℕ, Bool, true, false, if◌then◌else◌, List, slice_index_or}
use Rattle.std.proofs.Common.{refl, sym, ◌∙◌, ap, subst, arith, inl, inr}
use Rattle.std.proofs.lemmas.Bool.{cases_eq}
use Rattle.std.proofs.lemmas.Bool.Decides.{nat_tests}
use Rattle.a2_device.specs.Device.{unit_at}
use Rattle.a2_device.specs.declared.part.Part.{Part}
use Rattle.vol_format.specs.declared.link.Link.TheVariants.{Wild, OtherType}
use Rattle.vol_format.specs.Accepted.{IsAccepted, IsSound}
use Rattle.vol_format.specs.Directory.{Directory, entries, root_of, is_system, is_free, IsSameFrame}
use Rattle.vol_format.specs.Laws.{IsMovable}
use Rattle.vol_format.specs.Meaning.{Meaning, link_from}
use Rattle.vol_format.specs.Reach.{Reach, SameContents}
use Rattle.vol_format.specs.Standing.{at_place}
use Rattle.vol_format.proofs.Frames.{same_places, same_system}
use Rattle.vol_laws.specs.Kept.{IsUnreached}
use Rattle.vol_laws.specs.Moved.{moved, HasMoved}

pub stays : (part : Part) (place : ℕ) (other : Part) → other.place ≢ part.place → moved part place other ≡ other
stays part place other differ = by_test (other.place == part.place) refl
  where
    by_test : (same : Bool) → (other.place == part.place) ≡ same → (if same then at_place other place else other) ≡ other
    by_test true is = let e : other.place ≡ part.place = grind (arith, nat_tests) in absurd (differ e)
    by_test false is = refl

pub goes : (part : Part) (place : ℕ) (other : Part) → other.place ≡ part.place → moved part place other ≡ at_place other place
goes part place other same = by_test (other.place == part.place) refl
  where
    by_test : (test : Bool) → (other.place == part.place) ≡ test → (if test then at_place other place else other) ≡ at_place other place
    by_test true is = refl
    by_test false is = let e : other.place ≢ part.place = grind (arith, nat_tests) in absurd (e same)

-- what is true of a part at the place and where it was is true of it where it stands now
pub wherever : (part : Part) (place : ℕ) (other : Part) (P : Part → Type 0) → P (at_place other place) → P other → P (moved part place other)
wherever part place other P there here = by_test (other.place == part.place)
  where
    by_test : (same : Bool) → P (if same then at_place other place else other)
    by_test true = there
    by_test false = here

module _ (format : Meaning) (movable : IsMovable format) (before after : Directory) (part : Part) (place : ℕ) (old new : List (List ℕ))
    (frame : IsSameFrame before after) (accepted : IsAccepted format before old) (unreached : IsUnreached format before old place)
    (keeps : (other : Part) → Reach format before old other → Reach format after new (moved part place other))
    (adds_none : (now : Part) → Reach format after new now → (other : Part) × Reach format before old other × (now ≡ moved part place other)) where
  apart : (x y : Part) → Reach format before old x → Reach format before old y → (moved part place x).place ≡ (moved part place y).place → moved part place x ≡ moved part place y
  apart x y hx hy same = by_cases (cases_eq x.place part.place) (cases_eq y.place part.place)
    where
      by_cases : (x.place ≡ part.place) ⊎ (x.place ≡ part.place → ⊥) → (y.place ≡ part.place) ⊎ (y.place ≡ part.place → ⊥) → moved part place x ≡ moved part place y
      by_cases (inl at_x) (inl at_y) = ap (moved part place) (accepted.once x y hx hy (at_x ∙ sym at_y))
      by_cases (inl at_x) (inr at_y) =
          absurd (unreached y hy (ap (λ (z : Part). z.place) (sym (stays part place y at_y)) ∙ sym same ∙ ap (λ (z : Part). z.place) (goes part place x at_x)))
      by_cases (inr at_x) (inl at_y) =
          absurd (unreached x hx (ap (λ (z : Part). z.place) (sym (stays part place x at_x)) ∙ same ∙ ap (λ (z : Part). z.place) (goes part place y at_y)))
      by_cases (inr at_x) (inr at_y) =
          ap (moved part place) (accepted.once x y hx hy (ap (λ (z : Part). z.place) (sym (stays part place x at_x)) ∙ same ∙ ap (λ (z : Part). z.place) (stays part place y at_y)))

  moved_accepted : format.Describes new after → ((file : ℕ) → file < entries after → root_of after file ≢ Wild) → ((file : ℕ) → file < entries after → root_of after file ≢ OtherType)
      → ((other : Part) (i : ℕ) → Reach format before old other → link_from format new (moved part place other) i ≢ Wild)
      → ((at : ℕ) → is_free after at ≡ is_free before at) → is_system before place ≡ false → is_free before place ≡ false → IsAccepted format after new
  moved_accepted described no_wild no_other_type links free outside marked = record {
    described = described;
    no_wild = no_wild;
    no_other_type = no_other_type;
    sound = λ now reach.
        let was = adds_none now reach in
        let sound = accepted.sound was.0 was.1 in
        subst (IsSound format after new) (sym was.2) (record {
          no_wild = λ i. links was.0 i was.1;
          outside_system = same_system before after frame (moved part place was.0).place
              ∙ wherever part place was.0 (λ x. is_system before x.place ≡ false) outside sound.outside_system;
          marked = free (moved part place was.0).place ∙ wherever part place was.0 (λ x. is_free before x.place ≡ false) marked sound.marked;
        });
    once = λ x y hx hy same.
        let was_x = adds_none x hx in
        let was_y = adds_none y hy in
        was_x.2 ∙ apart was_x.0 was_y.0 was_x.1 was_y.1 (ap (λ (z : Part). z.place) (sym was_x.2) ∙ same ∙ ap (λ (z : Part). z.place) was_y.2) ∙ sym was_y.2;
  }

  module _ (contents : (other : Part) → Reach format before old other
      → format.content before.places other (unit_at new (moved part place other).place) ≡ format.content before.places other (unit_at old other.place)) where
    content_now : (other : Part) → Reach format before old other
        → format.content after.places (moved part place other) (unit_at new (moved part place other).place) ≡ format.content before.places other (unit_at old other.place)
    content_now other reach =
        ap (λ n. format.content n (moved part place other) (unit_at new (moved part place other).place)) (same_places before after frame)
        ∙ wherever part place other
        (λ x. format.content before.places x (unit_at new (moved part place other).place) ≡ format.content before.places other (unit_at new (moved part place other).place))
        (movable.content_free before.places other place (unit_at new (moved part place other).place)) refl
        ∙ contents other reach

    moved_contents : SameContents format before after old new
    moved_contents file kind number content = (
      λ has. record {
        part = moved part place has.part;
        reached = keeps has.part has.reached;
        in_file = wherever part place has.part (λ x. x.file ≡ file) has.in_file has.in_file;
        of_kind = wherever part place has.part (λ x. x.kind ≡ kind) has.of_kind has.of_kind;
        numbered = wherever part place has.part (λ x. x.number ≡ number) has.numbered has.numbered;
        is = content_now has.part has.reached ∙ has.is;
      },
      λ has.
          let was = adds_none has.part has.reached in
          let other = was.0 in
          record {
            part = other;
            reached = was.1;
            in_file = wherever part place other (λ x. other.file ≡ x.file) refl refl ∙ ap (λ (x : Part). x.file) (sym was.2) ∙ has.in_file;
            of_kind = wherever part place other (λ x. other.kind ≡ x.kind) refl refl ∙ ap (λ (x : Part). x.kind) (sym was.2) ∙ has.of_kind;
            numbered = wherever part place other (λ x. other.number ≡ x.number) refl refl ∙ ap (λ (x : Part). x.number) (sym was.2) ∙ has.numbered;
            is = sym (content_now other was.1)
                ∙ ap (λ (x : Part). format.content after.places x (unit_at new x.place)) (sym was.2) ∙ has.is;
          },
    )

    -- the part has moved
    pub has_moved : after.free ≡ before.free → format.Describes new after
        → ((file : ℕ) → file < entries after → root_of after file ≢ Wild) → ((file : ℕ) → file < entries after → root_of after file ≢ OtherType)
        → ((other : Part) (i : ℕ) → Reach format before old other → link_from format new (moved part place other) i ≢ Wild)
        → is_system before place ≡ false → is_free before place ≡ false → HasMoved format before after part place old new
    has_moved free described no_wild no_other_type links outside marked = record {
      frame = frame;
      free = free;
      accepted = moved_accepted described no_wild no_other_type links (λ at. ap (λ (marks : List Bool). slice_index_or marks at false) free) outside marked;
      keeps = keeps;
      adds_none = adds_none;
      contents = moved_contents;
    }
