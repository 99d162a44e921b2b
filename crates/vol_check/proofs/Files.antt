-- What one file's walk does, over what its calls ensure.
use Rattle.std.proofs.Common.{◌≡◌, ℕ, ◌+◌, ◌<◌, List, [], ◌∷◌, ◌++◌, length, replicate, count_by, cond, zero-add, zero, suc, Bool, true, false, refl, sym, ◌∙◌, ap, subst, arith}
use Rattle.std.specs.Prelude.{not}
use Rattle.std.specs.List.{Contains}
use Rattle.std.proofs.lemmas.List.Sums.{sum_by-cons}
use Rattle.std.proofs.Math.ListN.{length-replicate}
use Rattle.vol_format.specs.declared.link.Link.{Link}
use Rattle.vol_format.specs.declared.link.Link.TheVariants.{Null}
use Rattle.vol_format.specs.Directory.{Directory, entries, entry_of, root_of}
use Rattle.vol_format.specs.Meaning.{Meaning}
use Rattle.vol_format.specs.Laws.{IsReadable, IsDirectory}
use Rattle.vol_check.specs.declared.walk.Pending.{Pending}
use Rattle.vol_check.specs.declared.walk.Pending.TheVariants.{Visit, Tell}
use Rattle.vol_check.specs.Walk.{Lists, IsSound, unseen, noted, after_next, next_unit}
use Rattle.vol_check.specs.Walking.{IsWalking, None}
use Rattle.vol_check.proofs.Marks.{clear_entry}
use Rattle.vol_check.proofs.Pushed.{in_none, at_end}
use Rattle.vol_check.proofs.Steps.{fault_told}
use Rattle.vol_check.proofs.Visits.{rooted, visited, started}
use Rattle.vol_check.proofs.Room.{noted_sound}

all_unvisited : (n : ℕ) → count_by not (replicate n false) ≡ n
all_unvisited zero = refl
all_unvisited (suc n) = omega (arith, sum_by-cons (λ b. cond (not b) 1 0) false (replicate n false), all_unvisited n)

true_is_not_false : (b : Bool) → b ≡ false → b ≡ true → ⊥
true_is_not_false b is other = cc

module _ (format : Meaning) (laws : IsReadable format) (directory : Directory) where
  pub root_sound : (of : IsDirectory format directory) (file holder : ℕ) (link : Link) (walk new : Lists)
      → format.Takes directory.places → file < entries directory → link ≡ root_of directory file → new ≡ noted holder link walk
      → IsSound format directory walk → IsSound format directory new
  root_sound of file holder link walk new takes within link_is new_is sound =
      subst (IsSound format directory) (sym new_is) (noted_sound format laws directory takes holder link walk sound
      (λ part is. (
        of.root_place file part (sym link_is ∙ is),
        omega (arith, of.root_depth file part (sym link_is ∙ is)),
        omega (arith, of.root_file file part (sym link_is ∙ is)),
      )))

  pub start_sound : (walk : Lists) → walk ≡ unseen directory.places → IsSound format directory walk
  start_sound walk is = subst (IsSound format directory) (sym is) (record {
    size = length-replicate {A = Bool} directory.places false;
    used = zero-add _ ∙ all_unvisited directory.places;
    part_place = λ p h. absurd (in_none p h);
    part_file = λ p h. absurd (in_none p h);
    outside_system = λ p h. absurd (in_none p h);
    met = λ p h. absurd (in_none p h);
    by_part = λ place h. absurd (true_is_not_false _ (clear_entry false directory.places place) h);
    apart = λ i j d less within. absurd (omega (arith, within));
    waiting_place = λ p h. absurd (in_none (Visit p) h);
    waiting_depth = λ p h. absurd (in_none (Visit p) h);
    waiting_file = λ p h. absurd (in_none (Visit p) h);
  })

  pub start_walking : (store : List (List ℕ)) (roots : ℕ) → ((file : ℕ) → file < roots → root_of directory file ≡ Null) → (walk : Lists) → walk ≡ unseen directory.places
      → IsWalking format directory store roots None walk
  start_walking store roots null walk is = subst (IsWalking format directory store roots None) (sym is)
      (started format laws directory store roots null (unseen directory.places) refl refl refl (clear_entry false directory.places))

  module _ (store : List (List ℕ)) where
    pub root_walking : (of : IsDirectory format directory) (file holder : ℕ) (link : Link) (walk new : Lists)
        → holder ≡ (entry_of directory file).place → link ≡ root_of directory file → new ≡ noted holder link walk
        → file < entries directory → walk.pending ≡ []
        → IsWalking format directory store file None walk → IsWalking format directory store (file + 1) None new
    root_walking of file holder link walk new holder_is link_is new_is within empty walking =
        let there : new ≡ noted (entry_of directory file).place (root_of directory file) walk =
        new_is ∙ ap (λ h. noted h link walk) holder_is ∙ ap (λ l. noted (entry_of directory file).place l walk) link_is in
        subst (IsWalking format directory store (file + 1) None) (sym there) (rooted format laws directory store file walk of within empty walking)

    pub next_walking : (roots : ℕ) (walk new : Lists) (rest : List Pending) (next : Pending) → IsSound format directory walk → IsWalking format directory store roots None walk
        → walk.pending ≡ rest ++ next ∷ [] → directory.places ≡ length store
        → new ≡ after_next format directory next (next_unit store next) (record walk { pending = rest })
        → IsWalking format directory store roots None new
    next_walking roots walk new rest (Visit part) sound walking on_top as_many new_is =
        let waits : Contains walk.pending (Visit part) = subst (λ (ps : List Pending). Contains ps (Visit part)) (sym on_top) (at_end rest (Visit part)) in
        subst (IsWalking format directory store roots None) (sym new_is)
        (visited format laws directory store roots walk rest part walking on_top (omega (arith, sound.size, sound.waiting_place part waits)) as_many)
    next_walking roots walk new rest (Tell fault) sound walking on_top as_many new_is =
        subst (IsWalking format directory store roots None) (sym new_is) (fault_told format laws directory store roots walk rest fault walking on_top)
