-- A folder that is removed with all in it.
use Rattle.std.proofs.Common.{◌≡◌, ◌≢◌, ◌∙◌, Bool, true, false, [], ◌++◌, Option, Ok, Err, None, Result, OnErr, OnOk, ap, append-nil, bytes_eq, drop, if◌then◌else◌, inl, inr, length, nat_eq, refl, subst, sym, take, take-append-drop, ⊎_elim}
use Rattle.std.specs.List.{starts_with}
use Rattle.std.specs.Path.{with_separator}
use Rattle.std.specs.declared.io.Error.{Error}
use Rattle.std.proofs.lemmas.Bool.{cases_Bool}
use Rattle.std.proofs.lemmas.Slice.Eq.{bytes_eq-Decides}
use Rattle.shop_host.specs.State.{Content, Path}
use Rattle.shop_host.specs.Paths.{in_folder}
use Rattle.shop_host.specs.Calls.{RemovesFolder}
use Rattle.memory_host.specs.declared.journal.Change.TheVariants.{Emptied}
use Rattle.memory_host.specs.declared.store.Store.{Store}
use Rattle.memory_host.specs.Journal.{content_after, done, memory_state}

not_at : (path other : Path) → other ≢ path → bytes_eq path other ≡ false
not_at path other elsewhere =
    ⊎_elim (λ is. absurd (elsewhere (sym ((bytes_eq-Decides path other).0 is)))) (λ is. is) (cases_Bool (bytes_eq path other))

below : (path other : Path) → starts_with nat_eq other (in_folder path []) ≡ true → (rest : Path) × (other ≡ in_folder path rest)
below path other is =
    let within = in_folder path [] in
    let rest = drop (length within) other in
    let front : within ≡ take (length within) other = (bytes_eq-Decides within (take (length within) other)).0 is in
    (rest, sym (take-append-drop (length within) other) ∙ (ap (λ f. f ++ rest) (sym front) ∙ ap (λ f. f ++ rest) (append-nil (with_separator path))))

not_below : (path other : Path) → (¬ ((rest : Path) × (other ≡ in_folder path rest)))
    → starts_with nat_eq other (in_folder path []) ≡ false
not_below path other outside =
    ⊎_elim (λ is. absurd (outside (below path other is))) (λ is. is) (cases_Bool (starts_with nat_eq other (in_folder path [])))

both : {X : Type 0} (a b : Bool) (x y z : X) → a ≡ false → b ≡ false → (if a then x else (if b then y else z)) ≡ z
both a b x y z not_a not_b = rw (not_a, not_b) refl

-- a file that does not stand there stays
elsewhere : (path other : Path) (now : Option Content) → other ≢ path → (¬ ((rest : Path) × (other ≡ in_folder path rest)))
    → content_after path Emptied other now ≡ now
elsewhere path other now apart outside =
    both (bytes_eq path other) (starts_with nat_eq other (in_folder path [])) None None now (not_at path other apart) (not_below path other outside)

pub emptied : (path : Path) (result : Result (Unit {0}) Error) (old between new : Store) → between ≡ old
    → OnOk result (memory_state new ≡ done path Emptied (memory_state between))
    → OnErr result (memory_state new ≡ memory_state between)
    → RemovesFolder path result (memory_state old) (memory_state new)
emptied path (Ok v) old between new same was failed =
    let is : memory_state new ≡ done path Emptied (memory_state old) = was ∙ ap (λ (s : Store). done path Emptied (memory_state s)) same in
    subst (RemovesFolder path (Ok v) (memory_state old)) (sym is) (record {
      noted = record { honest = refl; leads = refl; input = refl; noted = inl refl; refused = λ request known. known };
      same = λ other apart outside. elsewhere path other ((memory_state old).files other) apart outside;
      refused = tt;
    })
emptied path (Err e) old between new same was failed =
    let is : memory_state new ≡ memory_state old = failed ∙ ap memory_state same in
    subst (RemovesFolder path (Err e) (memory_state old)) (sym is) (record {
      noted = record { honest = refl; leads = refl; input = refl; noted = inr (refl, refl); refused = λ request known. known };
      same = λ other apart outside. refl;
      refused = refl;
    })
