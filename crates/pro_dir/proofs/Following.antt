-- One link further.
use Rattle.std.proofs.Common.{◌≡◌, ◌≢◌, ℕ, ◌<◌, ◌≤◌, Bool, true, false, List, [], ◌∷◌, ◌++◌, length, refl, sym, ◌∙◌, ap, subst, arith, inl, inr, ⊎_elim, append_assoc, append-nil}
use Rattle.std.specs.Prelude.{◌⊎◌, Result, Ok, Err, IsErrAnd, IfErr, Option, None, slice_get}
use Rattle.std.specs.Option.{option_or}
use Rattle.std.specs.List.{Contains}
use Rattle.std.proofs.lemmas.Grind.{flat_map-append}
use Rattle.a2_device.specs.Device.{unit_at}
use Rattle.a2_device.specs.declared.fault.Fault.TheVariants.{DirLink, Geometry}
use Rattle.a2_device.specs.declared.fault.WalkError.{WalkError}
use Rattle.pro_dir.specs.Entry.{free_slots_of, free_slots_in}
use Rattle.pro_dir.specs.Tree.{CanLink, HasBadLink, HasKind, HasSizes, SubdirectoryFaultAt, next_of}
use Rattle.pro_dir.specs.lemmas.TreeLaws.{leads_on}
use Rattle.pro_dir.specs.Walk.{IsTable, IsFollowing, IsReadOut, IsVolumeKey, is_met, first_free_of}
use Rattle.pro_dir.proofs.Slots.{first_free_of-is, first-append}

-- the first free slot, one block further
free_on : (store : List (List ℕ)) (key : ℕ) (blocks : List ℕ) (next : ℕ) (here : List ℕ) (free first : Option (ℕ × ℕ)) → free ≡ slice_get (free_slots_in store key blocks) 0
    → first ≡ option_or free (first_free_of key next here) → here ≡ unit_at store next → first ≡ slice_get (free_slots_in store key (blocks ++ next ∷ [])) 0
free_on store key blocks next here free first is first_is here_is =
    let slots : ℕ → List (ℕ × ℕ) = λ place. free_slots_of key place (unit_at store place) in
    first_is
    ∙ ap (option_or free) (first_free_of-is key next here)
    ∙ ap (λ o. option_or o (slice_get (free_slots_of key next here) 0)) is
    ∙ ap (λ u. option_or (slice_get (free_slots_in store key blocks) 0) (slice_get (free_slots_of key next u) 0)) here_is
    ∙ sym (first-append (free_slots_in store key blocks) (slots next))
    ∙ ap (λ s. slice_get (free_slots_in store key blocks ++ s) 0) (sym (append-nil (slots next)))
    ∙ ap (λ s. slice_get s 0) (sym (flat_map-append slots blocks (next ∷ [])))

pub followed_on : (store : List (List ℕ)) (key : ℕ) (before blocks longer : List ℕ) (free first : Option (ℕ × ℕ)) (holder : ℕ) (unit here : List ℕ) (next : ℕ)
    → IsFollowing store key before blocks free holder unit → CanLink store next → next ≡ next_of unit
    → longer ≡ blocks ++ next ∷ [] → first ≡ option_or free (first_free_of key next here) → here ≡ unit_at store next
    → IsFollowing store key before longer first next here
followed_on store key before blocks longer free first holder unit here next following can named longer_is first_is here_is = record {
  rest = following.rest ++ next ∷ [];
  is = longer_is ∙ ap (λ bs. bs ++ next ∷ []) following.is ∙ append_assoc before (key ∷ following.rest) (next ∷ []);
  can_link = following.can_link;
  leads = leads_on store key following.rest holder next following.leads can (named ∙ ap next_of following.here);
  here = here_is;
  first = free_on store key (key ∷ following.rest) next here free first following.first first_is here_is;
}

-- the key block of a directory
followed_first : (store : List (List ℕ)) (key : ℕ) (before blocks : List ℕ) (free first : Option (ℕ × ℕ)) (here : List ℕ)
    → free ≡ None → blocks ≡ before ++ key ∷ [] → first ≡ option_or free (first_free_of key key here) → here ≡ unit_at store key → CanLink store key
    → IsFollowing store key before blocks first key here
followed_first store key before blocks free first here none blocks_is first_is here_is can = record {
  rest = [];
  is = blocks_is;
  can_link = can;
  leads = refl;
  here = here_is;
  first = free_on store key [] key here free first none first_is here_is;
}

-- a link that is to no new block is to none or to one that was met
pub not_new_is : (store : List (List ℕ)) (places : ℕ) (met : List Bool) (blocks : List ℕ) (next : ℕ) → length store ≡ places → IsTable places met blocks
    → (¬ ((2 ≤ next) × (next < places) × (is_met met next ≡ false))) → (¬ CanLink store next) ⊎ Contains blocks next
not_new_is store places met blocks next size table not_new = by_met (is_met met next) refl
  where
    by_met : (m : Bool) → is_met met next ≡ m → (¬ CanLink store next) ⊎ Contains blocks next
    by_met true is = inr (table.has next is)
    by_met false is = inl (λ can. not_new (can.0, omega (arith, can.1, size), is))

-- the fault of a subdirectory: its key block is none or was met, has no header of a subdirectory, or one with other sizes
pub no_key : (store : List (List ℕ)) (places : ℕ) (met : List Bool) (before : List ℕ) (holder key named : ℕ) → length store ≡ places → IsTable places met before → named ≡ key
    → (¬ ((2 ≤ named) × (named < places) × (is_met met named ≡ false))) → SubdirectoryFaultAt store before holder key (DirLink holder)
no_key store places met before holder key named size table is not_new =
    subst (λ k. SubdirectoryFaultAt store before holder k (DirLink holder)) is
    (inl (refl, ⊎_elim (λ none. inl none) (λ has. inr (inl has)) (not_new_is store places met before named size table not_new)))

pub no_kind : (store : List (List ℕ)) (before : List ℕ) (holder key named : ℕ) (unit : List ℕ) → named ≡ key → unit ≡ unit_at store named → (¬ HasKind 0x0e unit)
    → SubdirectoryFaultAt store before holder key (DirLink holder)
no_kind store before holder key named unit is here none =
    subst (λ k. SubdirectoryFaultAt store before holder k (DirLink holder)) is (inl (refl, inr (inr (subst (λ u. ¬ HasKind 0x0e u) here none))))

pub no_sizes : (store : List (List ℕ)) (before : List ℕ) (holder key named : ℕ) (unit : List ℕ) → named ≡ key → unit ≡ unit_at store named → CanLink store named
    → HasKind 0x0e unit → (¬ HasSizes unit) → SubdirectoryFaultAt store before holder key (Geometry named)
no_sizes store before holder key named unit is here can kind none =
    subst (λ k. SubdirectoryFaultAt store before holder k (Geometry named)) is
    (refl, can, subst (HasKind 0x0e) here kind, subst (λ u. ¬ HasSizes u) here none)

-- a bad link
pub bad_link : (store : List (List ℕ)) (places : ℕ) (met : List Bool) (key : ℕ) (before blocks : List ℕ) (free : Option (ℕ × ℕ)) (holder : ℕ) (unit : List ℕ) (next : ℕ)
    → length store ≡ places → IsTable places met blocks → IsFollowing store key before blocks free holder unit → next ≡ next_of unit → next ≢ 0
    → (¬ ((2 ≤ next) × (next < places) × (is_met met next ≡ false))) → HasBadLink store before key holder
bad_link store places met key before blocks free holder unit next size table following named on not_new =
    let is : next ≡ next_of (unit_at store holder) = named ∙ ap next_of following.here in
    record {
      rest = following.rest;
      leads = following.leads;
      linked_on = λ none. on (is ∙ none);
      bad = subst (λ n. (¬ CanLink store n) ⊎ Contains (before ++ key ∷ following.rest) n) is
          (subst (λ bs. (¬ CanLink store next) ⊎ Contains bs next) following.is (not_new_is store places met blocks next size table not_new));
    }

-- a directory that was read to its end
pub read_out : (store : List (List ℕ)) (key : ℕ) (before blocks : List ℕ) (free : Option (ℕ × ℕ)) (holder : ℕ) (unit : List ℕ)
    → IsFollowing store key before blocks free holder unit → next_of unit ≡ 0 → IsReadOut store key before blocks free
read_out store key before blocks free holder unit following ends = record {
  own = key ∷ following.rest;
  run = record {
    rest = following.rest;
    last = holder;
    is = refl;
    can_link = following.can_link;
    leads = following.leads;
    ends = subst (λ u. next_of u ≡ 0) following.here ends;
  };
  is = following.is;
  first = following.first;
}

-- the key block of a directory is read
pub opened : (store : List (List ℕ)) (key named stored : ℕ) (before blocks : List ℕ) (free first : Option (ℕ × ℕ)) (here : List ℕ)
    → named ≡ key → stored ≡ named → free ≡ None → blocks ≡ before ++ key ∷ []
    → first ≡ option_or free (first_free_of named key here) → here ≡ unit_at store key → CanLink store key
    → IsFollowing store stored before blocks first stored here
opened store key named stored before blocks free first here is is_stored none blocks_is first_is here_is can =
    subst (λ n. IsFollowing store n before blocks first n here) (sym (is_stored ∙ is))
    (followed_first store key before blocks free first here none blocks_is (first_is ∙ ap (λ n. option_or free (first_free_of n key here)) is) here_is can)

-- the key block of the volume's directory is taken, the first of all
pub volume_opened : (store : List (List ℕ)) (named stored : ℕ) (old blocks : List ℕ) (free first : Option (ℕ × ℕ)) (unit : List ℕ)
    → IsVolumeKey store unit → 2 < length store → named ≡ 2 → stored ≡ named → free ≡ None → old ≡ [] → blocks ≡ old ++ 2 ∷ []
    → first ≡ option_or free (first_free_of named 2 unit) → IsFollowing store stored [] blocks first stored unit
volume_opened store named stored old blocks free first unit key within is is_stored none old_is blocks_is first_is =
    opened store 2 named stored [] blocks free first unit is is_stored none (blocks_is ∙ ap (λ bs. bs ++ 2 ∷ []) old_is) first_is key.here (omega arith, within)

-- an error that is handed on
pub refused_so : {T : Type 0} → (result : Result T WalkError) (error : WalkError) (P : WalkError → Type 0) → IsErrAnd result (λ e. e ≡ error) → P error → IfErr result P
refused_so (Ok value) error P is p = tt
refused_so (Err e) error P is p = subst P (sym is) p
