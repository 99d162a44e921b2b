-- A pointer in the unit of a part that is set to a copy of the part that it names.
use Rattle.std.specs.Prelude.{◌≡◌, ◌≢◌, ◌==◌, ◌<◌, ℕ, Bool, true, false, List, [], length, slice_set}
use Rattle.std.proofs.Common.{refl, sym, ◌∙◌, ap, subst, arith}
use Rattle.std.proofs.lemmas.List.{get_or-set_same, get_or-set_other}
use Rattle.std.proofs.Math.ListN.{length-set}
use Rattle.std.proofs.lemmas.Bool.Decides.{nat_tests}
use Rattle.a2_device.specs.Device.{unit_at}
use Rattle.a2_device.specs.declared.part.Part.{Part}
use Rattle.vol_format.specs.declared.link.Link.{Link}
use Rattle.vol_format.specs.declared.link.Link.TheVariants.{Null, Wild, Directory as ToDirectory, OtherType, To}
use Rattle.vol_format.specs.Accepted.{IsAccepted}
use Rattle.vol_format.specs.Directory.{Directory, entries, root_of, is_system, is_free}
use Rattle.vol_format.specs.Laws.{IsReadable, IsMovable}
use Rattle.vol_format.specs.Meaning.{Meaning, link_from}
use Rattle.vol_format.specs.Reach.{Reach, at_root, at_child}
use Rattle.vol_format.specs.Standing.{at_place}
use Rattle.vol_laws.specs.Kept.{IsUnreached}
use Rattle.vol_laws.specs.Moved.{moved, HasMoved}
use Rattle.vol_laws.proofs.Identity.{named, one_part, root_no_child}
use Rattle.vol_laws.proofs.Moving.{stays, goes, has_moved}

module _ (format : Meaning) (laws : IsReadable format) (movable : IsMovable format) (directory : Directory) (store : List (List ℕ))
    (accepted : IsAccepted format directory store) (part holder : Part) (i place : ℕ) (held : Reach format directory store holder)
    (link : link_from format store holder i ≡ To part) (copied : unit_at store place ≡ unit_at store part.place) (unreached : IsUnreached format directory store place)
    (can_name : format.CanName (length store) place) (within : holder.place < length store) (full : length (unit_at store holder.place) ≡ format.unit_size) where
  unfoldable written : List ℕ
  written = format.with_pointer (unit_at store holder.place) i place

  abbrev after : List (List ℕ)
  after = slice_set store holder.place written

  files : (file : ℕ) (x : Part) → root_of directory file ≡ To x → x.file ≡ file
  files = (movable.described store directory accepted.described).root_file

  reach_part : Reach format directory store part
  reach_part = at_child i held link

  -- a pointer that names the part is this one
  only_slot : (x y : Part) (j : ℕ) → Reach format directory store x → link_from format store x j ≡ To y → y.place ≡ part.place → (x ≡ holder) × (j ≡ i)
  only_slot x y j reach is same =
      let y_is : y ≡ part = accepted.once y part (at_child j reach is) reach_part same in
      let x_file = laws.child_file (length store) x y (unit_at store x.place) j is in
      let h_file = laws.child_file (length store) holder part (unit_at store holder.place) i link in
      let file : x.file ≡ holder.file = sym x_file ∙ ap (λ (z : Part). z.file) y_is ∙ h_file in
      let slot = movable.one_slot (length store) x holder y part (unit_at store x.place) (unit_at store holder.place) j i file is link
      (ap (λ (z : Part). z.kind) y_is) (ap (λ (z : Part). z.number) y_is) in
      (one_part format laws directory store files movable x holder reach held file slot.0 slot.1, slot.2)

  root_elsewhere : (x : Part) (file : ℕ) → file < entries directory → root_of directory file ≡ To x → x.place ≢ part.place
  root_elsewhere x file inside is same =
      let x_is : x ≡ part = accepted.once x part (at_root file inside is) reach_part same in
      root_no_child format laws directory store files holder part i file held link (is ∙ ap To x_is)

  not_itself : holder.place ≢ part.place
  not_itself same =
      let h_is : holder ≡ part = accepted.once holder part held reach_part same in
      let above = laws.child_later (length store) holder part (unit_at store holder.place) i link in
      absurd (omega (arith, above, ap format.rank h_is))

  -- what a pointer names now
  unfoldable relink : Link → Link
  relink (To x) = To (moved part place x)
  relink other = other

  same_length : length after ≡ length store
  same_length = length-set {A = List ℕ} store holder.place written

  unit_elsewhere : (at : ℕ) → at ≢ holder.place → unit_at after at ≡ unit_at store at
  unit_elsewhere at differ = get_or-set_other store holder.place at written [] differ

  unit_here : unit_at after holder.place ≡ written
  unit_here = get_or-set_same store holder.place written [] within

  unmoved : (other : Link) → ((x : Part) → other ≡ To x → x.place ≢ part.place) → relink other ≡ other
  unfolding relink
  unmoved (To x) elsewhere = ap To (stays part place x (elsewhere x refl))
  unmoved Null elsewhere = refl
  unmoved Wild elsewhere = refl
  unmoved ToDirectory elsewhere = refl
  unmoved OtherType elsewhere = refl

  relink_to : (x : Part) → relink (To x) ≡ To (moved part place x)
  unfolding relink
  relink_to x = refl

  relinked : (other : Link) (x : Part) → relink other ≡ To x → (y : Part) × (other ≡ To y) × (x ≡ moved part place y)
  unfolding relink
  relinked (To y) x is = (y, refl, sym (named (moved part place y) x is))
  relinked Null x is = absurd (cc)
  relinked Wild x is = absurd (cc)
  relinked ToDirectory x is = absurd (cc)
  relinked OtherType x is = absurd (cc)

  unwild : (other : Link) → relink other ≡ Wild → other ≡ Wild
  unfolding relink
  unwild (To x) is = absurd (cc)
  unwild Null is = absurd (cc)
  unwild Wild is = refl
  unwild ToDirectory is = absurd (cc)
  unwild OtherType is = absurd (cc)

  -- a pointer but the one that was set
  other_slot : (x : Part) (j : ℕ) → Reach format directory store x → ((x ≡ holder) × (j ≡ i) → ⊥) → link_from format after (moved part place x) j ≡ link_from format store x j
      → link_from format after (moved part place x) j ≡ relink (link_from format store x j)
  other_slot x j reach other same = same ∙ sym (unmoved (link_from format store x j) (λ y is at. other (only_slot x y j reach is at)))

  unit_link : (x : Part) (j : ℕ) (unit : List ℕ) → unit_at after x.place ≡ unit → link_from format after x j ≡ format.child (length store) x unit j
  unit_link x j unit is = ap (λ n. format.child n x (unit_at after x.place) j) same_length ∙ ap (λ v. format.child (length store) x v j) is

  this_slot : link_from format after (moved part place holder) i ≡ relink (link_from format store holder i)
  unfolding written
  this_slot = ap (λ x. link_from format after x i) (stays part place holder not_itself)
      ∙ unit_link holder i written unit_here
      ∙ movable.set_here (length store) holder part (unit_at store holder.place) i place full can_name link
      ∙ ap To (sym (goes part place part refl)) ∙ sym (relink_to part) ∙ ap relink (sym link)

  set_elsewhere : (x : Part) (j : ℕ) → j ≢ i → format.child (length store) x written j ≡ format.child (length store) x (unit_at store holder.place) j
  unfolding written
  set_elsewhere x j differ = movable.set_elsewhere (length store) x (unit_at store holder.place) i j place differ

  link_after : (x : Part) (j : ℕ) → Reach format directory store x → link_from format after (moved part place x) j ≡ relink (link_from format store x j)
  link_after x j reach = by_tests (x.place == part.place) (x.place == holder.place) (j == i) refl refl refl
    where
      by_tests : (is_part is_holder is_slot : Bool) → (x.place == part.place) ≡ is_part → (x.place == holder.place) ≡ is_holder → (j == i) ≡ is_slot
          → link_from format after (moved part place x) j ≡ relink (link_from format store x j)
      by_tests true is_holder is_slot at_part at_holder at_slot =
          let same : x.place ≡ part.place = grind (arith, nat_tests) in
          let unit : unit_at after place ≡ unit_at store x.place = unit_elsewhere place (λ e. unreached holder held (sym e)) ∙ copied ∙ ap (unit_at store) (sym same) in
          other_slot x j reach (λ at. not_itself (ap (λ (z : Part). z.place) (sym at.0) ∙ same))
          (ap (λ z. link_from format after z j) (goes part place x same) ∙ unit_link (at_place x place) j (unit_at store x.place) unit
          ∙ movable.place_free (length store) x (unit_at store x.place) j place)
      by_tests false true true at_part at_holder at_slot =
          let same : x.place ≡ holder.place = grind (arith, nat_tests) in
          let slot : j ≡ i = grind (arith, nat_tests) in
          let is : x ≡ holder = accepted.once x holder reach held same in
          subst (λ (z : Part). link_from format after (moved part place z) j ≡ relink (link_from format store z j)) (sym is)
          (subst (λ n. link_from format after (moved part place holder) n ≡ relink (link_from format store holder n)) (sym slot) this_slot)
      by_tests false true false at_part at_holder at_slot =
          let differ : x.place ≢ part.place = grind (arith, nat_tests) in
          let same : x.place ≡ holder.place = grind (arith, nat_tests) in
          let elsewhere : j ≢ i = grind (arith, nat_tests) in
          other_slot x j reach (λ at. elsewhere at.1)
          (ap (λ z. link_from format after z j) (stays part place x differ)
          ∙ unit_link x j written (ap (unit_at after) same ∙ unit_here)
          ∙ set_elsewhere x j elsewhere
          ∙ ap (λ n. format.child (length store) x (unit_at store n) j) (sym same))
      by_tests false false is_slot at_part at_holder at_slot =
          let differ : x.place ≢ part.place = grind (arith, nat_tests) in
          let elsewhere : x.place ≢ holder.place = grind (arith, nat_tests) in
          other_slot x j reach (λ at. elsewhere (ap (λ (z : Part). z.place) at.0))
          (ap (λ z. link_from format after z j) (stays part place x differ) ∙ unit_link x j (unit_at store x.place) (unit_elsewhere x.place elsewhere))

  -- that part alone moves
  pointer_keeps : (x : Part) → Reach format directory store x → Reach format directory after (moved part place x)
  pointer_keeps x (at_root file inside is) =
      subst (Reach format directory after) (sym (stays part place x (root_elsewhere x file inside is)))
      (at_root file inside is)
  pointer_keeps x (at_child {parent} j reach is) =
      at_child j (pointer_keeps parent reach) (link_after parent j reach ∙ ap relink is ∙ relink_to x)

  pointer_adds_none : (now : Part) → Reach format directory after now → (x : Part) × Reach format directory store x × (now ≡ moved part place x)
  pointer_adds_none now (at_root file inside is) =
      (now, at_root file inside is, sym (stays part place now (root_elsewhere now file inside is)))
  pointer_adds_none now (at_child {parent} j reach is) =
      let before = pointer_adds_none parent reach in
      let linked = relinked (link_from format store before.0 j) now
      (sym (link_after before.0 j before.1) ∙ ap (λ z. link_from format after z j) (sym before.2) ∙ is) in
      (linked.0, at_child j before.1 linked.1, linked.2)

  content_written : format.content (length store) holder written ≡ format.content (length store) holder (unit_at store holder.place)
  unfolding written
  content_written = movable.content_kept (length store) holder part (unit_at store holder.place) i place full can_name link

  -- each part's content stays
  content_after : (x : Part) → Reach format directory store x
      → format.content (length store) x (unit_at after (moved part place x).place) ≡ format.content (length store) x (unit_at store x.place)
  content_after x reach = by_tests (x.place == part.place) (x.place == holder.place) refl refl
    where
      by_tests : (is_part is_holder : Bool) → (x.place == part.place) ≡ is_part → (x.place == holder.place) ≡ is_holder
          → format.content (length store) x (unit_at after (moved part place x).place) ≡ format.content (length store) x (unit_at store x.place)
      by_tests true is_holder at_part at_holder =
          let same : x.place ≡ part.place = grind (arith, nat_tests) in
          ap (λ (z : Part). format.content (length store) x (unit_at after z.place)) (goes part place x same)
          ∙ ap (format.content (length store) x) (unit_elsewhere place (λ e. unreached holder held (sym e)) ∙ copied ∙ ap (unit_at store) (sym same))
      by_tests false true at_part at_holder =
          let differ : x.place ≢ part.place = grind (arith, nat_tests) in
          let same : x.place ≡ holder.place = grind (arith, nat_tests) in
          let is : x ≡ holder = accepted.once x holder reach held same in
          ap (λ (z : Part). format.content (length store) x (unit_at after z.place)) (stays part place x differ)
          ∙ subst (λ (z : Part). format.content (length store) z (unit_at after z.place) ≡ format.content (length store) z (unit_at store z.place)) (sym is)
          (ap (format.content (length store) holder) unit_here ∙ content_written)
      by_tests false false at_part at_holder =
          let differ : x.place ≢ part.place = grind (arith, nat_tests) in
          let elsewhere : x.place ≢ holder.place = grind (arith, nat_tests) in
          ap (λ (z : Part). format.content (length store) x (unit_at after z.place)) (stays part place x differ)
          ∙ ap (format.content (length store) x) (unit_elsewhere x.place elsewhere)

  no_wild_after : (x : Part) (j : ℕ) → Reach format directory store x → link_from format after (moved part place x) j ≢ Wild
  no_wild_after x j reach wild = (accepted.sound x reach).no_wild j (unwild (link_from format store x j) (sym (link_after x j reach) ∙ wild))

  -- the pointer is set
  pub pointer_moved : is_system directory place ≡ false → is_free directory place ≡ false
      → HasMoved format directory directory part place store (slice_set store holder.place (format.with_pointer (unit_at store holder.place) i place))
  unfolding written
  pointer_moved outside marked =
      has_moved format movable directory directory part place store after refl accepted unreached pointer_keeps pointer_adds_none
      (λ x reach. subst (λ n. format.content n x (unit_at after (moved part place x).place) ≡ format.content n x (unit_at store x.place))
      (sym (laws.all_places store directory accepted.described)) (content_after x reach))
      refl
      (movable.outside store directory holder.place written accepted.described (accepted.sound holder held).outside_system)
      accepted.no_wild accepted.no_other_type no_wild_after outside marked
