-- One entry entered, or taken out: the volume is accepted, and which places are lost.
use Rattle.std.specs.Prelude.{◌≡◌, ◌≢◌, ◌<◌, ◌≤◌, ℕ, false, List, length}
use Rattle.std.proofs.Common.{refl, sym, ◌∙◌, ap, subst, inl, inr}
use Rattle.std.proofs.lemmas.Bool.{cases_eq}
use Rattle.a2_device.specs.Device.{unit_at}
use Rattle.a2_device.specs.declared.part.Part.{Part}
use Rattle.vol_format.specs.declared.link.Link.{Link}
use Rattle.vol_format.specs.declared.link.Link.TheVariants.{Null, Wild, Directory as ToDirectory, OtherType, To}
use Rattle.vol_format.specs.Accepted.{IsAccepted}
use Rattle.vol_format.specs.Directory.{Directory, Listed, entries, root_of, is_system}
use Rattle.vol_format.specs.Laws.{IsReadable, IsMovable}
use Rattle.vol_format.specs.Meaning.{Meaning}
use Rattle.vol_format.specs.Reach.{Reach, at_root, at_child}
use Rattle.vol_laws.specs.EditLaws.{IsFileFree}
use Rattle.vol_laws.specs.Entered.{HasSameRest, IsNewFile, HasSameOthers, HasEntered, HasLeft}
use Rattle.vol_laws.specs.Inserted.{in_file, refiled, inserted, shifted, shifted_part}
use Rattle.vol_laws.specs.PartsOf.{PartOf, IsSoundFile, AreApart}
use Rattle.vol_laws.proofs.Inserting.{shifted_same, shifted_apart}
use Rattle.vol_laws.proofs.Parts.{reach_of, file_of_part, sound_refiled, sound_stays, sound_of, accepted_of}
use Rattle.vol_laws.proofs.Renumbered.{FilesOwn, root_here, root_other, was_file, shifted_inside, came, reach_goes, others_same}

refiled_back : (file n : ℕ) (link : Link) → ((part : Part) → link ≡ To part → part.file ≡ file) → refiled file (refiled n link) ≡ link
refiled_back file n (To part) own = ap (λ k. To (in_file part k)) (sym (own part refl))
refiled_back file n Null own = refl
refiled_back file n Wild own = refl
refiled_back file n ToDirectory own = refl
refiled_back file n OtherType own = refl

module _ (format : Meaning) (laws : IsReadable format) (movable : IsMovable format) (free : IsFileFree format)
    (few : Directory) (at : ℕ) (entry : Listed) (old new : List (List ℕ)) (within : at ≤ entries few) (rest : HasSameRest few old new) where
  abbrev many : Directory
  many = inserted few at entry

  module _ (accepted : IsAccepted format few old) (described : format.Describes new many) (file : IsNewFile format few old new entry.root) where
    own : FilesOwn few
    own = (movable.described old few accepted.described).root_file

    first : (part : Part) → entry.root ≡ To part → part.file ≡ at
    first part is = (movable.described new many described).root_file at part (root_here few at entry within ∙ is)

    was_sound : (f : ℕ) → f < entries few → IsSoundFile format few old (root_of few f)
    was_sound f inside = sound_of format few old f accepted inside

    others : HasSameOthers format few at entry old new
    others = others_same few at entry within own format laws free old new rest.size was_sound rest.units first

    -- a part of another file stands where it stood
    back : (f : ℕ) → f < entries few → (part : Part) → PartOf format new (root_of many (shifted at f)) part
        → (was : Part) × Reach format few old was × (was.file ≡ f) × (part.place ≡ was.place)
    back f inside part reach =
        let was = came few at entry within own format laws free old new rest.size was_sound rest.units f inside part reach in
        (was.0, reach_of format few old f was.0 inside was.1, file_of_part format laws old (root_of few f) f (own f) was.0 was.1, ap (λ (x : Part). x.place) was.2)

    sound_after : (f : ℕ) → f < entries many → IsSoundFile format many new (root_of many f)
    sound_after f inside = elim (cases_eq f at) [
      | inl here ↦ subst (IsSoundFile format many new) (sym (ap (root_of many) here ∙ root_here few at entry within))
          (sound_stays format few many new new refl (λ place outside. refl) refl refl entry.root file.file)
      | inr differ ↦
          let was = was_file few at entry within f inside differ in
          subst (IsSoundFile format many new) (sym (ap (root_of many) was.2 ∙ root_other few at entry within own was.0))
          (sound_refiled format free new (shifted at was.0) many (root_of few was.0)
          (sound_stays format few many old new rest.size rest.units refl refl (root_of few was.0) (was_sound was.0 was.1)))
    ]

    new_apart : (f : ℕ) → f < entries few → (part other : Part) → PartOf format new entry.root part → PartOf format new (root_of many (shifted at f)) other → part.place ≢ other.place
    new_apart f inside part other mine reach same =
        let was = back f inside other reach in
        file.apart part was.0 mine was.1 (same ∙ was.3)

    as_new : (f : ℕ) (part : Part) → f ≡ at → PartOf format new (root_of many f) part → PartOf format new entry.root part
    as_new f part here reach = subst (λ link. PartOf format new link part) (ap (root_of many) here ∙ root_here few at entry within) reach

    apart_after : (f g : ℕ) → f < entries many → g < entries many → f ≢ g → AreApart format new (root_of many f) (root_of many g)
    apart_after f g inside inside' differ part other reach reach' same = elim (cases_eq f at) [
      | inl here ↦ elim (cases_eq g at) [
        | inl here' ↦ differ (here ∙ sym here')
        | inr there ↦
            let was = was_file few at entry within g inside' there in
            new_apart was.0 was.1 part other (as_new f part here reach) (subst (λ n. PartOf format new (root_of many n) other) was.2 reach') same
      ]
      | inr there ↦
          let was = was_file few at entry within f inside there in
          let reach_was = subst (λ n. PartOf format new (root_of many n) part) was.2 reach in
          elim (cases_eq g at) [
            | inl here' ↦ new_apart was.0 was.1 other part (as_new g other here' reach') reach_was (sym same)
            | inr there' ↦
                let was' = was_file few at entry within g inside' there' in
                let x = back was.0 was.1 part reach_was in
                let y = back was'.0 was'.1 other (subst (λ n. PartOf format new (root_of many n) other) was'.2 reach') in
                let equal : x.0 ≡ y.0 = accepted.once x.0 y.0 x.1 y.1 (sym x.3 ∙ same ∙ y.3) in
                let number : was.0 ≡ was'.0 = sym x.2 ∙ ap (λ (p : Part). p.file) equal ∙ y.2 in
                differ (was.2 ∙ ap (shifted at) number ∙ sym was'.2)
          ]
    ]

    pub entered : HasEntered format few at entry old new
    entered = record {
      accepted = accepted_of format many new described sound_after apart_after;
      files = others;
      lost = λ place. (
        λ lost. (
          record {
            available = lost.available;
            marked = lost.marked;
            unreached = λ part reach. lost.unreached (shifted_part at part) ((others.others part).0 reach);
          },
          λ taken. lost.unreached taken.0 (others.own taken.0 taken.1) taken.2,
        ),
        λ both. record {
          available = both.0.available;
          marked = both.0.marked;
          unreached = λ part reach same. elim (others.all part reach) [
            | inl mine ↦ both.1 (part, mine, same)
            | inr was ↦ both.0.unreached was.0 was.1 (sym (ap (λ (x : Part). x.place) was.2) ∙ same)
          ];
        },
      );
    }

  module _ (accepted : IsAccepted format many old) (described : format.Describes new few) (takes : format.Takes few.places) where
    own_few : FilesOwn few
    own_few = (movable.described new few described).root_file

    first_many : (part : Part) → entry.root ≡ To part → part.file ≡ at
    first_many part is = (movable.described old many accepted.described).root_file at part (root_here few at entry within ∙ is)

    sound_left : (f : ℕ) → f < entries few → IsSoundFile format few new (root_of few f)
    sound_left f inside =
        subst (IsSoundFile format few new) (refiled_back f (shifted at f) (root_of few f) (own_few f))
        (sound_stays format many few old new rest.size rest.units refl refl (refiled f (refiled (shifted at f) (root_of few f)))
        (sound_refiled format free old f many (refiled (shifted at f) (root_of few f))
        (subst (IsSoundFile format many old) (root_other few at entry within own_few f)
        (sound_of format many old (shifted at f) accepted (shifted_inside few at entry within f inside)))))

    units_back : (place : ℕ) → is_system few place ≡ false → unit_at old place ≡ unit_at new place
    units_back place outside = sym (rest.units place outside)

    left_others : HasSameOthers format few at entry new old
    left_others = others_same few at entry within own_few format laws free new old (sym rest.size) sound_left units_back first_many

    place_below : (part : Part) → Reach format many old part → part.place < few.places
    place_below part (at_root f inside is) = (movable.described old many accepted.described).root_place f part is
    place_below part (at_child {parent} i reach is) =
        subst (λ n. part.place < n) (sym (laws.all_places old many accepted.described))
        (laws.child_place (length old) parent part (unit_at old parent.place) i (subst format.Takes (laws.all_places old many accepted.described) takes) is)

    apart_left : (f g : ℕ) → f < entries few → g < entries few → f ≢ g → AreApart format new (root_of few f) (root_of few g)
    apart_left f g inside inside' differ part other reach reach' same =
        let x = reach_goes few at entry within own_few format laws free new old (sym rest.size) sound_left units_back part (reach_of format few new f part inside reach) in
        let y = reach_goes few at entry within own_few format laws free new old (sym rest.size) sound_left units_back other (reach_of format few new g other inside' reach') in
        let equal : shifted_part at part ≡ shifted_part at other = accepted.once (shifted_part at part) (shifted_part at other) x y same in
        let number : part.file ≡ other.file = shifted_same at part.file other.file (ap (λ (p : Part). p.file) equal) in
        differ (sym (file_of_part format laws new (root_of few f) f (own_few f) part reach) ∙ number
        ∙ file_of_part format laws new (root_of few g) g (own_few g) other reach')

    pub left : HasLeft format few at entry old new
    left = record {
      accepted = accepted_of format few new described sound_left apart_left;
      files = left_others;
      lost_before = λ place lost. record {
        available = lost.available;
        marked = lost.marked;
        unreached = λ part reach. lost.unreached (shifted_part at part) ((left_others.others part).0 reach);
      };
      lost_own = λ part mine.
          let reach = left_others.own part mine in
          let so = accepted.sound part reach in
          record {
            available = ((movable.described old many accepted.described).available_of part.place).1 (place_below part reach, so.outside_system);
            marked = so.marked;
            unreached = λ other reach' same.
                let equal : shifted_part at other ≡ part = accepted.once (shifted_part at other) part ((left_others.others other).0 reach') reach same in
                shifted_apart at other.file (ap (λ (p : Part). p.file) equal ∙ file_of_part format laws old entry.root at first_many part mine);
          };
      lost_all = λ place lost untaken. record {
        available = lost.available;
        marked = lost.marked;
        unreached = λ part reach same. elim (left_others.all part reach) [
          | inl mine ↦ untaken (part, mine, same)
          | inr was ↦ lost.unreached was.0 was.1 (sym (ap (λ (x : Part). x.place) was.2) ∙ same)
        ];
      };
    }
