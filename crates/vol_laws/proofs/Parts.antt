-- The parts of one file.
use Rattle.std.specs.Prelude.{◌≡◌, ◌≢◌, ◌<◌, ℕ, true, false, List, length, slice_index_or}
use Rattle.std.proofs.Common.{refl, sym, ◌∙◌, ap, subst, inl, inr}
use Rattle.std.proofs.lemmas.Bool.{cases_eq}
use Rattle.a2_device.specs.Device.{unit_at}
use Rattle.a2_device.specs.declared.part.Part.{Part}
use Rattle.vol_format.specs.declared.link.Link.{Link}
use Rattle.vol_format.specs.declared.link.Link.TheVariants.{Null, Wild, Directory as ToDirectory, OtherType, To}
use Rattle.vol_format.specs.Accepted.{IsAccepted}
use Rattle.vol_format.specs.Directory.{Directory, entries, root_of, is_system, is_free}
use Rattle.vol_format.specs.Laws.{IsReadable}
use Rattle.vol_format.specs.Meaning.{Meaning, link_from}
use Rattle.vol_format.specs.Reach.{Reach, at_root, at_child}
use Rattle.vol_laws.specs.EditLaws.{IsFileFree}
use Rattle.vol_laws.specs.Inserted.{in_file, refiled}
use Rattle.vol_laws.specs.PartsOf.{PartOf, top, below, IsSoundFile, AreApart}

pub same_part : (part other : Part) → To part ≡ To other → part ≡ other
same_part part other e = cc

-- the parts of a volume are those of its files
pub reach_of : (format : Meaning) (directory : Directory) (store : List (List ℕ)) (file : ℕ) (part : Part) → file < entries directory
    → PartOf format store (root_of directory file) part → Reach format directory store part
reach_of format directory store file part inside (top is) = at_root file inside is
reach_of format directory store file part inside (below {parent} i reach is) = at_child i (reach_of format directory store file parent inside reach) is

pub of_reach : (format : Meaning) (directory : Directory) (store : List (List ℕ)) (part : Part) → Reach format directory store part
    → (file : ℕ) × (file < entries directory) × PartOf format store (root_of directory file) part
of_reach format directory store part (at_root file inside is) = (file, inside, top is)
of_reach format directory store part (at_child {parent} i reach is) =
    let of = of_reach format directory store parent reach in
    (of.0, of.1, below i of.2 is)

module _ (format : Meaning) (laws : IsReadable format) (store : List (List ℕ)) (root : Link) where
  -- they are all of one file
  pub file_of_part : (file : ℕ) → ((part : Part) → root ≡ To part → part.file ≡ file) → (part : Part) → PartOf format store root part → part.file ≡ file
  file_of_part file first part (top is) = first part is
  file_of_part file first part (below {parent} i reach is) =
      laws.child_file (length store) parent part (unit_at store parent.place) i is ∙ file_of_part file first parent reach

-- the unit of each part is the same in another store
module _ (format : Meaning) (old new : List (List ℕ)) (size : length new ≡ length old) (root : Link)
    (units : (part : Part) → PartOf format old root part → unit_at new part.place ≡ unit_at old part.place) where
  pub same_link : (part : Part) (i : ℕ) → PartOf format old root part → link_from format new part i ≡ link_from format old part i
  same_link part i reach = ap (λ n. format.child n part (unit_at new part.place) i) size ∙ ap (λ unit. format.child (length old) part unit i) (units part reach)

  pub part_stays : (part : Part) → PartOf format old root part → PartOf format new root part
  part_stays part (top is) = top is
  part_stays part (below {parent} i reach is) = below i (part_stays parent reach) (same_link parent i reach ∙ is)

  pub part_was : (part : Part) → PartOf format new root part → PartOf format old root part
  part_was part (top is) = top is
  part_was part (below {parent} i reach is) =
      let was = part_was parent reach in
      below i was (sym (same_link parent i was) ∙ is)

-- the same file under another number
module _ (format : Meaning) (free : IsFileFree format) (store : List (List ℕ)) (file : ℕ) where
  link_refiled : (part : Part) (i : ℕ) → link_from format store (in_file part file) i ≡ refiled file (link_from format store part i)
  link_refiled part i = free.child_refiled (length store) part (unit_at store part.place) i file

  pub part_refiled : (root : Link) (part : Part) → PartOf format store root part → PartOf format store (refiled file root) (in_file part file)
  part_refiled root part (top is) = top (ap (refiled file) is)
  part_refiled root part (below {parent} i reach is) =
      below i (part_refiled root parent reach) (link_refiled parent i ∙ ap (refiled file) is)

  named_refiled : (link : Link) (part : Part) → refiled file link ≡ To part → (was : Part) × (link ≡ To was) × (part ≡ in_file was file)
  named_refiled (To was) part is = (was, refl, same_part part (in_file was file) (sym is))
  named_refiled Null part is = absurd (cc)
  named_refiled Wild part is = absurd (cc)
  named_refiled ToDirectory part is = absurd (cc)
  named_refiled OtherType part is = absurd (cc)

  pub refiled_was : (root : Link) (part : Part) → PartOf format store (refiled file root) part
      → (was : Part) × PartOf format store root was × (part ≡ in_file was file)
  refiled_was root part (top is) =
      let was = named_refiled root part is in
      (was.0, top was.1, was.2)
  refiled_was root part (below {parent} i reach is) =
      let above = refiled_was root parent reach in
      let link = sym (link_refiled above.0 i) ∙ ap (λ x. link_from format store x i) (sym above.2) ∙ is in
      let was = named_refiled (link_from format store above.0 i) part link in
      (was.0, below i above.1 was.1, was.2)

  pub wild_refiled : (link : Link) → refiled file link ≡ Wild → link ≡ Wild
  wild_refiled (To was) is = absurd (cc)
  wild_refiled Null is = absurd (cc)
  wild_refiled Wild is = refl
  wild_refiled ToDirectory is = absurd (cc)
  wild_refiled OtherType is = absurd (cc)

  pub other_type_refiled : (link : Link) → refiled file link ≡ OtherType → link ≡ OtherType
  other_type_refiled (To was) is = absurd (cc)
  other_type_refiled Null is = absurd (cc)
  other_type_refiled Wild is = absurd (cc)
  other_type_refiled ToDirectory is = absurd (cc)
  other_type_refiled OtherType is = refl

  pub sound_refiled : (directory : Directory) (root : Link) → IsSoundFile format directory store root → IsSoundFile format directory store (refiled file root)
  sound_refiled directory root sound = record {
    no_wild = λ wild. sound.no_wild (wild_refiled root wild);
    no_other_type = λ other. sound.no_other_type (other_type_refiled root other);
    sound = λ part reach.
        let was = refiled_was root part reach in
        let so = sound.sound was.0 was.1 in
        record {
          no_wild = λ i wild. so.no_wild i (wild_refiled (link_from format store was.0 i) (sym (link_refiled was.0 i) ∙ ap (λ x. link_from format store x i) (sym was.2) ∙ wild));
          outside_system = ap (λ (x : Part). is_system directory x.place) was.2 ∙ so.outside_system;
          marked = ap (λ (x : Part). is_free directory x.place) was.2 ∙ so.marked;
        };
    once = λ part other reach reach' same.
        let was = refiled_was root part reach in
        let was' = refiled_was root other reach' in
        was.2 ∙ ap (λ x. in_file x file) (sound.once was.0 was'.0 was.1 was'.1
        (sym (ap (λ (x : Part). x.place) was.2) ∙ same ∙ ap (λ (x : Part). x.place) was'.2)) ∙ sym was'.2;
  }

-- a sound file in a store with the same units outside the system
module _ (format : Meaning) (before after : Directory) (old new : List (List ℕ)) (size : length new ≡ length old)
    (units : (place : ℕ) → is_system before place ≡ false → unit_at new place ≡ unit_at old place)
    (system : after.system ≡ before.system) (marks : after.free ≡ before.free) (root : Link) (sound : IsSoundFile format before old root) where
  pub same_units : (part : Part) → PartOf format old root part → unit_at new part.place ≡ unit_at old part.place
  same_units part reach = units part.place (sound.sound part reach).outside_system

  pub sound_stays : IsSoundFile format after new root
  sound_stays = record {
    no_wild = sound.no_wild;
    no_other_type = sound.no_other_type;
    sound = λ part reach.
        let was = part_was format old new size root same_units part reach in
        let so = sound.sound part was in
        record {
          no_wild = λ i wild. so.no_wild i (sym (same_link format old new size root same_units part i was) ∙ wild);
          outside_system = ap (λ table. slice_index_or table part.place true) system ∙ so.outside_system;
          marked = ap (λ table. slice_index_or table part.place false) marks ∙ so.marked;
        };
    once = λ part other reach reach' same.
        sound.once part other (part_was format old new size root same_units part reach) (part_was format old new size root same_units other reach') same;
  }

-- an accepted volume is one of sound files that stand apart
pub sound_of : (format : Meaning) (directory : Directory) (store : List (List ℕ)) (file : ℕ) → IsAccepted format directory store → file < entries directory
    → IsSoundFile format directory store (root_of directory file)
sound_of format directory store file accepted inside = record {
  no_wild = accepted.no_wild file inside;
  no_other_type = accepted.no_other_type file inside;
  sound = λ part reach. accepted.sound part (reach_of format directory store file part inside reach);
  once = λ part other reach reach'.
      accepted.once part other (reach_of format directory store file part inside reach) (reach_of format directory store file other inside reach');
}

pub accepted_of : (format : Meaning) (directory : Directory) (store : List (List ℕ)) → format.Describes store directory
    → ((file : ℕ) → file < entries directory → IsSoundFile format directory store (root_of directory file))
    → ((file other : ℕ) → file < entries directory → other < entries directory → file ≢ other → AreApart format store (root_of directory file) (root_of directory other))
    → IsAccepted format directory store
accepted_of format directory store described sound apart = record {
  described = described;
  no_wild = λ file inside. (sound file inside).no_wild;
  no_other_type = λ file inside. (sound file inside).no_other_type;
  sound = λ part reach.
      let of = of_reach format directory store part reach in
      (sound of.0 of.1).sound part of.2;
  once = λ part other reach reach' same.
      let of = of_reach format directory store part reach in
      let of' = of_reach format directory store other reach' in
      elim (cases_eq of.0 of'.0) [
        | inl equal ↦
            (sound of.0 of.1).once part other of.2 (subst (λ n. PartOf format store (root_of directory n) other) (sym equal) of'.2) same
        | inr differ ↦ absurd (apart of.0 of'.0 of.1 of'.1 differ part other of.2 of'.2 same)
      ];
}
