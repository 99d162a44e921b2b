-- A write to the system's units after which the entries point to what they pointed to: the parts of the files are the same.
use Rattle.std.specs.Prelude.{◌≡◌, ◌↔◌, ◌<◌, ℕ, true, false, List, Contains, slice_index_or}
use Rattle.std.proofs.Common.{sym, ◌∙◌, ap, subst}
use Rattle.a2_device.specs.Device.{unit_at}
use Rattle.a2_device.specs.declared.part.Part.{Part}
use Rattle.vol_format.specs.Accepted.{IsAccepted}
use Rattle.vol_format.specs.Directory.{Directory, entries, root_of}
use Rattle.vol_format.specs.Meaning.{Meaning}
use Rattle.vol_format.specs.Reach.{Reach, SameContents}
use Rattle.vol_format.specs.Standing.{IsLost}
use Rattle.vol_laws.specs.Entered.{HasSameRest}
use Rattle.vol_laws.specs.PartsOf.{PartOf}
use Rattle.vol_laws.specs.Rewritten.{HasRewritten}
use Rattle.vol_laws.proofs.Parts.{reach_of, of_reach, part_stays, part_was, same_link, sound_of}

-- two directories with as many entries, which point to the same, and with the same places and marks
pub record HasSameRoots (before after : Directory) : Type 0 where
  pub count : entries after ≡ entries before
  pub roots : (file : ℕ) → root_of after file ≡ root_of before file
  pub places : after.places ≡ before.places
  pub system : after.system ≡ before.system
  pub free : after.free ≡ before.free
  pub available : after.available ≡ before.available

module _ (format : Meaning) (before after : Directory) (old new : List (List ℕ)) (same : HasSameRoots before after)
    (accepted : IsAccepted format before old) (rest : HasSameRest before old new) (described : format.Describes new after) where
  same_units : (file : ℕ) → file < entries before → (part : Part) → PartOf format old (root_of before file) part → unit_at new part.place ≡ unit_at old part.place
  same_units file inside part reach = rest.units part.place ((sound_of format before old file accepted inside).sound part reach).outside_system

  keeps : (part : Part) → Reach format before old part → Reach format after new part
  keeps part reach =
      let of = of_reach format before old part reach in
      reach_of format after new of.0 part (subst (λ n. of.0 < n) (sym same.count) of.1)
      (subst (λ link. PartOf format new link part) (sym (same.roots of.0))
      (part_stays format old new rest.size (root_of before of.0) (same_units of.0 of.1) part of.2))

  adds_none : (part : Part) → Reach format after new part → Reach format before old part
  adds_none part reach =
      let of = of_reach format after new part reach in
      let inside : of.0 < entries before = subst (λ n. of.0 < n) same.count of.1 in
      reach_of format before old of.0 part inside
      (part_was format old new rest.size (root_of before of.0) (same_units of.0 inside) part
      (subst (λ link. PartOf format new link part) (same.roots of.0) of.2))

  units_kept : (part : Part) → Reach format before old part → unit_at new part.place ≡ unit_at old part.place
  units_kept part reach = rest.units part.place (accepted.sound part reach).outside_system

  accepted_after : IsAccepted format after new
  accepted_after = record {
    described = described;
    no_wild = λ file inside wild. accepted.no_wild file (subst (λ n. file < n) same.count inside) (sym (same.roots file) ∙ wild);
    no_other_type = λ file inside other. accepted.no_other_type file (subst (λ n. file < n) same.count inside) (sym (same.roots file) ∙ other);
    sound = λ part reach.
        let was = adds_none part reach in
        let of = of_reach format before old part was in
        let so = accepted.sound part was in
        record {
          no_wild = λ i wild. so.no_wild i (sym (same_link format old new rest.size (root_of before of.0) (same_units of.0 of.1) part i of.2) ∙ wild);
          outside_system = ap (λ table. slice_index_or table part.place true) same.system ∙ so.outside_system;
          marked = ap (λ table. slice_index_or table part.place false) same.free ∙ so.marked;
        };
    once = λ part other reach reach'. accepted.once part other (adds_none part reach) (adds_none other reach');
  }

  content_kept : (part : Part) → Reach format before old part
      → format.content after.places part (unit_at new part.place) ≡ format.content before.places part (unit_at old part.place)
  content_kept part reach = ap (λ n. format.content n part (unit_at new part.place)) same.places
      ∙ ap (format.content before.places part) (units_kept part reach)

  contents_kept : SameContents format before after old new
  contents_kept file kind number content = (
    λ has. record {
      part = has.part;
      reached = keeps has.part has.reached;
      in_file = has.in_file;
      of_kind = has.of_kind;
      numbered = has.numbered;
      is = content_kept has.part has.reached ∙ has.is;
    },
    λ has.
        let was = adds_none has.part has.reached in
        record {
          part = has.part;
          reached = was;
          in_file = has.in_file;
          of_kind = has.of_kind;
          numbered = has.numbered;
          is = sym (content_kept has.part was) ∙ has.is;
        },
  )

  lost_kept : (place : ℕ) → IsLost format after new place ↔ IsLost format before old place
  lost_kept place = (
    λ lost. record {
      available = subst (λ places. Contains places place) same.available lost.available;
      marked = sym (ap (λ table. slice_index_or table place false) same.free) ∙ lost.marked;
      unreached = λ part reach. lost.unreached part (keeps part reach);
    },
    λ lost. record {
      available = subst (λ places. Contains places place) (sym same.available) lost.available;
      marked = ap (λ table. slice_index_or table place false) same.free ∙ lost.marked;
      unreached = λ part reach. lost.unreached part (adds_none part reach);
    },
  )

  pub same_roots_kept : HasRewritten format before after old new
  same_roots_kept = record {
    accepted = accepted_after;
    parts = λ part. (keeps part, adds_none part);
    units = units_kept;
    contents = contents_kept;
    lost = lost_kept;
  }
