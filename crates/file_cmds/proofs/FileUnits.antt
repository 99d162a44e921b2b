-- The units of a file's body, from its parts.
use Rattle.std.specs.Prelude.{◌≡◌, ◌<◌, ℕ, true, List, length, filter, Contains}
use Rattle.std.proofs.Common.{refl, ◌∙◌, ap, subst, arith, get_or}
use Rattle.std.proofs.lemmas.List.{get_or-map, length-map}
use Rattle.std.proofs.lemmas.List.Kept.{AllPairs-filter}
use Rattle.a2_device.specs.Device.{unit_at}
use Rattle.a2_device.specs.declared.part.Part.{Part}
use Rattle.a2_device.specs.declared.part.PartKind.{PartKind}
use Rattle.a2_device.specs.declared.part.PartKind.TheVariants.{List as AList, Master, Index, Body}
use Rattle.vol_format.specs.Directory.{Directory}
use Rattle.vol_format.specs.Files.{Stored, IsStored}
use Rattle.vol_format.specs.Laws.{IsReadable}
use Rattle.vol_format.specs.Layout.{IsPartsOfFile}
use Rattle.vol_format.specs.Meaning.{Meaning}
use Rattle.vol_format.specs.Reach.{Reach}
use Rattle.vol_format.proofs.Lists.{element, in_filter, out_of_filter, in_map, out_of_map}
use Rattle.file_cmds.specs.Text.{OwnFault, AreUnitsOf, IsWholeTextOf, whole_text}
use Rattle.file_cmds.specs.Walked.{is_body, stored_at, stored_of}

is_of_body : (kind : PartKind) → is_body kind ≡ true → kind ≡ Body
is_of_body AList is = absurd (cc)
is_of_body Master is = absurd (cc)
is_of_body Index is = absurd (cc)
is_of_body Body is = refl

module _ (format : Meaning) (laws : IsReadable format) (directory : Directory) (file : ℕ) (store : List (List ℕ)) (parts : List Part)
    (are : IsPartsOfFile format directory store file parts) where
  abbrev bodies : List Part
  bodies = filter (λ (part : Part). is_body part.kind) parts

  body_at : (part : Part) → Contains bodies part → Reach format directory store part × (part.file ≡ file) × (part.kind ≡ Body)
  body_at part has =
      let kept = out_of_filter (λ (p : Part). is_body p.kind) parts part has in
      let found = (are.members part).0 kept.0 in
      (found.0, found.1, is_of_body part.kind kept.1)

  some_part : Part
  some_part = record { file = 0; kind = Body; number = 0; place = 0 }

  same_stored : (stored : Stored) (is : IsStored format directory store file stored) → stored_at store is.part ≡ stored
  same_stored stored is =
      ap (λ n. record { number = n; unit = unit_at store is.part.place }) is.numbered
      ∙ ap (λ (u : List ℕ). record { number = stored.number; unit = u }) is.stands

  pub are_units : AreUnitsOf format directory store file (stored_of store parts)
  are_units = record {
    members = λ stored. (
      λ has.
          let from = out_of_map (stored_at store) bodies stored has in
          let body = body_at from.0 from.1 in
          record {
            part = from.0;
            reached = body.0;
            in_file = body.1;
            of_body = body.2;
            numbered = ap (λ (s : Stored). s.number) from.2;
            stands = ap (λ (s : Stored). s.unit) from.2;
          },
      λ is.
          let kept = in_filter (λ (p : Part). is_body p.kind) parts is.part ((are.members is.part).1 (is.reached, is.in_file)) (ap is_body is.of_body) in
          subst (Contains (stored_of store parts)) (same_stored stored is) (in_map (stored_at store) bodies is.part kept),
    );
    rising = λ i j d less within.
        let inside : j < length bodies = omega (arith, within, length-map bodies (stored_at store)) in
        let part = get_or bodies i some_part in
        let later = get_or bodies j some_part in
        let at = body_at part (element bodies i some_part (omega arith)) in
        let later_at = body_at later (element bodies j some_part inside) in
        let ranks : format.rank part < format.rank later =
        AllPairs-filter (λ (p q : Part). format.rank p < format.rank q) (λ (p : Part). is_body p.kind) parts are.ordered i j some_part less inside in
        let less_number : part.number < later.number = laws.body_order part later at.2 later_at.2 ranks in
        let number = ap (λ (s : Stored). s.number) (get_or-map (stored_at store) bodies i some_part d (omega arith)) in
        let later_number = ap (λ (s : Stored). s.number) (get_or-map (stored_at store) bodies j some_part d inside) in
        omega (arith, number, later_number, less_number);
  }

  -- what is read of the parts of a file that has no fault of its own is its text
  pub text_by_parts : (unit_size : ℕ) (text : List ℕ) → ¬ OwnFault format directory store file → unit_size ≡ format.unit_size
      → text ≡ whole_text unit_size (stored_of store parts) → IsWholeTextOf format directory store file text
  text_by_parts unit_size text faultless size is = record {
    faultless = faultless;
    units = stored_of store parts;
    are_units = are_units;
    is = is ∙ ap (λ n. whole_text n (stored_of store parts)) size;
  }
