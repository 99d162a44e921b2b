-- A directory with one entry more: the files of the volume.
use Rattle.std.specs.Prelude.{◌≡◌, ◌≢◌, ◌⊎◌, ◌<◌, ◌≤◌, ◌+◌, ℕ, false, List, length, map}
use Rattle.std.proofs.Common.{refl, sym, ◌∙◌, ap, subst, arith, inl, inr}
use Rattle.std.proofs.lemmas.Bool.{cases_eq}
use Rattle.std.proofs.lemmas.List.{length-map}
use Rattle.std.proofs.Math.ListN.{get_or-map}
use Rattle.a2_device.specs.Device.{unit_at}
use Rattle.a2_device.specs.declared.part.Part.{Part}
use Rattle.vol_format.specs.declared.link.Link.{Link}
use Rattle.vol_format.specs.declared.link.Link.TheVariants.{Null, Wild, Directory as ToDirectory, OtherType, To}
use Rattle.vol_format.specs.Directory.{Directory, Listed, no_entry, entries, root_of, is_system}
use Rattle.vol_format.specs.Laws.{IsReadable}
use Rattle.vol_format.specs.Meaning.{Meaning}
use Rattle.vol_format.specs.Reach.{Reach}
use Rattle.vol_laws.specs.EditLaws.{IsFileFree}
use Rattle.vol_laws.specs.Entered.{HasSameOthers}
use Rattle.vol_laws.specs.Inserted.{in_file, refiled, inserted, shifted, shifted_part, shifted_link, shifted_entry}
use Rattle.vol_laws.specs.PartsOf.{PartOf, IsSoundFile}
use Rattle.vol_laws.proofs.Inserting.{shifted_apart, shifted_same, shifted_below, unshifted, length-insert_at, insert_here, insert_shifted}
use Rattle.vol_laws.proofs.Parts.{reach_of, of_reach, file_of_part, part_stays, part_was, part_refiled, refiled_was}

-- the parts of a file are of its number
abbrev pub FilesOwn : Directory → Type 0
FilesOwn directory = (file : ℕ) (part : Part) → root_of directory file ≡ To part → part.file ≡ file

pub shifted_is_refiled : (at file : ℕ) (link : Link) → ((part : Part) → link ≡ To part → part.file ≡ file) → shifted_link at link ≡ refiled (shifted at file) link
shifted_is_refiled at file (To part) own = ap (λ n. To (in_file part (shifted at n))) (own part refl)
shifted_is_refiled at file Null own = refl
shifted_is_refiled at file Wild own = refl
shifted_is_refiled at file ToDirectory own = refl
shifted_is_refiled at file OtherType own = refl

link_was : (at : ℕ) (link : Link) (part : Part) → shifted_link at link ≡ To part → (was : Part) × (link ≡ To was) × (part ≡ shifted_part at was)
link_was at (To was) part is = (was, refl, cc)
link_was at Null part is = absurd (cc)
link_was at Wild part is = absurd (cc)
link_was at ToDirectory part is = absurd (cc)
link_was at OtherType part is = absurd (cc)

module _ (few : Directory) (at : ℕ) (entry : Listed) (within : at ≤ entries few) where
  abbrev many : Directory
  many = inserted few at entry

  within_map : at ≤ length (map (shifted_entry at) few.listed)
  within_map = omega (arith, within, length-map few.listed (shifted_entry at))

  pub entries_more : entries many ≡ entries few + 1
  entries_more = length-insert_at at entry (map (shifted_entry at) few.listed) ∙ ap (λ n. n + 1) (length-map few.listed (shifted_entry at))

  pub root_here : root_of many at ≡ entry.root
  root_here = ap (λ (e : Listed). e.root) (insert_here at entry (map (shifted_entry at) few.listed) no_entry within_map)

  root_shifted : (file : ℕ) → root_of many (shifted at file) ≡ shifted_link at (root_of few file)
  root_shifted file = ap (λ (e : Listed). e.root)
      (insert_shifted at file entry (map (shifted_entry at) few.listed) no_entry within_map
      ∙ get_or-map (shifted_entry at) few.listed file no_entry)

  pub at_inside : at < entries many
  at_inside = omega (arith, entries_more, within)

  pub shifted_inside : (file : ℕ) → file < entries few → shifted at file < entries many
  shifted_inside file inside = omega (arith, entries_more, shifted_below at file (entries few) inside)

  pub was_file : (file : ℕ) → file < entries many → file ≢ at → (was : ℕ) × (was < entries few) × (file ≡ shifted at was)
  was_file file inside differ = unshifted at file (entries few) within (omega (arith, inside, entries_more)) differ

  module _ (own : FilesOwn few) where
    pub root_other : (file : ℕ) → root_of many (shifted at file) ≡ refiled (shifted at file) (root_of few file)
    root_other file = root_shifted file ∙ shifted_is_refiled at file (root_of few file) (own file)

    module _ (format : Meaning) (laws : IsReadable format) (free : IsFileFree format) (less more : List (List ℕ)) (size : length more ≡ length less)
        (sound : (file : ℕ) → file < entries few → IsSoundFile format few less (root_of few file))
        (units : (place : ℕ) → is_system few place ≡ false → unit_at more place ≡ unit_at less place) where
      same : (file : ℕ) (inside : file < entries few) (part : Part) → PartOf format less (root_of few file) part → unit_at more part.place ≡ unit_at less part.place
      same file inside part reach = units part.place ((sound file inside).sound part reach).outside_system

      of_file : (file : ℕ) (part : Part) → PartOf format less (root_of few file) part → part.file ≡ file
      of_file file part reach = file_of_part format laws less (root_of few file) file (own file) part reach

      -- a part of another file, there and back
      pub goes : (file : ℕ) → file < entries few → (part : Part) → PartOf format less (root_of few file) part
          → PartOf format more (root_of many (shifted at file)) (in_file part (shifted at file))
      goes file inside part reach = subst (λ link. PartOf format more link (in_file part (shifted at file))) (sym (root_other file))
          (part_refiled format free more (shifted at file) (root_of few file) part
          (part_stays format less more size (root_of few file) (same file inside) part reach))

      pub came : (file : ℕ) → file < entries few → (part : Part) → PartOf format more (root_of many (shifted at file)) part
          → (was : Part) × PartOf format less (root_of few file) was × (part ≡ in_file was (shifted at file))
      came file inside part reach =
          let was = refiled_was format free more (shifted at file) (root_of few file) part (subst (λ link. PartOf format more link part) (root_other file) reach) in
          (was.0, part_was format less more size (root_of few file) (same file inside) was.0 was.1, was.2)

      pub reach_goes : (part : Part) → Reach format few less part → Reach format many more (shifted_part at part)
      reach_goes part reach =
          let of = of_reach format few less part reach in
          let there = reach_of format many more (shifted at of.0) (in_file part (shifted at of.0)) (shifted_inside of.0 of.1) (goes of.0 of.1 part of.2) in
          subst (λ n. Reach format many more (in_file part (shifted at n))) (sym (of_file of.0 part of.2)) there

      pub own_reach : (part : Part) → PartOf format more entry.root part → Reach format many more part
      own_reach part reach = reach_of format many more at part at_inside (subst (λ link. PartOf format more link part) (sym root_here) reach)

      pub reach_came : (part : Part) → Reach format many more part
          → PartOf format more entry.root part ⊎ ((other : Part) × Reach format few less other × (part ≡ shifted_part at other))
      reach_came part reach =
          let of = of_reach format many more part reach in
          elim (cases_eq of.0 at) [
            | inl here ↦ inl (subst (λ link. PartOf format more link part) (ap (root_of many) here ∙ root_here) of.2)
            | inr differ ↦
                let was = was_file of.0 of.1 differ in
                let from = came was.0 was.1 part (subst (λ n. PartOf format more (root_of many n) part) was.2 of.2) in
                inr (
                  from.0,
                  reach_of format few less was.0 from.0 was.1 from.1,
                  from.2 ∙ ap (λ n. in_file from.0 (shifted at n)) (sym (of_file was.0 from.0 from.1)),
                )
          ]

      -- a part of the new file has its number
      module _ (first : (part : Part) → entry.root ≡ To part → part.file ≡ at) where
        own_file : (part : Part) → PartOf format more entry.root part → part.file ≡ at
        own_file part reach = file_of_part format laws more entry.root at first part reach

        pub reach_back : (part : Part) → Reach format many more (shifted_part at part) → Reach format few less part
        reach_back part reach = elim (reach_came (shifted_part at part) reach) [
          | inl mine ↦ absurd (shifted_apart at part.file (own_file (shifted_part at part) mine))
          | inr was ↦
              let number = shifted_same at part.file was.0.file (ap (λ (x : Part). x.file) was.2) in
              let equal : part ≡ was.0 = ap (λ (x : Part). in_file x part.file) was.2 ∙ ap (in_file was.0) number in
              subst (Reach format few less) (sym equal) was.1
        ]

        content_same : (part : Part) (n : ℕ) → Reach format few less part
            → format.content few.places (in_file part n) (unit_at more part.place) ≡ format.content few.places part (unit_at less part.place)
        content_same part n reach =
            let of = of_reach format few less part reach in
            free.content_refiled few.places part n (unit_at more part.place) ∙ ap (format.content few.places part) (same of.0 of.1 part of.2)

        pub others_same : HasSameOthers format few at entry less more
        others_same = record {
          others = λ part. (reach_goes part, reach_back part);
          all = reach_came;
          own = own_reach;
          units = λ part reach.
              let of = of_reach format few less part reach in
              same of.0 of.1 part of.2;
          contents = λ file kind number content. (
            λ has. record {
              part = shifted_part at has.part;
              reached = reach_goes has.part has.reached;
              in_file = ap (shifted at) has.in_file;
              of_kind = has.of_kind;
              numbered = has.numbered;
              is = content_same has.part (shifted at has.part.file) has.reached ∙ has.is;
            },
            λ has. elim (reach_came has.part has.reached) [
              | inl mine ↦ absurd (shifted_apart at file (sym has.in_file ∙ own_file has.part mine))
              | inr was ↦ record {
                part = was.0;
                reached = was.1;
                in_file = shifted_same at was.0.file file (sym (ap (λ (x : Part). x.file) was.2) ∙ has.in_file);
                of_kind = sym (ap (λ (x : Part). x.kind) was.2) ∙ has.of_kind;
                numbered = sym (ap (λ (x : Part). x.number) was.2) ∙ has.numbered;
                is = sym (content_same was.0 (shifted at was.0.file) was.1)
                    ∙ sym (ap (λ (x : Part). format.content few.places x (unit_at more x.place)) was.2) ∙ has.is;
              }
            ],
          );
        }
