-- The laws of DOS 3.3 that moves ask for.
use Rattle.std.specs.Prelude.{◌≡◌, ◌<◌, ◌⊎◌, ℕ, Bool, List}
use Rattle.std.proofs.Common.{refl, sym, ◌∙◌, ap, arith, subst, inl, inr, ⊎_elim}
use Rattle.a2_device.specs.Device.{unit_at}
use Rattle.a2_device.specs.declared.part.Part.{Part}
use Rattle.a2_device.specs.declared.part.PartKind.TheVariants.{List as AList, Body}
use Rattle.dos_catalog.specs.Entry.{entries_in}
use Rattle.dos_tslist.specs.Reach.{rank_of}
use Rattle.vol_format.specs.Laws.{IsMovable, IsDirectory}
use Rattle.dos_format.specs.Dos.{dos_content, pointer_offset, dos_meaning}
use Rattle.dos_format.specs.lemmas.DosBytes.{length-with_place}
use Rattle.dos_format.specs.lemmas.DosContents.{content-here}
use Rattle.dos_format.specs.lemmas.DosDirectory.{dos_is_directory}
use Rattle.dos_format.specs.lemmas.DosEntries.{on_track}
use Rattle.dos_format.specs.lemmas.DosLaws.{IsBodyAt, IsNextList, IsPointedTo, dos_child-To}
use Rattle.dos_format.specs.lemmas.DosMarks.{outside_dos}
use Rattle.dos_format.specs.lemmas.DosPointers.{child-here, child-elsewhere}

-- what is pointed to says which list points there, and with which pointer
one_pointer : (file other : ℕ) (list later i j : ℕ) (child same : Part) → IsPointedTo file list i child → IsPointedTo other later j same
    → child.kind ≡ same.kind → child.number ≡ same.number → (list ≡ later) × (i ≡ j)
one_pointer file other list later i j child same at at' kind number = by_cases at.which at'.which
  where
    by_cases : IsBodyAt list i child ⊎ IsNextList list i child → IsBodyAt later j same ⊎ IsNextList later j same → (list ≡ later) × (i ≡ j)
    by_cases (inl body) (inl body') = (
      omega (arith, body.pair, body'.pair, body.body, body'.body, number),
      omega (arith, body.pair, body'.pair, body.body, body'.body, number),
    )
    by_cases (inl body) (inr next) = absurd (kinds_differ (sym body.kind ∙ kind ∙ next.kind))
      where
        kinds_differ : Body ≡ AList → ⊥
        kinds_differ e = cc
    by_cases (inr next) (inl body) = absurd (kinds_differ (sym body.kind ∙ sym kind ∙ next.kind))
      where
        kinds_differ : Body ≡ AList → ⊥
        kinds_differ e = cc
    by_cases (inr next) (inr next') = (omega (arith, next.list, next'.list, number), next.last ∙ sym next'.last)

pub pointer_below : (file list i : ℕ) (child : Part) → IsPointedTo file list i child → i < 123
pointer_below file list i child at = ⊎_elim (λ body. omega (arith, body.pair)) (λ next. omega (arith, next.last)) at.which

pub dos_is_movable : (data_disk : Bool) (reserved : List Bool) → IsMovable (dos_meaning data_disk reserved)
dos_is_movable data_disk reserved = record {
  described = λ store directory described. subst (IsDirectory (dos_meaning data_disk reserved)) (sym described.says)
      (dos_is_directory data_disk reserved (unit_at store 272) (entries_in store described.sectors) (on_track store described.sectors described.catalog));
  place_free = λ places part unit i place. refl;
  rank_of = λ part other kind number. ap (λ k. rank_of k part.number) kind ∙ ap (rank_of other.kind) number;
  one_slot = λ places part other child same unit unit' i j file is is' kind number.
      let to = dos_child-To part.kind part.file part.number unit i child is in
      let to' = dos_child-To other.kind other.file other.number unit' j same is' in
      let one = one_pointer part.file other.file part.number other.number i j child same to.1 to'.1 kind number in
      (to.0 ∙ sym to'.0, one.0, one.1);
  set_here = λ places part child unit i place whole named is. child-here part.kind part.file part.number unit i place child whole named is;
  set_elsewhere = λ places part unit i j place apart. child-elsewhere part.kind part.file part.number unit i j place apart;
  slot = λ places part child unit i is. pointer_below part.file part.number i child (dos_child-To part.kind part.file part.number unit i child is).1;
  content_free = λ places part place unit. refl;
  content_kept = λ places part child unit i place whole named is. content-here part.kind part.file part.number unit i place child whole named is;
  content_of_body = λ places part unit body. ap (λ k. dos_content k unit) body;
  pointer_length = λ unit i place. length-with_place (pointer_offset i) place unit;
  outside = λ store directory place unit described outside. outside_dos data_disk reserved store directory described place unit outside;
}
