-- What stands once the entry of a file is erased and some places of the file are marked free.
use Rattle.std.specs.Prelude.{◌≡◌, ◌≢◌, ◌⊎◌, ◌≤◌, ℕ, Bool, false, List, length, All}
use Rattle.std.specs.List.{AllZip}
use Rattle.std.proofs.Common.{sym, ◌∙◌, ap, subst, arith, inl, inr}
use Rattle.std.proofs.lemmas.Slice.Zip.{AllZip-long}
use Rattle.vol_format.specs.Accepted.{IsAccepted}
use Rattle.vol_format.specs.Directory.{Directory, Listed, entries, entry_of, root_of, is_directory, files}
use Rattle.vol_format.specs.Laws.{IsReadable, IsMovable}
use Rattle.vol_format.specs.Meaning.{Meaning}
use Rattle.vol_format.specs.Standing.{IsLost}
use Rattle.vol_format.specs.Files.{File, IsFiles, HasFiles}
use Rattle.vol_format.proofs.Kept.{files_kept}
use Rattle.vol_laws.specs.Kept.{IsKept}
use Rattle.vol_laws.specs.Marked.{marked}
use Rattle.vol_laws.specs.declared.mark.Mark.{Mark}
use Rattle.vol_laws.proofs.Losing.{kept_lost}
use Rattle.vol_laws.proofs.ReadBack.{others_stay}
use Rattle.vol_laws.specs.EditLaws.{IsFileFree}
use Rattle.vol_laws.specs.Entered.{HasSameRest, HasLeft, IsTaken}
use Rattle.vol_laws.specs.FilesOf.{IsFileOf}
use Rattle.vol_laws.specs.Inserted.{inserted, insert_at, files_before}
use Rattle.vol_laws.proofs.Entering.{left}
use Rattle.vol_laws.proofs.EntryNumbers.{files_before_same}
use Rattle.vol_laws.proofs.FilesOf.{by_entries}
use Rattle.vol_laws.proofs.Inserting.{length-insert_at}
use Rattle.vol_laws.proofs.Numbered.{entry_index}
use Rattle.vol_laws.proofs.WholeLists.{volume_left}
use Rattle.vol_laws.specs.Deleted.{IsLostOn, HasEntryErased, HasFileDeleted}
use Rattle.vol_laws.specs.Lists.{IsFirst, without_first}
use Rattle.vol_laws.proofs.Removing.{named_file, first_removed}

module _ (format : Meaning) (laws : IsReadable format) (movable : IsMovable format) (free : IsFileFree format)
    (is_named : List ℕ → Bool) (directory few : Directory) (file : ℕ) (store base : List (List ℕ))
    (accepted : IsAccepted format directory store) (first : IsFirst is_named directory file)
    (takes : format.Takes few.places) (within : file ≤ entries few) (is : directory ≡ inserted few file (entry_of directory file))
    (described : format.Describes base few) (rest : HasSameRest few store base) where
  abbrev entry : Listed
  entry = entry_of directory file

  abbrev Taken : ℕ → Type 0
  Taken place = IsTaken format store (root_of directory file) place

  many : IsAccepted format (inserted few file entry) store
  many = subst (λ (d : Directory). IsAccepted format d store) is accepted

  is_file : is_directory entry ≡ false
  is_file = (named_file (is_directory entry) (is_named entry.path) first.named).0

  pub erased : HasLeft format few file entry store base
  erased = left format laws movable free few file entry store base within rest many described takes

  -- the list of files that has one less is that without the first file of such a path
  one_removed : (all : List File) (value : File) (others : List File) → IsFiles format directory store all
      → all ≡ insert_at (files_before directory file) value others → without_first is_named all ≡ others
  one_removed all value others are split =
      let own = (movable.described store directory accepted.described).root_file in
      let zipped : AllZip (IsFileOf format store) (files directory) all = by_entries format laws directory store own all are in
      let index = entry_index directory file first.inside is_file in
      let long = AllZip-long (IsFileOf format store) (files directory) all zipped in
      let size = ap length split ∙ length-insert_at (files_before directory file) value others in
      ap (without_first is_named) split
      ∙ first_removed is_named (IsFileOf format store) (λ e f of. of.path) directory.listed file value others first.inside first.named first.first
      (omega (arith, index.0, long, size))
      (subst (λ (l : List File). AllZip (IsFileOf format store) (files directory) l) split zipped)

  base_files : (all : List File) → HasFiles format store all → HasFiles format base (without_first is_named all)
  base_files all has =
      let out = volume_left format laws movable free few file entry within is_file store base all takes many rest described has in
      let same : files_before directory file ≡ files_before few file = ap (λ (d : Directory). files_before d file) is ∙ files_before_same few file entry within in
      let are : IsFiles format directory store all =
      subst (λ (d : Directory). IsFiles format d store all) (laws.one_directory store has.directory directory has.accepted.described accepted.described) has.are in
      subst (HasFiles format base) (sym (one_removed all out.0 out.1 are (out.2 ∙ ap (λ k. insert_at k out.0 out.1) (sym same)))) out.4

  -- Some places of the file are marked free besides.
  module _ (marks : List Mark) (new : List (List ℕ)) (kept : IsKept format few (marked few marks) base new)
      (own : All (λ (mark : Mark). Taken mark.place) marks) where
    abbrev after : Directory
    after = marked few marks

    new_files : (all : List File) → HasFiles format store all → HasFiles format new (without_first is_named all)
    new_files all has =
        let was = base_files all has in
        record {
          directory = after;
          accepted = kept.accepted;
          are = files_kept format movable few after base new kept.frame kept.contents (without_first is_named all)
              (subst (λ (d : Directory). IsFiles format d base (without_first is_named all))
              (laws.one_directory base was.directory few was.accepted.described described) was.are);
        }

    -- what is lost then stands in the directory with these marks
    pub lost_after : (place : ℕ) → IsLostOn format new place → IsLost format after new place
    lost_after place lost =
        subst (λ (d : Directory). IsLost format d new place) (laws.one_directory new lost.0 after lost.1.described kept.accepted.described) lost.2

    unmarked : (place : ℕ) → ¬ Taken place → All (λ (mark : Mark). mark.place ≢ place) marks
    unmarked place untaken i d inside same = untaken (subst Taken same (own i d inside))

    pub lost_before : (place : ℕ) → IsLostOn format new place → ¬ Taken place → IsLostOn format store place
    lost_before place lost untaken =
        let so = (kept_lost format few after base new kept place).0 (lost_after place lost) in
        let was = erased.lost_all place
        (record { available = so.0; marked = sym (others_stay marks few place (unmarked place untaken)) ∙ so.1; unreached = so.2 }) untaken in
        (directory, accepted, subst (λ (d : Directory). IsLost format d store place) (sym is) was)

    pub lost_still : (place : ℕ) → IsLostOn format store place → IsLostOn format new place
    lost_still place lost =
        let was : IsLost format (inserted few file entry) store place =
        subst (λ (d : Directory). IsLost format d store place) (laws.one_directory store lost.0 (inserted few file entry) lost.1.described many.described) lost.2 in
        let so = erased.lost_before place was in
        let untaken : ¬ Taken place = λ taken. was.unreached taken.0 (erased.files.own taken.0 taken.1) taken.2 in (
          after,
          kept.accepted,
          (kept_lost format few after base new kept place).1
              (so.available, others_stay marks few place (unmarked place untaken) ∙ so.marked, so.unreached),
        )

    pub entry_erased : ((place : ℕ) → Taken place ⊎ ¬ Taken place) → HasEntryErased format is_named directory file store new
    entry_erased either = record {
      volume = (after, kept.accepted);
      files = new_files;
      still = lost_still;
      lost = λ place lost. elim (either place) [
        | inl taken ↦ inr taken
        | inr untaken ↦ inl (lost_before place lost untaken)
      ];
    }

    -- where all places of the file are marked
    pub file_deleted : ((place : ℕ) → Taken place ⊎ ¬ Taken place) → ((place : ℕ) → IsLostOn format new place → ¬ Taken place)
        → HasFileDeleted format is_named store new
    file_deleted either none = record {
      volume = (after, kept.accepted);
      files = new_files;
      lost = λ place. (λ lost. lost_before place lost (none place lost), lost_still place);
    }
