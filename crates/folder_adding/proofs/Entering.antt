-- Files that are saved one after the other are entered in the list of a volume's files.
use Rattle.std.proofs.Common.{◌≡◌, ◌∙◌, ℕ, List, [], ◌∷◌, refl, sym, subst}
use Rattle.std.specs.Prelude.{◌↔◌}
use Rattle.folder_adding.specs.Added.{HasAdded}
use Rattle.folder_adding.specs.Entered.{HasFilesAdded, file_of}
use Rattle.folder_adding.specs.Items.{NewFile}
use Rattle.edit_formats.specs.Saves.{SaveMeaning}
use Rattle.vol_format.specs.Accepted.{IsVolume}
use Rattle.vol_format.specs.Files.{File, HasFiles}
use Rattle.vol_format.specs.Meaning.{Meaning}
use Rattle.vol_laws.specs.Deleted.{IsLostOn}
use Rattle.vol_laws.specs.Inserted.{files_before, insert_at}

module _ (saves : SaveMeaning) (format : Meaning) where
  none_added : (old new : List (List ℕ)) → IsVolume format old → new ≡ old → HasFilesAdded saves format [] old new
  none_added old new volume same = record {
    volume = subst (IsVolume format) (sym same) volume;
    files = λ before has. record { after = before; entered = (same, refl); has = subst (λ (store : List (List ℕ)). HasFiles format store before) (sym same) has };
    lost = λ place. ((λ lost. subst (λ (store : List (List ℕ)). IsLostOn format store place) same lost), (λ lost. subst (λ (store : List (List ℕ)). IsLostOn format store place) (sym same) lost));
  }

  pub in_turn : (files : List NewFile) (old new : List (List ℕ)) → IsVolume format old → HasAdded saves format files old new → HasFilesAdded saves format files old new
  in_turn [] old new volume added = none_added old new volume added
  in_turn (file ∷ files) old new volume added =
      let given = added.1.given in
      let saving = added.1.saved in
      let one = saving.saved in
      let rest = in_turn files added.0 new one.volume added.2 in
      let with_one = λ (before : List File). insert_at (files_before saving.directory saving.at) (file_of saves format given saving.entry) before in
      record {
        volume = rest.volume;
        files = λ before has.
            let more = rest.files (with_one before) (one.files before has) in
            record {
              after = more.after;
              entered = (added.0, with_one before, record { given = given; gives = added.1.gives; saved = saving; is = refl }, more.entered);
              has = more.has;
            };
        lost = λ place. ((λ lost. (one.lost place).0 ((rest.lost place).0 lost)), (λ lost. (rest.lost place).1 ((one.lost place).1 lost)));
      }
