use Rattle.shop_host.specs.lemmas.Runs.{look_both}
use Rattle.shop_files.proofs.files.JobFiles.of.Goals as goal

pub returns-in_err-of-clause-looked : goal.returns-in_err-of-clause-looked
returns-in_err-of-clause-looked g c =
    look_both _ _ _ (c.input_of-input.ensures.looked) c.of.ensures.looked

pub returns-in_err-of-2-clause-looked : goal.returns-in_err-of-2-clause-looked
returns-in_err-of-2-clause-looked g c =
    look_both _ _ _ (look_both _ _ _ (c.input_of-input.ensures.looked) c.of.ensures.looked) c.of-2.ensures.looked

pub returns-in_err-added_folder-clause-looked : goal.returns-in_err-added_folder-clause-looked
returns-in_err-added_folder-clause-looked g c =
    look_both _ _ _ (look_both _ _ _ (look_both _ _ _ (c.input_of-input.ensures.looked) c.of.ensures.looked) c.of-2.ensures.looked) c.added_folder.ensures.looked

pub returns-in_err-of-3-clause-looked : goal.returns-in_err-of-3-clause-looked
returns-in_err-of-3-clause-looked g c =
    look_both _ _ _ (look_both _ _ _ (look_both _ _ _ (look_both _ _ _ (c.input_of-input.ensures.looked) c.of.ensures.looked) c.of-2.ensures.looked) c.added_folder.ensures.looked) c.of-3.ensures.looked

pub returns-in_err-of-4-clause-looked : goal.returns-in_err-of-4-clause-looked
returns-in_err-of-4-clause-looked g c =
    look_both _ _ _ (look_both _ _ _ (look_both _ _ _ (look_both _ _ _ (look_both _ _ _ (c.input_of-input.ensures.looked) c.of.ensures.looked) c.of-2.ensures.looked) c.added_folder.ensures.looked) c.of-3.ensures.looked) c.of-4.ensures.looked

pub returns-clause-looked : goal.returns-clause-looked
returns-clause-looked g c =
    look_both _ _ _ (look_both _ _ _ (look_both _ _ _ (look_both _ _ _ (look_both _ _ _ (c.input_of-input.ensures.looked) c.of.ensures.looked) c.of-2.ensures.looked) c.added_folder.ensures.looked) c.of-3.ensures.looked) c.of-4.ensures.looked
