use Rattle.host_folders.specs.HostEntries.{SaysFolder, SaysName}
use Rattle.host_folders.proofs.InOneWay.{found_map, no_folder, says_stem, stem_says}
use Rattle.host_folders.proofs.said_stem.stored_name.Goals as goal

pub returns-in-Some : goal.returns-in-Some
returns-in-Some g c =
    found_map c.name_of.result (λ v. v.items) (SaysName c.args.form c.in-Some.stem.now)
    (SaysFolder c.args.form c.args.text.now)
    (stem_says c.args.form c.args.text.now c.in-Some.stem.now c.in-Some.ensures.some)
    (says_stem c.args.form c.args.text.now c.in-Some.stem.now c.in-Some.ensures.some)
    c.name_of.ensures

pub returns-in-None : goal.returns-in-None
returns-in-None g c = no_folder c.args.form c.args.text.now c.in-None.ensures.none
