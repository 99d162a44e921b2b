use Rattle.std.proofs.Common.{◌∙◌, List, [], ap, sym, subst, map, rules}
use Rattle.std.proofs.lemmas.List.{map_push}
use Rattle.folder_adding.specs.HostPaths.{Text}
use Rattle.folder_adding.proofs.Looked.{not_there, there}
use Rattle.folder_adding.proofs.PathParts.{AreRead, all_read, none_read, one_read, unsaid}
use Rattle.host_folders.specs.HostEntries.{SaysFolder}
use Rattle.vol_layout.specs.declared.form.PlaceForm.TheVariants.{Block}
use Rattle.folder_adding.proofs.said_path.folders_of.Goals as goal

pub loop-folder-init : goal.loop-folder-init
loop-folder-init c = (
  search rules,
  subst (λ (names : List Text). AreRead c.args.path.now c.args.path.now names) (sym (ap (map (λ name. name.items)) c.new-directories.ensures.items))
      (none_read c.args.path.now),
)

pub returns-in_default-2 : goal.returns-in_default-2
returns-in_default-2 c =
    unsaid c.args.path.now c.loop-folder.rest.now (map (λ name. name.items) c.loop-folder.directories.items) c.loop-folder.invariant.1
    c.in-Some.folder.now c.in-Some.behind.now c.in-Some.ensures.some
    (not_there c.in_ok-name.field-0 ((name : Text) → ¬ SaysFolder Block c.in-Some.folder.now name)
    (λ name. SaysFolder Block c.in-Some.folder.now name.items) c.in_default-2.is c.in_ok-name.ensures)

pub loop-folder-preserved : goal.loop-folder-preserved
loop-folder-preserved c = (
  search rules,
  subst (λ (names : List Text). AreRead c.args.path.now c.in-Some.behind.now names)
      (sym (ap (map (λ name. name.items)) c.in_ok-push.ensures.items ∙ map_push (λ name. name.items) c.loop-folder.directories.items c.in-Some-2.name))
      (one_read c.args.path.now c.loop-folder.rest.now (map (λ name. name.items) c.loop-folder.directories.items) c.loop-folder.invariant.1
      c.in-Some.folder.now c.in-Some.behind.now c.in-Some.ensures.some c.in-Some-2.name.items
      (there c.in_ok-name.field-0 c.in-Some-2.name ((name : Text) → ¬ SaysFolder Block c.in-Some.folder.now name)
      (λ name. SaysFolder Block c.in-Some.folder.now name.items) c.in-Some-2.is c.in_ok-name.ensures)),
)

pub returns : goal.returns
returns c =
    all_read c.args.path.now c.loop-folder.rest.now (map (λ name. name.items) c.loop-folder.directories.items) c.loop-folder.invariant.1
    c.in_default.ensures.none
