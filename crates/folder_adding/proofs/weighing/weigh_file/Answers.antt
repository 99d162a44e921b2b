use Rattle.std.proofs.Common.{◌≡◌, Ok, sym, subst, true, false}
use Rattle.std.specs.Option.{option_copied}
use Rattle.folder_adding.specs.HostPaths.{SaidPath, SaysPath, may_have, volume_path}
use Rattle.folder_adding.specs.Items.{ItemView}
use Rattle.folder_adding.specs.Verdicts.{IsFileVerdict, adds, is_item, no_name, no_path, no_plain_file, no_type, second_form}
use Rattle.folder_adding.specs.Weighing.{folder_at, said_view}
use Rattle.folder_adding.proofs.ItemsSaid.{same_item}
use Rattle.folder_adding.proofs.Looked.{not_there, there}
use Rattle.folder_adding.proofs.weighing.weigh_file.Goals as goal

pub returns-in_default : goal.returns-in_default
returns-in_default c = λ entries are.
    no_path
    (not_there c.in_ok-said.field-0 ((said : SaidPath) → ¬ SaysPath c.args.destination.now.file_system c.args.path.now said)
    (λ said. SaysPath c.args.destination.now.file_system c.args.path.now (said_view said)) c.in_default.is c.in_ok-said.ensures)

pub returns-then-said-eq-DIRECTORY_TYPE : goal.returns-then-said-eq-DIRECTORY_TYPE
returns-then-said-eq-DIRECTORY_TYPE c = λ entries are.
    no_plain_file (said_view c.in-Some.said)
    (there c.in_ok-said.field-0 c.in-Some.said ((said : SaidPath) → ¬ SaysPath c.args.destination.now.file_system c.args.path.now said)
    (λ said. SaysPath c.args.destination.now.file_system c.args.path.now (said_view said)) c.in-Some.is c.in_ok-said.ensures)
    c.if-said-eq-DIRECTORY_TYPE.true

pub returns-then-is_second : goal.returns-then-is_second
returns-then-is_second c = λ entries are.
    second_form (said_view c.in-Some.said) (
      there c.in_ok-said.field-0 c.in-Some.said ((said : SaidPath) → ¬ SaysPath c.args.destination.now.file_system c.args.path.now said)
          (λ said. SaysPath c.args.destination.now.file_system c.args.path.now (said_view said)) c.in-Some.is c.in_ok-said.ensures,
      c.if-said-eq-DIRECTORY_TYPE.false,
    )
    (sym (c.if-is_second.ensures entries are))

pub returns-in_default-kind_for : goal.returns-in_default-kind_for
returns-in_default-kind_for c = λ entries are.
    no_type (said_view c.in-Some.said) (
      there c.in_ok-said.field-0 c.in-Some.said ((said : SaidPath) → ¬ SaysPath c.args.destination.now.file_system c.args.path.now said)
          (λ said. SaysPath c.args.destination.now.file_system c.args.path.now (said_view said)) c.in-Some.is c.in_ok-said.ensures,
      c.if-said-eq-DIRECTORY_TYPE.false,
    )
    (sym (c.if-is_second.ensures entries are)) (sym c.in_default-kind_for.ensures)

pub returns-in_default-2 : goal.returns-in_default-2
returns-in_default-2 c = λ entries are.
    no_name (said_view c.in-Some.said) c.in-Some-kind_for.kind (
      there c.in_ok-said.field-0 c.in-Some.said ((said : SaidPath) → ¬ SaysPath c.args.destination.now.file_system c.args.path.now said)
          (λ said. SaysPath c.args.destination.now.file_system c.args.path.now (said_view said)) c.in-Some.is c.in_ok-said.ensures,
      c.if-said-eq-DIRECTORY_TYPE.false,
    )
    (sym (c.if-is_second.ensures entries are)) (sym c.in-Some-kind_for.ensures)
    (not_there c.in_ok-path.field-0 (may_have c.args.destination.now.file_system (said_view c.in-Some.said) ≡ false)
    (λ path. (may_have c.args.destination.now.file_system (said_view c.in-Some.said) ≡ true)
    × (path.items ≡ volume_path c.args.destination.now.file_system (option_copied c.args.destination.now.into) (said_view c.in-Some.said)))
    c.in_default-2.is c.in_ok-path.ensures)

pub returns : goal.returns
returns c = λ entries are.
    let folder = folder_at c.args.destination.now entries in
    let said = said_view c.in-Some.said in
    let named =
    there c.in_ok-path.field-0 c.in-Some-2.path (may_have c.args.destination.now.file_system (said_view c.in-Some.said) ≡ false)
    (λ path. (may_have c.args.destination.now.file_system (said_view c.in-Some.said) ≡ true)
    × (path.items ≡ volume_path c.args.destination.now.file_system (option_copied c.args.destination.now.into) (said_view c.in-Some.said)))
    c.in-Some-2.is c.in_ok-path.ensures in
    subst (λ (item : ItemView). IsFileVerdict folder c.args.path.now (Ok (adds item)))
    (same_item folder c.args.path.now said c.in-Some-kind_for.kind c.in-Some-2.path.items c.form_given.result c.second_of-second.result named.1 c.form_given.ensures
    (c.second_of-second.ensures entries are))
    (is_item said c.in-Some-kind_for.kind (
      there c.in_ok-said.field-0 c.in-Some.said ((said : SaidPath) → ¬ SaysPath c.args.destination.now.file_system c.args.path.now said)
          (λ said. SaysPath c.args.destination.now.file_system c.args.path.now (said_view said)) c.in-Some.is c.in_ok-said.ensures,
      c.if-said-eq-DIRECTORY_TYPE.false,
    )
    (sym (c.if-is_second.ensures entries are)) (sym c.in-Some-kind_for.ensures) named.0)
