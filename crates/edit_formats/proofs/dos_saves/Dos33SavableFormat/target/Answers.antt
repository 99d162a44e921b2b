use Rattle.std.proofs.Common.{◌∙◌, sym, refl}
use Rattle.std.proofs.lemmas.Result.{err_from_is_err_and}
use Rattle.dos_catalog.specs.Listed.{sectors_of_catalog}
use Rattle.edit_formats.proofs.Walked.{used}
use Rattle.edit_formats.proofs.dos_saves.Dos33SavableFormat.target.Goals as goal

pub returns-in_err-catalog-clause-described : goal.returns-in_err-catalog-clause-described
returns-in_err-catalog-clause-described g c = λ directory honest described same.
    let given = err_from_is_err_and c.from_residual.result c.from_residual.ensures.1 in
    c.walk_catalog.ensures.described honest described.geometry (described.sectors, described.catalog)
    (cc (same, given.1, given.2, c.in_err-catalog.is, c.in_err-catalog.was))

pub returns-then-has_name-clause-told : goal.returns-then-has_name-clause-told
returns-then-has_name-clause-told g c = λ directory honest described.
    let catalog = c.in_ok-catalog.catalog in
    let walked = c.in_ok-catalog.ensures.walked honest in
    record {
      name = sym c.is_dos_name.ensures ∙ c.if-not-is_dos_name.false;
      sectors = sectors_of_catalog catalog;
      catalog = walked.is;
      is = sym (used (g.D.Device.state c.args.device.now).store catalog walked c.args.path.now c.dos_name.result c.entries.result.now c.has_name.result
          c.dos_name.ensures c.entries.ensures c.has_name.ensures) ∙ c.if-has_name.true;
    }

pub returns-in-None-clause-told : goal.returns-in-None-clause-told
returns-in-None-clause-told g c = λ directory honest described.
    let catalog = c.in_ok-catalog.catalog in
    let walked = c.in_ok-catalog.ensures.walked honest in
    record {
      name = sym c.is_dos_name.ensures ∙ c.if-not-is_dos_name.false;
      sectors = sectors_of_catalog catalog;
      catalog = walked.is;
      is = (
        sym (used (g.D.Device.state c.args.device.now).store catalog walked c.args.path.now c.dos_name.result c.entries.result.now c.has_name.result
            c.dos_name.ensures c.entries.ensures c.has_name.ensures) ∙ c.if-has_name.false,
        sym walked.free ∙ sym c.free_slot.ensures ∙ c.in-None.is,
      );
    }

pub returns-clause-told : goal.returns-clause-told
returns-clause-told g c = λ directory honest described.
    let catalog = c.in_ok-catalog.catalog in
    let walked = c.in_ok-catalog.ensures.walked honest in
    record {
      name = sym c.is_dos_name.ensures ∙ c.if-not-is_dos_name.false;
      sectors = sectors_of_catalog catalog;
      catalog = walked.is;
      is = (
        sym (used (g.D.Device.state c.args.device.now).store catalog walked c.args.path.now c.dos_name.result c.entries.result.now c.has_name.result
            c.dos_name.ensures c.entries.ensures c.has_name.ensures) ∙ c.if-has_name.false,
        sym walked.free ∙ sym c.free_slot.ensures ∙ c.in-Some.is,
        refl,
      );
    }
