use Rattle.std.proofs.Common.{Global, ap}
use Rattle.vol_format.specs.Directory.{entry_of}
use Rattle.vol_layout.specs.declared.form.PlaceForm.{PlaceForm}
use Rattle.file_cmds.specs.Address.{is_binary}
use Rattle.shop_reads.proofs.wants.is_binary_file.Goals as goal

pub returns-in-Block : goal.returns-in-Block
returns-in-Block g c = ap
    (λ (form : PlaceForm). is_binary {A = Global} form ((g.F.FileFormat.files c.args.format.now).shown (entry_of (g.F.Format.directory c.args.format.now c.args.volume.now) c.args.file)))
    c.in-Block.ensures
