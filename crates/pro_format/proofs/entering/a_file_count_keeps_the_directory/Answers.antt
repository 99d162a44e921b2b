use Rattle.std.proofs.Common.{sym, subst}
use Rattle.pro_dir.specs.Volume.{Directory as Tree}
use Rattle.pro_dir.specs.Walk.{IsKeyOf}
use Rattle.pro_dir.specs.lemmas.VolumeLaws.{one_directory}
use Rattle.pro_format.proofs.FileCounts.{pro_counts}
use Rattle.pro_format.proofs.entering.a_file_count_keeps_the_directory.Goals as goal

pub returns : goal.returns
returns c = λ reserved store directory tree key count described says is_key whole.
    pro_counts reserved store directory described key count
    (subst (λ (t : Tree). IsKeyOf t.entries key) (sym (one_directory store tree described.tree says described.described)) is_key) whole
