use Rattle.volume_extract.specs.Source.{contents_at, seen_at, source_of}
use Rattle.volume_extract.proofs.SafeHosts.{safe_paths, safe_texts}
use Rattle.volume_extract.proofs.law.each_path_is_safe.Goals as goal

pub returns : goal.returns
returns g c = λ form naming texts directory device device_now items are.
    let source = source_of form naming texts (g.F.FileFormat.files c.args.format.now) (g.F.Format.meaning c.args.format.now) (g.F.TreeFormat.own c.args.format.now) directory in
    λ number low. (
      safe_paths (seen_at source device) source.own (contents_at source device device_now) naming items are number low,
      safe_texts (seen_at source device) source.own (contents_at source device device_now) naming items are number low,
    )
