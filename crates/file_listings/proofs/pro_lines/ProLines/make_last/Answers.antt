use Rattle.std.proofs.Common.{◌∙◌, ◌++◌, ℕ, List, ap, codes, decimal, sym}
use Rattle.pro_bitmap.specs.Bitmap.{free_count_of}
use Rattle.pro_format.specs.ProVolume.{tree_of, map_in, system_of}
use Rattle.file_listings.specs.DosText.{line}
use Rattle.file_listings.specs.ProLines.{listed_in}
use Rattle.file_listings.specs.ProText.{last_line}
use Rattle.file_listings.specs.declared.style.Style.{Style}
use Rattle.file_formats.specs.lemmas.ProShown.{free_count-pro}
use Rattle.file_listings.proofs.pro_lines.ProLines.make_last.Goals as goal

pub returns-in_ok-writeln-in-Catalog-clause-line : goal.returns-in_ok-writeln-in-Catalog-clause-line
returns-in_ok-writeln-in-Catalog-clause-line g c =
    let v = c.args.self.now.volume in
    c.in_ok-writeln-in-Catalog.ensures.bytes ∙ ap (λ (bytes : List ℕ). bytes ++ line (codes "FREE " ++ decimal c.free_count-free.result)) c.clear.ensures.bytes
    ∙ ap (λ n. line (codes "FREE " ++ decimal n)) (c.free_count-free.ensures ∙ ap free_count_of c.map.ensures ∙ free_count-pro (system_of v) (tree_of v) (map_in v) v.fitted.total)
    ∙ ap (λ (s : Style). last_line s (listed_in c.args.self.now).directory) (sym c.in-Catalog.is)
