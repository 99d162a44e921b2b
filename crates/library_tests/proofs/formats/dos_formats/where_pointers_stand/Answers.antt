use Rattle.std.proofs.Common.{◌≡◌, ◌∙◌, Bool, List, length, ap, refl, sym, [], false}
use Rattle.vol_layout.specs.Layouts.{Placement}
use Rattle.dos_format.specs.Dos.{DosRules, first_available, dos_available}
use Rattle.library_tests.proofs.formats.dos_formats.where_pointers_stand.Goals as goal

-- all places but those of tracks 0, 1, 2 and 17
all_available : length (dos_available false []) ≡ 496
unfolding first_available
all_available = refl

pub holder-requires-in-loop-k-clause-places : goal.holder-requires-in-loop-k-clause-places
holder-requires-in-loop-k-clause-places g c =
    ap (λ (l : Placement). l.places) c.in_ok-layout.ensures.ok
    ∙ sym (
    ap (λ (f : DosRules). length (dos_available f.data_disk f.reserved)) c.in_ok-format.ensures
    ∙ ap (λ (r : List Bool). length (dos_available false r)) c.none.ensures
    ∙ all_available
    )
