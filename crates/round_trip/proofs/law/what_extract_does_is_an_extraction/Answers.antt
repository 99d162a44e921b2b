use Rattle.std.proofs.Common.{ap, refl, ◌∙◌, ◌++◌, List}
use Rattle.host_folders.specs.Folder.{FolderState, Made}
use Rattle.round_trip.specs.Extracted.{Extracted}
use Rattle.volume_extract.specs.Items.{made_in}
use Rattle.round_trip.proofs.law.what_extract_does_is_an_extraction.Goals as goal

pub returns : goal.returns
returns c = λ volume options device device_now folder folder_now status text text_now named honest empty is.
    let e : Extracted = record {
      volume = volume;
      options = options;
      directory = is.directory;
      device = device;
      device_now = device_now;
      items = is.items;
    } in (
      e,
      record {
        volume_is = refl;
        options_are = refl;
        device_is = refl;
        device_now_is = refl;
        is = record { named = named; described = is.described; are_items = is.are_items };
        all = is.all;
        made_is = ap (λ (state : FolderState). state.made) (is.made honest) ∙ ap (λ (made : List Made). made ++ made_in is.items) empty;
      },
    )
