use Rattle.std.proofs.Common.{◌≡◌, ◌∙◌, ◌<◌, Global, List, [], Vec, ℕ, ap, arith, length, map, sym}
use Rattle.std.specs.Prelude.{slice_index_or}
use Rattle.std.proofs.lemmas.List.{get_or-map, length-map}
use Rattle.folder_adding.specs.Directories.{making_by}
use Rattle.folder_adding.proofs.KeptDirectories.{all_held, path_at, stopped_at, went_on}
use Rattle.folder_adding.proofs.making.make_all.Goals as goal

abbrev paths_of : List (Vec ℕ Global) → List (List ℕ)
paths_of paths = map (λ path. path.items) paths

-- the path that has a number
here : (paths : List (Vec ℕ Global)) (number : ℕ) (path : Vec ℕ Global) (bytes : List ℕ) → number < length paths → path ≡ slice_index_or paths number path → bytes ≡ path.items
    → path_at (paths_of paths) number ≡ bytes
here paths number path bytes inside is value =
    get_or-map (λ p. p.items) paths number path [] inside ∙ ap (λ (p : Vec ℕ Global). p.items) (sym is) ∙ sym value

pub returns-in-Err-clause-refused : goal.returns-in-Err-clause-refused
returns-in-Err-clause-refused g c =
    stopped_at (making_by (g.F.DirectoryFormat.directories c.args.format.now) (g.F.Format.meaning c.args.format.now) c.args.date)
    (g.met.F.DirectoryFormat.keeps c.args.format.now) (paths_of c.args.paths.now) c.loop-number.number
    (g.D.Device.state c.args.device.now) (g.D.Device.state c.loop-number.device) c.loop-number.invariant
    (omega (arith, length-map c.args.paths.now (λ path. path.items))) (g.D.Device.state c.keep_directory.new.device) c.as_slice.result.now
    (here c.args.paths.now c.loop-number.number c.index-paths-number.result c.as_slice.result.now (omega arith) c.index-paths-number.is c.as_slice.ensures.value)
    c.in-Err.reply c.in-Err.ensures.refused

pub loop-number-preserved : goal.loop-number-preserved
loop-number-preserved g c =
    went_on (making_by (g.F.DirectoryFormat.directories c.args.format.now) (g.F.Format.meaning c.args.format.now) c.args.date)
    (g.met.F.DirectoryFormat.keeps c.args.format.now) (paths_of c.args.paths.now) c.loop-number.number
    (g.D.Device.state c.args.device.now) (g.D.Device.state c.loop-number.device) c.loop-number.invariant
    (omega (arith, length-map c.args.paths.now (λ path. path.items))) (g.D.Device.state c.keep_directory.new.device) c.as_slice.result.now
    (here c.args.paths.now c.loop-number.number c.index-paths-number.result c.as_slice.result.now (omega arith) c.index-paths-number.is c.as_slice.ensures.value)
    c.keep_directory.ensures.same c.in_default.ensures.kept

pub returns-clause-stored : goal.returns-clause-stored
returns-clause-stored g c = λ honest.
    all_held (making_by (g.F.DirectoryFormat.directories c.args.format.now) (g.F.Format.meaning c.args.format.now) c.args.date)
    (g.met.F.DirectoryFormat.keeps c.args.format.now) (paths_of c.args.paths.now) c.loop-number.number
    (g.D.Device.state c.args.device.now) (g.D.Device.state c.loop-number.device) c.loop-number.invariant
    (omega (arith, length-map c.args.paths.now (λ path. path.items))) honest
