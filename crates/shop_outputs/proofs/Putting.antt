-- What an output has, by what the file aside has that it is.
use Rattle.std.proofs.Common.{◌≡◌, ◌≢◌, ◌∙◌, ◌⊎◌, ◌++◌, ℕ, List, Option, Some, None, length, sym, ap, subst, inl, inr, ⊎_elim, refl, arith}
use Rattle.std.specs.Prelude.{Result, Ok, Err, IfErr, IfSome, OnOk, OnErr, codes, decimal, option_map, string_bytes}
use Rattle.std.specs.Bool.{⊤}
use Rattle.std.proofs.lemmas.List.{length-append}
use Rattle.std.specs.IoError.{error_kind}
use Rattle.std.specs.declared.io.Error.{Error}
use Rattle.std.specs.declared.io.ErrorKind.{ErrorKind}
use Rattle.std.specs.declared.string.String.{String}
use Rattle.std.specs.declared.alloc.Global.{Global}
use Rattle.shop_host.specs.State.{Content, Files, HostState, Path, unflushed, whole}
use Rattle.shop_host.specs.Runs.{IsRun}
use Rattle.shop_host.specs.lemmas.Runs.{run_wider}
use Rattle.shop_outputs.specs.Asides.{Destination, IsAside, IsMadeAside, IsOnDisk, IsTaken, Stands, Stays, content_of, destination, destination_of, may_aside, may_at, may_give, may_take, nowhere, over_target, straight_to, to_place, TakesPlace}
use Rattle.shop_outputs.specs.Folders.{IsBeside}
use Rattle.shop_outputs.specs.Puts.{IsHeld, IsPlaced, IsPut, IsReady, may_place, may_prepare}
use Rattle.shop_outputs.specs.Written.{failure_of}
use Rattle.shop_outputs.specs.declared.aside.AsideFile.{AsideFile}
use Rattle.shop_outputs.specs.declared.target.Place.{Place}
use Rattle.shop_outputs.specs.declared.target.Target.{Target}
use Rattle.shop_outputs.specs.declared.target.Target.TheVariants.{Place as APlace}
use Rattle.shop_outputs.specs.declared.output.HeldFile.{HeldFile}
use Rattle.shop_outputs.specs.declared.output.Output.{Output}
use Rattle.shop_outputs.specs.declared.output.Output.TheVariants.{Aside, Held, Nothing}

-- what is aside is prepared
pub aside_prepares : (leads : Path → Path) (to : Destination) (path : Path) (content : Option Content)
    → may_aside to path content → may_prepare leads to path content
aside_prepares leads nowhere path content is = is
aside_prepares leads (to_place place apart placing) path content is = is
aside_prepares leads (straight_to to) path content is = absurd is

-- a run of a file aside is one of its output
pub run_output : {H File Units Names : Type 0} (leads : Path → Path) (output : Output H File Units Names)
    (file : AsideFile H File Units Names) (old new : HostState) → output ≡ Aside file
    → IsRun (may_aside (destination_of file)) old new → IsRun (may_prepare leads (destination output)) old new
run_output {H} {File} {Units} {Names} leads output file old new is run =
    subst (λ (o : Output H File Units Names). IsRun (may_prepare leads (destination o)) old new) (sym is)
    (run_wider (may_aside (destination_of file)) (may_prepare leads (destination_of file)) old new
    (aside_prepares leads (destination_of file)) run)

-- what was put into a file aside
pub put_of : {H File Units Names : Type 0} (place : File → Path) (output : Output H File Units Names)
    (file : AsideFile H File Units Names) (bytes : List ℕ) (files : Files) → output ≡ Aside file
    → IsPut place output bytes files
    → IsMadeAside place file × (file.failure ≡ None → content_of file.made files ≡ unflushed bytes)
put_of {H} {File} {Units} {Names} place output file bytes files is has =
    subst (λ (o : Output H File Units Names). IsPut place o bytes files) is has

pub ready_of : {H File Units Names : Type 0} (place : File → Path) (output : Output H File Units Names)
    (file : AsideFile H File Units Names) (bytes : List ℕ) (files : Files) → output ≡ Aside file
    → IsReady place output bytes files → IsMadeAside place file × IsOnDisk file.made bytes files
ready_of {H} {File} {Units} {Names} place output file bytes files is has =
    subst (λ (o : Output H File Units Names). IsReady place o bytes files) is has

-- no call of the file failed, since none of the output did
pub unfailed : {H File Units Names : Type 0} (output : Output H File Units Names) (file : AsideFile H File Units Names)
    (failure : Option ErrorKind) → output ≡ Aside file → failure ≡ failure_of output → failure ≡ None
    → file.failure ≡ None
unfailed {H} {File} {Units} {Names} output file failure is told none =
    sym (ap (λ (o : Output H File Units Names). failure_of o) is) ∙ (sym told ∙ none)

-- it is done, unless a failure is known
pub unless_failed : {T C : Type 0} (result : Result T Error) (failure : Option ErrorKind)
    → IfErr result (λ error. failure ≡ Some (error_kind error)) → OnOk result C → failure ≡ None → C
unless_failed (Ok value) failure failed done none = done
unless_failed (Err error) failure failed done none =
    let both : Some (error_kind error) ≡ None = sym failed ∙ none in absurd cc

-- what was made is aside still
pub made_same : {H File Units Names : Type 0} (place : File → Path) (old new : AsideFile H File Units Names)
    → new.made ≡ old.made → destination_of new ≡ destination_of old → IsMadeAside place old → IsMadeAside place new
made_same {H} {File} {Units} {Names} place old new made to is =
    subst (λ (m : Option (String Global × File)). IfSome m (λ made. (place made.1 ≡ string_bytes made.0)
    × may_aside (destination_of new) (string_bytes made.0) None)) (sym made)
    (subst (λ (d : Destination). IfSome old.made (λ made. (place made.1 ≡ string_bytes made.0)
    × may_aside d (string_bytes made.0) None)) (sym to) is)

pub on_disk_same : {F T : Type 0} (old new : Option (String Global × F)) (bytes : List ℕ) (files : Files)
    (result : Result T Error) → new ≡ old → OnOk result (IsOnDisk old bytes files) → OnOk result (IsOnDisk new bytes files)
on_disk_same {F} old new bytes files (Ok value) same is =
    subst (λ (m : Option (String Global × F)). IsOnDisk m bytes files) (sym same) is
on_disk_same old new bytes files (Err error) same is = tt

-- both, where it was done
pub on_ok_both : {T A : Type 0} (B : Type 0) (result : Result T Error) → A → OnOk result B → OnOk result (A × B)
on_ok_both B (Ok value) first second = (first, second)
on_ok_both B (Err error) first second = tt

pub on_err_failed : {T A : Type 0} (B : Type 0) (result : Result T Error) (failure : Option ErrorKind) → A
    → IfErr result (λ error. failure ≡ Some (error_kind error)) → OnErr result (A × (failure ≡ None → B))
on_err_failed B (Ok value) failure first failed = tt
on_err_failed B (Err error) failure first failed =
    (first, λ none. let both : Some (error_kind error) ≡ None = sym failed ∙ none in absurd cc)

-- no place is aside of itself
pub own_apart : (place : Path) → ¬ IsBeside place place
own_apart place is =
    let same : length (((place ++ codes ".") ++ decimal is.0) ++ codes ".new") ≡ length place = ap length (sym is.2) in
    let a = length-append ((place ++ codes ".") ++ decimal is.0) (codes ".new") in
    let b = length-append (place ++ codes ".") (decimal is.0) in
    let d = length-append place (codes ".") in
    omega (arith, same, a, b, d)

-- what was only prepared has not taken its place
pub aside_stays : (to : Destination) (old new : HostState) → IsRun (may_aside to) old new
    → Stays to old.files new.files
aside_stays nowhere old new run = tt
aside_stays (to_place place apart placing) old new run =
    ⊎_elim (λ same. inl same) (λ aside. absurd (own_apart place aside.0)) (run.files place)
aside_stays (straight_to to) old new run = tt

-- what is aside may come to stand there while the place is taken too
pub aside_takes : (to : Destination) (bytes : List ℕ) (path : Path) (content : Option Content)
    → may_aside to path content → may_take to bytes path content
aside_takes nowhere bytes path content is = is
aside_takes (to_place place apart placing) bytes path content is = inl is
aside_takes (straight_to to) bytes path content is = is

-- a file that failed does not take its place
pub taken_failed : {T H File Units Names : Type 0} (file : AsideFile H File Units Names) (bytes : List ℕ) (error : Error)
    (old new : HostState) → IsRun (may_aside (destination_of file)) old new
    → IsTaken {T = T} file bytes (Err error) old new
taken_failed file bytes error old new run = record {
  run = run_wider (may_aside (destination_of file)) (may_take (destination_of file) bytes) old new
      (aside_takes (destination_of file) bytes) run;
  done = tt;
  stays = aside_stays (destination_of file) old new run;
}

-- nothing is there, since nothing else is
pub none_left : {X : Type 0} (o : Option X) → ((x : X) → o ≢ Some x) → o ≡ None
none_left None other = refl
none_left (Some x) other = absurd (other x refl)

pub on_ok_true : {T : Type 0} (result : Result T Error) → OnOk result ⊤
on_ok_true (Ok value) = tt
on_ok_true (Err error) = tt

pub on_err_true : {T : Type 0} (result : Result T Error) → OnErr result ⊤
on_err_true (Ok value) = tt
on_err_true (Err error) = tt

-- a run of a path that is written straight is one of its output
pub run_held : {H File Units Names : Type 0} (leads : Path → Path) (output : Output H File Units Names) (file : HeldFile)
    (old new : HostState) → output ≡ Held file → IsRun (may_at (leads file.path.now)) old new
    → IsRun (may_prepare leads (destination output)) old new
run_held {H} {File} {Units} {Names} leads output file old new is run =
    subst (λ (o : Output H File Units Names). IsRun (may_prepare leads (destination o)) old new) (sym is)
    (run_wider (may_at (leads file.path.now)) (may_prepare leads (straight_to file.path.now)) old new
    (λ path content at. at) run)

-- the same, while an output takes its place
place_run : {H File Units Names : Type 0} (leads : Path → Path) (output : Output H File Units Names) (bytes : List ℕ)
    (old new : HostState) → IsRun (may_prepare leads (destination output)) old new
    → IsRun (may_place leads (destination output) bytes) old new
place_run leads output bytes old new run = run_wider (may_prepare leads (destination output))
    (may_place leads (destination output) bytes) old new (λ path content is. inl is) run

-- what was only prepared has not taken its place
pub prepared_stays : (leads : Path → Path) (to : Destination) (old new : HostState) → IsRun (may_prepare leads to) old new
    → Stays to old.files new.files
prepared_stays leads nowhere old new run = tt
prepared_stays leads (to_place place apart placing) old new run =
    ⊎_elim (λ same. inl same) (λ aside. absurd (own_apart place aside.0)) (run.files place)
prepared_stays leads (straight_to to) old new run = tt

-- an output that failed does not take its place
pub placed_failed : {T H File Units Names : Type 0} (output : Output H File Units Names) (bytes : List ℕ) (error : Error)
    (old new : HostState) → IsRun (may_prepare old.leads (destination output)) old new
    → IsPlaced {T = T} output bytes (Err error) old new
placed_failed output bytes error old new run = record {
  run = place_run old.leads output bytes old new run;
  done = tt;
  stays = prepared_stays old.leads (destination output) old new run;
}

placed_done : {T H File Units Names : Type 0} (file : AsideFile H File Units Names) (made : Option (String Global × File))
    (bytes : List ℕ) (result : Result T Error) (old new : HostState) → made ≡ file.made → file.failure ≡ None
    → OnOk result (IfSome made (λ _. Stands (destination_of file) bytes old.files new.files))
    → OnOk result (((file.made ≡ None) × (file.failure ≡ None)) ⊎ Stands (destination_of file) bytes old.files new.files)
placed_done file None bytes (Ok value) old new is none done = inl (sym is, none)
placed_done file (Some made) bytes (Ok value) old new is none done = inr done
placed_done file made bytes (Err error) old new is none done = tt

-- a file aside that took its place is an output that did
pub placed_aside : {T H File Units Names : Type 0} (output : Output H File Units Names)
    (file : AsideFile H File Units Names) (bytes : List ℕ) (result : Result T Error) (old new : HostState)
    → output ≡ Aside file → file.failure ≡ None → IsTaken file bytes result old new
    → IsPlaced output bytes result old new
placed_aside {T} {H} {File} {Units} {Names} output file bytes result old new is none taken =
    subst (λ (o : Output H File Units Names). IsPlaced {T = T} o bytes result old new) (sym is) (record {
      run = run_wider (may_take (destination_of file) bytes) (may_place old.leads (destination_of file) bytes) old new
          (λ path content takes. inr takes) taken.run;
      done = placed_done file file.made bytes result old new refl none taken.done;
      stays = taken.stays;
    })

placed_ok : {T : Type 0} (A : Type 0) (result : Result T Error) → OnOk result (A ⊎ ⊤)
placed_ok A (Ok value) = inr tt
placed_ok A (Err error) = tt

-- so is a path that was written straight
pub placed_held : {T H File Units Names : Type 0} (output : Output H File Units Names) (file : HeldFile) (bytes : List ℕ)
    (result : Result T Error) (old new : HostState) → output ≡ Held file
    → IsRun (may_at (old.leads file.path.now)) old new → IsPlaced output bytes result old new
placed_held {T} {H} {File} {Units} {Names} output file bytes result old new is run =
    subst (λ (o : Output H File Units Names). IsPlaced {T = T} o bytes result old new) (sym is) (record {
      run = run_wider (may_at (old.leads file.path.now)) (may_place old.leads (straight_to file.path.now) bytes) old new
          (λ path content at. inl at) run;
      done = placed_ok _ result;
      stays = on_err_true result;
    })

-- what was held of an output is open still
pub held_of : {H File Units Names : Type 0} (place : File → Path) (output : Output H File Units Names) (bytes : List ℕ)
    (files : Files) → IsReady place output bytes files → IsHeld place output
held_of place Nothing bytes files is = tt
held_of place (Aside file) bytes files is = is.0
held_of place (Held file) bytes files is = tt

-- what is aside of a place is another path
pub apart_from : (place : Path) (apart : Option Path) (path : Path) → IsAside place apart path → path ≢ place
apart_from place apart path is = λ same. own_apart place (subst (λ (q : Path). IsBeside place q) same is.0)

on_ok_map : {T A : Type 0} (B : Type 0) (result : Result T Error) → (A → B) → OnOk result A → OnOk result B
on_ok_map B (Ok value) by is = by is
on_ok_map B (Err error) by is = tt

on_err_map : {T A : Type 0} (B : Type 0) (result : Result T Error) → (A → B) → OnErr result A → OnErr result B
on_err_map B (Ok value) by is = tt
on_err_map B (Err error) by is = by is

-- where a file goes that takes this place
pub goes_to : {H File Units Names : Type 0} (file : AsideFile H File Units Names) (place : Place) (to : Path)
    → file.target.now ≡ APlace place → to ≡ string_bytes place.path
    → to_place to (option_map (λ s. s.now) file.apart) file.placing ≡ destination_of file
goes_to file place to is same =
    ap (λ (q : Path). to_place q (option_map (λ s. s.now) file.apart) file.placing) same
    ∙ sym (ap (λ (t : Target). over_target t (option_map (λ s. s.now) file.apart) file.placing) is)

-- what was made is aside of the place
pub aside_at : {H File Units Names : Type 0} (file : AsideFile H File Units Names) (place : Place) (at to path : Path)
    → file.target.now ≡ APlace place → to ≡ string_bytes place.path → at ≡ path
    → may_aside (destination_of file) path None → IsAside to (option_map (λ s. s.now) file.apart) at
aside_at file place at to path is same named aside =
    subst (λ (d : Destination). may_aside d at None) (sym (goes_to file place to is same))
    (subst (λ (q : Path). may_aside (destination_of file) q None) (sym named) aside)

-- a file aside that was given its place has taken it
pub taken_by : {T H File Units Names : Type 0} (file : AsideFile H File Units Names) (place : Place) (at to : Path)
    (made : String Global × File) (bytes : List ℕ) (result : Result T Error) (old new : HostState)
    → file.target.now ≡ APlace place → to ≡ string_bytes place.path → file.made ≡ Some made
    → IsAside to (option_map (λ s. s.now) file.apart) at → TakesPlace file.placing at to bytes result old new
    → IsTaken file bytes result old new
taken_by {T} {H} {File} {Units} {Names} file place at to made bytes result old new is same has aside takes =
    let apart = option_map (λ s. s.now) file.apart in
    let goes = goes_to file place to is same in
    record {
      run = subst (λ (d : Destination). IsRun (may_take d bytes) old new) goes
          (run_wider (may_give file.placing at to bytes) (may_take (to_place to apart file.placing) bytes) old new
          (λ p content. ⊎_elim (λ e. inl (subst (λ (q : Path). IsAside to apart q) (sym e) aside)) (λ takes. inr takes))
          takes.run);
      done = on_ok_map _ result (λ stands. subst (λ (m : Option (String Global × File)).
          IfSome m (λ _. Stands (destination_of file) bytes old.files new.files)) (sym has)
          (subst (λ (d : Destination). Stands d bytes old.files new.files) goes stands)) takes.done;
      stays = on_err_map _ result (λ stays. subst (λ (d : Destination). Stays d old.files new.files) goes stays) takes.stays;
    }

-- the file that was made is on the disk
pub on_disk_of : {F : Type 0} (all : Option (String Global × F)) (made : String Global × F) (at : Path) (bytes : List ℕ)
    (files : Files) → all ≡ Some made → at ≡ string_bytes made.0 → IsOnDisk all bytes files → files at ≡ whole bytes
on_disk_of {F} all made at bytes files is same disk =
    ap files same ∙ subst (λ (m : Option (String Global × F)). IsOnDisk m bytes files) is disk
