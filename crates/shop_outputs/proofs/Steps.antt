-- What a run comes to by one more call.
use Rattle.std.proofs.Common.{◌≡◌, ◌≢◌, ◌∙◌, ℕ, Bool, true, false, List, ◌++◌, Option, Some, None, IsTrue, ◌↔◌, sym, ap, subst, inl, inr, refl, append_assoc, take, drop, take-append-drop}
use Rattle.std.specs.Prelude.{Result, Ok, Err}
use Rattle.std.specs.declared.io.Error.{Error}
use Rattle.shop_host.specs.State.{Content, Files, HostState, IsSameBut, Path}
use Rattle.shop_host.specs.Calls.{Flushes, Makes, OpensEmpty, Removes, Writes}
use Rattle.shop_host.specs.Runs.{IsLooking, IsRun, May}
use Rattle.shop_host.specs.lemmas.Runs.{kept_but, kept_same, run_look, run_noted, run_quiet, run_then, run_wider}
use Rattle.std.specs.Prelude.{IfSome, string_bytes}
use Rattle.std.specs.declared.string.String.{String}
use Rattle.std.specs.declared.alloc.Global.{Global}
use Rattle.shop_outputs.specs.declared.aside.AsideFile.{AsideFile}
use Rattle.shop_outputs.specs.declared.aside.Placing.{Placing}
use Rattle.shop_outputs.specs.declared.target.Place.{Place}
use Rattle.shop_outputs.specs.declared.target.Target.{Target}
use Rattle.shop_outputs.specs.declared.target.Target.TheVariants.{Place as APlace}
use Rattle.shop_outputs.specs.Asides.{Destination, IsGone, IsMadeAside, destination_of, may_aside, may_at, may_beside, IsAside, nowhere, over_target, straight_to, to_place}

pub run_write : (at : Path) (bytes : List ℕ) (result : Result ℕ Error) (old new : HostState)
    → Writes at bytes result old new → IsRun (may_at at) old new
run_write at bytes result old new is =
    run_noted (may_at at) old new is.noted (kept_but (may_at at) at old.files new.files is.same refl)

pub run_flush : {T : Type 0} (at : Path) (result : Result T Error) (old new : HostState)
    → Flushes at result old new → IsRun (may_at at) old new
run_flush at result old new is =
    run_noted (may_at at) old new is.noted (kept_but (may_at at) at old.files new.files is.same refl)

pub run_empty : {F : Type 0} (place : F → Path) (path : Path) (result : Result F Error) (old new : HostState)
    → OpensEmpty place path result old new → IsRun (may_at (old.leads path)) old new
run_empty place path result old new is = run_noted (may_at (old.leads path)) old new is.noted
    (kept_but (may_at (old.leads path)) (old.leads path) old.files new.files is.same refl)

pub run_remove : {T : Type 0} (path : Path) (result : Result T Error) (old new : HostState)
    → Removes path result old new → IsRun (may_at path) old new
run_remove path (Ok value) old new is =
    run_noted (may_at path) old new is.noted (kept_but (may_at path) path old.files new.files is.done.1 refl)
run_remove path (Err error) old new is =
    run_noted (may_at path) old new is.noted (kept_same (may_at path) old.files new.files is.refused.0)

pub run_make : {F : Type 0} (place : F → Path) (path : Path) (result : Result F Error) (old new : HostState)
    → IsTrue old.honest → Makes place path result old new → IsRun (may_at path) old new
run_make place path (Ok file) old new honest is =
    let (noted, at, free, made, same) = is.done in
    run_noted (may_at path) old new noted (kept_but (may_at path) path old.files new.files same refl)
run_make place path (Err error) old new honest is = run_quiet (may_at path) old new honest is.refused.0

-- so many bytes were written, of those that were left
pub moves_front : (all done rest behind : List ℕ) (n : ℕ) → all ≡ done ++ rest → behind ≡ drop n rest
    → all ≡ (done ++ take n rest) ++ behind
moves_front all done rest behind n e is = e ∙ ap (λ l. done ++ l) (sym (take-append-drop n rest))
    ∙ sym (append_assoc done (take n rest) (drop n rest)) ∙ ap (λ l. (done ++ take n rest) ++ l) (sym is)

pub same_removed : {T : Type 0} (path : Path) (result : Result T Error) (old new : HostState)
    → Removes path result old new → IsSameBut path old.files new.files
same_removed path (Ok value) old new is = is.done.1
same_removed path (Err error) old new is = λ other apart. ap (λ (f : Files). f other) is.refused.0

pub gone_removed : {T : Type 0} (path : Path) (result : Result T Error) (old new : HostState)
    → Removes path result old new → IsGone path new
gone_removed path (Ok value) old new is = inl is.done.0
gone_removed path (Err error) old new is = inr is.refused.1

-- what may be aside may be so whatever it holds
pub any_aside : (to : Destination) (path : Path) (one other : Option Content) → may_aside to path one
    → may_aside to path other
any_aside nowhere path one other is = is
any_aside (to_place place apart placing) path one other is = is
any_aside (straight_to to) path one other is = is

-- a run at a path that is aside
pub run_aside : (to : Destination) (at path : Path) (old new : HostState) → at ≡ path → may_aside to path None
    → IsRun (may_at at) old new → IsRun (may_aside to) old new
run_aside to at path old new same aside run = run_wider (may_at at) (may_aside to) old new
    (λ p content is. any_aside to p None content (subst (λ q. may_aside to q None) (sym (is ∙ same)) aside)) run

-- what was made is aside
pub made_aside : {H File Units Names : Type 0} (place : File → Path) (file : AsideFile H File Units Names)
    (made : String Global × File) → file.made ≡ Some made → IsMadeAside place file
    → (place made.1 ≡ string_bytes made.0) × may_aside (destination_of file) (string_bytes made.0) None
made_aside {H} {File} {Units} {Names} place file made is all =
    subst (λ (o : Option (String Global × File)). IfSome o (λ made. (place made.1 ≡ string_bytes made.0)
    × may_aside (destination_of file) (string_bytes made.0) None)) is all

-- a run at a path beside a place
pub run_beside : (place : Path) (apart : Option Path) (path : Path) (old new : HostState) → IsAside place apart path
    → IsRun (may_at path) old new → IsRun (may_beside place apart) old new
run_beside place apart path old new aside run = run_wider (may_at path) (may_beside place apart) old new
    (λ p content is. subst (IsAside place apart) (sym is) aside) run

-- a path that is not another's
pub not_other : (result : Bool) (path : Path) (other : Option Path) → (IsTrue result ↔ (Some path ≡ other))
    → result ≡ false → Some path ≢ other
not_other result path other decides differs same = let yes : result ≡ true = decides.1 same in absurd cc

-- a run at a path, by another word for it
pub run_path : (one other : Path) (old new : HostState) → one ≡ other → IsRun (may_at one) old new
    → IsRun (may_at other) old new
run_path one other old new same run = subst (λ (p : Path). IsRun (may_at p) old new) same run

pub run_then_at : (at first : Path) (old between new : HostState) → at ≡ first → IsRun (may_at first) old between
    → IsRun (may_at at) between new → IsRun (may_at first) old new
run_then_at at first old between new same run then =
    run_then (may_at first) old between new run (run_path at first between new same then)

-- a run, and then a look
pub run_looked : (may : May) (old between new : HostState) → IsRun may old between
    → (IsTrue between.honest → IsLooking between new) → IsRun may old new
run_looked may old between new run look =
    run_then may old between new run (run_look may between new run.honest (look run.honest))

-- what was made beside a place is aside of it
pub run_over : (target : Target) (place : Place) (path : Path) (apart : Option Path) (placing : Placing) (old new : HostState)
    → target ≡ APlace place → path ≡ string_bytes place.path → IsRun (may_beside path apart) old new
    → IsRun (may_aside (over_target target apart placing)) old new
run_over target place path apart placing old new is same run =
    subst (λ (t : Target). IsRun (may_aside (over_target t apart placing)) old new) (sym is)
    (run_wider (may_beside path apart) (may_aside (to_place (string_bytes place.path) apart placing)) old new
    (λ p content aside. subst (λ (q : Path). IsAside q apart p) same aside) run)

-- a run of a file that goes where this one goes
pub run_as : (one other : Destination) (old new : HostState) → one ≡ other → IsRun (may_aside one) old new
    → IsRun (may_aside other) old new
run_as one other old new same run = subst (λ (to : Destination). IsRun (may_aside to) old new) same run
