-- What two outputs that are apart leave of one another.
use Rattle.std.proofs.Common.{◌≡◌, ◌≢◌, ◌∙◌, ◌⊎◌, ℕ, Bool, true, false, List, Option, Some, None, IsTrue, sym, ap, subst, inl, inr, ⊎_elim, refl}
use Rattle.std.specs.Prelude.{Result, Ok, Err, IfSome, OnOk, OnErr, is_err, string_bytes}
use Rattle.std.specs.Bool.{⊤}
use Rattle.std.specs.declared.io.Error.{Error}
use Rattle.std.specs.declared.io.ErrorKind.{ErrorKind}
use Rattle.std.specs.declared.string.String.{String}
use Rattle.std.specs.declared.alloc.Global.{Global}
use Rattle.shop_host.specs.State.{Content, Files, HostState, Path}
use Rattle.shop_host.specs.Runs.{IsKeptBut, IsRun, May}
use Rattle.shop_host.specs.lemmas.Runs.{run_here, run_then, run_wider}
use Rattle.shop_outputs.specs.Asides.{Destination, Stands, Stays, content_of, destination, destination_of, IsOnDisk, may_aside, may_take, nowhere, straight_to, to_place}
use Rattle.shop_outputs.specs.Puts.{AreApart, AreBothPlaced, ArePrepared, IsHeld, IsOf, IsPlaced, IsPut, IsReady, IsSettled, may_end, may_place, may_prepare, may_prepare_both}
use Rattle.shop_outputs.specs.Endings.{IsUnflushed, stopped}
use Rattle.shop_outputs.specs.Written.{IsFlushed, IsUntouched}
use Rattle.shop_outputs.specs.declared.ending.Ending.{Ending}
use Rattle.shop_outputs.specs.declared.ending.Unwritten.{Unwritten}
use Rattle.shop_outputs.specs.declared.ending.Unwritten.TheVariants.{Image, ImageAfterCertificate}
use Rattle.shop_outputs.specs.declared.output.Output.{Output}
use Rattle.shop_outputs.specs.declared.output.Output.TheVariants.{Aside, Held, Nothing}
use Rattle.shop_outputs.proofs.Putting.{aside_prepares, held_of, own_apart, prepared_stays}

-- what may come to stand before an output takes its place is of it
of_prepared : (leads : Path → Path) (to : Destination) (path : Path) (content : Option Content)
    → may_prepare leads to path content → IsOf leads to path
of_prepared leads nowhere path content is = is
of_prepared leads (to_place place apart placing) path content is = inr is
of_prepared leads (straight_to to) path content is = is

of_taken : (leads : Path → Path) (to : Destination) (bytes : List ℕ) (path : Path) (content : Option Content)
    → may_take to bytes path content → IsOf leads to path
of_taken leads nowhere bytes path content is = is
of_taken leads (to_place place apart placing) bytes path content is = ⊎_elim (λ aside. inr aside) (λ takes. inl takes.0) is
of_taken leads (straight_to to) bytes path content is = absurd is

-- so is what may come to stand while it takes its place
pub of_placed : (leads : Path → Path) (to : Destination) (bytes : List ℕ) (path : Path) (content : Option Content)
    → may_place leads to bytes path content → IsOf leads to path
of_placed leads to bytes path content is =
    ⊎_elim (λ prepared. of_prepared leads to path content prepared) (λ taken. of_taken leads to bytes path content taken) is

of_aside : (leads : Path → Path) (to : Destination) (path : Path) (content : Option Content)
    → may_aside to path content → IsOf leads to path
of_aside leads to path content is = of_prepared leads to path content (aside_prepares leads to path content is)

-- what is apart of another is so the other way round
pub apart_flipped : (leads : Path → Path) (one other : Destination) → AreApart leads one other
    → AreApart leads other one
apart_flipped leads one other apart = λ path both. apart path (both.1, both.0)

-- at each path of a destination stands what stood there
abbrev pub IsSameOf : (Path → Path) → Destination → Files → Files → Type 0
IsSameOf leads to old new = (path : Path) → IsOf leads to path → new path ≡ old path

-- at the place of a destination stands what stood there
abbrev pub IsSamePlace : Destination → Files → Files → Type 0
IsSamePlace nowhere old new = ⊤
IsSamePlace (to_place place apart placing) old new = new place ≡ old place
IsSamePlace (straight_to to) old new = ⊤

same_apart : (may : May) (leads : Path → Path) (one other : Destination) (old new : Files)
    → ((path : Path) (content : Option Content) → may path content → IsOf leads one path) → AreApart leads one other
    → IsKeptBut may old new → IsSameOf leads other old new
same_apart may leads one other old new of apart kept = λ path is.
    ⊎_elim (λ same. same) (λ stands. absurd (apart path (of path (new path) stands, is))) (kept path)

-- a run of an output leaves what stands at the paths of another that is apart
pub same_prepared : (leads : Path → Path) (one other : Destination) (old new : HostState) → AreApart leads one other
    → IsRun (may_prepare leads one) old new → IsSameOf leads other old.files new.files
same_prepared leads one other old new apart run =
    same_apart (may_prepare leads one) leads one other old.files new.files (of_prepared leads one) apart run.files

pub same_placed : (leads : Path → Path) (one other : Destination) (bytes : List ℕ) (old new : HostState)
    → AreApart leads one other → IsRun (may_place leads one bytes) old new → IsSameOf leads other old.files new.files
same_placed leads one other bytes old new apart run =
    same_apart (may_place leads one bytes) leads one other old.files new.files (of_placed leads one bytes) apart run.files

same_place : (leads : Path → Path) (to : Destination) (old new : Files) → IsSameOf leads to old new
    → IsSamePlace to old new
same_place leads nowhere old new same = tt
same_place leads (to_place place apart placing) old new same = same place (inl refl)
same_place leads (straight_to to) old new same = tt

content_kept : {F : Type 0} (leads : Path → Path) (to : Destination) (place : F → Path)
    (made : Option (String Global × F)) (old new : Files) → IsSameOf leads to old new
    → IfSome made (λ made. (place made.1 ≡ string_bytes made.0) × may_aside to (string_bytes made.0) None)
    → content_of made new ≡ content_of made old
content_kept leads to place None old new same is = refl
content_kept leads to place (Some made) old new same is =
    same (string_bytes made.0) (of_aside leads to (string_bytes made.0) None is.1)

disk_kept : {F : Type 0} (leads : Path → Path) (to : Destination) (place : F → Path)
    (made : Option (String Global × F)) (bytes : List ℕ) (old new : Files) → IsSameOf leads to old new
    → IfSome made (λ made. (place made.1 ≡ string_bytes made.0) × may_aside to (string_bytes made.0) None)
    → IsOnDisk made bytes old → IsOnDisk made bytes new
disk_kept leads to place None bytes old new same is disk = tt
disk_kept leads to place (Some made) bytes old new same is disk =
    same (string_bytes made.0) (of_aside leads to (string_bytes made.0) None is.1) ∙ disk

-- what was put into an output is in it still
pub put_kept : {H File Units Names : Type 0} (leads : Path → Path) (place : File → Path)
    (output : Output H File Units Names) (bytes : List ℕ) (old new : Files)
    → IsSameOf leads (destination output) old new → IsPut place output bytes old → IsPut place output bytes new
put_kept leads place Nothing bytes old new same has = tt
put_kept leads place (Aside file) bytes old new same has =
    (has.0, λ none. content_kept leads (destination_of file) place file.made old new same has.0 ∙ has.1 none)
put_kept leads place (Held file) bytes old new same has = tt

-- what is on the disk is there still
pub ready_kept : {H File Units Names : Type 0} (leads : Path → Path) (place : File → Path)
    (output : Output H File Units Names) (bytes : List ℕ) (old new : Files)
    → IsSameOf leads (destination output) old new → IsReady place output bytes old → IsReady place output bytes new
ready_kept leads place Nothing bytes old new same has = tt
ready_kept leads place (Aside file) bytes old new same has =
    (has.0, disk_kept leads (destination_of file) place file.made bytes old new same has.0 has.1)
ready_kept leads place (Held file) bytes old new same has = tt

-- what was made of an output is open, since something was put into it
pub held_put : {H File Units Names : Type 0} (place : File → Path) (output : Output H File Units Names) (bytes : List ℕ)
    (files : Files) → IsPut place output bytes files → IsHeld place output
held_put place Nothing bytes files has = tt
held_put place (Aside file) bytes files has = has.0
held_put place (Held file) bytes files has = tt

pub stays_before : (to : Destination) (old between new : Files) → IsSamePlace to old between → Stays to between new
    → Stays to old new
stays_before nowhere old between new same stays = tt
stays_before (to_place place apart placing) old between new same stays =
    ⊎_elim (λ is. inl (is ∙ same)) (λ is. inr (is.0, sym same ∙ is.1, is.2)) stays
stays_before (straight_to to) old between new same stays = tt

pub stays_after : (to : Destination) (old between new : Files) → Stays to old between → IsSamePlace to between new
    → Stays to old new
stays_after nowhere old between new stays same = tt
stays_after (to_place place apart placing) old between new stays same =
    ⊎_elim (λ is. inl (same ∙ is)) (λ is. inr (is.0, is.1, same ∙ is.2)) stays
stays_after (straight_to to) old between new stays same = tt

pub stands_before : (to : Destination) (bytes : List ℕ) (old between new : Files) → IsSamePlace to old between
    → Stands to bytes between new → Stands to bytes old new
stands_before nowhere bytes old between new same stands = tt
stands_before (to_place place apart placing) bytes old between new same stands =
    (stands.0, λ free. sym same ∙ stands.1 free)
stands_before (straight_to to) bytes old between new same stands = tt

stands_after : (to : Destination) (bytes : List ℕ) (old between new : Files) → Stands to bytes old between
    → IsSamePlace to between new → Stands to bytes old new
stands_after nowhere bytes old between new stands same = tt
stands_after (to_place place apart placing) bytes old between new stands same = (same ∙ stands.0, stands.1)
stands_after (straight_to to) bytes old between new stands same = tt

pub stays_same : (to : Destination) (old new : Files) → IsSamePlace to old new → Stays to old new
stays_same nowhere old new same = tt
stays_same (to_place place apart placing) old new same = inl same
stays_same (straight_to to) old new same = tt

-- Before either of two outputs takes its place, what stood at both stands.
pub first_place : (leads : Path → Path) (one other : Destination) (old new : Files) → AreApart leads one other
    → IsKeptBut (may_prepare_both leads one other) old new → IsSamePlace one old new
first_place leads nowhere other old new apart kept = tt
first_place leads (to_place place beside placing) other old new apart kept =
    ⊎_elim (λ same. same) (λ is. ⊎_elim (λ aside. absurd (own_apart place aside.0))
    (λ prepared. absurd (apart place (inl refl, of_prepared leads other place (new place) prepared))) is) (kept place)
first_place leads (straight_to to) other old new apart kept = tt

pub second_place : (leads : Path → Path) (one other : Destination) (old new : Files) → AreApart leads one other
    → IsKeptBut (may_prepare_both leads one other) old new → IsSamePlace other old new
second_place leads one nowhere old new apart kept = tt
second_place leads one (to_place place beside placing) old new apart kept =
    ⊎_elim (λ same. same) (λ is. ⊎_elim
    (λ prepared. absurd (apart place (of_prepared leads one place (new place) prepared, inl refl)))
    (λ aside. absurd (own_apart place aside.0)) is) (kept place)
second_place leads one (straight_to to) old new apart kept = tt

-- a run of the first of two outputs, and of the second
pub run_first : (leads : Path → Path) (one other : Destination) (old new : HostState)
    → IsRun (may_prepare leads one) old new → IsRun (may_prepare_both leads one other) old new
run_first leads one other old new run =
    run_wider (may_prepare leads one) (may_prepare_both leads one other) old new (λ path content is. inl is) run

pub run_second : (leads : Path → Path) (one other : Destination) (old new : HostState)
    → IsRun (may_prepare leads other) old new → IsRun (may_prepare_both leads one other) old new
run_second leads one other old new run =
    run_wider (may_prepare leads other) (may_prepare_both leads one other) old new (λ path content is. inr is) run

-- a run by the same links
pub run_leads : (one other : Path → Path) (to : Destination) (old new : HostState) → one ≡ other
    → IsRun (may_prepare one to) old new → IsRun (may_prepare other to) old new
run_leads one other to old new same run =
    subst (λ (leads : Path → Path). IsRun (may_prepare leads to) old new) same run

-- the files aside of both were removed
pub both_removed : {H File Units Names : Type 0} (place : File → Path) (out certificate : Output H File Units Names)
    (old between new : HostState) → IsRun (may_prepare old.leads (destination out)) old between
    → (IsTrue between.honest → IsHeld place certificate
    → IsRun (may_prepare between.leads (destination certificate)) between new)
    → IsHeld place certificate → IsRun (may_prepare_both old.leads (destination out) (destination certificate)) old new
both_removed place out certificate old between new run then held =
    let one = destination out in
    let other = destination certificate in
    run_then (may_prepare_both old.leads one other) old between new (run_first old.leads one other old between run)
    (run_second old.leads one other between new
    (run_leads between.leads old.leads other between new run.leads (then run.honest held)))

-- A call of the image's output had failed: nothing was asked.
pub prepared_failed : {T E H File Units Names : Type 0} (place : File → Path) (out : Output H File Units Names)
    (image : List ℕ) (certificate : Output H File Units Names) (said : List ℕ) (why : E) (host : HostState)
    → IsTrue host.honest → IsPut place out image host.files → IsPut place certificate said host.files
    → ArePrepared {T = T} place out out image certificate certificate said (Err why) host host
prepared_failed place out image certificate said why host honest has told = record {
  run = run_here (may_prepare_both host.leads (destination out) (destination certificate)) host honest;
  done = tt;
  failed = (held_put place out image host.files has, held_put place certificate said host.files told);
}

-- the certificate could not be put onto the disk
pub prepared_without : {T E H File Units Names : Type 0} (place : File → Path) (out : Output H File Units Names)
    (image : List ℕ) (certificate certificate_now : Output H File Units Names) (said : List ℕ) (why : E)
    (old new : HostState) → IsPut place out image old.files
    → IsRun (may_prepare old.leads (destination certificate)) old new → IsPut place certificate_now said new.files
    → ArePrepared {T = T} place out out image certificate certificate_now said (Err why) old new
prepared_without place out image certificate certificate_now said why old new has run told = record {
  run = run_second old.leads (destination out) (destination certificate) old new run;
  done = tt;
  failed = (held_put place out image old.files has, held_put place certificate_now said new.files told);
}

prepared_run : {H File Units Names : Type 0} (out certificate : Output H File Units Names) (old between new : HostState)
    → IsRun (may_prepare old.leads (destination certificate)) old between
    → IsRun (may_prepare between.leads (destination out)) between new
    → IsRun (may_prepare_both old.leads (destination out) (destination certificate)) old new
prepared_run out certificate old between new run then =
    let one = destination out in
    let other = destination certificate in
    run_then (may_prepare_both old.leads one other) old between new (run_second old.leads one other old between run)
    (run_first old.leads one other between new (run_leads between.leads old.leads one between new run.leads then))

-- what was put into the image's output is in it once the certificate is on the disk
pub put_behind : {H File Units Names : Type 0} (place : File → Path) (out certificate : Output H File Units Names)
    (image : List ℕ) (old between : HostState) → AreApart old.leads (destination out) (destination certificate)
    → IsRun (may_prepare old.leads (destination certificate)) old between → IsPut place out image old.files
    → IsPut place out image between.files
put_behind place out certificate image old between apart run has =
    put_kept old.leads place out image old.files between.files
    (same_prepared old.leads (destination certificate) (destination out) old between
    (apart_flipped old.leads (destination out) (destination certificate) apart) run) has

-- both are on the disk
pub prepared_both : {T E H File Units Names : Type 0} (place : File → Path) (out out_now : Output H File Units Names)
    (image : List ℕ) (certificate certificate_now : Output H File Units Names) (said : List ℕ) (value : T)
    (old between new : HostState) → AreApart old.leads (destination out) (destination certificate)
    → destination certificate_now ≡ destination certificate
    → IsRun (may_prepare old.leads (destination certificate)) old between
    → IsReady place certificate_now said between.files
    → IsRun (may_prepare between.leads (destination out)) between new → IsReady place out_now image new.files
    → ArePrepared {E = E} place out out_now image certificate certificate_now said (Ok value) old new
prepared_both place out out_now image certificate certificate_now said value old between new apart goes run told then has =
    let apart_now = subst (λ (to : Destination). AreApart old.leads (destination out) to) (sym goes) apart in
    let same = same_prepared old.leads (destination out) (destination certificate_now) between new apart_now
    (run_leads between.leads old.leads (destination out) between new run.leads then) in
    record {
      run = prepared_run out certificate old between new run then;
      done = (has, ready_kept old.leads place certificate_now said between.files new.files same told);
      failed = tt;
    }

-- the certificate is on the disk, and the image could not be put there
pub prepared_alone : {T E H File Units Names : Type 0} (place : File → Path) (out out_now : Output H File Units Names)
    (image : List ℕ) (certificate certificate_now : Output H File Units Names) (said : List ℕ) (why : E)
    (old between new : HostState) → IsRun (may_prepare old.leads (destination certificate)) old between
    → IsReady place certificate_now said between.files
    → IsRun (may_prepare between.leads (destination out)) between new → IsPut place out_now image new.files
    → ArePrepared {T = T} place out out_now image certificate certificate_now said (Err why) old new
prepared_alone place out out_now image certificate certificate_now said why old between new run told then has = record {
  run = prepared_run out certificate old between new run then;
  done = tt;
  failed = (held_put place out_now image new.files has, held_of place certificate_now said between.files told);
}

-- an output takes its place by the same links
place_leads : (one other : Path → Path) (to : Destination) (bytes : List ℕ) (old new : HostState) → one ≡ other
    → IsRun (may_place one to bytes) old new → IsRun (may_place other to bytes) old new
place_leads one other to bytes old new same run =
    subst (λ (leads : Path → Path). IsRun (may_place leads to bytes) old new) same run

-- what either of two outputs may come to is what both may
end_first : (leads : Path → Path) (out : Destination) (image : List ℕ) (certificate : Destination) (said : List ℕ)
    (old new : HostState) → IsRun (may_place leads out image) old new
    → IsRun (may_end leads out image certificate said) old new
end_first leads out image certificate said old new run = run_wider (may_place leads out image)
    (may_end leads out image certificate said) old new (λ path content is. inl is) run

end_second : (leads : Path → Path) (out : Destination) (image : List ℕ) (certificate : Destination) (said : List ℕ)
    (old new : HostState) → IsRun (may_place leads certificate said) old new
    → IsRun (may_end leads out image certificate said) old new
end_second leads out image certificate said old new run = run_wider (may_place leads certificate said)
    (may_end leads out image certificate said) old new (λ path content is. inr is) run

pub end_prepared : (leads : Path → Path) (out : Destination) (image : List ℕ) (certificate : Destination) (said : List ℕ)
    (old new : HostState) → IsRun (may_prepare_both leads out certificate) old new
    → IsRun (may_end leads out image certificate said) old new
end_prepared leads out image certificate said old new run = run_wider (may_prepare_both leads out certificate)
    (may_end leads out image certificate said) old new (λ path content is. ⊎_elim (λ one. inl (inl one)) (λ other. inr (inl other)) is) run

-- The certificate could not take its place: the image's file aside was removed.
pub places_refused : {T H File Units Names : Type 0} (out : Output H File Units Names) (image : List ℕ)
    (certificate : Output H File Units Names) (said : List ℕ) (unwritten : Unwritten)
    (old between new : HostState) → AreApart old.leads (destination out) (destination certificate)
    → IsRun (may_place old.leads (destination certificate) said) old between
    → Stays (destination certificate) old.files between.files
    → IsRun (may_prepare between.leads (destination out)) between new
    → AreBothPlaced {T = T} out image certificate said (Err unwritten) old new
places_refused out image certificate said unwritten old between new apart first stays then =
    let one = destination out in
    let other = destination certificate in
    let run = run_leads between.leads old.leads one between new first.leads then in
    let other_same = same_place old.leads other between.files new.files (same_prepared old.leads one other between new apart run) in
    let one_same = same_place old.leads one old.files between.files
    (same_placed old.leads other one said old between (apart_flipped old.leads one other apart) first) in
    record {
      run = run_then (may_end old.leads one image other said) old between new
          (end_second old.leads one image other said old between first)
          (end_prepared old.leads one image other said between new (run_first old.leads one other between new run));
      done = tt;
      failed = (
        stays_before one old.files between.files new.files one_same (prepared_stays old.leads one between new run),
        inr (inl (stays_after other old.files between.files new.files stays other_same)),
      );
    }

places_run : {T H File Units Names : Type 0} (out : Output H File Units Names) (image : List ℕ)
    (certificate : Output H File Units Names) (said : List ℕ) (result : Result T Error)
    (old between new : HostState) → IsRun (may_place old.leads (destination certificate) said) old between
    → IsPlaced out image result between new
    → IsRun (may_end old.leads (destination out) image (destination certificate) said) old new
places_run out image certificate said result old between new run then =
    let one = destination out in
    let other = destination certificate in
    run_then (may_end old.leads one image other said) old between new
    (end_second old.leads one image other said old between run)
    (end_first old.leads one image other said between new
    (place_leads between.leads old.leads one image between new run.leads then.run))

-- what the image's output leaves of the certificate
certificate_same : {T H File Units Names : Type 0} (out : Output H File Units Names) (image : List ℕ)
    (certificate : Output H File Units Names) (result : Result T Error) (old between new : HostState)
    → AreApart old.leads (destination out) (destination certificate) → between.leads ≡ old.leads
    → IsPlaced out image result between new → IsSamePlace (destination certificate) between.files new.files
certificate_same out image certificate result old between new apart same then =
    let one = destination out in
    let other = destination certificate in
    same_place old.leads other between.files new.files (same_placed old.leads one other image between new apart
    (place_leads between.leads old.leads one image between new same then.run))

-- what the certificate's output leaves of the image
image_same : {H File Units Names : Type 0} (out : Output H File Units Names) (certificate : Output H File Units Names)
    (said : List ℕ) (old between : HostState) → AreApart old.leads (destination out) (destination certificate)
    → IsRun (may_place old.leads (destination certificate) said) old between
    → IsSamePlace (destination out) old.files between.files
image_same out certificate said old between apart run =
    let one = destination out in
    let other = destination certificate in
    same_place old.leads one old.files between.files
    (same_placed old.leads other one said old between (apart_flipped old.leads one other apart) run)

-- what the certificate came to is so still
certificate_stands : {T H File Units Names : Type 0} (out : Output H File Units Names) (image : List ℕ)
    (certificate : Output H File Units Names) (said : List ℕ) (result : Result T Error) (old between new : HostState)
    → AreApart old.leads (destination out) (destination certificate)
    → IsRun (may_place old.leads (destination certificate) said) old between
    → IsUntouched certificate ⊎ Stands (destination certificate) said old.files between.files
    → IsPlaced out image result between new
    → IsUntouched certificate ⊎ Stands (destination certificate) said old.files new.files
certificate_stands out image certificate said result old between new apart run done then =
    ⊎_elim (λ untouched. inl untouched) (λ stands. inr (stands_after (destination certificate) said old.files between.files
    new.files stands (certificate_same out image certificate result old between new apart run.leads then))) done

-- both took their places
pub places_taken : {T A H File Units Names : Type 0} (out : Output H File Units Names) (image : List ℕ)
    (certificate : Output H File Units Names) (said : List ℕ) (value : T) (answer : A) (old between new : HostState)
    → AreApart old.leads (destination out) (destination certificate)
    → IsRun (may_place old.leads (destination certificate) said) old between
    → IsUntouched certificate ⊎ Stands (destination certificate) said old.files between.files
    → IsPlaced {T = T} out image (Ok value) between new
    → AreBothPlaced {T = A} out image certificate said (Ok answer) old new
places_taken {T} out image certificate said value answer old between new apart run done then =
    let result : Result T Error = Ok value in
    record {
      run = places_run out image certificate said result old between new run then;
      done = (
        ⊎_elim (λ untouched. inl untouched) (λ stands. inr (stands_before (destination out) image old.files between.files
            new.files (image_same out certificate said old between apart run) stands)) then.done,
        certificate_stands out image certificate said result old between new apart run done then,
      );
      failed = tt;
    }

-- the image did not, whether there is a certificate or none
pub places_without : {T A H File Units Names : Type 0} (out : Output H File Units Names) (image : List ℕ)
    (certificate : Output H File Units Names) (said : List ℕ) (error : Error) (unwritten : Unwritten)
    (old between new : HostState) → AreApart old.leads (destination out) (destination certificate)
    → (unwritten ≡ ImageAfterCertificate) ⊎ IsUntouched certificate
    → IsRun (may_place old.leads (destination certificate) said) old between
    → IsUntouched certificate ⊎ Stands (destination certificate) said old.files between.files
    → IsPlaced {T = T} out image (Err error) between new
    → AreBothPlaced {T = A} out image certificate said (Err unwritten) old new
places_without {T} out image certificate said error unwritten old between new apart which run done then =
    let result : Result T Error = Err error in
    let other = certificate_stands out image certificate said result old between new apart run done then in
    record {
      run = places_run out image certificate said result old between new run then;
      done = tt;
      failed = (
        stays_before (destination out) old.files between.files new.files
            (image_same out certificate said old between apart run) then.stays,
        ⊎_elim (λ after. ⊎_elim (λ untouched. inr (inr untouched)) (λ stands. inl (after, stands)) other)
            (λ untouched. inr (inr untouched)) which,
      );
    }

-- what is to take the image's place is on the disk once the certificate took its own
pub ready_behind : {H File Units Names : Type 0} (place : File → Path) (out certificate : Output H File Units Names)
    (image said : List ℕ) (old between : HostState) → AreApart old.leads (destination out) (destination certificate)
    → IsRun (may_place old.leads (destination certificate) said) old between → IsReady place out image old.files
    → IsReady place out image between.files
ready_behind place out certificate image said old between apart run ready =
    ready_kept old.leads place out image old.files between.files
    (same_placed old.leads (destination certificate) (destination out) said old between
    (apart_flipped old.leads (destination out) (destination certificate) apart) run) ready

-- it failed, or it did not, since that is told
pub err_told : {T A : Type 0} (result : Result T Error) (told : Bool) → told ≡ is_err result → told ≡ true
    → OnErr result A → A
err_told (Ok value) told is one failed = let both : true ≡ false = sym one ∙ is in absurd cc
err_told (Err error) told is one failed = failed

pub ok_told : {T A : Type 0} (result : Result T Error) (told : Bool) → told ≡ is_err result → told ≡ false
    → OnOk result A → A
ok_told (Ok value) told is none done = done
ok_told (Err error) told is none done = let both : false ≡ true = sym none ∙ is in absurd cc

-- it is done, since it did not fail
pub ok_left : {T A : Type 0} (result : Result T Error) → ((error : Error) → result ≢ Err error) → OnOk result A → A
ok_left (Ok value) not_failed done = done
ok_left (Err error) not_failed done = absurd (not_failed error refl)

-- What was prepared of both, and then removed.
pub prepared_removed : {T E H File Units Names : Type 0} (place : File → Path) (out out_now : Output H File Units Names)
    (image : List ℕ) (certificate certificate_now : Output H File Units Names) (said : List ℕ) (result : Result T E)
    (old between new : HostState) → destination out_now ≡ destination out
    → destination certificate_now ≡ destination certificate
    → ArePrepared place out out_now image certificate certificate_now said result old between
    → IsRun (may_prepare_both between.leads (destination out_now) (destination certificate_now)) between new
    → IsRun (may_prepare_both old.leads (destination out) (destination certificate)) old new
prepared_removed place out out_now image certificate certificate_now said result old between new goes other_goes first then =
    run_then (may_prepare_both old.leads (destination out) (destination certificate)) old between new first.run
    (subst (λ (leads : Path → Path). IsRun (may_prepare_both leads (destination out) (destination certificate)) between new)
    first.run.leads
    (subst (λ (to : Destination). IsRun (may_prepare_both between.leads to (destination certificate)) between new) goes
    (subst (λ (to : Destination). IsRun (may_prepare_both between.leads (destination out_now) to) between new) other_goes then)))

-- A job has ended that only prepared: what stood at both places stands.
pub settled_kept : {H File Units Names : Type 0} (out : Output H File Units Names) (image : List ℕ)
    (certificate : Output H File Units Names) (said : List ℕ) (status : ℕ) (ending : Ending) (old new : HostState)
    → AreApart old.leads (destination out) (destination certificate) → (ending.status ≡ 4) ⊎ IsUntouched out
    → IsRun (may_prepare_both old.leads (destination out) (destination certificate)) old new
    → IsRun (may_end old.leads (destination out) image (destination certificate) said) old new
    × IsSettled out image certificate said status ending old.files new.files
settled_kept out image certificate said status ending old new apart why run =
    let one = destination out in
    let other = destination certificate in (
      end_prepared old.leads one image other said old new run,
      inr (inr (
        why,
        stays_same one old.files new.files (first_place old.leads one other old.files new.files apart run.files),
        inl (stays_same other old.files new.files (second_place old.leads one other old.files new.files apart run.files)),
      )),
    )

-- an output that was untouched once it was flushed was so before, or nothing is said of where it goes
flushed_stands : {H File Units Names : Type 0} (output now : Output H File Units Names) (bytes : List ℕ) (old new : Files)
    → IsFlushed output now → IsUntouched now ⊎ Stands (destination output) bytes old new
    → IsUntouched output ⊎ Stands (destination output) bytes old new
flushed_stands Nothing now bytes old new flushed stands = inl tt
flushed_stands {H} {File} {Units} {Names} (Aside file) now bytes old new flushed stands =
    ⊎_elim (λ untouched. inl (subst (λ (o : Output H File Units Names). IsUntouched o) flushed.1 untouched))
    (λ is. inr is) stands
flushed_stands (Held file) now bytes old new flushed stands = inr tt

flushed_stays : {H File Units Names : Type 0} (output now : Output H File Units Names) (old new : Files)
    → IsFlushed output now → Stays (destination output) old new ⊎ IsUntouched now
    → Stays (destination output) old new ⊎ IsUntouched output
flushed_stays Nothing now old new flushed stays = inr tt
flushed_stays {H} {File} {Units} {Names} (Aside file) now old new flushed stays =
    ⊎_elim (λ is. inl is)
    (λ untouched. inr (subst (λ (o : Output H File Units Names). IsUntouched o) flushed.1 untouched)) stays
flushed_stays (Held file) now old new flushed stays = inl tt

-- both places as they were before the flush, by the outputs as they were then
placed_from : {T H File Units Names : Type 0} (out out_now : Output H File Units Names) (image : List ℕ)
    (certificate certificate_now : Output H File Units Names) (said : List ℕ) (result : Result T Unwritten)
    (old between new : HostState) → destination out_now ≡ destination out
    → destination certificate_now ≡ destination certificate
    → IsRun (may_prepare_both old.leads (destination out) (destination certificate)) old between
    → IsRun (may_end between.leads (destination out_now) image (destination certificate_now) said) between new
    → IsRun (may_end old.leads (destination out) image (destination certificate) said) old new
placed_from out out_now image certificate certificate_now said result old between new goes other_goes first then =
    run_then (may_end old.leads (destination out) image (destination certificate) said) old between new
    (end_prepared old.leads (destination out) image (destination certificate) said old between first)
    (subst (λ (leads : Path → Path). IsRun (may_end leads (destination out) image (destination certificate) said) between new)
    first.leads
    (subst (λ (to : Destination). IsRun (may_end between.leads to image (destination certificate) said) between new) goes
    (subst (λ (to : Destination). IsRun (may_end between.leads (destination out_now) image to said) between new) other_goes then)))

-- the outputs are apart still, as they are now
pub apart_now : (leads leads_now : Path → Path) (one one_now other other_now : Destination) → leads_now ≡ leads
    → one_now ≡ one → other_now ≡ other → AreApart leads one other → AreApart leads_now one_now other_now
apart_now leads leads_now one one_now other other_now same goes other_goes apart =
    subst (λ (l : Path → Path). AreApart l one_now other_now) (sym same)
    (subst (λ (to : Destination). AreApart leads to other_now) (sym goes)
    (subst (λ (to : Destination). AreApart leads one to) (sym other_goes) apart))

-- A job has ended whose outputs took their places.
pub settled_done : {T E A H File Units Names : Type 0} (place : File → Path) (out out_now : Output H File Units Names)
    (image : List ℕ) (certificate certificate_now : Output H File Units Names) (said : List ℕ) (status : ℕ) (ending : Ending)
    (value : T) (answer : A) (old between new : HostState)
    → AreApart old.leads (destination out) (destination certificate)
    → ending ≡ record { status = status; unwritten = None }
    → destination out_now ≡ destination out → destination certificate_now ≡ destination certificate
    → IsFlushed out out_now → IsFlushed certificate certificate_now
    → ArePrepared {T = T} {E = E} place out out_now image certificate certificate_now said (Ok value) old between
    → AreBothPlaced {T = A} out_now image certificate_now said (Ok answer) between new
    → IsRun (may_end old.leads (destination out) image (destination certificate) said) old new
    × IsSettled out image certificate said status ending old.files new.files
settled_done {T} {E} {A} place out out_now image certificate certificate_now said status ending value answer old between new
    apart ends goes other_goes flushed other_flushed first then =
    let one = destination out in
    let other = destination certificate in
    let one_same = first_place old.leads one other old.files between.files apart first.run.files in
    let other_same = second_place old.leads one other old.files between.files apart first.run.files in
    let result : Result A Unwritten = Ok answer in (
      placed_from out out_now image certificate certificate_now said result old between new goes other_goes first.run then.run,
      inl (
        ends,
        flushed_stands out out_now image old.files new.files flushed
            (⊎_elim (λ untouched. inl untouched) (λ stands. inr (stands_before one image old.files between.files new.files one_same
            (subst (λ (to : Destination). Stands to image between.files new.files) goes stands))) then.done.0),
        flushed_stands certificate certificate_now said old.files new.files other_flushed
            (⊎_elim (λ untouched. inl untouched) (λ stands. inr (stands_before other said old.files between.files new.files other_same
            (subst (λ (to : Destination). Stands to said between.files new.files) other_goes stands))) then.done.1),
      ),
    )

-- A job has ended one of whose outputs could not take its place.
pub settled_stopped : {T E A H File Units Names : Type 0} (place : File → Path) (out out_now : Output H File Units Names)
    (image : List ℕ) (certificate certificate_now : Output H File Units Names) (said : List ℕ) (status : ℕ) (ending : Ending)
    (value : T) (unwritten : Unwritten) (old between new : HostState)
    → AreApart old.leads (destination out) (destination certificate) → ending ≡ stopped unwritten
    → destination out_now ≡ destination out → destination certificate_now ≡ destination certificate
    → IsFlushed certificate certificate_now
    → ArePrepared {T = T} {E = E} place out out_now image certificate certificate_now said (Ok value) old between
    → AreBothPlaced {T = A} out_now image certificate_now said (Err unwritten) between new
    → IsRun (may_end old.leads (destination out) image (destination certificate) said) old new
    × IsSettled out image certificate said status ending old.files new.files
settled_stopped {T} {E} {A} place out out_now image certificate certificate_now said status ending value unwritten
    old between new apart ends goes other_goes flushed first then =
    let one = destination out in
    let other = destination certificate in
    let one_same = first_place old.leads one other old.files between.files apart first.run.files in
    let other_same = second_place old.leads one other old.files between.files apart first.run.files in
    let result : Result A Unwritten = Err unwritten in
    let stays = stays_before one old.files between.files new.files one_same
    (subst (λ (to : Destination). Stays to between.files new.files) goes then.failed.0) in (
      placed_from out out_now image certificate certificate_now said result old between new goes other_goes first.run then.run,
      ⊎_elim (λ alone. inr (inl (
        ends ∙ ap (λ (u : Unwritten). stopped u) alone.0,
        stays,
        stands_before other said old.files between.files new.files other_same
            (subst (λ (to : Destination). Stands to said between.files new.files) other_goes alone.1),
      )))
          (λ either. inr (inr (
            inl (ap (λ (e : Ending). e.status) ends),
            stays,
            flushed_stays certificate certificate_now old.files new.files flushed
                (⊎_elim (λ is. inl (stays_before other old.files between.files new.files other_same
                (subst (λ (to : Destination). Stays to between.files new.files) other_goes is)))
                (λ untouched. inr untouched) either),
          )))
          then.failed.1,
    )

-- the status where a file could not be put onto the disk
pub status_unflushed : (kind : ErrorKind) (unwritten : Unwritten) (ending : Ending) (old new : Option (List ℕ))
    → IsUnflushed kind unwritten ending old new → ending.status ≡ 4
status_unflushed kind unwritten ending old new is =
    ⊎_elim (λ memory. ⊎_elim (λ told. told.0) (λ front. front.0) memory.1.1) (λ stops. ap (λ (e : Ending). e.status) stops.1) is

-- why the image could not be put onto the disk, by the failure that is known of it
pub failed_unflushed : (failure : Option ErrorKind) (kind : ErrorKind) (unwritten : Unwritten) (ending : Ending)
    (old new : Option (List ℕ)) → IfSome failure (λ known. (kind ≡ known) × (unwritten ≡ Image))
    → IsUnflushed kind unwritten ending old new → IfSome failure (λ known. IsUnflushed known Image ending old new)
failed_unflushed None kind unwritten ending old new failed is = tt
failed_unflushed (Some known) kind unwritten ending old new failed is =
    subst (λ (k : ErrorKind). IsUnflushed k Image ending old new) failed.0
    (subst (λ (u : Unwritten). IsUnflushed kind u ending old new) failed.1 is)
