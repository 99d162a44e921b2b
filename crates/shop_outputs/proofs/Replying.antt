-- How a job ends by its reply.
use Rattle.std.proofs.Common.{◌≡◌, ◌∙◌, ◌⊎◌, ℕ, List, [], Option, Some, None, sym, subst, inl, inr, ⊎_elim, refl}
use Rattle.std.specs.Prelude.{IfSome, string_bytes, unwrap_or, IsSome}
use Rattle.std.specs.declared.string.String.{String}
use Rattle.std.specs.declared.alloc.Global.{Global}
use Rattle.std.specs.declared.vec.Vec.{Vec}
use Rattle.shop_host.specs.State.{Content, Files, HostState, Path, unflushed}
use Rattle.shop_host.specs.Runs.{IsRun}
use Rattle.shop_host.specs.lemmas.Runs.{run_then, run_wider}
use Rattle.shop_replies.specs.Reply.{certificate_in, status_of}
use Rattle.shop_replies.specs.declared.reply.Reply.{Reply}
use Rattle.shop_outputs.specs.Asides.{Destination, IsMadeAside, Stands, Stays, content_of, destination, destination_of, may_aside, may_take, nowhere, straight_to, to_place}
use Rattle.shop_outputs.specs.Puts.{AreApart, IsCertificateHanded, IsHeld, IsImageHanded, IsNoPlace, IsOf, IsPut, IsReplySettled, IsSettled, IsTouched, image_bytes, image_of, may_end, may_prepare, may_prepare_both, may_reply}
use Rattle.shop_outputs.specs.Endings.{IsOutOfMemory}
use Rattle.shop_outputs.specs.Written.{IsUntouched}
use Rattle.shop_outputs.specs.declared.aside.AsideFile.{AsideFile}
use Rattle.shop_outputs.specs.declared.ending.Ending.{Ending}
use Rattle.shop_outputs.specs.declared.output.Output.{Output}
use Rattle.shop_outputs.specs.declared.output.Output.TheVariants.{Aside, Held, Nothing}
use Rattle.shop_outputs.proofs.Putting.{own_apart}
use Rattle.shop_outputs.proofs.Apart.{IsSamePlace, apart_now, first_place, held_put, of_placed, put_kept, run_first, run_leads, run_second, same_prepared, second_place, stands_before, stays_before, stays_same}

-- nothing was put into an output that is untouched
pub put_untouched : {H File Units Names : Type 0} (place : File → Path) (output : Output H File Units Names) (files : Files)
    → IsUntouched output → IsPut place output [] files
put_untouched place Nothing files is = tt
put_untouched {H} {File} {Units} {Names} place (Aside file) files is = (
  subst (λ (m : Option (String Global × File)). IfSome m (λ made. (place made.1 ≡ string_bytes made.0)
      × may_aside (destination_of file) (string_bytes made.0) None)) (sym is.0) tt,
  λ none. subst (λ (m : Option (String Global × File)). content_of m files ≡ unflushed []) (sym is.0) refl,
)
put_untouched place (Held file) files is = tt

pub held_untouched : {H File Units Names : Type 0} (place : File → Path) (output : Output H File Units Names)
    → IsUntouched output → IsHeld place output
held_untouched place output is = held_put place output [] (λ path. None) (put_untouched place output (λ path. None) is)

-- nothing takes a place that is none
no_take : (to : Destination) (bytes : List ℕ) (path : Path) (content : Option Content) → IsNoPlace to
    → may_take to bytes path content → ⊥
no_take nowhere bytes path content is takes = takes
no_take (to_place place apart placing) bytes path content is takes = absurd is
no_take (straight_to to) bytes path content is takes = takes

-- a destination that is this one, or nowhere
narrow_of : (leads : Path → Path) (now to : Destination) (path : Path) → (now ≡ to) ⊎ (now ≡ nowhere) → IsOf leads now path
    → IsOf leads to path
narrow_of leads now to path goes is = ⊎_elim (λ same. subst (λ (d : Destination). IsOf leads d path) same is)
    (λ none. absurd (subst (λ (d : Destination). IsOf leads d path) none is)) goes

narrow_prepares : (leads : Path → Path) (now to : Destination) (path : Path) (content : Option Content)
    → (now ≡ to) ⊎ (now ≡ nowhere) → may_prepare leads now path content → may_prepare leads to path content
narrow_prepares leads now to path content goes is =
    ⊎_elim (λ same. subst (λ (d : Destination). may_prepare leads d path content) same is)
    (λ none. absurd (subst (λ (d : Destination). may_prepare leads d path content) none is)) goes

narrow_apart : (leads : Path → Path) (one now other : Destination) → (now ≡ other) ⊎ (now ≡ nowhere)
    → AreApart leads one other → AreApart leads one now
narrow_apart leads one now other goes apart =
    λ path both. apart path (both.0, narrow_of leads now other path goes both.1)

-- what is said of a touched output
touched_stands : {H File Units Names : Type 0} (output : Output H File Units Names) (bytes : List ℕ) (old new : Files)
    → IsTouched output → IsUntouched output ⊎ Stands (destination output) bytes old new
    → Stands (destination output) bytes old new
touched_stands Nothing bytes old new touched stands = tt
touched_stands (Aside file) bytes old new touched stands = ⊎_elim (λ untouched. absurd (touched untouched)) (λ is. is) stands
touched_stands (Held file) bytes old new touched stands = tt

touched_stays : {H File Units Names : Type 0} (output : Output H File Units Names) (old new : Files)
    → IsTouched output → Stays (destination output) old new ⊎ IsUntouched output → Stays (destination output) old new
touched_stays Nothing old new touched stays = tt
touched_stays (Aside file) old new touched stays = ⊎_elim (λ is. is) (λ untouched. absurd (touched untouched)) stays
touched_stays (Held file) old new touched stays = tt

touched_place : {H File Units Names : Type 0} (output : Output H File Units Names) → IsTouched output
    → IsUntouched output → IsNoPlace (destination output)
touched_place Nothing touched untouched = tt
touched_place (Aside file) touched untouched = absurd (touched untouched)
touched_place (Held file) touched untouched = tt

-- there is an image, since there are bytes of one
some_image : (image : Option (Vec ℕ Global)) (bytes : List ℕ) → image_bytes image ≡ Some bytes → IsSome image
some_image None bytes is = absurd cc
some_image (Some image) bytes is = refl

-- there is no image, since there are no bytes of one
no_image : (image : Option (Vec ℕ Global)) → image_bytes image ≡ None → image ≡ None
no_image None is = refl
no_image (Some image) is = absurd cc

reply_prepared : (reply : Reply) (leads : Path → Path) (one other : Destination) (old new : HostState)
    → IsRun (may_prepare_both leads one other) old new → IsRun (may_reply leads one other reply) old new
reply_prepared reply leads one other old new run = run_wider (may_prepare_both leads one other)
    (may_reply leads one other reply) old new
    (λ path content is. ⊎_elim (λ first. inl first) (λ second. inr (inl second)) is) run

-- A job has ended that only prepared.
pub reply_kept : (reply : Reply) (one other : Destination) (ending : Ending) (old new : HostState)
    → AreApart old.leads one other → (ending.status ≡ 4) ⊎ (reply.image ≡ None) ⊎ IsNoPlace one
    → IsRun (may_prepare_both old.leads one other) old new → IsReplySettled reply one other ending old new
reply_kept reply one other ending old new apart why run = record {
  run = reply_prepared reply old.leads one other old new run;
  files = inr (inr (
    stays_same one old.files new.files (first_place old.leads one other old.files new.files apart run.files),
    stays_same other old.files new.files (second_place old.leads one other old.files new.files apart run.files),
    why,
  ));
}

-- up to what the settling finds
handed_run : {H File Units Names : Type 0} (place : File → Path) (image text : Option (List ℕ))
    (out out_now certificate certificate_now : Output H File Units Names) (old handed ready : HostState)
    → IsCertificateHanded place text certificate certificate_now old handed
    → IsImageHanded place image out out_now handed ready
    → IsRun (may_prepare_both old.leads (destination out) (destination certificate)) old ready
handed_run place image text out out_now certificate certificate_now old handed ready first then =
    let one = destination out in
    let other = destination certificate in
    run_then (may_prepare_both old.leads one other) old handed ready (run_second old.leads one other old handed first.run)
    (run_first old.leads one other handed ready (run_leads handed.leads old.leads one handed ready first.run.leads then.run))

-- the run of a job without an image
none_run : (leads leads_now : Path → Path) (one one_now other other_now : Destination) (ready new : HostState)
    → leads_now ≡ leads → one_now ≡ one → (other_now ≡ other) ⊎ (other_now ≡ nowhere)
    → IsRun (may_prepare_both leads_now one_now other_now) ready new → IsRun (may_prepare_both leads one other) ready new
none_run leads leads_now one one_now other other_now ready new same goes other_goes run =
    let there = subst (λ (l : Path → Path). IsRun (may_prepare_both l one other_now) ready new) same
    (subst (λ (to : Destination). IsRun (may_prepare_both leads_now to other_now) ready new) goes run) in
    run_wider (may_prepare_both leads one other_now) (may_prepare_both leads one other) ready new
    (λ path content is. ⊎_elim (λ first. inl first)
    (λ second. inr (narrow_prepares leads other_now other path content other_goes second)) is) there

-- what the settling finds in both outputs
certificate_put : {H File Units Names : Type 0} (place : File → Path) (image text : Option (List ℕ))
    (out out_now certificate certificate_now : Output H File Units Names) (old handed ready : HostState)
    → AreApart old.leads (destination out) (destination certificate)
    → IsCertificateHanded place text certificate certificate_now old handed
    → IsImageHanded place image out out_now handed ready → IsPut place certificate_now (unwrap_or text []) ready.files
certificate_put place image text out out_now certificate certificate_now old handed ready apart first then =
    put_kept old.leads place certificate_now (unwrap_or text []) handed.files ready.files
    (same_prepared old.leads (destination out) (destination certificate_now) handed ready
    (narrow_apart old.leads (destination out) (destination certificate_now) (destination certificate) first.goes apart)
    (run_leads handed.leads old.leads (destination out) handed ready first.run.leads then.run))
    first.put

-- what comes to stand while both take their places is what may come to stand by the reply
reply_may : (reply : Reply) (leads : Path → Path) (one other other_now : Destination) (image : List ℕ)
    (text : Option (List ℕ)) (path : Path) (content : Option Content) → image_of reply ≡ Some image
    → certificate_in reply.told ≡ text → (other_now ≡ other) ⊎ (other_now ≡ nowhere)
    → (text ≡ None → IsNoPlace other_now) → IfSome text (λ _. other_now ≡ other)
    → may_end leads one image other_now (unwrap_or text []) path content → may_reply leads one other reply path content
reply_may reply leads one other other_now image None path content has told goes none some is =
    ⊎_elim (λ first. ⊎_elim (λ prepared. inl prepared) (λ takes. inr (inr (inl (image, has, takes)))) first)
    (λ second. ⊎_elim (λ prepared. inr (inl (narrow_prepares leads other_now other path content goes prepared)))
    (λ takes. absurd (no_take other_now [] path content (none refl) takes)) second) is
reply_may reply leads one other other_now image (Some text) path content has told goes none some is =
    ⊎_elim (λ first. ⊎_elim (λ prepared. inl prepared) (λ takes. inr (inr (inl (image, has, takes)))) first)
    (λ second. ⊎_elim (λ prepared. inr (inl (narrow_prepares leads other_now other path content goes prepared)))
    (λ takes. inr (inr (inr (
      text,
      told,
      some_image reply.image image has,
      subst (λ (d : Destination). may_take d text path content) some takes,
    )))) second) is

-- what stood at the place of a certificate that is none stands
none_place : (leads : Path → Path) (one other other_now : Destination) (image said : List ℕ) (old new : HostState)
    → AreApart leads one other → (other_now ≡ other) ⊎ (other_now ≡ nowhere) → IsNoPlace other_now
    → IsRun (may_end leads one image other_now said) old new → IsSamePlace other old.files new.files
none_place leads one nowhere other_now image said old new apart goes none run = tt
none_place leads one (to_place place beside placing) other_now image said old new apart goes none run =
    let other : Destination = to_place place beside placing in
    ⊎_elim (λ same. same)
    (λ is. ⊎_elim (λ first. absurd (apart place (of_placed leads one image place (new.files place) first, inl refl)))
    (λ second. ⊎_elim (λ prepared. absurd (own_apart place
    (narrow_prepares leads other_now other place (new.files place) goes prepared).0))
    (λ takes. absurd (no_take other_now said place (new.files place) none takes)) second) is) (run.files place)
none_place leads one (straight_to to) other_now image said old new apart goes none run = tt

some_goes : (text : Option (List ℕ)) (A B : Type 0) → IfSome text (λ _. A × B) → IfSome text (λ _. A)
some_goes None A B is = tt
some_goes (Some said) A B is = is.0

-- the certificate of a reply stands at its place
text_stands : {H File Units Names : Type 0} (text : Option (List ℕ)) (certificate now : Output H File Units Names)
    (old ready new : Files) → IsSamePlace (destination certificate) old ready
    → IfSome text (λ _. (destination now ≡ destination certificate) × IsTouched now)
    → IsUntouched now ⊎ Stands (destination now) (unwrap_or text []) ready new
    → IfSome text (λ said. Stands (destination certificate) said old new)
text_stands None certificate now old ready new same some stands = tt
text_stands (Some said) certificate now old ready new same some stands =
    stands_before (destination certificate) said old ready new same
    (subst (λ (to : Destination). Stands to said ready new) some.0 (touched_stands now said ready new some.1 stands))

-- or what stood there stands
text_stays : {H File Units Names : Type 0} (text : Option (List ℕ)) (leads : Path → Path) (one : Destination)
    (certificate now : Output H File Units Names) (image : List ℕ) (old : Files) (ready new : HostState)
    → AreApart leads one (destination certificate) → IsSamePlace (destination certificate) old ready.files
    → (destination now ≡ destination certificate) ⊎ (destination now ≡ nowhere)
    → IfSome text (λ _. (destination now ≡ destination certificate) × IsTouched now)
    → (text ≡ None → IsNoPlace (destination now))
    → IsRun (may_end leads one image (destination now) (unwrap_or text [])) ready new
    → Stays (destination now) ready.files new.files ⊎ IsUntouched now → Stays (destination certificate) old new.files
text_stays None leads one certificate now image old ready new apart same goes some none run stays =
    stays_before (destination certificate) old ready.files new.files same
    (stays_same (destination certificate) ready.files new.files
    (none_place leads one (destination certificate) (destination now) image [] ready new apart goes (none refl) run))
text_stays (Some said) leads one certificate now image old ready new apart same goes some none run stays =
    stays_before (destination certificate) old ready.files new.files same
    (subst (λ (to : Destination). Stays to ready.files new.files) some.0
    (touched_stays now ready.files new.files some.1 stays))

-- A job has ended that handed an image out.
reply_image : {H File Units Names : Type 0} (place : File → Path) (reply : Reply) (bytes : List ℕ) (text : Option (List ℕ))
    (out out_now certificate certificate_now : Output H File Units Names) (ending : Ending) (old handed ready new : HostState)
    → image_of reply ≡ Some bytes → certificate_in reply.told ≡ text
    → AreApart old.leads (destination out) (destination certificate)
    → IsCertificateHanded place text certificate certificate_now old handed
    → IsImageHanded place (Some bytes) out out_now handed ready
    → IsRun (may_end ready.leads (destination out_now) bytes (destination certificate_now) (unwrap_or text [])) ready new
    × IsSettled out_now bytes certificate_now (unwrap_or text []) (status_of reply) ending ready.files new.files
    → IsReplySettled reply (destination out) (destination certificate) ending old new
reply_image place reply bytes text out out_now certificate certificate_now ending old handed ready new has told apart first then settled =
    let one = destination out in
    let other = destination certificate in
    let other_now = destination certificate_now in
    let said : List ℕ = unwrap_or text [] in
    let begun = handed_run place (Some bytes) text out out_now certificate certificate_now old handed ready first then in
    let one_same = first_place old.leads one other old.files ready.files apart begun.files in
    let other_same = second_place old.leads one other old.files ready.files apart begun.files in
    let ends : IsRun (may_end old.leads one bytes other_now said) ready new =
    subst (λ (l : Path → Path). IsRun (may_end l one bytes other_now said) ready new) begun.leads
    (subst (λ (to : Destination). IsRun (may_end ready.leads to bytes other_now said) ready new) then.goes settled.0) in
    let stays_one : Stays (destination out_now) ready.files new.files → Stays one old.files new.files = λ stays.
    stays_before one old.files ready.files new.files one_same
    (subst (λ (to : Destination). Stays to ready.files new.files) then.goes stays) in
    let stands_other : (IsUntouched certificate_now ⊎ Stands other_now said ready.files new.files)
    → IfSome (certificate_in reply.told) (λ text. Stands other text old.files new.files) = λ stands.
    subst (λ (t : Option (List ℕ)). IfSome t (λ text. Stands other text old.files new.files)) (sym told)
    (text_stands text certificate certificate_now old.files ready.files new.files other_same first.some stands) in
    record {
      run = run_then (may_reply old.leads one other reply) old ready new
          (reply_prepared reply old.leads one other old ready begun)
          (run_wider (may_end old.leads one bytes other_now said) (may_reply old.leads one other reply) ready new
          (λ path content is. reply_may reply old.leads one other other_now bytes text path content has told first.goes
          first.none (some_goes text (other_now ≡ other) (IsTouched certificate_now) first.some) is) ends);
      files = ⊎_elim
          (λ done. inl (
            done.0,
            subst (λ (i : Option (List ℕ)). IfSome i (λ image. Stands one image old.files new.files)) (sym has)
                (stands_before one bytes old.files ready.files new.files one_same
                (subst (λ (to : Destination). Stands to bytes ready.files new.files) then.goes
                (touched_stands out_now bytes ready.files new.files then.put.1 done.1))),
            stands_other done.2,
          ))
          (λ either. ⊎_elim
          (λ alone. inr (inl (alone.0, stays_one alone.1, stands_other (inr alone.2))))
          (λ kept. inr (inr (
            stays_one kept.1,
            text_stays text old.leads one certificate certificate_now bytes old.files ready new apart other_same
                first.goes first.some first.none ends kept.2,
            ⊎_elim (λ status. inl status) (λ untouched. inr (inr
                (subst (λ (to : Destination). IsNoPlace to) then.goes
                (touched_place out_now then.put.1 untouched)))) kept.0,
          )))
          either)
          settled.1;
    }

-- A job has ended by its reply.
pub reply_settled : {H File Units Names : Type 0} (place : File → Path) (reply : Reply) (image text : Option (List ℕ))
    (out out_now certificate certificate_now : Output H File Units Names) (status : ℕ) (ending : Ending) (old handed ready new : HostState)
    → status ≡ status_of reply → image_of reply ≡ image → certificate_in reply.told ≡ text
    → AreApart old.leads (destination out) (destination certificate)
    → IsCertificateHanded place text certificate certificate_now old handed
    → IsImageHanded place image out out_now handed ready
    → ((image said : List ℕ) → IsPut place out_now image ready.files → IsPut place certificate_now said ready.files
    → AreApart ready.leads (destination out_now) (destination certificate_now)
    → IsRun (may_end ready.leads (destination out_now) image (destination certificate_now) said) ready new
    × IsSettled out_now image certificate_now said status ending ready.files new.files)
    → (IsUntouched out_now → IsHeld place out_now → IsHeld place certificate_now
    → IsRun (may_prepare_both ready.leads (destination out_now) (destination certificate_now)) ready new)
    → IsReplySettled reply (destination out) (destination certificate) ending old new
reply_settled place reply None text out out_now certificate certificate_now status ending old handed ready new is has told apart first then settled kept =
    let one = destination out in
    let other = destination certificate in
    let begun = handed_run place None text out out_now certificate certificate_now old handed ready first then in
    let untouched = then.none refl in
    reply_kept reply one other ending old new apart (inr (inl (no_image reply.image has)))
    (run_then (may_prepare_both old.leads one other) old ready new begun
    (none_run old.leads ready.leads one (destination out_now) other (destination certificate_now) ready new begun.leads
    then.goes first.goes (kept untouched (held_untouched place out_now untouched)
    (held_put place certificate_now (unwrap_or text []) handed.files first.put))))
reply_settled place reply (Some bytes) text out out_now certificate certificate_now status ending old handed ready new is has told apart first then settled kept =
    let one = destination out in
    let other = destination certificate in
    let other_now = destination certificate_now in
    let begun = handed_run place (Some bytes) text out out_now certificate certificate_now old handed ready first then in
    reply_image place reply bytes text out out_now certificate certificate_now ending old handed ready new has told apart first
    then
    (subst (λ (s : ℕ). IsRun (may_end ready.leads (destination out_now) bytes other_now (unwrap_or text [])) ready new
    × IsSettled out_now bytes certificate_now (unwrap_or text []) s ending ready.files new.files) is
    (settled bytes (unwrap_or text []) then.put.0
    (certificate_put place (Some bytes) text out out_now certificate certificate_now old handed ready apart first then)
    (apart_now old.leads ready.leads one (destination out_now) other_now other_now begun.leads then.goes refl
    (narrow_apart old.leads one other_now other first.goes apart))))

-- A job has ended whose text found no room in memory.
pub reply_stopped : {H File Units Names : Type 0} (place : File → Path) (reply : Reply) (text : Option (List ℕ))
    (out certificate certificate_now : Output H File Units Names) (ending : Ending) (old handed new : HostState)
    → AreApart old.leads (destination out) (destination certificate) → ending.status ≡ 4
    → IsCertificateHanded place text certificate certificate_now old handed
    → IsRun (may_prepare_both handed.leads (destination out) (destination certificate_now)) handed new
    → IsReplySettled reply (destination out) (destination certificate) ending old new
reply_stopped place reply text out certificate certificate_now ending old handed new apart status first then =
    let one = destination out in
    let other = destination certificate in
    reply_kept reply one other ending old new apart (inl status)
    (run_then (may_prepare_both old.leads one other) old handed new (run_second old.leads one other old handed first.run)
    (none_run old.leads handed.leads one one other (destination certificate_now) handed new first.run.leads refl first.goes
    then))

-- the status where there was no memory
pub status_memory : (ending : Ending) (old new : Option (List ℕ)) → IsOutOfMemory ending old new → ending.status ≡ 4
status_memory ending old new is = ⊎_elim (λ told. told.0) (λ front. front.0) is.1

-- an output that is none takes no place
pub nothing_place : {H File Units Names : Type 0} (out : Output H File Units Names) → out ≡ Nothing
    → IsNoPlace (destination out)
nothing_place {H} {File} {Units} {Names} out is =
    subst (λ (o : Output H File Units Names). IsNoPlace (destination o)) (sym is) tt

-- an image was handed out, by an opening and a put
pub image_handed : {H File Units Names : Type 0} (place : File → Path) (image : Option (List ℕ)) (bytes : List ℕ)
    (out opened now : Output H File Units Names) (old between new : HostState) → image ≡ Some bytes
    → IsRun (may_prepare old.leads (destination out)) old between → destination opened ≡ destination out
    → destination now ≡ destination opened
    → IsPut place now bytes new.files × IsRun (may_prepare between.leads (destination opened)) between new
    → IsTouched now → IsImageHanded place image out now old new
image_handed place image bytes out opened now old between new has run goes then_goes put touched =
    let one = destination out in
    let then = run_leads between.leads old.leads one between new run.leads
    (subst (λ (to : Destination). IsRun (may_prepare between.leads to) between new) goes put.1) in
    subst (λ (i : Option (List ℕ)). IsImageHanded place i out now old new) (sym has) (record {
      run = run_then (may_prepare old.leads one) old between new run then;
      goes = then_goes ∙ goes;
      put = (put.0, touched);
      none = λ is. absurd cc;
    })

-- a certificate was handed out
pub certificate_handed : {H File Units Names : Type 0} (place : File → Path) (bytes : List ℕ) (text : Option (List ℕ))
    (certificate now : Output H File Units Names) (old new : HostState) → text ≡ Some bytes
    → destination now ≡ destination certificate
    → IsPut place now bytes new.files × IsRun (may_prepare old.leads (destination certificate)) old new → IsTouched now
    → IsCertificateHanded place text certificate now old new
certificate_handed place bytes text certificate now old new has goes put touched =
    subst (λ (t : Option (List ℕ)). IsCertificateHanded place t certificate now old new) (sym has) (record {
      run = put.1;
      goes = inl goes;
      put = put.0;
      some = (goes, touched);
      none = λ is. absurd cc;
    })

-- there is no certificate
pub certificate_none : {H File Units Names : Type 0} (place : File → Path) (text : Option (List ℕ))
    (certificate now : Output H File Units Names) (old new : HostState) → text ≡ None
    → IsRun (may_prepare old.leads (destination certificate)) old new
    → (destination now ≡ destination certificate) ⊎ (destination now ≡ nowhere) → IsUntouched now
    → IsNoPlace (destination now) → IsCertificateHanded place text certificate now old new
certificate_none place text certificate now old new has run goes untouched none =
    subst (λ (t : Option (List ℕ)). IsCertificateHanded place t certificate now old new) (sym has) (record {
      run = run;
      goes = goes;
      put = put_untouched place now new.files untouched;
      some = tt;
      none = λ _. none;
    })

-- nothing went into the file aside of an untouched output
pub aside_untouched : {H File Units Names : Type 0} (place : File → Path) (output : Output H File Units Names)
    (file : AsideFile H File Units Names) → output ≡ Aside file → IsUntouched output → IsMadeAside place file
aside_untouched {H} {File} {Units} {Names} place output file is untouched =
    subst (λ (o : Output H File Units Names). IsHeld place o) is (held_untouched place output untouched)
