use Rattle.std.proofs.Common.{◌≡◌, [], ◌++◌, rules, take, sym, ap, ◌∙◌, append_assoc, append-nil, drop_of_length-le}
use Rattle.shop_host.specs.State.{HostState, unflushed}
use Rattle.shop_host.specs.lemmas.Runs.{run_here}
use Rattle.shop_outputs.proofs.Steps.{moves_front, run_then_at}
use Rattle.shop_outputs.proofs.whole.write_whole.Goals as goal

pub loop-init : goal.loop-init
loop-init g c = (
  search rules,
  λ honest. run_here _ _ honest,
  λ honest held stands.
      ([], search rules, stands ∙ ap unflushed (sym (append-nil held))),
)

pub loop-preserved : goal.loop-preserved
loop-preserved g c =
    let (place, run, whole) = c.loop.invariant in
    let s1 : HostState = g.H.Host.state c.loop.host in
    let s2 : HostState = g.H.Host.state c.write_front.new.host in (
      c.write_front.ensures.place ∙ place,
      λ honest. run_then_at _ _ _ _ _ place (run honest) (c.write_front.ensures.run (run honest).honest),
      λ honest held stands.
          let (done, split, written) = whole honest held stands in
          let rest = c.loop.rest.now in
          let (n, behind, more) = c.in_ok-rest.ensures.rest (run honest).honest (held ++ done) (ap s1.files place ∙ written) in (
            done ++ take n rest,
            moves_front _ done rest _ n split behind,
            sym (ap s2.files place) ∙ more ∙ ap unflushed (append_assoc held done (take n rest)),
          ),
    )

pub returns-then-is_empty-clause-whole : goal.returns-then-is_empty-clause-whole
returns-then-is_empty-clause-whole g c = λ honest held stands.
    let (place, run, whole) = c.loop.invariant in
    let (done, split, written) = whole honest held stands in
    let empty : c.loop.rest.now ≡ [] = drop_of_length-le c.loop.rest.now {i = 0} (search rules) in
    written ∙ ap (λ l. unflushed (held ++ l)) (sym (split ∙ ap (λ l. done ++ l) empty ∙ append-nil done))

pub returns-in_err-rest-clause-run : goal.returns-in_err-rest-clause-run
returns-in_err-rest-clause-run g c = λ honest.
    let (place, run, whole) = c.loop.invariant in
    run_then_at _ _ _ _ _ place (run honest) (c.write_front.ensures.run (run honest).honest)
