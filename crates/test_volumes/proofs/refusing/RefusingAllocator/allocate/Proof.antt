-- `allocate` refuses the block where the rule says so, and else answers what the inner allocator answers. Assumes `Logic`.
use Rattle.std.proofs.Common.{◌≡◌, Bool, true, false, ℕ, ◌^◌, ◌<◌, List, [], ◌∷◌, Ok, Err, refl, w64, Bor}
use Rattle.std.proofs.raw_atomic.Walks.{proved}
use seplogic.Ra.Ura.{Ura}
use mir.Syntax.{Fn, Ty}
use mir.Val.{Val, vbool, vint, vptr}
use mir.MapTy.{inst_fn}
use base.Logic.{SProp, ent}
use base.Fml.{Lft, Share, fsep, froom, ftrue, flft}
use prog.Memory.{Memory, size, align, capped}
use prog.Routine.{Routine}
use prog.Wp.{Tables, WpFn}
use types.Logic.{Logic}
use contract.BorrowLft.{◌⊑◌, ⊑_trans}
use contract.Monad.{Fun, fact}
use contract.Running.{tables, tables_of}
use sound.WpLaws.{fm_of}
use denote.Memory.{hidden_shr}
use types.Kit.{Sq, ‵, raw, ◌⊛◌, some, later, given, prop, at_ret, ◌$◌, ◌∵◌, !, qed, move, keep, use0, use1, use2, split, join, pick, learn, fsplit, fjoin, suffices, await, done}
use types.Part.{agg}
use types.Run.{enter, stop, fld, addr, no_more, and_then, lit, first, branches, skips, exec, returns, returns_within}
use types.ByLocal.{alloc_all, pass_all, free_all, look_at, get, through, sets, lands_as, env}
use denote.Exit.{yes}
use denote.RattleType.{owns}
use denote.Ref.{shr_vals}
use denote.Plain.{uint_vals, uint_Tells}
use denote.RawPtr.{block_ptr}
use denote.Builtin.{usize}
use denote.Signature.{plain, types_at}
use denote.Steps.{heard, nothing}
use denote.Triple.Call.{calls_at}
use denote.Triple.Clauses.{Ended, Clauses}
use denote.Triple.Statement.{Triple}
use denote.Triple.Table.{cited}
use denote.Triple.Walked.{Stays, AllGo, stay_dropped, walk_of, ends_at, Goes-dropped}
use Rattle.std.proofs.alloc.Calls.{Al, token, seen, Answer, answer_val, Answer-typed, Answer-Ok, Answer-err, takes_key, Takes, at_takes, Answered, Takes-goes, Takes-gives, answers}
use Rattle.std.proofs.VecSteps.Shapes.{after}
use Rattle.test_volumes.proofs.Parts.{args, Refusing, self, inner_at, rule_at, parts}
use Rattle.test_volumes.proofs.Counting.{Rule, Counts, at_counts, Counts-goes, Counts-gives}
use Rattle.test_volumes.proofs.rule.Rule.refuses_next.Symbol as counting
use Rattle.test_volumes.proofs.rule.Rule.refuses_next.Met as counted
use Rattle.test_volumes.specs.contracts.refusing.RefusingAllocator.allocate as promise
use Rattle.test_volumes.specs.contracts.refusing.RefusingAllocator.allocate.Key as key
use Rattle.test_volumes.proofs.refusing.RefusingAllocator.allocate.Statement.{statement}
use Rattle.test_volumes.proofs.refusing.RefusingAllocator.allocate.Code as code

module _ (Z : Al) where
  abbrev body : Fn
  body = inst_fn (args Z) code.function

  abbrev ended : Ended
  ended = promise.ended Z.row Z.g Z.d Z.drops

  abbrev stayed : Stays ended.signature.params ended.kept
  stayed = (stay_dropped (self Z) yes, (stay_dropped (plain (λ _. usize)) yes, (stay_dropped (plain (λ _. usize)) yes, tt)))

  module _ {M : Type 1} {𝓤 : Ura M} (𝓛 : Logic 𝓤) (at_mem : Memory → SProp 𝓤) (run : Routine → Fun 𝓤) where
    open 𝓛 use {H}

    abbrev clauses : Clauses 𝓤 ended
    clauses = promise.clauses Z.row Z.g Z.d Z.drops 𝓛 at_mem run

    goes : AllGo 𝓛 ended.signature.lifetimes ended.signature.params ended.kept stayed
    goes =
        let size_goes = Goes-dropped 𝓛 2 (plain (λ _. usize)) yes (λ κs x f. refl) in
        (Goes-dropped 𝓛 2 (self Z) yes (λ κs x f. refl), (size_goes, (size_goes, tt)))

    module _ (𝓣 : Tables 𝓤 H) (counts : Triple 𝓤 (𝓣.C counting.name) (Counts 𝓛 at_mem run)) (takes : Triple 𝓤 (𝓣.C (takes_key Z)) (Takes Z 𝓛 at_mem run))
        (κ life : Lft) (q share : Share) (within : κ ⊑ life) (r : Bor (Refusing Z).Denot) (n a : ℕ) (τ : Ty) where
      abbrev ghosts : (walk_of 𝓛 ended stayed clauses).Ghost
      ghosts = (((κ, (life, tt)), (q, (share, tt)), (within, tt), (r, (n, (a, tt))), (shr_vals r, (vint w64 n ∷ [], (vint w64 a ∷ [], tt)))), τ)

      abbrev handed : List Val
      handed = vptr r.ref_ptr.0 r.ref_ptr.1 ∷ vint w64 n ∷ vint w64 a ∷ []

      abbrev Asked : Type 0
      Asked = (capped (size τ) ≡ n) × (capped (align τ) ≡ a)

      abbrev Post : Val → SProp 𝓤
      Post = (walk_of 𝓛 ended stayed clauses).post ghosts

      -- an answer leaves the tokens of life
      gives_block : (b o : ℕ) → Sq 𝓛 (‵ (fsep (froom τ b o) (token Z r.now.inner τ (block_ptr b o))) ∷ ‵ (flft κ q) ∷ (‵ (flft life share) ⊛ ‵ ftrue) ∷ []) (prop (Post (answer_val true b o)))
      gives_block b o =
          suffices ! _ (ends_at 𝓛 ended stayed clauses ghosts (answer_val true b o) (Ok (block_ptr b o)) (tt, (tt, (tt, tt))) (tt, (tt, (tt, tt)))) $
          use0 𝓛 (‵ (Answer.own_val (Ok (block_ptr b o)) (answer_val true b o ∷ []))) (Answer-Ok 𝓛 b o) $ nothing ! $ nothing ! $ fjoin ! $ nothing ! $ fjoin ! $ nothing ! $ fjoin ! $ join ! $
          move ! (2 ∷ 3 ∷ []) $ join ! $ join ! $ done !

      gives_none : Sq 𝓛 (‵ (flft κ q) ∷ (‵ (flft life share) ⊛ ‵ ftrue) ∷ []) (prop (Post (answer_val false 0 0)))
      gives_none =
          suffices ! _ (ends_at 𝓛 ended stayed clauses ghosts (answer_val false 0 0) (Err (record {})) (tt, (tt, (tt, tt))) (tt, (tt, (tt, tt)))) $ nothing ! $
          use0 𝓛 (‵ (Answer.own_val (Err (record {})) (answer_val false 0 0 ∷ []))) (Answer-err 𝓛) $ nothing ! $ nothing ! $ fjoin ! $ nothing ! $ fjoin ! $ nothing ! $ fjoin ! $ join ! $
          move ! (2 ∷ 3 ∷ []) $ join ! $ join ! $ done !

      walk : n < 2 ^ 64 → a < 2 ^ 64 → ent 𝓤 ((walk_of 𝓛 ended stayed clauses).pre ghosts) (WpFn 𝓤 H 𝓣.C 𝓣.Λ body handed Post)
      walk size_fits align_fits =
          let h : Z.row.Denot = r.now.inner in let p : ℕ × ℕ = inner_at Z r.ref_ptr in let rule : ℕ × ℕ = rule_at Z r.ref_ptr in
          let y : (Takes Z 𝓛 at_mem run).Ghost = at_takes Z 𝓛 at_mem run κ q p h n a τ in
          let z : (Counts 𝓛 at_mem run).Ghost = at_counts 𝓛 at_mem run κ q rule r.now.rule in
          qed 𝓛 (((‵ (flft κ q) ⊛ ‵ (flft life share) ⊛ ‵ ftrue) ⊛ ‵ (owns (types_at ended.signature.params ghosts.0.0) ghosts.0.3 ghosts.0.4)) ∷ (raw (fact 𝓤 (life ⊑ Z.row.lives)) ⊛ raw (fact 𝓤 Asked)) ∷ []) ∵
          move ! (1 ∷ []) $ split ! $ heard ! (life ⊑ Z.row.lives) (λ lives. heard ! Asked (λ asked.
          split ! $ split ! $ move ! (2 ∷ []) $ fsplit ! $ fsplit ! $ move ! (1 ∷ []) $
          use1 𝓛 (‵ (seen Z κ p h) ⊛ ‵ (hidden_shr Rule κ r.now.rule rule.0 rule.1)) (parts Z 𝓛 κ r.ref_ptr r.now) $ split ! $
          -- [the rule; the token of life; the inner allocator; the allocator's token of life]
          keep ! (1 ∷ 4 ∷ 0 ∷ 5 ∷ []) $
          use2 𝓛 (raw ((Counts 𝓛 at_mem run).pre z)) (Counts-goes 𝓛 at_mem run κ q rule r.now.rule) $
          enter ! 𝓣.C 𝓣.Λ body handed _ $ alloc_all ! (λ l. pass_all ! refl ((tt, tt), ((tt, record { fits = size_fits }), ((tt, record { fits = align_fits }), tt))) $
          sets ! (addr ! (through ! refl (fld ! refl (stop !)))) refl (tt, tt) $
          calls_at ! (fm_of 𝓤 H 𝓛.laws 𝓣) (Counts 𝓛 at_mem run) counts z (and_then ! (get ! refl) (no_more !)) (λ u.
          use1 𝓛 (later (some (λ (t : Bool). given (u ≡ vbool t) (‵ (flft κ q))))) (Counts-gives 𝓛 at_mem run κ q rule r.now.rule u) $ await ! tt $ pick ! (λ t. learn ! (λ is_bool.
          lands_as ! is_bool refl (tt, tt) $ first ! $ branches ! (get ! refl)
          (λ refused. sets ! (agg ! (no_more !)) refl (tt, tt) $
          sets ! (agg ! (and_then ! (lit ! tt) (and_then ! (get ! refl) (no_more !)))) refl (Answer-typed false 0 0) $
          returns_within ! Post refl (look_at ! 0 refl) $ free_all ! refl $ keep ! (0 ∷ 2 ∷ []) $ gives_none)
          (λ passed. skips ! $ exec ! 𝓣.C 𝓣.Λ (env body.locals l) (after 3 body.body) (at_ret _ Post) $
          move ! (1 ∷ 0 ∷ []) $ use2 𝓛 (raw ((Takes Z 𝓛 at_mem run).pre y)) (Takes-goes Z 𝓛 at_mem run κ q p h (⊑_trans κ life Z.row.lives within lives) n a τ asked.0 asked.1 size_fits align_fits) $
          sets ! (addr ! (through ! refl (fld ! refl (stop !)))) refl (tt, tt) $
          calls_at ! (fm_of 𝓤 H 𝓛.laws 𝓣) (Takes Z 𝓛 at_mem run) takes y (and_then ! (get ! refl) (and_then ! (get ! refl) (and_then ! (get ! refl) (no_more !)))) (λ v.
          use1 𝓛 (later (raw (Answered Z 𝓛 at_mem run h τ v) ⊛ ‵ (flft κ q))) (Takes-gives Z 𝓛 at_mem run κ q p h n a τ v) $ await ! tt $ split ! $
          answers Z ! at_mem run h τ v
          (λ b o e. fjoin ! $ lands_as ! e refl (Answer-typed true b o) $ returns ! (look_at ! 0 refl) $ free_all ! refl $ gives_block b o)
          (λ e. lands_as ! e refl (Answer-typed false 0 0) $ returns ! (look_at ! 0 refl) $ free_all ! refl $ gives_none)))))))))

pub allocate_spec : {M : Type 1} → statement M
unfolding tables_of
allocate_spec 𝓤 𝓛 𝓜 𝓡 wired B laws g d drops met _ =
    let Z : Al = record { row = B; laws = laws; g = g; d = d; drops = drops } in
    let counts = cited 𝓤 𝓛.H _ 𝓜 𝓡 𝓡.env counting.name (𝓡.env counting.name) refl (counted.met 𝓤 𝓛 𝓜 𝓡 (code.calls-test_volumes::rule::Rule::refuses_next 𝓡.env wired)) in
    proved 𝓛 (ended Z) (stayed Z) (clauses Z 𝓛 𝓜.mem 𝓡.returns) 𝓜 𝓡 (goes Z 𝓛 𝓜.mem 𝓡.returns) (key.name (args Z)) (body Z) (code.unfolded 𝓤 𝓛.H 𝓜 𝓡 wired (B, tt) d drops)
    (λ κs. (shr_vals, (uint_vals w64, (uint_vals w64, tt)))) (λ κs. ((λ r vs s. s.0), (uint_Tells w64, (uint_Tells w64, tt))))
    (λ κs qs bounds a τ are. walk Z 𝓛 𝓜.mem 𝓡.returns (tables_of 𝓤 𝓛.H 𝓜 (tables 𝓤 𝓛.H 𝓜 𝓡 𝓡.env)) counts (met.allocate drops) κs.0 κs.1.0 qs.0 qs.1.0 bounds.0 a.0 a.1.0 a.1.1.0 τ are.1.0.1 are.1.1.0.1)
