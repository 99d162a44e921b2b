-- `deallocate` gives the block back to the inner allocator. Assumes `Logic`.
use Rattle.std.proofs.Common.{◌≡◌, ℕ, ◌^◌, ◌<◌, List, [], ◌∷◌, refl, w64, Bor}
use Rattle.std.proofs.raw_atomic.Walks.{proved}
use seplogic.Ra.Ura.{Ura}
use mir.Syntax.{Fn, Ty}
use mir.Val.{Val, vint, vptr, vunit}
use mir.MapTy.{inst_fn}
use base.Logic.{SProp, ent, never_e}
use base.Fml.{Lft, Share, ffalse, fsep, froom, ftrue, flft}
use prog.Memory.{Memory, size, align, capped}
use prog.Routine.{Routine}
use prog.Wp.{Tables, WpFn}
use types.Logic.{Logic}
use contract.BorrowLft.{◌⊑◌, ⊑_trans}
use contract.Monad.{Fun, fact}
use contract.Running.{tables, tables_of}
use sound.WpLaws.{fm_of}
use denote.Memory.{hidden_shr}
use types.Kit.{Item, ‵, raw, ◌⊛◌, later, given, ◌$◌, ◌∵◌, !, qed, by, move, keep, use1, split, split3, join, learn, fsplit, fjoin, feq_i, suffices, await, done}
use types.Run.{enter, stop, fld, addr, no_more, and_then, of_opd, unit_lit, returns}
use types.ByLocal.{alloc_all, pass_all, free_all, look_at, get, through, sets, lands_as}
use denote.Exit.{yes}
use denote.RattleType.{owns}
use denote.Ref.{shr_vals}
use denote.Plain.{uint_vals, uint_Tells}
use denote.RawPtr.{Ptr, block_ptr, null_ptr, ptr_val, rawptr_vals, rawptr_Tells}
use denote.Builtin.{usize, RawPtr}
use denote.Signature.{plain, types_at}
use denote.Steps.{heard, nothing}
use denote.Triple.Call.{calls_at}
use denote.Triple.Clauses.{Ended, Clauses}
use denote.Triple.Statement.{Triple}
use denote.Triple.Walked.{Stays, AllGo, stay_dropped, walk_of, ends_at, Goes-dropped}
use Rattle.std.proofs.alloc.Calls.{Al, token, seen, gives_key, Gives, at_gives, Gives-goes, Gives-Gives}
use Rattle.test_volumes.proofs.Parts.{args, Refusing, self, inner_at, rule_at, parts}
use Rattle.test_volumes.proofs.Counting.{Rule}
use Rattle.test_volumes.specs.contracts.refusing.RefusingAllocator.deallocate as promise
use Rattle.test_volumes.specs.contracts.refusing.RefusingAllocator.deallocate.Key as key
use Rattle.test_volumes.proofs.refusing.RefusingAllocator.deallocate.Statement.{statement}
use Rattle.test_volumes.proofs.refusing.RefusingAllocator.deallocate.Code as code

module _ (Z : Al) where
  abbrev body : Fn
  body = inst_fn (args Z) code.function

  abbrev ended : Ended
  ended = promise.ended Z.row Z.g Z.d Z.drops

  abbrev stayed : Stays ended.signature.params ended.kept
  stayed = (stay_dropped (self Z) yes, (stay_dropped (plain (λ _. RawPtr)) yes, (stay_dropped (plain (λ _. usize)) yes, (stay_dropped (plain (λ _. usize)) yes, tt))))

  module _ {M : Type 1} {𝓤 : Ura M} (𝓛 : Logic 𝓤) (at_mem : Memory → SProp 𝓤) (run : Routine → Fun 𝓤) where
    open 𝓛 use {H}

    abbrev clauses : Clauses 𝓤 ended
    clauses = promise.clauses Z.row Z.g Z.d Z.drops 𝓛 at_mem run

    goes : AllGo 𝓛 ended.signature.lifetimes ended.signature.params ended.kept stayed
    goes =
        let size_goes = Goes-dropped 𝓛 2 (plain (λ _. usize)) yes (λ κs x f. refl) in
        (Goes-dropped 𝓛 2 (self Z) yes (λ κs x f. refl), (Goes-dropped 𝓛 2 (plain (λ _. RawPtr)) yes (λ κs x f. refl), (size_goes, (size_goes, tt))))

    module _ (𝓣 : Tables 𝓤 H) (gives : Triple 𝓤 (𝓣.C (gives_key Z)) (Gives Z 𝓛 at_mem run))
        (κ life : Lft) (q share : Share) (within : κ ⊑ life) (r : Bor (Refusing Z).Denot) (n a : ℕ) (τ : Ty) where
      abbrev ghosts : Ptr → (walk_of 𝓛 ended stayed clauses).Ghost
      ghosts x = (((κ, (life, tt)), (q, (share, tt)), (within, tt), (r, (x, (n, (a, tt)))), (shr_vals r, (rawptr_vals x, (vint w64 n ∷ [], (vint w64 a ∷ [], tt))))), τ)

      abbrev handed : Ptr → List Val
      handed x = vptr r.ref_ptr.0 r.ref_ptr.1 ∷ ptr_val x ∷ vint w64 n ∷ vint w64 a ∷ []

      abbrev entry : Ptr → Item 𝓤
      entry x = (‵ (flft κ q) ⊛ ‵ (flft life share) ⊛ ‵ ftrue) ⊛ ‵ (owns (types_at ended.signature.params (ghosts x).0.0) (ghosts x).0.3 (ghosts x).0.4)

      abbrev Asked : Type 0
      Asked = (capped (size τ) ≡ n) × (capped (align τ) ≡ a)

      walk : n < 2 ^ 64 → a < 2 ^ 64 → (x : Ptr) → ent 𝓤 ((walk_of 𝓛 ended stayed clauses).pre (ghosts x)) (WpFn 𝓤 H 𝓣.C 𝓣.Λ body (handed x) ((walk_of 𝓛 ended stayed clauses).post (ghosts x)))
      walk size_fits align_fits null_ptr =
          qed 𝓛 (entry null_ptr ∷ (raw (fact 𝓤 (life ⊑ Z.row.lives)) ⊛ raw (fact 𝓤 Asked) ⊛ ‵ (fsep ffalse (token Z r.now.inner τ null_ptr))) ∷ []) ∵
          move ! (1 ∷ []) $ split3 ! $ move ! (2 ∷ []) $ fsplit ! $ keep ! (0 ∷ []) $ by ! (never_e 𝓤 _)
      walk size_fits align_fits (block_ptr b o) =
          let x : Ptr = block_ptr b o in let h : Z.row.Denot = r.now.inner in let p : ℕ × ℕ = inner_at Z r.ref_ptr in
          let y : (Gives Z 𝓛 at_mem run).Ghost = at_gives Z 𝓛 at_mem run κ q p h b o n a τ in
          qed 𝓛 (entry x ∷ (raw (fact 𝓤 (life ⊑ Z.row.lives)) ⊛ raw (fact 𝓤 Asked) ⊛ ‵ (fsep (froom τ b o) (token Z h τ x))) ∷ []) ∵
          move ! (1 ∷ []) $ split3 ! $ heard ! (life ⊑ Z.row.lives) (λ lives. heard ! Asked (λ asked. fsplit ! $
          move ! (2 ∷ []) $ split ! $ split ! $ move ! (2 ∷ []) $ fsplit ! $ fsplit ! $ move ! (1 ∷ []) $
          use1 𝓛 (‵ (seen Z κ p h) ⊛ ‵ (hidden_shr Rule κ r.now.rule (rule_at Z r.ref_ptr).0 (rule_at Z r.ref_ptr).1)) (parts Z 𝓛 κ r.ref_ptr r.now) $ split ! $
          -- [the inner allocator; its token of life; the room; the right to free it; the allocator's token of life]
          keep ! (0 ∷ 4 ∷ 6 ∷ 7 ∷ 5 ∷ []) $ join ! $ move ! (2 ∷ 0 ∷ []) $ join ! $ move ! (1 ∷ 0 ∷ []) $ join ! $
          use1 𝓛 (raw ((Gives Z 𝓛 at_mem run).pre y)) (Gives-goes Z 𝓛 at_mem run κ q p h (⊑_trans κ life Z.row.lives within lives) b o n a τ asked.0 asked.1 size_fits align_fits) $
          enter ! 𝓣.C 𝓣.Λ body (handed x) _ $
          alloc_all ! (λ l. pass_all ! refl ((tt, tt), ((tt, tt), ((tt, record { fits = size_fits }), ((tt, record { fits = align_fits }), tt)))) $
          sets ! (addr ! (through ! refl (fld ! refl (stop !)))) refl (tt, tt) $
          calls_at ! (fm_of 𝓤 H 𝓛.laws 𝓣) (Gives Z 𝓛 at_mem run) gives y (and_then ! (get ! refl) (and_then ! (get ! refl) (and_then ! (get ! refl) (and_then ! (get ! refl) (no_more !))))) (λ v.
          use1 𝓛 (later (given (v ≡ vunit) (‵ (flft κ q)))) (Gives-Gives Z 𝓛 at_mem run κ q p h b o n a τ v) $ await ! tt $ learn ! (λ e.
          lands_as ! e refl (tt, tt) $ sets ! (of_opd ! (unit_lit !)) refl (tt, tt) $ returns ! (look_at ! 0 refl) $ free_all ! refl $
          suffices ! _ (ends_at 𝓛 ended stayed clauses (ghosts x) vunit tt (tt, (tt, (tt, (tt, tt)))) (tt, (tt, (tt, (tt, tt))))) $
          -- [the result and what is left of the parameters; the tokens of life]
          nothing ! $ feq_i ! (List Val) (vunit ∷ []) (vunit ∷ []) refl $ nothing ! $ nothing ! $ fjoin ! $ nothing ! $ fjoin ! $ nothing ! $ fjoin ! $ nothing ! $ fjoin ! $ join ! $
          move ! (2 ∷ 3 ∷ []) $ join ! $ join ! $ done !)))))

pub deallocate_spec : {M : Type 1} → statement M
unfolding tables_of
deallocate_spec 𝓤 𝓛 𝓜 𝓡 wired B laws g d drops met _ =
    let Z : Al = record { row = B; laws = laws; g = g; d = d; drops = drops } in
    proved 𝓛 (ended Z) (stayed Z) (clauses Z 𝓛 𝓜.mem 𝓡.returns) 𝓜 𝓡 (goes Z 𝓛 𝓜.mem 𝓡.returns) (key.name (args Z)) (body Z) (code.unfolded 𝓤 𝓛.H 𝓜 𝓡 wired (B, tt) d drops)
    (λ κs. (shr_vals, (rawptr_vals, (uint_vals w64, (uint_vals w64, tt))))) (λ κs. ((λ r vs s. s.0), (rawptr_Tells, (uint_Tells w64, (uint_Tells w64, tt)))))
    (λ κs qs bounds a τ are. walk Z 𝓛 𝓜.mem 𝓡.returns (tables_of 𝓤 𝓛.H 𝓜 (tables 𝓤 𝓛.H 𝓜 𝓡 𝓡.env)) (met.deallocate drops) κs.0 κs.1.0 qs.0 qs.1.0 bounds.0 a.0 a.1.1.0 a.1.1.1.0 τ are.1.1.0.1 are.1.1.1.0.1 a.1.0)
