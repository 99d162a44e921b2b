-- A call of `refuses_next` behind a `&` to the rule: what it is handed, and what its caller has of it. Assumes `Logic`.
use Rattle.std.proofs.Common.{◌≡◌, ℕ, Bool, List, [], ◌∷◌, refl, ap}
use seplogic.Ra.Ura.{Ura}
use mir.Val.{Val, vbool, vptr}
use base.Logic.{SProp, ent, sep, ex, guard, id⊢}
use base.Fml.{Lft, Share, ftrue, fsep, flft}
use prog.Memory.{Memory}
use prog.Routine.{Routine}
use types.Logic.{Logic, sem}
use contract.Monad.{Fun}
use types.Kit.{‵, raw, ◌⊛◌, some, later, ◌$◌, ◌∵◌, !, qed, move, keep, use1, split, join, pick, fjoin, feq_i, feq_l, show, check, await, updating, now as at_once, done}
use denote.RattleType.{RattleType}
use denote.Memory.{hidden_shr}
use denote.Builtin.{bool}
use denote.Steps.{nothing, only}
use denote.Triple.Statement.{Contract}
use denote.Triple.Spec.{triple_of}
use Rattle.test_volumes.specs.contracts.rule.Rule as rule
use Rattle.test_volumes.specs.contracts.rule.Rule.refuses_next as counts

abbrev pub Rule : RattleType
Rule = rule.the_row

module _ {M : Type 1} {𝓤 : Ura M} (𝓛 : Logic 𝓤) (at_mem : Memory → SProp 𝓤) (run : Routine → Fun 𝓤) where
  open 𝓛 use {H, A}

  abbrev pub Counts : Contract 𝓤
  Counts = triple_of 𝓛 counts.signature (counts.spec 𝓛 at_mem run)

  -- the rule lies at p and has the value a
  module _ (κ : Lft) (q : Share) (p : ℕ × ℕ) (a : Rule.Denot) where
    abbrev pub at_counts : Counts.Ghost
    at_counts = (((κ, tt), (q, tt), tt, (record { ref_ptr = p; now = a }, tt), (vptr p.0 p.1 ∷ [], tt)), tt)

    pub Counts-goes : ent 𝓤 (sep 𝓤 (sem 𝓛 (hidden_shr Rule κ a p.0 p.1)) (A.lft κ q)) (Counts.pre at_counts)
    Counts-goes =
        qed 𝓛 (‵ (hidden_shr Rule κ a p.0 p.1) ∷ ‵ (flft κ q) ∷ []) ∵
        feq_i ! (List Val) (vptr p.0 p.1 ∷ []) (vptr p.0 p.1 ∷ []) refl $ fjoin ! $ nothing ! $ move ! (1 ∷ []) $ fjoin ! $
        nothing ! $ move ! (2 ∷ []) $ join ! $ join ! $ nothing ! $ move ! (1 ∷ []) $ done !

    pub Counts-gives : (v : Val) → ent 𝓤 (Counts.post at_counts v) (H.⇛ (ex 𝓤 (λ (t : Bool). guard 𝓤 (v ≡ vbool t) (A.lft κ q))))
    Counts-gives v =
        qed 𝓛 (raw (Counts.post at_counts v) ∷ []) ∵ updating ! $
        use1 𝓛 (later (some (λ (t : Bool). ((‵ (flft κ q) ⊛ ‵ ftrue) ⊛ ‵ (bool.own_val t (v ∷ []))) ⊛ some (λ (ws : Unit {0} × Unit {0}). ‵ (fsep ftrue ftrue) ⊛ ‵ ftrue)))) (id⊢ 𝓤 _) $ await ! tt $ pick ! (λ t.
        split ! $ split ! $ move ! (1 ∷ []) $ feq_l ! (λ e. split ! $ at_once ! $
        show ! (λ (u : Bool). guard 𝓤 (v ≡ vbool u) (A.lft κ q)) t $ check ! (ap only e) $ keep ! (0 ∷ []) $ done !))
