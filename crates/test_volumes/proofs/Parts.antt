-- What both methods of the allocator have: the parameters of the compiled code, and the two parts of what a `&Refusing` gives. Assumes `Logic`.
use Rattle.std.proofs.Common.{ℕ, ◌+◌, [], ◌∷◌}
use seplogic.Ra.Ura.{Ura}
use mir.Syntax.{Args, a_type, dnil, dcons}
use base.Logic.{ent, sep, id⊢}
use base.Fml.{Lft}
use prog.Memory.{size, align, up}
use types.Logic.{Logic, sem}
use types.Kit.{‵, ◌$◌, ◌∵◌, !, qed, move, keep, use1, fsplit, done}
use denote.Memory.{hidden_shr}
use denote.Opens.{unhide}
use denote.Param.{bounded, param}
use denote.RattleType.{RattleType}
use denote.Signature.{Slot, plain}
use denote.Builtin.{RefOf}
use Rattle.std.proofs.alloc.Calls.{Al, α, seen}
use Rattle.test_volumes.proofs.Counting.{Rule}
use Rattle.test_volumes.specs.contracts.refusing.Refusing as refusing

-- over an inner allocator
module _ (Z : Al) where
  abbrev pub args : Args
  args = bounded (a_type ∷ []) (Z.row, tt) (dcons Z.d (dcons Z.drops dnil))

  abbrev pub Refusing : RattleType
  Refusing = refusing.the_row (param 0 Z.row)

  abbrev pub self : Slot 2
  self = RefOf (0 ∷ []) tt (plain (λ _. Refusing)) (λ _. tt)

  -- where the inner allocator and the rule lie, in a `Refusing` at p
  abbrev pub inner_at : ℕ × ℕ → ℕ × ℕ
  inner_at p = (p.0, p.1 + up (align (α Z)) 0)

  abbrev pub rule_at : ℕ × ℕ → ℕ × ℕ
  rule_at p = (p.0, p.1 + up 8 (up (align (α Z)) 0 + size (α Z)))

  pub parts : {M : Type 1} {𝓤 : Ura M} (𝓛 : Logic 𝓤) (κ : Lft) (p : ℕ × ℕ) (h : Refusing.Denot)
      → ent 𝓤 (sem 𝓛 (hidden_shr Refusing κ h p.0 p.1)) (sep 𝓤 (sem 𝓛 (seen Z κ (inner_at p) h.inner)) (sem 𝓛 (hidden_shr Rule κ h.rule (rule_at p).0 (rule_at p).1)))
  parts {𝓤 = 𝓤} 𝓛 κ p h =
      qed 𝓛 (‵ (hidden_shr Refusing κ h p.0 p.1) ∷ []) ∵ unhide ! $ fsplit ! $ fsplit ! $ use1 𝓛 (‵ (seen Z κ (inner_at p) h.inner)) (id⊢ 𝓤 _) $
      move ! (1 ∷ []) $ fsplit ! $ use1 𝓛 (‵ (hidden_shr Rule κ h.rule (rule_at p).0 (rule_at p).1)) (id⊢ 𝓤 _) $ keep ! (2 ∷ 0 ∷ []) $ done !
