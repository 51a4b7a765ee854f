-- How contracts see a session with bases, and its refusals.
use Rattle.std.specs.Prelude.{◌≡◌, ◌≤◌, Option, Some, Result, Err, length, min, refl}
use Rattle.std.specs.Coded.{Coded, code_by, coded×}
use Rattle.texts.specs.declared.side.Side.TheVariants.{Left, Right}
use Rattle.doc_values.specs.Documents.{DocTree}
use Rattle.doc_values.specs.Types.{TyTree}
use Rattle.bridge_core.specs.Carried.{gone, fails}
use Rattle.bridge_core.specs.declared.fault.CarryFault.{CarryFault}
use Rattle.bridge_core.specs.declared.fault.CarryFault.TheVariants as of_bridges
use Rattle.law_rebase.specs.Through.{Through}
use Rattle.law_rebase.specs.Chains.{Leads}
use Rattle.edit_session.specs.Views.{triple_tree}
use Rattle.edit_session.specs.declared.fault.StepFault.{StepFault}
use Rattle.edit_session.specs.declared.fault.StepFault.TheVariants as of_steps
use Rattle.edit_session.specs.declared.triple.Triple.{Triple}
use Rattle.based_session.specs.declared.fault.BaseFault.{BaseFault}
use Rattle.based_session.specs.declared.fault.BaseFault.TheVariants.{Full, Base, Gone, Unfit, NoApply, NoMemory}
use Rattle.based_session.specs.declared.kept.Window.{Window}
use Rattle.based_session.specs.Bases.{BasedTree, bridges_on, WhyAt, full, no_base, not_carried, no_apply}
use Rattle.based_session.specs.KeptViews.{kept_trees}

-- its lens, its triple, and what it keeps
pub record BasedOf (L : Type 0) : Type 0 where
  pub lens : L
  pub triple : Triple
  pub window : Window

abbrev pub based_code : {L : Type 0} → Coded L → Coded Triple → Coded Window → Coded (BasedOf L)
based_code {L} lens triple window =
    code_by (L × (Triple × Window)) (coded× lens (coded× triple window)) (λ s. (s.lens, (s.triple, s.window)))
    (λ p. record { lens = p.0; triple = p.1.0; window = p.1.1 }) (λ _. refl)

abbrev pub based_tree : Triple → Window → BasedTree
based_tree t w = record {
  triple = triple_tree t;
  kept = kept_trees w;
  number = w.number;
  width = w.width;
}

-- what always holds of a session with bases: bridges are kept of the last changes, as many as it is to keep or as there
-- were, and on both sides they lead from a document to the present one
pub record IsBased (left : TyTree) (right : TyTree) (b : BasedTree) : Type 0 where
  pub filled : length b.kept ≡ min b.number b.width
  pub narrow : b.width ≤ 1000
  pub left_leads : (s : DocTree) × Leads left (bridges_on Left b.kept) s b.triple.left
  pub right_leads : (s : DocTree) × Leads right (bridges_on Right b.kept) s b.triple.right

-- a word does not go through bridges, for the reason that the definition has; or memory ran out
abbrev pub IsNotThrough : Through → CarryFault → Type 0
IsNotThrough answer of_bridges.Gone = answer ≡ Err gone
IsNotThrough answer (of_bridges.NoApply cause) = answer ≡ Err (fails cause)
IsNotThrough answer of_bridges.NoMemory = Unit {0}

-- something is refused as the definition refuses it; running out of memory says nothing
abbrev pub IsRefused : {A : Type 0} → Result A WhyAt → BaseFault → Type 0
IsRefused answer Full = answer ≡ Err full
IsRefused answer Base = answer ≡ Err no_base
IsRefused answer Gone = answer ≡ Err (not_carried gone)
IsRefused answer (Unfit cause) = answer ≡ Err (not_carried (fails cause))
IsRefused answer (NoApply at cause) = answer ≡ Err (no_apply (at, cause))
IsRefused answer NoMemory = Unit {0}

-- and a step, which has an answer
abbrev pub IsStepRefused : {A : Type 0} → Option (Result A WhyAt) → BaseFault → Type 0
IsStepRefused answer Full = answer ≡ Some (Err full)
IsStepRefused answer Base = answer ≡ Some (Err no_base)
IsStepRefused answer Gone = answer ≡ Some (Err (not_carried gone))
IsStepRefused answer (Unfit cause) = answer ≡ Some (Err (not_carried (fails cause)))
IsStepRefused answer (NoApply at cause) = answer ≡ Some (Err (no_apply (at, cause)))
IsStepRefused answer NoMemory = Unit {0}

-- the refusal of a step, as one of a word with a base
abbrev pub IsOfStep : BaseFault → StepFault → Type 0
IsOfStep fault (of_steps.NoApply at cause) = fault ≡ NoApply at cause
IsOfStep fault of_steps.NoMemory = fault ≡ NoMemory
