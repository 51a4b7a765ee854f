-- How contracts see triples and faults of a step and of a change.
use Rattle.std.specs.Prelude.{◌≡◌, ℕ, Option, Some, Err}
use Rattle.doc_values.specs.Documents.{doc_tree}
use Rattle.lens_core.specs.Complements.{comp_tree}
use Rattle.edit_session.specs.Step.{TripleTree, Stepped, AllStepped}
use Rattle.edit_session.specs.declared.triple.Triple.{Triple}
use Rattle.edit_session.specs.declared.fault.StepFault.{StepFault}
use Rattle.edit_session.specs.declared.fault.StepFault.TheVariants.{NoApply, NoMemory}
use Rattle.edit_session.specs.declared.fault.GroupFault.{GroupFault}
use Rattle.edit_session.specs.declared.fault.GroupFault.TheVariants as of_groups

-- the trees of a triple
abbrev pub triple_tree : Triple → TripleTree
triple_tree t = record { left = doc_tree t.left; comp = comp_tree t.comp; right = doc_tree t.right }

-- an entry is refused with the number and the cause that the definition has; running out of memory says nothing
abbrev pub IsStepFault : Option Stepped → StepFault → Type 0
IsStepFault stepped (NoApply at cause) = stepped ≡ Some (Err (at, cause))
IsStepFault stepped NoMemory = Unit {0}

-- a change is refused with the two numbers and the cause that the definition has; running out of memory says nothing
abbrev pub IsGroupFault : Option AllStepped → GroupFault → Type 0
IsGroupFault stepped (of_groups.NoApply part at cause) = stepped ≡ Some (Err (part, (at, cause)))
IsGroupFault stepped of_groups.NoMemory = Unit {0}

-- the entry with this number in a group is refused as the definition refuses it
abbrev pub IsPartFault : ℕ → Option Stepped → GroupFault → Type 0
IsPartFault number stepped (of_groups.NoApply part at cause) = (part ≡ number) × (stepped ≡ Some (Err (at, cause)))
IsPartFault number stepped of_groups.NoMemory = Unit {0}
