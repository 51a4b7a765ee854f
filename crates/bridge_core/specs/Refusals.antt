-- What an answer of the code says: `carried_tree` of a carried word, and `IsNotCarried` of a refusal.
use Rattle.std.specs.Prelude.{◌≡◌, Err}
use Rattle.edit_module.specs.Words.{WordTree}
use Rattle.edit_module.specs.Views.{word_tree}
use Rattle.bridge_core.specs.Bridges.{BridgeTree, bridge_tree}
use Rattle.bridge_core.specs.Carried.{Answer, gone, fails}
use Rattle.bridge_core.specs.declared.carried_word.CarriedWord.{CarriedWord}
use Rattle.bridge_core.specs.declared.fault.CarryFault.{CarryFault}
use Rattle.bridge_core.specs.declared.fault.CarryFault.TheVariants.{Gone, NoApply, NoMemory}

-- the tree of a carried word, and that of the bridge behind it
abbrev pub carried_tree : CarriedWord → WordTree × BridgeTree
carried_tree it = (word_tree it.word, bridge_tree it.bridge)

-- a word is not carried, for the reason that the definition has; or memory ran out
abbrev pub IsNotCarried : Answer → CarryFault → Type 0
IsNotCarried answer Gone = answer ≡ Err gone
IsNotCarried answer (NoApply cause) = answer ≡ Err (fails cause)
IsNotCarried answer NoMemory = Unit {0}

-- what a word changes is gone, or memory ran out
abbrev pub IsGone : CarryFault → Type 0
IsGone Gone = Unit {0}
IsGone (NoApply cause) = ⊥
IsGone NoMemory = Unit {0}
