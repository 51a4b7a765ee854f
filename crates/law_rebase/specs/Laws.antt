-- What words that are carried keep. In order: `RebasedMeets`, `JoinedWordsAreCarried`, `BridgesAreGoneThrough`.
use Rattle.std.specs.Prelude.{◌≡◌, true, List, ◌++◌, Ok}
use Rattle.doc_values.specs.Documents.{DocTree}
use Rattle.doc_values.specs.Types.{TyTree, is_well_formed}
use Rattle.doc_values.specs.Typing.{has}
use Rattle.edit_module.specs.Words.{WordTree, joined}
use Rattle.edit_module.specs.Action.{act, inner}
use Rattle.edit_inverse.specs.Inverse.{inverse}
use Rattle.edit_inverse.specs.Texts.{MeetsTexts}
use Rattle.bridge_core.specs.Bridges.{BridgeTree, same}
use Rattle.bridge_core.specs.Bridged.{bridge}
use Rattle.bridge_core.specs.Carried.{then_carry, carry}
use Rattle.law_rebase.specs.Through.{then_through, carried_through}

-- p leads from s to u and q from s to v: from v the inverse of q, p, and q as it was carried over p have the value, or
-- the cause, that the carried word has on u
abbrev pub RebasedMeets : Type 0
RebasedMeets = (t : TyTree) (p q : WordTree) (s u v : DocTree) (r : WordTree × BridgeTree) → is_well_formed t ≡ true
    → has t s ≡ true → MeetsTexts t q s → act t p s ≡ Ok u → act t q s ≡ Ok v
    → carry t (bridge t p s same) q ≡ Ok r
    → inner (act t (joined (inverse t q s) (joined p r.0)) v) ≡ inner (act t r.0 u)

-- a joined word: its first part is carried, and then its second over the bridge behind the first
abbrev pub JoinedWordsAreCarried : Type 0
JoinedWordsAreCarried = (t : TyTree) (b : BridgeTree) (v w : WordTree)
    → carry t b (joined v w) ≡ then_carry (carry t b v) (λ c. carry t c w)

-- bridges in a row: a word goes through the first ones, and what it is then through the others
abbrev pub BridgesAreGoneThrough : Type 0
BridgesAreGoneThrough = (t : TyTree) (bs cs : List BridgeTree) (w : WordTree)
    → carried_through t (bs ++ cs) w ≡ then_through (carried_through t bs w) (λ q. carried_through t cs q)
