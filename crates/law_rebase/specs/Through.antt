-- A word that goes through bridges, one after another: `carried_through`.
use Rattle.std.specs.Prelude.{List, [], ◌∷◌, Result, Ok, Err}
use Rattle.doc_values.specs.Types.{TyTree}
use Rattle.edit_module.specs.Words.{WordTree}
use Rattle.bridge_core.specs.Bridges.{BridgeTree}
use Rattle.bridge_core.specs.Carried.{WhyNot, Answer, carry}

-- the word for the document behind the last bridge, or why there is none
abbrev pub Through : Type 0
Through = Result WordTree WhyNot

-- a word that was carried goes on, without the bridge behind it
abbrev pub goes_on : Answer → (WordTree → Through) → Through
goes_on (Ok a) rest = rest a.0
goes_on (Err why) rest = Err why

-- a word behind bridges goes on
abbrev pub then_through : Through → (WordTree → Through) → Through
then_through (Ok w) rest = rest w
then_through (Err why) rest = Err why

-- the word is carried through the first bridge, and what it is then through the others
abbrev pub carried_through : TyTree → List BridgeTree → WordTree → Through
carried_through t [] w = Ok w
carried_through t (b ∷ bs) w = goes_on (carry t b w) (λ q. carried_through t bs q)
