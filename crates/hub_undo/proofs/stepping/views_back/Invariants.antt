use Rattle.hub_undo.proofs.OneEdit.{ViewsSoFar}
use Rattle.hub_undo.proofs.stepping.views_back.Given as goal

-- the words of the first views take them back
abbrev pub invariant-loop-at : goal.invariant-loop-at
invariant-loop-at g l = ViewsSoFar g.L.EditLens l.lenses l.views l.carried l.at l.words.items
