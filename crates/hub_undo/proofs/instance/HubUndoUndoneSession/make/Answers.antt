use Rattle.hub_undo.proofs.instance.HubUndoUndoneSession.make.Goals as goal

pub returns : goal.returns
returns c = rw c.as_slice.ensures at c.make.ensures
