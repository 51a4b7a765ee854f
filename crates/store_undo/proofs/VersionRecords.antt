-- What stands behind the version record and a snapshot.
use Rattle.std.proofs.Common.{◌≡◌, ℕ, Bool, true, false, cond, List, [], ◌∷◌, ◌++◌, Some, None, Ok, refl, sym, ap, ◌∙◌, append_assoc}
use Rattle.std.specs.Prelude.{nat_eq, option_to_list}
use Rattle.edit_session.specs.Step.{TripleTree}
use Rattle.store_session.specs.Stands.{Standing, stands}
use Rattle.store_session.specs.Written.{the_snapshot}
use Rattle.store_session.specs.WrittenStands.{one_stands}
use Rattle.store_session.specs.StoredStates.{HasSnapshot, snapshot_text, state_with, version_text}
use Rattle.store_session.specs.TypedStores.{typed_stood}
use Rattle.store_undo.specs.UndoLaws.{version_behind}
use Rattle.store_undo.specs.UndoRecords.{version_due, version_then}

-- the snapshot of a triple stands for it
pub snapshot_stands : (held : List (List ℕ)) (s : Standing) (t : TripleTree) → stands held ≡ Ok s → HasSnapshot (state_with s.form t)
    → stands (held ++ snapshot_text (state_with s.form t) ∷ []) ≡ Ok (record s { triple = t })
snapshot_stands held s t h has =
    one_stands held (snapshot_text (state_with s.form t)) (the_snapshot t) s (record s { triple = t }) (typed_stood held s h) h has.reads (has.consistent, has.left_whole, has.right_whole, refl)

-- the version record, if it is to be stored, and then the snapshot
at_version : (b : Bool) (held : List (List ℕ)) (s : Standing) (t : TripleTree) → stands held ≡ Ok s → nat_eq s.version 1 ≡ b → HasSnapshot (state_with s.form t)
    → stands (held ++ (option_to_list (cond b (Some version_text) None) ++ snapshot_text (state_with s.form t) ∷ [])) ≡ Ok (record s { triple = t; version = cond b 2 s.version })
at_version true held s t h is has =
    ap stands (sym (append_assoc held (version_text ∷ []) (snapshot_text (state_with s.form t) ∷ [])))
    ∙ snapshot_stands (held ++ version_text ∷ []) (record s { version = 2 }) t (version_behind held s h is) has
at_version false held s t h is has = snapshot_stands held s t h has

pub undone_stands : (held : List (List ℕ)) (s : Standing) (t : TripleTree) → stands held ≡ Ok s → HasSnapshot (state_with s.form t)
    → stands (held ++ (option_to_list (version_due s.version) ++ snapshot_text (state_with s.form t) ∷ [])) ≡ Ok (record s { triple = t; version = version_then s.version })
undone_stands held s t h has = at_version (nat_eq s.version 1) held s t h refl has
