use Rattle.std.proofs.Common.{ap, subst}
use Rattle.std.specs.Prelude.{IfOk, MatchOption}
use Rattle.lens_flat.specs.declared.flat.ReadyForm.{ReadyForm}
use Rattle.lens_forms.specs.Forms.{FormTree, form_tree}
use Rattle.embed_session.specs.Changes.{IsMade, IsUndoText}
use Rattle.embed_session.proofs.changes.undo_text.Goals as goal

pub returns-in-Some : goal.returns-in-Some
returns-in-Some c =
    let a = c.in-Some.accepted in
    let form = ap (λ (l : ReadyForm). form_tree l.typed) (c.requires.one_lens a c.in-Some.is) in
    rw c.in-Some.is (subst (λ (f : FormTree). IfOk c.accepted_text.result (λ found. MatchOption found (IsMade f a → ⊥) (λ text. IsUndoText f a c.args.side text.items))) form c.accepted_text.ensures)
