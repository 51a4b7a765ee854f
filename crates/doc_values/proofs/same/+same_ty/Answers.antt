use Rattle.doc_values.proofs.TyKinds.{not-unit, not-bool, not-int, not-text, not-enum, not-rec, not-alt, not-list, not-keyed, not-tree}
use Rattle.doc_values.proofs.same.+same_ty.Goals as goal

pub same_ty-returns-in_default : goal.same_ty-returns-in_default
same_ty-returns-in_default t c = not-unit _ _ c.in_default.is-0 c.in_default.not-Unit-1

pub same_ty-returns-in_default-2 : goal.same_ty-returns-in_default-2
same_ty-returns-in_default-2 t c = not-bool _ _ c.in_default.is-0 c.in_default.not-Bool-1

pub same_ty-returns-in_default-3 : goal.same_ty-returns-in_default-3
same_ty-returns-in_default-3 t c = not-int _ _ _ c.in_default.is-0 c.in_default.not-Int-1

pub same_ty-returns-in_default-4 : goal.same_ty-returns-in_default-4
same_ty-returns-in_default-4 t c = not-text _ _ _ c.in_default.is-0 c.in_default.not-Text-1

pub same_ty-returns-in_default-5 : goal.same_ty-returns-in_default-5
same_ty-returns-in_default-5 t c = not-enum _ _ _ _ c.in_default.is-0 c.in_default.not-Enum-1

pub same_ty-returns-in_default-6 : goal.same_ty-returns-in_default-6
same_ty-returns-in_default-6 t c = not-rec _ _ _ c.in_default.is-0 c.in_default.not-Rec-1

pub same_ty-returns-in_default-7 : goal.same_ty-returns-in_default-7
same_ty-returns-in_default-7 t c = not-alt _ _ _ c.in_default.is-0 c.in_default.not-Alt-1

pub same_ty-returns-in_default-8 : goal.same_ty-returns-in_default-8
same_ty-returns-in_default-8 t c = not-list _ _ _ c.in_default.is-0 c.in_default.not-List-1

pub same_ty-returns-in_default-9 : goal.same_ty-returns-in_default-9
same_ty-returns-in_default-9 t c = not-keyed _ _ _ c.in_default.is-0 c.in_default.not-Keyed-1

pub same_ty-returns-in_default-10 : goal.same_ty-returns-in_default-10
same_ty-returns-in_default-10 t c = not-tree _ _ _ c.in_default.is-0 c.in_default.not-Tree-1
