-- The step of one entry, and the words that take it back.
use Rattle.std.proofs.Common.{◌≡◌, Option, Some, None, Result, Ok, Err, refl, sym, ap, subst, ◌∙◌}
use Rattle.std.specs.Prelude.{option_and_then}
use Rattle.texts.specs.declared.side.Side.{Side}
use Rattle.texts.specs.declared.side.Side.TheVariants.{Left, Right}
use Rattle.texts.specs.Sides.{other}
use Rattle.doc_values.specs.Documents.{DocTree}
use Rattle.doc_values.specs.Types.{TyTree}
use Rattle.edit_inverse.specs.Inverse.{inverse}
use Rattle.edit_inverse.specs.Laws.{TakesBack}
use Rattle.edit_module.specs.Action.{Why, act}
use Rattle.edit_module.specs.Words.{WordTree}
use Rattle.lens_core.specs.Complements.{CompTree}
use Rattle.lens_core.specs.Sides.{near}
use Rattle.lens_core.specs.Translation.{Translated}
use Rattle.edit_session.specs.Step.{TripleTree, document_on, triple_from, after_carrying, after_action, step}
use Rattle.edit_undo.specs.Undone.{on_sides, undone_on, undone_entry, BringsBack}

-- ---- the parts of a step

carried_parts : (side : Side) (x : DocTree) (f : WordTree → Result DocTree Why) (q : Translated) (a : Result DocTree Why) (u : TripleTree) (w : WordTree) → f q.0 ≡ a
    → after_carrying side x q a ≡ Some (Ok (u, w)) → (y : DocTree) × (f w ≡ Ok y) × (triple_from side x q.1 y ≡ u)
carried_parts side x f q (Ok y) u w is h =
    let pair : (triple_from side x q.1 y, q.0) ≡ (u, w) = cc in
    let word : q.0 ≡ w = ap (λ (p : TripleTree × WordTree). p.1) pair in
    (y, ap f (sym word) ∙ is, ap (λ (p : TripleTree × WordTree). p.0) pair)
carried_parts side x f q (Err why) u w is h = cc

some_parts : (side : Side) (x : DocTree) (f : WordTree → Result DocTree Why) (o : Option Translated) (u : TripleTree) (w : WordTree)
    → option_and_then (λ (q : Translated). after_carrying side x q (f q.0)) o ≡ Some (Ok (u, w)) → (c : CompTree) × (y : DocTree) × (f w ≡ Ok y) × (triple_from side x c y ≡ u)
some_parts side x f (Some q) u w h =
    let parts = carried_parts side x f q (f q.0) u w refl h in
    (q.1, parts.0, parts.1, parts.2)
some_parts side x f None u w h = cc

module _ (left right : TyTree) (carried : Side → CompTree → WordTree → Option Translated) (t u : TripleTree) (side : Side) (word w : WordTree) where
  -- the document of the side is x then, and the other one y
  abbrev Parts : Result DocTree Why → Type 0
  Parts r = (x : DocTree) × (r ≡ Ok x) × (c : CompTree) × (y : DocTree) × (act (near (other side) left right) w (document_on (other side) t) ≡ Ok y) × (triple_from side x c y ≡ u)

  action_parts : (r : Result DocTree Why) → after_action left right carried t side word r ≡ Some (Ok (u, w)) → Parts r
  action_parts (Ok x) h =
      let parts = some_parts side x (λ (v : WordTree). act (near (other side) left right) v (document_on (other side) t)) (carried side t.comp word) u w h in
      (x, refl, parts.0, parts.1, parts.2, parts.3)
  action_parts (Err why) h = cc

brings : (left right : TyTree) (side : Side) (t u : TripleTree) (x y : DocTree) (c : CompTree) (own far : WordTree) → triple_from side x c y ≡ u
    → act (near side left right) own x ≡ Ok (document_on side t) → act (near (other side) left right) far y ≡ Ok (document_on (other side) t)
    → BringsBack left right (on_sides side own far) u t
brings left right Left t u x y c own far e h k = record {
  left_back = subst (λ (v : DocTree). act left own v ≡ Ok t.left) (ap (λ (z : TripleTree). z.left) e) h;
  right_back = subst (λ (v : DocTree). act right far v ≡ Ok t.right) (ap (λ (z : TripleTree). z.right) e) k;
}
brings left right Right t u x y c own far e h k = record {
  left_back = subst (λ (v : DocTree). act left far v ≡ Ok t.left) (ap (λ (z : TripleTree). z.left) e) k;
  right_back = subst (λ (v : DocTree). act right own v ≡ Ok t.right) (ap (λ (z : TripleTree). z.right) e) h;
}

module _ (left right : TyTree) (carried : Side → CompTree → WordTree → Option Translated) (t u : TripleTree) (side : Side) (word w own far : WordTree) where
  -- the inverse of the own word, and that of the carried one
  pub entry_undone : own ≡ inverse (near side left right) word (document_on side t) → far ≡ inverse (near (other side) left right) w (document_on (other side) t)
      → on_sides side own far ≡ undone_entry left right t (side, word) w
  entry_undone e f = ap (λ (x : WordTree). on_sides side x far) e ∙ ap (λ (x : WordTree). on_sides side (undone_on left right t side word) x) f

  pub entry_brings : step left right carried t (side, word) ≡ Some (Ok (u, w))
      → TakesBack (near side left right) own (act (near side left right) word (document_on side t)) (document_on side t)
      → TakesBack (near (other side) left right) far (act (near (other side) left right) w (document_on (other side) t)) (document_on (other side) t)
      → BringsBack left right (on_sides side own far) u t
  entry_brings h e f =
      let parts = action_parts left right carried t u side word w (act (near side left right) word (document_on side t)) h in
      brings left right side t u parts.0 parts.3 parts.2 own far parts.5
      (subst (λ (r : Result DocTree Why). TakesBack (near side left right) own r (document_on side t)) parts.1 e)
      (subst (λ (r : Result DocTree Why). TakesBack (near (other side) left right) far r (document_on (other side) t)) parts.4 f)
