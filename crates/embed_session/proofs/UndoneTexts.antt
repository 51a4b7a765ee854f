-- The words that are shown of the last change take the documents back.
use Rattle.std.proofs.Common.{◌≡◌, ℕ, List, [], ◌∷◌, Option, Some, None, Ok, sym, ap, subst, ◌∙◌}
use Rattle.texts.specs.declared.side.Side.{Side}
use Rattle.texts.specs.declared.side.Side.TheVariants.{Left, Right}
use Rattle.edit_journal.specs.Lines.{line_of, is_blank}
use Rattle.edit_journal.specs.declared.line.Line.{Line}
use Rattle.edit_module.specs.Changes.{ChangeTree}
use Rattle.edit_module.specs.Views.{change_tree}
use Rattle.edit_module.specs.Words.{WordTree}
use Rattle.edit_session.specs.Step.{TripleTree}
use Rattle.edit_session.specs.Views.{triple_tree}
use Rattle.lens_core.specs.Translation.{translate}
use Rattle.lens_forms.specs.Forms.{FormTree, left_type, right_type}
use Rattle.store_session.specs.Stands.{step_of}
use Rattle.edit_undo.specs.Undone.{BothTrees, BringsBack, undone}
use Rattle.embed_session.specs.Changes.{IsRemembered, IsWayBack, IsUndoText, HasUndoText, IsWordBack}
use Rattle.embed_session.specs.Steps.{form_of, IsLineStep}
use Rattle.embed_session.specs.declared.outcome.Outcome.TheVariants as outcome
use Rattle.embed_session.specs.declared.accepted.Accepted.{Accepted}
use Rattle.embed_session.specs.declared.running.Running.{Running}
use Rattle.embed_session.proofs.LogRecords.{same_change, form_stays, Stepped, item_stepped, done_item}
use Rattle.embed_session.proofs.UndoneSteps.{change_undone}

-- the words of a change take back what a step made
same_after : (u v : TripleTree) (words back : BothTrees) (o : Option (TripleTree × BothTrees)) → o ≡ Some (u, back) → o ≡ Some (v, words) → v ≡ u
same_after u v words back o h k =
    let pair : (v, words) ≡ (u, back) = cc in
    ap (λ (p : TripleTree × BothTrees). p.0) pair

way_back : (form : FormTree) (t u : TripleTree) (change : ChangeTree) (words : BothTrees) (made : List WordTree) → step_of form t change ≡ Some (Ok (u, made))
    → IsWayBack form t change words → BringsBack (left_type form) (right_type form) words u t
way_back form t u change words made h w =
    let k = change_undone form t u change made h in
    let same = same_after u w.after words k.0 (undone (left_type form) (right_type form) (translate form) t (change ∷ [])) k.1 w.undoes in
    subst (λ x. BringsBack (left_type form) (right_type form) words x t) same w.back

kept_back : (before after : Running) (line : Line) (s : Side) (text : List ℕ) (last : Option Accepted) → form_of after ≡ form_of before → Stepped before line after
    → IsRemembered (triple_tree before.session.triple) line outcome.Done last → HasUndoText (form_of after) last s text
    → (a : Accepted) × (k : IsUndoText (form_of after) a s text)
    × BringsBack (left_type (form_of after)) (right_type (form_of after)) k.words (triple_tree after.session.triple) (triple_tree before.session.triple)
kept_back before after line s text (Some a) form m remembered k =
    let t = triple_tree before.session.triple in let u = triple_tree after.session.triple in let change = change_tree a.change in
    let same = same_change line m.change change m.is remembered.change_is in
    let step = subst (λ (l : FormTree). step_of l t m.change ≡ Some (Ok (u, m.words))) (sym form) m.step in
    let step_k = subst (λ c. step_of (form_of after) t c ≡ Some (Ok (u, m.words))) same step in
    let way = subst (λ x. IsWayBack (form_of after) x change k.words) remembered.before_is k.way in
    (a, k, way_back (form_of after) t u change k.words m.words step_k way)
kept_back before after line s text None form m remembered k = absurd remembered

line_back : (line : List ℕ) (before after : Running) (s : Side) (text : List ℕ) → IsLineStep before line outcome.Done after → HasUndoText (form_of after) after.accepted s text
    → (a : Accepted) × (k : IsUndoText (form_of after) a s text)
    × BringsBack (left_type (form_of after)) (right_type (form_of after)) k.words (triple_tree after.session.triple) (triple_tree before.session.triple)
line_back line before after s text h k =
    let item = done_item (is_blank (line_of line)) before (line_of line) after h in
    kept_back before after (line_of line) s text after.accepted (form_stays before after item.lens) (item_stepped before (line_of line) after item) item.accepted k

pub left_back : (line text : List ℕ) (before after : Running) → IsLineStep before line outcome.Done after → HasUndoText (form_of after) after.accepted Left text
    → IsWordBack (left_type (form_of after)) (triple_tree after.session.triple).left (triple_tree before.session.triple).left text
left_back line text before after h k =
    let b = line_back line before after Left text h k in
    record { word = b.1.words.left; is_text = b.1.is_text; acts = b.2.left_back }

pub right_back : (line text : List ℕ) (before after : Running) → IsLineStep before line outcome.Done after → HasUndoText (form_of after) after.accepted Right text
    → IsWordBack (right_type (form_of after)) (triple_tree after.session.triple).right (triple_tree before.session.triple).right text
right_back line text before after h k =
    let b = line_back line before after Right text h k in
    record { word = b.1.words.right; is_text = b.1.is_text; acts = b.2.right_back }
