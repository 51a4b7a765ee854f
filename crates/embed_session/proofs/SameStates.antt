-- What is resumed from the texts that a session showed is the same session.
use Rattle.std.proofs.Common.{◌≡◌, ℕ, List, true, Option, Some, Result, Ok, Err, refl, sym, subst, ◌∙◌}
use Rattle.program_accepted.specs.Program.{Refusal, lens_of}
use Rattle.program_accepted.proofs.AcceptedForms.{accepted_typed}
use Rattle.complement_file.proofs.TreesDiffer as complements
use Rattle.complement_file.specs.ComplementJson.{tree_of_complement}
use Rattle.doc_values.specs.Documents.{DocTree}
use Rattle.doc_values.specs.Types.{TyTree}
use Rattle.edit_journal.specs.EntryJson.{tree_of_text}
use Rattle.edit_session.specs.Step.{TripleTree}
use Rattle.edit_session.specs.Views.{triple_tree}
use Rattle.run_answers.specs.ItemRuns.{IsInStepFor}
use Rattle.lens_core.specs.Complements.{CompTree}
use Rattle.lens_forms.specs.Forms.{FormTree, left_type, right_type}
use Rattle.lens_forms.specs.Typing.{is_typed}
use Rattle.value_json.proofs.TreesDiffer as documents
use Rattle.value_json.specs.DocumentJson.{tree_of_document}
use Rattle.embed_session.specs.Journals.{IsSameState}
use Rattle.embed_session.specs.Embedded.{IsResumed}
use Rattle.embed_session.specs.States.{IsDocumentText, IsComplementText, IsStateText, IsStateFault, IsWrittenDocument, IsWrittenComplement}
use Rattle.embed_session.specs.Steps.{form_of}
use Rattle.embed_session.specs.declared.embedded.EmbeddedSession.{EmbeddedSession}
use Rattle.embed_session.specs.declared.embedded.EmbeddedSession.TheVariants as embedded
use Rattle.embed_session.specs.declared.outcome.StateFault.{StateFault}
use Rattle.embed_session.specs.declared.outcome.StateFault.TheVariants as fault

-- a text has one tree
same_some : {X : Type 0} (x y : X) (o : Option X) → o ≡ Some x → o ≡ Some y → x ≡ y
same_some x y o h k = cc

same_ok : (f g : FormTree) (o : Result FormTree Refusal) → o ≡ Ok f → o ≡ Ok g → g ≡ f
same_ok f g o h k = cc

-- ---- what was shown is read

written_document : (ty : TyTree) (doc : DocTree) (text : List ℕ) → IsWrittenDocument ty doc text → IsDocumentText ty text doc
written_document ty doc text w =
    record { tree = tree_of_document ty doc; read = w.is_text.reads_back; of_tree = record { of_type = w.of_type; ints = w.ints; is = refl } }

written_complement : (form : FormTree) (comp : CompTree) (text : List ℕ) → IsWrittenComplement form comp text → IsComplementText form text comp
written_complement form comp text w = record { tree = tree_of_complement form comp; read = w.is_text.reads_back; of_tree = record { fits = w.fits; is = refl } }

shown_state : (form : FormTree) (left comp right : List ℕ) (t : TripleTree) → IsWrittenDocument (left_type form) t.left left → IsWrittenComplement form t.comp comp
    → IsWrittenDocument (right_type form) t.right right → IsStateText form left comp right t
shown_state form left comp right t x c y = record {
  left_is = written_document (left_type form) t.left left x;
  comp_is = written_complement form t.comp comp c;
  right_is = written_document (right_type form) t.right right y;
}

-- ---- a text is of one document, and of one complement

one_document : (ty : TyTree) (text : List ℕ) (d e : DocTree) → IsDocumentText ty text d → IsDocumentText ty text e → d ≡ e
one_document ty text d e x y =
    documents.apart ty d e x.of_tree.of_type y.of_tree.of_type (x.of_tree.is ∙ same_some x.tree y.tree (tree_of_text text) x.read y.read ∙ sym y.of_tree.is)

one_complement : (form : FormTree) (text : List ℕ) (c d : CompTree) → is_typed form ≡ true → IsComplementText form text c → IsComplementText form text d → c ≡ d
one_complement form text c d typed x y =
    complements.apart form typed c d x.of_tree.fits y.of_tree.fits (x.of_tree.is ∙ same_some x.tree y.tree (tree_of_text text) x.read y.read ∙ sym y.of_tree.is)

same_triple : (t u : TripleTree) → t.left ≡ u.left → t.comp ≡ u.comp → t.right ≡ u.right → t ≡ u
same_triple t u p q r = rw (p, q, r) refl

one_state : (form : FormTree) (left comp right : List ℕ) (t u : TripleTree) → is_typed form ≡ true → IsStateText form left comp right t → IsStateText form left comp right u → t ≡ u
one_state form left comp right t u typed x y =
    same_triple t u (one_document (left_type form) left t.left u.left x.left_is y.left_is) (one_complement form comp t.comp u.comp typed x.comp_is y.comp_is)
    (one_document (right_type form) right t.right u.right x.right_is y.right_is)

-- ---- what is resumed

-- texts of a consistent triple are not refused
not_refused : (form : FormTree) (left comp right : List ℕ) (t : TripleTree) (why : StateFault) → is_typed form ≡ true → IsInStepFor form t → IsStateText form left comp right t
    → IsStateFault form left comp right why → why ≡ fault.NoMemory
not_refused form left comp right t fault.NotLeft typed k s h = absurd (h t.left s.left_is)
not_refused form left comp right t fault.NotComplement typed k s h = absurd (h.1 t.comp s.comp_is)
not_refused form left comp right t fault.NotRight typed k s h = absurd (h.2 t.right s.right_is)
not_refused form left comp right t fault.NotConsistent typed k s h = absurd (h.not_in_step (subst (IsInStepFor form) (one_state form left comp right t h.triple typed s h.is) k))
not_refused form left comp right t fault.NoMemory typed k s h = refl

not_both : (form : FormTree) (refusal : Refusal) (o : Result FormTree Refusal) → o ≡ Ok form → o ≡ Err refusal → ⊥
not_both form refusal o h k = cc

pub is_same_state : (program left comp right : List ℕ) (form : FormTree) (t : TripleTree) (resumed : EmbeddedSession) → lens_of program ≡ Ok form → IsInStepFor form t
    → IsWrittenDocument (left_type form) t.left left → IsWrittenComplement form t.comp comp → IsWrittenDocument (right_type form) t.right right
    → IsResumed program left comp right resumed → IsSameState form t resumed
is_same_state program left comp right form t (embedded.Open r) lens k x c y h =
    let typed = accepted_typed program form lens in
    let same = same_ok form (form_of r) (lens_of program) lens h.fresh.lens in
    let shown = shown_state form left comp right t x c y in
    (same, one_state form left comp right (triple_tree r.session.triple) t typed (subst (λ (f : FormTree). IsStateText f left comp right (triple_tree r.session.triple)) same h.state) shown)
is_same_state program left comp right form t (embedded.Refused refused line) lens k x c y h = absurd (not_both form h.is_line.refusal (lens_of program) lens h.is_line.is)
is_same_state program left comp right form t (embedded.StateRefused why) lens k x c y h =
    let typed = accepted_typed program form lens in
    let same = same_ok form h.form (lens_of program) lens h.lens in
    let is_fault = subst (λ (f : FormTree). IsStateFault f left comp right why) same h.is_fault in
    absurd (h.known (not_refused form left comp right t why typed k (shown_state form left comp right t x c y) is_fault))
is_same_state program left comp right form t (embedded.RecordsRefused why) lens k x c y h = absurd h
is_same_state program left comp right form t embedded.NoMemory lens k x c y h = tt
