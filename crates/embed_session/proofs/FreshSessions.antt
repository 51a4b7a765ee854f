-- A session that is new, of the form of the program.
use Rattle.std.proofs.Common.{◌≡◌, ℕ, List, None, Ok, sym, ap, subst, ◌∙◌}
use Rattle.program_accepted.specs.Program.{lens_of}
use Rattle.doc_values.specs.Documents.{DocTree}
use Rattle.edit_session.specs.Step.{TripleTree}
use Rattle.edit_session.specs.Views.{triple_tree}
use Rattle.run_answers.specs.ItemRuns.{IsInStepFor, triple_at_first}
use Rattle.lens_forms.specs.Forms.{FormTree}
use Rattle.texts.specs.declared.side.Side.{Side}
use Rattle.embed_session.specs.Embedded.{IsFresh, IsStarted, IsBrought, Brings, side_type, IsGoingOn}
use Rattle.embed_session.specs.Records.{IsFirstRecord}
use Rattle.embed_session.specs.States.{IsDocumentText, IsStateText}
use Rattle.embed_session.specs.Steps.{form_of}
use Rattle.embed_session.specs.declared.running.Running.{Running}

module _ (program : List ℕ) (form : FormTree) (r : Running) (lens : lens_of program ≡ Ok form) (is : form_of r ≡ form) (number : r.number ≡ 0) (accepted : r.accepted ≡ None)
    (text : IsFirstRecord program r.text.items) where
  fresh : IsFresh program r
  fresh = record { lens = lens ∙ ap (λ (f : FormTree). Ok f) (sym is); number = number; accepted = accepted; text = text }

  pub started : triple_tree r.session.triple ≡ triple_at_first form → IsStarted program r
  started first = record { fresh = fresh; first = first ∙ ap triple_at_first (sym is) }

  pub brought_in : (s : Side) (document : List ℕ) (doc : DocTree) → IsDocumentText (side_type form s) document doc → Brings form s doc (triple_tree r.session.triple)
      → IsBrought program s document r
  brought_in s document doc h k = record {
    fresh = fresh;
    doc = doc;
    document = subst (λ (f : FormTree). IsDocumentText (side_type f s) document doc) (sym is) h;
    brings = subst (λ (f : FormTree). Brings f s doc (triple_tree r.session.triple)) (sym is) k;
  }

  pub gone_on : (left comp right : List ℕ) (t : TripleTree) → triple_tree r.session.triple ≡ t → IsStateText form left comp right t → IsInStepFor form t
      → IsGoingOn program left comp right r
  gone_on left comp right t same h k = record {
    fresh = fresh;
    state = subst (λ (f : FormTree). IsStateText f left comp right (triple_tree r.session.triple)) (sym is) (subst (IsStateText form left comp right) (sym same) h);
    in_step = subst (λ (f : FormTree). IsInStepFor f (triple_tree r.session.triple)) (sym is) (subst (IsInStepFor form) (sym same) k);
  }
