-- A view can always be added whose lens may stand behind the others.
use Rattle.std.proofs.Common.{◌≡◌, true, List, [], ◌∷◌, length, Option, Some, Result, Ok, Err, refl, ap, subst}
use Rattle.std.specs.Prelude.{ℕ, option_map, nat_lt}
use Rattle.texts.specs.declared.side.Side.TheVariants.{Left, Right}
use Rattle.texts.proofs.Conjunction.{second}
use Rattle.doc_values.proofs.SameTypes.{is_same_ty-equal}
use Rattle.doc_values.specs.Documents.{DocTree}
use Rattle.doc_values.specs.Initial.{initial}
use Rattle.doc_values.specs.Types.{is_same_ty}
use Rattle.doc_values.specs.Typing.{has}
use Rattle.edit_inverse.proofs.Constructs.{construct-law}
use Rattle.edit_inverse.specs.Construct.{construct}
use Rattle.edit_module.specs.Action.{act}
use Rattle.edit_module.specs.Words.{WordTree}
use Rattle.lens_core.proofs.LawsOfWords.{consistent_is_typed}
use Rattle.lens_forms.proofs.TypingLaws.{left_formed}
use Rattle.lens_forms.specs.Forms.{FormTree, left_type}
use Rattle.lens_forms.specs.Typing.{is_typed}
use Rattle.lens_steps.specs.LawsOfForms.{form_edits, form_starts}
use Rattle.lens_syntax.specs.Programs.{unbounded}
use Rattle.program_accepted.proofs.AcceptedForms.{result_typed}
use Rattle.program_accepted.specs.Program.{Refusal, form_of_program}
use Rattle.store_records.specs.StoredLens.{accepted, form_of_text}
use Rattle.view_hub.proofs.GroupSteps.{first_lowered}
use Rattle.view_hub.specs.Groups.{with_view}
use Rattle.view_hub.specs.Hubs.{HubTree, ViewTree, first_view, lower}
use Rattle.view_hub.specs.Laws.{AllInStep, IsHub}
use Rattle.view_hub.specs.Lowering.{IsLowered}
use Rattle.hub_run.proofs.FormsInStep.{typed_lens}
use Rattle.hub_run.specs.FormLenses.{form_lens}
use Rattle.hub_run.specs.declared.pieces.TheConstants.{MOST_VIEWS}
use Rattle.hub_records.specs.HubLenses.{joins}
use Rattle.hub_records.specs.HubStands.{view_more}

-- ---- the lens of a text that is accepted is typed

typed_form : (text : List ℕ) (l : FormTree) (r : Result FormTree Refusal) → form_of_program (unbounded text) ≡ r
    → accepted r ≡ Some l → is_typed l ≡ true
typed_form text l (Ok m) is h =
    let same : m ≡ l = cc in
    subst (λ f. is_typed f ≡ true) same (result_typed (unbounded text) m is)
typed_form text l (Err refusal) is h = absurd cc

pub typed_text : (text : List ℕ) (l : FormTree) → form_of_text text ≡ Some l → is_typed l ≡ true
typed_text text l h = typed_form text l (form_of_program (unbounded text)) refl h

-- ---- the word that makes the hub's document

-- the hub's document has the left type of the first lens
first_has : (m : FormTree) (ls : List FormTree) (x : DocTree) (vs : List ViewTree)
    → AllInStep form_lens (left_type m) (m ∷ ls) x vs → has (left_type m) x ≡ true
first_has m ls x [] all = absurd all
first_has m ls x (v ∷ vs) all = (consistent_is_typed m x v.comp v.doc all.1).left_has

module _ (l : FormTree) (typed : is_typed l ≡ true) (h : HubTree) where
  -- it makes the document from the initial one of the lens
  word_acts : (forms : List FormTree) → IsHub form_lens forms h → joins forms l ≡ true
      → act (left_type l) (construct (left_type l) h.hub) (initial (left_type l)) ≡ Ok h.hub
  word_acts [] all may = absurd all
  word_acts (m ∷ ms) all may =
      let same : left_type m ≡ left_type l =
      is_same_ty-equal (left_type m) (left_type l)
      (second (nat_lt (length (m ∷ ms)) MOST_VIEWS) (is_same_ty (left_type m) (left_type l)) may) in
      construct-law (left_type l) h.hub (left_formed l typed)
      (subst (λ ty. has ty h.hub ≡ true) same (first_has m ms h.hub h.views all))

  -- ---- the view

  -- one view more, and the same document
  abbrev pub Later : Type 0
  Later = (v : ViewTree) × (view_more l h ≡ Some (with_view h v))

  lowered_view : (o : Option (ViewTree × WordTree)) → IsLowered o
      → (v : ViewTree) × (option_map (λ (r : ViewTree × WordTree). with_view h r.0) o ≡ Some (with_view h v))
  lowered_view o k = (k.result.0, ap (option_map (λ (r : ViewTree × WordTree). with_view h r.0)) k.is)

  pub later_view : (forms : List FormTree) → IsHub form_lens forms h → joins forms l ≡ true → Later
  later_view forms all may =
      let word = construct (left_type l) h.hub in
      lowered_view (lower typed_lens (l, typed) word (first_view typed_lens (l, typed)))
      (first_lowered typed_lens (λ n. form_edits n.0 n.1 Left) (λ n. form_edits n.0 n.1 Right)
      (λ n. form_starts n.0 n.1) (l, typed) word h.hub (word_acts forms all may))
