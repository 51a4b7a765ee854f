-- What is found of the views of a program part, and the lines of its refusals.
use Rattle.std.proofs.Common.{◌≡◌, ℕ, List, Result, Ok, Err, Option, IfOk, refl, sym, ap, subst, ◌∙◌}
use Rattle.doc_values.specs.Types.{TyTree}
use Rattle.lens_forms.specs.Forms.{FormTree}
use Rattle.lens_syntax.specs.declared.fault.ProgramFault.{ProgramFault}
use Rattle.lens_types.specs.declared.fault.TypeFault.{TypeFault}
use Rattle.answer_text.specs.Lines.{program_refused_line}
use Rattle.answer_text.specs.RefusalLines.{IsLineOf, reason}
use Rattle.program_accepted.specs.Program.{Refusal, syntax, typing}
use Rattle.program_accepted.specs.Refused.{IsProgramRefusal}
use Rattle.program_accepted.specs.declared.program.Refused.{Refused}
use Rattle.program_accepted.specs.declared.program.Refused.TheVariants.{Syntax, Typing}
use Rattle.hub_run.specs.Lenses.{HubRefusal, in_view, view_with, view_reason, hub_refusal_line}
use Rattle.hub_run.specs.FoundLenses.{IsRefusalOf}
use Rattle.hub_run.specs.declared.views.HubRefused.{HubRefused}
use Rattle.hub_run.specs.declared.views.HubRefused.TheVariants.{InView}

-- a view whose text is not a program
pub view_syntax : (ty : Option TyTree) (v : ℕ) (outcome : Result FormTree Refusal) (fault : ProgramFault) → IsProgramRefusal outcome (Syntax fault)
    → (x : HubRefusal) × (view_with ty v outcome ≡ Err x) × ((why : Refusal) × (x ≡ in_view v why) × IsProgramRefusal (Err why) (Syntax fault))
view_syntax ty v outcome fault h = (in_view v (syntax h.cause), ap (view_with ty v) h.is, (syntax h.cause, refl, record { cause = h.cause; is = refl; is_fault = h.is_fault }))

-- a view whose program has no type
pub view_typing : (ty : Option TyTree) (v : ℕ) (outcome : Result FormTree Refusal) (fault : TypeFault) → IsProgramRefusal outcome (Typing fault)
    → (x : HubRefusal) × (view_with ty v outcome ≡ Err x) × ((why : Refusal) × (x ≡ in_view v why) × IsProgramRefusal (Err why) (Typing fault))
view_typing ty v outcome fault h =
    (in_view v (typing h.failure), ap (view_with ty v) h.is, (typing h.failure, refl, record { failure = h.failure; is = refl; is_fault = h.is_fault; known = h.known }))

-- the line of a view whose part is refused
pub part_in_view : {E : Type 0} (r : Result (List ℕ) E) (line : List ℕ) (v : ℕ) (refused : Refused)
    → ((outcome : Result FormTree Refusal) → IsProgramRefusal outcome refused → IsLineOf outcome line)
    → IfOk r (λ longer. (why : List ℕ) → line ≡ program_refused_line why → longer ≡ program_refused_line (view_reason v why))
    → IfOk r (λ longer. (why : Refusal) → IsProgramRefusal (Err why) refused → longer ≡ program_refused_line (view_reason v (reason why)))
part_in_view (Err e) line v refused is_line h = tt
part_in_view (Ok longer) line v refused is_line h = λ why refusal.
    let l = is_line (Err why) refusal in
    let same : why ≡ l.refusal = let e = l.is in cc in
    h (reason l.refusal) l.is_line ∙ ap (λ w. program_refused_line (view_reason v (reason w))) (sym same)

pub in_view_line_is : {E : Type 0} (r : Result (List ℕ) E) (v : ℕ) (refused : Refused) (whole : HubRefused) → whole ≡ InView v refused
    → IfOk r (λ line. (why : Refusal) → IsProgramRefusal (Err why) refused → line ≡ program_refused_line (view_reason v (reason why)))
    → IfOk r (λ line. (refusal : HubRefusal) → IsRefusalOf whole refusal → line ≡ hub_refusal_line refusal)
in_view_line_is (Err e) v refused whole is h = tt
in_view_line_is (Ok line) v refused whole is h = λ refusal of.
    let p = subst (λ w. IsRefusalOf w refusal) is of in
    h p.0 p.2 ∙ ap hub_refusal_line (sym p.1)
