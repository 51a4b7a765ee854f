use Rattle.std.proofs.Common.{◌≡◌, ◌<◌, ◌≤◌, ℕ, List, ◌++◌, ◌∷◌, [], length, map, get_or, refl, sym, ap, subst, ◌∙◌}
use Rattle.std.specs.Prelude.{Result, option_map}
use Rattle.program_terms.specs.Views.{program_tree}
use Rattle.lens_forms.specs.Forms.{FormTree, form_tree}
use Rattle.lens_types.specs.declared.typed.Typed.{Typed}
use Rattle.script_input.specs.Parts.{HoldsPart}
use Rattle.script_input.specs.declared.script.ProgramText.{ProgramText}
use Rattle.script_input.proofs.Outcomes.{by_error}
use Rattle.hub_run.specs.FoundLenses.{IsRefusedHub, HasLeft}
use Rattle.hub_run.specs.declared.views.HubRefused.TheVariants.{NoMemory}
use Rattle.hub_run.specs.Lenses.{HubRefusal, too_many_views, first_left, form_of_view, forms_of}
use Rattle.hub_run.proofs.FoundLoops.{view_found, view_not_found, last_found, last_not_found, few_forms, many_forms, kept_few, kept_many, view_joins, last_joins}
use Rattle.hub_run.specs.PiecePrograms.{AreViews, IsViewOf, if_program}
use Rattle.hub_run.proofs.PiecesRead.{all_are, all_with_last, next_program, programs_end, programs_joined}
use Rattle.hub_run.proofs.pieces.Pieces.views.Goals as goal

pub returns-then-self-clause-views : goal.returns-then-self-clause-views
returns-then-self-clause-views c = λ ended begun h.
    let k = c.args.self.now in
    (too_many_views, many_forms ended begun (kept_many k.is_many k.ended.items k.begun ended begun c.if-self.true h), refl)

pub loop-piece-preserved : goal.loop-piece-preserved
loop-piece-preserved c =
    let l = c.loop-piece in
    let piece = c.piece-item.result in
    let lens = c.in_ok-view.view.lens in
    let pieces_are = c.deref-piece-items.ensures.value in
    let before_is = c.deref.ensures.value in
    let within = subst (λ (ks : List ProgramText). l.piece-index < length ks) pieces_are c.loop-piece-test.true in
    let is = subst (λ (ks : List ProgramText). piece ≡ get_or ks l.piece-index piece) pieces_are c.piece-item.is in
    let read = subst (λ (ts : List Typed). (text : List ℕ) → HoldsPart piece text → IsViewOf (first_left (map form_tree ts)) (length ts) text (program_tree c.in_ok-view.view.program) (form_tree lens)) before_is c.in_ok-view.ensures.view in
    let left = subst (λ (ts : List Typed). HasLeft (first_left (map form_tree ts)) (form_tree lens)) before_is c.in_ok-view.ensures.same_left in
    record {
      goes = λ ended begun holds.
          view_found c.args.self.now.ended.items ended l.piece-index piece l.lenses.items _ lens begun within is holds (λ text h. (read text h).has_lens) c.in_ok-push-2.ensures.items ∙ l.invariant.goes ended begun holds;
      programs = λ ended holds.
          next_program c.args.self.now.ended.items ended l.piece-index piece l.programs.items _ c.in_ok-view.view.program within is holds (λ text h. sym (ap if_program (read text h).read)) c.in_ok-push.ensures.items
          ∙ l.invariant.programs ended holds;
      one_left = view_joins l.lenses.items _ lens c.in_ok-push-2.ensures.items l.invariant.one_left left;
    }

pub returns-in_err-view-clause-views : goal.returns-in_err-view-clause-views
returns-in_err-view-clause-views c = λ ended begun h.
    let l = c.loop-piece in
    let k = c.args.self.now in
    let piece = c.piece-item.result in
    let pieces_are = c.deref-piece-items.ensures.value in
    let within = subst (λ (ks : List ProgramText). l.piece-index < length ks) pieces_are c.loop-piece-test.true in
    let is = subst (λ (ks : List ProgramText). piece ≡ get_or ks l.piece-index piece) pieces_are c.piece-item.is in
    let p = kept_few k.is_many k.ended.items k.begun ended begun c.if-self.false h in
    let fault = c.in_err-view.field-0.0 in
    let refused = subst (λ (ts : List Typed). (text : List ℕ) → HoldsPart piece text → IsRefusedHub (form_of_view (first_left (map form_tree ts)) (length ts) text) fault) c.deref.ensures.value c.in_err-view.ensures.view in
    let none = view_not_found k.ended.items ended l.piece-index piece l.lenses.items begun fault within is p.1 refused in
    let all = forms_of (ended ++ begun ∷ []) in
    let here = subst (λ (r : Result (List FormTree) HubRefusal). IsRefusedHub r fault) (sym (few_forms ended begun p.0))
    (subst (λ (r : Result (List FormTree) HubRefusal). IsRefusedHub r fault) (l.invariant.goes ended begun p.1) none) in
    by_error c.from_residual.result (λ v. AreViews (ended ++ begun ∷ []) (map program_tree v.programs.items) (map form_tree v.lenses.items)) (IsRefusedHub all) (λ f. f ≡ fault) (λ f e. subst (IsRefusedHub all) (sym e) here) c.from_residual.ensures.1

pub returns-in_err-view-2-clause-views : goal.returns-in_err-view-2-clause-views
returns-in_err-view-2-clause-views c = λ ended begun h.
    let l = c.loop-piece in
    let k = c.args.self.now in
    let past = subst (λ (ks : List ProgramText). length ks ≤ l.piece-index) c.deref-piece-items.ensures.value c.loop-piece-test.false in
    let p = kept_few k.is_many k.ended.items k.begun ended begun c.if-self.false h in
    let fault = c.in_err-view-2.field-0.0 in
    let refused = subst (λ (ts : List Typed). (text : List ℕ) → HoldsPart k.begun text → IsRefusedHub (form_of_view (first_left (map form_tree ts)) (length ts) text) fault) c.deref-2.ensures.value c.in_err-view-2.ensures.view in
    let none = last_not_found k.ended.items ended l.piece-index l.lenses.items begun fault past p.1 (refused begun p.2) in
    let all = forms_of (ended ++ begun ∷ []) in
    let here = subst (λ (r : Result (List FormTree) HubRefusal). IsRefusedHub r fault) (sym (few_forms ended begun p.0))
    (subst (λ (r : Result (List FormTree) HubRefusal). IsRefusedHub r fault) (l.invariant.goes ended begun p.1) none) in
    by_error c.from_residual-in_err-view-2.result (λ v. AreViews (ended ++ begun ∷ []) (map program_tree v.programs.items) (map form_tree v.lenses.items)) (IsRefusedHub all) (λ f. f ≡ fault) (λ f e. subst (IsRefusedHub all) (sym e) here) c.from_residual-in_err-view-2.ensures.1

pub returns-in_err-push-3-clause-views : goal.returns-in_err-push-3-clause-views
returns-in_err-push-3-clause-views c = λ ended begun h.
    let all = forms_of (ended ++ begun ∷ []) in
    by_error c.from_residual-in_err-push-3.result (λ v. AreViews (ended ++ begun ∷ []) (map program_tree v.programs.items) (map form_tree v.lenses.items)) (IsRefusedHub all) (λ f. f ≡ NoMemory)
    (λ f e. subst (IsRefusedHub all) (sym e) tt) c.from_residual-in_err-push-3.ensures.1

pub returns-clause-views : goal.returns-clause-views
returns-clause-views c = λ ended begun h.
    let l = c.loop-piece in
    let k = c.args.self.now in
    let view = c.in_ok-view-2.view in
    let past = subst (λ (ks : List ProgramText). length ks ≤ l.piece-index) c.deref-piece-items.ensures.value c.loop-piece-test.false in
    let p = kept_few k.is_many k.ended.items k.begun ended begun c.if-self.false h in
    let read = subst (λ (ts : List Typed). (text : List ℕ) → HoldsPart k.begun text → IsViewOf (first_left (map form_tree ts)) (length ts) text (program_tree view.program) (form_tree view.lens)) c.deref-2.ensures.value c.in_ok-view-2.ensures.view in
    let last = read begun p.2 in
    let ended_programs = sym (programs_end k.ended.items ended l.piece-index l.programs.items past p.1) ∙ l.invariant.programs ended p.1 ∙ all_are ended in
    record {
      read = sym (programs_joined l.programs.items _ view.program c.in_ok-push-3.ensures.items
          ∙ ap (option_map (λ q. map program_tree l.programs.items ++ q ∷ [])) (sym (ap if_program last.read)) ∙ all_with_last ended begun (map program_tree l.programs.items) ended_programs);
      has_lenses = few_forms ended begun p.0 ∙ sym (l.invariant.goes ended begun p.1)
          ∙ last_found k.ended.items ended l.piece-index l.lenses.items _ view.lens begun past p.1 last.has_lens c.in_ok-push-4.ensures.items;
    }

pub returns-clause-one_left : goal.returns-clause-one_left
returns-clause-one_left c =
    let l = c.loop-piece in
    let lens = c.in_ok-view-2.view.lens in
    let left = subst (λ (ts : List Typed). HasLeft (first_left (map form_tree ts)) (form_tree lens)) c.deref-2.ensures.value c.in_ok-view-2.ensures.same_left in
    last_joins l.lenses.items _ lens c.in_ok-push-4.ensures.items l.invariant.one_left left
