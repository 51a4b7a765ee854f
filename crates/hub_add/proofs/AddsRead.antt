-- What the reading of a script with one view more has found.
use Rattle.std.proofs.Common.{◌≡◌, inl, inr, ℕ, ◌<◌, ◌≤◌, Bool, true, false, cond, List, [], ◌∷◌, ◌++◌, length, get_or, Option, Some, Result, Ok, Err, MatchResult, refl, sym, ap, subst, ◌∙◌, arith}
use Rattle.std.specs.Prelude.{nat_lt}
use Rattle.std.proofs.lemmas.Bool.{lt-ltb, ltb-true}
use Rattle.std.proofs.lemmas.List.{length-map}
use Rattle.program_accepted.specs.Program.{lens_of}
use Rattle.program_accepted.proofs.AcceptedForms.{accepted_typed}
use Rattle.doc_values.specs.Types.{TyTree}
use Rattle.lens_forms.specs.Forms.{FormTree, form_tree, left_type}
use Rattle.lens_forms.specs.Typing.{is_typed}
use Rattle.lens_io.specs.declared.failed.TakeFault.{TakeFault}
use Rattle.lens_io.specs.declared.source.Source as OfSource
use Rattle.program_terms.specs.Terms.{ProgramTree}
use Rattle.program_terms.specs.Views.{program_tree}
use Rattle.script_input.specs.Lines.{program_part}
use Rattle.script_input.specs.Parts.{HoldsPart, ReadsPart, ReadsAll}
use Rattle.script_input.specs.Skipped.{SkipsRest}
use Rattle.script_input.specs.Taking.{TakenInput}
use Rattle.script_input.specs.declared.script.ProgramText.{ProgramText}
use Rattle.lens_flat.specs.declared.flat.ReadyForm.{ReadyForm}
use Rattle.hub_run.specs.RunStates.{forms_of_lenses}
use Rattle.hub_run.specs.FoundLenses.{HasLeft, HasRefusalLine, IsRefusedHub}
use Rattle.hub_run.specs.Lenses.{HubRefusal, too_many_views, first_left, form_of_view}
use Rattle.hub_run.specs.PiecePrograms.{IsViewOf}
use Rattle.hub_run.specs.declared.pieces.TheConstants.{MOST_VIEWS}
use Rattle.hub_run.specs.declared.views.HubRefused.{HubRefused}
use Rattle.hub_run.proofs.FoundForms.{found_view}
use Rattle.hub_records.specs.HubLenses.{joins}
use Rattle.hub_records.proofs.FirstHubs.{may_join}
use Rattle.store_new.specs.ScriptReading.{ReadsFront}
use Rattle.program_accepted.specs.declared.program.Accepted.{Accepted}
use Rattle.store_new.proofs.Reading.{part_of, has_part, took_behind, within_behind, skipping_stops}
use Rattle.hub_add.specs.AddedView.{IsAcceptedView, added_form, view_part}
use Rattle.hub_add.specs.AddReading.{ReadsView, ReadsRefusedView}

-- ---- the lens of a program part that is accepted

if_few : (b : Bool) (o : Result FormTree HubRefusal) (form : FormTree) → cond b o (Err too_many_views) ≡ Ok form → (b ≡ true) × (o ≡ Ok form)
if_few true o form h = (refl, h)
if_few false o form h = absurd cc

module _ (forms : List FormTree) (part : List ℕ) (form : FormTree) (is : added_form forms part ≡ Ok form) where
  few : (nat_lt (length forms) MOST_VIEWS ≡ true) × (form_of_view (first_left forms) (length forms) part ≡ Ok form)
  few = if_few (nat_lt (length forms) MOST_VIEWS) (form_of_view (first_left forms) (length forms) part) form is

  found : (lens_of part ≡ Ok form) × HasLeft (first_left forms) form
  found = found_view (first_left forms) (length forms) part form few.1

  pub added_lens : lens_of part ≡ Ok form
  added_lens = found.0

  pub added_typed : is_typed form ≡ true
  added_typed = accepted_typed part form found.0

  pub added_joins : joins forms form ≡ true
  added_joins = may_join forms form found.1 (ltb-true (length forms) MOST_VIEWS few.0)

-- ---- the code's outcome

if_room : (b : Bool) (x : Result FormTree HubRefusal) → b ≡ true → cond b x (Err too_many_views) ≡ x
if_room true x e = refl
if_room false x e = cc

-- as many forms as lenses
pub forms_count : (ls : List ReadyForm) → length ls ≡ length (forms_of_lenses ls)
forms_count ls = sym (length-map ls (λ (l : ReadyForm). form_tree l.typed))

module _ (forms : List FormTree) (part : List ℕ) (n : ℕ) (count : n ≡ length forms) where
  -- there are too many views already
  pub too_many : MOST_VIEWS ≤ n → added_form forms part ≡ Err too_many_views
  too_many many = by_test (nat_lt (length forms) MOST_VIEWS) (λ e. ltb-true (length forms) MOST_VIEWS e) where
    by_test : (b : Bool) → (b ≡ true → length forms < MOST_VIEWS) → cond b (form_of_view (first_left forms) (length forms) part) (Err too_many_views) ≡ Err too_many_views
    by_test true fewer = let few = fewer refl in absurd (omega (arith, few, many, count))
    by_test false fewer = refl

  with_room : n < MOST_VIEWS → added_form forms part ≡ form_of_view (first_left forms) n part
  with_room room =
      if_room (nat_lt (length forms) MOST_VIEWS) (form_of_view (first_left forms) (length forms) part) (lt-ltb (length forms) MOST_VIEWS (omega (arith, room, count)))
      ∙ ap (λ (v : ℕ). form_of_view (first_left forms) v part) (sym count)

  -- what is found of the view, whose left type is to be that of the first of these
  pub view_found : (ty : TyTree) (r : Result Accepted HubRefused) → n < MOST_VIEWS → first_left forms ≡ Some ty
      → MatchResult r (λ a. IsViewOf (Some ty) n part (program_tree a.program) (form_tree a.lens)) (IsRefusedHub (form_of_view (Some ty) n part))
      → MatchResult r (λ a. IsAcceptedView forms part (program_tree a.program) (form_tree a.lens)) (IsRefusedHub (added_form forms part))
  view_found ty (Ok a) room first h = record { read = h.read; has_lens = with_room room ∙ ap (λ (o : Option TyTree). form_of_view o n part) first ∙ h.has_lens }
  view_found ty (Err refused) room first h =
      subst (λ o. IsRefusedHub o refused) (sym (with_room room ∙ ap (λ (o : Option TyTree). form_of_view o n part) first)) h

-- the left type of the first lens
pub first_of : (ls : List ReadyForm) (l : ReadyForm) → 0 < length ls → l ≡ get_or ls 0 l → first_left (forms_of_lenses ls) ≡ Some (left_type (form_tree l.typed))
first_of [] l some is = absurd (omega (arith, some))
first_of (k ∷ ls) l some is = ap (λ (x : ReadyForm). Some (left_type (form_tree x.typed))) (sym is)

-- ---- a script that is a program part alone

module _ {S : Type 0} (source : OfSource.Ghosts S) (s s' : S) (forms : List FormTree) (program : ProgramText) (r : ReadsAll source s s' HoldsPart program) where
  pub alone_view : (p : ProgramTree) (l : FormTree) → ((part : List ℕ) → HoldsPart program part → IsAcceptedView forms part p l) → ReadsView source s s' forms p l
  alone_view p l accepted = record { bytes = r.bytes; took = r.whole.consumes; read = r.whole.at_end; within = r.whole.within; accepted = accepted (program_part r.bytes) r.holds }

  pub alone_unread : (refused : HubRefused) → ((part : List ℕ) → HoldsPart program part → IsRefusedHub (added_form forms part) refused) → HasRefusalLine refused → ReadsRefusedView source s s' forms refused
  alone_unread refused is known = record {
    bytes = r.bytes;
    took = r.whole.consumes;
    at_most = omega (arith, r.whole.within);
    whole = inr (r.whole.no_separator, r.whole.at_end);
    is = is (program_part r.bytes) r.holds;
    known = known;
  }

-- ---- a script with a separator

module _ {S : Type 0} (source : OfSource.Ghosts S) (s mid : S) (forms : List FormTree) (program : ProgramText) (input : TakenInput) (r : ReadsPart source s mid HoldsPart program input) where
  pub part_unread : (refused : HubRefused) → ((part : List ℕ) → HoldsPart program part → IsRefusedHub (added_form forms part) refused) → HasRefusalLine refused → ReadsRefusedView source s mid forms refused
  part_unread refused is known = record {
    bytes = r.front ++ r.rest;
    took = r.taken.consumes;
    at_most = r.taken.few;
    whole = inl (has_part source s mid program input r);
    is = subst (λ part. IsRefusedHub (added_form forms part) refused) (sym (r.head.is_part r.rest)) (is r.part r.holds);
    known = known;
  }

  module _ (s' : S) (p : ProgramTree) (l : FormTree) (accepted : (part : List ℕ) → HoldsPart program part → IsAcceptedView forms part p l) where
    pub rest_view : SkipsRest input.taken (source.left mid) (source.left s') (Ok tt) → ReadsView source s s' forms p l
    rest_view skips = record {
      bytes = (r.front ++ r.rest) ++ skips.more;
      took = took_behind source s mid program input r s' skips.more skips.consumes;
      read = skips.ends.0;
      within = within_behind source s mid program input r s' skips;
      accepted = subst (λ part. IsAcceptedView forms part p l) (sym (part_of source s mid program input r skips.more)) (accepted r.part r.holds);
    }

    pub rest_unread : (fault : TakeFault) → SkipsRest input.taken (source.left mid) (source.left s') (Err fault) → ReadsFront (view_part forms) source s s' fault
    rest_unread fault skips = skipping_stops source s mid program input r s' (view_part forms) l (accepted r.part r.holds).has_lens fault skips
