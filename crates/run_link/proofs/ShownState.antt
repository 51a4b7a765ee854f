-- What the two sites of a link show is what the link has for them, and the left site's complement fits.
use Rattle.std.proofs.Common.{◌≡◌, ℕ, ◌≤◌, List, length, Option, Some, option_map, Bool, true, false, refl, sym, ap, ap₂, subst, ◌∙◌, arith}
use Rattle.std.specs.Prelude.{nat_le, option_and_then}
use Rattle.texts.specs.declared.side.Side.{Side}
use Rattle.doc_values.specs.Documents.{DocTree}
use Rattle.doc_values.specs.Types.{TyTree}
use Rattle.edit_module.specs.Words.{WordTree}
use Rattle.lens_forms.specs.Forms.{FormTree, left_type, right_type}
use Rattle.lens_core.specs.Complements.{CompTree, missing, Fits}
use Rattle.lens_core.specs.LensOf.{IsLensOf}
use Rattle.lens_core.specs.Translation.{Translated, translate}
use Rattle.edit_session.specs.Step.{TripleTree, IsInStep}
use Rattle.value_json.proofs.Facts.{map_some}
use Rattle.run_answers.proofs.InStep.{in_step_fits}
use Rattle.turn_link.specs.Sites.{LeftTree, RightTree}
use Rattle.turn_link.specs.Links.{LinkTree, triple_at, left_site_of, right_site_of}
use Rattle.turn_link.specs.Laws.{IsLinked, AreSites}
use Rattle.turn_link.proofs.Numbers.{at_most}
use Rattle.run_link.specs.Answers.{shown_lines, link_state_lines}
use Rattle.std.proofs.lemmas.Bool.{leb-true}

module _ (holds : DocTree → CompTree → DocTree → Type 0) (left : TyTree) (right : TyTree) (start : CompTree) (carried : Side → CompTree → WordTree → Option Translated) where
  -- a triple at a number that a site may have is in step
  in_step_at : (s : LinkTree) (k : IsLinked holds left right start carried s) (n : ℕ) → n ≤ length s.made
      → (t : TripleTree) × (triple_at left right start carried s.made n ≡ Some t) × IsInStep holds t
  in_step_at s k n within = by_test (nat_le (length s.made) n) refl where
    by_test : (b : Bool) → nat_le (length s.made) n ≡ b → (t : TripleTree) × (triple_at left right start carried s.made n ≡ Some t) × IsInStep holds t
    by_test true h =
        let least = leb-true (length s.made) n h in
        let same : length s.made ≡ n = omega (arith, least, within) in
        (k.present.triple, ap (triple_at left right start carried s.made) (sym same) ∙ k.present.at_length, k.present.in_step)
    by_test false h =
        let m = k.moments n (at_most (length s.made) n h) in
        (m.before, m.at_before, m.in_step)

  -- the triples that a link has for its two sites
  pub record Shows (s : LinkTree) (l : LeftTree) (r : RightTree) : Type 0 where
    pub near : TripleTree
    pub far : TripleTree
    pub near_at : triple_at left right start carried s.made s.left_number ≡ Some near
    pub far_at : triple_at left right start carried s.made s.right_number ≡ Some far
    pub doc_is : near.left ≡ l.doc
    pub comp_is : near.comp ≡ l.comp
    pub right_is : far.right ≡ r.doc
    pub in_step : IsInStep holds near

  pub shows : (s : LinkTree) (l : LeftTree) (r : RightTree) → AreSites holds left right start carried s l r → Shows s l r
  shows s l r a =
      let x = map_some (left_site_of left right start carried s) (triple_at left right start carried s.made s.left_number) l a.left_is in
      let y = map_some (right_site_of left right start carried s) (triple_at left right start carried s.made s.right_number) r a.right_is in
      let turns = a.linked.turns in
      let within : s.left_number ≤ length s.made = omega (arith, turns.all_made, turns.left_near, turns.right_near) in
      let i = in_step_at s a.linked s.left_number within in
      let one : Some i.0 ≡ Some x.0 = sym i.1 ∙ x.1 in
      let same : i.0 ≡ x.0 = cc in
      record {
        near = x.0;
        far = y.0;
        near_at = x.1;
        far_at = y.1;
        doc_is = ap (λ (q : LeftTree). q.doc) x.2;
        comp_is = ap (λ (q : LeftTree). q.comp) x.2;
        right_is = ap (λ (q : RightTree). q.doc) y.2;
        in_step = subst (IsInStep holds) same i.2;
      }

  module _ (form : FormTree) (of_form : IsLensOf left right start holds carried form) where
    -- the triples of the lens are those of the form
    triples_are : (made : List (Side × WordTree)) (k : ℕ)
        → triple_at (left_type form) (right_type form) (missing form) (translate form) made k ≡ triple_at left right start carried made k
    triples_are made k = sym (
        ap (λ a. triple_at a right start carried made k) of_form.left_is
        ∙ ap (λ b. triple_at (left_type form) b start carried made k) of_form.right_is
        ∙ ap (λ c. triple_at (left_type form) (right_type form) c carried made k) of_form.starts
        ∙ ap (λ f. triple_at (left_type form) (right_type form) (missing form) f made k) of_form.translates)

    pub shown_text : (s : LinkTree) (l : LeftTree) (r : RightTree) → AreSites holds left right start carried s l r
        → link_state_lines form s ≡ Some (shown_lines form l.doc r.doc l.comp s.left_number s.right_number)
    shown_text s l r a =
        let h = shows s l r a in
        ap₂ (λ o p. option_and_then (λ (t : TripleTree). option_map (λ (u : TripleTree). shown_lines form t.left u.right t.comp s.left_number s.right_number) p) o)
        (triples_are s.made s.left_number ∙ h.near_at) (triples_are s.made s.right_number ∙ h.far_at)
        ∙ ap (λ x. Some (shown_lines form x h.far.right h.near.comp s.left_number s.right_number)) h.doc_is
        ∙ ap (λ y. Some (shown_lines form l.doc y h.near.comp s.left_number s.right_number)) h.right_is
        ∙ ap (λ c. Some (shown_lines form l.doc r.doc c s.left_number s.right_number)) h.comp_is

    -- the complement that the left site shows fits the form
    pub shown_fits : (s : LinkTree) (l : LeftTree) (r : RightTree) → AreSites holds left right start carried s l r → Fits form l.comp
    shown_fits s l r a =
        let h = shows s l r a in
        subst (Fits form) h.comp_is (in_step_fits form h.near ((of_form.relates h.near.left h.near.comp h.near.right).0 h.in_step))
