-- The changes that a run accepted have a run with the accepted steps.
use Rattle.std.proofs.Common.{◌≡◌, List, [], ◌∷◌, ◌++◌, Bool, true, false, ◌||◌, cond, Option, None, Some, Ok, Err, refl, sym, ap, subst, ◌∙◌, append_assoc}
use Rattle.std.specs.Prelude.{option_map, option_to_list}
use Rattle.texts.specs.declared.side.Side.{Side}
use Rattle.doc_values.specs.Types.{TyTree}
use Rattle.edit_module.specs.Changes.{ChangeTree, one, group}
use Rattle.edit_module.specs.Words.{WordTree}
use Rattle.edit_session.specs.Run.{answered, group_answered, any_refused, is_refused, last, run, take_item}
use Rattle.edit_session.specs.Step.{TripleTree, Stepped, AllStepped, step, step_each}
use Rattle.run_answers.specs.ItemRuns.{JournalItem, JournalAnswer}
use Rattle.lens_core.specs.Complements.{CompTree}
use Rattle.lens_core.specs.Translation.{Translated}
use Rattle.store_session.specs.Journals.{accepted_change, accepted_changes}
use Rattle.law_apply.specs.OneRun.{as_items, accepted_steps}
use Rattle.law_stores.proofs.Sequences.{first_made, first_is, never_empty}

abbrev Steps : Type 0
Steps = List (TripleTree × JournalAnswer)

-- ---- a refused item leaves the triple as it was

entry_stays : (t : TripleTree) (side : Side) (o : Option Stepped) (s : TripleTree × JournalAnswer) → option_map (answered t side) o ≡ Some s → is_refused s.1 ≡ true → s.0 ≡ t
entry_stays t side None s h r = cc
entry_stays t side (Some (Ok made)) s h r = cc
entry_stays t side (Some (Err why)) s h r = cc

group_stays : (t : TripleTree) (es : List (Side × WordTree)) (o : Option AllStepped) (s : TripleTree × JournalAnswer) → option_map (group_answered t es) o ≡ Some s → is_refused s.1 ≡ true → s.0 ≡ t
group_stays t es None s h r = cc
group_stays t es (Some (Ok made)) s h r = cc
group_stays t es (Some (Err why)) s h r = cc

-- ---- the accepted change of an item

none_where_refused : (item : JournalItem) (x : JournalAnswer) → is_refused x ≡ true → accepted_change item x ≡ None
none_where_refused (Ok change) x r = rw r refl
none_where_refused (Err fault) x r = refl

change_where_accepted : (change : ChangeTree) (x : JournalAnswer) → is_refused x ≡ false → accepted_change (Ok change) x ≡ Some change
change_where_accepted change x r = rw r refl

module _ (left right : TyTree) (translation : Side → CompTree → WordTree → Option Translated) where
  refused_stays : (t : TripleTree) (item : JournalItem) (s : TripleTree × JournalAnswer) → take_item left right translation t item ≡ Some s → is_refused s.1 ≡ true → s.0 ≡ t
  refused_stays t (Ok (one e)) s h r = entry_stays t e.0 (step left right translation t e) s h r
  refused_stays t (Ok (group es)) s h r = group_stays t es (step_each left right translation t es) s h r
  refused_stays t (Err fault) s h r = cc

  -- the steps are those of a run over these changes; it refuses nothing, and comes to this triple
  pub record RunsOver (t : TripleTree) (changes : List ChangeTree) (steps : Steps) (end : TripleTree) : Type 0 where
    pub is_run : run left right translation t (as_items changes) ≡ Some steps
    pub at_last : last t steps ≡ end
    pub none_refused : any_refused steps ≡ false

  onto : (t : TripleTree) (item : JournalItem) (s : TripleTree × JournalAnswer) (changes : List ChangeTree) (steps : Steps) (end : TripleTree) → take_item left right translation t item ≡ Some s
      → (b : Bool) → is_refused s.1 ≡ b → RunsOver s.0 changes steps end → RunsOver t (option_to_list (accepted_change item s.1) ++ changes) (cond b steps (s ∷ steps)) end
  onto t item s changes steps end took true r h =
      let none : option_to_list (accepted_change item s.1) ++ changes ≡ changes = ap (λ o. option_to_list o ++ changes) (none_where_refused item s.1 r) in
      let stays : s.0 ≡ t = refused_stays t item s took r in
      subst (λ l. RunsOver t l steps end) (sym none) (subst (λ u. RunsOver u changes steps end) stays h)
  onto t (Ok change) s changes steps end took false r h =
      let some : option_to_list (accepted_change (Ok change) s.1) ++ changes ≡ change ∷ changes = ap (λ o. option_to_list o ++ changes) (change_where_accepted change s.1 r) in
      subst (λ l. RunsOver t l (s ∷ steps) end) (sym some) (record {
        is_run = first_made (λ (x : TripleTree × JournalAnswer). run left right translation x.0 (as_items changes)) (take_item left right translation t (Ok change)) s steps took h.is_run;
        at_last = h.at_last;
        none_refused = ap (λ b. b || any_refused steps) r ∙ h.none_refused;
      })
  onto t (Err fault) s changes steps end took false r h = cc

  pub runs_over : (t : TripleTree) (items : List JournalItem) (journal : Steps) → run left right translation t items ≡ Some journal
      → RunsOver t (accepted_changes items journal) (accepted_steps journal) (last t journal)
  runs_over t [] [] h = record { is_run = refl; at_last = refl; none_refused = refl }
  runs_over t [] (s ∷ journal) h = cc
  runs_over t (item ∷ items) [] h = absurd (never_empty (λ (x : TripleTree × JournalAnswer). run left right translation x.0 items) (take_item left right translation t item) h)
  runs_over t (item ∷ items) (s ∷ journal) h =
      let is = first_is (λ (x : TripleTree × JournalAnswer). run left right translation x.0 items) (take_item left right translation t item) s journal h in
      onto t item s (accepted_changes items journal) (accepted_steps journal) (last s.0 journal) is.0 (is_refused s.1) refl (runs_over s.0 items journal is.1)

  -- ---- runs that follow each other

  pub joined : (t : TripleTree) (items more : List JournalItem) (journal others : Steps) → run left right translation t items ≡ Some journal
      → run left right translation (last t journal) more ≡ Some others → run left right translation t (items ++ more) ≡ Some (journal ++ others)
  joined t [] more [] others h k = k
  joined t [] more (s ∷ journal) others h k = cc
  joined t (item ∷ items) more [] others h k = absurd (never_empty (λ (x : TripleTree × JournalAnswer). run left right translation x.0 items) (take_item left right translation t item) h)
  joined t (item ∷ items) more (s ∷ journal) others h k =
      let is = first_is (λ (x : TripleTree × JournalAnswer). run left right translation x.0 items) (take_item left right translation t item) s journal h in
      first_made (λ (x : TripleTree × JournalAnswer). run left right translation x.0 (items ++ more)) (take_item left right translation t item) s (journal ++ others) is.0
      (joined s.0 items more journal others is.1 k)

  -- the changes that both accept
  pub accepted_joined : (t : TripleTree) (items more : List JournalItem) (journal others : Steps) → run left right translation t items ≡ Some journal
      → accepted_changes (items ++ more) (journal ++ others) ≡ accepted_changes items journal ++ accepted_changes more others
  accepted_joined t [] more [] others h = refl
  accepted_joined t [] more (s ∷ journal) others h = cc
  accepted_joined t (item ∷ items) more [] others h = absurd (never_empty (λ (x : TripleTree × JournalAnswer). run left right translation x.0 items) (take_item left right translation t item) h)
  accepted_joined t (item ∷ items) more (s ∷ journal) others h =
      let is = first_is (λ (x : TripleTree × JournalAnswer). run left right translation x.0 items) (take_item left right translation t item) s journal h in
      let first = option_to_list (accepted_change item s.1) in
      ap (λ l. first ++ l) (accepted_joined s.0 items more journal others is.1) ∙ sym (append_assoc first (accepted_changes items journal) (accepted_changes more others))

-- the steps that were accepted in both
pub steps_joined : (journal others : Steps) → accepted_steps (journal ++ others) ≡ accepted_steps journal ++ accepted_steps others
steps_joined [] others = refl
steps_joined (s ∷ journal) others = by_answer (is_refused s.1) (steps_joined journal others) where
  by_answer : (b : Bool) → accepted_steps (journal ++ others) ≡ accepted_steps journal ++ accepted_steps others
      → cond b (accepted_steps (journal ++ others)) (s ∷ accepted_steps (journal ++ others)) ≡ cond b (accepted_steps journal) (s ∷ accepted_steps journal) ++ accepted_steps others
  by_answer true h = h
  by_answer false h = ap (λ l. s ∷ l) h

pub last_joined : (t : TripleTree) (journal others : Steps) → last t (journal ++ others) ≡ last (last t journal) others
last_joined t [] others = refl
last_joined t (s ∷ journal) others = last_joined s.0 journal others
