-- What is remembered of a change, and why none was accepted last.
use Rattle.std.proofs.Common.{◌≡◌, [], ◌∷◌, true, Option, Some, None, Ok, refl, sym, subst}
use Rattle.std.specs.Prelude.{IfSome}
use Rattle.edit_journal.specs.EntryJson.{change_counts_fit}
use Rattle.edit_journal.specs.declared.line.Line.{Line}
use Rattle.edit_module.specs.Views.{change_tree}
use Rattle.edit_module.specs.declared.change.Change.{Change}
use Rattle.edit_session.specs.Step.{TripleTree}
use Rattle.edit_session.specs.Views.{triple_tree}
use Rattle.lens_core.specs.Translation.{translate}
use Rattle.lens_forms.specs.Forms.{FormTree, left_type, right_type}
use Rattle.edit_undo.specs.Undone.{BothTrees, undone}
use Rattle.run_answers.specs.ItemRuns.{JournalAnswer}
use Rattle.run_answers.proofs.AnswersHaveLines.{is_so}
use Rattle.embed_session.specs.Changes.{KeepsChange, IsRemembered, IsMade}
use Rattle.embed_session.specs.Steps.{outcome_of}
use Rattle.embed_session.specs.declared.outcome.Outcome.{Outcome}
use Rattle.embed_session.specs.declared.outcome.Outcome.TheVariants as outcome
use Rattle.embed_session.specs.declared.accepted.Accepted.{Accepted}
use Rattle.embed_session.proofs.ItemSteps.{fit_of_line}
use Rattle.embed_session.proofs.UndoneSteps.{change_undone}

-- ---- what is remembered

not_none : {X : Type 0} (x : X) → Some x ≡ None → ⊥
not_none x h = cc

-- a change that was found is remembered, and it is the one of the line
pub change_kept : (line : Line) (end : Outcome) (change : Change) (a : Accepted) (t : TripleTree) → KeepsChange line end (Some change) → a.change ≡ change → triple_tree a.before.triple ≡ t
    → IsRemembered t line end (Some a)
change_kept line outcome.Done change a t h same was = record { change_is = rw same h; before_is = was }
change_kept line outcome.Blank change a t h same was = absurd (not_none change h)
change_kept line (outcome.NoApply part n cause) change a t h same was = absurd (not_none change h)
change_kept line (outcome.NotAChange fault) change a t h same was = absurd (not_none change h)
change_kept line outcome.LineFeed change a t h same was = absurd (not_none change h)
change_kept line outcome.Full change a t h same was = absurd (not_none change h)
change_kept line outcome.NoChange change a t h same was = absurd (not_none change h)
change_kept line outcome.NoMemory change a t h same was = absurd (not_none change h)
change_kept line outcome.NoSession change a t h same was = absurd (not_none change h)

pub none_kept : (line : Line) (end : Outcome) (t : TripleTree) → KeepsChange line end None → IsRemembered t line end None
none_kept line outcome.Done t h = absurd h
none_kept line outcome.Blank t h = refl
none_kept line (outcome.NoApply part n cause) t h = refl
none_kept line (outcome.NotAChange fault) t h = refl
none_kept line outcome.LineFeed t h = refl
none_kept line outcome.Full t h = refl
none_kept line outcome.NoChange t h = refl
none_kept line outcome.NoMemory t h = refl
none_kept line outcome.NoSession t h = refl

-- the change of the answer that a line has is the one of the line
pub answer_keeps : (o : Option JournalAnswer) (a : JournalAnswer) (line : Line) (end : Outcome) (found : Option Change) → o ≡ Some a → IfSome o (λ (x : JournalAnswer). end ≡ outcome_of x)
    → IfSome o (λ (x : JournalAnswer). KeepsChange line (outcome_of x) found) → KeepsChange line end found
answer_keeps o a line end found e h k =
    subst (λ x. KeepsChange line x found) (sym (is_so (λ (x : JournalAnswer). end ≡ outcome_of x) o a e h)) (is_so (λ (x : JournalAnswer). KeepsChange line (outcome_of x) found) o a e k)

same_counts : (c x : Change) → change_counts_fit (change_tree c) ≡ true → Some c ≡ Some x → change_counts_fit (change_tree x) ≡ true
same_counts c x h e = let same : c ≡ x = cc in subst (λ y. change_counts_fit (change_tree y) ≡ true) same h

pub kept_counts : (line : Line) (end : Outcome) (found : Option Change) → KeepsChange line end found → (x : Change) → found ≡ Some x → change_counts_fit (change_tree x) ≡ true
kept_counts line outcome.Done (Some c) h x e = same_counts c x (fit_of_line line (change_tree c) h).0 e
kept_counts line outcome.Blank (Some c) h x e = absurd (not_none c h)
kept_counts line (outcome.NoApply part n cause) (Some c) h x e = absurd (not_none c h)
kept_counts line (outcome.NotAChange fault) (Some c) h x e = absurd (not_none c h)
kept_counts line outcome.LineFeed (Some c) h x e = absurd (not_none c h)
kept_counts line outcome.Full (Some c) h x e = absurd (not_none c h)
kept_counts line outcome.NoChange (Some c) h x e = absurd (not_none c h)
kept_counts line outcome.NoMemory (Some c) h x e = absurd (not_none c h)
kept_counts line outcome.NoSession (Some c) h x e = absurd (not_none c h)
kept_counts line end None h x e = cc

-- ---- why there is none

not_both : (x : TripleTree × BothTrees) (o : Option (TripleTree × BothTrees)) → o ≡ Some x → o ≡ None → ⊥
not_both x o h k = cc

-- the change is refused
pub not_undone : (form : FormTree) (a : Accepted)
    → undone (left_type form) (right_type form) (translate form) (triple_tree a.before.triple) (change_tree a.change ∷ []) ≡ None → IsMade form a → ⊥
not_undone form a none m =
    let k = change_undone form (triple_tree a.before.triple) m.after (change_tree a.change) m.words m.step in
    not_both (m.after, k.0) (undone (left_type form) (right_type form) (translate form) (triple_tree a.before.triple) (change_tree a.change ∷ [])) k.1 none
