-- The answer line of an item is that of the answer.
use Rattle.std.proofs.Common.{◌≡◌, ℕ, List, Bool, Option, None, Some, option_map, sym, ap, ap₂, ◌∙◌}
use Rattle.std.specs.Prelude.{IfSome}
use Rattle.lens_forms.specs.Forms.{FormTree}
use Rattle.run_scripts.specs.Answers as stream
use Rattle.turn_link.specs.Links.{LinkTree}
use Rattle.turn_link.specs.Views.{link_refusal}
use Rattle.run_link.specs.Items.{LinkAnswerTree, is_refused_by_link}
use Rattle.run_link.specs.Answers.{link_answer_line}
use Rattle.run_link.specs.Reading.{cause_of}
use Rattle.run_link.specs.Runs.{link_numbered}
use Rattle.run_link.specs.Views.{answer_tree, step_with, HasAnswerLine, IsSome}
use Rattle.run_link.specs.declared.answers.LinkAnswer.{LinkAnswer}
use Rattle.run_link.specs.declared.answers.LinkAnswer.TheVariants.{Told, Refused, NoEvent}

still_some : {A B : Type 0} (f : A → B) (o : Option A) → IsSome o → IsSome (option_map f o)
still_some f None some = some
still_some f (Some a) some = tt

-- an answer that has a line has a tree
has_tree : (a : LinkAnswer) → HasAnswerLine a → IsSome (answer_tree a)
has_tree (Told of) has = tt
has_tree (Refused fault) has = still_some _ (link_refusal fault) has
has_tree (NoEvent fault) has = still_some _ (cause_of fault) has

-- the answer line with whether the item was refused
abbrev answer_of : List ℕ → Bool → stream.Answer
answer_of line refused = record { line = line; refused = refused }

module _ (form form' : FormTree) (s' : LinkTree) (n : ℕ) (line : List ℕ) (refused : Bool) (taken : Option (LinkTree × LinkAnswerTree)) (same : form' ≡ form) where
  by_tree : (o : Option LinkAnswerTree) → IsSome o → taken ≡ option_map (λ tree. (s', tree)) o
      → IfSome o (λ t. line ≡ link_answer_line n t) → IfSome o (λ t. refused ≡ is_refused_by_link t)
      → option_map (link_numbered form n) taken ≡ Some ((form', s'), answer_of line refused)
  by_tree None some is line_is refused_is = absurd some
  by_tree (Some t) some is line_is refused_is =
      ap (option_map (link_numbered form n)) is
      ∙ ap (λ f. let r : Option ((FormTree × LinkTree) × stream.Answer) = Some ((f, s'), answer_of (link_answer_line n t) (is_refused_by_link t)) in r) (sym same)
      ∙ ap₂ (λ x b. let r : Option ((FormTree × LinkTree) × stream.Answer) = Some ((form', s'), answer_of x b) in r) (sym line_is) (sym refused_is)

  pub answered_line : (a : LinkAnswer) → HasAnswerLine a → taken ≡ step_with s' a
      → IfSome (answer_tree a) (λ t. line ≡ link_answer_line n t) → IfSome (answer_tree a) (λ t. refused ≡ is_refused_by_link t)
      → option_map (link_numbered form n) taken ≡ Some ((form', s'), answer_of line refused)
  answered_line a has = by_tree (answer_tree a) (has_tree a has)
