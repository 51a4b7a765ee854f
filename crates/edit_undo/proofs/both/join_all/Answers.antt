use Rattle.std.proofs.Common.{map, sym, ap, ◌∙◌, arith}
use Rattle.edit_module.specs.Views.{primitive_tree}
use Rattle.edit_module.specs.Words.{word_of, joined}
use Rattle.edit_undo.specs.Stepping.{joined_all}
use Rattle.edit_undo.specs.Undone.{BothTrees}
use Rattle.edit_undo.specs.UndoneViews.{both_trees}
use Rattle.edit_undo.proofs.Parts.{same_both, all_pushed, all_none}
use Rattle.edit_undo.proofs.both.join_all.Goals as goal
use Rattle.edit_module.proofs.JoinedWords.{joined_nothing}

pub words-preserved : goal.words-preserved
words-preserved c =
    let l = c.words in
    let rest = c.pop.new.self.items in
    let all = joined_all (both_trees rest) in
    let e = all_pushed rest l.parts.items c.in-Some.part c.in-Some.ensures.items in
    record {
      left_words = c.in_ok-append.ensures all.left ∙ (ap (joined (word_of (map primitive_tree l.left.items))) (sym (ap (λ (b : BothTrees). b.left) e)) ∙ l.invariant.left_words);
      right_words = c.in_ok-append-2.ensures all.right ∙ (ap (joined (word_of (map primitive_tree l.right.items))) (sym (ap (λ (b : BothTrees). b.right) e)) ∙ l.invariant.right_words);
    }

pub returns : goal.returns
returns c =
    let l = c.words in
    let left = word_of (map primitive_tree l.left.items) in
    let right = word_of (map primitive_tree l.right.items) in
    let none = all_none l.parts.items (omega (arith, c.in_default.ensures.cases.0)) in
    same_both _ _ _ _
    (c.from_vec.ensures ∙ (sym (joined_nothing left) ∙ (ap (joined left) (sym (ap (λ (b : BothTrees). b.left) none)) ∙ l.invariant.left_words)))
    (c.from_vec-2.ensures ∙ (sym (joined_nothing right) ∙ (ap (joined right) (sym (ap (λ (b : BothTrees). b.right) none)) ∙ l.invariant.right_words)))
