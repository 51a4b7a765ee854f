use Rattle.std.proofs.Common.{map, sym, ap, ◌∙◌, arith}
use Rattle.edit_module.specs.Views.{primitive_tree, word_tree}
use Rattle.edit_module.specs.Words.{word_of, joined}
use Rattle.edit_inverse.specs.Steps.{backwards}
use Rattle.edit_inverse.proofs.Walks.{backwards-pushed, backwards-none}
use Rattle.edit_inverse.proofs.walk.last_first.Goals as goal
use Rattle.edit_module.proofs.JoinedWords.{joined_nothing}

pub words-preserved : goal.words-preserved
words-preserved c =
    let l = c.words in
    let rest = c.pop.new.self.items in
    c.in_ok-append.ensures (backwards (map word_tree rest))
    ∙ (ap (joined (word_of (map primitive_tree l.out.items))) (sym (backwards-pushed rest l.parts.items c.in-Some.part c.in-Some.ensures.items)) ∙ l.invariant)

pub returns : goal.returns
returns c =
    let l = c.words in
    let word = word_of (map primitive_tree l.out.items) in
    let none = backwards-none l.parts.items (omega (arith, c.in_default.ensures.cases.0)) in
    c.from_vec.ensures ∙ (sym (joined_nothing word) ∙ (ap (joined word) (sym none) ∙ l.invariant))
