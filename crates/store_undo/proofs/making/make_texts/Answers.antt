use Rattle.std.proofs.Common.{sym, ap, subst, ◌∙◌}
use Rattle.edit_session.specs.Step.{TripleTree}
use Rattle.edit_session.specs.Views.{triple_tree}
use Rattle.lens_forms.specs.Forms.{FormTree, form_tree, left_type, right_type}
use Rattle.store_undo.specs.Making.{AreTexts, UndoneBy}
use Rattle.edit_undo.specs.Undone.{BothTrees, BringsBack}
use Rattle.edit_undo.specs.UndoneViews.{both_tree, change_trees}
use Rattle.store_undo.proofs.making.make_texts.Goals as goal

pub words_of-requires : goal.words_of-requires
words_of-requires c =
    let cs = change_trees c.args.changes.now in
    let r = c.requires.accepted.0 in
    let form_is = ap (λ x. form_tree x.typed) c.replace.ensures.lens in
    let triple_is = ap triple_tree c.replace.ensures.triple in
    let at_triple = subst (λ (t : TripleTree). UndoneBy (form_tree c.args.twice.opened.session.lens.typed) t cs r) (sym triple_is) c.requires.accepted.1 in
    record { accepted = (r, subst (λ (l : FormTree). UndoneBy l (triple_tree c.replace.new.self.triple) cs r) (sym form_is) at_triple) }

pub returns : goal.returns
returns c =
    let twice = c.args.twice in
    let l = form_tree twice.opened.session.lens.typed in
    let t = triple_tree twice.earlier in
    let cs = change_trees c.args.changes.now in
    let words = both_tree c.in_ok-words.words in
    let made = c.in_ok-texts.texts in
    let form_first = ap (λ x. form_tree x.typed) c.replace.ensures.lens in
    let triple_first = ap triple_tree c.replace.ensures.triple in
    let form_is = ap (λ x. form_tree x.typed) c.in_ok-words.ensures.lens ∙ form_first in
    let triple_is = c.in_ok-words.ensures.triple ∙ triple_first in
    λ r k.
    let at_triple = subst (λ (x : TripleTree). UndoneBy l x cs r) (sym triple_first) k in
    let here = c.in_ok-words.ensures.words r (subst (λ (x : FormTree). UndoneBy x (triple_tree c.replace.new.self.triple) cs r) (sym form_first) at_triple) in
    let texts_form = subst (λ (x : FormTree). AreTexts x (triple_tree c.words_of.new.session.triple) words made) form_is c.in_ok-texts.ensures in
    let texts_triple = subst (λ (x : TripleTree). AreTexts l x words made) triple_is texts_form in
    let back_form = subst (λ (x : FormTree). BringsBack (left_type x) (right_type x) r.1 r.0 (triple_tree c.replace.new.self.triple)) form_first here.1 in
    (subst (λ (x : BothTrees). AreTexts l t x made) here.0 texts_triple, subst (λ (x : TripleTree). BringsBack (left_type l) (right_type l) r.1 r.0 x) triple_first back_form)
