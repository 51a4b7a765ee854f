use Rattle.std.proofs.Common.{◌≡◌, ◌<◌, ◌≤◌, true, length, Ok, sym, ap, subst, ◌∙◌, arith}
use Rattle.doc_values.specs.Documents.{doc_tree}
use Rattle.doc_values.specs.Types.{TyTree, ty_tree, is_well_formed}
use Rattle.doc_values.specs.Typing.{has}
use Rattle.edit_inverse.specs.Inverse.{inverse}
use Rattle.edit_inverse.specs.Laws.{TakesBack}
use Rattle.edit_module.specs.Action.{act}
use Rattle.edit_module.specs.Views.{word_tree, word_trees}
use Rattle.hub_undo.proofs.OneEdit.{acts_at, back_end, so_far_first, so_far_next, words_end}
use Rattle.view_hub.specs.Views.{view_trees}
use Rattle.view_hub.specs.declared.view.View.{View}
use Rattle.hub_undo.specs.HubUndone.{BringViewsBack}
use Rattle.hub_undo.proofs.stepping.views_back.Goals as goal

pub loop-at-init : goal.loop-at-init
loop-at-init g c = so_far_first g.L.EditLens c.args.lenses.now c.args.views.now c.args.carried.now c.in_ok-words.words.items c.in_ok-words.ensures.items

pub word_back-requires-clause-well_formed : goal.word_back-requires-clause-well_formed
word_back-requires-clause-well_formed g c =
    subst (λ (t : TyTree). is_well_formed t ≡ true) (sym c.ty-ty.ensures) (g.met.L.EditLens.types_are_well_formed c.index-lenses-at.result).1

pub word_back-requires-clause-typed : goal.word_back-requires-clause-typed
word_back-requires-clause-typed g c =
    let l = c.loop-at in
    let doc = doc_tree c.index-views-at.result.doc.value in
    let within : l.at < length c.args.carried.now = omega (arith, c.loop-at-test.true) in
    let here = acts_at g.L.EditLens c.args.lenses.now c.args.views.now c.args.carried.now l.at c.index-lenses-at.result c.index-views-at.result c.index-carried-at.result
    c.requires.lenses c.requires.views within c.index-lenses-at.is c.index-views-at.is c.index-carried-at.is l.words.items c.requires.acted.0 c.requires.acted.1 l.invariant in
    subst (λ (v : View). has (ty_tree c.ty-ty.result.now) (doc_tree v.doc.value) ≡ true) c.index-views-at.is
    (subst (λ (t : TyTree). has t doc ≡ true) (sym c.ty-ty.ensures) here.typed)

pub word_back-requires-clause-acts : goal.word_back-requires-clause-acts
word_back-requires-clause-acts g c =
    let l = c.loop-at in
    let word = word_tree c.index-carried-at.result in
    let doc = doc_tree c.index-views-at.result.doc.value in
    let within : l.at < length c.args.carried.now = omega (arith, c.loop-at-test.true) in
    let here = acts_at g.L.EditLens c.args.lenses.now c.args.views.now c.args.carried.now l.at c.index-lenses-at.result c.index-views-at.result c.index-carried-at.result
    c.requires.lenses c.requires.views within c.index-lenses-at.is c.index-views-at.is c.index-carried-at.is l.words.items c.requires.acted.0 c.requires.acted.1 l.invariant in
    let acts = subst (λ (t : TyTree). act t word doc ≡ Ok here.after) (sym c.ty-ty.ensures) here.acts in
    (here.after, subst (λ (v : View). act (ty_tree c.ty-ty.result.now) word (doc_tree v.doc.value) ≡ Ok here.after) c.index-views-at.is acts)

pub loop-at-preserved : goal.loop-at-preserved
loop-at-preserved g c =
    let l = c.loop-at in
    let of = g.L.EditLens in
    let lens = c.index-lenses-at.result in
    let word = word_tree c.index-carried-at.result in
    let doc = doc_tree c.index-views-at.result.doc.value in
    let back = word_tree c.in_ok-back.back in
    let within : l.at < length c.args.carried.now = omega (arith, c.loop-at-test.true) in
    so_far_next of c.args.lenses.now c.args.views.now c.args.carried.now l.at lens c.index-views-at.result c.index-carried-at.result
    c.requires.lenses c.requires.views within c.index-lenses-at.is c.index-views-at.is c.index-carried-at.is l.words.items c.push.new.self.items c.in_ok-back.back
    (subst (λ (t : TyTree). back ≡ inverse t word doc) c.ty-ty.ensures (rw (sym c.index-views-at.is) at c.in_ok-back.ensures.is))
    (subst (λ (t : TyTree). TakesBack t back (act t word doc) doc) c.ty-ty.ensures (rw (sym c.index-views-at.is) at c.in_ok-back.ensures.takes_back)) c.in_ok-push.ensures.items l.invariant

pub returns-clause-is : goal.returns-clause-is
returns-clause-is g c =
    let l = c.loop-at in
    let past : length c.args.carried.now ≤ l.at = omega (arith, c.loop-at-test.false) in
    ap word_trees c.from_vec.ensures ∙ words_end g.L.EditLens c.args.lenses.now c.args.views.now c.args.carried.now l.at l.words.items c.requires.lenses c.requires.views past l.invariant

pub returns-clause-back : goal.returns-clause-back
returns-clause-back g c =
    let l = c.loop-at in
    let past : length c.args.carried.now ≤ l.at = omega (arith, c.loop-at-test.false) in
    λ us acts.
    subst (λ ws. BringViewsBack g.L.EditLens c.args.lenses.now (word_trees ws) us (view_trees c.args.views.now)) (sym c.from_vec.ensures)
    (back_end g.L.EditLens c.args.lenses.now c.args.views.now c.args.carried.now l.at l.words.items c.requires.lenses c.requires.views past l.invariant us acts)
