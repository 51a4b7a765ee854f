use Rattle.std.proofs.Common.{◌≡◌, ◌<◌, length, sym, ap, subst, ◌∙◌}
use Rattle.view_hub.specs.Laws.{IsHub}
use Rattle.view_hub.specs.Views.{hub_carried_tree, edit_tree, hub_tree}
use Rattle.view_hub.proofs.ActingWords.{words_act}
use Rattle.hub_undo.proofs.OneEdit.{edit_acts, edit_undone, refused_view, refused_word, some_lens}
use Rattle.hub_undo.proofs.stepping.undo_edit.Goals as goal

pub words_back-requires-clause-some : goal.words_back-requires-clause-some
words_back-requires-clause-some g c =
    subst (λ ls. 0 < length ls) (sym c.lenses.ensures.lenses) (some_lens g.L.EditLens c.step.new.self.lenses (hub_tree c.step.new.self.parts) c.step.ensures.in_step)

pub words_back-requires-clause-acted : goal.words_back-requires-clause-acted
words_back-requires-clause-acted g c =
    let of = g.L.EditLens in
    let old = c.args.hub.now in
    let new = c.step.new.self in
    let before = hub_tree c.in_ok-before.before in
    let words = hub_carried_tree c.in-Ok.carried in
    let copy : before ≡ hub_tree old.parts = c.in_ok-before.ensures ∙ ap hub_tree c.parts.ensures.parts in
    let there = subst (λ h. IsHub of old.lenses h) (sym copy) c.parts.ensures.in_step in (
      hub_tree new.parts,
      edit_acts of old.lenses c.lenses.result.now (hub_tree old.parts) before (hub_tree new.parts) (edit_tree c.args.edit.now) words
          (c.lenses.ensures.lenses ∙ c.step.ensures.lenses) copy c.in-Ok.ensures.steps (words_act of g.met.L.EditLens.consistent_is_typed) there,
    )

pub returns-in-Ok-clause-words : goal.returns-in-Ok-clause-words
returns-in-Ok-clause-words g c =
    let of = g.L.EditLens in
    let old = c.args.hub.now in
    let new = c.step.new.self in
    let before = hub_tree c.in_ok-before.before in
    let words = hub_carried_tree c.in-Ok.carried in
    let copy : before ≡ hub_tree old.parts = c.in_ok-before.ensures ∙ ap hub_tree c.parts.ensures.parts in
    let there = subst (λ h. IsHub of old.lenses h) (sym copy) c.parts.ensures.in_step in
    let lenses = c.lenses.ensures.lenses ∙ c.step.ensures.lenses in
    let acts = edit_acts of old.lenses c.lenses.result.now (hub_tree old.parts) before (hub_tree new.parts) (edit_tree c.args.edit.now) words
    lenses copy c.in-Ok.ensures.steps (words_act of g.met.L.EditLens.consistent_is_typed) there in
    edit_undone of old.lenses c.lenses.result.now (hub_tree old.parts) before (hub_tree new.parts) (edit_tree c.args.edit.now) words lenses copy c.in-Ok.ensures.steps
    (hub_carried_tree c.in_ok-words-in-Ok.words) c.in_ok-words-in-Ok.ensures.is (c.in_ok-words-in-Ok.ensures.back (hub_tree new.parts) acts)

pub returns-in-Err-NoView-clause-words : goal.returns-in-Err-NoView-clause-words
returns-in-Err-NoView-clause-words g c = refused_view _ _ _ c.in-Err-NoView.field-0-is c.in-Err-NoView.ensures.steps

pub returns-in-Err-NoApply-clause-words : goal.returns-in-Err-NoApply-clause-words
returns-in-Err-NoApply-clause-words g c = refused_word _ _ _ _ c.in-Err-NoApply.field-0-is c.in-Err-NoApply.ensures.steps
