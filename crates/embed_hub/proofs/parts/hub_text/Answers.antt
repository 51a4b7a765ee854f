use Rattle.std.proofs.Common.{◌≡◌, ◌<◌, List, length, get_or, sym, subst}
use Rattle.lens_flat.specs.declared.flat.ReadyForm.{ReadyForm}
use Rattle.view_hub.specs.Views.{hub_tree}
use Rattle.hub_run.proofs.StateLines.{first_has, some_lens}
use Rattle.embed_hub.proofs.parts.hub_text.Goals as goal

pub bounds-lenses-0 : goal.bounds-lenses-0
bounds-lenses-0 c =
    let h = c.args.hub.now in
    subst (λ (ls : List ReadyForm). 0 < length ls) (sym c.lenses.ensures.lenses) (some_lens h.lenses (hub_tree h.parts) c.hub-document.ensures.in_step)

pub document_text-requires-clause-typed : goal.document_text-requires-clause-typed
document_text-requires-clause-typed c =
    let h = c.args.hub.now in
    let l = c.index-lenses-0.result in
    let is = subst (λ (ls : List ReadyForm). l ≡ get_or ls 0 l) c.lenses.ensures.lenses c.index-lenses-0.is in
    rw (c.left.ensures.left, c.hub-document.ensures.hub, c.typed.ensures) (first_has h.lenses (hub_tree h.parts) l c.hub-document.ensures.in_step is)
