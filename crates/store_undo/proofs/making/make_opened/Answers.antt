use Rattle.std.proofs.Common.{Some, sym, ap, ◌∙◌}
use Rattle.edit_undo.specs.UndoneViews.{change_trees}
use Rattle.store_undo.proofs.Makings.{accepted_of, made_of}
use Rattle.store_undo.proofs.making.make_opened.Goals as goal

pub make_texts-requires : goal.make_texts-requires
make_texts-requires c =
    let cs = change_trees c.as_slice.result.now in
    let read = sym (rw c.in-Some.is at c.in_ok-changes.ensures) in
    let last = read ∙ ap (λ x. Some (change_trees x)) (sym c.as_slice.ensures.value) in
    record { in_step = c.requires.stood.in_step; accepted = accepted_of c.args.count c.args.payloads.now c.args.twice cs c.requires.stood last }

pub returns : goal.returns
returns c =
    let cs = change_trees c.as_slice.result.now in
    let read = sym (rw c.in-Some.is at c.in_ok-changes.ensures) in
    let last = read ∙ ap (λ x. Some (change_trees x)) (sym c.as_slice.ensures.value) in
    made_of c.args.count c.args.payloads.now c.args.twice cs c.requires.stood last _ c.in_ok-version.ensures c.in_ok-texts.ensures
