use Rattle.std.proofs.Common.{Some, length, sym, ap, ◌∙◌, arith, lit<}
use Rattle.std.specs.List.{slice_split}
use Rattle.std.proofs.lemmas.Iterator.Splits.{YieldsList-from_str_split}
use Rattle.std.proofs.lemmas.Iterator.Consumers.{YieldsList-turn, YieldsList-end}
use Rattle.std.proofs.lemmas.List.{length_push}
use Rattle.file_patches.specs.Pointers.{is_slash}
use Rattle.file_patches.proofs.PointerParts.{next_part, part_refused, parts_done}
use Rattle.file_patches.proofs.pointers.read_parts.Goals as goal

pub returns-in_default : goal.returns-in_default
returns-in_default c =
    let l = c.loop-part in
    let t = YieldsList-turn (YieldsList-from_str_split 47 c.args.text.now (lit< tt) (cc) (cc) (cc)) l.yielded _ l.yielded_by _ _ c.in-Some.part c.in-Some.is c.next.ensures.steps in
    let u = sym c.in_ok-name.ensures ∙ c.in_default.is in
    sym (part_refused l.parts.items (slice_split is_slash c.args.text.now) (length l.yielded) c.in-Some.part.now t.0 t.1 u) ∙ l.invariant

pub loop-part-preserved : goal.loop-part-preserved
loop-part-preserved c =
    let l = c.loop-part in
    let t = YieldsList-turn (YieldsList-from_str_split 47 c.args.text.now (lit< tt) (cc) (cc) (cc)) l.yielded _ l.yielded_by _ _ c.in-Some.part c.in-Some.is c.next.ensures.steps in
    let u = sym c.in_ok-name.ensures ∙ c.in-Some-2.is in
    rw (length_push l.yielded c.in-Some.part, c.in_ok-push.ensures.items)
    (sym (next_part l.parts.items (slice_split is_slash c.args.text.now) (length l.yielded) c.in-Some.part.now c.in-Some-2.name t.0 t.1 u) ∙ l.invariant)

pub returns : goal.returns
returns c =
    let l = c.loop-part in
    let t = YieldsList-end (YieldsList-from_str_split 47 c.args.text.now (lit< tt) (cc) (cc) (cc)) l.yielded _ l.yielded_by _ _ c.in-None.is c.next.ensures.steps in
    ap Some c.from_vec.ensures ∙ sym (parts_done l.parts.items (slice_split is_slash c.args.text.now) (length l.yielded) (omega (arith, t.1))) ∙ l.invariant
