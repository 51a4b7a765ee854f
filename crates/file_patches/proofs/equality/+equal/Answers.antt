use Rattle.std.proofs.Common.{◌≡◌, ◌≤◌, length, sym, ◌∙◌, subst, IfOk, arith}
use Rattle.file_patches.proofs.EqualParts.{items_ended, arrays_differ, arrays_same, objects_differ, objects_same}
use Rattle.file_patches.proofs.equality.+equal.Goals as goal

pub are_items_equal-returns-then-i-len : goal.are_items_equal-returns-then-i-len
are_items_equal-returns-then-i-len t c =
    let us = c.args.others.now in
    let past : length us.items ≤ c.loop-i.i = omega (arith, c.if-i-len.true, c.len.ensures, us.ok.0) in
    sym (items_ended c.args.items.now.items us.items c.loop-i.i past) ∙ c.loop-i.invariant

pub is_equal-returns-then-len : goal.is_equal-returns-then-len
is_equal-returns-then-len t c =
    let p = c.in-Array-Array in
    arrays_differ c.args.one.now c.args.other.now p.items p.others p.is-0 p.is-1 (λ same. c.if-len.true (omega (arith, same, c.len.ensures, c.len-in-Array-Array.ensures, p.items.ok.0, p.others.ok.0)))

pub is_equal-returns-then-len-2 : goal.is_equal-returns-then-len-2
is_equal-returns-then-len-2 t c =
    let p = c.in-Object-Object in
    objects_differ c.args.one.now c.args.other.now p.members p.others p.is-0 p.is-1 (λ same. c.if-len-2.true (omega (arith, same, c.len-in-Object-Object.ensures, c.len-in-Object-Object-2.ensures, p.members.ok.0, p.others.ok.0)))

pub is_equal-returns-else-len : goal.is_equal-returns-else-len
is_equal-returns-else-len t c =
    let p = c.in-Array-Array in
    let same : length p.items.items ≡ length p.others.items = omega (arith, c.if-len.false, c.len.ensures, c.len-in-Array-Array.ensures, p.items.ok.0, p.others.ok.0) in
    subst (λ b. IfOk c.are_items_equal.result (λ r. r ≡ b)) (arrays_same c.args.one.now c.args.other.now p.items p.others p.is-0 p.is-1 same) c.are_items_equal.ensures

pub is_equal-returns-else-len-2 : goal.is_equal-returns-else-len-2
is_equal-returns-else-len-2 t c =
    let p = c.in-Object-Object in
    let same : length p.members.items ≡ length p.others.items = omega (arith, c.if-len-2.false, c.len-in-Object-Object.ensures, c.len-in-Object-Object-2.ensures, p.members.ok.0, p.others.ok.0) in
    subst (λ b. IfOk c.are_members_equal.result (λ r. r ≡ b)) (objects_same c.args.one.now c.args.other.now p.members p.others p.is-0 p.is-1 same) c.are_members_equal.ensures
