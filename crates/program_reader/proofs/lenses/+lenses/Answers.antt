use Rattle.std.proofs.Common.{◌≡◌, ◌++◌, ◌∷◌, [], map, refl}
use Rattle.std.proofs.lemmas.Result.{err_from_is_err_and}
use Rattle.std.proofs.lemmas.List.{map_push}
use Rattle.program_terms.specs.Views.{row_tree, arm_tree}
use Rattle.program_grammar.specs.Reading.{list_at, type_at, lens_at, row_at, arm_at}
use Rattle.program_reader.proofs.ListLoop.{begins, begins_not, goes_on, breaks, is_done, shorter}
use Rattle.program_grammar.proofs.TokensLeft.{type_leaves, lens_leaves, row_leaves, arm_leaves}
use Rattle.program_reader.proofs.lenses.+lenses.Goals as goal

pub read_rows-returns-in_err-first : goal.read_rows-returns-in_err-first
read_rows-returns-in_err-first t c =
    let p = err_from_is_err_and c.from_residual.result c.from_residual.ensures.1 in
    rw (p.1, p.2) (begins_not (row_at (type_at c.args.room) (lens_at c.args.room)) c.args.reader.now c.in_err-first.field-0.0 c.in_err-first.ensures)

pub read_rows-rows-init : goal.read_rows-rows-init
read_rows-rows-init t c =
    let e : (map row_tree c.push.new.self.items) ≡ (row_tree c.in_ok-first.first) ∷ [] = rw c.in_ok-push.ensures.items (rw c.new-rows.ensures.items refl) in
    rw e (begins (row_at (type_at c.args.room) (lens_at c.args.room)) c.args.reader.now ((row_tree c.in_ok-first.first), c.read_row.new.reader) c.in_ok-first.ensures)

pub read_rows-returns-in_err-next : goal.read_rows-returns-in_err-next
read_rows-returns-in_err-next t c =
    let p = err_from_is_err_and c.from_residual-in_err-next.result c.from_residual-in_err-next.ensures.1 in
    rw (p.1, p.2) (breaks (row_at (type_at c.args.room) (lens_at c.args.room)) (map row_tree c.rows.rows.items) c.rows.reader c.take_comma.new.self c.in_err-next.field-0.0 (list_at (row_at (type_at c.args.room) (lens_at c.args.room)) c.args.reader.now) c.rows-test.ensures c.in_err-next.ensures c.rows.invariant)

pub read_rows-rows-smaller : goal.read_rows-rows-smaller
read_rows-rows-smaller t c = shorter (row_at (type_at c.args.room) (lens_at c.args.room)) c.rows.reader c.take_comma.new.self ((row_tree c.in_ok-next.next), c.read_row-in-rows.new.reader) (row_leaves (type_at c.args.room) (lens_at c.args.room) (type_leaves c.args.room) (lens_leaves c.args.room)) c.rows-test.ensures c.in_ok-next.ensures

pub read_rows-rows-preserved : goal.read_rows-rows-preserved
read_rows-rows-preserved t c =
    let e : (map row_tree c.push-in-rows.new.self.items) ≡ (map row_tree c.rows.rows.items) ++ (row_tree c.in_ok-next.next) ∷ [] = rw c.in_ok-push-2.ensures.items (map_push _ c.rows.rows.items c.in_ok-next.next) in
    rw e (goes_on (row_at (type_at c.args.room) (lens_at c.args.room)) (map row_tree c.rows.rows.items) c.rows.reader c.take_comma.new.self ((row_tree c.in_ok-next.next), c.read_row-in-rows.new.reader) (list_at (row_at (type_at c.args.room) (lens_at c.args.room)) c.args.reader.now) (row_leaves (type_at c.args.room) (lens_at c.args.room) (type_leaves c.args.room) (lens_leaves c.args.room)) c.rows-test.ensures c.in_ok-next.ensures c.rows.invariant)

pub read_rows-returns : goal.read_rows-returns
read_rows-returns t c = is_done (row_at (type_at c.args.room) (lens_at c.args.room)) (map row_tree c.rows.rows.items) c.rows.reader c.take_comma.new.self (list_at (row_at (type_at c.args.room) (lens_at c.args.room)) c.args.reader.now) c.rows-test.ensures c.rows.invariant

pub read_arms-returns-in_err-first : goal.read_arms-returns-in_err-first
read_arms-returns-in_err-first t c =
    let p = err_from_is_err_and c.from_residual.result c.from_residual.ensures.1 in
    rw (p.1, p.2) (begins_not (arm_at (lens_at c.args.room)) c.args.reader.now c.in_err-first.field-0.0 c.in_err-first.ensures)

pub read_arms-arms-init : goal.read_arms-arms-init
read_arms-arms-init t c =
    let e : (map arm_tree c.push.new.self.items) ≡ (arm_tree c.in_ok-first.first) ∷ [] = rw c.in_ok-push.ensures.items (rw c.new-arms.ensures.items refl) in
    rw e (begins (arm_at (lens_at c.args.room)) c.args.reader.now ((arm_tree c.in_ok-first.first), c.read_arm.new.reader) c.in_ok-first.ensures)

pub read_arms-returns-in_err-next : goal.read_arms-returns-in_err-next
read_arms-returns-in_err-next t c =
    let p = err_from_is_err_and c.from_residual-in_err-next.result c.from_residual-in_err-next.ensures.1 in
    rw (p.1, p.2) (breaks (arm_at (lens_at c.args.room)) (map arm_tree c.arms.arms.items) c.arms.reader c.take_comma.new.self c.in_err-next.field-0.0 (list_at (arm_at (lens_at c.args.room)) c.args.reader.now) c.arms-test.ensures c.in_err-next.ensures c.arms.invariant)

pub read_arms-arms-smaller : goal.read_arms-arms-smaller
read_arms-arms-smaller t c = shorter (arm_at (lens_at c.args.room)) c.arms.reader c.take_comma.new.self ((arm_tree c.in_ok-next.next), c.read_arm-in-arms.new.reader) (arm_leaves (lens_at c.args.room) (lens_leaves c.args.room)) c.arms-test.ensures c.in_ok-next.ensures

pub read_arms-arms-preserved : goal.read_arms-arms-preserved
read_arms-arms-preserved t c =
    let e : (map arm_tree c.push-in-arms.new.self.items) ≡ (map arm_tree c.arms.arms.items) ++ (arm_tree c.in_ok-next.next) ∷ [] = rw c.in_ok-push-2.ensures.items (map_push _ c.arms.arms.items c.in_ok-next.next) in
    rw e (goes_on (arm_at (lens_at c.args.room)) (map arm_tree c.arms.arms.items) c.arms.reader c.take_comma.new.self ((arm_tree c.in_ok-next.next), c.read_arm-in-arms.new.reader) (list_at (arm_at (lens_at c.args.room)) c.args.reader.now) (arm_leaves (lens_at c.args.room) (lens_leaves c.args.room)) c.arms-test.ensures c.in_ok-next.ensures c.arms.invariant)

pub read_arms-returns : goal.read_arms-returns
read_arms-returns t c = is_done (arm_at (lens_at c.args.room)) (map arm_tree c.arms.arms.items) c.arms.reader c.take_comma.new.self (list_at (arm_at (lens_at c.args.room)) c.args.reader.now) c.arms-test.ensures c.arms.invariant
