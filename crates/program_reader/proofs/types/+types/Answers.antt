use Rattle.std.proofs.Common.{◌≡◌, ◌++◌, ◌∷◌, [], map, refl}
use Rattle.std.proofs.lemmas.Result.{err_from_is_err_and}
use Rattle.std.proofs.lemmas.List.{map_push}
use Rattle.program_terms.specs.Views.{field_tree}
use Rattle.program_grammar.specs.Reading.{list_at, typed_at, type_at}
use Rattle.program_reader.proofs.ListLoop.{begins, begins_not, goes_on, breaks, is_done, shorter}
use Rattle.program_grammar.proofs.TokensLeft.{typed_leaves, type_leaves}
use Rattle.program_reader.proofs.types.+types.Goals as goal

pub read_fields-returns-in_err-first : goal.read_fields-returns-in_err-first
read_fields-returns-in_err-first t c =
    let p = err_from_is_err_and c.from_residual.result c.from_residual.ensures.1 in
    rw (p.1, p.2) (begins_not (typed_at (type_at c.args.room)) c.args.reader.now c.in_err-first.field-0.0 c.in_err-first.ensures)

pub read_fields-fields-init : goal.read_fields-fields-init
read_fields-fields-init t c =
    let e : (map field_tree c.push.new.self.items) ≡ (field_tree c.in_ok-first.first) ∷ [] = rw c.in_ok-push.ensures.items (rw c.new-fields.ensures.items refl) in
    rw e (begins (typed_at (type_at c.args.room)) c.args.reader.now ((field_tree c.in_ok-first.first), c.read_field.new.reader) c.in_ok-first.ensures)

pub read_fields-returns-in_err-next : goal.read_fields-returns-in_err-next
read_fields-returns-in_err-next t c =
    let p = err_from_is_err_and c.from_residual-in_err-next.result c.from_residual-in_err-next.ensures.1 in
    rw (p.1, p.2) (breaks (typed_at (type_at c.args.room)) (map field_tree c.fields.fields.items) c.fields.reader c.take_comma.new.self c.in_err-next.field-0.0 (list_at (typed_at (type_at c.args.room)) c.args.reader.now) c.fields-test.ensures c.in_err-next.ensures c.fields.invariant)

pub read_fields-fields-smaller : goal.read_fields-fields-smaller
read_fields-fields-smaller t c = shorter (typed_at (type_at c.args.room)) c.fields.reader c.take_comma.new.self ((field_tree c.in_ok-next.next), c.read_field-in-fields.new.reader) (typed_leaves (type_at c.args.room) (type_leaves c.args.room)) c.fields-test.ensures c.in_ok-next.ensures

pub read_fields-fields-preserved : goal.read_fields-fields-preserved
read_fields-fields-preserved t c =
    let e : (map field_tree c.push-in-fields.new.self.items) ≡ (map field_tree c.fields.fields.items) ++ (field_tree c.in_ok-next.next) ∷ [] = rw c.in_ok-push-2.ensures.items (map_push _ c.fields.fields.items c.in_ok-next.next) in
    rw e (goes_on (typed_at (type_at c.args.room)) (map field_tree c.fields.fields.items) c.fields.reader c.take_comma.new.self ((field_tree c.in_ok-next.next), c.read_field-in-fields.new.reader) (list_at (typed_at (type_at c.args.room)) c.args.reader.now) (typed_leaves (type_at c.args.room) (type_leaves c.args.room)) c.fields-test.ensures c.in_ok-next.ensures c.fields.invariant)

pub read_fields-returns : goal.read_fields-returns
read_fields-returns t c = is_done (typed_at (type_at c.args.room)) (map field_tree c.fields.fields.items) c.fields.reader c.take_comma.new.self (list_at (typed_at (type_at c.args.room)) c.args.reader.now) c.fields-test.ensures c.fields.invariant
