use Rattle.std.proofs.Common.{◌-◌, Some, refl, ap, sym, ◌∙◌, arith, rules, length, map}
use Rattle.std.proofs.lemmas.List.{map-append}
use Rattle.serde_json.specs.Find.{as_str}
use Rattle.edit_module.specs.Views.{primitive_tree, word_tree}
use Rattle.edit_module.specs.Words.{at, stay, switch, modify}
use Rattle.edit_module.specs.declared.word.Primitive.{the_lemmas}
use Rattle.json_tokens.specs.TreesAt.{read_at, read_items_at}
use Rattle.json_tokens.proofs.ReadParts.{read_shorter, two_read, three_read}
use Rattle.edit_json.specs.Values.{data_place}
use Rattle.edit_json.specs.WordJson.{primitive_of, content_of, word_of_tree, word_of_items}
use Rattle.edit_json.specs.declared.kind.Kind.TheVariants.{At, Stay, Switch, Mod}
use Rattle.edit_tokens.proofs.ReadingTokens.{if_some}
use Rattle.edit_tokens.proofs.ReadingWords.{word_read, primitive_read, onto_word, next_primitive, primitives_end, at_content, stay_content, switch_content, mod_content}
use Rattle.edit_tokens.proofs.word_tokens.+take.Goals as goal

pub take_word-returns : goal.take_word-returns
take_word-returns t c =
    if_some c.take_primitives.result
    (λ word e. ap (read_at word_of_tree c.args.depth) (c.if-not-opens_array.ensures refl) ∙ word_read c.args.depth c.opens_array.new.reader c.take_primitives.new.reader (word_tree word) (omega arith) e)
    c.take_primitives.ensures

pub take_primitives-loop-alloc-smaller : goal.take_primitives-loop-alloc-smaller
take_primitives-loop-alloc-smaller t c =
    let less = read_shorter primitive_of c.args.depth c.take_end_array.new.self c.take_primitive.new.reader (primitive_tree c.in_ok-primitive.primitive) c.in_ok-primitive.ensures in
    omega (arith, less, ap length c.loop-alloc-test.ensures.1)

pub take_primitives-loop-alloc-preserved : goal.take_primitives-loop-alloc-preserved
take_primitives-loop-alloc-preserved t c =
    let depth = c.args.depth in
    let ps = map primitive_tree c.loop-alloc.primitives.items in
    let p = c.in_ok-primitive.primitive in
    c.loop-alloc.invariant ∙ ap (λ ts. onto_word ps (read_items_at word_of_items depth ts)) (sym c.loop-alloc-test.ensures.1)
    ∙ next_primitive depth ps (primitive_tree p) c.take_end_array.new.self c.take_primitive.new.reader c.in_ok-primitive.ensures
    ∙ ap (λ qs. onto_word qs (read_items_at word_of_items depth c.take_primitive.new.reader)) (sym (ap (map primitive_tree) c.in-Ok.ensures.items ∙ map-append primitive_tree c.loop-alloc.primitives.items _))

pub take_primitives-returns : goal.take_primitives-returns
take_primitives-returns t c =
    let ps = map primitive_tree c.loop-alloc.primitives.items in
    c.loop-alloc.invariant ∙ primitives_end c.args.depth ps c.loop-alloc.reader c.take_end_array.new.self c.loop-alloc-test.ensures ∙ ap (λ w. Some (w, c.take_end_array.new.self)) (sym c.from_vec.ensures)

pub take_primitive-returns : goal.take_primitive-returns
take_primitive-returns t c =
    ap (read_at primitive_of c.args.depth) (c.if-not-opens_object.ensures refl)
    ∙ primitive_read c.args.depth c.in_ok-name.name.now c.in_ok-kind.kind c.opens_object.new.reader c.take_key.new.reader c.take_content.new.reader c.closes_object.new.reader
    (primitive_tree c.in_ok-primitive.primitive) (omega arith) (sym c.in_ok-kind.ensures) c.in_ok-name.ensures c.in_ok-primitive.ensures (c.if-not-closes_object.ensures refl)

pub take_at-returns : goal.take_at-returns
take_at-returns t c =
    let w = word_tree c.in_ok-word.word in
    ap (read_at (content_of At) c.args.depth) (c.if-not-opens_array.ensures refl)
    ∙ two_read as_str word_of_tree (content_of At) c.args.depth c.opens_array.new.reader c.take_name.new.reader c.take_word.new.reader c.take_end_array.new.self c.in_ok-field.field w (at c.in_ok-field.field w)
    (omega arith) (c.in_ok-field.ensures (c.args.depth - 1)) c.in_ok-word.ensures c.if-not-take_end_array.ensures (λ d e p q. at_content d e c.in_ok-field.field w p q) ∙ (search (rules, the_lemmas))

pub take_stay-returns : goal.take_stay-returns
take_stay-returns t c =
    let w = word_tree c.in_ok-word.word in
    ap (read_at (content_of Stay) c.args.depth) (c.if-not-opens_array.ensures refl)
    ∙ two_read as_str word_of_tree (content_of Stay) c.args.depth c.opens_array.new.reader c.take_name.new.reader c.take_word.new.reader c.take_end_array.new.self c.in_ok-tag.tag w (stay c.in_ok-tag.tag w)
    (omega arith) (c.in_ok-tag.ensures (c.args.depth - 1)) c.in_ok-word.ensures c.if-not-take_end_array.ensures (λ d e p q. stay_content d e c.in_ok-tag.tag w p q) ∙ (search (rules, the_lemmas))

pub take_mod-returns : goal.take_mod-returns
take_mod-returns t c =
    let w = word_tree c.in_ok-word.word in
    ap (read_at (content_of Mod) c.args.depth) (c.if-not-opens_array.ensures refl)
    ∙ two_read data_place word_of_tree (content_of Mod) c.args.depth c.opens_array.new.reader c.take_place.new.reader c.take_word.new.reader c.take_end_array.new.self c.in_ok-place.place w (modify c.in_ok-place.place w)
    (omega arith) (c.in_ok-place.ensures (c.args.depth - 1) (omega arith)) c.in_ok-word.ensures c.if-not-take_end_array.ensures (λ d e p q. mod_content d e c.in_ok-place.place w p q) ∙ (search (rules, the_lemmas))

pub take_switch-returns : goal.take_switch-returns
take_switch-returns t c =
    let w = word_tree c.in_ok-word.word in
    ap (read_at (content_of Switch) c.args.depth) (c.if-not-opens_array.ensures refl)
    ∙ three_read as_str as_str word_of_tree (content_of Switch) c.args.depth c.opens_array.new.reader c.take_name.new.reader c.take_name-2.new.reader c.take_word.new.reader c.take_end_array.new.self
    c.in_ok-old.old c.in_ok-new.new w (switch c.in_ok-old.old c.in_ok-new.new w) (omega arith) (c.in_ok-old.ensures (c.args.depth - 1)) (c.in_ok-new.ensures (c.args.depth - 1)) c.in_ok-word.ensures
    c.if-not-take_end_array.ensures (λ d e i p q r. switch_content d e i c.in_ok-old.old c.in_ok-new.new w p q r) ∙ (search (rules, the_lemmas))
