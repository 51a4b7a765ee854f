use Rattle.std.proofs.Common.{◌≡◌, ◌∷◌, refl, sym, ap, subst, ◌∙◌, arith, rules}
use Rattle.json.specs.Token.{begin_object}
use Rattle.doc_values.specs.Types.{fields_tree}
use Rattle.lens_forms.specs.Forms.{form_part}
use Rattle.lens_core.specs.Complements.{comp_tree, tags_comp}
use Rattle.lens_core.specs.declared.comp.Comp.{Tags, the_lemmas}
use Rattle.complement_file.specs.Taken.{TakesComp}
use Rattle.complement_file.proofs.TakenParts.{tags_taken}
use Rattle.complement_file.proofs.tokens.take_tags.Goals as goal

pub returns-in-Ok : goal.returns-in-Ok
returns-in-Ok c =
    let fs = fields_tree c.args.tags.now in
    let o = c.if-not-opens_array_in.ensures refl in
    let level : tags_comp c.in_ok-numbers.numbers.items ≡ comp_tree (Tags c.in-Ok.seq) = ap tags_comp (sym (c.in-Ok.ensures ∙ c.deref.ensures.value)) ∙ (search (rules, the_lemmas)) in
    subst (λ ts. TakesComp (form_part fs) c.args.depth ts (comp_tree (Tags c.in-Ok.seq)) c.closes_object.new.reader) (sym o.1)
    (subst (λ x. TakesComp (form_part fs) c.args.depth (begin_object ∷ o.0) x c.closes_object.new.reader) level
    (tags_taken c.args.depth (omega arith) fs o.0 c.opens_array_in.new.reader c.take_tag_numbers.new.reader c.closes_object.new.reader c.in_ok-numbers.numbers.items o.2 c.in_ok-numbers.ensures (c.if-not-closes_object.ensures refl)))
