-- A word taken one primitive at a time: what is left of it, behind what was emitted.
use Rattle.std.proofs.Common.{◌≡◌, ℕ, suc, ◌+◌, ◌<◌, ◌≤◌, List, length, map, drop, drop-cons, get_or, add-one, Option, None, Some, option_map, refl, ap, sym, ◌∙◌}
use Rattle.std.proofs.lemmas.List.{drop_all}
use Rattle.edit_module.specs.declared.word.Primitive.{Primitive}
use Rattle.edit_module.specs.Words.{PrimitiveTree, WordTree, no_primitives, word_of, joined}
use Rattle.edit_module.specs.Views.{primitive_tree}
use Rattle.lens_core.specs.Emitted.{behind, one_by_one}
use Rattle.lens_core.specs.Partition.{Parted}
use Rattle.lens_core.proofs.JoinedWords.{behind_nothing, behind_behind}
use Rattle.lens_core.specs.declared.carry.CarryFault.{CarryFault}
use Rattle.lens_core.specs.declared.carry.CarryFault.TheVariants.{Unfit, NoMemory}
use Rattle.partition_lens.specs.Rows.{IsRowFault}
use Rattle.edit_module.proofs.JoinedWords.{joined_nothing}

-- what is left of a word, from the primitive number i on, behind the word u
abbrev pub left_over : (List ℕ → PrimitiveTree → Option Parted) → WordTree → List ℕ → List Primitive → ℕ → Option Parted
left_over rule u ts ps i = option_map (behind u) (one_by_one rule ts (word_of (map primitive_tree (drop i ps))))

-- before the first primitive
pub steps_start : (rule : List ℕ → PrimitiveTree → Option Parted) (u : WordTree) (ts start : List ℕ) (ps : List Primitive) (w : WordTree)
    → u ≡ no_primitives → ts ≡ start → word_of (map primitive_tree ps) ≡ w → left_over rule u ts ps 0 ≡ one_by_one rule start w
steps_start rule u ts start ps w e f g =
    ap (λ z. option_map (behind z) (one_by_one rule ts (word_of (map primitive_tree ps)))) e
    ∙ (behind_nothing (one_by_one rule ts (word_of (map primitive_tree ps)))
    ∙ (ap (λ z. one_by_one rule z (word_of (map primitive_tree ps))) f ∙ ap (one_by_one rule start) g))

step_taken : (rule : List ℕ → PrimitiveTree → Option Parted) (ps : List Primitive) (i : ℕ) (p : Primitive) (u v : WordTree) (ts next : List ℕ)
    → i < length ps → p ≡ get_or ps i p → rule ts (primitive_tree p) ≡ Some (v, next) → left_over rule u ts ps i ≡ left_over rule (joined u v) next ps (i + 1)
step_taken rule ps i p u v ts next h is e =
    rw (drop-cons ps i p h, sym is, e, add-one) (behind_behind u v (one_by_one rule next (word_of (map primitive_tree (drop (suc i) ps)))))

-- after a primitive with a row
pub step_kept : (rule : List ℕ → PrimitiveTree → Option Parted) (ps : List Primitive) (i : ℕ) (p : Primitive) (u v u' : WordTree) (ts next ts' : List ℕ) (whole : Option Parted)
    → i < length ps → p ≡ get_or ps i p → rule ts (primitive_tree p) ≡ Some (v, next) → u' ≡ joined u v → ts' ≡ next
    → left_over rule u ts ps i ≡ whole → left_over rule u' ts' ps (i + 1) ≡ whole
step_kept rule ps i p u v u' ts next ts' whole h is e f g k = rw (f, g) (sym (step_taken rule ps i p u v ts next h is e) ∙ k)

step_refused : (rule : List ℕ → PrimitiveTree → Option Parted) (ps : List Primitive) (i : ℕ) (p : Primitive) (u : WordTree) (ts : List ℕ)
    → i < length ps → p ≡ get_or ps i p → rule ts (primitive_tree p) ≡ None → left_over rule u ts ps i ≡ None
step_refused rule ps i p u ts h is e = rw (drop-cons ps i p h, sym is, e) refl

-- at a primitive without a row
pub step_fault : (rule : List ℕ → PrimitiveTree → Option Parted) (ps : List Primitive) (i : ℕ) (p : Primitive) (u : WordTree) (ts : List ℕ) (whole : Option Parted) (fault : CarryFault)
    → i < length ps → p ≡ get_or ps i p → IsRowFault (rule ts (primitive_tree p)) fault → left_over rule u ts ps i ≡ whole → IsRowFault whole fault
step_fault rule ps i p u ts whole Unfit h is e k = sym k ∙ step_refused rule ps i p u ts h is e
step_fault rule ps i p u ts whole NoMemory h is e k = tt

-- after the last primitive
pub steps_end : (rule : List ℕ → PrimitiveTree → Option Parted) (ps : List Primitive) (i : ℕ) (u : WordTree) (ts : List ℕ) (whole : Option Parted) → length ps ≤ i
    → left_over rule u ts ps i ≡ whole → whole ≡ Some (u, ts)
steps_end rule ps i u ts whole h k =
    let done : left_over rule u ts ps i ≡ Some (u, ts) = rw (drop_all i ps h) (ap (λ z. Some (z, ts)) (joined_nothing u)) in
    sym k ∙ done

pub ruleset step_rules = (steps_start, step_kept, step_fault, steps_end)
