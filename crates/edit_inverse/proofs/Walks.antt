-- The walk over a word, and its inverses from the last to the first.
use Rattle.std.proofs.Common.{◌≡◌, ℕ, zero, suc, ◌+◌, ◌<◌, ◌≤◌, List, [], ◌∷◌, ◌++◌, length, map, drop, get_or, Result, Ok, refl, sym, ap, subst, ◌∙◌, arith}
use Rattle.std.proofs.lemmas.List.{drop_all, map-append}
use Rattle.doc_values.specs.Documents.{DocTree}
use Rattle.doc_values.specs.Types.{TyTree}
use Rattle.edit_module.specs.declared.fault.Cause.{Cause}
use Rattle.edit_module.specs.declared.word.Primitive.{Primitive}
use Rattle.edit_module.specs.declared.word.Word.{Word}
use Rattle.edit_module.specs.Words.{WordTree, no_primitives, word_of, joined}
use Rattle.edit_module.specs.Depths.{primitive_depth, word_depth}
use Rattle.edit_module.specs.Views.{primitive_tree, word_tree}
use Rattle.edit_module.specs.Action.{act_primitive}
use Rattle.edit_module.proofs.Words.{joined_assoc, joined-maps, left_primitives}
use Rattle.edit_module.proofs.WordSteps.{later-none, later-more}
use Rattle.edit_inverse.specs.Inverse.{inverse, inverse_primitive, in_reverse}
use Rattle.edit_inverse.specs.Steps.{backwards}
use Rattle.edit_inverse.specs.Texts.{IfValue, MeetsTexts, PrimitiveMeets}
use Rattle.edit_module.proofs.JoinedWords.{joined_nothing}

-- ---- words from the last to the first

pub backwards-end : (ws : List WordTree) (w : WordTree) → backwards (ws ++ w ∷ []) ≡ joined w (backwards ws)
backwards-end [] w = sym (joined_nothing w)
backwards-end (x ∷ ws) w = ap (λ (y : WordTree). joined y x) (backwards-end ws w) ∙ joined_assoc w (backwards ws) x

pub backwards-pushed : (parts more : List Word) (w : Word) → more ≡ parts ++ w ∷ [] → backwards (map word_tree more) ≡ joined (word_tree w) (backwards (map word_tree parts))
backwards-pushed parts more w e =
    ap (λ (l : List Word). backwards (map word_tree l)) e
    ∙ (ap backwards (map-append word_tree parts (w ∷ [])) ∙ backwards-end (map word_tree parts) (word_tree w))

pub backwards-none : (parts : List Word) → length parts ≡ 0 → backwards (map word_tree parts) ≡ no_primitives
backwards-none [] e = refl
backwards-none (w ∷ parts) e = absurd (omega arith)

-- a word at the end of what there is
pub appended : (out new ps : List Primitive) (w rest : WordTree) → word_of (map primitive_tree ps) ≡ w → new ≡ out ++ ps
    → joined (word_of (map primitive_tree new)) rest ≡ joined (word_of (map primitive_tree out)) (joined w rest)
appended out new ps w rest is made =
    let o = word_of (map primitive_tree out) in
    ap (λ (l : List Primitive). joined (word_of (map primitive_tree l)) rest) made
    ∙ (ap (λ (x : WordTree). joined x rest) (sym (joined-maps out ps))
    ∙ (joined_assoc o (word_of (map primitive_tree ps)) rest
    ∙ ap (λ (x : WordTree). joined o (joined x rest)) is))

-- ---- the loop

pub inverse-more : (t : TyTree) (ps : List Primitive) (i : ℕ) (p : Primitive) (v u : DocTree) → i < length ps → p ≡ get_or ps i p → act_primitive t (primitive_tree p) v ≡ Ok u
    → inverse t (word_of (map primitive_tree (drop i ps))) v ≡ joined (inverse t (word_of (map primitive_tree (drop (i + 1) ps))) u) (inverse_primitive t (primitive_tree p) v)
inverse-more t ps i p v u h is e =
    let rest = word_of (map primitive_tree (drop (i + 1) ps)) in
    ap (λ (l : List Primitive). inverse t (word_of (map primitive_tree l)) v) (left_primitives ps i p h is)
    ∙ ap (λ (r : Result DocTree Cause). in_reverse r (λ x. inverse t rest x) (inverse_primitive t (primitive_tree p) v)) e

-- one more primitive, with its inverse among the parts
pub walk-next : (t : TyTree) (ps : List Primitive) (i : ℕ) (p : Primitive) (v u : DocTree) (parts more : List Word) (w : Word) → i < length ps → p ≡ get_or ps i p → act_primitive t (primitive_tree p) v ≡ Ok u
    → word_tree w ≡ inverse_primitive t (primitive_tree p) v → more ≡ parts ++ w ∷ []
    → joined (inverse t (word_of (map primitive_tree (drop (i + 1) ps))) u) (backwards (map word_tree more)) ≡ joined (inverse t (word_of (map primitive_tree (drop i ps))) v) (backwards (map word_tree parts))
walk-next t ps i p v u parts more w h is e back made =
    let r = inverse t (word_of (map primitive_tree (drop (i + 1) ps))) u in
    let b = backwards (map word_tree parts) in
    ap (joined r) (backwards-pushed parts more w made)
    ∙ (ap (λ (x : WordTree). joined r (joined x b)) back
    ∙ (sym (joined_assoc r (inverse_primitive t (primitive_tree p) v) b)
    ∙ ap (λ (x : WordTree). joined x b) (sym (inverse-more t ps i p v u h is e))))

pub walk-done : (t : TyTree) (ps : List Primitive) (i : ℕ) (v : DocTree) (b : WordTree) → length ps ≤ i → joined (inverse t (word_of (map primitive_tree (drop i ps))) v) b ≡ b
walk-done t ps i v b h = ap (λ (l : List Primitive). joined (inverse t (word_of (map primitive_tree l)) v) b) (drop_all i ps h)

-- the texts that the rest meets
pub meets-more : (t : TyTree) (ps : List Primitive) (i : ℕ) (p : Primitive) (v u : DocTree) → i < length ps → p ≡ get_or ps i p → act_primitive t (primitive_tree p) v ≡ Ok u
    → PrimitiveMeets t (primitive_tree p) v → MeetsTexts t (word_of (map primitive_tree (drop (i + 1) ps))) u → MeetsTexts t (word_of (map primitive_tree (drop i ps))) v
meets-more t ps i p v u h is e m rest =
    let R : Result DocTree Cause → Type 0 = λ r. IfValue r (λ x. MeetsTexts t (word_of (map primitive_tree (drop (i + 1) ps))) x) in
    let P : List Primitive → Type 0 = λ l. MeetsTexts t (word_of (map primitive_tree l)) v in
    subst P (sym (left_primitives ps i p h is)) (m, subst R (sym e) rest)

pub meets-done : (t : TyTree) (ps : List Primitive) (i : ℕ) (v : DocTree) → length ps ≤ i → MeetsTexts t (word_of (map primitive_tree (drop i ps))) v
meets-done t ps i v h = let P : List Primitive → Type 0 = λ l. MeetsTexts t (word_of (map primitive_tree l)) v in subst P (sym (drop_all i ps h)) tt

-- ---- a primitive is less deep than its word

pub part-depth : (ps : List Primitive) (i : ℕ) (p : Primitive) → i < length ps → p ≡ get_or ps i p → primitive_depth (primitive_tree p) + 1 ≤ word_depth (word_of (map primitive_tree ps))
part-depth [] i p h is = absurd (omega arith)
part-depth (q ∷ ps) (suc i) p h is = let ih = part-depth ps i p (omega arith) is in omega arith
part-depth (q ∷ ps) zero p h is =
    let P : Primitive → Type 0 = λ x. primitive_depth (primitive_tree x) + 1 ≤ word_depth (word_of (map primitive_tree (q ∷ ps))) in
    subst P (sym is) (omega arith)

pub ruleset walk_rules = (later-none, later-more)
