-- One level of a form and of a complement, and what holds of the parts.
use Rattle.std.proofs.Common.{◌≡◌, ℕ, List, length, Result, Ok, Err, IfOk, IsTrue, Box, Global, subst, ◌∙◌, rules}
use Rattle.std.specs.declared.alloc.AllocError.{AllocError}
use Rattle.texts.specs.Keys.{is_rising}
use Rattle.texts.proofs.Conjunction.{first, second}
use Rattle.serde_json.specs.Data.{Data}
use Rattle.serde_json.specs.View.{view}
use Rattle.serde_json.specs.declared.value.Value.{Value}
use Rattle.hold_shapes.specs.declared.shape.Shape.{Shape}
use Rattle.hold_shapes.specs.declared.shape.Shape.TheVariants.{Keyed as KeyedOf}
use Rattle.doc_values.specs.Typing.{is_keyed_of}
use Rattle.lens_forms.specs.Forms.{FormTree, form_each, form_keyed, form_ordered}
use Rattle.lens_forms.specs.Typing.{is_typed}
use Rattle.lens_core.specs.Complements.{CompTree, CompTrees, rec_comp, alt_comp, hold_comp, comp_tree, comps_tree, comp_count, Fits, AllFit}
use Rattle.lens_core.specs.declared.comp.Comp.{Comp, the_lemmas as comp_lemmas}
use Rattle.lens_core.specs.declared.comp.Comp.TheVariants.{Rec, Alt, Hold}
use Rattle.lens_core.specs.declared.comp.Comps.{Comps}
use Rattle.std.proofs.lemmas.Bool.{eqb-true}

pub hold_level : (s : Shape) (cs : Comps) → comp_tree (Hold s cs) ≡ hold_comp s (comps_tree cs)
hold_level s cs = search (rules, comp_lemmas)

pub rec_level : (cs : Comps) → comp_tree (Rec cs) ≡ rec_comp (comps_tree cs)
rec_level cs = search (rules, comp_lemmas)

pub alt_level : (n : List ℕ) (b : Box Comp Global) → comp_tree (Alt n b) ≡ alt_comp n (comp_tree b.value)
alt_level n b = search (rules, comp_lemmas)

-- ---- what fits a container

pub each_typed : (f l : FormTree) → f ≡ form_each l → IsTrue (is_typed f) → IsTrue (is_typed l)
each_typed f l is h = subst (λ g. IsTrue (is_typed g)) is h

pub keyed_typed : (f l : FormTree) → f ≡ form_keyed l → IsTrue (is_typed f) → IsTrue (is_typed l)
keyed_typed f l is h = subst (λ g. IsTrue (is_typed g)) is h

pub tree_typed : (f l : FormTree) → f ≡ form_ordered l → IsTrue (is_typed f) → IsTrue (is_typed l)
tree_typed f l is h = subst (λ g. IsTrue (is_typed g)) is h

pub each_fits : (f l : FormTree) (d : CompTree) (s : Shape) (cs : CompTrees) → f ≡ form_each l → d ≡ hold_comp s cs → Fits f d → AllFit (Fits l) cs
each_fits f l d s cs is held h = (subst (λ g. Fits g (hold_comp s cs)) is (subst (Fits f) held h)).1

pub tree_fits : (f l : FormTree) (d : CompTree) (s : Shape) (cs : CompTrees) → f ≡ form_ordered l → d ≡ hold_comp s cs → Fits f d → AllFit (Fits l) cs
tree_fits f l d s cs is held h = (subst (λ g. Fits g (hold_comp s cs)) is (subst (Fits f) held h)).1

pub keyed_fits : (f l : FormTree) (d : CompTree) (s : Shape) (cs : CompTrees) → f ≡ form_keyed l → d ≡ hold_comp s cs → Fits f d
    → IsTrue (is_keyed_of s (comp_count cs)) × AllFit (Fits l) cs
keyed_fits f l d s cs is held h = subst (λ g. Fits g (hold_comp s cs)) is (subst (Fits f) held h)

pub keys_rising : (ks : List (List ℕ)) (s : Shape) (n : ℕ) → s ≡ KeyedOf ks → IsTrue (is_keyed_of s n) → IsTrue (is_rising ks)
keys_rising ks s n is h = first (is_rising ks) _ (subst (λ q. IsTrue (is_keyed_of q n)) is h)

pub keys_many : (ks : List (List ℕ)) (s : Shape) (n : ℕ) → s ≡ KeyedOf ks → IsTrue (is_keyed_of s n) → length ks ≡ n
keys_many ks s n is h = eqb-true _ _ (second (is_rising ks) _ (subst (λ q. IsTrue (is_keyed_of q n)) is h))

pub ruleset keyed_rules = (keys_rising, keys_many)

-- what is the tree of one is that of the other
pub if_tree : (r : Result Value AllocError) (x y : Data) → IfOk r (λ t. view t ≡ x) → x ≡ y → IfOk r (λ t. view t ≡ y)
if_tree (Ok t) x y h e = h ∙ e
if_tree (Err f) x y h e = tt
