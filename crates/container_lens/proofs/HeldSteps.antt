-- The two steps of a container's translation: with the lens inside they are its row; and what a beginning says of its primitive.
use Rattle.std.proofs.Common.{◌≡◌, ℕ, Bool, true, false, List, map, Option, None, Some, option_map, Ok, refl, arith}
use Rattle.std.specs.Prelude.{option_and_then, nat_eq, if◌then◌else◌}
use Rattle.std.proofs.lemmas.Bool.Decides.{nat_tests}
use Rattle.texts.specs.declared.side.Side.{Side}
use Rattle.hold_shapes.specs.declared.shape.Shape.{Shape}
use Rattle.hold_shapes.specs.declared.shape.ListShape.{ListShape}
use Rattle.hold_shapes.specs.declared.shape.Shape.TheVariants.{List as ListOf, Keyed as KeyedOf, Tree as TreeOf}
use Rattle.hold_shapes.specs.declared.edit.Place.{Place}
use Rattle.hold_shapes.specs.declared.edit.ShapeEdit.{ShapeEdit}
use Rattle.hold_shapes.specs.declared.origins.Origin.{Origin}
use Rattle.hold_shapes.specs.Gather.{content_at}
use Rattle.hold_shapes.specs.Shapes.{size_of, place_of}
use Rattle.hold_shapes.specs.Plans.{plan}
use Rattle.edit_module.specs.Words.{PrimitiveTree, set, add, splice, at, stay, switch, modify, shape, WordTree, no_primitives, more_primitives, word_length}
use Rattle.edit_module.proofs.Words.{word_tree-out}
use Rattle.lens_forms.specs.Forms.{FormTree, form_each, form_keyed, form_ordered}
use Rattle.lens_core.specs.Beginnings.{Beginning, finished, inside, carried_on, IsInside}
use Rattle.lens_core.specs.Complements.{CompTree, hold_comp, CompTrees, comps_of, comp_list, comp_count, missing}
use Rattle.lens_core.specs.Emitted.{one, mod_word, shape_word}
use Rattle.lens_core.specs.Translation.{Translated, comp_at, put_comp, gathered_comps, translate_held, held_row, translate_one, translate}
use Rattle.lens_core.proofs.Results.{inside_if}
use Rattle.lens_core.proofs.EmptyWords.{mod_word-empty}
use Rattle.container_lens.specs.HeldSteps.{begin_mod, begin_reshaped, begin_row, begin_held, HasBegun, finish_held}

-- ---- the beginning, the lens inside, and the finish

mod_done : (s : Shape) (cs : CompTrees) (q : Place) (u : WordTree) (i : ℕ) (t : Option Translated) → place_of s q ≡ Some i
    → option_map (λ r. (mod_word q r.0, hold_comp s (put_comp cs i r.1))) t ≡ option_map (finish_held s cs (modify q u)) t
mod_done s cs q u i None e = refl
mod_done s cs q u i (Some r) e = rw e refl

module _ (inner : CompTree → WordTree → Option Translated) where
  mod_round : (s : Shape) (cs : CompTrees) (q : Place) (u : WordTree) (o : Option ℕ) → place_of s q ≡ o
      → option_and_then (λ i. option_map (λ r. (mod_word q r.0, hold_comp s (put_comp cs i r.1))) (inner (comp_at cs i) u)) o
      ≡ option_and_then (carried_on (λ i c w. inner c w) (finish_held s cs (modify q u))) (option_map (λ i. inside 0 (comp_at cs i) u) o)
  mod_round s cs q u None e = refl
  mod_round s cs q u (Some i) e = mod_done s cs q u i (inner (comp_at cs i) u) e

  reshaped_round : (finish : Translated → Translated) (t : Option Translated)
      → t ≡ option_and_then (carried_on (λ i c w. inner c w) finish) (option_map (λ r. finished r) t)
  reshaped_round finish None = refl
  reshaped_round finish (Some r) = refl

  row_round : (start : CompTree) (s : Shape) (cs : CompTrees) (p : PrimitiveTree)
      → held_row inner start s cs p ≡ option_and_then (carried_on (λ i c w. inner c w) (finish_held s cs p)) (begin_row start s cs p)
  row_round start s cs (modify q u) = mod_round s cs q u (place_of s q) refl
  row_round start s cs (shape e) = reshaped_round (finish_held s cs (shape e)) (gathered_comps cs start (plan s e) e)
  row_round start s cs (set a) = refl
  row_round start s cs (add n) = refl
  row_round start s cs (splice i k t) = refl
  row_round start s cs (at f u) = refl
  row_round start s cs (stay t u) = refl
  row_round start s cs (switch t n u) = refl

round_if : (b : Bool) (f : Beginning → Option Translated) (t : Option Translated) (o : Option Beginning) → t ≡ option_and_then f o
    → (if b then t else None) ≡ option_and_then f (if b then o else None)
round_if true f t o h = h
round_if false f t o h = refl

pub held_round : (inner : CompTree → WordTree → Option Translated) (start : CompTree) (s : Shape) (cs : CompTrees) (p : PrimitiveTree)
    → translate_held inner start s cs p ≡ option_and_then (carried_on (λ i c w. inner c w) (finish_held s cs p)) (begin_held start s cs p)
held_round inner start s cs p =
    round_if (nat_eq (comp_count cs) (size_of s)) (carried_on (λ i c w. inner c w) (finish_held s cs p)) (held_row inner start s cs p) (begin_row start s cs p)
    (row_round inner start s cs p)

pub each_round : (l : FormTree) (side : Side) (s : ListShape) (cs : CompTrees) (p : PrimitiveTree)
    → translate_one (form_each l) side (hold_comp (ListOf s) cs) p
    ≡ option_and_then (carried_on (λ i c w. translate l side c w) (finish_held (ListOf s) cs p)) (begin_held (missing l) (ListOf s) cs p)
each_round l side s cs p = held_round (λ c w. translate l side c w) (missing l) (ListOf s) cs p

pub keyed_round : (l : FormTree) (side : Side) (names : List (List ℕ)) (cs : CompTrees) (p : PrimitiveTree)
    → translate_one (form_keyed l) side (hold_comp (KeyedOf names) cs) p
    ≡ option_and_then (carried_on (λ i c w. translate l side c w) (finish_held (KeyedOf names) cs p)) (begin_held (missing l) (KeyedOf names) cs p)
keyed_round l side names cs p = held_round (λ c w. translate l side c w) (missing l) (KeyedOf names) cs p

pub ordered_round : (l : FormTree) (side : Side) (depths : List ℕ) (cs : CompTrees) (p : PrimitiveTree)
    → translate_one (form_ordered l) side (hold_comp (TreeOf depths) cs) p
    ≡ option_and_then (carried_on (λ i c w. translate l side c w) (finish_held (TreeOf depths) cs p)) (begin_held (missing l) (TreeOf depths) cs p)
ordered_round l side depths cs p = held_round (λ c w. translate l side c w) (missing l) (TreeOf depths) cs p

pub ruleset round_rules = (each_round, keyed_round, ordered_round)

-- ---- what a beginning at a place says

abbrev pub is_mod : PrimitiveTree → Bool
is_mod (modify q u) = true
is_mod _ = false

not_finished : (t : Option Translated) → IsInside (option_map (λ r. finished r) t) → ⊥
not_finished None h = h
not_finished (Some r) h = h

row_is_mod : (start : CompTree) (s : Shape) (cs : CompTrees) (p : PrimitiveTree) → is_mod p ≡ false → IsInside (begin_row start s cs p) → ⊥
row_is_mod start s cs (modify q u) e h = cc
row_is_mod start s cs (shape a) e h = not_finished (gathered_comps cs start (plan s a) a) h
row_is_mod start s cs (set a) e h = h
row_is_mod start s cs (add n) e h = h
row_is_mod start s cs (splice i k t) e h = h
row_is_mod start s cs (at f u) e h = h
row_is_mod start s cs (stay t u) e h = h
row_is_mod start s cs (switch t n u) e h = h

-- only Mod begins at a place
pub begun_is_mod : (s : Shape) (cs : CompTrees) (p : PrimitiveTree) → is_mod p ≡ false → HasBegun s cs p → ⊥
begun_is_mod s cs p e h = row_is_mod h.0 s cs p e (inside_if (nat_eq (comp_count cs) (size_of s)) (begin_row h.0 s cs p) h.1).1

missing_place : (s : Shape) (cs : CompTrees) (q : Place) (u : WordTree) (o : Option ℕ) → o ≡ None → IsInside (option_map (λ i. inside 0 (comp_at cs i) u) o) → ⊥
missing_place s cs q u None e h = h
missing_place s cs q u (Some i) e h = cc

-- the place is there
pub begun_has_place : (s : Shape) (cs : CompTrees) (q : Place) (u : WordTree) → HasBegun s cs (modify q u) → place_of s q ≡ None → ⊥
begun_has_place s cs q u h e =
    missing_place s cs q u (place_of s q) e (inside_if (nat_eq (comp_count cs) (size_of s)) (begin_mod s cs q u) h.1).1

-- there is one complement for each place
pub begun_is_counted : (s : Shape) (cs : CompTrees) (p : PrimitiveTree) → HasBegun s cs p → comp_count cs ≡ size_of s
begun_is_counted s cs p h =
    let e = (inside_if (nat_eq (comp_count cs) (size_of s)) (begin_row h.0 s cs p) h.1).0 in
    grind (arith, nat_tests)

pub ruleset begun_rules = (begun_is_mod, begun_has_place, begun_is_counted)

-- ---- a shape edit with a plan

pub reshaped_begun : (start : CompTree) (s s' : Shape) (cs ds : CompTrees) (e : ShapeEdit) (from : List Origin) (w : WordTree) → plan s e ≡ Ok (s', from)
    → ds ≡ comps_of (map (content_at (comp_list cs) start) from) → w ≡ shape_word e → begin_reshaped start s cs e ≡ Some (finished (w, hold_comp s' ds))
reshaped_begun start s s' cs ds e from w planned gathered edits = rw (planned, gathered, edits) refl

pub ruleset plan_rules = (reshaped_begun)

-- ---- an empty inner word is left out

pub mod_word-more : (q : Place) (w : WordTree) → (word_length w ≡ 0 → ⊥) → mod_word q w ≡ one (modify q w)
mod_word-more q no_primitives e = absurd (e refl)
mod_word-more q (more_primitives p w) e = refl

pub ruleset word_rules = (word_tree-out, mod_word-empty, mod_word-more)
