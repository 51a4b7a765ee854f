-- The nodes inside a node that is ready for a run: each is ready too, and has the lens that the form has there.
use Rattle.std.proofs.Common.{◌≡◌, ℕ, ◌<◌, length, true, Option, None, Some, option_map, Result, refl, sym, ap, subst, ◌∙◌, arith}
use Rattle.std.specs.Prelude.{slice_get, option_and_then, Vec}
use Rattle.std.specs.declared.alloc.Global.{Global}
use Rattle.std.proofs.lemmas.Option.{slice_get_read, slice_get_past}
use Rattle.std.proofs.Common.{List, get_or}
use Rattle.texts.specs.declared.side.Side.{Side}
use Rattle.texts.specs.Sides.{other}
use Rattle.doc_values.specs.Types.{fields_tree}
use Rattle.doc_values.specs.declared.ty.Fields.{Fields}
use Rattle.edit_module.specs.Words.{PrimitiveTree, WordTree}
use Rattle.lens_forms.specs.Forms.{FormTree, form_then, form_rec, form_alt, form_part, form_inv, form_row_list, form_tree, rows_tree, arms_tree}
use Rattle.lens_forms.specs.declared.form.Form.{Form}
use Rattle.lens_forms.specs.declared.form.FormRows.{FormRows}
use Rattle.lens_forms.specs.declared.form.FormArms.{FormArms}
use Rattle.lens_core.specs.Complements.{CompTree, comp_tree, missing}
use Rattle.lens_core.specs.Leaves.{is_leaf}
use Rattle.lens_core.specs.Translation.{Translated, translate_one, translate}
use Rattle.lens_core.specs.declared.carry.Carried.{Carried}
use Rattle.lens_core.specs.declared.carry.CarryFault.{CarryFault}
use Rattle.lens_core.specs.declared.comp.Comps.{Comps}
use Rattle.lens_branch.specs.AlternativeSteps.{arm_lens, arm_translation}
use Rattle.lens_branch.specs.RecordSteps.{row_lens, row_translation}
use Rattle.lens_steps.specs.Kinds.{mapped}
use Rattle.lens_steps.specs.Ready.{IsReady}
use Rattle.lens_steps.specs.declared.kinds.Kind.{Kind}
use Rattle.lens_steps.specs.declared.kinds.Kind.TheVariants.{List as ListKind, Keyed, Tree}
use Rattle.lens_steps.proofs.OnePrimitive.{IsOf}
use Rattle.lens_steps.proofs.ReadyForms.{ready_first, ready_second, ready_row, ready_arm}
use Rattle.lens_flat.specs.Tables.{form_at, IsEntry, AreSound, IsCompiled, IsReadyAt, IsAt}
use Rattle.lens_flat.specs.declared.node.Node.{Node}
use Rattle.lens_flat.specs.declared.node.Node.TheVariants.{Leaf, Then, Record, Alternatives, Held, Partition, Inverse}
use Rattle.lens_flat.specs.declared.node.Entry.{Entry}

-- a node before one that is ready
inside_ready : (table : List Entry) (n k : ℕ) → IsReadyAt table n → k < n → IsReady (form_at table k) → IsReadyAt table k
inside_ready table n k h low ready = record { sound = h.sound; within = let high = h.within in omega (arith, low, high); ready = ready }

-- ---- leaf, composition, container, inverse, partition

pub leaf_inside : (table : List Entry) (n : ℕ) (form : Form) → IsAt table n (Leaf form) → is_leaf (form_tree form) ≡ true
leaf_inside table n form h = h.inside

pub then_inside : (table : List Entry) (n a b : ℕ) → IsAt table n (Then a b) → (a < n) × (b < n) × IsReadyAt table a × IsReadyAt table b
then_inside table n a b h =
    let ready : IsReady (form_then (form_at table a) (form_at table b)) = subst IsReady h.form_is h.here.ready in (
      h.inside.0,
      h.inside.1,
      inside_ready table n a h.here h.inside.0 (ready_first (form_at table a) (form_at table b) ready),
      inside_ready table n b h.here h.inside.1 (ready_second (form_at table a) (form_at table b) ready),
    )

ready_held : (kind : Kind) (l : FormTree) → IsReady (mapped kind l) → IsReady l
ready_held ListKind l h = let small = h.1 in (h.0, omega (arith, small))
ready_held Keyed l h = let small = h.1 in (h.0, omega (arith, small))
ready_held Tree l h = let small = h.1 in (h.0, omega (arith, small))

pub held_inside : (table : List Entry) (n : ℕ) (kind : Kind) (a : ℕ) → IsAt table n (Held kind a) → (a < n) × IsReadyAt table a
held_inside table n kind a h = (h.inside, inside_ready table n a h.here h.inside (ready_held kind (form_at table a) (subst IsReady h.form_is h.here.ready)))

ready_turned : (l : FormTree) → IsReady (form_inv l) → IsReady l
ready_turned l h = let small = h.1 in (h.0, omega (arith, small))

pub inverse_inside : (table : List Entry) (n a : ℕ) → IsAt table n (Inverse a) → (a < n) × IsReadyAt table a
inverse_inside table n a h = (h.inside, inside_ready table n a h.here h.inside (ready_turned (form_at table a) (subst IsReady h.form_is h.here.ready)))

pub partition_is_ready : (table : List Entry) (n : ℕ) (tags : Fields) → IsAt table n (Partition tags) → IsReady (form_part (fields_tree tags))
partition_is_ready table n tags h = subst IsReady h.form_is h.here.ready

-- ---- record

pub rows_ready : (table : List Entry) (n : ℕ) (rows : FormRows) (inside : Vec ℕ Global) → IsAt table n (Record rows inside) → IsReady (form_rec (rows_tree rows))
rows_ready table n rows inside h = subst IsReady h.form_is h.here.ready

row_lens_at : (table : List Entry) (n : ℕ) (rows : FormRows) (inside : Vec ℕ Global) (i k : ℕ) → IsAt table n (Record rows inside) → slice_get inside.items i ≡ Some k
    → row_lens (form_row_list (rows_tree rows)) i ≡ Some (form_at table k)
row_lens_at table n rows inside i k h e = h.inside.found i ∙ ap (option_map (form_at table)) e

pub row_ready : (table : List Entry) (n : ℕ) (rows : FormRows) (inside : Vec ℕ Global) (i k : ℕ) → IsAt table n (Record rows inside) → slice_get inside.items i ≡ Some k
    → (k < n) × IsReadyAt table k
row_ready table n rows inside i k h e =
    let low = h.inside.below i k e in
    (low, inside_ready table n k h.here low (ready_row (rows_tree rows) i (form_at table k) (row_lens_at table n rows inside i k h e) (rows_ready table n rows inside h)))

pub row_carried : (table : List Entry) (n : ℕ) (rows : FormRows) (inside : Vec ℕ Global) (i k : ℕ) (side : Side) (c : CompTree) (w : WordTree) → IsAt table n (Record rows inside)
    → slice_get inside.items i ≡ Some k → row_translation (rows_tree rows) side i c w ≡ translate (form_at table k) side c w
row_carried table n rows inside i k side c w h e =
    ap (option_and_then (λ (l : FormTree). translate l side c w)) (row_lens_at table n rows inside i k h e)

pub row_past : (table : List Entry) (n : ℕ) (rows : FormRows) (inside : Vec ℕ Global) (i : ℕ) (side : Side) (c : CompTree) (w : WordTree) → IsAt table n (Record rows inside)
    → slice_get inside.items i ≡ None → row_translation (rows_tree rows) side i c w ≡ None
row_past table n rows inside i side c w h e =
    ap (option_and_then (λ (l : FormTree). translate l side c w)) (h.inside.found i ∙ ap (option_map (form_at table)) e)

-- ---- alternatives

pub arms_ready : (table : List Entry) (n : ℕ) (arms : FormArms) (starts : Comps) (inside : Vec ℕ Global) → IsAt table n (Alternatives arms starts inside) → IsReady (form_alt (arms_tree arms))
arms_ready table n arms starts inside h = subst IsReady h.form_is h.here.ready

arm_lens_at : (table : List Entry) (n : ℕ) (arms : FormArms) (starts : Comps) (inside : Vec ℕ Global) (i k : ℕ) → IsAt table n (Alternatives arms starts inside) → slice_get inside.items i ≡ Some k
    → arm_lens (arms_tree arms) i ≡ Some (form_at table k)
arm_lens_at table n arms starts inside i k h e = h.inside.1.found i ∙ ap (option_map (form_at table)) e

pub arm_ready : (table : List Entry) (n : ℕ) (arms : FormArms) (starts : Comps) (inside : Vec ℕ Global) (i k : ℕ) → IsAt table n (Alternatives arms starts inside) → slice_get inside.items i ≡ Some k
    → (k < n) × IsReadyAt table k
arm_ready table n arms starts inside i k h e =
    let low = h.inside.1.below i k e in (
      low,
      inside_ready table n k h.here low
          (ready_arm (arms_tree arms) i (form_at table k) (arm_lens_at table n arms starts inside i k h e) (arms_ready table n arms starts inside h)),
    )

pub arm_carried : (table : List Entry) (n : ℕ) (arms : FormArms) (starts : Comps) (inside : Vec ℕ Global) (i k : ℕ) (side : Side) (c : CompTree) (w : WordTree)
    → IsAt table n (Alternatives arms starts inside) → slice_get inside.items i ≡ Some k → arm_translation (arms_tree arms) side i c w ≡ translate (form_at table k) side c w
arm_carried table n arms starts inside i k side c w h e =
    ap (option_and_then (λ (l : FormTree). translate l side c w)) (arm_lens_at table n arms starts inside i k h e)

pub arm_past : (table : List Entry) (n : ℕ) (arms : FormArms) (starts : Comps) (inside : Vec ℕ Global) (i : ℕ) (side : Side) (c : CompTree) (w : WordTree)
    → IsAt table n (Alternatives arms starts inside) → slice_get inside.items i ≡ None → arm_translation (arms_tree arms) side i c w ≡ None
arm_past table n arms starts inside i side c w h e =
    ap (option_and_then (λ (l : FormTree). translate l side c w)) (h.inside.1.found i ∙ ap (option_map (form_at table)) e)

-- ---- the node of a number

-- a node that is found to be another one
pub at_node : (table : List Entry) (n : ℕ) (node other : Node) → IsAt table n node → node ≡ other → IsAt table n other
at_node table n node other h e = subst (IsAt table n) e h

-- what is read at a number is its entry
entry_here : (table : List Entry) (n : ℕ) (e : Entry) → AreSound table → n < length table → e ≡ get_or table n e → IsEntry table n e
entry_here table n e sound within is = sound n e (slice_get_read table (length table) n e refl within is)

pub node_here : (table : List Entry) (n : ℕ) (e : Entry) → IsReadyAt table n → e ≡ get_or table n e → IsAt table n (get_or table n e).node
node_here table n e h is =
    let entry = entry_here table n e h.sound h.within is in
    let at : IsAt table n e.node = record { here = h; inside = entry.inside; form_is = entry.form_is } in
    subst (λ (x : Entry). IsAt table n x.node) is at

pub start_here : (table : List Entry) (n : ℕ) (e : Entry) → IsReadyAt table n → e ≡ get_or table n e → comp_tree (get_or table n e).missing ≡ missing (form_at table n)
start_here table n e h is =
    let entry = entry_here table n e h.sound h.within is in
    subst (λ (x : Entry). comp_tree x.missing ≡ missing (form_at table n)) is entry.start

-- ---- what a call returned for a form it may return for an equal one

pub of_form : (r : Result Carried CarryFault) (l k : FormTree) (side : Side) (c : CompTree) (p : PrimitiveTree) → l ≡ k → IsOf r (translate_one k side c p) → IsOf r (translate_one l side c p)
of_form r l k side c p e h = subst (λ (f : FormTree). IsOf r (translate_one f side c p)) (sym e) h

pub of_inverse : (r : Result Carried CarryFault) (l k : FormTree) (side turned : Side) (c : CompTree) (p : PrimitiveTree) → l ≡ form_inv k → turned ≡ other side
    → IsOf r (translate_one k turned c p) → IsOf r (translate_one l side c p)
of_inverse r l k side turned c p e t h =
    of_form r l (form_inv k) side c p e (subst (λ (s : Side). IsOf r (translate_one k s c p)) t h)

pub of_value : (r : Result Carried CarryFault) (a b : Option Translated) → a ≡ b → IsOf r b → IsOf r a
of_value r a b e h = subst (IsOf r) (sym e) h

-- ---- the number at a place

pub ruleset place_rules = (slice_get_read, slice_get_past)

-- ---- the node of the whole

pub root_ready : (table : List Entry) (n : ℕ) (form : FormTree) → IsCompiled table n form → IsReady form → IsReadyAt table n
root_ready table n form h ready = record { sound = h.sound; within = h.within; ready = subst IsReady (sym h.form_is) ready }

pub root_start : (table : List Entry) (n : ℕ) (form : FormTree) (c : CompTree) → IsCompiled table n form → c ≡ missing (form_at table n) → c ≡ missing form
root_start table n form c h is = is ∙ ap missing h.form_is

pub ruleset root_rules = (root_ready, root_start)
