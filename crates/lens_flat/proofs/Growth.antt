-- A table that grows: what was added stays, and a node may be added behind the lenses inside it.
use Rattle.std.proofs.Common.{◌≡◌, ℕ, ◌<◌, true, List, refl, sym, ap, subst, ◌∙◌, arith, length}
use Rattle.std.specs.Prelude.{Vec}
use Rattle.std.specs.declared.alloc.Global.{Global}
use Rattle.doc_values.specs.Types.{fields_tree}
use Rattle.doc_values.specs.declared.ty.Fields.{Fields}
use Rattle.lens_forms.specs.Forms.{FormTree, form_then, form_rec, form_alt, form_part, form_inv, RowTrees, form_row_list, ArmTrees, form_tree, rows_tree, arms_tree}
use Rattle.lens_forms.specs.declared.form.Form.{Form}
use Rattle.lens_forms.specs.declared.form.FormRows.{FormRows}
use Rattle.lens_forms.specs.declared.form.FormArms.{FormArms}
use Rattle.lens_core.specs.Complements.{comps_tree}
use Rattle.lens_core.specs.Leaves.{is_leaf}
use Rattle.lens_core.specs.declared.comp.Comps.{Comps}
use Rattle.lens_branch.specs.AlternativeSteps.{arm_lens, arm_starts}
use Rattle.lens_branch.specs.RecordSteps.{row_lens}
use Rattle.lens_steps.specs.Kinds.{mapped}
use Rattle.lens_steps.specs.declared.kinds.Kind.{Kind}
use Rattle.lens_flat.specs.Tables.{form_at, AreLenses, AreSound, Grows, Adds, Readies, AddsLenses}
use Rattle.lens_flat.specs.declared.node.Node.TheVariants.{Leaf, Then, Record, Alternatives, Held, Partition, Inverse}
use Rattle.lens_flat.specs.declared.node.Entry.{Entry}

pub grows_not : (es : List Entry) → AreSound es → Grows es es
grows_not es sound = record { sound = sound; longer = omega arith; same = λ n h. refl }

pub grows_on : (a b c : List Entry) → Grows a b → Grows b c → Grows a c
grows_on a b c g h = record {
  sound = h.sound;
  longer = let x = g.longer in let y = h.longer in omega (arith, x, y);
  same = λ n low. h.same n (let x = g.longer in omega (arith, x, low)) ∙ g.same n low;
}

-- a node that was added is still there
pub stays : (a b c : List Entry) (l : FormTree) (m : ℕ) → Adds a b l m → Grows b c → (m < length c) × (form_at c m ≡ l)
stays a b c l m h g = (let x = g.longer in let y = h.within in omega (arith, x, y), g.same m h.within ∙ h.form_is)

pub adds_behind : (a b c : List Entry) (l : FormTree) (m : ℕ) → Grows a b → Adds b c l m → Adds a c l m
adds_behind a b c l m g h = record { grows = grows_on a b c g h.grows; within = h.within; form_is = h.form_is }

-- ---- a node that may be added

pub leaf_ready : (es : List Entry) (l k : Form) → AreSound es → is_leaf (form_tree l) ≡ true → form_tree k ≡ form_tree l → Readies es es (form_tree l) (Leaf k)
leaf_ready es l k sound leaf e = record { grows = grows_not es sound; inside = ap is_leaf e ∙ leaf; form_is = e }

pub then_ready : (a b c : List Entry) (l k : FormTree) (m n : ℕ) → Adds a b l m → Adds b c k n → Readies a c (form_then l k) (Then m n)
then_ready a b c l k m n g h =
    let first = stays a b c l m g h.grows in
    record { grows = grows_on a b c g.grows h.grows; inside = (first.0, h.within); form_is = rw (first.1, h.form_is) refl }

pub held_ready : (a b : List Entry) (kind : Kind) (l : FormTree) (m : ℕ) → Adds a b l m → Readies a b (mapped kind l) (Held kind m)
held_ready a b kind l m h = record { grows = h.grows; inside = h.within; form_is = ap (mapped kind) h.form_is }

pub inverse_ready : (a b : List Entry) (l : FormTree) (m : ℕ) → Adds a b l m → Readies a b (form_inv l) (Inverse m)
inverse_ready a b l m h = record { grows = h.grows; inside = h.within; form_is = ap (λ (k : FormTree). form_inv k) h.form_is }

pub partition_ready : (es : List Entry) (fs gs : Fields) → AreSound es → fields_tree gs ≡ fields_tree fs → Readies es es (form_part (fields_tree fs)) (Partition gs)
partition_ready es fs gs sound e = record { grows = grows_not es sound; inside = tt; form_is = ap (λ fs. form_part fs) e }

pub record_ready : (a b : List Entry) (rows : RowTrees) (copy : FormRows) (inside : Vec ℕ Global) → AddsLenses a b (row_lens (form_row_list rows)) inside.items → rows_tree copy ≡ rows
    → Readies a b (form_rec rows) (Record copy inside)
record_ready a b rows copy inside h e = record {
  grows = h.grows;
  inside = subst (λ (rs : RowTrees). AreLenses (form_at b) (length b) (row_lens (form_row_list rs)) inside.items) (sym e) h.lenses;
  form_is = ap (λ (rs : RowTrees). form_rec rs) e;
}

pub alternatives_ready : (a b : List Entry) (arms : ArmTrees) (copy : FormArms) (starts : Comps) (inside : Vec ℕ Global) → AddsLenses a b (arm_lens arms) inside.items → arms_tree copy ≡ arms
    → comps_tree starts ≡ arm_starts arms → Readies a b (form_alt arms) (Alternatives copy starts inside)
alternatives_ready a b arms copy starts inside h e s = record {
  grows = h.grows;
  inside = (s ∙ ap arm_starts (sym e), subst (λ (rs : ArmTrees). AreLenses (form_at b) (length b) (arm_lens rs) inside.items) (sym e) h.lenses);
  form_is = ap (λ (rs : ArmTrees). form_alt rs) e;
}

pub ruleset growth_rules = (adds_behind)

pub ruleset node_rules = (leaf_ready, then_ready, held_ready, inverse_ready, partition_ready, record_ready, alternatives_ready)
