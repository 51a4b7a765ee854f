-- The forms of a table when a node is added behind the others.
use Rattle.std.proofs.Common.{◌≡◌, ◌⊎◌, inl, inr, ℕ, zero, suc, ◌+◌, ◌<◌, List, [], ◌∷◌, ◌++◌, length, Option, None, Some, option_map, refl, sym, ap, ◌∙◌, arith, length-append}
use Rattle.std.specs.Prelude.{slice_get}
use Rattle.std.proofs.Math.ListN.{get_or-append}
use Rattle.std.proofs.Math.Seq.{get_or-append_seam}
use Rattle.doc_values.specs.Types.{no_fields}
use Rattle.lens_forms.specs.Forms.{FormTree, form_part, form_inv}
use Rattle.lens_core.specs.Complements.{comp_tree, missing}
use Rattle.lens_steps.specs.Kinds.{mapped}
use Rattle.lens_flat.specs.Tables.{node_form, form_in, forms_behind, form_at, AreLenses, IsNode, IsEntry, AreSound, Adds}
use Rattle.lens_flat.specs.declared.node.Node.{Node}
use Rattle.lens_flat.specs.declared.node.Node.TheVariants.{Leaf, Then, Record, Alternatives, Held, Partition, Inverse}
use Rattle.lens_flat.specs.declared.node.Entry.{Entry}

-- ---- forms, one behind the other

forms-append : (es fs : List Entry) (done : List FormTree) → forms_behind done (es ++ fs) ≡ forms_behind (forms_behind done es) fs
forms-append [] fs done = refl
forms-append (e ∷ es) fs done = forms-append es fs (done ++ node_form (form_in done) e.node ∷ [])

forms-length : (es : List Entry) (done : List FormTree) → length (forms_behind done es) ≡ length done + length es
forms-length [] done = omega arith
forms-length (e ∷ es) done =
    let x : FormTree = node_form (form_in done) e.node in
    let rest = forms-length es (done ++ x ∷ []) in
    let one = length-append done (x ∷ []) in omega (arith, rest, one)

-- an earlier node keeps its form
pub form_before : (es : List Entry) (e : Entry) (n : ℕ) → n < length es → form_at (es ++ e ∷ []) n ≡ form_at es n
unfolding form_at
form_before es e n h =
    let forms = forms_behind [] es in
    let count = forms-length es [] in
    ap (λ (fs : List FormTree). form_in fs n) (forms-append es (e ∷ []) [])
    ∙ get_or-append forms (node_form (form_in forms) e.node ∷ []) (form_part no_fields) n (omega (arith, count))

-- the new node has the form of its constructor
pub form_here : (es : List Entry) (e : Entry) → form_at (es ++ e ∷ []) (length es) ≡ node_form (form_at es) e.node
unfolding form_at
form_here es e =
    let forms = forms_behind [] es in
    let count : length es ≡ length forms = let all = forms-length es [] in omega (arith, all) in
    ap (λ (fs : List FormTree). form_in fs (length es)) (forms-append es (e ∷ []) [])
    ∙ (ap (form_in (forms ++ node_form (form_in forms) e.node ∷ [])) count
    ∙ get_or-append_seam forms (node_form (form_in forms) e.node) [] (form_part no_fields))

-- ---- a node where the forms before it stay

same_inside : (f g : ℕ → FormTree) (o : Option ℕ) → ((k : ℕ) → o ≡ Some k → g k ≡ f k) → option_map f o ≡ option_map g o
same_inside f g None h = refl
same_inside f g (Some k) h = ap Some (sym (h k refl))

lenses_same : (f g : ℕ → FormTree) (n : ℕ) (lens : ℕ → Option FormTree) (inside : List ℕ) → ((k : ℕ) → k < n → g k ≡ f k) → AreLenses f n lens inside → AreLenses g n lens inside
lenses_same f g n lens inside same h = record {
  below = h.below;
  found = λ i. h.found i ∙ same_inside f g (slice_get inside i) (λ k e. same k (h.below i k e));
}

node_same : (f g : ℕ → FormTree) (n : ℕ) (node : Node) → ((k : ℕ) → k < n → g k ≡ f k) → IsNode f n node → (node_form f node ≡ node_form g node) × IsNode g n node
node_same f g n (Leaf form) same h = (refl, h)
node_same f g n (Then a b) same h = let e = same a h.0 in let d = same b h.1 in (rw (e, d) refl, h)
node_same f g n (Record rows inside) same h = (refl, lenses_same f g n _ inside.items same h)
node_same f g n (Alternatives arms starts inside) same h = (refl, (h.0, lenses_same f g n _ inside.items same h.1))
node_same f g n (Held kind a) same h = (ap (mapped kind) (sym (same a h)), h)
node_same f g n (Partition tags) same h = (refl, h)
node_same f g n (Inverse a) same h = (ap (λ (l : FormTree). form_inv l) (sym (same a h)), h)

-- ---- a sound table with one more node

-- an entry of the longer table is an earlier one, or the new one
snoc_cases : {A : Type 0} (xs : List A) (y : A) (n : ℕ) (x : A) → slice_get (xs ++ y ∷ []) n ≡ Some x
    → ((n < length xs) × (slice_get xs n ≡ Some x)) ⊎ ((n ≡ length xs) × (x ≡ y))
snoc_cases [] y zero x h = inr (refl, cc)
snoc_cases [] y (suc n) x h = cc
snoc_cases (z ∷ xs) y zero x h = inl (omega arith, h)
snoc_cases (z ∷ xs) y (suc n) x h = elim (snoc_cases xs y n x h) [ inl p ↦ (let low = p.0 in inl (omega arith, p.1)) | inr p ↦ (let same = p.0 in inr (omega arith, p.1)) ]

old_entry : (es : List Entry) (e : Entry) (n : ℕ) (x : Entry) → n < length es → IsEntry es n x → IsEntry (es ++ e ∷ []) n x
old_entry es e n x h old =
    let same : (k : ℕ) → k < n → form_at (es ++ e ∷ []) k ≡ form_at es k = λ k low. form_before es e k (omega (arith, h, low)) in
    let moved = node_same (form_at es) (form_at (es ++ e ∷ [])) n x.node same old.inside in
    let before = form_before es e n h in
    record { inside = moved.1; form_is = before ∙ (old.form_is ∙ moved.0); start = old.start ∙ ap missing (sym before) }

new_entry : (es : List Entry) (e : Entry) (form : FormTree) → IsNode (form_at es) (length es) e.node → node_form (form_at es) e.node ≡ form → comp_tree e.missing ≡ missing form
    → IsEntry (es ++ e ∷ []) (length es) e
new_entry es e form inside is start =
    let same : (k : ℕ) → k < length es → form_at (es ++ e ∷ []) k ≡ form_at es k = λ k low. form_before es e k low in
    let moved = node_same (form_at es) (form_at (es ++ e ∷ [])) (length es) e.node same inside in
    let here = form_here es e in
    record { inside = moved.1; form_is = here ∙ moved.0; start = start ∙ ap missing (sym (here ∙ is)) }

at_number : (table : List Entry) (m n : ℕ) (x y : Entry) → n ≡ m → x ≡ y → IsEntry table m y → IsEntry table n x
at_number table m n x y e f h = rw (e, f) h

pub pushed : (es : List Entry) (e : Entry) (form : FormTree) → AreSound es → IsNode (form_at es) (length es) e.node → node_form (form_at es) e.node ≡ form → comp_tree e.missing ≡ missing form
    → Adds es (es ++ e ∷ []) form (length es)
pushed es e form sound inside is start = record {
  grows = record {
    sound = λ n x h. elim (snoc_cases es e n x h) [
      | inl p ↦ old_entry es e n x p.0 (sound n x p.1)
      | inr p ↦ at_number (es ++ e ∷ []) (length es) n x e p.0 p.1 (new_entry es e form inside is start)
    ];
    longer = let all = length-append es (e ∷ []) in omega (arith, all);
    same = λ n h. form_before es e n h;
  };
  within = let all = length-append es (e ∷ []) in omega (arith, all);
  form_is = form_here es e ∙ is;
}
