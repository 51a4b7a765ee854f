-- Types of different variants have different trees.
use Rattle.std.proofs.Common.{◌≡◌, ℕ, ℤ, false, List, IsTrue, sym, ap, ◌∙◌}
use Rattle.std.specs.Prelude.{◌↔◌}
use Rattle.std.specs.declared.alloc.Global.{Global}
use Rattle.std.specs.declared.boxed.Box.{Box}
use Rattle.doc_values.specs.Types.{TyTree, FieldTrees, ty_step, fields_step, ty_tree, fields_tree}
use Rattle.doc_values.specs.declared.ty.Ty.{Ty, Ty-F, out-Ty, roll-Ty, roll-out-Ty, map-Ty, fold_out-Ty}
use Rattle.doc_values.specs.declared.ty.Ty.TheVariants as made
use Rattle.doc_values.specs.declared.ty.Fields.{Fields}

abbrev step_of : Ty-F Ty Fields → TyTree
step_of o = ty_step (map-Ty Ty Fields TyTree FieldTrees ty_tree fields_tree o)

tree_out : (x : Ty) → ty_tree x ≡ step_of (out-Ty x)
tree_out x = fold_out-Ty TyTree FieldTrees ty_step fields_step x

-- what the test of sameness promises where it returns false
abbrev pub Differ : Ty → Ty → Type 0
Differ l r = IsTrue false ↔ (ty_tree l ≡ ty_tree r)

differ : (l r : Ty) (o : Ty-F Ty Fields) → out-Ty l ≡ o → (step_of o ≡ step_of (out-Ty r) → ⊥) → Differ l r
differ l r o e f = (λ h. cc, λ same. absurd (f (sym (ap step_of e) ∙ sym (tree_out l) ∙ same ∙ tree_out r)))

only-unit : (o : Ty-F Ty Fields) (r : Ty) → roll-Ty o ≡ r → (r ≡ made.Unit → ⊥) → step_of Ty-F.Unit ≡ step_of o → ⊥
only-unit Ty-F.Unit r e f h = f (sym e ∙ made.rolls-Unit)
only-unit _ r e f h = cc

pub not-unit : (l r : Ty) → l ≡ made.Unit → (r ≡ made.Unit → ⊥) → Differ l r
not-unit l r e f = differ l r Ty-F.Unit (ap out-Ty e ∙ made.outs-Unit) (only-unit (out-Ty r) r (roll-out-Ty r) f)

only-bool : (o : Ty-F Ty Fields) (r : Ty) → roll-Ty o ≡ r → (r ≡ made.Bool → ⊥) → step_of Ty-F.Bool ≡ step_of o → ⊥
only-bool Ty-F.Bool r e f h = f (sym e ∙ made.rolls-Bool)
only-bool _ r e f h = cc

pub not-bool : (l r : Ty) → l ≡ made.Bool → (r ≡ made.Bool → ⊥) → Differ l r
not-bool l r e f = differ l r Ty-F.Bool (ap out-Ty e ∙ made.outs-Bool) (only-bool (out-Ty r) r (roll-out-Ty r) f)

only-int : (o : Ty-F Ty Fields) (r : Ty) (z : ℤ) → roll-Ty o ≡ r → ((z' : ℤ) → r ≡ made.Int z' → ⊥) → step_of (Ty-F.Int z) ≡ step_of o → ⊥
only-int (Ty-F.Int z') r z e f h = f z' (sym e ∙ made.rolls-Int z')
only-int _ r z e f h = cc

pub not-int : (l r : Ty) (z : ℤ) → l ≡ made.Int z → ((z' : ℤ) → r ≡ made.Int z' → ⊥) → Differ l r
not-int l r z e f = differ l r (Ty-F.Int z) (ap out-Ty e ∙ made.outs-Int z) (only-int (out-Ty r) r z (roll-out-Ty r) f)

only-text : (o : Ty-F Ty Fields) (r : Ty) (s : List ℕ) → roll-Ty o ≡ r → ((s' : List ℕ) → r ≡ made.Text s' → ⊥) → step_of (Ty-F.Text s) ≡ step_of o → ⊥
only-text (Ty-F.Text s') r s e f h = f s' (sym e ∙ made.rolls-Text s')
only-text _ r s e f h = cc

pub not-text : (l r : Ty) (s : List ℕ) → l ≡ made.Text s → ((s' : List ℕ) → r ≡ made.Text s' → ⊥) → Differ l r
not-text l r s e f = differ l r (Ty-F.Text s) (ap out-Ty e ∙ made.outs-Text s) (only-text (out-Ty r) r s (roll-out-Ty r) f)

only-enum : (o : Ty-F Ty Fields) (r : Ty) (ms : List (List ℕ)) (n : List ℕ) → roll-Ty o ≡ r → ((ms' : List (List ℕ)) (n' : List ℕ) → r ≡ made.Enum ms' n' → ⊥) → step_of (Ty-F.Enum ms n) ≡ step_of o → ⊥
only-enum (Ty-F.Enum ms' n') r ms n e f h = f ms' n' (sym e ∙ made.rolls-Enum ms' n')
only-enum _ r ms n e f h = cc

pub not-enum : (l r : Ty) (ms : List (List ℕ)) (n : List ℕ) → l ≡ made.Enum ms n → ((ms' : List (List ℕ)) (n' : List ℕ) → r ≡ made.Enum ms' n' → ⊥) → Differ l r
not-enum l r ms n e f = differ l r (Ty-F.Enum ms n) (ap out-Ty e ∙ made.outs-Enum ms n) (only-enum (out-Ty r) r ms n (roll-out-Ty r) f)

only-rec : (o : Ty-F Ty Fields) (r : Ty) (fs : Fields) → roll-Ty o ≡ r → ((fs' : Fields) → r ≡ made.Rec fs' → ⊥) → step_of (Ty-F.Rec fs) ≡ step_of o → ⊥
only-rec (Ty-F.Rec fs') r fs e f h = f fs' (sym e ∙ made.rolls-Rec fs')
only-rec _ r fs e f h = cc

pub not-rec : (l r : Ty) (fs : Fields) → l ≡ made.Rec fs → ((fs' : Fields) → r ≡ made.Rec fs' → ⊥) → Differ l r
not-rec l r fs e f = differ l r (Ty-F.Rec fs) (ap out-Ty e ∙ made.outs-Rec fs) (only-rec (out-Ty r) r fs (roll-out-Ty r) f)

only-alt : (o : Ty-F Ty Fields) (r : Ty) (fs : Fields) → roll-Ty o ≡ r → ((fs' : Fields) → r ≡ made.Alt fs' → ⊥) → step_of (Ty-F.Alt fs) ≡ step_of o → ⊥
only-alt (Ty-F.Alt fs') r fs e f h = f fs' (sym e ∙ made.rolls-Alt fs')
only-alt _ r fs e f h = cc

pub not-alt : (l r : Ty) (fs : Fields) → l ≡ made.Alt fs → ((fs' : Fields) → r ≡ made.Alt fs' → ⊥) → Differ l r
not-alt l r fs e f = differ l r (Ty-F.Alt fs) (ap out-Ty e ∙ made.outs-Alt fs) (only-alt (out-Ty r) r fs (roll-out-Ty r) f)

only-list : (o : Ty-F Ty Fields) (r : Ty) (t : Box Ty Global) → roll-Ty o ≡ r → ((t' : Box Ty Global) → r ≡ made.List t' → ⊥) → step_of (Ty-F.List t) ≡ step_of o → ⊥
only-list (Ty-F.List t') r t e f h = f t' (sym e ∙ made.rolls-List t')
only-list _ r t e f h = cc

pub not-list : (l r : Ty) (t : Box Ty Global) → l ≡ made.List t → ((t' : Box Ty Global) → r ≡ made.List t' → ⊥) → Differ l r
not-list l r t e f = differ l r (Ty-F.List t) (ap out-Ty e ∙ made.outs-List t) (only-list (out-Ty r) r t (roll-out-Ty r) f)

only-keyed : (o : Ty-F Ty Fields) (r : Ty) (t : Box Ty Global) → roll-Ty o ≡ r → ((t' : Box Ty Global) → r ≡ made.Keyed t' → ⊥) → step_of (Ty-F.Keyed t) ≡ step_of o → ⊥
only-keyed (Ty-F.Keyed t') r t e f h = f t' (sym e ∙ made.rolls-Keyed t')
only-keyed _ r t e f h = cc

pub not-keyed : (l r : Ty) (t : Box Ty Global) → l ≡ made.Keyed t → ((t' : Box Ty Global) → r ≡ made.Keyed t' → ⊥) → Differ l r
not-keyed l r t e f = differ l r (Ty-F.Keyed t) (ap out-Ty e ∙ made.outs-Keyed t) (only-keyed (out-Ty r) r t (roll-out-Ty r) f)

only-tree : (o : Ty-F Ty Fields) (r : Ty) (t : Box Ty Global) → roll-Ty o ≡ r → ((t' : Box Ty Global) → r ≡ made.Tree t' → ⊥) → step_of (Ty-F.Tree t) ≡ step_of o → ⊥
only-tree (Ty-F.Tree t') r t e f h = f t' (sym e ∙ made.rolls-Tree t')
only-tree _ r t e f h = cc

pub not-tree : (l r : Ty) (t : Box Ty Global) → l ≡ made.Tree t → ((t' : Box Ty Global) → r ≡ made.Tree t' → ⊥) → Differ l r
not-tree l r t e f = differ l r (Ty-F.Tree t) (ap out-Ty e ∙ made.outs-Tree t) (only-tree (out-Ty r) r t (roll-out-Ty r) f)
