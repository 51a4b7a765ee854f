-- Documents of different variants have different trees.
use Rattle.std.proofs.Common.{◌≡◌, ℕ, ℤ, Bool, false, List, IsTrue, sym, ap, ◌∙◌}
use Rattle.std.specs.Prelude.{◌↔◌}
use Rattle.std.specs.declared.alloc.Global.{Global}
use Rattle.std.specs.declared.boxed.Box.{Box}
use Rattle.hold_shapes.specs.declared.shape.Shape.{Shape}
use Rattle.doc_values.specs.Documents.{DocTree, DocTrees, doc_step, docs_step, doc_tree, docs_tree}
use Rattle.doc_values.specs.declared.doc.Doc.{Doc, Doc-F, out-Doc, roll-Doc, roll-out-Doc, map-Doc, fold_out-Doc}
use Rattle.doc_values.specs.declared.doc.Doc.TheVariants as made
use Rattle.doc_values.specs.declared.doc.Docs.{Docs}

abbrev step_of : Doc-F Doc Docs → DocTree
step_of o = doc_step (map-Doc Doc Docs DocTree DocTrees doc_tree docs_tree o)

tree_out : (x : Doc) → doc_tree x ≡ step_of (out-Doc x)
tree_out x = fold_out-Doc DocTree DocTrees doc_step docs_step x

-- what the test of sameness promises where it returns false
abbrev pub Differ : Doc → Doc → Type 0
Differ l r = IsTrue false ↔ (doc_tree l ≡ doc_tree r)

differ : (l r : Doc) (o : Doc-F Doc Docs) → out-Doc l ≡ o → (step_of o ≡ step_of (out-Doc r) → ⊥) → Differ l r
differ l r o e f = (λ h. cc, λ same. absurd (f (sym (ap step_of e) ∙ sym (tree_out l) ∙ same ∙ tree_out r)))

only-unit : (o : Doc-F Doc Docs) (r : Doc) → roll-Doc o ≡ r → (r ≡ made.Unit → ⊥) → step_of Doc-F.Unit ≡ step_of o → ⊥
only-unit Doc-F.Unit r e f h = f (sym e ∙ made.rolls-Unit)
only-unit _ r e f h = cc

pub not-unit : (l r : Doc) → l ≡ made.Unit → (r ≡ made.Unit → ⊥) → Differ l r
not-unit l r e f = differ l r Doc-F.Unit (ap out-Doc e ∙ made.outs-Unit) (only-unit (out-Doc r) r (roll-out-Doc r) f)

only-bool : (o : Doc-F Doc Docs) (r : Doc) (b : Bool) → roll-Doc o ≡ r → ((b' : Bool) → r ≡ made.Bool b' → ⊥) → step_of (Doc-F.Bool b) ≡ step_of o → ⊥
only-bool (Doc-F.Bool b') r b e f h = f b' (sym e ∙ made.rolls-Bool b')
only-bool _ r b e f h = cc

pub not-bool : (l r : Doc) (b : Bool) → l ≡ made.Bool b → ((b' : Bool) → r ≡ made.Bool b' → ⊥) → Differ l r
not-bool l r b e f = differ l r (Doc-F.Bool b) (ap out-Doc e ∙ made.outs-Bool b) (only-bool (out-Doc r) r b (roll-out-Doc r) f)

only-int : (o : Doc-F Doc Docs) (r : Doc) (z : ℤ) → roll-Doc o ≡ r → ((z' : ℤ) → r ≡ made.Int z' → ⊥) → step_of (Doc-F.Int z) ≡ step_of o → ⊥
only-int (Doc-F.Int z') r z e f h = f z' (sym e ∙ made.rolls-Int z')
only-int _ r z e f h = cc

pub not-int : (l r : Doc) (z : ℤ) → l ≡ made.Int z → ((z' : ℤ) → r ≡ made.Int z' → ⊥) → Differ l r
not-int l r z e f = differ l r (Doc-F.Int z) (ap out-Doc e ∙ made.outs-Int z) (only-int (out-Doc r) r z (roll-out-Doc r) f)

only-text : (o : Doc-F Doc Docs) (r : Doc) (s : List ℕ) → roll-Doc o ≡ r → ((s' : List ℕ) → r ≡ made.Text s' → ⊥) → step_of (Doc-F.Text s) ≡ step_of o → ⊥
only-text (Doc-F.Text s') r s e f h = f s' (sym e ∙ made.rolls-Text s')
only-text _ r s e f h = cc

pub not-text : (l r : Doc) (s : List ℕ) → l ≡ made.Text s → ((s' : List ℕ) → r ≡ made.Text s' → ⊥) → Differ l r
not-text l r s e f = differ l r (Doc-F.Text s) (ap out-Doc e ∙ made.outs-Text s) (only-text (out-Doc r) r s (roll-out-Doc r) f)

only-pick : (o : Doc-F Doc Docs) (r : Doc) (n : List ℕ) → roll-Doc o ≡ r → ((n' : List ℕ) → r ≡ made.Pick n' → ⊥) → step_of (Doc-F.Pick n) ≡ step_of o → ⊥
only-pick (Doc-F.Pick n') r n e f h = f n' (sym e ∙ made.rolls-Pick n')
only-pick _ r n e f h = cc

pub not-pick : (l r : Doc) (n : List ℕ) → l ≡ made.Pick n → ((n' : List ℕ) → r ≡ made.Pick n' → ⊥) → Differ l r
not-pick l r n e f = differ l r (Doc-F.Pick n) (ap out-Doc e ∙ made.outs-Pick n) (only-pick (out-Doc r) r n (roll-out-Doc r) f)

only-rec : (o : Doc-F Doc Docs) (r : Doc) (ds : Docs) → roll-Doc o ≡ r → ((ds' : Docs) → r ≡ made.Rec ds' → ⊥) → step_of (Doc-F.Rec ds) ≡ step_of o → ⊥
only-rec (Doc-F.Rec ds') r ds e f h = f ds' (sym e ∙ made.rolls-Rec ds')
only-rec _ r ds e f h = cc

pub not-rec : (l r : Doc) (ds : Docs) → l ≡ made.Rec ds → ((ds' : Docs) → r ≡ made.Rec ds' → ⊥) → Differ l r
not-rec l r ds e f = differ l r (Doc-F.Rec ds) (ap out-Doc e ∙ made.outs-Rec ds) (only-rec (out-Doc r) r ds (roll-out-Doc r) f)

only-alt : (o : Doc-F Doc Docs) (r : Doc) (n : List ℕ) (d : Box Doc Global) → roll-Doc o ≡ r → ((n' : List ℕ) (d' : Box Doc Global) → r ≡ made.Alt n' d' → ⊥) → step_of (Doc-F.Alt n d) ≡ step_of o → ⊥
only-alt (Doc-F.Alt n' d') r n d e f h = f n' d' (sym e ∙ made.rolls-Alt n' d')
only-alt _ r n d e f h = cc

pub not-alt : (l r : Doc) (n : List ℕ) (d : Box Doc Global) → l ≡ made.Alt n d → ((n' : List ℕ) (d' : Box Doc Global) → r ≡ made.Alt n' d' → ⊥) → Differ l r
not-alt l r n d e f = differ l r (Doc-F.Alt n d) (ap out-Doc e ∙ made.outs-Alt n d) (only-alt (out-Doc r) r n d (roll-out-Doc r) f)

only-hold : (o : Doc-F Doc Docs) (r : Doc) (s : Shape) (ds : Docs) → roll-Doc o ≡ r → ((s' : Shape) (ds' : Docs) → r ≡ made.Hold s' ds' → ⊥) → step_of (Doc-F.Hold s ds) ≡ step_of o → ⊥
only-hold (Doc-F.Hold s' ds') r s ds e f h = f s' ds' (sym e ∙ made.rolls-Hold s' ds')
only-hold _ r s ds e f h = cc

pub not-hold : (l r : Doc) (s : Shape) (ds : Docs) → l ≡ made.Hold s ds → ((s' : Shape) (ds' : Docs) → r ≡ made.Hold s' ds' → ⊥) → Differ l r
not-hold l r s ds e f = differ l r (Doc-F.Hold s ds) (ap out-Doc e ∙ made.outs-Hold s ds) (only-hold (out-Doc r) r s ds (roll-out-Doc r) f)
