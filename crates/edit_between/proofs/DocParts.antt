-- The trees of documents that were matched, and the types of their parts.
use Rattle.std.proofs.Common.{◌≡◌, ℕ, true, List, rules, ap, subst, ◌∙◌}
use Rattle.std.specs.declared.alloc.Global.{Global}
use Rattle.std.specs.declared.boxed.Box.{Box}
use Rattle.doc_values.specs.declared.doc.Doc.{Doc, the_lemmas}
use Rattle.doc_values.specs.declared.doc.Docs.{Docs}
use Rattle.doc_values.specs.declared.doc.Doc.TheVariants as made
use Rattle.doc_values.specs.Documents.{DocTree, rec, alt, doc_tree, docs_tree}
use Rattle.doc_values.specs.Types.{TyTree}
use Rattle.doc_values.specs.Typing.{has}

doc_tree-Rec : (ds : Docs) → doc_tree (made.Rec ds) ≡ rec (docs_tree ds)
doc_tree-Rec ds = search (rules, the_lemmas)

doc_tree-Alt : (n : List ℕ) (b : Box Doc Global) → doc_tree (made.Alt n b) ≡ alt n (doc_tree b.value)
doc_tree-Alt n b = search (rules, the_lemmas)

pub rec-is : (d : Doc) (ds : Docs) → d ≡ made.Rec ds → doc_tree d ≡ rec (docs_tree ds)
rec-is d ds e = ap doc_tree e ∙ doc_tree-Rec ds

pub alt-is : (d : Doc) (n : List ℕ) (b : Box Doc Global) → d ≡ made.Alt n b → doc_tree d ≡ alt n (doc_tree b.value)
alt-is d n b e = ap doc_tree e ∙ doc_tree-Alt n b

pub has-as : (t : TyTree) (d e : DocTree) → d ≡ e → has t d ≡ true → has t e ≡ true
has-as t d e k h = let P : DocTree → Type 0 = λ x. has t x ≡ true in subst P k h
