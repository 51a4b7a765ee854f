-- One level of a document, and what fails with a part.
use Rattle.std.proofs.Common.{◌≡◌, ℕ, ◌*◌, ◌<◌, ◌≤◌, String, string_bytes, arith, Option, Some, None, Result, Ok, Err, IfOk, OnOk, IsErrOf, Global, true, ap, ◌∙◌, rules}
use Rattle.hold_shapes.specs.declared.shape.Shape.{Shape}
use Rattle.doc_values.specs.Documents.{DocTree, hold, doc_tree, docs_tree}
use Rattle.doc_values.specs.declared.doc.Doc.{Hold, the_lemmas}
use Rattle.doc_values.specs.declared.doc.Docs.{Docs}
use Rattle.doc_values.specs.Types.{TyTree}
use Rattle.doc_values.specs.Typing.{has}
use Rattle.std.specs.declared.alloc.AllocError.{AllocError}
use Rattle.serde_json.specs.Data.{Data, depth}
use Rattle.serde_json.specs.Read.{read, max_depth}
use Rattle.serde_json.specs.Written.{compact_text}
use Rattle.serde_json.specs.View.{view}
use Rattle.serde_json.specs.declared.value.Value.{Value}
use Rattle.value_json.specs.DocumentJson.{tree_of_document, document_of, holds_i64s}
use Rattle.value_json.proofs.WritingReadsBack.{again}
use Rattle.value_json.specs.Reading.{Refuses, Gives}
use Rattle.value_json.specs.declared.fault.DocFault.{DocFault}
use Rattle.value_json.specs.declared.fault.DocFault.TheVariants.{NotOfType, NoMemory}

pub doc_tree-Hold : (s : Shape) (ds : Docs) → doc_tree (Hold s ds) ≡ hold s (docs_tree ds)
doc_tree-Hold s ds = search (rules, the_lemmas)

-- what is refused with a part of the tree is refused with the whole
pub refused_with : {X Y : Type 0} (fault : DocFault) (part : Option X) (whole : Option Y) → (part ≡ None → whole ≡ None) → Refuses fault part → Refuses fault whole
refused_with NotOfType part whole as_part h = as_part h
refused_with NoMemory part whole as_part h = tt

-- ---- what is given, and what is refused

pub given_some : {X Y : Type 0} (view : X → Y) (P : Y → Type 0) (r : Result X DocFault) (read : Option Y) → ((y : Y) → read ≡ Some y → P y) → Gives view r read → IfOk r (λ x. P (view x))
given_some view P (Ok x) read h g = h (view x) g
given_some view P (Err e) read h g = tt

pub refused_none : {X Y : Type 0} (view : X → Y) (r : Result X DocFault) (read : Option Y) → IsErrOf r NotOfType → Gives view r read → read ≡ None
refused_none view (Ok x) read h g = cc
refused_none view (Err NotOfType) read h g = g
refused_none view (Err NoMemory) read h g = cc

-- ---- what is written

pub written_back : (r : Result Value AllocError) (t : TyTree) (d : DocTree) → has t d ≡ true → IfOk r (λ tree. view tree ≡ tree_of_document t d) → OnOk r (holds_i64s d ≡ true) → IfOk r (λ tree. document_of t (view tree) ≡ Some d)
written_back (Ok tree) t d typed is fits = ap (document_of t) is ∙ again t d typed fits
written_back (Err e) t d typed is fits = tt

pub written_text : (r : Result (String Global) AllocError) (d e : Data) → d ≡ e → IfOk r (λ s. string_bytes s ≡ compact_text d) → IfOk r (λ s. string_bytes s ≡ compact_text e)
written_text (Ok s) d e same h = h ∙ ap compact_text same
written_text (Err f) d e same h = tt

pub text_back : (r : Result (String Global) AllocError) (d e : Data) (n : ℕ) → d ≡ e → depth e < 2 * n → IfOk r (λ s. depth d ≤ max_depth → read (string_bytes s) ≡ Some d) → IfOk r (λ s. n ≤ 64 → read (string_bytes s) ≡ Some e)
text_back (Ok s) d e n same low h = λ k. let level = ap depth same in let fits : depth d ≤ max_depth = omega (arith, low, level, k) in h fits ∙ ap Some same
text_back (Err f) d e n same low h = tt
