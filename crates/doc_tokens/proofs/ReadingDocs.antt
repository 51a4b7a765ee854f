-- Numbers and contents that are read one after another, and documents that are read part by part.
use Rattle.std.proofs.Common.{◌≡◌, ℕ, ◌-◌, ◌<◌, Bool, List, [], ◌∷◌, ◌++◌, Option, Some, None, option_map, option_and_then, codes, refl, sym, ap, ◌∙◌, arith, append-nil, IfSome, subst}
use Rattle.std.proofs.lemmas.List.{append_assoc}
use Rattle.json.specs.Token.{Token}
use Rattle.json.specs.Json.{after_end_array, read_key, parse_map}
use Rattle.json.proofs.Grammar.{value_is}
use Rattle.serde_json.specs.Data.{Data, null, boolean, array, object, Members, no_members, member, number, string}
use Rattle.serde_json.specs.Read.{of_json, converted}
use Rattle.doc_values.specs.Documents.{DocTree, DocTrees, no_docs, more_docs, docs_of, unit, truth, alt}
use Rattle.doc_values.specs.Types.{TyTree, FieldTrees, ty_unit, ty_bool, ty_alt, ty_keyed, ty_ordered}
use Rattle.doc_values.specs.Typing.{lookup_field}
use Rattle.value_json.specs.Numbers.{count_of, counts_of}
use Rattle.value_json.specs.DocumentJson.{document_of, item_documents, member_documents, member_names, keyed_document, ordered_document}
use Rattle.value_json.proofs.DocumentOf.{ordered_of, ordered_found, alt_of, tag_found}
use Rattle.value_json.proofs.ReadLoops.{then_docs, then_docs-nil}
use Rattle.json_tokens.specs.TreesAt.{read_at, read_items_at}
use Rattle.json_tokens.proofs.ReadParts.{read_of, more_read, end_read, array_read, one_member_read, two_members_read}
use Rattle.doc_tokens.specs.MembersAt.{entry_documents}

-- ---- numbers one after another

abbrev pub onto : List ℕ → Option (List ℕ × List Token) → Option (List ℕ × List Token)
onto ns r = parse_map (λ ms. ns ++ ms) r

onto_one_more : (ns : List ℕ) (n : ℕ) (o : Option (List ℕ × List Token)) → onto ns (parse_map (λ ms. n ∷ ms) o) ≡ onto (ns ++ n ∷ []) o
onto_one_more ns n None = refl
onto_one_more ns n (Some p) = ap (λ ms. Some (ms, p.1)) (sym (append_assoc ns (n ∷ []) p.0))

pub next_number : (depth : ℕ) (ns : List ℕ) (n : ℕ) (ts r : List Token) → read_at count_of depth ts ≡ Some (n, r)
    → onto ns (read_items_at counts_of depth ts) ≡ onto (ns ++ n ∷ []) (read_items_at counts_of depth r)
next_number depth ns n ts r e =
    ap (onto ns) (more_read count_of counts_of (λ m ms. m ∷ ms) (λ d ds. refl) depth ts r n e) ∙ onto_one_more ns n (read_items_at counts_of depth r)

pub numbers_end : (depth : ℕ) (ns : List ℕ) (ts r : List Token) → after_end_array ts ≡ Some r → onto ns (read_items_at counts_of depth ts) ≡ Some (ns, r)
numbers_end depth ns ts r e = ap (onto ns) (end_read counts_of depth ts r [] refl e) ∙ ap (λ ms. Some (ms, r)) (append-nil ns)

-- ---- contents one after another

abbrev pub onto_docs : List DocTree → Option (DocTrees × List Token) → Option (DocTrees × List Token)
onto_docs cs o = parse_map (then_docs cs) o

then_more : (cs : List DocTree) (c : DocTree) (ds : DocTrees) → then_docs cs (more_docs c ds) ≡ then_docs (cs ++ c ∷ []) ds
then_more [] c ds = refl
then_more (x ∷ cs) c ds = ap (more_docs x) (then_more cs c ds)

docs_one_more : (cs : List DocTree) (c : DocTree) (o : Option (DocTrees × List Token)) → onto_docs cs (parse_map (more_docs c) o) ≡ onto_docs (cs ++ c ∷ []) o
docs_one_more cs c None = refl
docs_one_more cs c (Some p) = ap (λ ds. Some (ds, p.1)) (then_more cs c p.0)

pub next_doc : (t : TyTree) (depth : ℕ) (cs : List DocTree) (c : DocTree) (ts r : List Token) → read_at (document_of t) depth ts ≡ Some (c, r)
    → onto_docs cs (read_items_at (item_documents t) depth ts) ≡ onto_docs (cs ++ c ∷ []) (read_items_at (item_documents t) depth r)
next_doc t depth cs c ts r e =
    ap (onto_docs cs) (more_read (document_of t) (item_documents t) more_docs (λ d ds. refl) depth ts r c e) ∙ docs_one_more cs c (read_items_at (item_documents t) depth r)

pub docs_end : (t : TyTree) (depth : ℕ) (cs : List DocTree) (ts r : List Token) → after_end_array ts ≡ Some r → onto_docs cs (read_items_at (item_documents t) depth ts) ≡ Some (docs_of cs, r)
docs_end t depth cs ts r e = ap (onto_docs cs) (end_read (item_documents t) depth ts r no_docs refl e) ∙ ap (λ ds. Some (ds, r)) (then_docs-nil cs)

-- ---- values without parts

pub unit_read : (depth : ℕ) (ts : List Token) → read_at (document_of ty_unit) depth (Token.null ∷ ts) ≡ Some (unit, ts)
unit_read depth ts = read_of (document_of ty_unit) depth (Token.null ∷ ts) null ts unit (ap (converted of_json) (value_is depth (Token.null ∷ ts))) refl

pub truth_read : (depth : ℕ) (b : Bool) (ts : List Token) → read_at (document_of ty_bool) depth (Token.boolean b ∷ ts) ≡ Some (truth b, ts)
truth_read depth b ts = read_of (document_of ty_bool) depth (Token.boolean b ∷ ts) (boolean b) ts (truth b) (ap (converted of_json) (value_is depth (Token.boolean b ∷ ts))) refl

pub if_some : {A : Type 0} {P Q : A → Type 0} (o : Option A) → ((a : A) → P a → Q a) → IfSome o P → IfSome o Q
if_some None f h = h
if_some (Some a) f h = f a h

-- ---- keyed maps, ordered trees and alternatives

abbrev with_names : List (List ℕ) → Option DocTrees → Option (List (List ℕ) × DocTrees)
with_names ns o = option_map (λ ds. (ns, ds)) o

abbrev names_in : List (List ℕ) → Option (List (List ℕ) × DocTrees) → List (List ℕ)
names_in x None = x
names_in x (Some p) = p.0

abbrev contents_in : DocTrees → Option (List (List ℕ) × DocTrees) → DocTrees
contents_in x None = x
contents_in x (Some p) = p.1

keyed_by : (t : TyTree) (ms : Members) (ns : List (List ℕ)) (ds : DocTrees) (doc : DocTree) (o : Option DocTrees) → member_documents t ms ≡ o → with_names (member_names ms) o ≡ Some (ns, ds)
    → keyed_document ns ds ≡ Some doc → document_of (ty_keyed t) (object ms) ≡ Some doc
keyed_by t ms ns ds doc None e h k = cc
keyed_by t ms ns ds doc (Some x) e h k =
    let names : member_names ms ≡ ns = ap (names_in (member_names ms)) h in
    let contents : x ≡ ds = ap (contents_in x) h in
    ap (option_and_then (keyed_document (member_names ms))) e ∙ ap (λ y. keyed_document (member_names ms) y) contents ∙ ap (λ y. keyed_document y ds) names ∙ k

pub keyed_gives : (t : TyTree) (ms : Members) (ns : List (List ℕ)) (ds : DocTrees) (doc : DocTree) → entry_documents t ms ≡ Some (ns, ds) → keyed_document ns ds ≡ Some doc → document_of (ty_keyed t) (object ms) ≡ Some doc
keyed_gives t ms ns ds doc h k = keyed_by t ms ns ds doc (member_documents t ms) refl h k

abbrev pub counts_in : Data → Option (List ℕ)
counts_in (array ns) = counts_of ns
counts_in _ = None

abbrev pub docs_in : TyTree → Data → Option DocTrees
docs_in t (array ds) = item_documents t ds
docs_in t _ = None

ordered_gives : (t : TyTree) (d e : Data) (depths : List ℕ) (vs : DocTrees) (doc : DocTree) → counts_in d ≡ Some depths → docs_in t e ≡ Some vs → ordered_document depths vs ≡ Some doc
    → document_of (ty_ordered t) (object (member (codes "depths") d (member (codes "items") e no_members))) ≡ Some doc
ordered_gives t (array ns) (array ds) depths vs doc p q k = ordered_of t (object (member (codes "depths") (array ns) (member (codes "items") (array ds) no_members))) ∙ ordered_found t ns ds depths vs p q ∙ k
ordered_gives t (array ns) null depths vs doc p q k = cc
ordered_gives t (array ns) (boolean b) depths vs doc p q k = cc
ordered_gives t (array ns) (number n) depths vs doc p q k = cc
ordered_gives t (array ns) (string s) depths vs doc p q k = cc
ordered_gives t (array ns) (object ms) depths vs doc p q k = cc
ordered_gives t null e depths vs doc p q k = cc
ordered_gives t (boolean b) e depths vs doc p q k = cc
ordered_gives t (number n) e depths vs doc p q k = cc
ordered_gives t (string s) e depths vs doc p q k = cc
ordered_gives t (object ms) e depths vs doc p q k = cc

pub ordered_read : (t : TyTree) (depth : ℕ) (t0 t1 t2 t3 t4 t5 : List Token) (depths : List ℕ) (vs : DocTrees) (doc : DocTree) → 1 < depth
    → read_key t0 ≡ Some (Some (codes "depths"), Token.begin_array ∷ t1) → read_items_at counts_of (depth - 2) t1 ≡ Some (depths, t2)
    → read_key t2 ≡ Some (Some (codes "items"), Token.begin_array ∷ t3) → read_items_at (item_documents t) (depth - 2) t3 ≡ Some (vs, t4)
    → read_key t4 ≡ Some (None, t5) → ordered_document depths vs ≡ Some doc → read_at (document_of (ty_ordered t)) depth (Token.begin_object ∷ t0) ≡ Some (doc, t5)
ordered_read t depth t0 t1 t2 t3 t4 t5 depths vs doc some key first other second end is =
    let lower : depth - 2 ≡ depth - 1 - 1 = omega arith in
    let deep : 0 < depth - 1 = omega arith in
    two_members_read counts_in (docs_in t) (document_of (ty_ordered t)) depth (codes "depths") (codes "items") t0 (Token.begin_array ∷ t1) t2 (Token.begin_array ∷ t3) t4 t5 depths vs doc (omega arith) key
    (array_read counts_of counts_in (depth - 1) t1 t2 depths depths deep (subst (λ n. read_items_at counts_of n t1 ≡ Some (depths, t2)) lower first) (λ ds h. h)) other
    (array_read (item_documents t) (docs_in t) (depth - 1) t3 t4 vs vs deep (subst (λ n. read_items_at (item_documents t) n t3 ≡ Some (vs, t4)) lower second) (λ ds h. h)) end
    (λ d e p q. ordered_gives t d e depths vs doc p q is)

pub tagged_read : (fs : FieldTrees) (depth : ℕ) (k : List ℕ) (s : ℕ × TyTree) (t0 t1 t2 t3 : List Token) (v : DocTree) → 0 < depth → lookup_field fs k ≡ Some s → read_key t0 ≡ Some (Some k, t1)
    → read_at (document_of s.1) (depth - 1) t1 ≡ Some (v, t2) → read_key t2 ≡ Some (None, t3) → read_at (document_of (ty_alt fs)) depth (Token.begin_object ∷ t0) ≡ Some (alt k v, t3)
tagged_read fs depth k s t0 t1 t2 t3 v some tag key e end =
    one_member_read (document_of s.1) (document_of (ty_alt fs)) depth k t0 t1 t2 t3 v (alt k v) some key e end (λ d h. alt_of fs (object (member k d no_members)) ∙ tag_found fs k v d s tag h)
