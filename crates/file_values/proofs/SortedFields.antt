-- The fields of a record are read by their names as they are read from members in byte order.
use Rattle.std.proofs.Common.{◌≡◌, ℕ, Bool, true, false, ◌&&◌, ◌||◌, cond, bytes_eq, List, [], ◌∷◌, Ordering, Option, Some, None, option_map, option_and_then, refl, sym, ap, ap₂, ◌∙◌}
use Rattle.std.specs.declared.cmp.Ordering.TheVariants.{Less, Equal, Greater}
use Rattle.std.specs.Ordering.{nat_cmp, is_lt, match_ordering, ordering_reverse}
use Rattle.std.specs.Cmp.Lexicographic.{slice_cmp}
use Rattle.std.specs.FinMap.{slice_cmp-IsAntisymmetric, nat_cmp-IsAntisymmetric}
use Rattle.std.proofs.lemmas.Cmp.{nat_list_cmp_total}
use Rattle.json.specs.Json.{Json, Members, no_members, member}
use Rattle.json.specs.Strict.{keys}
use Rattle.texts.specs.Keys.{is_before, is_rising, has_name}
use Rattle.texts.proofs.Conjunction.{both}
use Rattle.texts.proofs.KeyOrder.{bytes_eq-refl, before-differs, before-trans, rising-first, rising-rest}
use Rattle.texts.proofs.Tests.{bytes_eq-is}
use Rattle.doc_values.specs.Documents.{DocTree, DocTrees, no_docs, more_docs}
use Rattle.file_forms.specs.Forms.{FileFormTree, FormFields, no_forms, more_forms, form_names}
use Rattle.file_forms.specs.Orders.{put, by_name, first_named}
use Rattle.file_forms.specs.FileValues.{read, read_fields}
use Rattle.file_forms.proofs.Facts.{refuted}
use Rattle.file_forms.proofs.Sorting.{by_name-is_rising}
use Rattle.file_forms.proofs.SortedMembers.{named-by_name}

-- ---- names that differ, either way

pub other : (n k : List ℕ) → is_before n k ≡ true → bytes_eq k n ≡ false
other n k h = refuted (bytes_eq k n) (λ e. let same = bytes_eq-is k n e in let no : true ≡ false = sym (bytes_eq-refl n) ∙ ap (bytes_eq n) (sym same) ∙ before-differs n k h in cc)

skip : (n k : List ℕ) (ks : List (List ℕ)) → is_rising (n ∷ k ∷ ks) ≡ true → is_rising (n ∷ ks) ≡ true
skip n k [] h = refl
skip n k (m ∷ ks) h =
    let rest = rising-rest n (k ∷ m ∷ ks) h in
    both (is_before n m) (is_rising (m ∷ ks)) (before-trans n k m (rising-first n (k ∷ m ∷ ks) h) (rising-first k (m ∷ ks) rest)) (rising-rest k (m ∷ ks) rest)

-- a name that comes before others is none of them
lacks : (n : List ℕ) (ks : List (List ℕ)) → is_rising (n ∷ ks) ≡ true → has_name n ks ≡ false
lacks n [] h = refl
lacks n (k ∷ ks) h = ap (λ b. b || has_name n ks) (before-differs n k (rising-first n (k ∷ ks) h)) ∙ lacks n ks (skip n k ks h)

-- ---- members that have a field

-- every member has one of the names
abbrev pub all_known : List (List ℕ) → Members → Bool
all_known ns no_members = true
all_known ns (member k j ms) = has_name k ns && all_known ns ms

swapped : (a b c : Bool) → (a && (b && c)) ≡ (b && (a && c))
swapped true b c = refl
swapped false true c = refl
swapped false false c = refl

twice : (a b : Bool) → (a && b) ≡ (a && (a && b))
twice true b = refl
twice false b = refl

known-put_by : (o : Ordering) (ns : List (List ℕ)) (k l : List ℕ) (j i : Json) (ms : Members) → slice_cmp nat_cmp k l ≡ o → all_known ns (put k j ms) ≡ (has_name k ns && all_known ns ms)
    → all_known ns (match_ordering o (member k j (member l i ms)) (member l j ms) (member l i (put k j ms))) ≡ (has_name k ns && (has_name l ns && all_known ns ms))
known-put_by Less ns k l j i ms e h = refl
known-put_by Equal ns k l j i ms e h =
    let same : k ≡ l = slice_cmp-IsAntisymmetric nat_cmp-IsAntisymmetric k l e in
    twice (has_name l ns) (all_known ns ms) ∙ ap (λ x. has_name x ns && (has_name l ns && all_known ns ms)) (sym same)
known-put_by Greater ns k l j i ms e h = ap (λ b. has_name l ns && b) h ∙ swapped (has_name l ns) (has_name k ns) (all_known ns ms)

known-put : (ns : List (List ℕ)) (k : List ℕ) (j : Json) (ms : Members) → all_known ns (put k j ms) ≡ (has_name k ns && all_known ns ms)
known-put ns k j no_members = refl
known-put ns k j (member l i ms) = known-put_by (slice_cmp nat_cmp k l) ns k l j i ms refl (known-put ns k j ms)

pub known-by_name : (ns : List (List ℕ)) (ms : Members) → all_known ns (by_name ms) ≡ all_known ns ms
known-by_name ns no_members = refl
known-by_name ns (member k j ms) = known-put ns k j (by_name ms) ∙ ap (λ b. has_name k ns && b) (known-by_name ns ms)

-- a name before all members is not needed
known_without : (n : List ℕ) (ns : List (List ℕ)) (ms : Members) → is_rising (n ∷ keys ms) ≡ true → all_known (n ∷ ns) ms ≡ all_known ns ms
known_without n ns no_members h = refl
known_without n ns (member k j ms) h =
    ap₂ (λ a b. (a || has_name k ns) && b) (other n k (rising-first n (k ∷ keys ms) h)) (known_without n ns ms (skip n k (keys ms) h))

-- ---- fields by their names

abbrev pub named_fields : FormFields → Members → Option DocTrees
named_fields no_forms ms = Some no_docs
named_fields (more_forms n f fs) ms = option_and_then (λ d. option_map (more_docs d) (named_fields fs ms)) (read f (first_named n ms))

-- the content of the first field, and those of the others
abbrev joined : Option DocTrees → Option DocTree → Option DocTrees
joined rest o = option_and_then (λ d. option_map (more_docs d) rest) o

named_alike : (fs : FormFields) (ms ns : Members) → ((n : List ℕ) → first_named n ms ≡ first_named n ns) → named_fields fs ms ≡ named_fields fs ns
named_alike no_forms ms ns h = refl
named_alike (more_forms n f fs) ms ns h = ap₂ (λ rest s. joined rest (read f s)) (named_alike fs ms ns h) (h n)

-- no member has a name that comes before all members
absent : (n : List ℕ) (ms : Members) → is_rising (n ∷ keys ms) ≡ true → first_named n ms ≡ None
absent n no_members h = refl
absent n (member k j ms) h = ap (λ b. cond b (Some j) (first_named n ms)) (before-differs n k (rising-first n (k ∷ keys ms) h)) ∙ absent n ms (skip n k (keys ms) h)

-- a member before all fields is that of none
named_without : (fs : FormFields) (k : List ℕ) (j : Json) (ms : Members) → is_rising (k ∷ form_names fs) ≡ true → named_fields fs (member k j ms) ≡ named_fields fs ms
named_without no_forms k j ms h = refl
named_without (more_forms n f fs) k j ms h =
    let apart = ap (λ b. cond b (Some j) (first_named n ms)) (other k n (rising-first k (n ∷ form_names fs) h)) in
    ap₂ (λ rest s. joined rest (read f s)) (named_without fs k j ms (skip k n (form_names fs) h)) apart

-- ---- in order

moved : (b : Bool) (rest : Option DocTrees) (o : Option DocTree) → joined (cond b rest None) o ≡ cond b (joined rest o) None
moved true rest o = refl
moved false rest None = refl
moved false rest (Some d) = refl

none_joined : (o : Option DocTree) → joined None o ≡ None
none_joined None = refl
none_joined (Some d) = refl

by_order : (o : Ordering) (n k : List ℕ) (j : Json) (ms : Members) (f : FileFormTree) (fs : FormFields) → slice_cmp nat_cmp n k ≡ o
    → is_rising (n ∷ form_names fs) ≡ true → is_rising (k ∷ keys ms) ≡ true
    → ((ns : Members) → is_rising (keys ns) ≡ true → read_fields fs ns ≡ cond (all_known (form_names fs) ns) (named_fields fs ns) None)
    → read_fields (more_forms n f fs) (member k j ms) ≡ cond (all_known (n ∷ form_names fs) (member k j ms)) (named_fields (more_forms n f fs) (member k j ms)) None
by_order Less n k j ms f fs e r s ih =
    let before : is_before n k ≡ true = ap is_lt e in
    let first = both (is_before n k) (is_rising (k ∷ keys ms)) before s in
    let apart = before-differs n k before in
    let names = form_names fs in
    let all = member k j ms in
    ap₂ (λ s t. joined (read_fields fs t) (read f s)) (ap (λ b. cond b (Some j) None) apart) (ap (λ b. cond b ms all) apart)
    ∙ ap (λ rest. joined rest (read f None)) (ih all s)
    ∙ moved (all_known names all) (named_fields fs all) (read f None)
    ∙ ap₂ (λ b s. cond b (joined (named_fields fs all) (read f s)) None) (sym (known_without n names all first)) (sym (absent n all first))
by_order Equal n k j ms f fs e r s ih =
    let same : n ≡ k = slice_cmp-IsAntisymmetric nat_cmp-IsAntisymmetric n k e in
    let equal : bytes_eq n k ≡ true = ap (bytes_eq n) (sym same) ∙ bytes_eq-refl n in
    let back : bytes_eq k n ≡ true = ap (λ x. bytes_eq x n) (sym same) ∙ bytes_eq-refl n in
    let names = form_names fs in
    let all = member k j ms in
    let first : is_rising (n ∷ keys ms) ≡ true = ap (λ x. is_rising (x ∷ keys ms)) same ∙ s in
    let later : is_rising (k ∷ names) ≡ true = ap (λ x. is_rising (x ∷ names)) (sym same) ∙ r in
    let known : all_known (n ∷ names) all ≡ all_known names ms = ap (λ b. (b || has_name k names) && all_known (n ∷ names) ms) back ∙ known_without n names ms first in
    ap₂ (λ s t. joined (read_fields fs t) (read f s)) (ap (λ b. cond b (Some j) None) equal) (ap (λ b. cond b ms all) equal)
    ∙ ap (λ rest. joined rest (read f (Some j))) (ih ms (rising-rest k (keys ms) s))
    ∙ moved (all_known names ms) (named_fields fs ms) (read f (Some j))
    ∙ ap₂ (λ rest t. cond (all_known names ms) (joined rest (read f t)) None) (sym (named_without fs k j ms later)) (sym (ap (λ b. cond b (Some j) (first_named n ms)) equal))
    ∙ ap (λ b. cond b (joined (named_fields fs all) (read f (first_named n all))) None) (sym known)
by_order Greater n k j ms f fs e r s ih =
    let before : is_before k n ≡ true = ap is_lt (nat_list_cmp_total.antisymm k n ∙ ap ordering_reverse e) in
    let names = form_names fs in
    let all = member k j ms in
    let front = both (is_before k n) (is_rising (n ∷ names)) before r in
    let strange : has_name k (n ∷ names) ≡ false = lacks k (n ∷ names) front in
    let strange_later : has_name k names ≡ false = lacks k names (skip k n names front) in
    let apart = other k n before in
    ap₂ (λ s t. joined (read_fields fs t) (read f s)) (ap (λ b. cond b (Some j) None) apart) (ap (λ b. cond b ms all) apart)
    ∙ ap (λ rest. joined rest (read f None)) (ih all s ∙ ap (λ b. cond (b && all_known names ms) (named_fields fs all) None) strange_later)
    ∙ none_joined (read f None)
    ∙ sym (ap (λ b. cond (b && all_known (n ∷ names) ms) (named_fields (more_forms n f fs) all) None) strange)

in_order : (fs : FormFields) (ms : Members) → is_rising (form_names fs) ≡ true → is_rising (keys ms) ≡ true → read_fields fs ms ≡ cond (all_known (form_names fs) ms) (named_fields fs ms) None
in_order no_forms no_members r s = refl
in_order no_forms (member k j ms) r s = refl
in_order (more_forms n f fs) no_members r s = ap (λ rest. joined rest (read f None)) (in_order fs no_members (rising-rest n (form_names fs) r) refl)
in_order (more_forms n f fs) (member k j ms) r s =
    by_order (slice_cmp nat_cmp n k) n k j ms f fs refl r s (λ ns t. in_order fs ns (rising-rest n (form_names fs) r) t)

pub fields_by_name : (fs : FormFields) (ms : Members) → is_rising (form_names fs) ≡ true → read_fields fs (by_name ms) ≡ cond (all_known (form_names fs) ms) (named_fields fs ms) None
fields_by_name fs ms r =
    in_order fs (by_name ms) r (by_name-is_rising ms)
    ∙ ap₂ (λ b o. cond b o None) (known-by_name (form_names fs) ms) (named_alike fs (by_name ms) ms (λ n. named-by_name n ms))
