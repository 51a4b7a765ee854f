-- Where no name is repeated, the names of each side are distinct.
use Rattle.std.proofs.Common.{◌≡◌, ℕ, Bool, true, false, ◌&&◌, ◌||◌, List, [], ◌∷◌, ◌++◌, length, map, take, drop, get_or, suc, ◌+◌, ◌<◌, Option, Some, None, refl, ap, ap₂, sym, ◌∙◌, subst, add-one, drop-cons}
use mathlib.Core.Bool.{beq}
use Rattle.std.specs.Borrow.{Bor}
use Rattle.std.specs.List.{list_any}
use Rattle.std.proofs.lemmas.List.{take_more, map-append}
use Rattle.std.specs.Prelude.{bytes_eq, not, if◌then◌else◌}
use Rattle.std.proofs.lemmas.Slice.Eq.{bytes_eq-Decides}
use Rattle.texts.specs.Keys.{has_name}
use Rattle.doc_values.specs.Types.{names_of, are_distinct}
use Rattle.texts.proofs.Conjunction.{first as first_and, second as second_and}
use Rattle.texts.proofs.KeyOrder.{bytes_eq-refl}
use Rattle.program_terms.specs.Terms as Term
use Rattle.lens_forms.specs.Forms.{lefts, rights}
use Rattle.lens_forms.specs.Typing.{left_names, right_names, left_arms, right_arms}
use Rattle.lens_types.specs.Earlier.{Definitions, expanded_fields, expanded_rows, expanded_arms}
use Rattle.lens_types.specs.Repeats.{SidedName, sided, is_same_side, is_same_name, is_among, repeat_after, first_repeat, sided_members, field_names, pair_names, row_names, arm_names}
use Rattle.texts.specs.declared.side.Side.{Side}
use Rattle.texts.specs.declared.side.Side.TheVariants.{Left, Right}
use Rattle.texts.proofs.Tests.{or_second}
use Rattle.std.proofs.lemmas.Bool.{false_from_ne_true}

-- the names of a side
abbrev pub on : Side → List SidedName → List (List ℕ)
on e [] = []
on e (n ∷ ns) = if is_same_side e n.0 then n.1 ∷ on e ns else on e ns

pub same_side : (e : Side) → is_same_side e e ≡ true
same_side Left = refl
same_side Right = refl

pub side_is : (e f : Side) → is_same_side e f ≡ true → e ≡ f
side_is Left Left h = refl
side_is Right Right h = refl
side_is Left Right h = cc
side_is Right Left h = cc

among_front : (n : SidedName) (ms ns : List SidedName) → is_among n ms ≡ true → is_among n (ms ++ ns) ≡ true
among_front n [] ns h = cc
among_front n (m ∷ ms) ns h =
    elim (is_same_name n m) as (λ b. (b || is_among n ms) ≡ true → (b || is_among n (ms ++ ns)) ≡ true)
    [ true ↦ λ k. refl | false ↦ λ k. among_front n ms ns k ] h

among_last : (n : SidedName) (ms : List SidedName) → is_among n (ms ++ n ∷ []) ≡ true
among_last n [] = rw (same_side n.0, bytes_eq-refl n.1) refl
among_last n (m ∷ ms) = or_second (is_same_name n m) (is_among n (ms ++ n ∷ [])) (among_last n ms)

-- the first name is not among those before it, and the rest repeats nothing either
pub none_here : (b : Bool) (n : List ℕ) (rest : Option (List ℕ)) → (if b then Some n else rest) ≡ None → (b ≡ false) × (rest ≡ None)
none_here true n rest h = cc
none_here false n rest h = (refl, h)

-- a name that is among some names is not one that is not
differs : (e : Side) (n : List ℕ) (m : SidedName) (before : List SidedName) → is_among (e, n) before ≡ true → is_among m before ≡ false
    → is_same_name (e, n) m ≡ false
differs e n m before k new =
    false_from_ne_true (is_same_name (e, n) m)
    (λ (h : is_same_name (e, n) m ≡ true).
    let side : e ≡ m.0 = side_is e m.0 (first_and (is_same_side e m.0) (bytes_eq n m.1) h) in
    let name : n ≡ m.1 = (bytes_eq-Decides n m.1).0 (second_and (is_same_side e m.0) (bytes_eq n m.1) h) in
    let yes : is_among (m.0, m.1) before ≡ true = subst (λ (y : List ℕ). is_among (m.0, y) before ≡ true) name (subst (λ (x : Side). is_among (x, n) before ≡ true) side k) in
    let no : true ≡ false = sym yes ∙ new in
    cc)

apart-step : (s : Bool) (x n : List ℕ) (others : List (List ℕ)) → (s && bytes_eq n x) ≡ false → has_name n others ≡ false
    → has_name n (if s then x ∷ others else others) ≡ false
apart-step true x n others h r = rw (h, r) refl
apart-step false x n others h r = r

-- a name of a side that is among those before is not among those behind
repeat-apart : (before ns : List SidedName) (e : Side) (n : List ℕ) → repeat_after before ns ≡ None → is_among (e, n) before ≡ true
    → has_name n (on e ns) ≡ false
repeat-apart before [] e n h k = refl
repeat-apart before (m ∷ ms) e n h k =
    let new = none_here (is_among m before) m.1 (repeat_after (before ++ m ∷ []) ms) h in
    apart-step (is_same_side e m.0) m.1 n (on e ms) (differs e n m before k new.0)
    (repeat-apart (before ++ m ∷ []) ms e n new.1 (among_front (e, n) before (m ∷ []) k))

distinct-step : (s : Bool) (x : List ℕ) (others : List (List ℕ)) → (s ≡ true → has_name x others ≡ false) → are_distinct others ≡ true
    → are_distinct (if s then x ∷ others else others) ≡ true
distinct-step true x others f r = rw (f refl, r) refl
distinct-step false x others f r = r

last_of_side : (e : Side) (m : SidedName) (before : List SidedName) → is_same_side e m.0 ≡ true → is_among (e, m.1) (before ++ m ∷ []) ≡ true
last_of_side e m before s =
    let P : Side → Type 0 = λ x. is_among (x, m.1) (before ++ m ∷ []) ≡ true in
    subst P (sym (side_is e m.0 s)) (among_last m before)

repeat-distinct : (before ns : List SidedName) (e : Side) → repeat_after before ns ≡ None → are_distinct (on e ns) ≡ true
repeat-distinct before [] e h = refl
repeat-distinct before (m ∷ ms) e h =
    let new = none_here (is_among m before) m.1 (repeat_after (before ++ m ∷ []) ms) h in
    distinct-step (is_same_side e m.0) m.1 (on e ms)
    (λ (s : is_same_side e m.0 ≡ true). repeat-apart (before ++ m ∷ []) ms e m.1 new.1 (last_of_side e m before s))
    (repeat-distinct (before ++ m ∷ []) ms e new.1)

sides_distinct : (ns : List SidedName) (e : Side) (names : List (List ℕ)) → on e ns ≡ names → first_repeat ns ≡ None → are_distinct names ≡ true
sides_distinct ns e names same h = subst (λ (xs : List (List ℕ)). are_distinct xs ≡ true) same (repeat-distinct [] ns e h)

-- ---- the names of each side, list by list

pub on-members : (ms : List (List ℕ)) → on Left (sided_members ms) ≡ ms
on-members [] = refl
on-members (m ∷ ms) = ap (λ xs. m ∷ xs) (on-members ms)

pub on-fields : (ds : Definitions) (fs : Term.TermFields) → on Left (field_names fs) ≡ names_of (expanded_fields ds fs)
on-fields ds Term.no_fields = refl
on-fields ds (Term.more_fields n t fs) = ap (λ xs. n ∷ xs) (on-fields ds fs)

pub on-lefts : (ps : List (List ℕ × List ℕ)) → on Left (pair_names ps) ≡ lefts ps
on-lefts [] = refl
on-lefts (p ∷ ps) = ap (λ xs. p.0 ∷ xs) (on-lefts ps)

pub on-rights : (ps : List (List ℕ × List ℕ)) → on Right (pair_names ps) ≡ rights ps
on-rights [] = refl
on-rights (p ∷ ps) = ap (λ xs. p.1 ∷ xs) (on-rights ps)

pub on-left_names : (ds : Definitions) (rows : Term.TermRows) → on Left (row_names rows) ≡ left_names (expanded_rows ds rows)
on-left_names ds Term.no_rows = refl
on-left_names ds (Term.both a b l rows) = ap (λ xs. a ∷ xs) (on-left_names ds rows)
on-left_names ds (Term.only_left a t rows) = ap (λ xs. a ∷ xs) (on-left_names ds rows)
on-left_names ds (Term.only_right b t rows) = on-left_names ds rows

pub on-right_names : (ds : Definitions) (rows : Term.TermRows) → on Right (row_names rows) ≡ right_names (expanded_rows ds rows)
on-right_names ds Term.no_rows = refl
on-right_names ds (Term.both a b l rows) = ap (λ xs. b ∷ xs) (on-right_names ds rows)
on-right_names ds (Term.only_left a t rows) = on-right_names ds rows
on-right_names ds (Term.only_right b t rows) = ap (λ xs. b ∷ xs) (on-right_names ds rows)

pub on-left_arms : (ds : Definitions) (arms : Term.TermArms) → on Left (arm_names arms) ≡ left_arms (expanded_arms ds arms)
on-left_arms ds Term.no_arms = refl
on-left_arms ds (Term.more_arms a b l arms) = ap (λ xs. a ∷ xs) (on-left_arms ds arms)

pub on-right_arms : (ds : Definitions) (arms : Term.TermArms) → on Right (arm_names arms) ≡ right_arms (expanded_arms ds arms)
on-right_arms ds Term.no_arms = refl
on-right_arms ds (Term.more_arms a b l arms) = ap (λ xs. b ∷ xs) (on-right_arms ds arms)

-- ---- so they are distinct

pub members_distinct : (ms : List (List ℕ)) → first_repeat (sided_members ms) ≡ None → are_distinct ms ≡ true
members_distinct ms h = sides_distinct (sided_members ms) Left ms (on-members ms) h

pub fields_distinct : (ds : Definitions) (fs : Term.TermFields) → first_repeat (field_names fs) ≡ None → are_distinct (names_of (expanded_fields ds fs)) ≡ true
fields_distinct ds fs h = sides_distinct (field_names fs) Left _ (on-fields ds fs) h

pub lefts_distinct : (ps : List (List ℕ × List ℕ)) → first_repeat (pair_names ps) ≡ None → are_distinct (lefts ps) ≡ true
lefts_distinct ps h = sides_distinct (pair_names ps) Left _ (on-lefts ps) h

pub rights_distinct : (ps : List (List ℕ × List ℕ)) → first_repeat (pair_names ps) ≡ None → are_distinct (rights ps) ≡ true
rights_distinct ps h = sides_distinct (pair_names ps) Right _ (on-rights ps) h

pub left_names_distinct : (ds : Definitions) (rows : Term.TermRows) → first_repeat (row_names rows) ≡ None → are_distinct (left_names (expanded_rows ds rows)) ≡ true
left_names_distinct ds rows h = sides_distinct (row_names rows) Left _ (on-left_names ds rows) h

pub right_names_distinct : (ds : Definitions) (rows : Term.TermRows) → first_repeat (row_names rows) ≡ None → are_distinct (right_names (expanded_rows ds rows)) ≡ true
right_names_distinct ds rows h = sides_distinct (row_names rows) Right _ (on-right_names ds rows) h

pub left_arms_distinct : (ds : Definitions) (arms : Term.TermArms) → first_repeat (arm_names arms) ≡ None → are_distinct (left_arms (expanded_arms ds arms)) ≡ true
left_arms_distinct ds arms h = sides_distinct (arm_names arms) Left _ (on-left_arms ds arms) h

pub right_arms_distinct : (ds : Definitions) (arms : Term.TermArms) → first_repeat (arm_names arms) ≡ None → are_distinct (right_arms (expanded_arms ds arms)) ≡ true
right_arms_distinct ds arms h = sides_distinct (arm_names arms) Right _ (on-right_arms ds arms) h

-- ---- a set of names with their sides

-- a key of the set, as a name with its side
abbrev pub key_name : Bool × Bor (List ℕ) → SidedName
key_name k = (if k.0 then Left else Right, k.1.now)

same_key-step : (b c : Bool) (m n : List ℕ) → (beq b c && bytes_eq m n) ≡ is_same_name (if b then Left else Right, m) (if c then Left else Right, n)
same_key-step true true m n = refl
same_key-step true false m n = refl
same_key-step false true m n = refl
same_key-step false false m n = refl

pub same_key : (v k : Bool × Bor (List ℕ)) → (beq v.0 k.0 && bytes_eq v.1.now k.1.now) ≡ is_same_name (key_name v) (key_name k)
same_key v k = same_key-step v.0 k.0 v.1.now k.1.now

among_keys : (v : Bool × Bor (List ℕ)) (keys : List (Bool × Bor (List ℕ)))
    → list_any (λ k. beq v.0 k.0 && bytes_eq v.1.now k.1.now) keys ≡ is_among (key_name v) (map key_name keys)
among_keys v [] = refl
among_keys v (k ∷ keys) = ap₂ (λ x y. x || y) (same_key v k) (among_keys v keys)

side_of_key : (s : Side) (b : Bool) → b ≡ is_same_side s Left → (if b then Left else Right) ≡ s
side_of_key Left b h = rw h refl
side_of_key Right b h = rw h refl

key_is : (n : Side × Bor (List ℕ)) (v : Bool × Bor (List ℕ)) → v.0 ≡ is_same_side n.0 Left → v.1.now ≡ n.1.now → key_name v ≡ sided n
key_is n v h e = ap₂ (λ s t. (s, t)) (side_of_key n.0 v.0 h) e

-- the names before a place are those of the keys so far
pub is_known : (keys : List (Bool × Bor (List ℕ))) (names : List (Side × Bor (List ℕ))) (i : ℕ) (n : Side × Bor (List ℕ)) (v : Bool × Bor (List ℕ)) (found : Bool)
    → map key_name keys ≡ map sided (take i names) → v.0 ≡ is_same_side n.0 Left → v.1.now ≡ n.1.now
    → list_any (λ k. beq v.0 k.0 && bytes_eq v.1.now k.1.now) keys ≡ found → is_among (sided n) (map sided (take i names)) ≡ found
is_known keys names i n v found same h e f =
    ap₂ is_among (sym (key_is n v h e)) (sym same) ∙ sym (among_keys v keys) ∙ f

from_here : {A : Type 0} (xs : List A) (i : ℕ) (x : A) → i < length xs → x ≡ get_or xs i x → drop i xs ≡ x ∷ drop (i + 1) xs
from_here xs i x h e = drop-cons xs i x h ∙ ap (λ y. y ∷ drop (suc i) xs) (sym e) ∙ ap (λ k. x ∷ drop k xs) (sym (add-one i))

up_to_here : {A : Type 0} (xs : List A) (i : ℕ) (x : A) → i < length xs → x ≡ get_or xs i x → take (i + 1) xs ≡ take i xs ++ x ∷ []
up_to_here xs i x h e = take_more xs i x h ∙ ap (λ y. take i xs ++ y ∷ []) (sym e)

pub repeated_here : (names : List (Side × Bor (List ℕ))) (i : ℕ) (n : Side × Bor (List ℕ)) (all : Option (List ℕ)) → i < length names → n ≡ get_or names i n
    → is_among (sided n) (map sided (take i names)) ≡ true → repeat_after (map sided (take i names)) (map sided (drop i names)) ≡ all → Some n.1.now ≡ all
repeated_here names i n all low is among h =
    let here = ap (λ xs. repeat_after (map sided (take i names)) (map sided xs)) (from_here names i n low is) in
    let found = ap (λ b. if b then Some n.1.now else repeat_after (map sided (take i names) ++ sided n ∷ []) (map sided (drop (i + 1) names))) among in
    sym found ∙ sym here ∙ h

pub new_here : (names : List (Side × Bor (List ℕ))) (i : ℕ) (n : Side × Bor (List ℕ)) (all : Option (List ℕ)) → i < length names → n ≡ get_or names i n
    → is_among (sided n) (map sided (take i names)) ≡ false → repeat_after (map sided (take i names)) (map sided (drop i names)) ≡ all
    → repeat_after (map sided (take (i + 1) names)) (map sided (drop (i + 1) names)) ≡ all
new_here names i n all low is among h =
    let here = ap (λ xs. repeat_after (map sided (take i names)) (map sided xs)) (from_here names i n low is) in
    let found = ap (λ b. if b then Some n.1.now else repeat_after (map sided (take i names) ++ sided n ∷ []) (map sided (drop (i + 1) names))) among in
    ap (λ xs. repeat_after xs (map sided (drop (i + 1) names))) (ap (map sided) (up_to_here names i n low is) ∙ map-append sided (take i names) (n ∷ []))
    ∙ sym found ∙ sym here ∙ h

pub one_more_key : (keys new : List (Bool × Bor (List ℕ))) (names : List (Side × Bor (List ℕ))) (i : ℕ) (n : Side × Bor (List ℕ)) (v : Bool × Bor (List ℕ)) → i < length names → n ≡ get_or names i n
    → map key_name keys ≡ map sided (take i names) → v.0 ≡ is_same_side n.0 Left → v.1.now ≡ n.1.now → new ≡ keys ++ v ∷ []
    → map key_name new ≡ map sided (take (i + 1) names)
one_more_key keys new names i n v low is same h e made =
    ap (map key_name) made ∙ map-append key_name keys (v ∷ [])
    ∙ ap₂ (λ xs x. xs ++ x ∷ []) same (key_is n v h e)
    ∙ sym (ap (map sided) (up_to_here names i n low is) ∙ map-append sided (take i names) (n ∷ []))

-- what an insertion into the set says
pub not_of : (added found b : Bool) → added ≡ not found → added ≡ b → found ≡ not b
not_of true true b h e = cc
not_of true false b h e = ap not e
not_of false true b h e = ap not e
not_of false false b h e = cc

pub is_new_key : {K : Type 0} (found : Bool) (keys new : List K) (v : K) → new ≡ (if found then keys else keys ++ v ∷ []) → found ≡ false → new ≡ keys ++ v ∷ []
is_new_key found keys new v h e = h ∙ ap (λ b. if b then keys else keys ++ v ∷ []) e
