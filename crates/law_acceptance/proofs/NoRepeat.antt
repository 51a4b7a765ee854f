-- Where the names of each side are distinct, no name is repeated. The other direction is in lens_types.
use Rattle.std.proofs.Common.{◌≡◌, ℕ, Bool, true, false, ◌||◌, List, [], ◌∷◌, ◌++◌, Some, None, refl, ap, sym, ◌∙◌, subst}
use Rattle.std.specs.Prelude.{bytes_eq, not, if◌then◌else◌}
use Rattle.std.proofs.lemmas.Slice.Eq.{bytes_eq-Decides}
use Rattle.texts.specs.Keys.{has_name}
use Rattle.texts.specs.declared.side.Side.{Side}
use Rattle.texts.specs.declared.side.Side.TheVariants.{Left, Right}
use Rattle.texts.proofs.Conjunction.{first as first_and, second as second_and}
use Rattle.texts.proofs.KeyOrder.{bytes_eq-refl}
use Rattle.doc_values.specs.Types.{names_of, are_distinct}
use Rattle.program_terms.specs.Terms as Term
use Rattle.lens_forms.specs.Forms.{lefts, rights}
use Rattle.lens_forms.specs.Typing.{left_names, right_names, left_arms, right_arms}
use Rattle.lens_types.specs.Earlier.{Definitions, expanded_fields, expanded_rows, expanded_arms}
use Rattle.lens_types.specs.Repeats.{SidedName, is_same_side, is_same_name, is_among, repeat_after, first_repeat, sided_members, field_names, pair_names, row_names, arm_names}
use Rattle.lens_types.proofs.RepeatedNames.{on, on-left_arms, on-right_arms, on-fields, on-left_names, on-right_names, on-members, on-lefts, on-rights, same_side, side_is}
use Rattle.std.proofs.lemmas.Bool.{not-true, false_from_ne_true}
use Rattle.texts.proofs.Tests.{neither_second}

-- ---- the sides of names

-- ---- no name before is behind

-- no name that is among those before is a name of its side behind
abbrev Apart : List SidedName → List SidedName → Type 0
Apart before ns = (e : Side) (n : List ℕ) → is_among (e, n) before ≡ true → has_name n (on e ns) ≡ false

-- the names of each side are distinct
abbrev AreApart : List SidedName → Type 0
AreApart ns = (e : Side) → are_distinct (on e ns) ≡ true

-- a name is on its own side
here : (m : SidedName) (ms : List SidedName) → on m.0 (m ∷ ms) ≡ m.1 ∷ on m.0 ms
here m ms = ap (λ b. if b then m.1 ∷ on m.0 ms else on m.0 ms) (same_side m.0)

rest-step : (b : Bool) (n x : List ℕ) (others : List (List ℕ)) → has_name n (if b then x ∷ others else others) ≡ false → has_name n others ≡ false
rest-step true n x others h = neither_second (bytes_eq n x) (has_name n others) h
rest-step false n x others h = h

distinct_rest-step : (b : Bool) (x : List ℕ) (others : List (List ℕ)) → are_distinct (if b then x ∷ others else others) ≡ true → are_distinct others ≡ true
distinct_rest-step true x others h = second_and (not (has_name x others)) (are_distinct others) h
distinct_rest-step false x others h = h

new_name : (before : List SidedName) (m : SidedName) (ms : List SidedName) → Apart before (m ∷ ms) → is_among m before ≡ false
new_name before m ms apart =
    false_from_ne_true (is_among m before)
    (λ (h : is_among m before ≡ true).
    let no : has_name m.1 (m.1 ∷ on m.0 ms) ≡ false = subst (λ (xs : List (List ℕ)). has_name m.1 xs ≡ false) (here m ms) (apart m.0 m.1 h) in
    let yes : has_name m.1 (m.1 ∷ on m.0 ms) ≡ true = ap (λ b. b || has_name m.1 (on m.0 ms)) (bytes_eq-refl m.1) in
    let bad : true ≡ false = sym yes ∙ no in
    cc)

-- a name that is among names and one more is among them, or it is that one
among-more : (n : SidedName) (before : List SidedName) (m : SidedName) → is_among n (before ++ m ∷ []) ≡ true → (is_among n before || is_same_name n m) ≡ true
among-more n [] m h = go (is_same_name n m) h
  where
    go : (b : Bool) → (b || false) ≡ true → (false || b) ≡ true
    go true k = refl
    go false k = k
among-more n (x ∷ xs) m h = go (is_same_name n x) (is_among n xs) (is_same_name n m) h (λ k. among-more n xs m k)
  where
    go : (b c d : Bool) → (b || is_among n (xs ++ m ∷ [])) ≡ true → (is_among n (xs ++ m ∷ []) ≡ true → (c || d) ≡ true) → ((b || c) || d) ≡ true
    go true c d k f = refl
    go false c d k f = f k

distinct_here : (m : SidedName) (ms : List SidedName) → AreApart (m ∷ ms) → has_name m.1 (on m.0 ms) ≡ false
distinct_here m ms distinct =
    let both : are_distinct (m.1 ∷ on m.0 ms) ≡ true = subst (λ (xs : List (List ℕ)). are_distinct xs ≡ true) (here m ms) (distinct m.0) in
    not-true (has_name m.1 (on m.0 ms)) (first_and (not (has_name m.1 (on m.0 ms))) (are_distinct (on m.0 ms)) both)

-- the name itself is not behind
itself : (e : Side) (n : List ℕ) (m : SidedName) (ms : List SidedName) → is_same_name (e, n) m ≡ true → AreApart (m ∷ ms) → has_name n (on e ms) ≡ false
itself e n m ms h distinct =
    let side : e ≡ m.0 = side_is e m.0 (first_and (is_same_side e m.0) (bytes_eq n m.1) h) in
    let name : n ≡ m.1 = (bytes_eq-Decides n m.1).0 (second_and (is_same_side e m.0) (bytes_eq n m.1) h) in
    let at : has_name m.1 (on m.0 ms) ≡ false = distinct_here m ms distinct in
    subst (λ (x : Side). has_name n (on x ms) ≡ false) (sym side) (subst (λ (y : List ℕ). has_name y (on m.0 ms) ≡ false) (sym name) at)

apart-next : (before : List SidedName) (m : SidedName) (ms : List SidedName) → Apart before (m ∷ ms) → AreApart (m ∷ ms) → Apart (before ++ m ∷ []) ms
apart-next before m ms apart distinct e n h = go (is_among (e, n) before) refl (among-more (e, n) before m h)
  where
    go : (b : Bool) → is_among (e, n) before ≡ b → (b || is_same_name (e, n) m) ≡ true → has_name n (on e ms) ≡ false
    go true k s = rest-step (is_same_side e m.0) n m.1 (on e ms) (apart e n k)
    go false k s = itself e n m ms s distinct

no_repeat_after : (before ns : List SidedName) → Apart before ns → AreApart ns → repeat_after before ns ≡ None
no_repeat_after before [] apart distinct = refl
no_repeat_after before (m ∷ ms) apart distinct =
    ap (λ b. if b then Some m.1 else repeat_after (before ++ m ∷ []) ms) (new_name before m ms apart)
    ∙ no_repeat_after (before ++ m ∷ []) ms (apart-next before m ms apart distinct) (λ e. distinct_rest-step (is_same_side e m.0) m.1 (on e ms) (distinct e))

-- two lists of names, those of each side
no_repeat : (ns : List SidedName) (ls rs : List (List ℕ)) → on Left ns ≡ ls → on Right ns ≡ rs → are_distinct ls ≡ true → are_distinct rs ≡ true → first_repeat ns ≡ None
no_repeat ns ls rs left right l r = no_repeat_after [] ns (λ e n h. cc) distinct
  where
    distinct : (e : Side) → are_distinct (on e ns) ≡ true
    distinct Left = ap are_distinct left ∙ l
    distinct Right = ap are_distinct right ∙ r

-- ---- the names of each side, list by list

right-members : (ms : List (List ℕ)) → on Right (sided_members ms) ≡ []
right-members [] = refl
right-members (m ∷ ms) = right-members ms

right-fields : (fs : Term.TermFields) → on Right (field_names fs) ≡ []
right-fields Term.no_fields = refl
right-fields (Term.more_fields n t fs) = right-fields fs

-- ---- so none is repeated

pub members_new : (ms : List (List ℕ)) → are_distinct ms ≡ true → first_repeat (sided_members ms) ≡ None
members_new ms h = no_repeat (sided_members ms) ms [] (on-members ms) (right-members ms) h refl

pub fields_new : (ds : Definitions) (fs : Term.TermFields) → are_distinct (names_of (expanded_fields ds fs)) ≡ true → first_repeat (field_names fs) ≡ None
fields_new ds fs h = no_repeat (field_names fs) (names_of (expanded_fields ds fs)) [] (on-fields ds fs) (right-fields fs) h refl

pub pairs_new : (ps : List (List ℕ × List ℕ)) → are_distinct (lefts ps) ≡ true → are_distinct (rights ps) ≡ true → first_repeat (pair_names ps) ≡ None
pairs_new ps l r = no_repeat (pair_names ps) (lefts ps) (rights ps) (on-lefts ps) (on-rights ps) l r

pub rows_new : (ds : Definitions) (rows : Term.TermRows) → are_distinct (left_names (expanded_rows ds rows)) ≡ true → are_distinct (right_names (expanded_rows ds rows)) ≡ true
    → first_repeat (row_names rows) ≡ None
rows_new ds rows l r = no_repeat (row_names rows) (left_names (expanded_rows ds rows)) (right_names (expanded_rows ds rows)) (on-left_names ds rows) (on-right_names ds rows) l r

pub arms_new : (ds : Definitions) (arms : Term.TermArms) → are_distinct (left_arms (expanded_arms ds arms)) ≡ true → are_distinct (right_arms (expanded_arms ds arms)) ≡ true
    → first_repeat (arm_names arms) ≡ None
arms_new ds arms l r = no_repeat (arm_names arms) (left_arms (expanded_arms ds arms)) (right_arms (expanded_arms ds arms)) (on-left_arms ds arms) (on-right_arms ds arms) l r
