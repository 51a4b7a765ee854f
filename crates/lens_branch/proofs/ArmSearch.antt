-- The arms of alternatives, as the code goes through them one after the other.
use Rattle.std.proofs.Common.{◌≡◌, ℕ, suc, ◌+◌, ◌<◌, ◌≤◌, Bool, true, false, List, [], ◌∷◌, length, map, drop, drop-cons, get_or, add-one, Option, None, Some, option_map, Result, Ok, Err, refl, sym, ap, subst, ◌∙◌, arith}
use Rattle.std.specs.Prelude.{bytes_eq, cond, option_and_then, is_some, MatchResult}
use Rattle.std.proofs.lemmas.Option.{slice_get-map, slice_get_read, slice_get_past}
use Rattle.std.proofs.lemmas.List.{drop_all}
use Rattle.texts.specs.declared.side.Side.{Side}
use Rattle.texts.specs.declared.side.Side.TheVariants.{Left}
use Rattle.edit_module.specs.Words.{PrimitiveTree, set, add, splice, at, stay, switch, modify, shape, WordTree}
use Rattle.lens_forms.specs.Forms.{FormTree, ArmTrees, no_arms, more_arms, form_arm_list, form_arms_of, arm_tree, form_tree}
use Rattle.lens_forms.specs.Measures.{form_parts, arms_parts}
use Rattle.lens_forms.specs.declared.form.Form.{Form}
use Rattle.lens_core.specs.Complements.{CompTree, comp_count, missing}
use Rattle.lens_core.specs.Sides.{near}
use Rattle.lens_core.specs.Translation.{comp_at}
use Rattle.lens_core.specs.declared.carry.Begun.{Begun}
use Rattle.lens_core.specs.declared.carry.CarryFault.{CarryFault}
use Rattle.lens_core.specs.declared.carry.CarryFault.TheVariants.{NoMemory}
use Rattle.lens_core.specs.Beginnings.{Beginning, inside, begun_tree, IsBeginFault, IsInside}
use Rattle.lens_branch.specs.AlternativeSteps.{ArmAt, next_arm, near_tag, arm_of, if_near, current_arm, begin_here, begin_anew, begin_alternatives, HasBegun, arm_lens, arm_starts}
use Rattle.lens_forms.proofs.ArmParts.{parts_below}

-- an arm behind a number of others
abbrev pub arm_behind : ℕ → ArmAt → ArmAt
arm_behind n q = record { number = q.number + n; left_tag = q.left_tag; right_tag = q.right_tag; lens = q.lens }

same_arm : (m n : ℕ) (a b : List ℕ) (l : FormTree) → m ≡ n
    → ◌≡◌ {A = Option ArmAt} (Some (record { number = m; left_tag = a; right_tag = b; lens = l })) (Some (record { number = n; left_tag = a; right_tag = b; lens = l }))
same_arm m n a b l e = rw e refl

behind_more : (n : ℕ) (o : Option ArmAt) → option_map (arm_behind n) (option_map next_arm o) ≡ option_map (arm_behind (suc n)) o
behind_more n None = refl
behind_more n (Some q) = same_arm (q.number + 1 + n) (q.number + suc n) q.left_tag q.right_tag q.lens (omega arith)

behind_nothing : (o : Option ArmAt) → option_map (arm_behind 0) o ≡ o
behind_nothing None = refl
behind_nothing (Some q) = same_arm (q.number + 0) q.number q.left_tag q.right_tag q.lens (omega arith)

-- the arms from one on
abbrev pub found_from : List (List ℕ × List ℕ × Form) → Side → List ℕ → ℕ → Option ArmAt
found_from arms side t i = option_map (arm_behind i) (arm_of (form_arms_of (map arm_tree (drop i arms))) side t)

pub found_first : (arms : List (List ℕ × List ℕ × Form)) (side : Side) (t : List ℕ) → found_from arms side t 0 ≡ arm_of (form_arms_of (map arm_tree arms)) side t
found_first arms side t = behind_nothing (arm_of (form_arms_of (map arm_tree arms)) side t)

pub found_here : (arms : List (List ℕ × List ℕ × Form)) (side : Side) (t : List ℕ) (i : ℕ) (a : List ℕ × List ℕ × Form) → i < length arms → a ≡ get_or arms i a
    → bytes_eq (near side a.0 a.1) t ≡ true → found_from arms side t i ≡ Some (record { number = i; left_tag = a.0; right_tag = a.1; lens = form_tree a.2 })
found_here arms side t i a h is e = rw (drop-cons arms i a h, sym is, e) (same_arm (0 + i) i a.0 a.1 (form_tree a.2) (omega arith))

pub found_next : (arms : List (List ℕ × List ℕ × Form)) (side : Side) (t : List ℕ) (i : ℕ) (a : List ℕ × List ℕ × Form) → i < length arms → a ≡ get_or arms i a
    → bytes_eq (near side a.0 a.1) t ≡ false → found_from arms side t i ≡ found_from arms side t (i + 1)
found_next arms side t i a h is e =
    rw (drop-cons arms i a h, sym is, e, add-one i) (behind_more i (arm_of (form_arms_of (map arm_tree (drop (suc i) arms))) side t))

pub found_all : (arms : List (List ℕ × List ℕ × Form)) (side : Side) (t : List ℕ) (i : ℕ) → length arms ≤ i → found_from arms side t i ≡ None
found_all arms side t i h = rw (drop_all i arms h) refl

pub ruleset arm_rules = (found_first, found_here, found_next, found_all)

-- ---- the missing complement of the arm of a tag

start_found : (arms : ArmTrees) (side : Side) (t : List ℕ) (q : ArmAt) → arm_of arms side t ≡ Some q
    → (q.number < comp_count (arm_starts arms)) × (comp_at (arm_starts arms) q.number ≡ missing q.lens)
start_found no_arms side t q e = cc
start_found (more_arms a b l arms) side t q e = go (bytes_eq (near side a b) t) (arm_of arms side t) e (λ p h. start_found arms side t p h)
  where
    Holds : ArmAt → Type 0
    Holds z = (z.number < comp_count (arm_starts (more_arms a b l arms))) × (comp_at (arm_starts (more_arms a b l arms)) z.number ≡ missing z.lens)

    go : (k : Bool) (o : Option ArmAt) → cond k (Some (record { number = 0; left_tag = a; right_tag = b; lens = l })) (option_map next_arm o) ≡ Some q
        → ((p : ArmAt) → o ≡ Some p → (p.number < comp_count (arm_starts arms)) × (comp_at (arm_starts arms) p.number ≡ missing p.lens)) → Holds q
    go true o h again =
        let first : ArmAt = record { number = 0; left_tag = a; right_tag = b; lens = l } in
        let same : first ≡ q = cc in subst Holds same (omega arith, refl)
    go false None h again = cc
    go false (Some p) h again =
        let same : next_arm p ≡ q = cc in
        let r = again p refl in
        subst Holds same (omega (arith, r.0), rw add-one r.1)

pub start_within : (arms : ArmTrees) (side : Side) (t : List ℕ) (q : ArmAt) → arm_of arms side t ≡ Some q → q.number < comp_count (arm_starts arms)
start_within arms side t q e = (start_found arms side t q e).0

pub start_is : (arms : ArmTrees) (side : Side) (t : List ℕ) (q : ArmAt) → arm_of arms side t ≡ Some q → comp_at (arm_starts arms) q.number ≡ missing q.lens
start_is arms side t q e = (start_found arms side t q e).1

pub ruleset start_rules = (start_within, start_is)

-- Switch from the arm of the complement begins in the arm of the new tag, from its missing complement
from_there : (o : Option ArmAt) (x : Option Beginning) → is_some o ≡ true → option_and_then (λ _. x) o ≡ x
from_there None x e = cc
from_there (Some q) x e = refl

pub is_found : {A B : Type 0} (seen : A → B) (o : Option A) (p : Option B) → option_map seen o ≡ p → is_some o ≡ true → is_some p ≡ true
is_found seen None p e h = cc
is_found seen (Some x) p e h = rw (← e) refl

pub switch_begun : (arms : ArmTrees) (side : Side) (t m n : List ℕ) (c : CompTree) (u : WordTree) (q : ArmAt) → is_some (current_arm arms side t m) ≡ true → arm_of arms side n ≡ Some q
    → begin_alternatives arms side t c (switch m n u) ≡ Some (inside q.number (comp_at (arm_starts arms) q.number) u)
switch_begun arms side t m n c u q h e =
    from_there (current_arm arms side t m) (option_map (begin_anew u) (arm_of arms side n)) h
    ∙ (ap (option_map (begin_anew u)) e ∙ ap (λ (d : CompTree). Some (inside q.number d u)) (sym (start_is arms side n q e)))

-- a beginning in an arm, where only memory can run out
pub inner_begun : (r : Result Begun CarryFault) (x : Option Beginning) (y : Beginning) → x ≡ Some y → MatchResult r (λ b. begun_tree b ≡ y) (λ fault. fault ≡ NoMemory)
    → MatchResult r (λ b. x ≡ Some (begun_tree b)) (IsBeginFault x)
inner_begun (Ok b) x y e h = e ∙ ap (λ z. Some z) (sym h)
inner_begun (Err fault) x y e h = subst (IsBeginFault x) (sym h) tt

-- ---- the lens of the arm of a number

pub arm_list-form_arms_of : (arms : List (List ℕ × List ℕ × FormTree)) → form_arm_list (form_arms_of arms) ≡ arms
arm_list-form_arms_of [] = refl
arm_list-form_arms_of (a ∷ arms) = ap (λ x. a ∷ x) (arm_list-form_arms_of arms)

pub arm_at : (items : List (List ℕ × List ℕ × Form)) (arms : ArmTrees) (i : ℕ) (a : List ℕ × List ℕ × Form) → form_arms_of (map arm_tree items) ≡ arms → i < length items → a ≡ get_or items i a
    → arm_lens arms i ≡ Some (form_tree a.2)
arm_at items arms i a e h is =
    rw (← e, arm_list-form_arms_of, slice_get-map arm_tree items i, slice_get_read items (length items) i a refl h is) refl

pub past_arms : (items : List (List ℕ × List ℕ × Form)) (arms : ArmTrees) (i : ℕ) → form_arms_of (map arm_tree items) ≡ arms → length items ≤ i → arm_lens arms i ≡ None
past_arms items arms i e h = rw (← e, arm_list-form_arms_of, slice_get-map arm_tree items i, slice_get_past items i h) refl

pub arm_smaller : (items : List (List ℕ × List ℕ × Form)) (arms : ArmTrees) (i : ℕ) (a : List ℕ × List ℕ × Form) → form_arms_of (map arm_tree items) ≡ arms → i < length items → a ≡ get_or items i a
    → form_parts (form_tree a.2) < arms_parts arms
arm_smaller items arms i a e h is = let low = parts_below items i a h is in omega (arith, low, ap arms_parts e)

pub ruleset place_rules = (arm_at, past_arms, arm_smaller)

-- ---- after a beginning in an arm, the arms of its tags are there

not_near : (side : Side) (m : List ℕ) (o : Option ArmAt) → option_and_then (if_near side m) o ≡ None → option_and_then (if_near side m) (option_map next_arm o) ≡ None
not_near side m None e = refl
not_near side m (Some q) e = go (bytes_eq (near_tag side q) m) e
  where
    go : (k : Bool) → cond k (Some q) None ≡ None → cond k (Some (next_arm q)) None ≡ None
    go true h = cc
    go false h = refl

only_later : (k : Bool) (q : ArmAt) (o : Option ArmAt) → cond k (Some q) (option_map next_arm o) ≡ None → (k ≡ false) × (o ≡ None)
only_later true q o e = cc
only_later false q None e = (refl, refl)
only_later false q (Some p) e = cc

current_none : (arms : ArmTrees) (side : Side) (t m : List ℕ) → arm_of arms side m ≡ None → current_arm arms side t m ≡ None
current_none no_arms side t m e = refl
current_none (more_arms a b l arms) side t m e =
    let none = only_later (bytes_eq (near side a b) m) first (arm_of arms side m) e in
    go (bytes_eq a t) none.0 (current_none arms side t m none.1)
  where
    first : ArmAt
    first = record { number = 0; left_tag = a; right_tag = b; lens = l }

    go : (k : Bool) → bytes_eq (near side a b) m ≡ false → option_and_then (if_near side m) (arm_of arms Left t) ≡ None
        → option_and_then (if_near side m) (cond k (Some first) (option_map next_arm (arm_of arms Left t))) ≡ None
    go true unlike later = rw unlike refl
    go false unlike later = not_near side m (arm_of arms Left t) later

stay_inside : (c : CompTree) (u : WordTree) (o : Option ArmAt) → IsInside (option_map (begin_here c u) o) → o ≡ None → ⊥
stay_inside c u None h e = h
stay_inside c u (Some q) h e = cc

switch_inside : (u : WordTree) (o p : Option ArmAt) → IsInside (option_and_then (λ _. option_map (begin_anew u) p) o) → (o ≡ None → ⊥) × (p ≡ None → ⊥)
switch_inside u None p h = absurd h
switch_inside u (Some q) None h = absurd h
switch_inside u (Some q) (Some r) h = (λ e. cc, λ e. cc)

pub begun_stay : (arms : ArmTrees) (side : Side) (m : List ℕ) (u : WordTree) → HasBegun arms side (stay m u) → arm_of arms side m ≡ None → ⊥
begun_stay arms side m u h e = stay_inside h.1 u (current_arm arms side h.0 m) h.2 (current_none arms side h.0 m e)

pub begun_from : (arms : ArmTrees) (side : Side) (m n : List ℕ) (u : WordTree) → HasBegun arms side (switch m n u) → arm_of arms side m ≡ None → ⊥
begun_from arms side m n u h e = (switch_inside u (current_arm arms side h.0 m) (arm_of arms side n) h.2).0 (current_none arms side h.0 m e)

pub begun_to : (arms : ArmTrees) (side : Side) (m n : List ℕ) (u : WordTree) → HasBegun arms side (switch m n u) → arm_of arms side n ≡ None → ⊥
begun_to arms side m n u h e = (switch_inside u (current_arm arms side h.0 m) (arm_of arms side n) h.2).1 e

abbrev pub is_branch : PrimitiveTree → Bool
is_branch (stay m u) = true
is_branch (switch m n u) = true
is_branch _ = false

pub begun_is_branch : (arms : ArmTrees) (side : Side) (p : PrimitiveTree) → is_branch p ≡ false → HasBegun arms side p → ⊥
begun_is_branch arms side (stay m u) e h = cc
begun_is_branch arms side (switch m n u) e h = cc
begun_is_branch arms side (set a) e h = h.2
begun_is_branch arms side (add n) e h = h.2
begun_is_branch arms side (splice i k s) e h = h.2
begun_is_branch arms side (at f u) e h = h.2
begun_is_branch arms side (modify q u) e h = h.2
begun_is_branch arms side (shape a) e h = h.2

pub ruleset begun_rules = (begun_stay, begun_from, begun_to, begun_is_branch)
