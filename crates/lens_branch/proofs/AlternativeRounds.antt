-- The translation of alternatives is their beginning, the translation of the lens inside, and their finish.
use Rattle.std.proofs.Common.{◌≡◌, ℕ, Bool, true, false, List, Option, None, Some, option_map, refl, ap, sym, ◌∙◌, subst, add-one}
use Rattle.std.specs.Prelude.{option_and_then, bytes_eq, cond, ◌||◌}
use Rattle.texts.specs.declared.side.Side.{Side}
use Rattle.texts.specs.declared.side.Side.TheVariants.{Left, Right}
use Rattle.texts.specs.Keys.{has_name}
use Rattle.edit_module.specs.Words.{PrimitiveTree, set as set_to, add, splice, at, stay, switch, modify, shape, WordTree}
use Rattle.doc_values.specs.Types.{are_distinct}
use Rattle.lens_forms.specs.Forms.{FormTree, form_alt, ArmTrees, no_arms, more_arms}
use Rattle.lens_forms.specs.Typing.{left_arms, right_arms}
use Rattle.lens_core.specs.Sides.{near, far}
use Rattle.lens_core.specs.Complements.{CompTree, alt_comp, missing}
use Rattle.lens_core.specs.Translation.{Translated, translate_one, translate, translate_stay, translate_switch, far_tag, in_arm, to_arm}
use Rattle.lens_core.proofs.LawsOfLeaves.{differs_back}
use Rattle.lens_core.specs.Beginnings.{Beginning, inside, carried_on}
use Rattle.lens_branch.specs.AlternativeSteps.{ArmAt, next_arm, near_tag, far_tag_of, arm_of, if_near, current_arm, begin_here, begin_anew, begin_alternatives, finish_stay, finish_switch, finish_alternatives, arm_lens, arm_translation}
use Rattle.lens_core.proofs.NameTests.{not_that}
use Rattle.lens_core.proofs.Arms.{arm_names, head_apart, tail_apart, arm_name, same_first}
use Rattle.texts.proofs.Tests.{or_second, bytes_eq-is}

-- ---- what the arms translate

abbrev stay_in : Side → CompTree → WordTree → ArmAt → Option Translated
stay_in side c u q = option_map (in_arm q.left_tag (far_tag_of side q)) (translate q.lens side c u)

abbrev switch_in : Side → List ℕ → WordTree → ArmAt → Option Translated
switch_in side from u q = option_map (to_arm from q.left_tag (far_tag_of side q)) (translate q.lens side (missing q.lens) u)

abbrev some_far : Side → ArmAt → Option (List ℕ)
some_far side q = Some (far_tag_of side q)

-- what does not look at the number is the same for the arm behind another one
current_behind : {A : Type 0} (g : ArmAt → Option A) (side : Side) (m : List ℕ) → ((q : ArmAt) → g q ≡ g (next_arm q)) → (o : Option ArmAt)
    → option_and_then g (option_and_then (if_near side m) o) ≡ option_and_then g (option_and_then (if_near side m) (option_map next_arm o))
current_behind g side m same None = refl
current_behind g side m same (Some q) = go (bytes_eq (near_tag side q) m)
  where
    go : (b : Bool) → option_and_then g (cond b (Some q) None) ≡ option_and_then g (cond b (Some (next_arm q)) None)
    go true = same q
    go false = refl

stay_found : (side : Side) (t : List ℕ) (c : CompTree) (m : List ℕ) (u : WordTree) (arms : ArmTrees)
    → translate_stay arms side t c m u ≡ option_and_then (stay_in side c u) (current_arm arms side t m)
stay_found side t c m u no_arms = refl
stay_found side t c m u (more_arms a b l arms) = go (bytes_eq a t) (stay_found side t c m u arms)
  where
    first : ArmAt
    first = record { number = 0; left_tag = a; right_tag = b; lens = l }

    here : (q : Bool) → cond q (option_map (in_arm a (far side a b)) (translate l side c u)) None ≡ option_and_then (stay_in side c u) (cond q (Some first) None)
    here true = refl
    here false = refl

    go : (q : Bool) → translate_stay arms side t c m u ≡ option_and_then (stay_in side c u) (current_arm arms side t m)
        → cond q (cond (bytes_eq (near side a b) m) (option_map (in_arm a (far side a b)) (translate l side c u)) None) (translate_stay arms side t c m u)
        ≡ option_and_then (stay_in side c u) (option_and_then (if_near side m) (cond q (Some first) (option_map next_arm (arm_of arms Left t))))
    go true again = here (bytes_eq (near side a b) m)
    go false again = again ∙ current_behind (stay_in side c u) side m (λ q. refl) (arm_of arms Left t)

far_found : (side : Side) (t m : List ℕ) (arms : ArmTrees) → far_tag arms side t m ≡ option_and_then (some_far side) (current_arm arms side t m)
far_found side t m no_arms = refl
far_found side t m (more_arms a b l arms) = go (bytes_eq a t) (far_found side t m arms)
  where
    first : ArmAt
    first = record { number = 0; left_tag = a; right_tag = b; lens = l }

    here : (q : Bool) → cond q (Some (far side a b)) None ≡ option_and_then (some_far side) (cond q (Some first) None)
    here true = refl
    here false = refl

    go : (q : Bool) → far_tag arms side t m ≡ option_and_then (some_far side) (current_arm arms side t m)
        → cond q (cond (bytes_eq (near side a b) m) (Some (far side a b)) None) (far_tag arms side t m)
        ≡ option_and_then (some_far side) (option_and_then (if_near side m) (cond q (Some first) (option_map next_arm (arm_of arms Left t))))
    go true again = here (bytes_eq (near side a b) m)
    go false again = again ∙ current_behind (some_far side) side m (λ q. refl) (arm_of arms Left t)

arm_behind : (side : Side) (from : List ℕ) (u : WordTree) (o : Option ArmAt)
    → option_and_then (switch_in side from u) o ≡ option_and_then (switch_in side from u) (option_map next_arm o)
arm_behind side from u None = refl
arm_behind side from u (Some q) = refl

switch_found : (side : Side) (from n : List ℕ) (u : WordTree) (arms : ArmTrees)
    → translate_switch arms side from n u ≡ option_and_then (switch_in side from u) (arm_of arms side n)
switch_found side from n u no_arms = refl
switch_found side from n u (more_arms a b l arms) = go (bytes_eq (near side a b) n) (switch_found side from n u arms)
  where
    first : ArmAt
    first = record { number = 0; left_tag = a; right_tag = b; lens = l }

    go : (q : Bool) → translate_switch arms side from n u ≡ option_and_then (switch_in side from u) (arm_of arms side n)
        → cond q (option_map (to_arm from a (far side a b)) (translate l side (missing l) u)) (translate_switch arms side from n u)
        ≡ option_and_then (switch_in side from u) (cond q (Some first) (option_map next_arm (arm_of arms side n)))
    go true again = refl
    go false again = again ∙ arm_behind side from u (arm_of arms side n)

-- ---- the lens of the arm of a tag

lens_found : (arms : ArmTrees) (side : Side) (n : List ℕ) (q : ArmAt) → arm_of arms side n ≡ Some q → arm_lens arms q.number ≡ Some q.lens
lens_found no_arms side n q e = cc
lens_found (more_arms a b l arms) side n q e = go (bytes_eq (near side a b) n) (arm_of arms side n) e (λ p h. lens_found arms side n p h)
  where
    first : ArmAt
    first = record { number = 0; left_tag = a; right_tag = b; lens = l }

    go : (k : Bool) (o : Option ArmAt) → cond k (Some first) (option_map next_arm o) ≡ Some q
        → ((p : ArmAt) → o ≡ Some p → arm_lens arms p.number ≡ Some p.lens) → arm_lens (more_arms a b l arms) q.number ≡ Some q.lens
    go true o h again =
        let same : first ≡ q = cc in subst (λ (z : ArmAt). arm_lens (more_arms a b l arms) z.number ≡ Some z.lens) same refl
    go false None h again = cc
    go false (Some p) h again =
        let same : next_arm p ≡ q = cc in
        subst (λ (z : ArmAt). arm_lens (more_arms a b l arms) z.number ≡ Some z.lens) same (rw add-one (again p refl))

-- the side by whose tag the arm was found is not always the edited one
translation_found : (arms : ArmTrees) (by side : Side) (n : List ℕ) (q : ArmAt) (c : CompTree) (u : WordTree) → arm_of arms by n ≡ Some q
    → translate q.lens side c u ≡ arm_translation arms side q.number c u
translation_found arms by side n q c u e = rw (lens_found arms by n q e) refl

-- ---- the arm of a complement is the arm of its near tag

near_kept : (side : Side) (m : List ℕ) (o : Option ArmAt) (q : ArmAt) → option_and_then (if_near side m) o ≡ Some q → (o ≡ Some q) × (bytes_eq (near_tag side q) m ≡ true)
near_kept side m None q e = cc
near_kept side m (Some p) q e = go (bytes_eq (near_tag side p) m) refl e
  where
    go : (b : Bool) → bytes_eq (near_tag side p) m ≡ b → cond b (Some p) None ≡ Some q → (Some p ≡ Some q) × (bytes_eq (near_tag side q) m ≡ true)
    go true f h = let same : p ≡ q = cc in (h, subst (λ (z : ArmAt). bytes_eq (near_tag side z) m ≡ true) same f)
    go false f h = cc

among_found : (arms : ArmTrees) (side : Side) (m : List ℕ) (q : ArmAt) → arm_of arms side m ≡ Some q → has_name m (arm_names side arms) ≡ true
among_found no_arms side m q e = cc
among_found (more_arms a b l arms) side m q e = arm_name side a b l arms m ∙ go (bytes_eq (near side a b) m) refl (arm_of arms side m) e (λ p h. among_found arms side m p h)
  where
    first : ArmAt
    first = record { number = 0; left_tag = a; right_tag = b; lens = l }

    go : (k : Bool) → bytes_eq (near side a b) m ≡ k → (o : Option ArmAt) → cond k (Some first) (option_map next_arm o) ≡ Some q
        → ((p : ArmAt) → o ≡ Some p → has_name m (arm_names side arms) ≡ true) → (bytes_eq m (near side a b) || has_name m (arm_names side arms)) ≡ true
    go true f o h again = same_first m (near side a b) (has_name m (arm_names side arms)) (sym (bytes_eq-is (near side a b) m f))
    go false f None h again = cc
    go false f (Some p) h again = or_second (bytes_eq m (near side a b)) (has_name m (arm_names side arms)) (again p refl)

-- an arm with this near tag behind the first one
found_behind : (a b : List ℕ) (l : FormTree) (arms : ArmTrees) (side : Side) (m : List ℕ) (p : ArmAt) → are_distinct (arm_names side (more_arms a b l arms)) ≡ true
    → arm_of arms side m ≡ Some p → arm_of (more_arms a b l arms) side m ≡ Some (next_arm p)
found_behind a b l arms side m p apart e =
    let unlike = not_that m (near side a b) (arm_names side arms) (head_apart side a b l arms apart) (among_found arms side m p e) in
    rw (differs_back m (near side a b) unlike, e) refl

current_found : (arms : ArmTrees) (side : Side) (t m : List ℕ) (q : ArmAt) → are_distinct (arm_names side arms) ≡ true → current_arm arms side t m ≡ Some q
    → arm_of arms side m ≡ Some q
current_found no_arms side t m q apart e = cc
current_found (more_arms a b l arms) side t m q apart e =
    go (bytes_eq a t) (arm_of arms Left t) e (λ p h. current_found arms side t m p (tail_apart side a b l arms apart) h)
  where
    first : ArmAt
    first = record { number = 0; left_tag = a; right_tag = b; lens = l }

    here : (k : Bool) → bytes_eq (near side a b) m ≡ k → cond k (Some first) None ≡ Some q → cond k (Some first) (option_map next_arm (arm_of arms side m)) ≡ Some q
    here true f h = h
    here false f h = cc

    later : (p : ArmAt) (k : Bool) → bytes_eq (near_tag side p) m ≡ k → cond k (Some (next_arm p)) None ≡ Some q
        → (cond k (Some p) None ≡ Some p → arm_of arms side m ≡ Some p) → arm_of (more_arms a b l arms) side m ≡ Some q
    later p true f h again = found_behind a b l arms side m p apart (again refl) ∙ h
    later p false f h again = cc

    go : (k : Bool) (o : Option ArmAt) → option_and_then (if_near side m) (cond k (Some first) (option_map next_arm o)) ≡ Some q
        → ((p : ArmAt) → option_and_then (if_near side m) o ≡ Some p → arm_of arms side m ≡ Some p) → arm_of (more_arms a b l arms) side m ≡ Some q
    go true o h again = here (bytes_eq (near side a b) m) refl h
    go false None h again = cc
    go false (Some p) h again = later p (bytes_eq (near_tag side p) m) refl h (again p)

-- ---- where a lens inside is needed, its arm is there

begun_here : (arms : ArmTrees) (side : Side) (t m : List ℕ) (d : CompTree) (u : WordTree) (i : ℕ) (c : CompTree) (w : WordTree) (o : Option ArmAt) → current_arm arms side t m ≡ o
    → option_map (begin_here d u) o ≡ Some (inside i c w) → (l : FormTree) × (arm_lens arms i ≡ Some l)
begun_here arms side t m d u i c w None found e = cc
begun_here arms side t m d u i c w (Some q) found e =
    let there = near_kept side m (arm_of arms Left t) q found in
    let same : q.number ≡ i = cc in
    (q.lens, subst (λ z. arm_lens arms z ≡ Some q.lens) same (lens_found arms Left t q there.0))

begun_anew : (arms : ArmTrees) (side : Side) (n : List ℕ) (u : WordTree) (i : ℕ) (c : CompTree) (w : WordTree) (o : Option ArmAt) → arm_of arms side n ≡ o
    → option_map (begin_anew u) o ≡ Some (inside i c w) → (l : FormTree) × (arm_lens arms i ≡ Some l)
begun_anew arms side n u i c w None found e = cc
begun_anew arms side n u i c w (Some q) found e =
    let same : q.number ≡ i = cc in
    (q.lens, subst (λ z. arm_lens arms z ≡ Some q.lens) same (lens_found arms side n q found))

begun_switched : (o : Option ArmAt) (x : Option Beginning) (b : Beginning) → option_and_then (λ _. x) o ≡ Some b → x ≡ Some b
begun_switched None x b e = cc
begun_switched (Some q) x b e = e

pub alternatives_begin_in_arm : (arms : ArmTrees) (side : Side) (t : List ℕ) (d : CompTree) (p : PrimitiveTree) (i : ℕ) (c : CompTree) (w : WordTree)
    → begin_alternatives arms side t d p ≡ Some (inside i c w) → (l : FormTree) × (arm_lens arms i ≡ Some l)
alternatives_begin_in_arm arms side t d (stay m u) i c w e = begun_here arms side t m d u i c w (current_arm arms side t m) refl e
alternatives_begin_in_arm arms side t d (switch m n u) i c w e =
    begun_anew arms side n u i c w (arm_of arms side n) refl (begun_switched (current_arm arms side t m) (option_map (begin_anew u) (arm_of arms side n)) (inside i c w) e)
alternatives_begin_in_arm arms side t d (set_to a) i c w e = cc
alternatives_begin_in_arm arms side t d (add n) i c w e = cc
alternatives_begin_in_arm arms side t d (splice j k s) i c w e = cc
alternatives_begin_in_arm arms side t d (at f u) i c w e = cc
alternatives_begin_in_arm arms side t d (modify q u) i c w e = cc
alternatives_begin_in_arm arms side t d (shape a) i c w e = cc

-- ---- the finish

stay_finish : (side : Side) (q : ArmAt) (a : Option ArmAt) (o : Option Translated) → a ≡ Some q
    → option_map (in_arm q.left_tag (far_tag_of side q)) o ≡ option_map (λ r. finish_stay side r a) o
stay_finish side q a None e = refl
stay_finish side q a (Some r) e = rw e refl

switch_finish : (side : Side) (p q : ArmAt) (a : Option ArmAt) (o : Option Translated) → a ≡ Some p
    → option_map (to_arm (far_tag_of side p) q.left_tag (far_tag_of side q)) o ≡ option_map (λ r. finish_switch side r a (Some q)) o
switch_finish side p q a None e = refl
switch_finish side p q a (Some r) e = rw e refl

-- ---- the rounds

module _ (arms : ArmTrees) (side : Side) (apart : are_distinct (arm_names side arms) ≡ true) where
  stay_round : (t : List ℕ) (c : CompTree) (m : List ℕ) (u : WordTree) (o : Option ArmAt) → current_arm arms side t m ≡ o
      → option_and_then (stay_in side c u) o
      ≡ option_and_then (carried_on (arm_translation arms side) (λ r. finish_stay side r (arm_of arms side m))) (option_map (begin_here c u) o)
  stay_round t c m u None e = refl
  stay_round t c m u (Some q) e =
      let there = near_kept side m (arm_of arms Left t) q e in
      stay_finish side q (arm_of arms side m) (translate q.lens side c u) (current_found arms side t m q apart e)
      ∙ ap (option_map (λ r. finish_stay side r (arm_of arms side m))) (translation_found arms Left side t q c u there.0)

  arm_round : (p : ArmAt) (m n : List ℕ) (u : WordTree) (o : Option ArmAt) → arm_of arms side m ≡ Some p → arm_of arms side n ≡ o
      → option_and_then (switch_in side (far_tag_of side p) u) o
      ≡ option_and_then (carried_on (arm_translation arms side) (λ r. finish_switch side r (arm_of arms side m) o)) (option_map (begin_anew u) o)
  arm_round p m n u None h e = refl
  arm_round p m n u (Some q) h e =
      switch_finish side p q (arm_of arms side m) (translate q.lens side (missing q.lens) u) h
      ∙ ap (option_map (λ r. finish_switch side r (arm_of arms side m) (Some q))) (translation_found arms side side n q (missing q.lens) u e)

  switch_round : (t m n : List ℕ) (u : WordTree) (o : Option ArmAt) → current_arm arms side t m ≡ o
      → option_and_then (λ from. translate_switch arms side from n u) (option_and_then (some_far side) o)
      ≡ option_and_then (carried_on (arm_translation arms side) (λ r. finish_switch side r (arm_of arms side m) (arm_of arms side n))) (option_and_then (λ _. option_map (begin_anew u) (arm_of arms side n)) o)
  switch_round t m n u None e = refl
  switch_round t m n u (Some p) e =
      switch_found side (far_tag_of side p) n u arms
      ∙ arm_round p m n u (arm_of arms side n) (current_found arms side t m p apart e) refl

  -- the translation of alternatives goes round that of the lens inside
  alternatives_round : (t : List ℕ) (c : CompTree) (p : PrimitiveTree)
      → translate_one (form_alt arms) side (alt_comp t c) p
      ≡ option_and_then (carried_on (arm_translation arms side) (finish_alternatives arms side p)) (begin_alternatives arms side t c p)
  alternatives_round t c (stay m u) = stay_found side t c m u arms ∙ stay_round t c m u (current_arm arms side t m) refl
  alternatives_round t c (switch m n u) =
      ap (option_and_then (λ from. translate_switch arms side from n u)) (far_found side t m arms) ∙ switch_round t m n u (current_arm arms side t m) refl
  alternatives_round t c (set_to a) = refl
  alternatives_round t c (add n) = refl
  alternatives_round t c (splice i k s) = refl
  alternatives_round t c (at f u) = refl
  alternatives_round t c (modify q u) = refl
  alternatives_round t c (shape e) = refl

-- from either side, where the tags of both sides are distinct
pub alternatives_go_round : (arms : ArmTrees) (side : Side) → are_distinct (left_arms arms) ≡ true → are_distinct (right_arms arms) ≡ true
    → (t : List ℕ) (c : CompTree) (p : PrimitiveTree)
    → translate_one (form_alt arms) side (alt_comp t c) p
    ≡ option_and_then (carried_on (arm_translation arms side) (finish_alternatives arms side p)) (begin_alternatives arms side t c p)
alternatives_go_round arms Left left right t c p = alternatives_round arms Left left t c p
alternatives_go_round arms Right left right t c p = alternatives_round arms Right right t c p
