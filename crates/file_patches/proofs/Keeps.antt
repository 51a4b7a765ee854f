-- What holds for a tree and for the values of a patch holds for what the patch makes of the tree, if it is kept by each
-- single change.
use Rattle.std.proofs.Common.{◌≡◌, ℕ, ◌+◌, subst, cond, Bool, true, false, List, [], ◌∷◌, Result, Ok, Err}
use Rattle.json.specs.Json.{Json}
use Rattle.file_patches.specs.declared.fault.Cause.{Cause}
use Rattle.file_patches.specs.declared.fault.Cause.TheVariants.{TestFailed, IntoItself}
use Rattle.file_patches.specs.Results.{and_then, on_ok}
use Rattle.file_patches.specs.Places.{position, child, content_at}
use Rattle.file_patches.specs.Changes.{ChangeTree, adds, replaces, removes, put, cut, with_added, changed_whole, changed_child, changed}
use Rattle.file_patches.specs.Operations.{OperationTree, add, remove, replace, move, copy, test}
use Rattle.file_patches.specs.Patching.{begins_with, is_same_place, is_shallow, if_shallow, added, replaced, moved, tested, operated, numbered, patched_from, patched}
use Rattle.file_patches.specs.Equality.{equal}
use Rattle.file_patches.specs.Values.{ValueHas, ValuesHave}

-- what holds for what is made, if something is made
abbrev pub OkHas : {A E : Type 0} → (A → Type 0) → Result A E → Type 0
OkHas Holds (Ok a) = Holds a
OkHas Holds (Err e) = Unit {0}

pub of_ok : {A E : Type 0} (Holds : A → Type 0) (r : Result A E) (a : A) → r ≡ Ok a → OkHas Holds r → Holds a
of_ok Holds (Ok b) a e h = subst (λ x. OkHas Holds x) e h
of_ok Holds (Err b) a e h = cc

pub on_held : {A B E : Type 0} (Holds : B → Type 0) (f : A → B) (r : Result A E) → ((a : A) → Holds (f a)) → OkHas Holds (on_ok f r)
on_held Holds f (Ok a) h = h a
on_held Holds f (Err e) h = tt

pub on_both : {A B E : Type 0} (Before : A → Type 0) (Holds : B → Type 0) (f : A → B) (r : Result A E) → OkHas Before r → ((a : A) → Before a → Holds (f a)) → OkHas Holds (on_ok f r)
on_both Before Holds f (Ok a) k h = h a k
on_both Before Holds f (Err e) k h = tt

pub then_held : {A B E : Type 0} (Holds : B → Type 0) (f : A → Result B E) (r : Result A E) → ((a : A) → OkHas Holds (f a)) → OkHas Holds (and_then f r)
then_held Holds f (Ok a) h = h a
then_held Holds f (Err e) h = tt

pub then_both : {A B E : Type 0} (Before : A → Type 0) (Holds : B → Type 0) (f : A → Result B E) (r : Result A E) → OkHas Before r → ((a : A) → Before a → OkHas Holds (f a)) → OkHas Holds (and_then f r)
then_both Before Holds f (Ok a) k h = h a k
then_both Before Holds f (Err e) k h = tt

pub numbered_held : {A : Type 0} (Holds : A → Type 0) (n : ℕ) (r : Result A Cause) → OkHas Holds r → OkHas Holds (numbered n r)
numbered_held Holds n (Ok a) h = h
numbered_held Holds n (Err e) h = tt

abbrev pub ChangeHas : (Json → Type 0) → ChangeTree → Type 0
ChangeHas Holds (adds k) = Holds k
ChangeHas Holds (replaces k) = Holds k
ChangeHas Holds removes = Unit {0}

chosen : {E : Type 0} (Holds : Json → Type 0) (b : Bool) (r s : Result Json E) → OkHas Holds r → OkHas Holds s → OkHas Holds (cond b r s)
chosen Holds true r s h g = h
chosen Holds false r s h g = g

-- what the operations keep, where what fits is kept when it is put at a place
module _
    (Fits Holds : Json → Type 0)
    (content_fits : (p : List (List ℕ)) (j : Json) → Holds j → OkHas Fits (content_at p j))
    (of_added : (p : List (List ℕ)) (k j : Json) → Fits k → Holds j → OkHas Holds (added p k j))
    (of_replaced : (p : List (List ℕ)) (k j : Json) → Fits k → Holds j → OkHas Holds (replaced p k j))
    (of_removed : (p : List (List ℕ)) (j : Json) → Holds j → OkHas Holds (changed removes p j)) where
  moved_held : (f p : List (List ℕ)) (j k : Json) → Holds j → Fits k → OkHas Holds (moved f p j k)
  moved_held f p j k h g =
      chosen Holds (is_same_place f p) (Ok j) _ h
      (chosen Holds (begins_with f p) (Err IntoItself) (and_then (added p k) (changed removes f j)) tt
      (then_both Holds Holds (added p k) (changed removes f j) (of_removed f j h) (λ m e. of_added p k m g e)))

  operated_held : (o : OperationTree) (j : Json) → ValueHas Fits o → Holds j → OkHas Holds (operated o j)
  operated_held (add p k) j h g = of_added p k j h g
  operated_held (remove p) j h g = of_removed p j g
  operated_held (replace p k) j h g = of_replaced p k j h g
  operated_held (move f p) j h g =
      then_both Fits Holds (moved f p j) (content_at f j) (content_fits f j g) (λ k e. moved_held f p j k g e)
  operated_held (copy f p) j h g =
      then_both Fits Holds (λ k. added p k j) (content_at f j) (content_fits f j g) (λ k e. of_added p k j e g)
  operated_held (test p v) j h g =
      then_held Holds (tested j v) (content_at p j) (λ k. chosen Holds (equal k v) (Ok j) (Err TestFailed) g tt)

  from_held : (n : ℕ) (os : List OperationTree) (j : Json) → ValuesHave Fits os → Holds j → OkHas Holds (patched_from n os j)
  from_held n [] j h g = g
  from_held n (o ∷ os) j h g =
      then_both Holds Holds (patched_from (n + 1) os) (numbered n (operated o j))
      (numbered_held Holds n (operated o j) (operated_held o j h.0 g)) (λ m e. from_held (n + 1) os m h.1 e)

  pub all_held : (os : List OperationTree) (j : Json) → ValuesHave Fits os → Holds j → OkHas Holds (patched os j)
  all_held os j h g = from_held 0 os j h g

-- what is kept by each single change
module _
    (Holds : Json → Type 0)
    (of_child : (i : ℕ) (j : Json) → Holds j → Holds (child i j))
    (of_put : (i : ℕ) (k j : Json) → Holds k → Holds j → Holds (put i k j))
    (of_cut : (i : ℕ) (j : Json) → Holds j → Holds (cut i j))
    (of_added : (s : List ℕ) (k j : Json) → Holds k → Holds j → OkHas Holds (with_added s k j)) where
  content_held : (p : List (List ℕ)) (j : Json) → Holds j → OkHas Holds (content_at p j)
  content_held [] j h = h
  content_held (s ∷ ss) j h =
      then_held Holds (λ i. content_at ss (child i j)) (position s j) (λ i. content_held ss (child i j) (of_child i j h))

  whole_held : (c : ChangeTree) → ChangeHas Holds c → OkHas Holds (changed_whole c)
  whole_held (adds k) h = h
  whole_held (replaces k) h = h
  whole_held removes h = tt

  child_held : (c : ChangeTree) (s : List ℕ) (j : Json) → ChangeHas Holds c → Holds j → OkHas Holds (changed_child c s j)
  child_held (adds k) s j h g = of_added s k j h g
  child_held (replaces k) s j h g = on_held Holds (λ i. put i k j) (position s j) (λ i. of_put i k j h g)
  child_held removes s j h g = on_held Holds (λ i. cut i j) (position s j) (λ i. of_cut i j g)

  changed_held : (c : ChangeTree) (p : List (List ℕ)) (j : Json) → ChangeHas Holds c → Holds j → OkHas Holds (changed c p j)
  changed_held c [] j h g = whole_held c h
  changed_held c (s ∷ []) j h g = child_held c s j h g
  changed_held c (s ∷ r ∷ rs) j h g =
      then_held Holds (λ i. on_ok (λ k. put i k j) (changed c (r ∷ rs) (child i j))) (position s j)
      (λ i. on_both Holds Holds (λ k. put i k j) (changed c (r ∷ rs) (child i j))
      (changed_held c (r ∷ rs) (child i j) h (of_child i j g)) (λ k e. of_put i k j e g))

  shallow_held : (b : Bool) (j : Json) → Holds j → OkHas Holds (if_shallow b j)
  shallow_held true j h = h
  shallow_held false j h = tt

  added_held : (p : List (List ℕ)) (k j : Json) → Holds k → Holds j → OkHas Holds (added p k j)
  added_held p k j h g =
      then_both Holds Holds (if_shallow (is_shallow p k)) (changed (adds k) p j)
      (changed_held (adds k) p j h g) (shallow_held (is_shallow p k))

  replaced_held : (p : List (List ℕ)) (k j : Json) → Holds k → Holds j → OkHas Holds (replaced p k j)
  replaced_held p k j h g =
      then_both Holds Holds (if_shallow (is_shallow p k)) (changed (replaces k) p j)
      (changed_held (replaces k) p j h g) (shallow_held (is_shallow p k))

  pub patched_held : (os : List OperationTree) (j : Json) → ValuesHave Holds os → Holds j → OkHas Holds (patched os j)
  patched_held = all_held Holds Holds content_held added_held replaced_held (λ p j. changed_held removes p j tt)
