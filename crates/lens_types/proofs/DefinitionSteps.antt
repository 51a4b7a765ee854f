-- One definition after another.
use Rattle.std.proofs.Common.{◌≡◌, ℕ, zero, suc, ◌+◌, ◌≤◌, true, false, true≢false, ◌||◌, List, [], ◌∷◌, ◌++◌, length, map, take, drop, bytes_eq, Option, Some, None, is_some, refl, ap, ap₂, sym, ◌∙◌, subst, add-one}
use Rattle.std.specs.Prelude.{option_map, slice_get, if◌then◌else◌}
use Rattle.std.specs.Option.{option_or}
use Rattle.std.proofs.lemmas.List.{drop_all, map-append}
use Rattle.texts.specs.Keys.{has_name}
use Rattle.program_terms.specs.Terms as Term
use Rattle.program_terms.proofs.DistinctNames.{not_before, one_more}
use Rattle.lens_types.specs.Earlier.{KnownTree, Definitions, known, known_of, all_known}
use Rattle.lens_types.specs.Checking.{Failure, def_failure, failure_after}
use Rattle.lens_types.specs.Faults.{IsFaultOf}
use Rattle.lens_types.specs.declared.fault.TypeFault.{TypeFault}
use Rattle.lens_types.specs.declared.fault.TypeFault.TheVariants.{MiddleDiffers, RepeatedField, RepeatedTag, RepeatedMember, NotAMember, TooLarge, TooDeep, NoMemory}
use Rattle.lens_types.proofs.Entries.{not_known}
use Rattle.lens_types.proofs.SoundForms.{are_sound, sound_more, def_sound}
use Rattle.std.proofs.lemmas.Option.{same_Some}

-- ---- a list from a place on

-- what is at a place is the first thing from that place on
drop_at : {A : Type 0} (xs : List A) (i : ℕ) (x : A) → slice_get xs i ≡ Some x → drop i xs ≡ x ∷ drop (suc i) xs
drop_at [] i x h = absurd (true≢false (sym (ap is_some h)))
drop_at (y ∷ xs) zero x h = ap (λ z. z ∷ xs) (same_Some y x h)
drop_at (y ∷ xs) (suc i) x h = drop_at xs i x h

pair_is : {A B : Type 0} (o : Option (A × B)) (a : A) (b : B) → option_map (λ x. x.0) o ≡ Some a → option_map (λ x. x.1) o ≡ Some b → o ≡ Some (a, b)
pair_is None a b h k = cc
pair_is (Some x) a b h k = ap₂ (λ c d. Some (c, d)) (same_Some x.0 a h) (same_Some x.1 b k)

-- the same where only the second part is known
second_is : {A B : Type 0} (o : Option (A × B)) (b : B) → option_map (λ x. x.1) o ≡ Some b → (a : A) × (o ≡ Some (a, b))
second_is None b k = let no : ⊥ = cc in absurd no
second_is (Some x) b k = (x.0, ap (λ d. Some (x.0, d)) (same_Some x.1 b k))

-- ---- a definition that has a failure

first_fault : (a b : Option Failure) (fault : TypeFault) → IsFaultOf a fault → IsFaultOf (option_or a b) fault
first_fault a b (MiddleDiffers left right) h = ap (λ o. option_or o b) h
first_fault a b (RepeatedField name) h = ap (λ o. option_or o b) h
first_fault a b (RepeatedTag name) h = ap (λ o. option_or o b) h
first_fault a b (RepeatedMember name) h = ap (λ o. option_or o b) h
first_fault a b (NotAMember name) h = ap (λ o. option_or o b) h
first_fault a b TooLarge h = ap (λ o. option_or o b) h
first_fault a b TooDeep h = ap (λ o. option_or o b) h
first_fault a b NoMemory h = tt

pub fault_at : (ds : Definitions) (defs : List (List ℕ × Term.DefTree)) (i : ℕ) (d : Term.DefTree) (main : Term.LensTree) (whole : Option Failure) (fault : TypeFault)
    → option_map (λ x. x.1) (slice_get defs i) ≡ Some d → failure_after ds (drop i defs) main ≡ whole → IsFaultOf (def_failure ds d) fault → IsFaultOf whole fault
fault_at ds defs i d main whole fault k h f =
    let at = second_is (slice_get defs i) d k in
    let from = drop_at defs i (at.0, d) at.1 in
    let P : Option Failure → Type 0 = λ o. IsFaultOf o fault in
    subst P (ap (λ xs. failure_after ds xs main) (sym from) ∙ h) (first_fault (def_failure ds d) _ fault f)

-- ---- a definition that has none

-- after the first definitions: what is left to check, what they stand for, and their names
pub record IsAfter (ds : Definitions) (defs : List (List ℕ × Term.DefTree)) (i : ℕ) (main : Term.LensTree) (whole : Option Failure) (all : Definitions) : Type 0 where
  pub failure : failure_after ds (drop i defs) main ≡ whole
  pub known : all_known ds (drop i defs) ≡ all
  pub sound : are_sound ds ≡ true
  pub names : map (λ d. d.0) ds ≡ map (λ d. d.0) (take i defs)

pub after_next : (ds new : Definitions) (defs : List (List ℕ × Term.DefTree)) (i : ℕ) (n : List ℕ) (d : Term.DefTree) (k : KnownTree) (main : Term.LensTree) (whole : Option Failure) (all : Definitions)
    → option_map (λ x. x.0) (slice_get defs i) ≡ Some n → option_map (λ x. x.1) (slice_get defs i) ≡ Some d
    → def_failure ds d ≡ None → k ≡ known_of ds d → new ≡ ds ++ (n, k) ∷ []
    → IsAfter ds defs i main whole all → IsAfter new defs (i + 1) main whole all
after_next ds new defs i n d k main whole all name def none known made h =
    let at = pair_is (slice_get defs i) n d name def in
    let from = drop_at defs i (n, d) at in
    let is : new ≡ ds ++ (n, known_of ds d) ∷ [] = made ∙ ap (λ x. ds ++ (n, x) ∷ []) known in
    let names : map (λ x. x.0) (ds ++ (n, known_of ds d) ∷ []) ≡ map (λ x. x.0) (take (i + 1) defs) =
    map-append (λ (x : List ℕ × KnownTree). x.0) ds ((n, known_of ds d) ∷ [])
    ∙ ap (λ ns. ns ++ n ∷ []) h.names
    ∙ sym (map-append (λ (x : List ℕ × Term.DefTree). x.0) (take i defs) ((n, d) ∷ []))
    ∙ ap (map (λ x. x.0)) (one_more defs i (n, d) at) in
    let next : drop (i + 1) defs ≡ drop (suc i) defs = ap (λ j. drop j defs) (add-one i) in
    let made_so : IsAfter (ds ++ (n, known_of ds d) ∷ []) defs (i + 1) main whole all =
    record {
      failure =
          ap (λ xs. failure_after (ds ++ (n, known_of ds d) ∷ []) xs main) next
          ∙ ap (λ o. option_or o (failure_after (ds ++ (n, known_of ds d) ∷ []) (drop (suc i) defs) main)) (sym none)
          ∙ ap (λ xs. failure_after ds xs main) (sym from) ∙ h.failure;
      known = ap (all_known (ds ++ (n, known_of ds d) ∷ [])) next ∙ ap (all_known ds) (sym from) ∙ h.known;
      sound = sound_more ds n (known_of ds d) h.sound (def_sound ds h.sound d none);
      names = names;
    } in
    let P : Definitions → Type 0 = λ x. IsAfter x defs (i + 1) main whole all in
    subst P (sym is) made_so

defined-has : (ds : List (List ℕ × Term.DefTree)) (name : List ℕ) → Term.is_defined name ds ≡ has_name name (map (λ d. d.0) ds)
defined-has [] name = refl
defined-has (d ∷ ds) name =
    elim (bytes_eq name d.0) as (λ b. is_some (if b then Some d.1 else Term.def_named name ds) ≡ (b || has_name name (map (λ x. x.0) ds))) [ true ↦ refl | false ↦ defined-has ds name ]

-- the name of the next definition is new
pub next_is_new : (ds : Definitions) (defs : List (List ℕ × Term.DefTree)) (i : ℕ) (n : List ℕ) (d : Term.DefTree) (main : Term.LensTree) (whole : Option Failure) (all : Definitions)
    → Term.are_defined_once defs ≡ true → option_map (λ x. x.0) (slice_get defs i) ≡ Some n → option_map (λ x. x.1) (slice_get defs i) ≡ Some d
    → IsAfter ds defs i main whole all → known ds n ≡ None
next_is_new ds defs i n d main whole all distinct name def h =
    not_known ds n
    (ap (has_name n) h.names ∙ sym (defined-has (take i defs) n) ∙ not_before defs i (n, d) distinct (pair_is (slice_get defs i) n d name def))

-- ---- after the last one

pub main_failure : (ds : Definitions) (defs : List (List ℕ × Term.DefTree)) (i : ℕ) (main : Term.LensTree) (whole : Option Failure)
    → length defs ≤ i → failure_after ds (drop i defs) main ≡ whole → def_failure ds (Term.lens_def main) ≡ whole
main_failure ds defs i main whole past h = ap (λ xs. failure_after ds xs main) (sym (drop_all i defs past)) ∙ h

pub main_known : (ds : Definitions) (defs : List (List ℕ × Term.DefTree)) (i : ℕ) (all : Definitions) → length defs ≤ i → all_known ds (drop i defs) ≡ all → ds ≡ all
main_known ds defs i all past a = ap (all_known ds) (sym (drop_all i defs past)) ∙ a
