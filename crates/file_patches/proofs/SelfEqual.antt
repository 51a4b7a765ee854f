-- A tree in which no object has a name twice is equal to itself.
use Rattle.std.proofs.Common.{◌≡◌, ◌≢◌, ℕ, zero, suc, ◌<◌, eqb, Bool, true, false, List, ◌∷◌, length, get_or, Some, Ok, refl, sym, ap, ◌∙◌, arith, eq-eqb}
use Rattle.std.specs.Prelude.{bytes_eq, ⊤}
use Rattle.std.proofs.lemmas.Slice.Eq.{bytes_eq-Decides}
use Rattle.json.specs.Json.{Json, null, boolean, number, string, array, object, Items, no_items, item, Members, no_members, member}
use Rattle.json.specs.Strict.{keys, AreDistinct, HasUniqueKeys, ItemsHaveUniqueKeys, MembersHaveUniqueKeys}
use Rattle.texts.proofs.Conjunction.{both}
use Rattle.texts.proofs.KeyOrder.{bytes_eq-refl}
use Rattle.file_patches.specs.Numbers.{same_bool}
use Rattle.file_patches.specs.Patching.{tested}
use Rattle.file_patches.specs.Equality.{equal, items_equal, members_equal, named, passes, item_count, member_count}

same_count : (n : ℕ) → eqb n n ≡ true
same_count n = eq-eqb n n refl

other_text : (b : Bool) (s t : List ℕ) → bytes_eq s t ≡ b → (s ≡ t → ⊥) → b ≡ false
other_text true s t e n = absurd (n ((bytes_eq-Decides s t).0 e))
other_text false s t e n = refl

-- ---- names

-- no member has the name
abbrev Lacks : List ℕ → Members → Type 0
Lacks k no_members = ⊤
Lacks k (member n j ms) = (bytes_eq n k ≡ false) × Lacks k ms

skip : (k m : List ℕ) (ks : List (List ℕ)) → AreDistinct (k ∷ m ∷ ks) → (i j : ℕ) (d : List ℕ) → i < j → j < length (k ∷ ks) → get_or (k ∷ ks) i d ≢ get_or (k ∷ ks) j d
skip k m ks h zero zero d a b = absurd (omega (arith, a))
skip k m ks h (suc i) zero d a b = absurd (omega (arith, a))
skip k m ks h zero (suc j) d a b = h 0 (suc (suc j)) d (omega arith) (omega (arith, b))
skip k m ks h (suc i) (suc j) d a b = h (suc (suc i)) (suc (suc j)) d (omega (arith, a)) (omega (arith, b))

without_second : (k m : List ℕ) (ks : List (List ℕ)) → AreDistinct (k ∷ m ∷ ks) → AreDistinct (k ∷ ks)
without_second k m ks h = λ i j d a b. skip k m ks h i j d a b

lacks : (k : List ℕ) (ms : Members) → AreDistinct (k ∷ keys ms) → Lacks k ms
lacks k no_members h = tt
lacks k (member n j ms) h =
    (other_text (bytes_eq n k) n k refl (λ e. h 0 1 k (omega arith) (omega arith) (sym e)), lacks k ms (without_second k n (keys ms) h))

-- each member is the first of its name
abbrev AreNamed : Members → Members → Type 0
AreNamed no_members ns = ⊤
AreNamed (member k j ms) ns = (named k ns ≡ Some j) × AreNamed ms ns

more_named : (k : List ℕ) (j : Json) (ms ns : Members) → Lacks k ms → AreNamed ms ns → AreNamed ms (member k j ns)
more_named k j no_members ns l h = tt
more_named k j (member n i ms) ns l h = (rw l.0 h.0, more_named k j ms ns l.1 h.1)

all_named : (ms : Members) → AreDistinct (keys ms) → AreNamed ms ms
all_named no_members h = tt
all_named (member k j ms) h =
    (rw (bytes_eq-refl k) refl, more_named k j ms ms (lacks k ms h) (all_named ms (λ i l d a b. h (suc i) (suc l) d (omega (arith, a)) (omega (arith, b)))))

-- ---- trees

same_truth : (b : Bool) → same_bool b b ≡ true
same_truth true = refl
same_truth false = refl

mutual
  pub equal_self : (j : Json) → HasUniqueKeys j → equal j j ≡ true
  equal_self null h = refl
  equal_self (boolean b) h = same_truth b
  equal_self (number s) h = rw (bytes_eq-refl s) refl
  equal_self (string s) h = bytes_eq-refl s
  equal_self (array js) h = both _ _ (same_count (item_count js)) (items_self js h)
  equal_self (object ms) h = both _ _ (same_count (member_count ms)) (members_self ms ms h.1 (all_named ms h.0))

  items_self : (js : Items) → ItemsHaveUniqueKeys js → items_equal js js ≡ true
  items_self no_items h = refl
  items_self (item j js) h = both _ _ (equal_self j h.0) (items_self js h.1)

  members_self : (ms ns : Members) → MembersHaveUniqueKeys ms → AreNamed ms ns → members_equal ms ns ≡ true
  members_self no_members ns h n = refl
  members_self (member k j ms) ns h n = both _ _ (ap (passes (equal j)) n.0 ∙ equal_self j h.0) (members_self ms ns h.1 n.1)

pub test_self : (j k : Json) → HasUniqueKeys k → tested j k k ≡ Ok j
test_self j k h = rw (equal_self k h) refl
