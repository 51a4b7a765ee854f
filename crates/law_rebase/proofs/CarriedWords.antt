-- Joined words and bridges in a row, and the way from the one author's document to the other's.
use Rattle.std.proofs.Common.{◌≡◌, ℕ, List, [], ◌∷◌, ◌++◌, Result, Ok, Err, refl, sym, ap, ◌∙◌}
use Rattle.doc_values.specs.Documents.{DocTree}
use Rattle.doc_values.specs.Types.{TyTree}
use Rattle.edit_module.specs.Words.{WordTree, no_primitives, more_primitives, joined, word_length}
use Rattle.edit_module.specs.Action.{Why, act, inner, later}
use Rattle.edit_module.specs.Laws.{JoinedActsInTurn, in_turn}
use Rattle.edit_module.proofs.Words.{joined_assoc}
use Rattle.edit_inverse.specs.Inverse.{inverse}
use Rattle.edit_inverse.specs.Laws.{InverseTakesBack}
use Rattle.bridge_core.specs.Bridges.{BridgeTree}
use Rattle.bridge_core.specs.Carried.{Answer, in_front, then_carry, carry, carry_primitive}
use Rattle.law_rebase.specs.Through.{Through, goes_on, then_through, carried_through}
use Rattle.law_rebase.specs.Laws.{RebasedMeets}

-- ---- joined words

front_nothing : (r : Answer) → in_front no_primitives r ≡ r
front_nothing (Ok a) = refl
front_nothing (Err why) = refl

front_twice : (u w : WordTree) (r : Answer) → in_front u (in_front w r) ≡ in_front (joined u w) r
front_twice u w (Ok a) = ap (λ (x : WordTree). Ok (x, a.1)) (sym (joined_assoc u w a.0))
front_twice u w (Err why) = refl

-- what follows an answer, with a word in front of both
front_of_both : (u : WordTree) (r : Answer) (rest : BridgeTree → Answer)
    → in_front u (then_carry r rest) ≡ then_carry (in_front u r) rest
front_of_both u (Ok a) rest = front_twice u a.0 (rest a.1)
front_of_both u (Err why) rest = refl

-- a primitive's answer, then that of a rest, which is one answer and then another
in_parts : (r : Answer) (whole first : BridgeTree → Answer) (second : BridgeTree → Answer)
    → ((c : BridgeTree) → whole c ≡ then_carry (first c) second)
    → then_carry r whole ≡ then_carry (then_carry r first) second
in_parts (Ok a) whole first second h = ap (λ (x : Answer). in_front a.0 x) (h a.1) ∙ front_of_both a.0 (first a.1) second
in_parts (Err why) whole first second h = refl

pub carried_joined : (v w : WordTree) (t : TyTree) (b : BridgeTree)
    → carry t b (joined v w) ≡ then_carry (carry t b v) (λ c. carry t c w)
carried_joined no_primitives w t b = sym (front_nothing (carry t b w))
carried_joined (more_primitives p v) w t b =
    in_parts (carry_primitive t b p) (λ c. carry t c (joined v w)) (λ c. carry t c v) (λ c. carry t c w)
    (λ c. carried_joined v w t c)

-- ---- bridges in a row

after_one : (r : Answer) (whole first : WordTree → Through) (second : WordTree → Through)
    → ((q : WordTree) → whole q ≡ then_through (first q) second)
    → goes_on r whole ≡ then_through (goes_on r first) second
after_one (Ok a) whole first second h = h a.0
after_one (Err why) whole first second h = refl

pub gone_through : (bs cs : List BridgeTree) (t : TyTree) (w : WordTree)
    → carried_through t (bs ++ cs) w ≡ then_through (carried_through t bs w) (λ q. carried_through t cs q)
gone_through [] cs t w = refl
gone_through (b ∷ bs) cs t w =
    after_one (carry t b w) (λ q. carried_through t (bs ++ cs) q) (λ q. carried_through t bs q)
    (λ q. carried_through t cs q) (λ q. gone_through bs cs t q)

-- ---- two authors

inner_later : (n : ℕ) (r : Result DocTree Why) → inner (later n r) ≡ inner r
inner_later n (Ok v) = refl
inner_later n (Err why) = refl

-- behind a word that acts, a second word has the value or the cause that it has on the first one's value
behind : JoinedActsInTurn → (t : TyTree) (u w : WordTree) (x y : DocTree) → act t u x ≡ Ok y
    → inner (act t (joined u w) x) ≡ inner (act t w y)
behind law t u w x y e =
    ap inner (law t u w x)
    ∙ (ap (λ (r : Result DocTree Why). inner (in_turn (word_length u) r (λ z. act t w z))) e
    ∙ inner_later (word_length u) (act t w y))

pub meets : JoinedActsInTurn → InverseTakesBack → RebasedMeets
meets law back t p q s u v r sound h texts acts_p acts_q carried =
    behind law t (inverse t q s) (joined p r.0) v s (back t q s v sound h texts acts_q)
    ∙ behind law t p r.0 s u acts_p
