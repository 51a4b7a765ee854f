-- Answers of `carry`, and what it is for a word to be carried.
use Rattle.std.proofs.Common.{◌≡◌, ℕ, Bool, true, false, Option, None, Some, Result, Ok, Err, refl, sym, subst}
use Rattle.std.specs.Prelude.{cond}
use Rattle.doc_values.specs.Documents.{DocTree}
use Rattle.doc_values.specs.Types.{TyTree}
use Rattle.edit_module.specs.declared.fault.Cause.{Cause}
use Rattle.edit_module.specs.declared.fault.Cause.TheVariants.{Overflow}
use Rattle.edit_module.specs.Words.{PrimitiveTree, WordTree, no_primitives, more_primitives, joined}
use Rattle.edit_module.specs.Action.{Why, act, act_primitive, later, after, inner}
use Rattle.bridge_core.specs.Bridges.{BridgeTree}
use Rattle.bridge_core.specs.Carried.{WhyNot, fails, Answer, if_there, around, in_front, then_carry, carry, carry_primitive}
use Rattle.bridge_core.specs.Spans.{Spans}
use Rattle.bridge_core.specs.Laws.{BeginsAt, LeadsTo}

-- a primitive, and a word, that acts on the near document is carried to one that acts on the far one
abbrev pub Carries : PrimitiveTree → Type 0
Carries p = (t : TyTree) (b : BridgeTree) (s u x : DocTree) (q : WordTree × BridgeTree) → Spans b t s u → act_primitive t p s ≡ Ok x → carry_primitive t b p ≡ Ok q → LeadsTo q.1 t x (inner (act t q.0 u))

abbrev pub IsCarried : WordTree → Type 0
IsCarried w = (t : TyTree) (b : BridgeTree) (s u v : DocTree) (q : WordTree × BridgeTree) → Spans b t s u → act t w s ≡ Ok v → carry t b w ≡ Ok q → LeadsTo q.1 t v (inner (act t q.0 u))

-- ---- answers

pub behind-ok : (a : WordTree × BridgeTree) (o : Answer) (q : WordTree × BridgeTree) → in_front a.0 o ≡ Ok q → (c : WordTree × BridgeTree) × (o ≡ Ok c) × ((joined a.0 c.0, c.1) ≡ q)
behind-ok a (Ok c) q k = (c, refl, cc)
behind-ok a (Err why) q k = absurd cc

pub then-ok : (r : Answer) (f : BridgeTree → Answer) (q : WordTree × BridgeTree) → then_carry r f ≡ Ok q
    → (a : WordTree × BridgeTree) × (c : WordTree × BridgeTree) × (r ≡ Ok a) × (f a.1 ≡ Ok c) × ((joined a.0 c.0, c.1) ≡ q)
then-ok (Err why) f q e = absurd cc
then-ok (Ok a) f q e = let b = behind-ok a (f a.1) q e in (a, b.0, refl, b.1, b.2)

pub there-ok : {A : Type 0} (o : Option A) (c : Cause) (f : A → Answer) (q : WordTree × BridgeTree) → if_there o c f ≡ Ok q → (x : A) × (o ≡ Some x) × (f x ≡ Ok q)
there-ok None c f q e = absurd cc
there-ok (Some x) c f q e = (x, refl, e)

pub around-ok : (p : WordTree → PrimitiveTree) (b : BridgeTree → BridgeTree) (r : Answer) (q : WordTree × BridgeTree) → around p b r ≡ Ok q → (a : WordTree × BridgeTree) × (r ≡ Ok a) × ((more_primitives (p a.0) no_primitives, b a.1) ≡ q)
around-ok p b (Ok a) q e = (a, refl, cc)
around-ok p b (Err why) q e = absurd cc

pub test-ok : (t : Bool) (r : Answer) (why : WhyNot) (q : WordTree × BridgeTree) → cond t r (Err why) ≡ Ok q → (t ≡ true) × (r ≡ Ok q)
test-ok true r why q e = (refl, e)
test-ok false r why q e = absurd cc

-- ---- words of one primitive, and joined words

pub inner-after : (r : Result DocTree Cause) → inner (after r (λ v. Ok v)) ≡ r
inner-after (Ok v) = refl
inner-after (Err c) = refl

pub only-acts : (t : TyTree) (p : PrimitiveTree) (u : DocTree) → inner (act t (more_primitives p no_primitives) u) ≡ act_primitive t p u
only-acts t p u = inner-after (act_primitive t p u)

pub leads-only : (t : TyTree) (p : PrimitiveTree) (b : BridgeTree) (x u : DocTree) → LeadsTo b t x (act_primitive t p u) → LeadsTo b t x (inner (act t (more_primitives p no_primitives) u))
leads-only t p b x u h = subst (λ r. LeadsTo b t x r) (sym (only-acts t p u)) h

pub inner-later : (n : ℕ) (r : Result DocTree Why) → inner (later n r) ≡ inner r
inner-later n (Ok v) = refl
inner-later n (Err why) = refl

-- a failure is that of a sum, and the bridge behind it begins somewhere
pub leads-fails : (b c : BridgeTree) (t s : TyTree) (x y : DocTree) (cause : Cause) → (BeginsAt b t x → BeginsAt c s y) → LeadsTo b t x (Err cause) → LeadsTo c s y (Err cause)
leads-fails b c t s x y Overflow f h = f h
leads-fails b c t s x y _ f h = absurd h

pub begins : (b : BridgeTree) (t : TyTree) (x : DocTree) (r : Result DocTree Cause) → LeadsTo b t x r → BeginsAt b t x
begins b t x (Ok u) h = (u, h)
begins b t x (Err Overflow) h = h
begins b t x (Err _) h = absurd h
