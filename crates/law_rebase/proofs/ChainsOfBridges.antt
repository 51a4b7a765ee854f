-- Words that go through bridges in a row.
use Rattle.std.proofs.Common.{◌≡◌, List, [], ◌∷◌, ◌++◌, Result, Ok, Err, refl, sym, ap, subst, ◌⊎◌, inl, inr}
use Rattle.doc_values.specs.Documents.{DocTree}
use Rattle.doc_values.specs.Types.{TyTree}
use Rattle.edit_module.specs.declared.fault.Cause.{Cause}
use Rattle.edit_module.specs.declared.fault.Cause.TheVariants.{Overflow}
use Rattle.edit_module.specs.Words.{WordTree}
use Rattle.edit_module.specs.Action.{Why, act, inner}
use Rattle.bridge_core.specs.Bridges.{BridgeTree}
use Rattle.bridge_core.specs.Carried.{WhyNot, gone, Answer, carry}
use Rattle.bridge_core.specs.Spans.{Spans}
use Rattle.bridge_core.specs.Laws.{CarriedActs, OnlyGoneIsRefused, LeadsTo}
use Rattle.law_rebase.specs.Through.{Through, goes_on, carried_through}
use Rattle.law_rebase.specs.Chains.{Leads, SumsFit}

-- ---- chains

-- a bridge behind the others
pub leads_on : (bs : List BridgeTree) (b : BridgeTree) (t : TyTree) (s u v : DocTree) → Leads t bs s u → Spans b t u v
    → Leads t (bs ++ (b ∷ [])) s v
leads_on [] b t s u v way h = (v, subst (λ x. Spans b t x v) (sym way) h, refl)
leads_on (c ∷ bs) b t s u v way h = (way.0, way.1, leads_on bs b t way.0 u v way.2 h)

-- ---- one bridge

abbrev failure : Cause → Result DocTree Cause
failure cause = Err cause

-- an answer to which a bridge leads is a value, unless a sum does not fit
leads_to_value : (b : BridgeTree) (t : TyTree) (v : DocTree) (cause : Cause) → LeadsTo b t v (failure cause)
    → (failure cause ≡ Err Overflow → ⊥) → ⊥
leads_to_value b t v Overflow h fits = fits refl
leads_to_value b t v _ h fits = h

acted : (b : BridgeTree) (t : TyTree) (q : WordTree) (v u : DocTree) (r : Result DocTree Why) → act t q u ≡ r
    → LeadsTo b t v (inner r) → (inner r ≡ Err Overflow → ⊥) → (x : DocTree) × (act t q u ≡ Ok x)
acted b t q v u (Ok x) e h fits = (x, e)
acted b t q v u (Err why) e h fits = absurd (leads_to_value b t v why.1 h fits)

-- a word that acts on the near document and is carried acts on the far one, where the sum fits
carries : CarriedActs → (t : TyTree) (b : BridgeTree) (w : WordTree) (s u v : DocTree) (q : WordTree × BridgeTree)
    → Spans b t s u → act t w s ≡ Ok v → carry t b w ≡ Ok q → (inner (act t q.0 u) ≡ Err Overflow → ⊥)
    → (x : DocTree) × (act t q.0 u ≡ Ok x)
carries law t b w s u v q h acts is fits = acted q.1 t q.0 v u (act t q.0 u) refl (law t w b s u v q h acts is) fits

-- ---- bridges in a row

refused_on : (r : Answer) (rest : WordTree → Through) (why : WhyNot) → goes_on r rest ≡ Err why
    → (r ≡ Err why) ⊎ ((a : WordTree × BridgeTree) × (r ≡ Ok a) × (rest a.0 ≡ Err why))
refused_on (Ok a) rest why e = inr (a, refl, e)
refused_on (Err refused) rest why e = let is : refused ≡ why = cc in inl (ap (λ (x : WhyNot). Err x) is)

went_on : (r : Answer) (rest : WordTree → Through) (q : WordTree) → goes_on r rest ≡ Ok q
    → (a : WordTree × BridgeTree) × (r ≡ Ok a) × (rest a.0 ≡ Ok q)
went_on (Ok a) rest q e = (a, refl, e)
went_on (Err why) rest q e = absurd cc

in_case : {A B C : Type 0} → (A → C) → (B → C) → A ⊎ B → C
in_case f g (inl x) = f x
in_case f g (inr x) = g x

pub only_gone : CarriedActs → OnlyGoneIsRefused → (t : TyTree) (bs : List BridgeTree) (w : WordTree) (s u v : DocTree)
    (way : Leads t bs s u) (why : WhyNot) → SumsFit t bs s u way w → act t w s ≡ Ok v
    → carried_through t bs w ≡ Err why → why ≡ gone
only_gone law only t [] w s u v way why fits acts e = absurd cc
only_gone law only t (b ∷ bs) w s u v way why fits acts e =
    in_case
    (λ k. only t w b s v why (way.0, way.1) acts k)
    (λ c.
    let f = fits c.0 c.1 in
    let x = carries law t b w s way.0 v c.0 way.1 acts c.1 f.0 in
    only_gone law only t bs c.0.0 way.0 u x.0 way.2 why f.1 x.1 c.2)
    (refused_on (carry t b w) (λ q. carried_through t bs q) why e)

pub chain_acts : CarriedActs → (t : TyTree) (bs : List BridgeTree) (w q : WordTree) (s u v : DocTree)
    (way : Leads t bs s u) → SumsFit t bs s u way w → act t w s ≡ Ok v → carried_through t bs w ≡ Ok q
    → (x : DocTree) × (act t q u ≡ Ok x)
chain_acts law t [] w q s u v way fits acts e =
    let is : w ≡ q = cc in (v, subst (λ x. act t q x ≡ Ok v) way (subst (λ y. act t y s ≡ Ok v) is acts))
chain_acts law t (b ∷ bs) w q s u v way fits acts e =
    let c = went_on (carry t b w) (λ y. carried_through t bs y) q e in
    let f = fits c.0 c.1 in
    let x = carries law t b w s way.0 v c.0 way.1 acts c.1 f.0 in
    chain_acts law t bs c.0.0 q way.0 u x.0 way.2 f.1 x.1 c.2
