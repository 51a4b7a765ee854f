-- The walks over a word, and what the calls promise.
use Rattle.std.proofs.Common.{◌≡◌, ℕ, zero, suc, ◌+◌, ◌<◌, ◌≤◌, true, List, [], ◌∷◌, length, map, drop, get_or, Result, Ok, Err, refl, sym, ap, subst, ◌∙◌, arith, rules}
use Rattle.std.specs.Prelude.{IfOk, IfErr, IsOk, MatchResult, Option, None}
use Rattle.hold_shapes.specs.Plans.{Planned}
use Rattle.bridge_lists.specs.Carried as Lists
use Rattle.std.specs.Str.{is_utf8, IsUtf8}
use Rattle.std.proofs.lemmas.Str.{is_utf8-from_IsUtf8}
use Rattle.std.proofs.lemmas.List.{drop_all}
use Rattle.doc_values.specs.Documents.{DocTree}
use Rattle.doc_values.specs.Types.{TyTree, is_well_formed}
use Rattle.doc_values.specs.Typing.{has}
use Rattle.edit_module.specs.declared.word.Primitive.{Primitive, the_lemmas as primitive_lemmas}
use Rattle.edit_module.specs.declared.word.Primitive.TheVariants.{Stay}
use Rattle.edit_module.specs.declared.word.Word.{Word}
use Rattle.edit_module.specs.Words.{PrimitiveTree, stay, WordTree, no_primitives, word_of, joined}
use Rattle.edit_module.specs.Depths.{primitive_depth, word_depth}
use Rattle.edit_module.specs.Views.{primitive_tree, word_tree}
use Rattle.edit_module.specs.Action.{act, act_primitive, inner}
use Rattle.edit_module.proofs.ActionKeepsTypes.{list-held}
use Rattle.edit_module.proofs.Words.{joined_assoc, left_primitives}
use Rattle.edit_module.proofs.JoinedWords.{joined_nothing}
use Rattle.edit_module.proofs.WordSteps.{later-none, later-more}
use Rattle.bridge_core.specs.Bridges.{BridgeTree, BridgeTrees, same, arm, bridge_tree}
use Rattle.bridge_core.specs.Bridged.{led_on, bridge, bridge_primitive}
use Rattle.bridge_core.specs.Carried.{gone, fails, Answer, carry_stay, carry_planned, in_front, then_carry, carry, carry_primitive}
use Rattle.bridge_core.specs.Spans.{Spans}
use Rattle.bridge_core.specs.Laws.{BridgeSpans, CarriedActs, OnlyGoneIsRefused, BeginsAt, LeadsTo, SpansValue}
use Rattle.bridge_core.specs.Refusals.{carried_tree, IsNotCarried, IsGone}
use Rattle.bridge_core.specs.declared.carried_word.CarriedWord.{CarriedWord}
use Rattle.bridge_core.specs.declared.fault.CarryFault.{CarryFault}
use Rattle.bridge_core.specs.declared.fault.CarryFault.TheVariants.{Gone, NoApply, NoMemory}

-- ---- what the calls promise

pub carried-acts : CarriedActs → (t : TyTree) (b : BridgeTree) (w : WordTree) (r : Result CarriedWord CarryFault) → MatchResult r (λ it. carry t b w ≡ Ok (carried_tree it)) (λ fault. IsNotCarried (carry t b w) fault)
    → IfOk r (λ it. (s u v : DocTree) → Spans b t s u → act t w s ≡ Ok v → LeadsTo (bridge_tree it.bridge) t v (inner (act t (word_tree it.word) u)))
carried-acts law t b w (Ok it) h = λ s u v k e. law t w b s u v (carried_tree it) k e h
carried-acts law t b w (Err fault) h = tt

-- a refusal of a word that acts on the near document
is-gone : OnlyGoneIsRefused → (t : TyTree) (b : BridgeTree) (w : WordTree) (fault : CarryFault) → IsNotCarried (carry t b w) fault → (s v : DocTree) → BeginsAt b t s → act t w s ≡ Ok v → IsGone fault
is-gone law t b w Gone e s v h k = tt
is-gone law t b w NoMemory e s v h k = tt
is-gone law t b w (NoApply cause) e s v h k = let is : fails cause ≡ gone = law t w b s v (fails cause) h k e in absurd cc

pub refused-gone : OnlyGoneIsRefused → (t : TyTree) (b : BridgeTree) (w : WordTree) (r : Result CarriedWord CarryFault) → MatchResult r (λ it. carry t b w ≡ Ok (carried_tree it)) (λ fault. IsNotCarried (carry t b w) fault)
    → IfErr r (λ fault. (s v : DocTree) → BeginsAt b t s → act t w s ≡ Ok v → IsGone fault)
refused-gone law t b w (Ok it) h = tt
refused-gone law t b w (Err fault) h = λ s v k e. is-gone law t b w fault h s v k e

pub value-spans : BridgeSpans → (t : TyTree) (w : WordTree) (b : BridgeTree) (v u : DocTree) → is_well_formed t ≡ true → has t v ≡ true → act t w v ≡ Ok u → b ≡ bridge t w v same → SpansValue b t v (act t w v)
value-spans law t w b v u sound h e is = rw (e, is) (law t w same v v u sound h h refl e)

-- ---- the loop of carry

pub front-none : (r : Answer) → in_front no_primitives r ≡ r
front-none (Ok a) = refl
front-none (Err why) = refl

front-more : (u w : WordTree) (r : Answer) → in_front u (in_front w r) ≡ in_front (joined u w) r
front-more u w (Ok a) = ap (λ (x : WordTree). Ok (x, a.1)) (sym (joined_assoc u w a.0))
front-more u w (Err why) = refl

pub carry-next : (t : TyTree) (ps : List Primitive) (i : ℕ) (p : Primitive) (b c : BridgeTree) (u w : WordTree) → i < length ps → p ≡ get_or ps i p → carry_primitive t b (primitive_tree p) ≡ Ok (w, c)
    → in_front (joined u w) (carry t c (word_of (map primitive_tree (drop (i + 1) ps)))) ≡ in_front u (carry t b (word_of (map primitive_tree (drop i ps))))
carry-next t ps i p b c u w h is e =
    let rest = word_of (map primitive_tree (drop (i + 1) ps)) in
    sym (
    ap (λ (l : List Primitive). in_front u (carry t b (word_of (map primitive_tree l)))) (left_primitives ps i p h is)
    ∙ (ap (λ (r : Answer). in_front u (then_carry r (λ d. carry t d rest))) e ∙ front-more u w (carry t c rest))
    )

pub carry-stop : (t : TyTree) (ps : List Primitive) (i : ℕ) (p : Primitive) (b : BridgeTree) (u : WordTree) (r : Answer) → i < length ps → p ≡ get_or ps i p → carry_primitive t b (primitive_tree p) ≡ r
    → in_front u (carry t b (word_of (map primitive_tree (drop i ps)))) ≡ in_front u (then_carry r (λ d. carry t d (word_of (map primitive_tree (drop (i + 1) ps)))))
carry-stop t ps i p b u r h is e =
    ap (λ (l : List Primitive). in_front u (carry t b (word_of (map primitive_tree l)))) (left_primitives ps i p h is)
    ∙ ap (λ (o : Answer). in_front u (then_carry o (λ d. carry t d (word_of (map primitive_tree (drop (i + 1) ps)))))) e

pub carry-done : (t : TyTree) (ps : List Primitive) (i : ℕ) (b : BridgeTree) (u : WordTree) → length ps ≤ i → in_front u (carry t b (word_of (map primitive_tree (drop i ps)))) ≡ Ok (u, b)
carry-done t ps i b u h =
    ap (λ (l : List Primitive). in_front u (carry t b (word_of (map primitive_tree l)))) (drop_all i ps h) ∙ ap (λ (x : WordTree). Ok (x, b)) (joined_nothing u)

-- a primitive that is refused refuses the word
pub carry-refused : (t : TyTree) (ps : List Primitive) (i : ℕ) (p : Primitive) (b : BridgeTree) (u : WordTree) (whole : Answer) (fault : CarryFault) → i < length ps → p ≡ get_or ps i p
    → in_front u (carry t b (word_of (map primitive_tree (drop i ps)))) ≡ whole → IsNotCarried (carry_primitive t b (primitive_tree p)) fault → IsNotCarried whole fault
carry-refused t ps i p b u whole Gone h is e k = sym e ∙ carry-stop t ps i p b u (Err gone) h is k
carry-refused t ps i p b u whole (NoApply cause) h is e k = sym e ∙ carry-stop t ps i p b u (Err (fails cause)) h is k
carry-refused t ps i p b u whole NoMemory h is e k = tt

-- a primitive that edits the content of a tag
primitive_tree-Stay : (a : List ℕ) (w : Word) → primitive_tree (Stay a w) ≡ stay a (word_tree w)
primitive_tree-Stay a w = search (rules, primitive_lemmas)

pub stay-row : (t : TyTree) (tag a : List ℕ) (b : BridgeTree) (w : Word) (p : Primitive) (r : Result CarriedWord CarryFault) → p ≡ Stay a w
    → MatchResult r (λ it. carry_stay t tag b a (λ u c. carry u c (word_tree w)) ≡ Ok (carried_tree it)) (λ fault. IsNotCarried (carry_stay t tag b a (λ u c. carry u c (word_tree w))) fault)
    → MatchResult r (λ it. carry_primitive t (arm tag b) (primitive_tree p) ≡ Ok (carried_tree it)) (λ fault. IsNotCarried (carry_primitive t (arm tag b) (primitive_tree p)) fault)
stay-row t tag a b w p r is h =
    let P : PrimitiveTree → Type 0 = λ q. MatchResult r (λ it. carry_primitive t (arm tag b) q ≡ Ok (carried_tree it)) (λ fault. IsNotCarried (carry_primitive t (arm tag b) q) fault) in
    subst P (sym (ap primitive_tree is ∙ primitive_tree-Stay a w)) h

-- ---- the loop of bridge

pub bridge-next : (t : TyTree) (ps : List Primitive) (i : ℕ) (p : Primitive) (v u : DocTree) (b c : BridgeTree) → i < length ps → p ≡ get_or ps i p → act_primitive t (primitive_tree p) v ≡ Ok u → c ≡ bridge_primitive t (primitive_tree p) v b
    → bridge t (word_of (map primitive_tree (drop (i + 1) ps))) u c ≡ bridge t (word_of (map primitive_tree (drop i ps))) v b
bridge-next t ps i p v u b c h is e k =
    let rest = word_of (map primitive_tree (drop (i + 1) ps)) in
    sym (
    ap (λ (l : List Primitive). bridge t (word_of (map primitive_tree l)) v b) (left_primitives ps i p h is)
    ∙ (ap (λ r. led_on b r (λ x. bridge t rest x (bridge_primitive t (primitive_tree p) v b))) e ∙ ap (λ d. bridge t rest u d) (sym k))
    )

pub bridge-done : (t : TyTree) (ps : List Primitive) (i : ℕ) (v : DocTree) (b : BridgeTree) → length ps ≤ i → bridge t (word_of (map primitive_tree (drop i ps))) v b ≡ b
bridge-done t ps i v b h = ap (λ (l : List Primitive). bridge t (word_of (map primitive_tree l)) v b) (drop_all i ps h)

pub ruleset walk_rules = (later-none, later-more)

-- ---- a primitive is less deep than its word

pub part-depth : (ps : List Primitive) (i : ℕ) (p : Primitive) → i < length ps → p ≡ get_or ps i p → primitive_depth (primitive_tree p) + 1 ≤ word_depth (word_of (map primitive_tree ps))
part-depth [] i p h is = absurd (omega arith)
part-depth (q ∷ ps) (suc i) p h is = let ih = part-depth ps i p (omega arith) is in omega arith
part-depth (q ∷ ps) zero p h is =
    let P : Primitive → Type 0 = λ x. primitive_depth (primitive_tree x) + 1 ≤ word_depth (word_of (map primitive_tree (q ∷ ps))) in
    subst P (sym is) (omega arith)

-- ---- texts of the code are UTF-8

pub known-text : (x : List ℕ) → IsUtf8 x → is_utf8 x ≡ true
known-text x h = is_utf8-from_IsUtf8 x h

pub ruleset text_rules = (known-text)

-- ---- containers

pub ruleset place_rules = (list-held)

pub planned-gone : (r : Planned) (o : Option Lists.Carried) (bs : BridgeTrees) → IsOk r → o ≡ None → carry_planned r o bs ≡ Err gone
planned-gone (Ok p) o bs h e = ap (λ (q : Option Lists.Carried). carry_planned (Ok p) q bs) e
planned-gone (Err cause) o bs h e = absurd cc

pub ruleset planned_rules = (planned-gone)
