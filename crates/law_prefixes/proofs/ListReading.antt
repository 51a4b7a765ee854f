-- Lists with commas and initial values, read beside the machine.
use Rattle.std.proofs.Common.{◌≡◌, ℕ, zero, suc, ◌-◌, true, false, cond, List, [], ◌∷◌, ◌++◌, length, drop, Some, None, Ok, refl, sym, ap, subst, ◌∙◌, inl, inr}
use Rattle.std.specs.Option.{option_or}
use Rattle.program_tokens.specs.declared.mark.Mark.{Mark}
use Rattle.program_tokens.specs.declared.mark.Mark.TheVariants.{Comma, Equals}
use Rattle.program_tokens.specs.declared.token.Token.{Token}
use Rattle.program_tokens.specs.declared.token.Token.TheVariants as tokens
use Rattle.program_tokens.specs.declared.token.PlacedToken.{PlacedToken}
use Rattle.program_grammar.specs.declared.mention.Mention.{Mention}
use Rattle.program_grammar.specs.Grammar.{Symbol, mark, Part, perhaps, repeated, contents}
use Rattle.program_grammar.specs.Mentions.{Point}
use Rattle.program_grammar.specs.Reading.{Read, is_mark, mark_at, more_at, list_at, closed_at, perhaps_at, initial_at}
use Rattle.law_prefixes.proofs.Machine.{first_of, take_inside, take_one, stop}
use Rattle.program_grammar.proofs.RestOfTokens.{drop_to_rest}
use Rattle.law_prefixes.proofs.MachineSteps.{Takes, Reads, stop_nothing, takes_ok, takes_then, none_as, takes_first, takes_as, either_way}
use Rattle.program_grammar.proofs.MarkTokens.{mark_is}
use Rattle.law_prefixes.proofs.InitialValues.{Declares, equals_or, not_declared}
use Rattle.law_prefixes.proofs.TokenReading.{mark_takes}

-- the part is a comma and these symbols
abbrev pub Commas : Part → List Symbol → Type 0
Commas p e = contents p ≡ (mark Comma ∷ e) ∷ []

comma_or : (p : Part) (e s : List Symbol) (k : Token) → Commas p e → take_one (repeated p ∷ s) k ≡ cond (is_mark Comma k) (Some (e ++ (repeated p ∷ s))) (take_one s k)
unfolding take_one
comma_or p e s k h =
    ap (λ c. option_or (first_of (λ a. take_inside (a ++ (repeated p ∷ s)) k) c) (take_one s k)) h
    ∙ elim (is_mark Comma k) as (λ b. option_or (option_or (cond b (Some (e ++ (repeated p ∷ s))) None) None) (take_one s k) ≡ cond b (Some (e ++ (repeated p ∷ s))) (take_one s k)) [ true ↦ refl | false ↦ refl ]

-- an element behind a comma, or none
comma_takes : {A : Type 0} (p : Part) (e s : List Symbol) (t : PlacedToken) (ms : List Mention) (ts : List PlacedToken) (r : Read (List A)) → Commas p e
    → Takes (List A × Point) (λ x. x.1.1) (e ++ (repeated p ∷ s)) s ts r
    → Takes (List A × Point) (λ x. x.1.1) (repeated p ∷ s) s (t ∷ ts) (cond (is_mark Comma t.token) r (Ok ([], (ms, t ∷ ts))))
comma_takes p e s t ms ts r c h =
    elim (either_way (is_mark Comma t.token)) [
      | inl it_is ↦ rw it_is (takes_first t.token t.at ts (e ++ (repeated p ∷ s)) (comma_or p e s t.token c ∙ rw it_is refl) h)
      | inr not_it ↦ rw not_it (takes_as s t.token t.at ts (comma_or p e s t.token c ∙ rw not_it refl) (takes_ok s ([], (ms, t ∷ ts))))
    ]

pub done_takes : {X : Type 0} {left : X → List PlacedToken} (a s : List Symbol) (x : X) → left x ≡ [] → Takes X left a s [] (Ok x)
done_takes {left = left} a s x e = record {
  leaves = λ y g. record { front = []; parts = sym e ∙ ap left cc };
  stops = stop_nothing a ∙ sym (stop_nothing s) ∙ ap (λ ts. stop s ts) (sym e);
}

more_takes : {A : Type 0} (element : Point → Read A) (p : Part) (e : List Symbol) → Commas p e → Reads A e element
    → (s : List Symbol) (skip : ℕ) (ms : List Mention) (ts : List PlacedToken) → Takes (List A × Point) (λ x. x.1.1) (repeated p ∷ s) s (drop skip ts) (more_at element skip ms ts)
unfolding more_at
more_takes element p e c h s zero ms [] = done_takes (repeated p ∷ s) s ([], (ms, [])) refl
more_takes element p e c h s (suc skip) ms [] = done_takes (repeated p ∷ s) s ([], (ms, [])) refl
more_takes element p e c h s (suc skip) ms (t ∷ ts) = more_takes element p e c h s skip ms ts
more_takes {A = A} element p e c h s zero ms (t ∷ ts) =
    comma_takes p e s t ms ts _ c (takes_then (element (ms, ts)) _ (h (repeated p ∷ s) (ms, ts)) (λ x k.
    let there = drop_to_rest ts x.1.1 ((h (repeated p ∷ s) (ms, ts)).leaves x k) in
    takes_then (more_at element (length ts - length x.1.1) x.1.0 ts) _
    (subst (λ rest. Takes (List A × Point) (λ y. y.1.1) (repeated p ∷ s) s rest (more_at element (length ts - length x.1.1) x.1.0 ts)) there (more_takes element p e c h s (length ts - length x.1.1) x.1.0 ts))
    (λ xs k. takes_ok s (x.0 ∷ xs.0, xs.1))))

list_takes : {A : Type 0} (element : Point → Read A) (p : Part) (e : List Symbol) → Commas p e → Reads A e element
    → (s : List Symbol) (q : Point) → Takes (List A × Point) (λ x. x.1.1) (e ++ (repeated p ∷ s)) s q.1 (list_at element q)
unfolding list_at
list_takes element p e c h s q =
    takes_then (element q) _ (h (repeated p ∷ s) q) (λ x k.
    takes_then (more_at element 0 x.1.0 x.1.1) _ (more_takes element p e c h s 0 x.1.0 x.1.1) (λ xs k. takes_ok s (x.0 ∷ xs.0, xs.1)))

-- a list, and the mark after it
pub closed_takes : {A : Type 0} (element : Point → Read A) (p : Part) (e : List Symbol) (close : Mark) → Commas p e → Reads A e element
    → (s : List Symbol) (q : Point) → Takes (List A × Point) (λ x. x.1.1) (e ++ (repeated p ∷ mark close ∷ s)) s q.1 (closed_at element close q)
unfolding closed_at
closed_takes element p e close c h s q =
    takes_then (list_at element q) _ (list_takes element p e c h (mark close ∷ s) q) (λ xs k.
    takes_then (mark_at close xs.1) _ (mark_takes close s xs.1) (λ rest k. takes_ok s (xs.0, rest)))

-- Before the mark that closes it the part is not there, and before another token it has to be.
pub record Opens (o p : Part) (e : List Symbol) (close : Mark) : Type 0 where
  pub shut : (s : List Symbol) → take_one (perhaps o ∷ mark close ∷ s) (tokens.Mark close) ≡ take_one (mark close ∷ s) (tokens.Mark close)
  pub opened : (s : List Symbol) (k : Token) → is_mark close k ≡ false → take_one (perhaps o ∷ mark close ∷ s) k ≡ take_one (e ++ (repeated p ∷ mark close ∷ s)) k

perhaps_after : {A : Type 0} (element : Point → Read A) (o p : Part) (e : List Symbol) (close : Mark) → Commas p e → Opens o p e close → Reads A e element
    → (s : List Symbol) (ms : List Mention) (ts : List PlacedToken) → Takes (List A × Point) (λ x. x.1.1) (perhaps o ∷ mark close ∷ s) s ts (perhaps_at element close (ms, ts))
unfolding perhaps_at
perhaps_after element o p e close c opens h s ms [] = none_as (perhaps o ∷ mark close ∷ s) (e ++ (repeated p ∷ mark close ∷ s)) (closed_takes element p e close c h s (ms, []))
perhaps_after element o p e close c opens h s ms (t ∷ ts) =
    elim (either_way (is_mark close t.token)) [
      | inl it_is ↦
          let same = subst (λ k. take_one (perhaps o ∷ mark close ∷ s) k ≡ take_one (mark close ∷ s) k) (sym (mark_is close t.token it_is)) (opens.shut s) in
          rw it_is (takes_as (mark close ∷ s) t.token t.at ts same (takes_then (mark_at close (ms, t ∷ ts)) _ (mark_takes close s (ms, t ∷ ts)) (λ rest k. takes_ok s ([], rest))))
      | inr not_it ↦ rw not_it (takes_as (e ++ (repeated p ∷ mark close ∷ s)) t.token t.at ts (opens.opened s t.token not_it) (closed_takes element p e close c h s (ms, t ∷ ts)))
    ]

-- a list that may be empty, and the mark after it
pub perhaps_takes : {A : Type 0} (element : Point → Read A) (o p : Part) (e : List Symbol) (close : Mark) → Commas p e → Opens o p e close → Reads A e element
    → (s : List Symbol) (q : Point) → Takes (List A × Point) (λ x. x.1.1) (perhaps o ∷ mark close ∷ s) s q.1 (perhaps_at element close q)
perhaps_takes element o p e close c opens h s q = perhaps_after element o p e close c opens h s q.0 q.1

-- ---- initial values

takes_equals : (s : List Symbol) (k : Token) → is_mark Equals k ≡ true → take_one (mark Equals ∷ s) k ≡ Some s
unfolding take_one
takes_equals s k h = rw h refl

initial_after : {A : Type 0} (value : Point → Read A) (left_out : A) (p : Part) (x : Symbol) → Declares p (x ∷ []) → Reads A (x ∷ []) value
    → (s : List Symbol) (ms : List Mention) (ts : List PlacedToken) → Takes (A × Point) (λ x. x.1.1) (perhaps p ∷ s) s ts (initial_at value left_out (ms, ts))
unfolding initial_at
initial_after value left_out p x c h s ms [] = done_takes (perhaps p ∷ s) s (left_out, (ms, [])) refl
initial_after value left_out p x c h s ms (t ∷ ts) =
    elim (either_way (is_mark Equals t.token)) [
      | inl it_is ↦
          let same = equals_or p (x ∷ []) s t.token c ∙ rw it_is refl in
          let first = takes_equals (x ∷ s) t.token it_is in
          rw it_is (takes_as (mark Equals ∷ x ∷ s) t.token t.at ts (same ∙ sym first) (takes_then (mark_at Equals (ms, t ∷ ts)) _ (mark_takes Equals (x ∷ s) (ms, t ∷ ts)) (λ rest k. h s rest)))
      | inr not_it ↦ rw not_it (takes_as s t.token t.at ts (not_declared p (x ∷ []) s t.token c not_it) (takes_ok s (left_out, (ms, t ∷ ts))))
    ]

-- a value behind `=`, or none
pub initial_takes : {A : Type 0} (value : Point → Read A) (left_out : A) (p : Part) (x : Symbol) → Declares p (x ∷ []) → Reads A (x ∷ []) value → Reads A (perhaps p ∷ []) (initial_at value left_out)
initial_takes value left_out p x c h s q = initial_after value left_out p x c h s q.0 q.1
