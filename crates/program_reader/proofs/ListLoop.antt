-- Reading a list as a loop does.
use Rattle.std.proofs.Common.{◌≡◌, ℕ, ◌-◌, ◌<◌, true, false, List, [], ◌∷◌, ◌++◌, length, Option, Some, None, Result, Ok, Err, refl, sym, ap, subst, ◌∙◌, append_assoc, arith, inl, inr}
use Rattle.std.proofs.lemmas.List.{append-nil}
use Rattle.program_tokens.specs.declared.mark.Mark.TheVariants.{Comma}
use Rattle.program_tokens.specs.declared.token.PlacedToken.{PlacedToken}
use Rattle.program_grammar.specs.declared.mention.Mention.{Mention}
use Rattle.program_grammar.specs.Mentions.{Point}
use Rattle.program_grammar.specs.Reading.{Read, ◌>>=◌, is_mark, next_is, mark_in, mark_at, more_at, list_at}
use Rattle.program_reader.specs.declared.fault.ReadFault.{ReadFault}
use Rattle.program_reader.specs.declared.fault.ReadFault.TheVariants as faults
use Rattle.program_reader.specs.Gives.{Fails}
use Rattle.program_grammar.proofs.ReadingResults.{ok_is, chosen}
use Rattle.program_grammar.proofs.RestOfTokens.{more_after, more_ends}
use Rattle.program_grammar.proofs.TokensLeft.{LeavesFewer, mark_leaves}

-- the elements behind commas at this point
abbrev pub more_from : {A : Type 0} → (Point → Read A) → Point → Read (List A)
more_from element p = more_at element 0 p.0 p.1

-- what was read before, and what is still read
abbrev pub with_front : {A B : Type 0} → List A → Result (List A × B) (Option ℕ) → Result (List A × B) (Option ℕ)
with_front front read = read >>= λ x. Ok (front ++ x.0, x.1)

-- a loop has so far read these elements of a list, and is at this point
abbrev pub IsSoFar : {A : Type 0} → (Point → Read A) → List A → Point → Read (List A) → Type 0
IsSoFar element front p whole = with_front front (more_from element p) ≡ whole

-- ---- the elements behind a comma

-- a comma that is there
comma_in : (ms : List Mention) (ts : List PlacedToken) (q : Point) → mark_in Comma ms ts ≡ Ok q → (t : PlacedToken) × (ts ≡ t ∷ q.1) × (q ≡ (ms, q.1)) × (is_mark Comma t.token ≡ true)
comma_in ms [] q e = absurd cc
comma_in ms (t ∷ ts) q e =
    elim (chosen (is_mark Comma t.token) (Ok (ms, ts)) (Err (Some t.at)) (Ok q) e) [
      | inl p ↦ let here = ok_is (ms, ts) q p.1 in (t, ap (λ (r : Point). t ∷ r.1) here, subst (λ (r : Point). r ≡ (ms, r.1)) here refl, p.0)
      | inr p ↦ absurd cc
    ]

comma_is : (p q : Point) → mark_at Comma p ≡ Ok q → (t : PlacedToken) × (p.1 ≡ t ∷ q.1) × (q ≡ (p.0, q.1)) × (is_mark Comma t.token ≡ true)
unfolding mark_at
comma_is p q e = comma_in p.0 p.1 q e

more_reads : {A : Type 0} (element : Point → Read A) (ms : List Mention) (t : PlacedToken) (ts : List PlacedToken) → is_mark Comma t.token ≡ true
    → more_at element 0 ms (t ∷ ts) ≡ (element (ms, ts) >>= λ x. more_at element (length ts - length x.1.1) x.1.0 ts >>= λ xs. Ok (x.0 ∷ xs.0, xs.1))
unfolding more_at
more_reads element ms t ts h = rw h refl

-- behind a comma stands an element, and behind it the others
more_comma : {A : Type 0} (element : Point → Read A) (p q : Point) → mark_at Comma p ≡ Ok q
    → more_from element p ≡ (element q >>= λ x. more_at element (length q.1 - length x.1.1) x.1.0 q.1 >>= λ xs. Ok (x.0 ∷ xs.0, xs.1))
more_comma element p q e =
    let c = comma_is p q e in
    ap (more_at element 0 p.0) c.1 ∙ more_reads element p.0 c.0 q.1 c.3
    ∙ ap (λ (r : Point). element r >>= λ x. more_at element (length q.1 - length x.1.1) x.1.0 q.1 >>= λ xs. Ok (x.0 ∷ xs.0, xs.1)) (sym c.2)

more_element : {A : Type 0} (element : Point → Read A) (p q : Point) (x : A × Point) → LeavesFewer element → mark_at Comma p ≡ Ok q → element q ≡ Ok x
    → more_from element p ≡ (more_from element x.1 >>= λ xs. Ok (x.0 ∷ xs.0, xs.1))
more_element element p q x m e h = more_comma element p q e ∙ rw h (rw (more_after element x.1.0 q.1 x.1.1 (m q x h).rest) refl)

more_fails : {A : Type 0} (element : Point → Read A) (p q : Point) (f : Option ℕ) → mark_at Comma p ≡ Ok q → element q ≡ Err f → more_from element p ≡ Err f
more_fails element p q f e h = more_comma element p q e ∙ rw h refl

-- ---- a loop

pub regroup : {A B : Type 0} (front : List A) (n : A) (read : Result (List A × B) (Option ℕ)) → with_front front (read >>= λ x. Ok (n ∷ x.0, x.1)) ≡ with_front (front ++ n ∷ []) read
regroup {A = A} front n (Ok x) = ap (λ (ns : List A). Ok (ns, x.1)) (simp append_assoc)
regroup {A = A} front n (Err f) = refl

-- it begins with one element
pub begins : {A : Type 0} (element : Point → Read A) (p : Point) (x : A × Point) → element p ≡ Ok x → IsSoFar element (x.0 ∷ []) x.1 (list_at element p)
unfolding list_at
begins element p x h = rw h refl

-- it fails where the first element does
pub begins_not : {A : Type 0} (element : Point → Read A) (p : Point) (fault : ReadFault) → Fails fault (element p) → Fails fault (list_at element p)
unfolding list_at
begins_not element p faults.NoMemory h = tt
begins_not element p faults.Ended h = rw h refl
begins_not element p (faults.At at) h = rw h refl

-- it goes on behind a comma
pub goes_on : {A : Type 0} (element : Point → Read A) (front : List A) (p q : Point) (x : A × Point) (whole : Read (List A)) → LeavesFewer element → mark_at Comma p ≡ Ok q → element q ≡ Ok x
    → IsSoFar element front p whole → IsSoFar element (front ++ x.0 ∷ []) x.1 whole
goes_on element front p q x whole m e h so_far =
    sym (regroup front x.0 (more_from element x.1)) ∙ ap (with_front front) (sym (more_element element p q x m e h)) ∙ so_far

-- it fails where an element behind a comma does
pub breaks : {A : Type 0} (element : Point → Read A) (front : List A) (p q : Point) (fault : ReadFault) (whole : Read (List A)) → mark_at Comma p ≡ Ok q → Fails fault (element q)
    → IsSoFar element front p whole → Fails fault whole
breaks element front p q faults.NoMemory whole e h so_far = tt
breaks element front p q faults.Ended whole e h so_far = sym so_far ∙ ap (with_front front) (more_fails element p q None e h)
breaks element front p q (faults.At at) whole e h so_far = sym so_far ∙ ap (with_front front) (more_fails element p q (Some at) e h)

-- it ends where no comma comes, and takes nothing more
pub is_done : {A : Type 0} (element : Point → Read A) (front : List A) (p q : Point) (whole : Read (List A)) → (next_is Comma p.1 ≡ false) × (q ≡ p)
    → IsSoFar element front p whole → whole ≡ Ok (front, q)
is_done {A = A} element front p q whole h so_far =
    sym so_far ∙ ap (with_front front) (more_ends element p.0 p.1 h.0) ∙ ap (λ (ns : List A). Ok (ns, p)) (append-nil front) ∙ ap (λ (r : Point). Ok (front, r)) (sym h.1)

-- fewer tokens are left behind a comma and an element
pub shorter : {A : Type 0} (element : Point → Read A) (p q : Point) (x : A × Point) → LeavesFewer element → mark_at Comma p ≡ Ok q → element q ≡ Ok x → length x.1.1 < length p.1
shorter element p q x m e h = omega (arith, (mark_leaves Comma p q e).less, (m q x h).less)
