-- Lists of elements with commas between them.
use Rattle.std.proofs.Common.{◌≡◌, ℕ, zero, suc, ◌-◌, false, cond, List, [], ◌∷◌, length, drop, Option, Result, Ok, refl, sym, ap, subst, ◌∙◌, eqb, inl, inr}
use Rattle.program_tokens.specs.Words.{mark_byte}
use Rattle.program_tokens.specs.declared.mark.Mark.{Mark}
use Rattle.program_tokens.specs.declared.mark.Mark.TheVariants.{Equals, Comma}
use Rattle.program_tokens.specs.declared.token.Token.TheVariants as tokens
use Rattle.program_tokens.specs.declared.token.PlacedToken.{PlacedToken}
use Rattle.program_grammar.specs.declared.mention.Mention.{Mention}
use Rattle.program_grammar.specs.Mentions.{Point}
use Rattle.program_grammar.specs.Reading.{Read, ◌>>=◌, is_mark, next_is, mark_at, more_at, list_at, closed_at, perhaps_at}
use Rattle.program_grammar.specs.Spelling.{Is}
use Rattle.program_grammar.proofs.ReadingResults.{done, bind_ok, chosen}
use Rattle.program_grammar.proofs.RestOfTokens.{drop_to_rest, more_after, more_ends}
use Rattle.law_spellings.proofs.ReadingSteps.{ComesBefore, no_step, onward, is_ahead, Anything, NoEquals, Exact, read_as, read_first}
use Rattle.law_spellings.proofs.Marks.{point_is, this_mark, mark_again, mark_first, mark_next, other_mark}

-- elements behind commas
abbrev pub Others : {A : Type 0} → (A → Point → Point → Type 0) → List A → Point → Point → Type 0
Others R [] here there = here ≡ there
Others R (x ∷ xs) here there = (a b : Point) × Is (tokens.Mark Comma) here a × R x a b × Others R xs b there

-- elements with commas between them
abbrev pub Listed : {A : Type 0} → (A → Point → Point → Type 0) → List A → Point → Point → Type 0
Listed R [] here there = ⊥
Listed R (x ∷ xs) here there = (a : Point) × R x here a × Others R xs a there

-- these, and a mark behind them
abbrev pub Closed : {A : Type 0} → (A → Point → Point → Type 0) → Mark → List A → Point → Point → Type 0
Closed R close xs here there = (a : Point) × Listed R xs here a × Is (tokens.Mark close) a there

-- or the mark alone
abbrev pub Perhaps : {A : Type 0} → (A → Point → Point → Type 0) → Mark → List A → Point → Point → Type 0
Perhaps R close [] here there = Is (tokens.Mark close) here there
Perhaps R close (x ∷ xs) here there = Closed R close (x ∷ xs) here there

-- elements behind commas

others_move : {A : Type 0} (R : A → Point → Point → Type 0) (element : Point → Read A) → Exact R NoEquals element → (xs : List A) (here there : Point) → Others R xs here there → ComesBefore here there
others_move R element e [] here there h = no_step h
others_move R element e (x ∷ xs) here there h = onward (is_ahead h.2) (onward (e.moves x h.0 h.1 h.3) (others_move R element e xs h.1 there h.4))

more_found : {A : Type 0} (R : A → Point → Point → Type 0) (element : Point → Read A) → Exact R NoEquals element → (skip : ℕ) (ms : List Mention) (ts : List PlacedToken) (x : List A × Point)
    → more_at element skip ms ts ≡ Ok x → Others R x.0 (ms, drop skip ts) x.1
unfolding more_at
more_found R element e zero ms [] x h = read_as (Others R) (ms, []) ([], (ms, [])) x h refl
more_found R element e (suc skip) ms [] x h = read_as (Others R) (ms, []) ([], (ms, [])) x h refl
more_found R element e (suc skip) ms (t ∷ ts) x h = more_found R element e skip ms ts x h
more_found {A = A} R element e zero ms (t ∷ ts) x h =
    elim (chosen (is_mark Comma t.token) _ _ _ h) [
      | inl p ↦
          let a = bind_ok (element (ms, ts)) (λ y. more_at element (length ts - length y.1.1) y.1.0 ts >>= λ ys. Ok (y.0 ∷ ys.0, ys.1)) x p.1 in
          let b = bind_ok (more_at element (length ts - length a.0.1.1) a.0.1.0 ts) (λ ys. Ok (a.0.0 ∷ ys.0, ys.1)) x a.2 in
          let first = e.found (ms, ts) a.0 a.1 in
          let others = more_found R element e (length ts - length a.0.1.1) a.0.1.0 ts b.0 b.1 in
          let rest = drop_to_rest ts a.0.1.1 (e.moves a.0.0 (ms, ts) a.0.1 first).rest in
          read_as (Others R) (ms, t ∷ ts) (a.0.0 ∷ b.0.0, b.0.1) x b.2
          ((ms, ts), a.0.1, this_mark Comma ms t ts p.0, first, subst (λ (r : List PlacedToken). Others R b.0.0 (a.0.1.0, r) b.0.1) rest others)
      | inr p ↦ read_as (Others R) (ms, t ∷ ts) ([], (ms, t ∷ ts)) x p.1 refl
    ]

-- if no `=` stands behind them, none stands before them
no_equals : {A : Type 0} (R : A → Point → Point → Type 0) (xs : List A) (here there : Point) → Others R xs here there → NoEquals there → NoEquals here
no_equals R [] here there h behind = subst NoEquals (sym h) behind
no_equals R (x ∷ xs) here there h behind = other_mark Equals Comma refl h.2

-- behind a comma
more_comma : {A : Type 0} (element : Point → Read A) (here a b : Point) (x : A) → Is (tokens.Mark Comma) here a → element a ≡ Ok (x, b) → ComesBefore a b
    → more_at element 0 here.0 here.1 ≡ (more_at element 0 b.0 b.1 >>= λ ys. Ok (x ∷ ys.0, ys.1))
unfolding more_at
more_comma {A = A} element here a b x comma read h =
    ap (λ (p : Point). more_at element 0 p.0 p.1) (point_is comma)
    ∙ ap (λ (r : Read A). r >>= λ y. more_at element (length a.1 - length y.1.1) y.1.0 a.1 >>= λ ys. Ok (y.0 ∷ ys.0, ys.1)) read
    ∙ ap (λ (r : Read (List A)). r >>= λ ys. Ok (x ∷ ys.0, ys.1)) (more_after element b.0 a.1 b.1 h.rest)

more_again : {A : Type 0} (R : A → Point → Point → Type 0) (element : Point → Read A) → Exact R NoEquals element → (xs : List A) (here there : Point) → Others R xs here there → next_is Comma there.1 ≡ false → NoEquals there
    → more_at element 0 here.0 here.1 ≡ Ok (xs, there)
more_again R element e [] here there h ends behind = ap (λ (p : Point). more_at element 0 p.0 p.1) h ∙ more_ends element there.0 there.1 ends
more_again {A = A} R element e (x ∷ xs) here there h ends behind =
    more_comma element here h.0 h.1 x h.2 (e.again x h.0 h.1 h.3 (no_equals R xs h.1 there h.4 behind)) (e.moves x h.0 h.1 h.3)
    ∙ ap (λ (r : Read (List A)). r >>= λ ys. Ok (x ∷ ys.0, ys.1)) (more_again R element e xs h.1 there h.4 ends behind)

-- elements with commas between them

listed_move : {A : Type 0} (R : A → Point → Point → Type 0) (element : Point → Read A) → Exact R NoEquals element → (xs : List A) (here there : Point) → Listed R xs here there → ComesBefore here there
listed_move R element e [] here there h = absurd h
listed_move R element e (x ∷ xs) here there h = onward (e.moves x here h.0 h.1) (others_move R element e xs h.0 there h.2)

list_found : {A : Type 0} (R : A → Point → Point → Type 0) (element : Point → Read A) → Exact R NoEquals element → (here : Point) (x : List A × Point) → list_at element here ≡ Ok x → Listed R x.0 here x.1
unfolding list_at
list_found R element e here x h =
    read_first R element e here _ x _ h (λ y first h.
    let b = bind_ok (more_at element 0 y.1.0 y.1.1) (λ ys. Ok (y.0 ∷ ys.0, ys.1)) x h in
    read_as (Listed R) here (y.0 ∷ b.0.0, b.0.1) x b.2 (y.1, first, more_found R element e 0 y.1.0 y.1.1 b.0 b.1))

list_again : {A : Type 0} (R : A → Point → Point → Type 0) (element : Point → Read A) → Exact R NoEquals element → (xs : List A) (here there : Point) → Listed R xs here there → next_is Comma there.1 ≡ false → NoEquals there
    → list_at element here ≡ Ok (xs, there)
unfolding list_at
list_again R element e [] here there h ends behind = absurd h
list_again {A = A} R element e (x ∷ xs) here there h ends behind =
    ap (λ (r : Read A). r >>= λ y. more_at element 0 y.1.0 y.1.1 >>= λ ys. Ok (y.0 ∷ ys.0, ys.1)) (e.again x here h.0 h.1 (no_equals R xs h.0 there h.2 behind))
    ∙ ap (λ (r : Read (List A)). r >>= λ ys. Ok (x ∷ ys.0, ys.1)) (more_again R element e xs h.0 there h.2 ends behind)

-- a list and the mark behind it, which is neither a comma nor `=`

abbrev pub Closes : Mark → Type 0
Closes close = (eqb (mark_byte close) (mark_byte Comma) ≡ false) × (eqb (mark_byte close) (mark_byte Equals) ≡ false)

closed_found : {A : Type 0} (R : A → Point → Point → Type 0) (element : Point → Read A) → Exact R NoEquals element → (close : Mark) (here : Point) (x : List A × Point)
    → closed_at element close here ≡ Ok x → Closed R close x.0 here x.1
unfolding closed_at
closed_found R element e close here x h =
    let a = bind_ok (list_at element here) (λ xs. mark_at close xs.1 >>= λ rest. Ok (xs.0, rest)) x h in
    mark_first close a.0.1 _ x _ a.2 (λ rest closes h.
    read_as (Closed R close) here (a.0.0, rest) x h (a.0.1, list_found R element e here a.0 a.1, closes))

closed_again : {A : Type 0} (R : A → Point → Point → Type 0) (element : Point → Read A) → Exact R NoEquals element → (close : Mark) → Closes close → (xs : List A) (here there : Point)
    → Closed R close xs here there → closed_at element close here ≡ Ok (xs, there)
unfolding closed_at
closed_again {A = A} R element e close closes xs here there h =
    ap (λ (r : Read (List A)). r >>= λ ys. mark_at close ys.1 >>= λ rest. Ok (ys.0, rest)) (list_again R element e xs here h.0 h.1 (other_mark Comma close closes.0 h.2) (other_mark Equals close closes.1 h.2))
    ∙ ap (λ (r : Result Point (Option ℕ)). r >>= λ rest. done (xs, rest)) (mark_again close h.0 there h.2)

pub closed_exact : {A : Type 0} (R : A → Point → Point → Type 0) (element : Point → Read A) (close : Mark) → Closes close → Exact R NoEquals element
    → Exact (Closed R close) Anything (closed_at element close)
closed_exact R element close closes e = record {
  moves = λ xs here there h. onward (listed_move R element e xs here h.0 h.1) (is_ahead h.2);
  found = closed_found R element e close;
  again = λ xs here there h behind. closed_again R element e close closes xs here there h;
}

-- a list that may be empty

perhaps_moves : {A : Type 0} (R : A → Point → Point → Type 0) (element : Point → Read A) → Exact R NoEquals element → (close : Mark) (xs : List A) (here there : Point) → Perhaps R close xs here there → ComesBefore here there
perhaps_moves R element e close [] here there h = is_ahead h
perhaps_moves R element e close (x ∷ xs) here there h = onward (listed_move R element e (x ∷ xs) here h.0 h.1) (is_ahead h.2)

closed_perhaps : {A : Type 0} (R : A → Point → Point → Type 0) (close : Mark) (xs : List A) (here there : Point) → Closed R close xs here there → Perhaps R close xs here there
closed_perhaps R close [] here there h = absurd h.1
closed_perhaps R close (x ∷ xs) here there h = h

perhaps_found : {A : Type 0} (R : A → Point → Point → Type 0) (element : Point → Read A) → Exact R NoEquals element → (close : Mark) (here : Point) (x : List A × Point)
    → perhaps_at element close here ≡ Ok x → Perhaps R close x.0 here x.1
unfolding perhaps_at
perhaps_found R element e close here x h =
    elim (chosen (next_is close here.1) _ _ _ h) [
      | inl p ↦ mark_first close here _ x _ p.1 (λ rest closes h. read_as (Perhaps R close) here ([], rest) x h closes)
      | inr p ↦ closed_perhaps R close x.0 here x.1 (closed_found R element e close here x p.1)
    ]

-- no element begins with the mark
abbrev pub Differs : {A : Type 0} → (A → Point → Point → Type 0) → Mark → Type 0
Differs {A} R close = (x : A) (here there : Point) → R x here there → next_is close here.1 ≡ false

perhaps_again : {A : Type 0} (R : A → Point → Point → Type 0) (element : Point → Read A) → Exact R NoEquals element → (close : Mark) → Closes close → Differs R close
    → (xs : List A) (here there : Point) → Perhaps R close xs here there → perhaps_at element close here ≡ Ok (xs, there)
unfolding perhaps_at
perhaps_again {A = A} R element e close closes differs [] here there h =
    ap (λ b. cond b (mark_at close here >>= λ rest. done ([], rest)) (closed_at element close here)) (mark_next close h)
    ∙ ap (λ (r : Result Point (Option ℕ)). r >>= λ rest. done ([], rest)) (mark_again close here there h)
perhaps_again {A = A} R element e close closes differs (x ∷ xs) here there h =
    ap (λ b. cond b (mark_at close here >>= λ rest. done ([], rest)) (closed_at element close here)) (differs x here h.1.0 h.1.1)
    ∙ closed_again R element e close closes (x ∷ xs) here there h

pub perhaps_exact : {A : Type 0} (R : A → Point → Point → Type 0) (element : Point → Read A) (close : Mark) → Closes close → Differs R close → Exact R NoEquals element
    → Exact (Perhaps R close) Anything (perhaps_at element close)
perhaps_exact R element close closes differs e = record {
  moves = perhaps_moves R element e close;
  found = perhaps_found R element e close;
  again = λ xs here there h behind. perhaps_again R element e close closes differs xs here there h;
}
