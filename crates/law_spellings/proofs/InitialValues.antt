-- An initial value that may be left out is read if and only if it is spelled.
use Rattle.std.proofs.Common.{◌≡◌, ℕ, List, Result, Ok, Option, cond, refl, sym, ap, ◌∙◌, inl, inr}
use lib.IntN.{ℤ}
use Rattle.program_tokens.specs.declared.mark.Mark.TheVariants.{Equals}
use Rattle.program_tokens.specs.declared.token.Token.{Token}
use Rattle.program_tokens.specs.declared.token.Token.TheVariants as tokens
use Rattle.program_grammar.specs.Mentions.{Point}
use Rattle.program_grammar.specs.Reading.{Read, ◌>>=◌, next_is, mark_at, string_at, number_at, initial_at}
use Rattle.program_grammar.specs.Spelling.{Is, IsInitial}
use Rattle.program_grammar.proofs.ReadingResults.{done, chosen}
use Rattle.law_spellings.proofs.ReadingSteps.{ComesBefore, no_step, onward, is_ahead, Anything, NoEquals, Exact, read_as}
use Rattle.law_spellings.proofs.Marks.{mark_again, mark_first, mark_next, string_exact, number_exact}

-- the token of a value
abbrev Valued : {A : Type 0} → (A → Token) → A → Point → Point → Type 0
Valued token x here there = Is (token x) here there

initial_moves : {A : Type 0} (token : A → Token) (left_out x : A) (here there : Point) → IsInitial token left_out x here there → ComesBefore here there
initial_moves token left_out x here there (inl h) = no_step h.1
initial_moves token left_out x here there (inr h) = onward (is_ahead h.1) (is_ahead h.2)

initial_found : {A : Type 0} (token : A → Token) (value : Point → Read A) → Exact (Valued token) Anything value → (left_out : A) (here : Point) (x : A × Point)
    → initial_at value left_out here ≡ Ok x → IsInitial token left_out x.0 here x.1
unfolding initial_at
initial_found token value e left_out here x h =
    elim (chosen (next_is Equals here.1) _ _ _ h) [
      | inl p ↦ mark_first Equals here _ x _ p.1 (λ a equals h. inr (a, equals, e.found a x h))
      | inr p ↦ read_as (IsInitial token left_out) here (left_out, here) x p.1 (inl (refl, refl))
    ]

initial_again : {A : Type 0} (token : A → Token) (value : Point → Read A) → Exact (Valued token) Anything value → (left_out x : A) (here there : Point)
    → IsInitial token left_out x here there → NoEquals there → initial_at value left_out here ≡ Ok (x, there)
unfolding initial_at
initial_again token value e left_out x here there (inl h) behind =
    ap (initial_at value left_out) h.1
    ∙ ap (λ b. cond b (mark_at Equals there >>= λ rest. value rest) (done (left_out, there))) behind
    ∙ ap (λ y. done (y, there)) (sym h.0)
initial_again {A = A} token value e left_out x here there (inr h) behind =
    ap (λ b. cond b (mark_at Equals here >>= λ rest. value rest) (done (left_out, here))) (mark_next Equals h.1)
    ∙ ap (λ (r : Result Point (Option ℕ)). r >>= λ rest. value rest) (mark_again Equals here h.0 h.1)
    ∙ e.again x h.0 there h.2 tt

initial_exact : {A : Type 0} (token : A → Token) (value : Point → Read A) → Exact (Valued token) Anything value → (left_out : A)
    → Exact (IsInitial token left_out) NoEquals (initial_at value left_out)
initial_exact token value e left_out = record {
  moves = initial_moves token left_out;
  found = initial_found token value e left_out;
  again = initial_again token value e left_out;
}

pub initial_number_exact : (left_out : ℤ) → Exact (IsInitial tokens.Number left_out) NoEquals (initial_at number_at left_out)
initial_number_exact = initial_exact tokens.Number number_at number_exact

pub initial_string_exact : (left_out : List ℕ) → Exact (IsInitial tokens.Text left_out) NoEquals (initial_at string_at left_out)
initial_string_exact = initial_exact tokens.Text string_at string_exact
