-- Steps of reading: what a step that did not fail gives, and the points that it leaves.
use Rattle.std.proofs.Common.{◌≡◌, ℕ, false, [], ◌∷◌, Option, Result, Ok, subst}
use Rattle.program_tokens.specs.declared.mark.Mark.TheVariants.{Equals}
use Rattle.program_tokens.specs.declared.token.Token.{Token}
use Rattle.program_tokens.specs.Tokens.{placed}
use Rattle.program_grammar.specs.Mentions.{Point}
use Rattle.program_grammar.specs.Reading.{Read, ◌>>=◌, next_is}
use Rattle.program_grammar.specs.Spelling.{Is}
use Rattle.program_grammar.proofs.ReadingResults.{done, ok_is, bind_ok}
use Rattle.program_grammar.proofs.RestOfTokens.{IsRest, rest_self, rest_then}

-- the tokens that are left at the second point end those that are left at the first
pub record ComesBefore (here there : Point) : Type 0 where
  pub rest : IsRest there.1 here.1

pub no_step : {here there : Point} → here ≡ there → ComesBefore here there
no_step {here = here} e = record { rest = subst (λ (p : Point). IsRest p.1 here.1) e (rest_self here.1) }

pub onward : {a b c : Point} → ComesBefore a b → ComesBefore b c → ComesBefore a c
onward {a = a} {b = b} {c = c} p q = record { rest = rest_then c.1 b.1 a.1 q.rest p.rest }

pub is_ahead : {k : Token} {here there : Point} → Is k here there → ComesBefore here there
is_ahead {k = k} h = record { rest = record { front = placed k h.at ∷ []; parts = h.parts } }

-- what may stand at a point: anything, or anything but `=`

abbrev pub Anything : Point → Type 0
Anything p = Unit {0}

abbrev pub NoEquals : Point → Type 0
NoEquals p = next_is Equals p.1 ≡ false

-- The relation holds of a value and two points if the reader reads the value at the first and leaves the second. If it holds, and
-- what may stand at the second does, then the reader reads so. The second is ahead of the first.
pub record Exact {A : Type 0} (R : A → Point → Point → Type 0) (Behind : Point → Type 0) (reader : Point → Read A) : Type 0 where
  pub moves : (x : A) (here there : Point) → R x here there → ComesBefore here there
  pub found : (here : Point) (x : A × Point) → reader here ≡ Ok x → R x.0 here x.1
  pub again : (x : A) (here there : Point) → R x here there → Behind there → reader here ≡ Ok (x, there)

pub but_equals : {A : Type 0} (R : A → Point → Point → Type 0) (reader : Point → Read A) → Exact R Anything reader → Exact R NoEquals reader
but_equals R reader e = record { moves = e.moves; found = e.found; again = λ x here there h behind. e.again x here there h tt }

-- the relation carries over to a value and a point that were read as these
pub read_as : {A : Type 0} (R : A → Point → Point → Type 0) (here : Point) (y x : A × Point) → done y ≡ done x → R y.0 here y.1 → R x.0 here x.1
read_as {A = A} R here y x e h = subst (λ (z : A × Point). R z.0 here z.1) (ok_is y x e) h

-- a step that reads, and what follows from the steps after it
pub read_first : {A B : Type 0} {Behind : Point → Type 0} (R : A → Point → Point → Type 0) (reader : Point → Read A) → Exact R Behind reader → (here : Point) (f : A × Point → Result B (Option ℕ)) (y : B) (G : Type 0)
    → (reader here >>= f) ≡ Ok y → ((x : A × Point) → R x.0 here x.1 → f x ≡ Ok y → G) → G
read_first R reader e here f y G h k = let a = bind_ok (reader here) f y h in k a.0 (e.found here a.0 a.1) a.2

-- a value made of the one that is read
pub made_of : {A B : Type 0} {Behind : Point → Type 0} (R : A → Point → Point → Type 0) (reader : Point → Read A) → Exact R Behind reader → (S : B → Point → Point → Type 0) (f : A → B) (begin here : Point) (x : B × Point)
    → (reader here >>= λ y. Ok (f y.0, y.1)) ≡ Ok x → ((y : A) (there : Point) → R y here there → S (f y) begin there) → S x.0 begin x.1
made_of R reader e S f begin here x h k =
    let a = bind_ok (reader here) (λ y. Ok (f y.0, y.1)) x h in
    read_as S begin (f a.0.0, a.0.1) x a.2 (k a.0.0 a.0.1 (e.found here a.0 a.1))
