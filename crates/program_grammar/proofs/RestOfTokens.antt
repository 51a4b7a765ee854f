-- Tokens that are left of others, and reading on behind what was read.
use Rattle.std.proofs.Common.{◌≡◌, false, ◌-◌, ◌≤◌, List, [], ◌∷◌, ◌++◌, length, drop, refl, sym, ap, ◌∙◌, append_assoc, arith, length-append, Ok}
use Rattle.std.proofs.lemmas.List.{drop_at}
use Rattle.program_tokens.specs.declared.mark.Mark.TheVariants.{Comma}
use Rattle.program_tokens.specs.declared.token.PlacedToken.{PlacedToken}
use Rattle.program_grammar.specs.declared.mention.Mention.{Mention}
use Rattle.program_grammar.specs.Mentions.{Point}
use Rattle.program_grammar.specs.Reading.{Read, next_is, more_at, definitions_at}

-- the tokens end with these
pub record IsRest (rest ts : List PlacedToken) : Type 0 where
  pub front : List PlacedToken
  pub parts : ts ≡ front ++ rest

pub rest_self : (ts : List PlacedToken) → IsRest ts ts
rest_self ts = record { front = []; parts = refl }

pub rest_cons : (t : PlacedToken) (rest ts : List PlacedToken) → IsRest rest ts → IsRest rest (t ∷ ts)
rest_cons t rest ts h = record { front = t ∷ h.front; parts = ap (λ x. t ∷ x) h.parts }

pub rest_then : (a b c : List PlacedToken) → IsRest a b → IsRest b c → IsRest a c
rest_then a b c p q = record { front = q.front ++ p.front; parts = q.parts ∙ ap (λ x. q.front ++ x) p.parts ∙ sym (append_assoc q.front p.front a) }

pub rest_length : (a b : List PlacedToken) → IsRest a b → length a ≤ length b
rest_length a b h = rw h.parts (omega (arith, length-append h.front a))

-- what stands behind the same first token
pub same_tail : (t u : PlacedToken) (ts us : List PlacedToken) → t ∷ ts ≡ u ∷ us → ts ≡ us
same_tail t u ts us e = cc

-- dropping the tokens before a rest leaves the rest
pub drop_to_rest : (ts rest : List PlacedToken) → IsRest rest ts → drop (length ts - length rest) ts ≡ rest
drop_to_rest ts rest h =
    let n : length h.front ≡ length (h.front ++ rest) - length rest = omega (arith, length-append h.front rest) in
    rw h.parts (drop_at h.front rest (length (h.front ++ rest) - length rest) n)

front_length : (front rest : List PlacedToken) → length (front ++ rest) - length rest ≡ length front
front_length front rest = omega (arith, length-append front rest)

-- skipping the tokens before a rest reads on from there

more_skips : {A : Type 0} (element : Point → Read A) (ms : List Mention) (front rest : List PlacedToken) → more_at element (length front) ms (front ++ rest) ≡ more_at element 0 ms rest
unfolding more_at
more_skips element ms [] rest = refl
more_skips element ms (t ∷ front) rest = more_skips element ms front rest

pub more_after : {A : Type 0} (element : Point → Read A) (ms : List Mention) (ts rest : List PlacedToken) → IsRest rest ts → more_at element (length ts - length rest) ms ts ≡ more_at element 0 ms rest
more_after element ms ts rest h = rw h.parts (rw (front_length h.front rest) (more_skips element ms h.front rest))

definitions_skip : (front rest : List PlacedToken) → definitions_at (length front) (front ++ rest) ≡ definitions_at 0 rest
unfolding definitions_at
definitions_skip [] rest = refl
definitions_skip (t ∷ front) rest = definitions_skip front rest

pub definitions_after : (ts rest : List PlacedToken) → IsRest rest ts → definitions_at (length ts - length rest) ts ≡ definitions_at 0 rest
definitions_after ts rest h = rw h.parts (rw (front_length h.front rest) (definitions_skip h.front rest))

-- no element stands behind a comma that is not there
pub more_ends : {A : Type 0} (element : Point → Read A) (ms : List Mention) (ts : List PlacedToken) → next_is Comma ts ≡ false → more_at element 0 ms ts ≡ Ok ([], (ms, ts))
unfolding more_at
more_ends element ms [] h = refl
more_ends element ms (t ∷ ts) h = rw h refl
