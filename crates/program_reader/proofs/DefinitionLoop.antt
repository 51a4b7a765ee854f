-- Reading definitions as a loop does.
use Rattle.std.proofs.Common.{◌≡◌, ℕ, ◌-◌, ◌<◌, List, [], ◌∷◌, ◌++◌, length, drop, Option, Some, None, Result, Ok, Err, refl, sym, ap, ◌∙◌, arith}
use Rattle.std.proofs.lemmas.List.{append-nil}
use Rattle.program_tokens.specs.declared.token.PlacedToken.{PlacedToken}
use Rattle.program_terms.specs.Terms.{DefTree}
use Rattle.program_grammar.specs.declared.mention.Sort.{Sort}
use Rattle.program_grammar.specs.declared.mention.Sort.TheVariants as sorts
use Rattle.program_grammar.specs.declared.mention.Mention.{Mention}
use Rattle.program_grammar.specs.Mentions.{Point, NotedDefinition}
use Rattle.program_grammar.specs.Reading.{Read, ◌>>=◌, next_word, definition_of, definition_at, definitions_at}
use Rattle.program_reader.specs.declared.fault.ReadFault.{ReadFault}
use Rattle.program_reader.specs.declared.fault.ReadFault.TheVariants as faults
use Rattle.program_reader.specs.Gives.{Fails}
use Rattle.program_reader.specs.Programs.{term_at, with_no_mentions}
use Rattle.program_grammar.proofs.ReadingResults.{bind_ok, ok_is, failed}
use Rattle.program_grammar.proofs.RestOfTokens.{definitions_after}
use Rattle.program_grammar.proofs.TokensLeft.{LeavesFewer, type_term_leaves, lens_term_leaves, definition_leaves}
use Rattle.program_reader.proofs.ListLoop.{with_front, regroup}

-- a loop has so far read these definitions, and these tokens are left
abbrev pub AreSoFar : List NotedDefinition → List PlacedToken → List PlacedToken → Type 0
AreSoFar front left whole = with_front front (definitions_at 0 left) ≡ definitions_at 0 whole

term_leaves : (sort : Sort) → LeavesFewer (term_at sort)
term_leaves sorts.Type = type_term_leaves
term_leaves sorts.Lens = lens_term_leaves

-- ---- the definitions behind a definition

-- a definition comes next
one_comes : (term : Point → Read DefTree) (ts : List PlacedToken) → definition_of (next_word ts) ≡ Some term
    → definitions_at 0 ts ≡ (definition_at term (drop 1 ts) >>= λ d. definitions_at (length (drop 1 ts) - length d.1) (drop 1 ts) >>= λ ds. Ok (d.0 ∷ ds.0, ds.1))
unfolding definitions_at
one_comes term [] h = absurd cc
one_comes term (t ∷ ts) h = rw (h, definitions_at) refl

one_fails : (term : Point → Read DefTree) (ts : List PlacedToken) (f : Option ℕ) → definition_of (next_word ts) ≡ Some term → definition_at term (drop 1 ts) ≡ Err f → definitions_at 0 ts ≡ Err f
one_fails term ts f next e = one_comes term ts next ∙ rw e refl

none_comes : (ts : List PlacedToken) → definition_of (next_word ts) ≡ None → definitions_at 0 ts ≡ Ok ([], ts)
unfolding definitions_at
none_comes [] h = refl
none_comes (t ∷ ts) h = rw (h, definitions_at) refl

fewer : (term : Point → Read DefTree) (ts : List PlacedToken) → definition_of (next_word ts) ≡ Some term → length (drop 1 ts) < length ts
fewer term [] h = absurd cc
fewer term (t ∷ ts) h = omega arith

-- ---- what is read with_no_mentions

pub no_mentions_ok : {A : Type 0} (read : Result (A × List PlacedToken) (Option ℕ)) (x : A) (q : Point) → with_no_mentions read ≡ Ok (x, q) → (read ≡ Ok (x, q.1)) × (q.0 ≡ [])
no_mentions_ok {A = A} read x q e =
    let a = bind_ok read (λ x. Ok (x.0, ([], x.1))) (x, q) e in
    let same = ok_is (a.0.0, ([], a.0.1)) (x, q) a.2 in
    (a.1 ∙ ap (λ (y : A × Point). Ok (y.0, y.1.1)) same, sym (ap (λ (y : A × Point). y.1.0) same))

err_is : {A : Type 0} (f g : Option ℕ) → failed {A = A} f ≡ failed g → f ≡ g
err_is f g e = cc

pub no_mentions_fails : {A B : Type 0} (read : Result (A × List PlacedToken) (Option ℕ)) (other : Result B (Option ℕ)) (fault : ReadFault)
    → Fails fault (with_no_mentions read) → ((f : Option ℕ) → read ≡ Err f → other ≡ Err f) → Fails fault other
no_mentions_fails {A = A} (Ok x) other faults.NoMemory h k = tt
no_mentions_fails {A = A} (Ok x) other faults.Ended h k = absurd cc
no_mentions_fails {A = A} (Ok x) other (faults.At at) h k = absurd cc
no_mentions_fails {A = A} (Err f) other faults.NoMemory h k = tt
no_mentions_fails {A = A} (Err f) other faults.Ended h k = k f refl ∙ ap (λ (g : Option ℕ). Err g) (err_is {A = A × Point} f None h)
no_mentions_fails {A = A} (Err f) other (faults.At at) h k = k f refl ∙ ap (λ (g : Option ℕ). Err g) (err_is {A = A × Point} f (Some at) h)

-- ---- a loop

pub goes_on : (sort : Sort) (front : List NotedDefinition) (ts whole : List PlacedToken) (d : NotedDefinition) (q : Point) → definition_of (next_word ts) ≡ Some (term_at sort)
    → with_no_mentions (definition_at (term_at sort) (drop 1 ts)) ≡ Ok (d, q) → AreSoFar front ts whole → AreSoFar (front ++ d ∷ []) q.1 whole
goes_on sort front ts whole d q next e so_far =
    let found = (no_mentions_ok (definition_at (term_at sort) (drop 1 ts)) d q e).0 in
    let rest = (definition_leaves (term_at sort) (term_leaves sort) (drop 1 ts) (d, q.1) found).rest in
    let step : definitions_at 0 ts ≡ (definitions_at 0 q.1 >>= λ ds. Ok (d ∷ ds.0, ds.1)) = one_comes (term_at sort) ts next ∙ rw found (rw (definitions_after (drop 1 ts) q.1 rest) refl) in
    sym (regroup front d (definitions_at 0 q.1)) ∙ ap (with_front front) (sym step) ∙ so_far

pub breaks : (sort : Sort) (front : List NotedDefinition) (ts whole : List PlacedToken) (fault : ReadFault) → definition_of (next_word ts) ≡ Some (term_at sort)
    → Fails fault (with_no_mentions (definition_at (term_at sort) (drop 1 ts))) → AreSoFar front ts whole → Fails fault (with_no_mentions (definitions_at 0 whole))
breaks sort front ts whole fault next h so_far =
    no_mentions_fails (definition_at (term_at sort) (drop 1 ts)) (with_no_mentions (definitions_at 0 whole)) fault h
    (λ f e. ap with_no_mentions (sym so_far ∙ ap (with_front front) (one_fails (term_at sort) ts f next e)))

pub is_done : (front : List NotedDefinition) (p : Point) (whole : List PlacedToken) → definition_of (next_word p.1) ≡ None → p.0 ≡ [] → AreSoFar front p.1 whole
    → with_no_mentions (definitions_at 0 whole) ≡ Ok (front, p)
is_done front p whole none new so_far =
    ap with_no_mentions (sym so_far ∙ ap (with_front front) (none_comes p.1 none))
    ∙ ap (λ (ns : List NotedDefinition). Ok (ns, ([], p.1))) (append-nil front)
    ∙ ap (λ (ms : List Mention). Ok (front, (ms, p.1))) (sym new)

pub shorter : (sort : Sort) (ts : List PlacedToken) (d : NotedDefinition) (q : Point) → definition_of (next_word ts) ≡ Some (term_at sort)
    → with_no_mentions (definition_at (term_at sort) (drop 1 ts)) ≡ Ok (d, q) → length q.1 < length ts
shorter sort ts d q next e =
    let found = (no_mentions_ok (definition_at (term_at sort) (drop 1 ts)) d q e).0 in
    omega (arith, fewer (term_at sort) ts next, (definition_leaves (term_at sort) (term_leaves sort) (drop 1 ts) (d, q.1) found).less)
