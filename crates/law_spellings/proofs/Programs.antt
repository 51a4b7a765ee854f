-- A program is read if and only if it is spelled.
use Rattle.std.proofs.Common.{◌≡◌, ℕ, List, [], ◌∷◌, Option, Ok, Err, sym, ap, subst, ◌∙◌}
use Rattle.program_tokens.specs.Tokens.{placed}
use Rattle.program_tokens.specs.declared.keyword.Keyword.TheVariants as words
use Rattle.program_tokens.specs.declared.mark.Mark.TheVariants.{Equals}
use Rattle.program_tokens.specs.declared.token.Token.{Token}
use Rattle.program_tokens.specs.declared.token.Token.TheVariants as tokens
use Rattle.program_tokens.specs.declared.token.PlacedToken.{PlacedToken}
use Rattle.program_grammar.specs.declared.mention.Mention.{Mention}
use Rattle.program_grammar.specs.Mentions.{Point, NotedProgram}
use Rattle.program_grammar.specs.Reading.{next_is, lens_at, definitions_at, main_at, end_at, program_at}
use Rattle.program_grammar.specs.Spelling.{Is, IsLens, IsProgram}
use Rattle.program_grammar.proofs.ReadingResults.{done, ok_is, bind_ok}
use Rattle.law_spellings.proofs.ReadingSteps.{read_first}
use Rattle.law_spellings.proofs.Marks.{it_is}
use Rattle.law_spellings.proofs.Lenses.{lens_exact}
use Rattle.law_spellings.proofs.Definitions.{definitions_found, definitions_again}

-- the word before the main lens

main_token : (k : Token) (at : ℕ) (ts rest : List PlacedToken) → main_at (placed k at ∷ ts) ≡ Ok rest → Is (tokens.Keyword words.Main) ([], placed k at ∷ ts) ([], rest)
unfolding main_at
main_token (tokens.Keyword words.Main) at ts rest h = subst (λ (r : List PlacedToken). Is (tokens.Keyword words.Main) ([], placed (tokens.Keyword words.Main) at ∷ ts) ([], r)) (ok_is ts rest h) (it_is (tokens.Keyword words.Main) at ([], ts))
main_token k at ts rest h = absurd cc

main_found : (ts rest : List PlacedToken) → main_at ts ≡ Ok rest → Is (tokens.Keyword words.Main) ([], ts) ([], rest)
unfolding main_at
main_found [] rest h = absurd cc
main_found (t ∷ ts) rest h = main_token t.token t.at ts rest h

main_again : (ts : List PlacedToken) (there : Point) → Is (tokens.Keyword words.Main) ([], ts) there → main_at ts ≡ Ok there.1
unfolding main_at
main_again ts there h = ap main_at h.parts

-- no definition begins with it
main_ends : (ts : List PlacedToken) (there : Point) → Is (tokens.Keyword words.Main) ([], ts) there → definitions_at 0 ts ≡ Ok ([], ts)
unfolding definitions_at
main_ends ts there h = ap (definitions_at 0) h.parts ∙ ap (λ (r : List PlacedToken). done ([], r)) (sym h.parts)

-- the end, and nothing behind it

end_token : (k : Token) (at : ℕ) (ms : List Mention) (ts rest : List PlacedToken) → end_at (placed k at ∷ ts) ≡ Ok rest → Is tokens.End (ms, placed k at ∷ ts) (ms, [])
unfolding end_at
end_token tokens.End at ms [] rest h = it_is tokens.End at (ms, [])
end_token tokens.End at ms (t ∷ ts) rest h = absurd cc
end_token k at ms ts rest h = absurd cc

end_found : (ms : List Mention) (ts rest : List PlacedToken) → end_at ts ≡ Ok rest → Is tokens.End (ms, ts) (ms, [])
unfolding end_at
end_found ms [] rest h = absurd cc
end_found ms (t ∷ ts) rest h = end_token t.token t.at ms ts rest h

end_again : (ms : List Mention) (here : Point) → Is tokens.End here (ms, []) → end_at here.1 ≡ Ok []
unfolding end_at
end_again ms here h = ap end_at h.parts

-- programs

pub program_found : (ts : List PlacedToken) (p : NotedProgram) → program_at ts ≡ Ok p → IsProgram p ts
unfolding program_at
program_found ts p h =
    let ds = bind_ok (definitions_at 0 ts) _ p h in
    let main = bind_ok (main_at ds.0.1) _ p ds.2 in
    read_first (IsLens 100) (lens_at 100) (lens_exact 100) ([], main.0) _ p _ main.2 (λ l is_so h.
    let end = bind_ok (end_at l.1.1) _ p h in
    subst (λ (q : NotedProgram). IsProgram q ts) (ok_is (record { definitions = ds.0.0; main = l.0; mentions = l.1.0 }) p end.2)
    (record {
      a = ds.0.1;
      b = ([], main.0);
      c = l.1;
      definitions = definitions_found ts 0 ds.0 ds.1;
      main = main_found ds.0.1 main.0 main.1;
      lens = is_so;
      ends = end_found l.1.0 l.1.1 end.0 end.1;
    }))

pub program_again : (ts : List PlacedToken) (p : NotedProgram) → IsProgram p ts → program_at ts ≡ Ok p
unfolding program_at
program_again ts p h =
    let definitions = definitions_again p.definitions ts h.a h.definitions (main_ends h.a h.b h.main) in
    let begin : ([], h.b.1) ≡ h.b = ap (λ (ms : List Mention). (ms, h.b.1)) (sym h.main.names) in
    let lens : lens_at 100 ([], h.b.1) ≡ Ok (p.main, h.c) = ap (lens_at 100) begin ∙ (lens_exact 100).again p.main h.b h.c h.lens (ap (next_is Equals) h.ends.parts) in
    rw (definitions, main_again h.a h.b h.main, lens, end_again p.mentions h.c h.ends)
    (ap (λ (ms : List Mention). done (record { definitions = p.definitions; main = p.main; mentions = ms })) (sym h.ends.names))

pub one_program : (ts : List PlacedToken) (one other : NotedProgram) → IsProgram one ts → IsProgram other ts → one ≡ other
one_program ts one other h k = ok_is one other (sym (program_again ts one h) ∙ program_again ts other k)

not_both : (p : NotedProgram) (stop : Option ℕ) → done p ≡ Err stop → ⊥
not_both p stop e = absurd cc

pub no_program : (ts : List PlacedToken) (stop : Option ℕ) (p : NotedProgram) → program_at ts ≡ Err stop → IsProgram p ts → ⊥
no_program ts stop p h k = not_both p stop (sym (program_again ts p k) ∙ h)
