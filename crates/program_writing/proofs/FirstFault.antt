-- Whether the names of a program are good is said by the program: how it is spelled does not count.
use Rattle.std.proofs.Common.{◌≡◌, ℕ, Bool, true, false, cond, not, ◌&&◌, List, [], ◌∷◌, ◌++◌, map, bytes_eq, Option, Some, None, refl, sym, ap, ◌∙◌}
use Rattle.std.specs.Prelude.{is_none}
use Rattle.std.specs.Option.{option_or}
use Rattle.std.specs.List.{list_any}
use Rattle.program_tokens.specs.declared.token.PlacedToken.{PlacedToken}
use Rattle.program_terms.specs.Terms.{DefTree, ProgramTree, is_defined}
use Rattle.program_grammar.specs.declared.mention.Sort.{Sort}
use Rattle.program_grammar.specs.declared.mention.Mention.{Mention}
use Rattle.program_grammar.specs.declared.mention.NameFault.{NameFault}
use Rattle.program_grammar.specs.declared.mention.NameFault.TheVariants.{Unknown, Repeated}
use Rattle.program_grammar.specs.Mentions.{NotedDefinition, NotedProgram, definition_without_notes, without_notes}
use Rattle.program_grammar.specs.Names.{is_of, is_known, first_unknown, first_after, first_fault}
use Rattle.program_grammar.specs.Spelling.{AreDefinitions, IsProgram}
use Rattle.program_writing.proofs.MentionedNames.{unplaced, def_names, lens_names, definition_names, main_names}

-- ---- the same tests on a program without notes

abbrev known : Sort × List ℕ → List (List ℕ × DefTree) → Bool
known m earlier = list_any (λ d. is_of m.0 d.1 && bytes_eq m.1 d.0) earlier

abbrev all_known : List (List ℕ × DefTree) → List (Sort × List ℕ) → Bool
all_known earlier [] = true
all_known earlier (m ∷ ms) = known m earlier && all_known earlier ms

abbrev good_after : List (List ℕ × DefTree) → List (List ℕ × DefTree) → List (Sort × List ℕ) → Bool
good_after earlier [] main = all_known earlier main
good_after earlier (d ∷ ds) main = not (is_defined d.0 earlier) && (all_known earlier (def_names d.1) && good_after (earlier ++ d ∷ []) ds main)

abbrev good_names : ProgramTree → Bool
good_names p = good_after [] p.definitions (lens_names p.main)

-- ---- they find a fault where there is one

is_none-cond : (b : Bool) (fault : NameFault) (o : Option NameFault) → is_none (cond b o (Some fault)) ≡ (b && is_none o)
is_none-cond true fault o = refl
is_none-cond false fault o = refl

unknown : (earlier : List (List ℕ × DefTree)) (ms : List Mention) → is_none (first_unknown earlier ms) ≡ all_known earlier (map unplaced ms)
unknown earlier [] = refl
unknown earlier (m ∷ ms) = is_none-cond (is_known m earlier) (Unknown m.at) (first_unknown earlier ms) ∙ ap (λ b. is_known m earlier && b) (unknown earlier ms)

neither : (b : Bool) (fault : NameFault) (o p : Option NameFault) → is_none (cond b (Some fault) (option_or o p)) ≡ (not b && (is_none o && is_none p))
neither true fault o p = refl
neither false fault None p = refl
neither false fault (Some f) p = refl

after : (earlier : List (List ℕ × DefTree)) (ds : List NotedDefinition) (main : List Mention) (ts rest : List PlacedToken) → AreDefinitions ds ts rest
    → is_none (first_after earlier ds main) ≡ good_after earlier (map definition_without_notes ds) (map unplaced main)
after earlier [] main ts rest h = unknown earlier main
after earlier (d ∷ ds) main ts rest h =
    let mentioned = unknown earlier d.mentions ∙ ap (all_known earlier) (definition_names d ts h.0 h.1) in
    let more = after (earlier ++ definition_without_notes d ∷ []) ds main h.0 rest h.2 in
    neither (is_defined d.name earlier) (Repeated d.at) (first_unknown earlier d.mentions) (first_after (earlier ++ definition_without_notes d ∷ []) ds main)
    ∙ (λ j. not (is_defined d.name earlier) && (mentioned j && more j))

faultless : (n : NotedProgram) (ts : List PlacedToken) → IsProgram n ts → is_none (first_fault n) ≡ good_names (without_notes n)
faultless n ts h =
    after [] n.definitions n.mentions ts h.a h.definitions ∙ ap (good_after [] (map definition_without_notes n.definitions)) (main_names n ts h)

none_is : (o : Option NameFault) → is_none o ≡ true → o ≡ None
none_is None h = refl
none_is (Some f) h = absurd cc

-- Where one text of a program has no fault in its names, no other has.
pub still_faultless : (m n : NotedProgram) (ts us : List PlacedToken) → IsProgram m ts → IsProgram n us → without_notes m ≡ without_notes n → first_fault m ≡ None → first_fault n ≡ None
still_faultless m n ts us h k e none =
    none_is (first_fault n) (faultless n us k ∙ ap good_names (sym e) ∙ sym (faultless m ts h) ∙ ap is_none none)
