-- The first fault as the code finds it, by looking up the definition with a name, is the first fault of the names.
use Rattle.std.proofs.Common.{◌≡◌, ℕ, Bool, true, false, true≢false, cond, ◌&&◌, ◌||◌, List, [], ◌∷◌, ◌++◌, bytes_eq, Option, Some, None, is_some, refl, sym, ap, ◌∙◌}
use Rattle.std.specs.Option.{option_or}
use Rattle.std.proofs.lemmas.Cmp.{nat_list_eq_equiv}
use Rattle.std.proofs.lemmas.List.Folds.{list_any-append}
use Rattle.std.proofs.lemmas.Slice.Eq.{bytes_eq-Decides}
use Rattle.program_terms.specs.Terms.{DefTree, def_named, is_defined}
use Rattle.program_grammar.specs.declared.mention.Sort.{Sort}
use Rattle.program_grammar.specs.declared.mention.Mention.{Mention}
use Rattle.program_grammar.specs.declared.mention.NameFault.TheVariants.{Unknown, Repeated}
use Rattle.program_grammar.specs.Mentions.{NotedDefinition, NotedProgram, definition_without_notes}
use Rattle.program_grammar.specs.Names.{is_of, is_known, first_unknown, first_after, first_fault}
use Rattle.program_reader.specs.Known.{is_wanted, is_known_among, first_unknown_among, first_fault_among}
use Rattle.texts.proofs.Tests.{or_false}

-- the same names are known by looking up the definition with the name, and by looking for one of the wanted sort
abbrev SameNames : List (List ℕ × DefTree) → Type 0
SameNames ds = (m : Mention) → is_known_among ds m ≡ is_known m ds

-- ---- one name

-- a name that is not defined is that of neither the first definition nor a later one
undefined_parts : (b : Bool) (d : DefTree) (found : Option DefTree) → is_some (cond b (Some d) found) ≡ false → (b ≡ false) × (is_some found ≡ false)
undefined_parts false d found h = (refl, h)
undefined_parts true d found h = absurd (true≢false h)

other_name : (name first new : List ℕ) → bytes_eq name first ≡ true → bytes_eq new first ≡ false → bytes_eq name new ≡ false
other_name name first new same apart =
    ap (λ n. bytes_eq n new) ((bytes_eq-Decides name first).0 same) ∙ nat_list_eq_equiv.symm first new ∙ apart

last_alone : (b c : Bool) (d : DefTree) (sort : Sort) → is_of sort d ≡ c → is_wanted sort (cond b (Some d) None) ≡ (c && b)
last_alone true true d sort e = e
last_alone true false d sort e = e
last_alone false true d sort e = refl
last_alone false false d sort e = refl

kept : (b c : Bool) → b ≡ (b || (c && false))
kept true c = refl
kept false true = refl
kept false false = refl

-- a name is known where it was known before the last definition, or is the name of that one
known_push : (sort : Sort) (name : List ℕ) (es : List (List ℕ × DefTree)) (d : List ℕ × DefTree) → is_defined d.0 es ≡ false
    → is_wanted sort (def_named name (es ++ d ∷ [])) ≡ (is_wanted sort (def_named name es) || (is_of sort d.1 && bytes_eq name d.0))
known_push sort name [] d new = last_alone (bytes_eq name d.0) (is_of sort d.1) d.1 sort refl
known_push sort name (e ∷ es) d new =
    let parts = undefined_parts (bytes_eq d.0 e.0) e.1 (def_named d.0 es) new in
    by (bytes_eq name e.0) refl parts.0 (known_push sort name es d parts.1)
  where
    by : (b : Bool) → bytes_eq name e.0 ≡ b → bytes_eq d.0 e.0 ≡ false
        → is_wanted sort (def_named name (es ++ d ∷ [])) ≡ (is_wanted sort (def_named name es) || (is_of sort d.1 && bytes_eq name d.0))
        → is_wanted sort (cond b (Some e.1) (def_named name (es ++ d ∷ []))) ≡ (is_wanted sort (cond b (Some e.1) (def_named name es)) || (is_of sort d.1 && bytes_eq name d.0))
    by true same apart before = rw (other_name name e.0 d.0 same apart) (kept (is_of sort e.1) (is_of sort d.1))
    by false same apart before = before

same_push : (ds : List (List ℕ × DefTree)) (d : List ℕ × DefTree) → SameNames ds → is_defined d.0 ds ≡ false → SameNames (ds ++ d ∷ [])
same_push ds d same new m =
    let here = is_of m.sort d.1 && bytes_eq m.name d.0 in
    known_push m.sort m.name ds d new
    ∙ ap (λ b. b || here) (same m)
    ∙ ap (λ b. is_known m ds || b) (sym (or_false here))
    ∙ sym (list_any-append (λ d. is_of m.sort d.1 && bytes_eq m.name d.0) ds (d ∷ []))

-- ---- faults

unknown_same : (ds : List (List ℕ × DefTree)) → SameNames ds → (ms : List Mention) → first_unknown_among ds ms ≡ first_unknown ds ms
unknown_same ds same [] = refl
unknown_same ds same (m ∷ ms) = by (is_known_among ds m) (is_known m ds) (same m) (unknown_same ds same ms)
  where
    by : (a b : Bool) → a ≡ b → first_unknown_among ds ms ≡ first_unknown ds ms → cond a (first_unknown_among ds ms) (Some (Unknown m.at)) ≡ cond b (first_unknown ds ms) (Some (Unknown m.at))
    by true true e others = others
    by false false e others = refl
    by true false e others = absurd (true≢false e)
    by false true e others = absurd (true≢false (sym e))

fault_same : (ds : List (List ℕ × DefTree)) (rest : List NotedDefinition) (main : List Mention) → SameNames ds → first_fault_among ds rest main ≡ first_after ds rest main
fault_same ds [] main same = unknown_same ds same main
fault_same ds (d ∷ rest) main same = by (is_defined d.name ds) refl (fault_same (ds ++ definition_without_notes d ∷ []) rest main)
  where
    by : (b : Bool) → is_defined d.name ds ≡ b
        → (SameNames (ds ++ definition_without_notes d ∷ []) → first_fault_among (ds ++ definition_without_notes d ∷ []) rest main ≡ first_after (ds ++ definition_without_notes d ∷ []) rest main)
        → option_or (cond b (Some (Repeated d.at)) (first_unknown_among ds d.mentions)) (first_fault_among (ds ++ definition_without_notes d ∷ []) rest main)
        ≡ cond b (Some (Repeated d.at)) (option_or (first_unknown ds d.mentions) (first_after (ds ++ definition_without_notes d ∷ []) rest main))
    by true is others = refl
    by false is others =
        ap (λ fault. option_or fault (first_fault_among (ds ++ definition_without_notes d ∷ []) rest main)) (unknown_same ds same d.mentions)
        ∙ ap (λ fault. option_or (first_unknown ds d.mentions) fault) (others (same_push ds (definition_without_notes d) same is))

pub first_fault_same : (p : NotedProgram) → first_fault_among [] p.definitions p.mentions ≡ first_fault p
first_fault_same p = fault_same [] p.definitions p.mentions (λ m. refl)
