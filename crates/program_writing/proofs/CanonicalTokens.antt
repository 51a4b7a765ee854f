-- The tokens of canonical text spell what it is the text of.
use Rattle.std.proofs.Common.{◌≡◌, ℕ, zero, suc, true, List, [], ◌∷◌, ◌++◌, map, refl, ap, ◌∙◌}
use Rattle.std.specs.Prelude.{codes}
use Rattle.program_tokens.specs.Words.{in_word, is_name}
use Rattle.program_tokens.specs.Tokens.{tokens_from, tokens_of, placed}
use Rattle.program_tokens.specs.declared.keyword.Keyword.TheVariants as words
use Rattle.program_tokens.specs.declared.mark.Mark.TheVariants as marks
use Rattle.program_tokens.specs.declared.token.Token.{Token}
use Rattle.program_tokens.specs.declared.token.Token.TheVariants as tokens
use Rattle.program_tokens.proofs.FirstToken.{Stops, stops_at_mark, stops_at_space, lex_mark, lex_end, skip_line, then_space}
use Rattle.program_terms.specs.Terms.{TypeTree, TermFields, unit, bool, int, text, enum_of, record_of, one_of, list, keyed, tree, named, no_fields, more_fields, LensTree, id_of, bij_of, disc_of, then_of, rec_lens, alt_lens, each_of, keyed_each, tree_each, part_of, inv_of, named_lens, TermRows, no_rows, both, only_left, only_right, TermArms, no_arms, more_arms, DefTree, type_def, lens_def, ProgramTree, initial_text, initial_member, initial_left}
use Rattle.program_grammar.specs.declared.mention.Sort.TheVariants as sorts
use Rattle.program_grammar.specs.Mentions.{NotedDefinition, NotedProgram, definition_without_notes, without_notes}
use Rattle.program_grammar.specs.Spelling.{Is, OtherStrings, AreStrings, IsTextPair, OtherPairs, ArePairs, IsType, PerhapsFields, AreFields, OtherFields, IsLens, PerhapsRows, OtherRows, AreArms, OtherArms, IsDefinition, AreDefinitions, IsProgram}
use Rattle.program_writing.specs.Canonical.{put_string, put_name, put_strings, put_pairs, put_initial_number, put_initial_string, put_type, put_fields, put_lens, put_rows, put_arms, put_definition, put_definitions, canonical}
use Rattle.program_writing.specs.Writable.{IsText, AreTexts, ArePairsOfTexts, IsNotEmpty, HasFields, HasArms, IsWritableType, AreWritableFields, IsWritableLens, AreWritableRows, AreWritableArms, IsWritableTerm, AreWritableDefinitions, IsWritable}
use Rattle.program_writing.proofs.TextSteps.{before, Spelt, token, mark, mark_space, space_mark_space, spaced, name_text, word_then, word, word_space, string, mentioned, field, nothing, two, three, four, five, six, seven}
use Rattle.program_writing.proofs.InitialTokens.{a_number, a_string, a_text, number_stops, string_stops}

-- ---- where no word goes on

fields_stop : (fs : TermFields) (rest : List ℕ) → Stops in_word rest → Stops in_word (put_fields (codes ", ") fs rest)
fields_stop no_fields rest h = h
fields_stop (more_fields f t fs) rest h = stops_at_mark marks.Comma

rows_stop : (rows : TermRows) (rest : List ℕ) → Stops in_word rest → Stops in_word (put_rows (codes ", ") rows rest)
rows_stop no_rows rest h = h
rows_stop (both f g l rows) rest h = stops_at_mark marks.Comma
rows_stop (only_left f t rows) rest h = stops_at_mark marks.Comma
rows_stop (only_right f t rows) rest h = stops_at_mark marks.Comma

arms_stop : (arms : TermArms) (rest : List ℕ) → Stops in_word rest → Stops in_word (put_arms (codes ", ") arms rest)
arms_stop no_arms rest h = h
arms_stop (more_arms f g l arms) rest h = stops_at_mark marks.Comma

-- ---- strings and pairs

other_strings : (ms : List (List ℕ)) (rest : List ℕ) → AreTexts ms → Spelt (OtherStrings ms) (put_strings (codes ", ") ms rest) rest
other_strings [] rest h = nothing
other_strings (m ∷ ms) rest h = three (mark_space marks.Comma (put_string m (put_strings (codes ", ") ms rest))) (string m (put_strings (codes ", ") ms rest) h.0) (other_strings ms rest h.1)

strings : (ms : List (List ℕ)) (rest : List ℕ) → IsNotEmpty ms → AreTexts ms → Spelt (AreStrings ms) (put_strings [] ms rest) rest
strings [] rest some h = absurd some
strings (m ∷ ms) rest some h = two (string m (put_strings (codes ", ") ms rest) h.0) (other_strings ms rest h.1)

pair : (p : List ℕ × List ℕ) (rest : List ℕ) → IsText p.0 → IsText p.1 → Spelt (IsTextPair p) (put_string p.0 (codes "=" ++ put_string p.1 rest)) rest
pair p rest h k = three (string p.0 (codes "=" ++ put_string p.1 rest) h) (mark marks.Equals (put_string p.1 rest)) (string p.1 rest k)

other_pairs : (ps : List (List ℕ × List ℕ)) (rest : List ℕ) → ArePairsOfTexts ps → Spelt (OtherPairs ps) (put_pairs (codes ", ") ps rest) rest
other_pairs [] rest h = nothing
other_pairs (p ∷ ps) rest h = three (mark_space marks.Comma (put_string p.0 (codes "=" ++ put_string p.1 (put_pairs (codes ", ") ps rest)))) (pair p (put_pairs (codes ", ") ps rest) h.0 h.1) (other_pairs ps rest h.2)

pairs : (ps : List (List ℕ × List ℕ)) (rest : List ℕ) → IsNotEmpty ps → ArePairsOfTexts ps → Spelt (ArePairs ps) (put_pairs [] ps rest) rest
pairs [] rest some h = absurd some
pairs (p ∷ ps) rest some h = two (pair p (put_pairs (codes ", ") ps rest) h.0 h.1) (other_pairs ps rest h.2)

-- ---- types

mutual
  pub a_type : (n : ℕ) (t : TypeTree) (rest : List ℕ) → IsWritableType n t → Stops in_word rest → Spelt (IsType n t) (put_type t rest) rest
  a_type zero t rest h stops = absurd h
  a_type (suc n) unit rest h stops = word words.Unit rest stops
  a_type (suc n) bool rest h stops = word words.Bool rest stops
  a_type (suc n) (int z) rest h stops = two (word words.Int (put_initial_number z rest) (number_stops z rest stops)) (a_number z rest h stops)
  a_type (suc n) (text s) rest h stops = two (word words.Text (put_initial_string initial_text s rest) (string_stops initial_text s rest stops)) (a_text s rest h)
  a_type (suc n) (enum_of ms m) rest h stops =
      let value = put_initial_string (initial_member ms) m rest in
      five (word words.Enum (codes "[" ++ put_strings [] ms (codes "]" ++ value)) (stops_at_mark marks.OpenBracket)) (mark marks.OpenBracket (put_strings [] ms (codes "]" ++ value)))
      (strings ms (codes "]" ++ value) h.0 h.1) (mark marks.CloseBracket value) (a_string (initial_member ms) m rest h.2)
  a_type (suc n) (record_of fs) rest h stops =
      three (mark marks.OpenBrace (put_fields [] fs (codes "}" ++ rest))) (perhaps_fields n fs (codes "}" ++ rest) h (stops_at_mark marks.CloseBrace)) (mark marks.CloseBrace rest)
  a_type (suc n) (one_of fs) rest h stops =
      three (mark marks.Less (put_fields [] fs (codes ">" ++ rest))) (some_fields n fs (codes ">" ++ rest) h.0 h.1 (stops_at_mark marks.Greater)) (mark marks.Greater rest)
  a_type (suc n) (list t) rest h stops = two (word_space words.List (put_type t rest)) (a_type n t rest h stops)
  a_type (suc n) (keyed t) rest h stops = two (word_space words.Keyed (put_type t rest)) (a_type n t rest h stops)
  a_type (suc n) (tree t) rest h stops = two (word_space words.Tree (put_type t rest)) (a_type n t rest h stops)
  a_type (suc n) (named m) rest h stops = mentioned sorts.Type m rest h stops

  pub perhaps_fields : (n : ℕ) (fs : TermFields) (rest : List ℕ) → AreWritableFields n fs → Stops in_word rest → Spelt (PerhapsFields n fs) (put_fields [] fs rest) rest
  perhaps_fields n no_fields rest h stops = nothing
  perhaps_fields n (more_fields f t fs) rest h stops =
      let others = put_fields (codes ", ") fs rest in
      four (field f (codes ": " ++ put_type t others) h.0 (stops_at_mark marks.Colon)) (mark_space marks.Colon (put_type t others)) (a_type n t others h.1 (fields_stop fs rest stops)) (other_fields n fs rest h.2 stops)

  pub some_fields : (n : ℕ) (fs : TermFields) (rest : List ℕ) → HasFields fs → AreWritableFields n fs → Stops in_word rest → Spelt (AreFields n fs) (put_fields [] fs rest) rest
  some_fields n no_fields rest some h stops = absurd some
  some_fields n (more_fields f t fs) rest some h stops =
      let others = put_fields (codes ", ") fs rest in
      four (field f (codes ": " ++ put_type t others) h.0 (stops_at_mark marks.Colon)) (mark_space marks.Colon (put_type t others)) (a_type n t others h.1 (fields_stop fs rest stops)) (other_fields n fs rest h.2 stops)

  pub other_fields : (n : ℕ) (fs : TermFields) (rest : List ℕ) → AreWritableFields n fs → Stops in_word rest → Spelt (OtherFields n fs) (put_fields (codes ", ") fs rest) rest
  other_fields n no_fields rest h stops = nothing
  other_fields n (more_fields f t fs) rest h stops =
      let others = put_fields (codes ", ") fs rest in
      five (mark_space marks.Comma (put_name f (codes ": " ++ put_type t others))) (field f (codes ": " ++ put_type t others) h.0 (stops_at_mark marks.Colon)) (mark_space marks.Colon (put_type t others))
      (a_type n t others h.1 (fields_stop fs rest stops)) (other_fields n fs rest h.2 stops)

-- ---- lenses

mutual
  pub a_lens : (n : ℕ) (l : LensTree) (rest : List ℕ) → IsWritableLens n l → Stops in_word rest → Spelt (IsLens n l) (put_lens l rest) rest
  a_lens zero l rest h stops = absurd h
  a_lens (suc n) (id_of t) rest h stops = two (word_space words.Id (put_type t rest)) (a_type n t rest h stops)
  a_lens (suc n) (disc_of t u) rest h stops =
      three (word_space words.Disc (put_type t (codes " " ++ put_type u rest))) (spaced (a_type n t (codes " " ++ put_type u rest) h.0 stops_at_space)) (a_type n u rest h.1 stops)
  a_lens (suc n) (bij_of ps m) rest h stops =
      let value = put_initial_string (initial_left ps) m rest in
      five (word words.Bij (codes "[" ++ put_pairs [] ps (codes "]" ++ value)) (stops_at_mark marks.OpenBracket)) (mark marks.OpenBracket (put_pairs [] ps (codes "]" ++ value)))
      (pairs ps (codes "]" ++ value) h.0 h.1) (mark marks.CloseBracket value) (a_string (initial_left ps) m rest h.2)
  a_lens (suc n) (then_of l k) rest h stops =
      let second = put_lens k (codes ")" ++ rest) in
      six (word words.Then (codes "(" ++ put_lens l (codes ", " ++ second)) (stops_at_mark marks.OpenParen)) (mark marks.OpenParen (put_lens l (codes ", " ++ second)))
      (a_lens n l (codes ", " ++ second) h.0 (stops_at_mark marks.Comma)) (mark_space marks.Comma second) (a_lens n k (codes ")" ++ rest) h.1 (stops_at_mark marks.CloseParen)) (mark marks.CloseParen rest)
  a_lens (suc n) (rec_lens rows) rest h stops =
      three (mark marks.OpenBrace (put_rows [] rows (codes "}" ++ rest))) (perhaps_rows n rows (codes "}" ++ rest) h (stops_at_mark marks.CloseBrace)) (mark marks.CloseBrace rest)
  a_lens (suc n) (alt_lens arms) rest h stops =
      three (mark marks.Less (put_arms [] arms (codes ">" ++ rest))) (some_arms n arms (codes ">" ++ rest) h.0 h.1 (stops_at_mark marks.Greater)) (mark marks.Greater rest)
  a_lens (suc n) (each_of l) rest h stops = two (word_space words.Each (put_lens l rest)) (a_lens n l rest h stops)
  a_lens (suc n) (keyed_each l) rest h stops = two (word_space words.Keyed (put_lens l rest)) (a_lens n l rest h stops)
  a_lens (suc n) (tree_each l) rest h stops = two (word_space words.Tree (put_lens l rest)) (a_lens n l rest h stops)
  a_lens (suc n) (part_of fs) rest h stops =
      four (word_space words.Part (codes "<" ++ put_fields [] fs (codes ">" ++ rest))) (mark marks.Less (put_fields [] fs (codes ">" ++ rest)))
      (some_fields n fs (codes ">" ++ rest) h.0 h.1 (stops_at_mark marks.Greater)) (mark marks.Greater rest)
  a_lens (suc n) (inv_of l) rest h stops = two (word_space words.Inv (put_lens l rest)) (a_lens n l rest h stops)
  a_lens (suc n) (named_lens m) rest h stops = mentioned sorts.Lens m rest h stops

  pub perhaps_rows : (n : ℕ) (rows : TermRows) (rest : List ℕ) → AreWritableRows n rows → Stops in_word rest → Spelt (PerhapsRows n rows) (put_rows [] rows rest) rest
  perhaps_rows n no_rows rest h stops = nothing
  perhaps_rows n (both f g l rows) rest h stops =
      let others = put_rows (codes ", ") rows rest in
      let right = codes ": " ++ put_lens l others in
      six (field f (codes " ~ " ++ put_name g right) h.0 stops_at_space) (space_mark_space marks.Tilde (put_name g right)) (field g right h.1 (stops_at_mark marks.Colon)) (mark_space marks.Colon (put_lens l others))
      (a_lens n l others h.2 (rows_stop rows rest stops)) (other_rows n rows rest h.3 stops)
  perhaps_rows n (only_left f t rows) rest h stops =
      let others = put_rows (codes ", ") rows rest in
      five (word_space words.Left (put_name f (codes ": " ++ put_type t others))) (field f (codes ": " ++ put_type t others) h.0 (stops_at_mark marks.Colon)) (mark_space marks.Colon (put_type t others))
      (a_type n t others h.1 (rows_stop rows rest stops)) (other_rows n rows rest h.2 stops)
  perhaps_rows n (only_right f t rows) rest h stops =
      let others = put_rows (codes ", ") rows rest in
      five (word_space words.Right (put_name f (codes ": " ++ put_type t others))) (field f (codes ": " ++ put_type t others) h.0 (stops_at_mark marks.Colon)) (mark_space marks.Colon (put_type t others))
      (a_type n t others h.1 (rows_stop rows rest stops)) (other_rows n rows rest h.2 stops)

  pub other_rows : (n : ℕ) (rows : TermRows) (rest : List ℕ) → AreWritableRows n rows → Stops in_word rest → Spelt (OtherRows n rows) (put_rows (codes ", ") rows rest) rest
  other_rows n no_rows rest h stops = nothing
  other_rows n (both f g l rows) rest h stops =
      let others = put_rows (codes ", ") rows rest in
      let right = codes ": " ++ put_lens l others in
      seven (mark_space marks.Comma (put_name f (codes " ~ " ++ put_name g right))) (field f (codes " ~ " ++ put_name g right) h.0 stops_at_space) (space_mark_space marks.Tilde (put_name g right)) (field g right h.1 (stops_at_mark marks.Colon)) (mark_space marks.Colon (put_lens l others))
      (a_lens n l others h.2 (rows_stop rows rest stops)) (other_rows n rows rest h.3 stops)
  other_rows n (only_left f t rows) rest h stops =
      let others = put_rows (codes ", ") rows rest in
      six (mark_space marks.Comma (codes "left " ++ put_name f (codes ": " ++ put_type t others))) (word_space words.Left (put_name f (codes ": " ++ put_type t others)))
      (field f (codes ": " ++ put_type t others) h.0 (stops_at_mark marks.Colon)) (mark_space marks.Colon (put_type t others)) (a_type n t others h.1 (rows_stop rows rest stops)) (other_rows n rows rest h.2 stops)
  other_rows n (only_right f t rows) rest h stops =
      let others = put_rows (codes ", ") rows rest in
      six (mark_space marks.Comma (codes "right " ++ put_name f (codes ": " ++ put_type t others))) (word_space words.Right (put_name f (codes ": " ++ put_type t others)))
      (field f (codes ": " ++ put_type t others) h.0 (stops_at_mark marks.Colon)) (mark_space marks.Colon (put_type t others)) (a_type n t others h.1 (rows_stop rows rest stops)) (other_rows n rows rest h.2 stops)

  pub some_arms : (n : ℕ) (arms : TermArms) (rest : List ℕ) → HasArms arms → AreWritableArms n arms → Stops in_word rest → Spelt (AreArms n arms) (put_arms [] arms rest) rest
  some_arms n no_arms rest some h stops = absurd some
  some_arms n (more_arms f g l arms) rest some h stops =
      let others = put_arms (codes ", ") arms rest in
      let right = codes ": " ++ put_lens l others in
      six (field f (codes " ~ " ++ put_name g right) h.0 stops_at_space) (space_mark_space marks.Tilde (put_name g right)) (field g right h.1 (stops_at_mark marks.Colon)) (mark_space marks.Colon (put_lens l others))
      (a_lens n l others h.2 (arms_stop arms rest stops)) (other_arms n arms rest h.3 stops)

  pub other_arms : (n : ℕ) (arms : TermArms) (rest : List ℕ) → AreWritableArms n arms → Stops in_word rest → Spelt (OtherArms n arms) (put_arms (codes ", ") arms rest) rest
  other_arms n no_arms rest h stops = nothing
  other_arms n (more_arms f g l arms) rest h stops =
      let others = put_arms (codes ", ") arms rest in
      let right = codes ": " ++ put_lens l others in
      seven (mark_space marks.Comma (put_name f (codes " ~ " ++ put_name g right))) (field f (codes " ~ " ++ put_name g right) h.0 stops_at_space) (space_mark_space marks.Tilde (put_name g right)) (field g right h.1 (stops_at_mark marks.Colon)) (mark_space marks.Colon (put_lens l others))
      (a_lens n l others h.2 (arms_stop arms rest stops)) (other_arms n arms rest h.3 stops)

-- ---- definitions and programs

-- definitions with notes of where they stand in their text
record Defined (ds : List (List ℕ × DefTree)) (at : ℕ) (rest : List ℕ) : Type 0 where
  notes : List NotedDefinition
  after : ℕ
  same : map definition_without_notes notes ≡ ds
  spelt : AreDefinitions notes (tokens_from 0 at (put_definitions ds rest)) (tokens_from 0 after rest)

record OneDefined (name : List ℕ) (def : DefTree) (at : ℕ) (rest : List ℕ) : Type 0 where
  note : NotedDefinition
  after : ℕ
  same : definition_without_notes note ≡ (name, def)
  spelt : IsDefinition note (tokens_from 0 at (put_definition name def rest)) (tokens_from 0 after rest)

-- the first tokens of a definition: its word and its name
record Begun (k : Token) (name : List ℕ) (at : ℕ) (whole term : List ℕ) : Type 0 where
  name_at : ℕ
  after : ℕ
  tokens_are : tokens_from 0 at whole ≡ placed k at ∷ placed (tokens.Name name) name_at ∷ tokens_from 0 after (codes "= " ++ term)

-- behind the first word
name_begun : (name term : List ℕ) → is_name name ≡ true → (at : ℕ) → (after : ℕ) × (tokens_from 0 at (put_name name (codes " = " ++ term)) ≡ placed (tokens.Name name) at ∷ tokens_from 0 after (codes "= " ++ term))
name_begun name term h at = then_space (tokens.Name name) (put_name name (codes " = " ++ term)) (codes "= " ++ term) (name_text name (codes " = " ++ term) h stops_at_space) at

type_begun : (name term : List ℕ) → is_name name ≡ true → (at : ℕ) → Begun (tokens.Keyword words.Type) name at (codes "type " ++ put_name name (codes " = " ++ term)) term
type_begun name term h at =
    let w = word_then words.Type (put_name name (codes " = " ++ term)) at in
    let n = name_begun name term h w.0 in
    record { name_at = w.0; after = n.0; tokens_are = w.1 ∙ ap (λ x. placed (tokens.Keyword words.Type) at ∷ x) n.1 }

lens_begun : (name term : List ℕ) → is_name name ≡ true → (at : ℕ) → Begun (tokens.Keyword words.Lens) name at (codes "lens " ++ put_name name (codes " = " ++ term)) term
lens_begun name term h at =
    let w = word_then words.Lens (put_name name (codes " = " ++ term)) at in
    let n = name_begun name term h w.0 in
    record { name_at = w.0; after = n.0; tokens_are = w.1 ∙ ap (λ x. placed (tokens.Keyword words.Lens) at ∷ x) n.1 }

-- the end of a definition
line_ends : (rest : List ℕ) → Spelt (Is (tokens.Mark marks.Semicolon)) (codes ";\n" ++ rest) rest
line_ends rest = token (tokens.Mark marks.Semicolon) (codes ";\n" ++ rest) rest (λ at.
    let m = lex_mark marks.Semicolon (10 ∷ rest) at in
    let l = skip_line rest m.0 in
    (l.0, m.1 ∙ ap (λ x. placed (tokens.Mark marks.Semicolon) at ∷ x) l.1))

one_defined : (name : List ℕ) (def : DefTree) (rest : List ℕ) → is_name name ≡ true → IsWritableTerm def → (at : ℕ) → OneDefined name def at rest
one_defined name (type_def t) rest good h at =
    let term = put_type t (codes ";\n" ++ rest) in
    let b = type_begun name term good at in
    let e = (mark_space marks.Equals term).from [] b.after in
    let s = (a_type 100 t (codes ";\n" ++ rest) h (stops_at_mark marks.Semicolon)).from e.0.0 e.0.1 in
    let z = (line_ends rest).from s.0.0 s.0.1 in
    record {
      note = record { name = name; at = b.name_at; def = type_def t; mentions = z.0.0 };
      after = z.0.1;
      same = refl;
      spelt = record {
        word = tokens.Keyword words.Type;
        word_at = at;
        a = tokens_from 0 b.after (codes "= " ++ term);
        b = before e.0.0 e.0.1 term;
        c = before s.0.0 s.0.1 (codes ";\n" ++ rest);
        begins = b.tokens_are;
        equals = e.1;
        stands = (refl, s.1);
        ends = z.1;
      };
    }
one_defined name (lens_def l) rest good h at =
    let term = put_lens l (codes ";\n" ++ rest) in
    let b = lens_begun name term good at in
    let e = (mark_space marks.Equals term).from [] b.after in
    let s = (a_lens 100 l (codes ";\n" ++ rest) h (stops_at_mark marks.Semicolon)).from e.0.0 e.0.1 in
    let z = (line_ends rest).from s.0.0 s.0.1 in
    record {
      note = record { name = name; at = b.name_at; def = lens_def l; mentions = z.0.0 };
      after = z.0.1;
      same = refl;
      spelt = record {
        word = tokens.Keyword words.Lens;
        word_at = at;
        a = tokens_from 0 b.after (codes "= " ++ term);
        b = before e.0.0 e.0.1 term;
        c = before s.0.0 s.0.1 (codes ";\n" ++ rest);
        begins = b.tokens_are;
        equals = e.1;
        stands = (refl, s.1);
        ends = z.1;
      };
    }

all_defined : (ds : List (List ℕ × DefTree)) (rest : List ℕ) → AreWritableDefinitions ds → (at : ℕ) → Defined ds at rest
all_defined [] rest h at = record { notes = []; after = at; same = refl; spelt = refl }
all_defined (d ∷ ds) rest h at =
    let one = one_defined d.0 d.1 (put_definitions ds rest) h.0 h.1 at in
    let others = all_defined ds rest h.2 one.after in
    record {
      notes = one.note ∷ others.notes;
      after = others.after;
      same = λ j. one.same j ∷ others.same j;
      spelt = (tokens_from 0 one.after (put_definitions ds rest), one.spelt, others.spelt);
    }

-- The text of a writable program spells it.
pub program_spelt : (p : ProgramTree) → IsWritable p → (n : NotedProgram) × (without_notes n ≡ p) × IsProgram n (tokens_of (canonical p))
program_spelt p h =
    let main = codes "main " ++ put_lens p.main [] in
    let ds = all_defined p.definitions main h.0 0 in
    let w = (word_space words.Main (put_lens p.main [])).from [] ds.after in
    let l = (a_lens 100 p.main [] h.1 tt).from w.0.0 w.0.1 in (
      record { definitions = ds.notes; main = p.main; mentions = l.0.0 },
      λ j. record { definitions = ds.same j; main = p.main },
      record {
        a = tokens_from 0 ds.after main;
        b = before w.0.0 w.0.1 (put_lens p.main []);
        c = before l.0.0 l.0.1 [];
        definitions = ds.spelt;
        main = w.1;
        lens = l.1;
        ends = record { at = l.0.1; names = refl; parts = lex_end l.0.1 };
      },
    )
