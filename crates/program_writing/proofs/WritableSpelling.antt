-- What is spelled by tokens that keep their form is writable.
use Rattle.std.proofs.Common.{◌≡◌, ℕ, zero, suc, List, [], ◌∷◌, map, refl, sym, subst, arith, inl, inr}
use lib.IntN.{ℤ}
use Rattle.program_tokens.specs.Tokens.{tokens_of, placed}
use Rattle.program_tokens.specs.declared.mark.Mark.TheVariants as marks
use Rattle.program_tokens.specs.declared.token.Token.{Token}
use Rattle.program_tokens.specs.declared.token.Token.TheVariants as tokens
use Rattle.program_tokens.specs.declared.token.PlacedToken.{PlacedToken}
use Rattle.program_tokens.proofs.StringTexts.{name_is_text}
use Rattle.program_tokens.proofs.TokenForms.{IsSound, AreSound, sound}
use Rattle.program_terms.specs.Terms.{TypeTree, TermFields, unit, bool, int, text, enum_of, record_of, one_of, list, keyed, tree, named, no_fields, more_fields, LensTree, id_of, bij_of, disc_of, then_of, rec_lens, alt_lens, each_of, keyed_each, tree_each, part_of, inv_of, named_lens, TermRows, no_rows, both, only_left, only_right, TermArms, no_arms, more_arms, DefTree, type_def, lens_def, initial_number, initial_text, initial_member, initial_left}
use Rattle.program_grammar.specs.declared.mention.Sort.{Sort}
use Rattle.program_grammar.specs.Mentions.{Point, NotedDefinition, NotedProgram, definition_without_notes, without_notes}
use Rattle.program_grammar.specs.Spelling.{Is, IsMention, IsField, OtherStrings, AreStrings, OtherPairs, ArePairs, IsInitial, IsType, PerhapsFields, AreFields, OtherFields, IsLens, PerhapsRows, OtherRows, AreArms, OtherArms, IsStatement, IsDefinition, AreDefinitions, IsProgram}
use Rattle.program_writing.specs.Writable.{IsName, IsText, IsInitialText, IsInitialNumber, AreTexts, ArePairsOfTexts, IsNotEmpty, HasFields, HasArms, IsWritableType, AreWritableFields, IsWritableLens, AreWritableRows, AreWritableArms, IsWritableTerm, AreWritableDefinitions, IsWritable}

-- From one point to another: where the tokens that are left are sound, they still are, and this holds.
pub record Keeps (W : Type 0) (here there : Point) : Type 0 where
  pub by : AreSound here.1 → W × AreSound there.1

-- ---- one token

passed : (t : Token) (at : ℕ) (ts rest : List PlacedToken) → ts ≡ placed t at ∷ rest → AreSound ts → IsSound t × AreSound rest
passed t at ts rest e s = subst AreSound e s

over : {k : Token} {W : Type 0} {a b c : Point} → Is k a b → Keeps W b c → Keeps W a c
over {k = k} {a = a} {b = b} h w = record { by = λ s. w.by (passed k h.at a.1 b.1 h.parts s).1 }

ended : {k : Token} {W : Type 0} {a b c : Point} → Keeps W a b → Is k b c → Keeps W a c
ended {k = k} {b = b} {c = c} w h = record { by = λ s. let r = w.by s in (r.0, (passed k h.at b.1 c.1 h.parts r.1).1) }

alone : {k : Token} {a b : Point} → Is k a b → Keeps (Unit {0}) a b
alone {k = k} {a = a} {b = b} h = record { by = λ s. (tt, (passed k h.at a.1 b.1 h.parts s).1) }

string : {m : List ℕ} {a b : Point} → Is (tokens.Text m) a b → Keeps (IsText m) a b
string {m = m} {a = a} {b = b} h = record { by = passed (tokens.Text m) h.at a.1 b.1 h.parts }

field : (f : List ℕ) (a b : Point) → IsField f a b → Keeps (IsText f) a b
field f a b (inl h) = record { by = λ s. let r = passed (tokens.Name f) h.at a.1 b.1 h.parts s in (name_is_text f r.0, r.1) }
field f a b (inr h) = record { by = passed (tokens.Text f) h.at a.1 b.1 h.parts }

mentioned : {sort : Sort} {m : List ℕ} {a b : Point} → IsMention sort m a b → Keeps (IsName m) a b
mentioned {m = m} {a = a} {b = b} h = record { by = passed (tokens.Name m) h.at a.1 b.1 h.parts }

-- ---- one thing after another

nothing : (a b : Point) → a ≡ b → Keeps (Unit {0}) a b
nothing a b e = record { by = λ s. (tt, subst (λ p. AreSound p.1) e s) }

some : {W : Type 0} {a b : Point} → Keeps W a b → Keeps (Unit {0} × W) a b
some w = record { by = λ s. let r = w.by s in ((tt, r.0), r.1) }

two : {V W : Type 0} {a b c : Point} → Keeps V a b → Keeps W b c → Keeps (V × W) a c
two v w = record { by = λ s. let r = v.by s in let q = w.by r.1 in ((r.0, q.0), q.1) }

three : {U V W : Type 0} {a b c d : Point} → Keeps U a b → Keeps V b c → Keeps W c d → Keeps (U × V × W) a d
three u v w = record { by = λ s. let p = u.by s in let q = v.by p.1 in let r = w.by q.1 in ((p.0, q.0, r.0), r.1) }

four : {T U V W : Type 0} {a b c d e : Point} → Keeps T a b → Keeps U b c → Keeps V c d → Keeps W d e → Keeps (T × U × V × W) a e
four t u v w = record { by = λ s. let o = t.by s in let p = u.by o.1 in let q = v.by p.1 in let r = w.by q.1 in ((o.0, p.0, q.0, r.0), r.1) }

-- ---- strings and pairs

other_strings : (ms : List (List ℕ)) (a b : Point) → OtherStrings ms a b → Keeps (AreTexts ms) a b
other_strings [] a b h = nothing a b h
other_strings (m ∷ ms) a b h = over h.2 (two (string h.3) (other_strings ms h.1 b h.4))

strings : (ms : List (List ℕ)) (a b : Point) → AreStrings ms a b → Keeps (IsNotEmpty ms × AreTexts ms) a b
strings [] a b h = absurd h
strings (m ∷ ms) a b h = some (two (string h.1) (other_strings ms h.0 b h.2))

other_pairs : (ps : List (List ℕ × List ℕ)) (a b : Point) → OtherPairs ps a b → Keeps (ArePairsOfTexts ps) a b
other_pairs [] a b h = nothing a b h
other_pairs (p ∷ ps) a b h = let q = h.3 in over h.2 (three (string q.2) (over q.3 (string q.4)) (other_pairs ps h.1 b h.4))

pairs : (ps : List (List ℕ × List ℕ)) (a b : Point) → ArePairs ps a b → Keeps (IsNotEmpty ps × ArePairsOfTexts ps) a b
pairs [] a b h = absurd h
pairs (p ∷ ps) a b h = let q = h.1 in some (three (string q.2) (over q.3 (string q.4)) (other_pairs ps h.0 b h.2))

-- ---- initial values

-- what holds of the value that is left out, and of each that may be written
initial : {A : Type 0} (W : A → Type 0) (token : A → Token) (left_out x : A) (a b : Point) → W left_out → ((s : IsSound (token x)) → W x) → IsInitial token left_out x a b → Keeps (W x) a b
initial W token left_out x a b out written (inl h) = record { by = λ s. (subst W (sym h.0) out, subst (λ p. AreSound p.1) h.1 s) }
initial W token left_out x a b out written (inr h) = record {
  by = λ s.
      let equals = passed (tokens.Mark marks.Equals) h.1.at a.1 h.0.1 h.1.parts s in
      let value = passed (token x) h.2.at h.0.1 b.1 h.2.parts equals.1 in
      (written value.0, value.1);
}

number : (z : ℤ) (a b : Point) → IsInitial tokens.Number initial_number z a b → Keeps (IsInitialNumber z) a b
number z a b h = initial IsInitialNumber tokens.Number initial_number z a b (omega arith) (λ s. s) h

text_value : (m : List ℕ) (a b : Point) → IsInitial tokens.Text initial_text m a b → Keeps (IsInitialText m) a b
text_value m a b h = initial IsInitialText tokens.Text initial_text m a b (inl refl) (λ s. inr s) h

-- one that is written, or that is among those before it
chosen : {V W : Type 0} (left_out m : List ℕ) (a b c : Point) → (V × W → IsText left_out) → Keeps (V × W) a b → IsInitial tokens.Text left_out m b c → Keeps (V × W × IsText m) a c
chosen left_out m a b c among w h = record {
  by = λ s.
      let r = w.by s in
      let value = (initial IsText tokens.Text left_out m b c (among r.0) (λ s. s) h).by r.1 in
      ((r.0.0, r.0.1, value.0), value.1);
}

first_member : (ms : List (List ℕ)) → IsNotEmpty ms × AreTexts ms → IsText (initial_member ms)
first_member [] h = absurd h.0
first_member (m ∷ ms) h = h.1.0

first_left : (ps : List (List ℕ × List ℕ)) → IsNotEmpty ps × ArePairsOfTexts ps → IsText (initial_left ps)
first_left [] h = absurd h.0
first_left (p ∷ ps) h = h.1.0

-- ---- types

mutual
  a_type : (n : ℕ) (t : TypeTree) (a b : Point) → IsType n t a b → Keeps (IsWritableType n t) a b
  a_type zero t a b h = absurd h
  a_type (suc n) unit a b h = alone h
  a_type (suc n) bool a b h = alone h
  a_type (suc n) (int z) a b h = over h.1 (number z h.0 b h.2)
  a_type (suc n) (text m) a b h = over h.1 (text_value m h.0 b h.2)
  a_type (suc n) (enum_of ms m) a b h = over h.4 (over h.5 (chosen (initial_member ms) m h.1 h.3 b (first_member ms) (ended (strings ms h.1 h.2 h.6) h.7) h.8))
  a_type (suc n) (record_of fs) a b h = over h.2 (ended (perhaps_fields n fs h.0 h.1 h.3) h.4)
  a_type (suc n) (one_of fs) a b h = over h.2 (ended (some_fields n fs h.0 h.1 h.3) h.4)
  a_type (suc n) (list t) a b h = over h.1 (a_type n t h.0 b h.2)
  a_type (suc n) (keyed t) a b h = over h.1 (a_type n t h.0 b h.2)
  a_type (suc n) (tree t) a b h = over h.1 (a_type n t h.0 b h.2)
  a_type (suc n) (named m) a b h = mentioned h

  perhaps_fields : (n : ℕ) (fs : TermFields) (a b : Point) → PerhapsFields n fs a b → Keeps (AreWritableFields n fs) a b
  perhaps_fields n no_fields a b h = nothing a b h
  perhaps_fields n (more_fields f t fs) a b h = three (field f a h.0 h.3) (over h.4 (a_type n t h.1 h.2 h.5)) (other_fields n fs h.2 b h.6)

  some_fields : (n : ℕ) (fs : TermFields) (a b : Point) → AreFields n fs a b → Keeps (HasFields fs × AreWritableFields n fs) a b
  some_fields n no_fields a b h = absurd h
  some_fields n (more_fields f t fs) a b h = some (three (field f a h.0 h.3) (over h.4 (a_type n t h.1 h.2 h.5)) (other_fields n fs h.2 b h.6))

  other_fields : (n : ℕ) (fs : TermFields) (a b : Point) → OtherFields n fs a b → Keeps (AreWritableFields n fs) a b
  other_fields n no_fields a b h = nothing a b h
  other_fields n (more_fields f t fs) a b h = over h.4 (three (field f h.0 h.1 h.5) (over h.6 (a_type n t h.2 h.3 h.7)) (other_fields n fs h.3 b h.8))

-- ---- lenses

mutual
  a_lens : (n : ℕ) (l : LensTree) (a b : Point) → IsLens n l a b → Keeps (IsWritableLens n l) a b
  a_lens zero l a b h = absurd h
  a_lens (suc n) (id_of t) a b h = over h.1 (a_type n t h.0 b h.2)
  a_lens (suc n) (disc_of t u) a b h = over h.2 (two (a_type n t h.0 h.1 h.3) (a_type n u h.1 b h.4))
  a_lens (suc n) (bij_of ps m) a b h = over h.4 (over h.5 (chosen (initial_left ps) m h.1 h.3 b (first_left ps) (ended (pairs ps h.1 h.2 h.6) h.7) h.8))
  a_lens (suc n) (then_of l k) a b h = over h.5 (over h.6 (two (a_lens n l h.1 h.2 h.7) (over h.8 (ended (a_lens n k h.3 h.4 h.9) h.10))))
  a_lens (suc n) (rec_lens rows) a b h = over h.2 (ended (perhaps_rows n rows h.0 h.1 h.3) h.4)
  a_lens (suc n) (alt_lens arms) a b h = over h.2 (ended (some_arms n arms h.0 h.1 h.3) h.4)
  a_lens (suc n) (each_of l) a b h = over h.1 (a_lens n l h.0 b h.2)
  a_lens (suc n) (keyed_each l) a b h = over h.1 (a_lens n l h.0 b h.2)
  a_lens (suc n) (tree_each l) a b h = over h.1 (a_lens n l h.0 b h.2)
  a_lens (suc n) (part_of fs) a b h = over h.3 (over h.4 (ended (some_fields n fs h.1 h.2 h.5) h.6))
  a_lens (suc n) (inv_of l) a b h = over h.1 (a_lens n l h.0 b h.2)
  a_lens (suc n) (named_lens m) a b h = mentioned h

  perhaps_rows : (n : ℕ) (rows : TermRows) (a b : Point) → PerhapsRows n rows a b → Keeps (AreWritableRows n rows) a b
  perhaps_rows n no_rows a b h = nothing a b h
  perhaps_rows n (both f g l rows) a b h = four (field f a h.0 h.5) (over h.6 (field g h.1 h.2 h.7)) (over h.8 (a_lens n l h.3 h.4 h.9)) (other_rows n rows h.4 b h.10)
  perhaps_rows n (only_left f t rows) a b h = over h.4 (three (field f h.0 h.1 h.5) (over h.6 (a_type n t h.2 h.3 h.7)) (other_rows n rows h.3 b h.8))
  perhaps_rows n (only_right f t rows) a b h = over h.4 (three (field f h.0 h.1 h.5) (over h.6 (a_type n t h.2 h.3 h.7)) (other_rows n rows h.3 b h.8))

  other_rows : (n : ℕ) (rows : TermRows) (a b : Point) → OtherRows n rows a b → Keeps (AreWritableRows n rows) a b
  other_rows n no_rows a b h = nothing a b h
  other_rows n (both f g l rows) a b h = over h.6 (four (field f h.0 h.1 h.7) (over h.8 (field g h.2 h.3 h.9)) (over h.10 (a_lens n l h.4 h.5 h.11)) (other_rows n rows h.5 b h.12))
  other_rows n (only_left f t rows) a b h = over h.5 (over h.6 (three (field f h.1 h.2 h.7) (over h.8 (a_type n t h.3 h.4 h.9)) (other_rows n rows h.4 b h.10)))
  other_rows n (only_right f t rows) a b h = over h.5 (over h.6 (three (field f h.1 h.2 h.7) (over h.8 (a_type n t h.3 h.4 h.9)) (other_rows n rows h.4 b h.10)))

  some_arms : (n : ℕ) (arms : TermArms) (a b : Point) → AreArms n arms a b → Keeps (HasArms arms × AreWritableArms n arms) a b
  some_arms n no_arms a b h = absurd h
  some_arms n (more_arms f g l arms) a b h = some (four (field f a h.0 h.5) (over h.6 (field g h.1 h.2 h.7)) (over h.8 (a_lens n l h.3 h.4 h.9)) (other_arms n arms h.4 b h.10))

  other_arms : (n : ℕ) (arms : TermArms) (a b : Point) → OtherArms n arms a b → Keeps (AreWritableArms n arms) a b
  other_arms n no_arms a b h = nothing a b h
  other_arms n (more_arms f g l arms) a b h = over h.6 (four (field f h.0 h.1 h.7) (over h.8 (field g h.2 h.3 h.9)) (over h.10 (a_lens n l h.4 h.5 h.11)) (other_arms n arms h.5 b h.12))

-- ---- definitions and programs

statement : (d : DefTree) (k : Token) (a b : Point) → IsStatement d k a b → Keeps (IsWritableTerm d) a b
statement (type_def t) k a b h = a_type 100 t a b h.1
statement (lens_def l) k a b h = a_lens 100 l a b h.1

definition : (d : NotedDefinition) (ts rest : List PlacedToken) → IsDefinition d ts rest → AreSound ts → IsName d.name × IsWritableTerm d.def × AreSound rest
definition d ts rest h s =
    let name = (subst AreSound h.begins s).1 in
    let term = (over h.equals (ended (statement d.def h.word h.b h.c h.stands) h.ends)).by name.1 in
    (name.0, term.0, term.1)

definitions : (ds : List NotedDefinition) (ts rest : List PlacedToken) → AreDefinitions ds ts rest → AreSound ts → AreWritableDefinitions (map definition_without_notes ds) × AreSound rest
definitions [] ts rest h s = (tt, subst AreSound h s)
definitions (d ∷ ds) ts rest h s =
    let one = definition d ts h.0 h.1 s in
    let others = definitions ds h.0 rest h.2 one.2 in
    ((one.0, one.1, others.0), others.1)

-- A program that a text spells is writable.
pub program_kept : (n : NotedProgram) (source : List ℕ) → IsProgram n (tokens_of source) → IsWritable (without_notes n)
program_kept n source h =
    let ds = definitions n.definitions (tokens_of source) h.a h.definitions (sound 0 0 source) in
    let main = (over h.main (ended (a_lens 100 n.main h.b h.c h.lens) h.ends)).by ds.1 in
    (ds.0, main.0)
