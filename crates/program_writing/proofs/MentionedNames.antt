-- Which names a program mentions is said by its terms: how it is spelled changes their offsets alone.
use Rattle.std.proofs.Common.{◌≡◌, ℕ, zero, suc, List, [], ◌∷◌, ◌++◌, map, refl, sym, ap, ◌∙◌, append_assoc, append-nil, inl, inr}
use Rattle.std.proofs.lemmas.List.{map-append}
use Rattle.program_tokens.specs.declared.token.Token.{Token}
use Rattle.program_tokens.specs.declared.token.Token.TheVariants as tokens
use Rattle.program_tokens.specs.declared.token.PlacedToken.{PlacedToken}
use Rattle.program_terms.specs.Terms.{TypeTree, TermFields, unit, bool, int, text, enum_of, record_of, one_of, list, keyed, tree, named, no_fields, more_fields, LensTree, id_of, bij_of, disc_of, then_of, rec_lens, alt_lens, each_of, keyed_each, tree_each, part_of, inv_of, named_lens, TermRows, no_rows, both, only_left, only_right, TermArms, no_arms, more_arms, DefTree, type_def, lens_def, initial_number, initial_text, initial_member, initial_left}
use Rattle.program_grammar.specs.declared.mention.Sort.{Sort}
use Rattle.program_grammar.specs.declared.mention.Sort.TheVariants as sorts
use Rattle.program_grammar.specs.declared.mention.Mention.{Mention}
use Rattle.program_grammar.specs.Mentions.{Point, mention, NotedDefinition, NotedProgram}
use Rattle.program_grammar.specs.Spelling.{Is, IsMention, IsField, OtherStrings, AreStrings, OtherPairs, ArePairs, IsInitial, IsType, PerhapsFields, AreFields, OtherFields, IsLens, PerhapsRows, OtherRows, AreArms, OtherArms, IsStatement, IsDefinition, IsProgram}

-- a name that is mentioned, without its offset
abbrev pub unplaced : Mention → Sort × List ℕ
unplaced m = (m.sort, m.name)

-- the names that a term mentions, in written order
abbrev mutual
  pub type_names : TypeTree → List (Sort × List ℕ)
  type_names unit = []
  type_names bool = []
  type_names (int z) = []
  type_names (text s) = []
  type_names (enum_of ms m) = []
  type_names (record_of fs) = fields_names fs
  type_names (one_of fs) = fields_names fs
  type_names (list t) = type_names t
  type_names (keyed t) = type_names t
  type_names (tree t) = type_names t
  type_names (named m) = (sorts.Type, m) ∷ []

  pub fields_names : TermFields → List (Sort × List ℕ)
  fields_names no_fields = []
  fields_names (more_fields f t fs) = type_names t ++ fields_names fs

abbrev mutual
  pub lens_names : LensTree → List (Sort × List ℕ)
  lens_names (id_of t) = type_names t
  lens_names (disc_of t u) = type_names t ++ type_names u
  lens_names (bij_of ps m) = []
  lens_names (then_of l k) = lens_names l ++ lens_names k
  lens_names (rec_lens rows) = rows_names rows
  lens_names (alt_lens arms) = arms_names arms
  lens_names (each_of l) = lens_names l
  lens_names (keyed_each l) = lens_names l
  lens_names (tree_each l) = lens_names l
  lens_names (part_of fs) = fields_names fs
  lens_names (inv_of l) = lens_names l
  lens_names (named_lens m) = (sorts.Lens, m) ∷ []

  pub rows_names : TermRows → List (Sort × List ℕ)
  rows_names no_rows = []
  rows_names (both f g l rows) = lens_names l ++ rows_names rows
  rows_names (only_left f t rows) = type_names t ++ rows_names rows
  rows_names (only_right f t rows) = type_names t ++ rows_names rows

  pub arms_names : TermArms → List (Sort × List ℕ)
  arms_names no_arms = []
  arms_names (more_arms f g l arms) = lens_names l ++ arms_names arms

abbrev pub def_names : DefTree → List (Sort × List ℕ)
def_names (type_def t) = type_names t
def_names (lens_def l) = lens_names l

-- from one point to another these names are mentioned
record Adds (names : List (Sort × List ℕ)) (here there : Point) : Type 0 where
  told : map unplaced there.0 ≡ map unplaced here.0 ++ names

over : {k : Token} {names : List (Sort × List ℕ)} {a b c : Point} → Is k a b → Adds names b c → Adds names a c
over {names = names} h r = record { told = r.told ∙ ap (λ ms. map unplaced ms ++ names) h.names }

ended : {k : Token} {names : List (Sort × List ℕ)} {a b c : Point} → Adds names a b → Is k b c → Adds names a c
ended r h = record { told = ap (map unplaced) h.names ∙ r.told }

over_field : {names : List (Sort × List ℕ)} {c : Point} (f : List ℕ) (a b : Point) → IsField f a b → Adds names b c → Adds names a c
over_field f a b (inl h) r = over h r
over_field f a b (inr h) r = over h r

nothing : (a b : Point) → a ≡ b → Adds [] a b
nothing a b e = record { told = ap (λ p. map unplaced p.0) (sym e) ∙ sym (append-nil (map unplaced a.0)) }

alone : {k : Token} {a b : Point} → Is k a b → Adds [] a b
alone {b = b} h = over h (nothing b b refl)

two : {xs ys : List (Sort × List ℕ)} {a b c : Point} → Adds xs a b → Adds ys b c → Adds (xs ++ ys) a c
two {xs = xs} {ys = ys} {a = a} r s = record { told = s.told ∙ ap (λ ms. ms ++ ys) r.told ∙ append_assoc (map unplaced a.0) xs ys }

mentioned : (sort : Sort) (m : List ℕ) (a b : Point) → IsMention sort m a b → Adds ((sort, m) ∷ []) a b
mentioned sort m a b h = record { told = ap (map unplaced) h.names ∙ map-append unplaced a.0 (mention sort m h.at ∷ []) }

-- ---- strings, pairs and initial values mention nothing

other_strings : (ms : List (List ℕ)) (a b : Point) → OtherStrings ms a b → Adds [] a b
other_strings [] a b h = nothing a b h
other_strings (m ∷ ms) a b h = over h.2 (over h.3 (other_strings ms h.1 b h.4))

strings : (ms : List (List ℕ)) (a b : Point) → AreStrings ms a b → Adds [] a b
strings [] a b h = absurd h
strings (m ∷ ms) a b h = over h.1 (other_strings ms h.0 b h.2)

other_pairs : (ps : List (List ℕ × List ℕ)) (a b : Point) → OtherPairs ps a b → Adds [] a b
other_pairs [] a b h = nothing a b h
other_pairs (p ∷ ps) a b h = let q = h.3 in over h.2 (over q.2 (over q.3 (over q.4 (other_pairs ps h.1 b h.4))))

pairs : (ps : List (List ℕ × List ℕ)) (a b : Point) → ArePairs ps a b → Adds [] a b
pairs [] a b h = absurd h
pairs (p ∷ ps) a b h = let q = h.1 in over q.2 (over q.3 (over q.4 (other_pairs ps h.0 b h.2)))

initial : {A : Type 0} (token : A → Token) (left_out x : A) (a b : Point) → IsInitial token left_out x a b → Adds [] a b
initial token left_out x a b (inl h) = nothing a b h.1
initial token left_out x a b (inr h) = over h.1 (alone h.2)

-- ---- types

mutual
  a_type : (n : ℕ) (t : TypeTree) (a b : Point) → IsType n t a b → Adds (type_names t) a b
  a_type zero t a b h = absurd h
  a_type (suc n) unit a b h = alone h
  a_type (suc n) bool a b h = alone h
  a_type (suc n) (int z) a b h = over h.1 (initial tokens.Number initial_number z h.0 b h.2)
  a_type (suc n) (text s) a b h = over h.1 (initial tokens.Text initial_text s h.0 b h.2)
  a_type (suc n) (enum_of ms m) a b h = over h.4 (over h.5 (two (ended (strings ms h.1 h.2 h.6) h.7) (initial tokens.Text (initial_member ms) m h.3 b h.8)))
  a_type (suc n) (record_of fs) a b h = over h.2 (ended (perhaps_fields n fs h.0 h.1 h.3) h.4)
  a_type (suc n) (one_of fs) a b h = over h.2 (ended (some_fields n fs h.0 h.1 h.3) h.4)
  a_type (suc n) (list t) a b h = over h.1 (a_type n t h.0 b h.2)
  a_type (suc n) (keyed t) a b h = over h.1 (a_type n t h.0 b h.2)
  a_type (suc n) (tree t) a b h = over h.1 (a_type n t h.0 b h.2)
  a_type (suc n) (named m) a b h = mentioned sorts.Type m a b h

  perhaps_fields : (n : ℕ) (fs : TermFields) (a b : Point) → PerhapsFields n fs a b → Adds (fields_names fs) a b
  perhaps_fields n no_fields a b h = nothing a b h
  perhaps_fields n (more_fields f t fs) a b h = over_field f a h.0 h.3 (over h.4 (two (a_type n t h.1 h.2 h.5) (other_fields n fs h.2 b h.6)))

  some_fields : (n : ℕ) (fs : TermFields) (a b : Point) → AreFields n fs a b → Adds (fields_names fs) a b
  some_fields n no_fields a b h = absurd h
  some_fields n (more_fields f t fs) a b h = over_field f a h.0 h.3 (over h.4 (two (a_type n t h.1 h.2 h.5) (other_fields n fs h.2 b h.6)))

  other_fields : (n : ℕ) (fs : TermFields) (a b : Point) → OtherFields n fs a b → Adds (fields_names fs) a b
  other_fields n no_fields a b h = nothing a b h
  other_fields n (more_fields f t fs) a b h = over h.4 (over_field f h.0 h.1 h.5 (over h.6 (two (a_type n t h.2 h.3 h.7) (other_fields n fs h.3 b h.8))))

-- ---- lenses

mutual
  a_lens : (n : ℕ) (l : LensTree) (a b : Point) → IsLens n l a b → Adds (lens_names l) a b
  a_lens zero l a b h = absurd h
  a_lens (suc n) (id_of t) a b h = over h.1 (a_type n t h.0 b h.2)
  a_lens (suc n) (disc_of t u) a b h = over h.2 (two (a_type n t h.0 h.1 h.3) (a_type n u h.1 b h.4))
  a_lens (suc n) (bij_of ps m) a b h = over h.4 (over h.5 (two (ended (pairs ps h.1 h.2 h.6) h.7) (initial tokens.Text (initial_left ps) m h.3 b h.8)))
  a_lens (suc n) (then_of l k) a b h = over h.5 (over h.6 (two (a_lens n l h.1 h.2 h.7) (over h.8 (ended (a_lens n k h.3 h.4 h.9) h.10))))
  a_lens (suc n) (rec_lens rows) a b h = over h.2 (ended (perhaps_rows n rows h.0 h.1 h.3) h.4)
  a_lens (suc n) (alt_lens arms) a b h = over h.2 (ended (some_arms n arms h.0 h.1 h.3) h.4)
  a_lens (suc n) (each_of l) a b h = over h.1 (a_lens n l h.0 b h.2)
  a_lens (suc n) (keyed_each l) a b h = over h.1 (a_lens n l h.0 b h.2)
  a_lens (suc n) (tree_each l) a b h = over h.1 (a_lens n l h.0 b h.2)
  a_lens (suc n) (part_of fs) a b h = over h.3 (over h.4 (ended (some_fields n fs h.1 h.2 h.5) h.6))
  a_lens (suc n) (inv_of l) a b h = over h.1 (a_lens n l h.0 b h.2)
  a_lens (suc n) (named_lens m) a b h = mentioned sorts.Lens m a b h

  perhaps_rows : (n : ℕ) (rows : TermRows) (a b : Point) → PerhapsRows n rows a b → Adds (rows_names rows) a b
  perhaps_rows n no_rows a b h = nothing a b h
  perhaps_rows n (both f g l rows) a b h = over_field f a h.0 h.5 (over h.6 (over_field g h.1 h.2 h.7 (over h.8 (two (a_lens n l h.3 h.4 h.9) (other_rows n rows h.4 b h.10)))))
  perhaps_rows n (only_left f t rows) a b h = over h.4 (over_field f h.0 h.1 h.5 (over h.6 (two (a_type n t h.2 h.3 h.7) (other_rows n rows h.3 b h.8))))
  perhaps_rows n (only_right f t rows) a b h = over h.4 (over_field f h.0 h.1 h.5 (over h.6 (two (a_type n t h.2 h.3 h.7) (other_rows n rows h.3 b h.8))))

  other_rows : (n : ℕ) (rows : TermRows) (a b : Point) → OtherRows n rows a b → Adds (rows_names rows) a b
  other_rows n no_rows a b h = nothing a b h
  other_rows n (both f g l rows) a b h = over h.6 (over_field f h.0 h.1 h.7 (over h.8 (over_field g h.2 h.3 h.9 (over h.10 (two (a_lens n l h.4 h.5 h.11) (other_rows n rows h.5 b h.12))))))
  other_rows n (only_left f t rows) a b h = over h.5 (over h.6 (over_field f h.1 h.2 h.7 (over h.8 (two (a_type n t h.3 h.4 h.9) (other_rows n rows h.4 b h.10)))))
  other_rows n (only_right f t rows) a b h = over h.5 (over h.6 (over_field f h.1 h.2 h.7 (over h.8 (two (a_type n t h.3 h.4 h.9) (other_rows n rows h.4 b h.10)))))

  some_arms : (n : ℕ) (arms : TermArms) (a b : Point) → AreArms n arms a b → Adds (arms_names arms) a b
  some_arms n no_arms a b h = absurd h
  some_arms n (more_arms f g l arms) a b h = over_field f a h.0 h.5 (over h.6 (over_field g h.1 h.2 h.7 (over h.8 (two (a_lens n l h.3 h.4 h.9) (other_arms n arms h.4 b h.10)))))

  other_arms : (n : ℕ) (arms : TermArms) (a b : Point) → OtherArms n arms a b → Adds (arms_names arms) a b
  other_arms n no_arms a b h = nothing a b h
  other_arms n (more_arms f g l arms) a b h = over h.6 (over_field f h.0 h.1 h.7 (over h.8 (over_field g h.2 h.3 h.9 (over h.10 (two (a_lens n l h.4 h.5 h.11) (other_arms n arms h.5 b h.12))))))

-- ---- definitions and programs

statement : (d : DefTree) (k : Token) (a b : Point) → IsStatement d k a b → Adds (def_names d) a b
statement (type_def t) k a b h = a_type 100 t a b h.1
statement (lens_def l) k a b h = a_lens 100 l a b h.1

-- a definition mentions the names of its term
pub definition_names : (d : NotedDefinition) (ts rest : List PlacedToken) → IsDefinition d ts rest → map unplaced d.mentions ≡ def_names d.def
definition_names d ts rest h = (over h.equals (ended (statement d.def h.word h.b h.c h.stands) h.ends)).told

-- and so does the main lens
pub main_names : (n : NotedProgram) (ts : List PlacedToken) → IsProgram n ts → map unplaced n.mentions ≡ lens_names n.main
main_names n ts h = (over h.main (ended (a_lens 100 n.main h.b h.c h.lens) h.ends)).told
