-- A text that spells one thing after another, wherever it stands.
use Rattle.std.proofs.Common.{◌≡◌, ◌<◌, ◌^◌, ℕ, Bool, true, false, cond, List, [], ◌∷◌, ◌++◌, refl, ◌∙◌, subst, inl, inr}
use Rattle.std.specs.Fmt.{signed_decimal}
use lib.IntN.{ℤ}
use lib.Signed.{mag}
use Rattle.program_tokens.specs.Numbers.{is_digit}
use Rattle.program_tokens.specs.Words.{in_word, is_name, is_text, keyword_text, mark_byte}
use Rattle.program_tokens.specs.Tokens.{tokens_from}
use Rattle.program_tokens.specs.declared.keyword.Keyword.{Keyword}
use Rattle.program_tokens.specs.declared.mark.Mark.{Mark}
use Rattle.program_tokens.specs.declared.token.Token.{Token}
use Rattle.program_tokens.specs.declared.token.Token.TheVariants as tokens
use Rattle.program_tokens.proofs.FirstToken.{Lexes, Stops, lex_keyword, lex_name, lex_string, lex_number, lex_mark, then_space, skip_space, stops_at_space}
use Rattle.program_grammar.specs.declared.mention.Sort.{Sort}
use Rattle.program_grammar.specs.declared.mention.Mention.{Mention}
use Rattle.program_grammar.specs.Mentions.{Point, mention}
use Rattle.program_grammar.specs.Spelling.{Is, IsMention, IsField}
use Rattle.program_writing.specs.Canonical.{put_string, put_name}

-- a point where a text begins
abbrev pub before : List Mention → ℕ → List ℕ → Point
before ms at text = (ms, tokens_from 0 at text)

-- from where a text begins to where the rest of it begins, stands this
pub record Spelt (R : Point → Point → Type 0) (whole rest : List ℕ) : Type 0 where
  pub from : (ms : List Mention) (at : ℕ) → (next : List Mention × ℕ) × R (before ms at whole) (before next.0 next.1 rest)

-- ---- one token

pub token : (t : Token) (whole rest : List ℕ) → Lexes t whole rest → Spelt (Is t) whole rest
token t whole rest h = record { from = λ ms at. let r = h at in ((ms, r.0), record { at = at; names = refl; parts = r.1 }) }

pub mark : (m : Mark) (rest : List ℕ) → Spelt (Is (tokens.Mark m)) (mark_byte m ∷ rest) rest
mark m rest = token (tokens.Mark m) (mark_byte m ∷ rest) rest (lex_mark m rest)

pub mark_space : (m : Mark) (rest : List ℕ) → Spelt (Is (tokens.Mark m)) (mark_byte m ∷ 32 ∷ rest) rest
mark_space m rest = token (tokens.Mark m) (mark_byte m ∷ 32 ∷ rest) rest (then_space (tokens.Mark m) (mark_byte m ∷ 32 ∷ rest) rest (lex_mark m (32 ∷ rest)))

pub word : (k : Keyword) (rest : List ℕ) → Stops in_word rest → Spelt (Is (tokens.Keyword k)) (keyword_text k ++ rest) rest
word k rest stops = token (tokens.Keyword k) (keyword_text k ++ rest) rest (lex_keyword k rest stops)

pub word_then : (k : Keyword) (rest : List ℕ) → Lexes (tokens.Keyword k) (keyword_text k ++ 32 ∷ rest) rest
word_then k rest = then_space (tokens.Keyword k) (keyword_text k ++ 32 ∷ rest) rest (lex_keyword k (32 ∷ rest) stops_at_space)

pub word_space : (k : Keyword) (rest : List ℕ) → Spelt (Is (tokens.Keyword k)) (keyword_text k ++ 32 ∷ rest) rest
word_space k rest = token (tokens.Keyword k) (keyword_text k ++ 32 ∷ rest) rest (word_then k rest)

pub string : (s rest : List ℕ) → is_text s ≡ true → Spelt (Is (tokens.Text s)) (put_string s rest) rest
string s rest h = token (tokens.Text s) (put_string s rest) rest (lex_string s rest h)

pub number : (z : ℤ) (rest : List ℕ) → mag z < 2 ^ 63 → Stops is_digit rest → Spelt (Is (tokens.Number z)) (signed_decimal z ++ rest) rest
number z rest h stops = token (tokens.Number z) (signed_decimal z ++ rest) rest (lex_number z rest h stops)

-- the text of a name
name_text_by : (b : Bool) (n rest : List ℕ) → b ≡ true → is_name n ≡ true → Stops in_word rest → Lexes (tokens.Name n) (cond b (n ++ rest) (put_string n rest)) rest
name_text_by true n rest e h stops = lex_name n rest h stops
name_text_by false n rest e h stops = absurd cc

pub name_text : (n rest : List ℕ) → is_name n ≡ true → Stops in_word rest → Lexes (tokens.Name n) (put_name n rest) rest
name_text n rest h stops = name_text_by (is_name n) n rest h h stops

pub mentioned : (sort : Sort) (n rest : List ℕ) → is_name n ≡ true → Stops in_word rest → Spelt (IsMention sort n) (put_name n rest) rest
mentioned sort n rest h stops = record { from = λ ms at. let r = name_text n rest h stops at in ((ms ++ mention sort n at ∷ [], r.0), record { at = at; names = refl; parts = r.1 }) }

field_by : (b : Bool) (f rest : List ℕ) → is_name f ≡ b → is_text f ≡ true → Stops in_word rest → Spelt (IsField f) (cond b (f ++ rest) (put_string f rest)) rest
field_by true f rest h k stops = record { from = λ ms at. let r = lex_name f rest h stops at in ((ms, r.0), inl record { at = at; names = refl; parts = r.1 }) }
field_by false f rest h k stops = record { from = λ ms at. let r = lex_string f rest k at in ((ms, r.0), inr record { at = at; names = refl; parts = r.1 }) }

pub field : (f rest : List ℕ) → is_text f ≡ true → Stops in_word rest → Spelt (IsField f) (put_name f rest) rest
field f rest h stops = field_by (is_name f) f rest refl h stops

-- ---- spaces

-- a space behind a thing
pub spaced : {R : Point → Point → Type 0} {whole rest : List ℕ} → Spelt R whole (32 ∷ rest) → Spelt R whole rest
spaced {R = R} {whole = whole} {rest = rest} h = record {
  from = λ ms at.
      let r = h.from ms at in
      let s = skip_space rest r.0.1 in
      ((r.0.0, s.0), subst (λ ts. R (before ms at whole) (r.0.0, ts)) s.1 r.1);
}

-- a mark with a space before it, and one behind it
pub space_mark_space : (m : Mark) (rest : List ℕ) → Spelt (Is (tokens.Mark m)) (32 ∷ mark_byte m ∷ 32 ∷ rest) rest
space_mark_space m rest = record {
  from = λ ms at.
      let s = skip_space (mark_byte m ∷ 32 ∷ rest) at in
      let r = (mark_space m rest).from ms s.0 in
      (r.0, record { at = r.1.at; names = r.1.names; parts = s.1 ∙ r.1.parts });
}

-- ---- one thing after another

pub nothing : {text : List ℕ} → Spelt (λ here there. here ≡ there) text text
nothing = record { from = λ ms at. ((ms, at), refl) }

pub two : {P Q : Point → Point → Type 0} {s t u : List ℕ} → Spelt P s t → Spelt Q t u → Spelt (λ here there. (a : Point) × P here a × Q a there) s u
two {t = t} p q = record { from = λ ms at. let x = p.from ms at in let y = q.from x.0.0 x.0.1 in (y.0, (before x.0.0 x.0.1 t, x.1, y.1)) }

pub three : {P Q R : Point → Point → Type 0} {s t u v : List ℕ} → Spelt P s t → Spelt Q t u → Spelt R u v → Spelt (λ here there. (a b : Point) × P here a × Q a b × R b there) s v
three {t = t} {u = u} p q r = record {
  from = λ ms at.
      let x = p.from ms at in
      let y = q.from x.0.0 x.0.1 in
      let z = r.from y.0.0 y.0.1 in
      (z.0, (before x.0.0 x.0.1 t, before y.0.0 y.0.1 u, x.1, y.1, z.1));
}

pub four : {P Q R S : Point → Point → Type 0} {s t u v w : List ℕ} → Spelt P s t → Spelt Q t u → Spelt R u v → Spelt S v w
    → Spelt (λ here there. (a b c : Point) × P here a × Q a b × R b c × S c there) s w
four {t = t} {u = u} {v = v} p q r s = record {
  from = λ ms at.
      let x = p.from ms at in
      let y = q.from x.0.0 x.0.1 in
      let z = r.from y.0.0 y.0.1 in
      let e = s.from z.0.0 z.0.1 in
      (e.0, (before x.0.0 x.0.1 t, before y.0.0 y.0.1 u, before z.0.0 z.0.1 v, x.1, y.1, z.1, e.1));
}

pub five : {P Q R S T : Point → Point → Type 0} {s t u v w x : List ℕ} → Spelt P s t → Spelt Q t u → Spelt R u v → Spelt S v w → Spelt T w x
    → Spelt (λ here there. (a b c d : Point) × P here a × Q a b × R b c × S c d × T d there) s x
five {t = t} {u = u} {v = v} {w = w} p q r s z = record {
  from = λ ms at.
      let a = p.from ms at in
      let b = q.from a.0.0 a.0.1 in
      let c = r.from b.0.0 b.0.1 in
      let d = s.from c.0.0 c.0.1 in
      let e = z.from d.0.0 d.0.1 in
      (e.0, (before a.0.0 a.0.1 t, before b.0.0 b.0.1 u, before c.0.0 c.0.1 v, before d.0.0 d.0.1 w, a.1, b.1, c.1, d.1, e.1));
}

pub six : {P Q R S T U : Point → Point → Type 0} {s t u v w x y : List ℕ} → Spelt P s t → Spelt Q t u → Spelt R u v → Spelt S v w → Spelt T w x → Spelt U x y
    → Spelt (λ here there. (a b c d e : Point) × P here a × Q a b × R b c × S c d × T d e × U e there) s y
six {t = t} {u = u} {v = v} {w = w} {x = x} p q r s z k = record {
  from = λ ms at.
      let a = p.from ms at in
      let b = q.from a.0.0 a.0.1 in
      let c = r.from b.0.0 b.0.1 in
      let d = s.from c.0.0 c.0.1 in
      let e = z.from d.0.0 d.0.1 in
      let f = k.from e.0.0 e.0.1 in
      (f.0, (before a.0.0 a.0.1 t, before b.0.0 b.0.1 u, before c.0.0 c.0.1 v, before d.0.0 d.0.1 w, before e.0.0 e.0.1 x, a.1, b.1, c.1, d.1, e.1, f.1));
}

pub seven : {P Q R S T U V : Point → Point → Type 0} {r s t u v w x y : List ℕ} → Spelt P r s → Spelt Q s t → Spelt R t u → Spelt S u v → Spelt T v w → Spelt U w x → Spelt V x y
    → Spelt (λ here there. (z a b c d e : Point) × P here z × Q z a × R a b × S b c × T c d × U d e × V e there) r y
seven {s = s} {t = t} {u = u} {v = v} {w = w} {x = x} p q k l m n o = record {
  from = λ ms at.
      let z = p.from ms at in
      let a = q.from z.0.0 z.0.1 in
      let b = k.from a.0.0 a.0.1 in
      let c = l.from b.0.0 b.0.1 in
      let d = m.from c.0.0 c.0.1 in
      let e = n.from d.0.0 d.0.1 in
      let f = o.from e.0.0 e.0.1 in
      (f.0, (before z.0.0 z.0.1 s, before a.0.0 a.0.1 t, before b.0.0 b.0.1 u, before c.0.0 c.0.1 v, before d.0.0 d.0.1 w, before e.0.0 e.0.1 x, z.1, a.1, b.1, c.1, d.1, e.1, f.1));
}
