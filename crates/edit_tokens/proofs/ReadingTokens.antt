-- Values and words that are read from tokens: what each part gives the whole.
use Rattle.std.proofs.Common.{◌≡◌, ℕ, ◌-◌, ◌<◌, Bool, List, ◌∷◌, Option, Some, None, option_map, option_and_then, refl, ap, IfSome}
use Rattle.json.specs.Token.{Token}
use Rattle.json.proofs.Grammar.{value_is}
use Rattle.serde_json.specs.Data.{Num, boolean, number, string}
use Rattle.serde_json.specs.Read.{of_json, number_of, converted}
use Rattle.hold_shapes.specs.declared.edit.Place.TheVariants.{Index, Key, Node}
use Rattle.edit_module.specs.declared.atom.Atom.{Atom}
use Rattle.edit_module.specs.declared.atom.Atom.TheVariants.{Truth, Number, Letters}
use Rattle.value_json.specs.Numbers.{int_in, count_in, counts_of}
use Rattle.json_tokens.specs.TreesAt.{read_at, read_items_at}
use Rattle.json_tokens.proofs.TreesAt.{text_at, number_at}
use Rattle.json_tokens.proofs.ReadParts.{read_of, array_read}
use Rattle.edit_json.specs.Values.{atom_of, numbers_of, data_place}

-- ---- atoms and places

pub truth_read : (depth : ℕ) (b : Bool) (ts : List Token) → read_at atom_of depth (Token.boolean b ∷ ts) ≡ Some (Truth b, ts)
truth_read depth b ts = read_of atom_of depth (Token.boolean b ∷ ts) (boolean b) ts (Truth b) (ap (converted of_json) (value_is depth (Token.boolean b ∷ ts))) refl

pub letters_read : (depth : ℕ) (s : List ℕ) (ts : List Token) → read_at atom_of depth (Token.string s ∷ ts) ≡ Some (Letters s, ts)
letters_read depth s ts = read_of atom_of depth (Token.string s ∷ ts) (string s) ts (Letters s) (text_at depth s ts) refl

number_read_as : (depth : ℕ) (s : List ℕ) (a : Atom) (ts : List Token) (o : Option Num) → number_of s ≡ o → option_map Number (option_and_then int_in o) ≡ Some a → read_at atom_of depth (Token.number s ∷ ts) ≡ Some (a, ts)
number_read_as depth s a ts None e h = cc
number_read_as depth s a ts (Some n) e h = read_of atom_of depth (Token.number s ∷ ts) (number n) ts a (number_at depth s n ts e) h

pub number_read : (depth : ℕ) (s : List ℕ) (a : Atom) (ts : List Token) → option_map Number (option_and_then int_in (number_of s)) ≡ Some a → read_at atom_of depth (Token.number s ∷ ts) ≡ Some (a, ts)
number_read depth s a ts h = number_read_as depth s a ts (number_of s) refl h

index_read_as : (depth : ℕ) (s : List ℕ) (i : ℕ) (ts : List Token) (o : Option Num) → number_of s ≡ o → option_and_then count_in o ≡ Some i → read_at data_place depth (Token.number s ∷ ts) ≡ Some (Index i, ts)
index_read_as depth s i ts None e h = cc
index_read_as depth s i ts (Some n) e h = read_of data_place depth (Token.number s ∷ ts) (number n) ts (Index i) (number_at depth s n ts e) (ap (option_map Index) h)

pub index_read : (depth : ℕ) (s : List ℕ) (i : ℕ) (ts : List Token) → option_and_then count_in (number_of s) ≡ Some i → read_at data_place depth (Token.number s ∷ ts) ≡ Some (Index i, ts)
index_read depth s i ts h = index_read_as depth s i ts (number_of s) refl h

pub key_read : (depth : ℕ) (s : List ℕ) (ts : List Token) → read_at data_place depth (Token.string s ∷ ts) ≡ Some (Key s, ts)
key_read depth s ts = read_of data_place depth (Token.string s ∷ ts) (string s) ts (Key s) (text_at depth s ts) refl

pub node_read : (depth : ℕ) (ts r : List Token) (ns : List ℕ) → 0 < depth → read_items_at counts_of (depth - 1) ts ≡ Some (ns, r) → read_at data_place depth (Token.begin_array ∷ ts) ≡ Some (Node ns, r)
node_read depth ts r ns some e = array_read counts_of data_place depth ts r ns (Node ns) some e (λ ds h. ap (option_map Node) h)

pub numbers_read : (depth : ℕ) (ts r : List Token) (ns : List ℕ) → 0 < depth → read_items_at counts_of (depth - 1) ts ≡ Some (ns, r) → read_at numbers_of depth (Token.begin_array ∷ ts) ≡ Some (ns, r)
numbers_read depth ts r ns some e = array_read counts_of numbers_of depth ts r ns ns some e (λ ds h. h)

pub if_some : {A : Type 0} {P Q : A → Type 0} (o : Option A) → ((a : A) → P a → Q a) → IfSome o P → IfSome o Q
if_some None f h = h
if_some (Some a) f h = f a h
