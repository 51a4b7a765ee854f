-- The definitions at work on small programs.
use Rattle.std.proofs.Common.{◌≡◌, [], ◌∷◌, refl}
use Rattle.std.specs.Prelude.{codes}
use Rattle.std.specs.Fmt.{digits}
use lib.IntN.{pos, negsuc}
use Rattle.program_tokens.specs.Words.{is_name, is_word, begins_word, in_word, keyword_of}
use Rattle.program_terms.specs.Terms.{unit, bool, int, text, enum_of, record_of, list, named, no_fields, more_fields, id_of, bij_of, disc_of, then_of, rec_lens, alt_lens, each_of, part_of, inv_of, named_lens, no_rows, both, only_left, no_arms, more_arms, type_def, lens_def}
use Rattle.doc_values.specs.Types.{ty_int, ty_rec, ty_list}
use Rattle.doc_values.specs.Types as of_documents
use Rattle.program_writing.specs.Canonical.{canonical, canonical_type, canonical_name, put_initial_number, put_type, put_lens}

-- a name stands as it is; a keyword, and what is no word, as a string
plain_name : canonical_name (codes "age") ≡ codes "age"
unfolding is_name is_word begins_word in_word keyword_of
plain_name = refl

keyword_name : canonical_name (codes "list") ≡ codes "\"list\""
unfolding is_name is_word begins_word in_word keyword_of
keyword_name = refl

no_word_name : canonical_name (codes "a b") ≡ codes "\"a b\""
unfolding is_name is_word begins_word in_word
no_word_name = refl

-- members are strings
an_enum : put_type (enum_of (codes "on" ∷ codes "off" ∷ []) (codes "on")) [] ≡ codes "enum[\"on\", \"off\"]"
an_enum = refl

-- an initial value is written where it differs from the one that is meant when it is left out
declared_number : put_type (int (negsuc 4)) [] ≡ codes "int = -5"
unfolding put_initial_number digits
declared_number = refl

declared_text : put_type (text (codes "x")) [] ≡ codes "text = \"x\""
declared_text = refl

declared_member : put_type (enum_of (codes "on" ∷ codes "off" ∷ []) (codes "off")) [] ≡ codes "enum[\"on\", \"off\"] = \"off\""
declared_member = refl

declared_left : put_lens (bij_of ((codes "on", codes "yes") ∷ (codes "off", codes "no") ∷ []) (codes "off")) [] ≡ codes "bij[\"on\"=\"yes\", \"off\"=\"no\"] = \"off\""
declared_left = refl

a_record : put_type (record_of (more_fields (codes "a") (int (pos 0)) (more_fields (codes "b") (list (text [])) no_fields))) [] ≡ codes "{a: int, b: list text}"
unfolding is_name is_word begins_word in_word keyword_of put_initial_number
a_record = refl

no_record : put_type (record_of no_fields) [] ≡ codes "{}"
no_record = refl

parted : put_lens (part_of (more_fields (codes "p") (text []) (more_fields (codes "o") (int (pos 0)) no_fields))) [] ≡ codes "part <p: text, o: int>"
unfolding is_name is_word begins_word in_word keyword_of put_initial_number
parted = refl

rows : put_lens (rec_lens (both (codes "a") (codes "b") (id_of (int (pos 0))) (only_left (codes "f") unit no_rows))) [] ≡ codes "{a ~ b: id int, left f: unit}"
unfolding is_name is_word begins_word in_word keyword_of put_initial_number
rows = refl

bijection : put_lens (bij_of ((codes "on", codes "yes") ∷ (codes "off", codes "no") ∷ []) (codes "on")) [] ≡ codes "bij[\"on\"=\"yes\", \"off\"=\"no\"]"
bijection = refl

composed : put_lens (then_of (inv_of (named_lens (codes "l"))) (disc_of (int (pos 0)) (named (codes "t")))) [] ≡ codes "then(inv l, disc int t)"
unfolding is_name is_word begins_word in_word keyword_of put_initial_number
composed = refl

arms : put_lens (alt_lens (more_arms (codes "p") (codes "q") (each_of (id_of bool)) no_arms)) [] ≡ codes "<p ~ q: each id bool>"
unfolding is_name is_word begins_word in_word keyword_of
arms = refl

-- each definition ends its line, and the main lens does not
program : canonical (record { definitions = (codes "t", type_def (list (int (pos 0)))) ∷ (codes "l", lens_def (id_of (named (codes "t")))) ∷ []; main = named_lens (codes "l") })
    ≡ codes "type t = list int;\nlens l = id t;\nmain l"
unfolding is_name is_word begins_word in_word keyword_of put_initial_number
program = refl

of_a_document : canonical_type (ty_rec (of_documents.more_fields (codes "id") (ty_list (ty_int (pos 0))) of_documents.no_fields)) ≡ codes "{\"id\": list int}"
unfolding is_name is_word begins_word in_word keyword_of put_initial_number
of_a_document = refl
