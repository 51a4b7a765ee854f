-- The lines at work on small examples.
use Rattle.std.proofs.Common.{◌≡◌, pos, negsuc, [], ◌∷◌, codes, refl}
use Rattle.std.specs.Fmt.{digits}
use Rattle.serde_json.specs.Data.{null}
use Rattle.serde_json.proofs.OnLiterals.{serde_json_on_literals}
use Rattle.program_tokens.specs.Words.{is_name, is_word, begins_word, in_word, keyword_of}
use Rattle.doc_values.specs.Types.{ty_int, ty_text, ty_enum, ty_rec, ty_alt, no_fields, more_fields}
use Rattle.edit_module.specs.Words.{set, at, no_primitives, more_primitives}
use Rattle.edit_module.specs.declared.atom.Atom.TheVariants.{Number}
use Rattle.texts.specs.declared.side.Side.TheVariants.{Left, Right}
use Rattle.edit_module.specs.declared.fault.Cause.TheVariants.{Place, Kind}
use Rattle.edit_journal.specs.EntryJson.{not_an_edit}
use Rattle.lens_syntax.specs.Programs.{too_long, not_a_program, repeated_name}
use Rattle.lens_types.specs.Checking.{middle_differs, repeated_field, repeated_member, not_a_member, too_deep}
use Rattle.program_writing.specs.Canonical.{put_initial_number}
use Rattle.answer_text.specs.Lines.{ok_line, no_apply_line, group_line, group_refused_line, fault_line, syntax_line, typing_line, type_line, tree_line}

empty_word : ok_line 1 Right no_primitives ≡ codes "ok 1 right []\n"
unfolding digits serde_json_on_literals
empty_word = refl

one_set : ok_line 12 Left (more_primitives (at (codes "b") (more_primitives (set (Number (negsuc 0))) no_primitives)) no_primitives) ≡ codes "ok 12 left [{\"at\":[\"b\",[{\"set\":-1}]]}]\n"
unfolding digits serde_json_on_literals
one_set = refl

-- the number of the entry stands before that of the primitive
number_before_place : no_apply_line 3 0 Place ≡ codes "refused 3 no-apply 0 place\n"
unfolding digits
number_before_place = refl

-- each word of a group with the side to which it was carried
two_words : group_line 1 ((Right, more_primitives (set (Number (pos 5))) no_primitives) ∷ (Left, no_primitives) ∷ []) ≡ codes "ok 1 group [{\"edit\":[{\"set\":5}],\"side\":\"right\"},{\"edit\":[],\"side\":\"left\"}]\n"
unfolding digits serde_json_on_literals
two_words = refl

empty_group : group_line 1 [] ≡ codes "ok 1 group []\n"
unfolding digits serde_json_on_literals
empty_group = refl

-- the number of the group, that of the entry in it, and that of the primitive
numbers_in_order : group_refused_line 1 2 0 Kind ≡ codes "refused 1 group 2 no-apply 0 kind\n"
unfolding digits
numbers_in_order = refl

no_edit : fault_line 4 not_an_edit ≡ codes "refused 4 not-an-edit\n"
unfolding digits
no_edit = refl

program_too_long : syntax_line too_long ≡ codes "program refused: program-too-long\n"
program_too_long = refl

no_program : syntax_line (not_a_program 7) ≡ codes "program refused: not-a-program 7\n"
unfolding digits
no_program = refl

twice_defined : syntax_line (repeated_name 19) ≡ codes "program refused: repeated-name 19\n"
unfolding digits
twice_defined = refl

-- the order of tags counts
other_order : typing_line (middle_differs (ty_alt (more_fields (codes "p") (ty_text []) (more_fields (codes "o") (ty_int (pos 0)) no_fields))) (ty_alt (more_fields (codes "o") (ty_int (pos 0)) (more_fields (codes "p") (ty_text []) no_fields)))) ≡ codes "program refused: middle-differs <p: text, o: int> <o: int, p: text>\n"
unfolding is_name is_word begins_word in_word keyword_of put_initial_number
other_order = refl

-- initial values count, and those that are declared are shown
other_initial : typing_line (middle_differs (ty_int (pos 5)) (ty_int (pos 0))) ≡ codes "program refused: middle-differs int = 5 int\n"
unfolding put_initial_number digits
other_initial = refl

-- a keyword is written as a string, as a field is; a member that is a word is written as it is
keyword_twice : typing_line (repeated_field (codes "left")) ≡ codes "program refused: repeated-field \"left\"\n"
unfolding is_name is_word begins_word in_word keyword_of
keyword_twice = refl

member_twice : typing_line (repeated_member (codes "on")) ≡ codes "program refused: repeated-member on\n"
unfolding is_name is_word begins_word in_word keyword_of
member_twice = refl

-- an initial value that is not a member, likewise
no_member : typing_line (not_a_member (codes "b")) ≡ codes "program refused: not-a-member b\n"
unfolding is_name is_word begins_word in_word keyword_of
no_member = refl

spaced_no_member : typing_line (not_a_member (codes "a b")) ≡ codes "program refused: not-a-member \"a b\"\n"
unfolding is_name is_word begins_word in_word
spaced_no_member = refl

deep : typing_line too_deep ≡ codes "program refused: too-deep\n"
deep = refl

-- members of an enum are strings
types : type_line Right (ty_rec (more_fields (codes "age") (ty_enum (codes "old" ∷ []) (codes "old")) no_fields)) ≡ codes "right {age: enum[\"old\"]}\n"
unfolding is_name is_word begins_word in_word keyword_of
types = refl

-- declared initial values are shown
declared_values : type_line Left (ty_rec (more_fields (codes "n") (ty_int (negsuc 0)) (more_fields (codes "t") (ty_text (codes "x")) (more_fields (codes "u") (ty_enum (codes "a" ∷ codes "b" ∷ []) (codes "b")) no_fields)))) ≡ codes "left {n: int = -1, t: text = \"x\", u: enum[\"a\", \"b\"] = \"b\"}\n"
unfolding is_name is_word begins_word in_word keyword_of put_initial_number digits
declared_values = refl

null_tree : tree_line (codes "complement") null ≡ codes "complement null\n"
unfolding serde_json_on_literals
null_tree = refl
