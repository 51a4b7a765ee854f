-- The definitions on small cases.
use Rattle.std.proofs.Common.{◌≡◌, pos, negsuc, true, false, [], ◌∷◌, ◌++◌, Some, None, Ok, Err, codes, refl}
use Rattle.std.specs.Str.{is_utf8, chars}
use lib.Utf8.{encode}
use Rattle.serde_json.specs.Data.{null, string, array, object, no_items, item, no_members, member}
use Rattle.serde_json.proofs.OnLiterals.{serde_json_on_literals}
use Rattle.value_json.specs.Numbers.{count_tree, int_tree}
use Rattle.edit_module.specs.Words.{add, no_primitives, more_primitives}
use Rattle.edit_module.specs.Changes.{one, group}
use Rattle.texts.specs.declared.side.Side.TheVariants.{Left, Right}
use Rattle.edit_json.specs.WordJson.{primitive_of}
use Rattle.edit_journal.specs.Lines.{line_of, is_blank}
use Rattle.edit_journal.specs.Pieces.{nothing_fed, continued, fed, take_first, last_line, lines_of}
use Rattle.edit_journal.specs.EntryJson.{line_too_long, not_json, not_an_entry, not_an_edit, tree_of_entry, parts_of, entry_of_tree, tree_of_text, change_of_tree, change_of_line}
use Rattle.edit_journal.specs.declared.line.Line.TheVariants.{Text, TooLong}

-- ---- lines

short : line_of (codes "ab") ≡ Text (codes "ab")
short = refl

-- a space, a tab and a CR; and a vertical tab, which is none of these
blank : is_blank (Text (32 ∷ 9 ∷ 13 ∷ [])) ≡ true
blank = refl

not_blank : is_blank (Text (32 ∷ 11 ∷ [])) ≡ false
not_blank = refl

-- ---- pieces

-- the pieces `a` and `b LF c`: a line that is ended, and a line that is begun
two_pieces : fed (fed nothing_fed (codes "a")) (codes "b" ++ 10 ∷ codes "c") ≡ record { ended = Text (codes "ab") ∷ []; begun = Text (codes "c") }
two_pieces = refl

-- the first line is taken, without its LF
first_taken : take_first (fed nothing_fed (codes "a" ++ 10 ∷ 10 ∷ [])) ≡ (Some (Text (codes "a")), record { ended = Text [] ∷ []; begun = Text [] })
first_taken = refl

none_to_take : take_first (fed nothing_fed (codes "a")) ≡ (None, record { ended = []; begun = Text (codes "a") })
none_to_take = refl

-- nothing follows the last LF, so there is no last line
no_last_line : last_line (fed nothing_fed (codes "a" ++ 10 ∷ [])).begun ≡ None
no_last_line = refl

stays_too_long : continued TooLong 97 ≡ TooLong
stays_too_long = refl

three_lines : lines_of (codes "a" ++ 10 ∷ 10 ∷ codes "b") ≡ Text (codes "a") ∷ Text [] ∷ Text (codes "b") ∷ []
three_lines = refl

-- ---- trees

-- {"edit":[{"add":-1}],"side":"right"}
written : tree_of_entry (Right, more_primitives (add (negsuc 0)) no_primitives)
    ≡ object (member (codes "edit") (array (item (object (member (codes "add") (int_tree (negsuc 0)) no_members)) no_items)) (member (codes "side") (string (codes "right")) no_members))
written = refl

read_back : entry_of_tree (tree_of_entry (Right, more_primitives (add (negsuc 0)) no_primitives)) ≡ Ok (Right, more_primitives (add (negsuc 0)) no_primitives)
unfolding primitive_of
read_back = refl

-- what the edit is does not count for the form of an entry: {"edit":null,"side":"left"}
any_edit : parts_of (object (member (codes "edit") null (member (codes "side") (string (codes "left")) no_members))) ≡ Some (Left, null)
any_edit = refl

-- {"edit":[],"note":null,"side":"left"}
extra_member : parts_of (object (member (codes "edit") (array no_items) (member (codes "note") null (member (codes "side") (string (codes "left")) no_members)))) ≡ None
extra_member = refl

-- {"edit":[],"side":1}
number_for_a_side : parts_of (object (member (codes "edit") (array no_items) (member (codes "side") (count_tree 1) no_members))) ≡ None
number_for_a_side = refl

-- ---- lines as changes, and the four refusals

entry : change_of_line (line_of (codes "{\"side\":\"left\",\"edit\":[{\"add\":7}]}")) ≡ Ok (one (Left, more_primitives (add (pos 7)) no_primitives))
unfolding primitive_of is_utf8 chars encode serde_json_on_literals
entry = refl

two_entries : change_of_line (line_of (codes "{\"group\":[{\"side\":\"right\",\"edit\":[]},{\"side\":\"left\",\"edit\":[{\"add\":7}]}]}"))
    ≡ Ok (group ((Right, no_primitives) ∷ (Left, more_primitives (add (pos 7)) no_primitives) ∷ []))
unfolding primitive_of is_utf8 chars encode serde_json_on_literals
two_entries = refl

no_entries : change_of_line (line_of (codes "{\"group\":[]}")) ≡ Ok (group [])
unfolding is_utf8 chars encode serde_json_on_literals
no_entries = refl

too_long : change_of_line TooLong ≡ Err line_too_long
too_long = refl

not_json_text : change_of_line (line_of (codes "{")) ≡ Err not_json
unfolding is_utf8 chars encode serde_json_on_literals
not_json_text = refl

-- a byte that is no text
not_utf8 : tree_of_text (34 ∷ 255 ∷ 34 ∷ []) ≡ None
unfolding is_utf8 chars encode
not_utf8 = refl

other_side : change_of_line (line_of (codes "{\"side\":\"up\",\"edit\":0}")) ≡ Err not_an_entry
unfolding is_utf8 chars encode serde_json_on_literals
other_side = refl

-- a group is no entry of a group, and has one member alone
group_in_a_group : change_of_line (line_of (codes "{\"group\":[{\"group\":[]}]}")) ≡ Err not_an_entry
unfolding is_utf8 chars encode serde_json_on_literals
group_in_a_group = refl

group_with_more : change_of_tree (object (member (codes "group") (array no_items) (member (codes "note") null no_members))) ≡ Err not_an_entry
group_with_more = refl

no_array : change_of_tree (object (member (codes "group") null no_members)) ≡ Err not_an_entry
no_array = refl

-- the form of each entry is tested before any edit
form_first : change_of_line (line_of (codes "{\"group\":[{\"side\":\"left\",\"edit\":0},null]}")) ≡ Err not_an_entry
unfolding is_utf8 chars encode serde_json_on_literals
form_first = refl

second_edit : change_of_line (line_of (codes "{\"group\":[{\"side\":\"left\",\"edit\":[]},{\"side\":\"left\",\"edit\":0}]}")) ≡ Err not_an_edit
unfolding primitive_of is_utf8 chars encode serde_json_on_literals
second_edit = refl

other_count : change_of_line (line_of (codes "{\"side\":\"left\",\"edit\":[{\"ins\":0}]}")) ≡ Err not_an_edit
unfolding primitive_of is_utf8 chars encode serde_json_on_literals
other_count = refl
