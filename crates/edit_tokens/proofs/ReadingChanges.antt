-- Entries and groups that are read from tokens: what each part gives the whole, up to the change of a text.
use Rattle.std.proofs.Common.{◌≡◌, ℕ, ◌-◌, ◌<◌, true, List, [], ◌∷◌, ◌++◌, Option, Some, None, option_map, option_and_then, Result, Ok, Err, is_some, cond, codes, refl, sym, ap, ◌∙◌, arith, append-nil}
use Rattle.std.proofs.lemmas.List.{append_assoc}
use Rattle.std.specs.Result.{result_ok}
use Rattle.std.specs.Str.{IsUtf8}
use Rattle.json.specs.Token.{Token}
use Rattle.json.specs.Lex.{tokens}
use Rattle.json.specs.Json as json
use Rattle.json.specs.Json.{after_end_array, read_key, parse_map}
use Rattle.serde_json.specs.Data.{Data, null, boolean, number, string, array, object, Items, no_items, item, no_members, member}
use Rattle.serde_json.specs.Read.{of_json, read}
use Rattle.texts.specs.declared.side.Side.{Side}
use Rattle.edit_module.specs.Words.{WordTree}
use Rattle.edit_module.specs.Changes.{ChangeTree, one, group}
use Rattle.edit_json.specs.WordJson.{word_of_tree}
use Rattle.edit_journal.specs.EntryJson.{parts_of, entry_with, entry_of_parts, entry_of_tree, are_entries, in_front, entries_of_items, as_change, LineFault}
use Rattle.edit_journal.specs.EntryJson.{change_of_tree, change_of_text, change_if_json, not_an_entry}
use Rattle.edit_journal.proofs.Texts.{text_read}
use Rattle.json_tokens.specs.TreesAt.{tree_at, read_at, read_items_at}
use Rattle.json_tokens.proofs.Conversions.{found}
use Rattle.json_tokens.proofs.ReadParts.{more_read, end_read, read_as, array_read, one_member_read, two_members_read}
use Rattle.edit_tokens.specs.Changes.{side_in, entry_in, entries_in, change_in}

-- ---- an entry, with its members in either order

both_members : (e s : Data) (w : WordTree) (side : Side) → word_of_tree e ≡ Some w → side_in s ≡ Some side
    → entry_in (object (member (codes "edit") e (member (codes "side") s no_members))) ≡ Some (side, w)
both_members e null w side p q = cc
both_members e (boolean b) w side p q = cc
both_members e (number n) w side p q = cc
both_members e (string t) w side p q =
    ap (λ o. result_ok (entry_of_parts (option_map (λ x. (x, e)) o))) q ∙ ap (λ o. result_ok (entry_with side o)) p
both_members e (array ds) w side p q = cc
both_members e (object ms) w side p q = cc

pub edit_first : (depth : ℕ) (t0 t1 t2 t3 t4 t5 : List Token) (w : WordTree) (side : Side) → 0 < depth → read_key t0 ≡ Some (Some (codes "edit"), t1)
    → read_at word_of_tree (depth - 1) t1 ≡ Some (w, t2) → read_key t2 ≡ Some (Some (codes "side"), t3) → read_at side_in (depth - 1) t3 ≡ Some (side, t4)
    → read_key t4 ≡ Some (None, t5) → read_at entry_in depth (Token.begin_object ∷ t0) ≡ Some ((side, w), t5)
edit_first depth t0 t1 t2 t3 t4 t5 w side some key first other second end =
    two_members_read word_of_tree side_in entry_in depth (codes "edit") (codes "side") t0 t1 t2 t3 t4 t5 w side (side, w) some key first other second end (λ e s p q. both_members e s w side p q)

pub side_first : (depth : ℕ) (t0 t1 t2 t3 t4 t5 : List Token) (w : WordTree) (side : Side) → 0 < depth → read_key t0 ≡ Some (Some (codes "side"), t1)
    → read_at side_in (depth - 1) t1 ≡ Some (side, t2) → read_key t2 ≡ Some (Some (codes "edit"), t3) → read_at word_of_tree (depth - 1) t3 ≡ Some (w, t4)
    → read_key t4 ≡ Some (None, t5) → read_at entry_in depth (Token.begin_object ∷ t0) ≡ Some ((side, w), t5)
side_first depth t0 t1 t2 t3 t4 t5 w side some key first other second end =
    two_members_read side_in word_of_tree entry_in depth (codes "side") (codes "edit") t0 t1 t2 t3 t4 t5 side w (side, w) some key first other second end (λ s e q p. both_members e s w side p q)

-- ---- entries one after another

in_front_ok : (a : Result (Side × WordTree) LineFault) (b : Result (List (Side × WordTree)) LineFault)
    → result_ok (in_front a b) ≡ option_and_then (λ x. option_map (λ xs. x ∷ xs) (result_ok b)) (result_ok a)
in_front_ok (Ok e) (Ok es) = refl
in_front_ok (Ok e) (Err fault) = refl
in_front_ok (Err fault) others = refl

entries_step : (d : Data) (ds : Items) → entries_in (item d ds) ≡ option_and_then (λ x. option_map (λ xs. x ∷ xs) (entries_in ds)) (entry_in d)
entries_step d ds = in_front_ok (entry_of_tree d) (entries_of_items ds)

abbrev pub onto_entries : List (Side × WordTree) → Option (List (Side × WordTree) × List Token) → Option (List (Side × WordTree) × List Token)
onto_entries es o = parse_map (λ fs. es ++ fs) o

onto_one_more : (es : List (Side × WordTree)) (e : Side × WordTree) (o : Option (List (Side × WordTree) × List Token)) → onto_entries es (parse_map (λ fs. e ∷ fs) o) ≡ onto_entries (es ++ e ∷ []) o
onto_one_more es e None = refl
onto_one_more es e (Some p) = ap (λ fs. Some (fs, p.1)) (sym (append_assoc es (e ∷ []) p.0))

pub next_entry : (depth : ℕ) (es : List (Side × WordTree)) (e : Side × WordTree) (ts r : List Token) → read_at entry_in depth ts ≡ Some (e, r)
    → onto_entries es (read_items_at entries_in depth ts) ≡ onto_entries (es ++ e ∷ []) (read_items_at entries_in depth r)
next_entry depth es e ts r h =
    ap (onto_entries es) (more_read entry_in entries_in (λ x xs. x ∷ xs) entries_step depth ts r e h) ∙ onto_one_more es e (read_items_at entries_in depth r)

pub entries_end : (depth : ℕ) (es : List (Side × WordTree)) (ts r : List Token) → after_end_array ts ≡ Some r → onto_entries es (read_items_at entries_in depth ts) ≡ Some (es, r)
entries_end depth es ts r h = ap (onto_entries es) (end_read entries_in depth ts r [] refl h) ∙ ap (λ fs. Some (fs, r)) (append-nil es)

-- ---- a group, and a single entry

has_parts : (d : Data) (o : Option (Side × Data)) → parts_of d ≡ o → (x : Side × WordTree) → entry_in d ≡ Some x → is_some (parts_of d) ≡ true
has_parts d None e x h = let never = ap (λ p. result_ok (entry_of_parts p)) (sym e) ∙ h in cc
has_parts d (Some p) e x h = ap is_some e

entries_have_parts : (ds : Items) (es : List (Side × WordTree)) → entries_in ds ≡ Some es → are_entries ds ≡ true
entries_have_parts no_items es h = refl
entries_have_parts (item d ds) es h = by_first (λ fs k. entries_have_parts ds fs k) (entry_in d) refl (entries_in ds) refl (sym (entries_step d ds) ∙ h)
  where
    by_first : ((fs : List (Side × WordTree)) → entries_in ds ≡ Some fs → are_entries ds ≡ true) → (o : Option (Side × WordTree)) → entry_in d ≡ o
        → (q : Option (List (Side × WordTree))) → entries_in ds ≡ q → option_and_then (λ x. option_map (λ xs. x ∷ xs) (entries_in ds)) (entry_in d) ≡ Some es → are_entries (item d ds) ≡ true
    by_first again None e q f k = let never = ap (option_and_then (λ x. option_map (λ xs. x ∷ xs) (entries_in ds))) (sym e) ∙ k in cc
    by_first again (Some x) e None f k =
        let never = ap (option_map (λ xs. x ∷ xs)) (sym f) ∙ (ap (option_and_then (λ y. option_map (λ xs. y ∷ xs) (entries_in ds))) (sym e) ∙ k) in cc
    by_first again (Some x) e (Some fs) f k = rw (has_parts d (parts_of d) refl x e, again fs f)

pub group_read : (t0 t1 t2 t3 : List Token) (es : List (Side × WordTree)) → read_key t0 ≡ Some (Some (codes "group"), Token.begin_array ∷ t1) → read_items_at entries_in 125 t1 ≡ Some (es, t2)
    → read_key t2 ≡ Some (None, t3) → read_at change_in 127 (Token.begin_object ∷ t0) ≡ Some (group es, t3)
group_read t0 t1 t2 t3 es key e end =
    one_member_read inner change_in 127 (codes "group") t0 (Token.begin_array ∷ t1) t2 t3 es (group es) (omega arith) key
    (array_read entries_in inner 126 t1 t2 es es (omega arith) e (λ ds h. h)) end outer
  where
    inner : Data → Option (List (Side × WordTree))
    inner (array ds) = entries_in ds
    inner _ = None

    of_group : (r : Result (List (Side × WordTree)) LineFault) → result_ok r ≡ Some es → result_ok (as_change group r) ≡ Some (group es)
    of_group (Ok fs) h = let same : fs ≡ es = cc in ap (λ x. Some (group x)) same
    of_group (Err fault) h = cc

    outer : (d : Data) → inner d ≡ Some es → change_in (object (member (codes "group") d no_members)) ≡ Some (group es)
    outer (array ds) h = ap (λ b. result_ok (as_change group (cond b (entries_of_items ds) (Err not_an_entry)))) (entries_have_parts ds es h) ∙ of_group (entries_of_items ds) h
    outer null h = cc
    outer (boolean b) h = cc
    outer (number n) h = cc
    outer (string s) h = cc
    outer (object ms) h = cc

of_one : (r : Result (Side × WordTree) LineFault) (e : Side × WordTree) → result_ok r ≡ Some e → result_ok (as_change one r) ≡ Some (one e)
of_one (Ok f) e h = let same : f ≡ e = cc in ap (λ x. Some (one x)) same
of_one (Err fault) e h = cc

single : (d : Data) (e : Side × WordTree) → entry_in d ≡ Some e → change_in d ≡ Some (one e)
single null e h = cc
single (boolean b) e h = cc
single (number n) e h = cc
single (string s) e h = cc
single (array ds) e h = cc
single (object no_members) e h = cc
single (object (member k x no_members)) e h = cc
single (object (member k x (member l y ms))) e h = of_one (entry_of_tree (object (member k x (member l y ms)))) e h

pub one_read : (depth : ℕ) (ts r : List Token) (e : Side × WordTree) → read_at entry_in depth ts ≡ Some (e, r) → read_at change_in depth ts ≡ Some (one e, r)
one_read depth ts r e h = read_as entry_in change_in depth ts r e (one e) h (λ d k. single d e k)

-- ---- the change of a text

ok_of : (r : Result ChangeTree LineFault) (x : ChangeTree) → result_ok r ≡ Some x → r ≡ Ok x
ok_of (Ok y) x h = let same : y ≡ x = cc in ap Ok same
ok_of (Err fault) x h = cc

pub text_change : (text : List ℕ) (x : ChangeTree) → IsUtf8 text → read_at change_in 127 (tokens text) ≡ Some (x, []) → change_of_text text ≡ Ok x
text_change text x utf8 h =
    let p = found change_in (tree_at 127 (tokens text)) x [] h in
    let j = found of_json (json.value 127 (tokens text)) p.0 [] p.1 in
    let tree : read text ≡ Some p.0 = ap (λ o. option_and_then of_json (option_and_then (λ q. json.if_last q.0 q.1) o)) j.1 ∙ j.2 in
    ap change_if_json (text_read text p.0 (utf8, tree)) ∙ ok_of (change_of_tree p.0) x p.2
