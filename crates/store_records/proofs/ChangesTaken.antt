-- Changes of payloads that are read from tokens: what each part gives the whole.
use Rattle.std.proofs.Common.{◌≡◌, ℕ, ◌<◌, Bool, true, false, cond, List, ◌∷◌, Option, Some, None, option_map, option_and_then, Result, Ok, Err, codes, refl, sym, ap, subst, ◌∙◌, arith, bytes_eq}
use Rattle.std.specs.Option.{option_or}
use Rattle.std.specs.Result.{result_ok}
use Rattle.json.specs.Token.{Token, begin_object}
use Rattle.json.specs.Json.{read_key}
use Rattle.serde_json.specs.Data.{Data, null, boolean, number, string, array, object, no_members, member}
use Rattle.texts.specs.declared.side.Side.{Side}
use Rattle.texts.proofs.Tests.{bytes_eq-is}
use Rattle.edit_module.specs.Words.{WordTree}
use Rattle.edit_module.specs.Changes.{ChangeTree, one, group}
use Rattle.edit_journal.specs.EntryJson.{LineFault, array_items, entry_of_tree, as_change, change_of_parts, change_of_tree}
use Rattle.json_tokens.specs.TreesAt.{read_at}
use Rattle.json_tokens.proofs.ReadParts.{read_as, one_member_read}
use Rattle.edit_tokens.specs.Changes as journal
use Rattle.edit_tokens.proofs.ReadingChanges.{one_read}
use Rattle.store_records.specs.RecordJson.{RecordTree, change_record, snapshot_record, single_entry, any_change, change_in, version_in, snapshot_in, record_of}

ok_is : (r : Result ChangeTree LineFault) (change : ChangeTree) → result_ok r ≡ Some change → r ≡ Ok change
ok_is (Ok other) change h = let same : other ≡ change = cc in ap Ok same
ok_is (Err fault) change h = cc

not_single : (r : Result (Side × WordTree) LineFault) (es : List (Side × WordTree)) → as_change one r ≡ Ok (group es) → ⊥
not_single (Ok e) es h = cc
not_single (Err fault) es h = cc

-- a tree that is a group in a journal is one in a store
group_is : (d : Data) (es : List (Side × WordTree)) → change_of_tree d ≡ Ok (group es) → change_in d ≡ Some (group es)
group_is null es h = absurd (not_single (entry_of_tree null) es h)
group_is (boolean b) es h = absurd (not_single (entry_of_tree (boolean b)) es h)
group_is (number n) es h = absurd (not_single (entry_of_tree (number n)) es h)
group_is (string s) es h = absurd (not_single (entry_of_tree (string s)) es h)
group_is (array ds) es h = absurd (not_single (entry_of_tree (array ds)) es h)
group_is (object no_members) es h = absurd (not_single (entry_of_tree (object no_members)) es h)
group_is (object (member k x no_members)) es h = by_name (bytes_eq k (codes "group")) refl
  where
    by_name : (b : Bool) → bytes_eq k (codes "group") ≡ b → change_in (object (member k x no_members)) ≡ Some (group es)
    by_name true e =
        subst (λ (n : List ℕ). change_of_tree (object (member n x no_members)) ≡ Ok (group es) → change_in (object (member n x no_members)) ≡ Some (group es))
        (sym (bytes_eq-is k (codes "group") e)) (λ g. ap any_change g) h
    by_name false e =
        absurd (not_single (entry_of_tree (object (member k x no_members))) es
        (ap (λ b. change_of_parts (cond b (array_items x) None) (object (member k x no_members))) (sym e) ∙ h))
group_is (object (member k x (member l y ms))) es h = absurd (not_single (entry_of_tree (object (member k x (member l y ms)))) es h)

pub group_taken : (ts r : List Token) (es : List (Side × WordTree)) → read_at journal.change_in 127 ts ≡ Some (group es, r) → read_at change_in 127 ts ≡ Some (group es, r)
group_taken ts r es h = read_as journal.change_in change_in 127 ts r (group es) (group es) h (λ d k. group_is d es (ok_is (change_of_tree d) (group es) k))

pub single_taken : (t0 t1 t2 t3 : List Token) (e : Side × WordTree) → read_key t0 ≡ Some (Some (codes "entry"), t1) → read_at journal.entry_in 126 t1 ≡ Some (e, t2) → read_key t2 ≡ Some (None, t3)
    → read_at change_in 127 (begin_object ∷ t0) ≡ Some (one e, t3)
single_taken t0 t1 t2 t3 e key is end =
    one_member_read journal.change_in change_in 127 (codes "entry") t0 t1 t2 t3 (one e) (one e) (omega arith) key (one_read 126 t1 t2 e is) end
    (λ d h. ap single_entry (ok_is (change_of_tree d) (one e) h))

-- ---- the record of a payload

abbrev with_change : Data → Option ChangeTree → Option RecordTree
with_change d change = option_or (option_map change_record change) (option_or (version_in d) (option_map snapshot_record (snapshot_in d)))

-- a tree with this change is the record of the change
pub change_is_record : (o : Option Data) (change : ChangeTree) → option_and_then change_in o ≡ Some change → option_and_then record_of o ≡ Some (change_record change)
change_is_record None change h = cc
change_is_record (Some d) change h = ap (with_change d) h
