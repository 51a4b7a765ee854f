-- Objects with one member and with two, by the entries of a map.
use Rattle.std.proofs.Common.{◌≡◌, ◌≢◌, ℕ, ◌-◌, List, [], ◌∷◌, length, slice_get, Some, None, String, Global, string_bytes, ap, ap₂, refl, arith}
use Rattle.serde_json.specs.Data.{Data, array, object, Items, Members}
use Rattle.serde_json.specs.Find.{as_array, as_object}
use Rattle.serde_json.specs.View.{view, members_view}
use Rattle.serde_json.specs.declared.value.Value.{Value}
use Rattle.value_json.specs.Parts.{only_member, two_members}

pub not_one : (es : List (String Global × Value)) → length es ≢ 1 → only_member (object (members_view es)) ≡ None
not_one [] h = refl
not_one (a ∷ []) h = absurd (h refl)
not_one (a ∷ b ∷ es) h = refl

-- the one entry of a map is its first
pub one_entry : (es : List (String Global × Value)) (e : String Global × Value) → slice_get es 0 ≡ Some e → length es ≡ 1
    → Some (string_bytes e.0, view e.1) ≡ only_member (object (members_view es))
one_entry [] e first one = cc
one_entry (a ∷ []) e first one = ap (λ p. Some (string_bytes p.0, view p.1)) (let same : e ≡ a = cc in same)
one_entry (a ∷ b ∷ es) e first one = absurd (omega (arith, one))

pub not_two : (es : List (String Global × Value)) → length es ≢ 2 → two_members (object (members_view es)) ≡ None
not_two [] h = refl
not_two (a ∷ []) h = refl
not_two (a ∷ b ∷ []) h = absurd (h refl)
not_two (a ∷ b ∷ c ∷ es) h = refl

-- the two entries of a map are its first and its last
pub two_entries : (es : List (String Global × Value)) (e f : String Global × Value) → slice_get es 0 ≡ Some e → slice_get es 1 ≡ Some f → length es ≡ 2
    → Some ((string_bytes e.0, view e.1), (string_bytes f.0, view f.1)) ≡ two_members (object (members_view es))
two_entries [] e f first last two = cc
two_entries (a ∷ []) e f first last two = cc
two_entries (a ∷ b ∷ []) e f first last two =
    let same : e ≡ a = cc in
    let also : f ≡ b = cc in
    ap₂ (λ p q. Some ((string_bytes p.0, view p.1), (string_bytes q.0, view q.1))) same also
two_entries (a ∷ b ∷ c ∷ es) e f first last two = absurd (omega (arith, two))

pub at_last : (es : List (String Global × Value)) (n : ℕ) (f : String Global × Value) → slice_get es (n - 1) ≡ Some f → n ≡ 2 → slice_get es 1 ≡ Some f
at_last es n f last two = let e : n - 1 ≡ 1 = omega (arith, two) in rw (← e) last

pub is_object : (d : Data) (ms : Members) → Some ms ≡ as_object d → d ≡ object ms
is_object (object ms) ds h = cc
is_object d ds h = cc

pub is_array : (d : Data) (ds : Items) → Some ds ≡ as_array d → d ≡ array ds
is_array (array ds) es h = cc
is_array d es h = cc
