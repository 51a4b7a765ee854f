-- What is converted behind a parser: where it comes from, and how arrays and objects are.
use Rattle.std.proofs.Common.{◌≡◌, ℕ, List, Option, Some, None, option_map, option_and_then, refl, ap, ◌∙◌}
use Rattle.json.specs.Token.{Token}
use Rattle.json.specs.Json as json
use Rattle.json.specs.Json.{parse_map}
use Rattle.serde_json.specs.Data.{Data, array, object, item, Members, no_members, put}
use Rattle.serde_json.specs.Read.{of_json, of_items, of_members, converted}

abbrev pub with_rest : {B : Type 0} → List Token → Option B → Option (B × List Token)
with_rest r o = option_map (λ b. (b, r)) o

abbrev first_of : {B : Type 0} → B → Option (B × List Token) → B
first_of x None = x
first_of x (Some p) = p.0

abbrev rest_of : {B : Type 0} → List Token → Option (B × List Token) → List Token
rest_of r None = r
rest_of r (Some p) = p.1

found_in : {A B : Type 0} (f : A → Option B) (a : A) (r ts : List Token) (b : B) (o : Option B) → f a ≡ o → with_rest r o ≡ Some (b, ts)
    → (c : A) × (with_rest r (Some a) ≡ Some (c, ts)) × (f c ≡ Some b)
found_in f a r ts b None e h = cc
found_in f a r ts b (Some x) e h =
    let rest : r ≡ ts = ap (rest_of r) h in
    let same : x ≡ b = ap (first_of x) h in
    (a, ap (λ t. with_rest t (Some a)) rest, e ∙ ap Some same)

-- what was converted, and into what
pub found : {A B : Type 0} (f : A → Option B) (o : Option (A × List Token)) (b : B) (ts : List Token) → converted f o ≡ Some (b, ts)
    → (a : A) × (o ≡ Some (a, ts)) × (f a ≡ Some b)
found f None b ts e = cc
found f (Some (a, r)) b ts e = found_in f a r ts b (f a) refl e

pub mapped : {B C : Type 0} (g : B → C) (r : List Token) (o : Option B) → with_rest r (option_map g o) ≡ parse_map g (with_rest r o)
mapped g r None = refl
mapped g r (Some b) = refl

pub converted_array : (read : Option (json.Items × List Token)) → converted of_json (parse_map json.array read) ≡ parse_map array (converted of_items read)
converted_array None = refl
converted_array (Some (js, r)) = mapped array r (of_items js)

pub converted_object : (read : Option (json.Members × List Token))
    → converted of_json (parse_map json.object read) ≡ parse_map object (converted (λ ms. of_members ms no_members) read)
converted_object None = refl
converted_object (Some (ms, r)) = mapped object r (of_members ms no_members)

pub converted_item : (j : json.Json) (d : Data) (read : Option (json.Items × List Token)) → of_json j ≡ Some d
    → converted of_items (parse_map (json.item j) read) ≡ parse_map (item d) (converted of_items read)
converted_item j d None e = refl
converted_item j d (Some (js, r)) e = ap (λ o. with_rest r (option_and_then (λ x. option_map (item x) (of_items js)) o)) e ∙ mapped (item d) r (of_items js)

pub converted_member : (k : List ℕ) (j : json.Json) (d : Data) (before : Members) (read : Option (json.Members × List Token)) → of_json j ≡ Some d
    → converted (λ ms. of_members ms before) (parse_map (json.member k j) read) ≡ converted (λ ms. of_members ms (put k d before)) read
converted_member k j d before None e = refl
converted_member k j d before (Some (ms, r)) e = ap (λ o. with_rest r (option_and_then (λ x. of_members ms (put k x before)) o)) e
