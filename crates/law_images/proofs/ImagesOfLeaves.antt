-- Images through identity, disconnection and bijection.
use Rattle.std.proofs.Common.{◌≡◌, ◌⊎◌, inl, inr, ◌∙◌, ℕ, Bool, true, false, List, [], ◌∷◌, Option, None, Some, refl, ap, sym, subst}
use Rattle.std.specs.Prelude.{◌||◌, bytes_eq, cond, not, option_map}
use Rattle.texts.specs.declared.side.Side.{Side}
use Rattle.texts.specs.declared.side.Side.TheVariants.{Left, Right}
use Rattle.texts.specs.Sides.{other}
use Rattle.texts.specs.Keys.{has_name}
use Rattle.texts.proofs.Conjunction.{first}
use Rattle.doc_values.specs.Documents.{DocTree, unit, truth, int, text, pick, rec, alt, hold}
use Rattle.doc_values.specs.Types.{TyTree, ty_enum, are_distinct, is_well_formed}
use Rattle.doc_values.specs.Typing.{has}
use Rattle.doc_values.specs.Initial.{initial}
use Rattle.doc_values.proofs.InitialTypes.{has_initial}
use Rattle.doc_values.proofs.DistinctNames.{are_distinct-rest}
use Rattle.lens_forms.specs.Forms.{form_id, form_disc, form_bij, lefts, rights, partner_of}
use Rattle.lens_core.specs.Sides.{near, far, type_on}
use Rattle.lens_core.specs.Complements.{CompTree, IsNil}
use Rattle.lens_core.specs.Consistency.{IsPair, ArePartners}
use Rattle.lens_core.specs.Translation.{partner}
use Rattle.lens_core.specs.Laws.{IsRelated}
use Rattle.lens_core.proofs.LawsOfLeaves.{differs_back, members_on, IsPairOn, pair_here, pair_later, members_more, has_partner}
use Rattle.lens_core.proofs.NameTests.{not_that}
use Rattle.law_images.specs.Patterns.{PatternTree, hole, unit_pattern, truth_pattern, int_pattern, text_pattern, pick_pattern, rec_pattern, alt_pattern, hold_pattern, Matches}
use Rattle.law_images.specs.Image.{partner_pattern}
use Rattle.law_images.specs.ImageLaws.{IsImage, ImageLaw}
use Rattle.std.proofs.lemmas.Bool.{not-true}
use Rattle.texts.proofs.Tests.{or_second, bytes_eq-is}
use Rattle.texts.proofs.KeyOrder.{bytes_eq-refl}
use Rattle.lens_core.proofs.Arms.{same_first}

-- ---- identity

pub id_images : (t : TyTree) → ImageLaw (form_id t)
id_images t Left c p fit some = record {
  some_doc = some;
  into = λ v w m k. subst (Matches p) k.1 m;
  onto = λ w h m. (w, m, (record { left_has = h; comp_fits = fit; right_has = h }, refl));
}
id_images t Right c p fit some = record {
  some_doc = some;
  into = λ v w m k. subst (Matches p) (sym k.1) m;
  onto = λ w h m. (w, m, (record { left_has = h; comp_fits = fit; right_has = h }, refl));
}

-- ---- disconnection

pub disc_images : (t u : TyTree) → is_well_formed t ≡ true → is_well_formed u ≡ true → ImageLaw (form_disc t u)
disc_images t u wf wg Left c p fit some = record {
  some_doc = (initial u, has_initial u wg, tt);
  into = λ v w m k. tt;
  onto = λ w h m. (some.0, some.2, record { left_has = some.1; comp_fits = fit; right_has = h });
}
disc_images t u wf wg Right c p fit some = record {
  some_doc = (initial t, has_initial t wf, tt);
  into = λ v w m k. tt;
  onto = λ w h m. (some.0, some.2, record { left_has = h; comp_fits = fit; right_has = some.1 });
}

-- ---- bijection

-- the first pair, or a later one
pair_cases : (s : Side) (p : List ℕ × List ℕ) (ps : List (List ℕ × List ℕ)) (m n : List ℕ) → IsPairOn s (p ∷ ps) m n → ((m ≡ near s p.0 p.1) × (n ≡ far s p.0 p.1)) ⊎ IsPairOn s ps m n
pair_cases Left p ps m n h = h
pair_cases Right p ps m n (inl h) = inl (h.1, h.0)
pair_cases Right p ps m n (inr h) = inr h

turned : (s : Side) (ps : List (List ℕ × List ℕ)) (m n : List ℕ) → IsPairOn s ps m n → IsPairOn (other s) ps n m
turned Left ps m n h = h
turned Right ps m n h = h

turned_back : (s : Side) (ps : List (List ℕ × List ℕ)) (m n : List ℕ) → IsPairOn (other s) ps n m → IsPairOn s ps m n
turned_back Left ps m n h = h
turned_back Right ps m n h = h

pair_member : (s : Side) (ps : List (List ℕ × List ℕ)) (m n : List ℕ) → IsPairOn s ps m n → has_name m (members_on s ps) ≡ true
pair_member Left [] m n h = absurd h
pair_member Right [] m n h = absurd h
pair_member Left (p ∷ ps) m n (inl h) = same_first m p.0 (has_name m (lefts ps)) h.0
pair_member Left (p ∷ ps) m n (inr h) = or_second (bytes_eq m p.0) (has_name m (lefts ps)) (pair_member Left ps m n h)
pair_member Right (p ∷ ps) m n (inl h) = same_first m p.1 (has_name m (rights ps)) h.1
pair_member Right (p ∷ ps) m n (inr h) = or_second (bytes_eq m p.1) (has_name m (rights ps)) (pair_member Right ps m n h)

-- the partner of a member of a pair is the other one, where the members are distinct
pair_partner : (s : Side) (ps : List (List ℕ × List ℕ)) (m n : List ℕ) → are_distinct (members_on s ps) ≡ true → IsPairOn s ps m n → partner s ps m ≡ Some n
pair_partner Left [] m n apart h = absurd h
pair_partner Right [] m n apart h = absurd h
pair_partner s (p ∷ ps) m n apart h = go (pair_cases s p ps m n h) (λ k. pair_partner s ps m n (are_distinct-rest (near s p.0 p.1) (members_on s ps) first_apart) k)
  where
    first_apart : are_distinct (near s p.0 p.1 ∷ members_on s ps) ≡ true
    first_apart = subst (λ (ms : List (List ℕ)). are_distinct ms ≡ true) (members_more s p ps) apart

    go : ((m ≡ near s p.0 p.1) × (n ≡ far s p.0 p.1)) ⊎ IsPairOn s ps m n → (IsPairOn s ps m n → partner s ps m ≡ Some n) → partner s (p ∷ ps) m ≡ Some n
    go (inl k) again = rw (k.0, k.1, bytes_eq-refl (near s p.0 p.1)) refl
    go (inr k) again =
        let none = not-true (has_name (near s p.0 p.1) (members_on s ps)) (first (not (has_name (near s p.0 p.1) (members_on s ps))) (are_distinct (members_on s ps)) first_apart) in
        let off = differs_back m (near s p.0 p.1) (not_that m (near s p.0 p.1) (members_on s ps) none (pair_member s ps m n k)) in
        rw off (again k)

partner_pair : (s : Side) (ps : List (List ℕ × List ℕ)) (m n : List ℕ) → partner s ps m ≡ Some n → IsPairOn s ps m n
partner_pair s [] m n e = cc
partner_pair s (p ∷ ps) m n e = go (bytes_eq (near s p.0 p.1) m) refl e (λ k. partner_pair s ps m n k)
  where
    go : (b : Bool) → bytes_eq (near s p.0 p.1) m ≡ b → cond b (Some (far s p.0 p.1)) (partner s ps m) ≡ Some n → (partner s ps m ≡ Some n → IsPairOn s ps m n) → IsPairOn s (p ∷ ps) m n
    go true q e again = let same : far s p.0 p.1 ≡ n = cc in subst (λ z. IsPairOn s (p ∷ ps) m z) same (pair_here s p ps m (sym (bytes_eq-is (near s p.0 p.1) m q)))
    go false q e again = pair_later s p ps m n (again e)

-- a member of an enum
enum_member : (ms : List (List ℕ)) (z : List ℕ) (v : DocTree) → has (ty_enum ms z) v ≡ true → (n : List ℕ) × (v ≡ pick n) × (has_name n ms ≡ true)
enum_member ms z (pick n) h = (n, refl, h)
enum_member ms z unit h = cc
enum_member ms z (truth b) h = cc
enum_member ms z (int n) h = cc
enum_member ms z (text s) h = cc
enum_member ms z (rec ds) h = cc
enum_member ms z (alt n d) h = cc
enum_member ms z (hold s ds) h = cc

enum_on : (ps : List (List ℕ × List ℕ)) (i : List ℕ) (s : Side) (v : DocTree) → has (type_on s (form_bij ps i)) v ≡ true → (n : List ℕ) × (v ≡ pick n) × (has_name n (members_on s ps) ≡ true)
enum_on ps i Left v h = enum_member (lefts ps) i v h
enum_on ps i Right v h = enum_member (rights ps) (partner_of ps i) v h

member_has : (ps : List (List ℕ × List ℕ)) (i : List ℕ) (s : Side) (n : List ℕ) → has_name n (members_on s ps) ≡ true → has (type_on s (form_bij ps i)) (pick n) ≡ true
member_has ps i Left n h = h
member_has ps i Right n h = h

-- the two members of a triple
record IsMembers (ps : List (List ℕ × List ℕ)) (s : Side) (v w : DocTree) : Type 0 where
  m : List ℕ
  n : List ℕ
  near_is : v ≡ pick m
  far_is : w ≡ pick n
  pair : IsPairOn s ps m n

partners : (ps : List (List ℕ × List ℕ)) (v w : DocTree) → ArePartners ps v w → (m : List ℕ) × (n : List ℕ) × (v ≡ pick m) × (w ≡ pick n) × IsPair ps m n
partners ps (pick m) (pick n) h = (m, n, refl, refl, h)
partners ps v w h = absurd h

members : (ps : List (List ℕ × List ℕ)) (i : List ℕ) (s : Side) (v : DocTree) (c : CompTree) (w : DocTree) → IsRelated (form_bij ps i) s v c w → IsMembers ps s v w
members ps i Left v c w k = let r = partners ps v w k.1 in record { m = r.0; n = r.1; near_is = r.2; far_is = r.3; pair = r.4 }
members ps i Right v c w k = let r = partners ps w v k.1 in record { m = r.1; n = r.0; near_is = r.3; far_is = r.2; pair = r.4 }

members_related : (ps : List (List ℕ × List ℕ)) (i : List ℕ) (s : Side) (m : List ℕ) (c : CompTree) (n : List ℕ) → IsNil c → IsPairOn s ps m n → IsRelated (form_bij ps i) s (pick m) c (pick n)
members_related ps i Left m c n fit h =
    (record { left_has = member_has ps i Left m (pair_member Left ps m n h); comp_fits = fit; right_has = member_has ps i Right n (pair_member Right ps n m (turned Left ps m n h)) }, h)
members_related ps i Right n c m fit h =
    (record { left_has = member_has ps i Left m (pair_member Left ps m n (turned Right ps n m h)); comp_fits = fit; right_has = member_has ps i Right n (pair_member Right ps n m h) }, h)

far_member : (ps : List (List ℕ × List ℕ)) (i : List ℕ) (s : Side) (m n : List ℕ) → IsPairOn s ps m n → has (type_on (other s) (form_bij ps i)) (pick n) ≡ true
far_member ps i Left m n h = member_has ps i Right n (pair_member Right ps n m (turned Left ps m n h))
far_member ps i Right m n h = member_has ps i Left n (pair_member Left ps n m (turned Right ps m n h))

bij_hole : (ps : List (List ℕ × List ℕ)) (i : List ℕ) (s : Side) (c : CompTree) → is_well_formed (type_on (other s) (form_bij ps i)) ≡ true → IsNil c → IsImage (form_bij ps i) s c hole (Some hole)
bij_hole ps i s c wf fit = record {
  some_doc = (initial (type_on (other s) (form_bij ps i)), has_initial (type_on (other s) (form_bij ps i)) wf, tt);
  into = λ v w m k. tt;
  onto = λ w h m.
      let r = enum_on ps i (other s) w h in
      let q = has_partner (other s) ps r.0 r.2 in
      let n = q.partner_name in
      (pick n, tt, subst (λ z. IsRelated (form_bij ps i) s (pick n) c z) (sym r.1) (members_related ps i s n c r.0 fit (turned_back s ps n r.0 q.are_pair)));
}

pick_same : (m n : List ℕ) → pick m ≡ pick n → m ≡ n
pick_same m n e = cc

bij_pick : (ps : List (List ℕ × List ℕ)) (i : List ℕ) (s : Side) (c : CompTree) (m : List ℕ) → are_distinct (members_on s ps) ≡ true → IsNil c → (o : Option (List ℕ)) → partner s ps m ≡ o
    → IsImage (form_bij ps i) s c (pick_pattern m) (option_map pick_pattern o)
bij_pick ps i s c m apart fit None e = λ v w q k.
    let r = members ps i s v c w k in
    let same = pick_same r.m m (sym r.near_is ∙ q) in
    let found = subst (λ z. partner s ps z ≡ Some r.n) same (pair_partner s ps r.m r.n apart r.pair) in
    cc
bij_pick ps i s c m apart fit (Some n) e = record {
  some_doc = (pick n, far_member ps i s m n (partner_pair s ps m n e), refl);
  into = λ v w q k.
      let r = members ps i s v c w k in
      let same = pick_same r.m m (sym r.near_is ∙ q) in
      let found = subst (λ z. partner s ps z ≡ Some r.n) same (pair_partner s ps r.m r.n apart r.pair) in
      let is : r.n ≡ n = cc in
      r.far_is ∙ ap pick is;
  onto = λ w h q. (pick m, refl, subst (λ z. IsRelated (form_bij ps i) s (pick m) c z) (sym q) (members_related ps i s m c n fit (partner_pair s ps m n e)));
}

-- a pattern without members has no document that is related
no_member : (ps : List (List ℕ × List ℕ)) (i : List ℕ) (s : Side) (c : CompTree) (p : PatternTree) → ((n : List ℕ) → Matches p (pick n) → ⊥) → IsImage (form_bij ps i) s c p None
no_member ps i s c p none = λ v w q k. let r = members ps i s v c w k in none r.m (subst (Matches p) r.near_is q)

bij_side : (ps : List (List ℕ × List ℕ)) (i : List ℕ) (s : Side) → is_well_formed (type_on (other s) (form_bij ps i)) ≡ true → are_distinct (members_on s ps) ≡ true
    → (c : CompTree) (p : PatternTree) → IsNil c → IsImage (form_bij ps i) s c p (partner_pattern s ps p)
bij_side ps i s wf apart c hole fit = bij_hole ps i s c wf fit
bij_side ps i s wf apart c (pick_pattern m) fit = bij_pick ps i s c m apart fit (partner s ps m) refl
bij_side ps i s wf apart c unit_pattern fit = no_member ps i s c unit_pattern (λ n q. cc)
bij_side ps i s wf apart c (truth_pattern b) fit = no_member ps i s c (truth_pattern b) (λ n q. cc)
bij_side ps i s wf apart c (int_pattern b) fit = no_member ps i s c (int_pattern b) (λ n q. cc)
bij_side ps i s wf apart c (text_pattern b) fit = no_member ps i s c (text_pattern b) (λ n q. cc)
bij_side ps i s wf apart c (rec_pattern b) fit = no_member ps i s c (rec_pattern b) (λ n q. let e = q.1 in cc)
bij_side ps i s wf apart c (alt_pattern a b) fit = no_member ps i s c (alt_pattern a b) (λ n q. let e = q.1 in cc)
bij_side ps i s wf apart c (hold_pattern a b) fit = no_member ps i s c (hold_pattern a b) (λ n q. let e = q.1 in cc)

pub bij_images : (ps : List (List ℕ × List ℕ)) (i : List ℕ) → is_well_formed (type_on Left (form_bij ps i)) ≡ true → is_well_formed (type_on Right (form_bij ps i)) ≡ true
    → are_distinct (lefts ps) ≡ true → are_distinct (rights ps) ≡ true → ImageLaw (form_bij ps i)
bij_images ps i wf wg a b Left c p fit some = bij_side ps i Left wg a c p fit
bij_images ps i wf wg a b Right c p fit some = bij_side ps i Right wf b c p fit
