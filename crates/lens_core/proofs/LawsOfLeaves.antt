-- The laws of the lenses that keep nothing: identity, disconnection and bijection.
use Rattle.std.proofs.Common.{◌≡◌, inl, inr, ℕ, Bool, true, false, List, [], ◌∷◌, Some, Ok, Err, refl, ap, sym, ◌∙◌, subst}
use Rattle.std.specs.Prelude.{bytes_eq, cond, ◌||◌}
use Rattle.texts.specs.declared.side.Side.{Side}
use Rattle.texts.specs.declared.side.Side.TheVariants.{Left, Right}
use Rattle.texts.specs.Keys.{has_name}
use Rattle.texts.proofs.Conjunction.{second}
use Rattle.edit_module.specs.declared.atom.Atom.TheVariants.{Truth, Number, Letters}
use Rattle.edit_module.specs.declared.fault.Cause.TheVariants.{Value}
use Rattle.doc_values.specs.Documents.{DocTree, pick}
use Rattle.doc_values.specs.Types.{TyTree, ty_enum, is_well_formed, are_choices}
use Rattle.edit_module.specs.Words.{PrimitiveTree, set, add, splice, at, stay, switch, modify, shape, WordTree, no_primitives}
use Rattle.edit_module.specs.Action.{act, act_primitive}
use Rattle.lens_forms.specs.Forms.{form_id, form_disc, form_bij, lefts, rights, partner_of}
use Rattle.texts.specs.Sides.{other}
use Rattle.lens_core.specs.Sides.{type_on, near, far}
use Rattle.lens_core.specs.Emitted.{one}
use Rattle.lens_core.specs.Complements.{CompTree, nil, then_comp, rec_comp, alt_comp, hold_comp, tags_comp, IsNil}
use Rattle.lens_core.specs.Consistency.{IsPair}
use Rattle.lens_core.specs.Translation.{translate_one, at_nil, partner}
use Rattle.lens_forms.specs.Typing.{is_typed}
use Rattle.lens_forms.proofs.TypingLaws.{left_formed, right_formed}
use Rattle.lens_core.specs.Laws.{IsRelated, Carries, Laws}
use Rattle.doc_values.proofs.InitialTypes.{has_initial}
use Rattle.edit_module.proofs.ActionKeepsTypes.{has_primitive}
use Rattle.texts.proofs.Tests.{bytes_eq-is, or_true}
use Rattle.texts.proofs.KeyOrder.{bytes_eq-refl}

-- a complement that keeps nothing
pub is_nil : (c : CompTree) → IsNil c → c ≡ nil
is_nil nil h = refl
is_nil (then_comp c d) h = absurd h
is_nil (rec_comp cs) h = absurd h
is_nil (alt_comp t c) h = absurd h
is_nil (hold_comp s cs) h = absurd h
is_nil (tags_comp ts) h = absurd h

-- ---- identity

-- the word of one primitive acts on the equal document
one_acts : (t : TyTree) (p : PrimitiveTree) (x y x' : DocTree) → x ≡ y → act_primitive t p x ≡ Ok x' → act t (one p) y ≡ Ok x'
one_acts t p x y x' e h = rw (ap (act_primitive t p) (sym e) ∙ h) refl

passes_at_nil : (c : CompTree) (w : WordTree) → IsNil c → at_nil c (Some w) ≡ Some (w, nil)
passes_at_nil c w h = rw (is_nil c h) refl

id_step : (t : TyTree) → is_well_formed t ≡ true → (s : Side) (p : PrimitiveTree) (x : DocTree) (c : CompTree) (y x' : DocTree)
    → IsRelated (form_id t) s x c y → act_primitive (type_on s (form_id t)) p x ≡ Ok x' → Carries (form_id t) s x' y (translate_one (form_id t) s c p)
id_step t wf Left p x c y x' k e =
    let h = has_primitive t p x x' wf k.0.left_has e in
    record {
      word = one p;
      comp = nil;
      document = x';
      carried = passes_at_nil c (one p) k.0.comp_fits;
      acts = one_acts t p x y x' k.1 e;
      consistent = (record { left_has = h; comp_fits = tt; right_has = h }, refl);
    }
id_step t wf Right p y c x y' k e =
    let h = has_primitive t p y y' wf k.0.right_has e in
    record {
      word = one p;
      comp = nil;
      document = y';
      carried = passes_at_nil c (one p) k.0.comp_fits;
      acts = one_acts t p y x y' (sym k.1) e;
      consistent = (record { left_has = h; comp_fits = tt; right_has = h }, refl);
    }

id_sound : (t : TyTree) → is_well_formed t ≡ true → (s : Side) → is_well_formed (type_on s (form_id t)) ≡ true
id_sound t wf Left = wf
id_sound t wf Right = wf

pub id_laws : (t : TyTree) → is_well_formed t ≡ true → Laws (form_id t)
id_laws t wf = record {
  sound = id_sound t wf;
  starts = (record { left_has = has_initial t wf; comp_fits = tt; right_has = has_initial t wf }, refl);
  step = id_step t wf;
}

-- ---- disconnection

disc_step : (t u : TyTree) → is_well_formed t ≡ true → is_well_formed u ≡ true → (s : Side) (p : PrimitiveTree) (x : DocTree) (c : CompTree) (y x' : DocTree)
    → IsRelated (form_disc t u) s x c y → act_primitive (type_on s (form_disc t u)) p x ≡ Ok x' → Carries (form_disc t u) s x' y (translate_one (form_disc t u) s c p)
disc_step t u wf wg Left p x c y x' k e = record {
  word = no_primitives;
  comp = nil;
  document = y;
  carried = passes_at_nil c no_primitives k.comp_fits;
  acts = refl;
  consistent = record { left_has = has_primitive t p x x' wf k.left_has e; comp_fits = tt; right_has = k.right_has };
}
disc_step t u wf wg Right p y c x y' k e = record {
  word = no_primitives;
  comp = nil;
  document = x;
  carried = passes_at_nil c no_primitives k.comp_fits;
  acts = refl;
  consistent = record { left_has = k.left_has; comp_fits = tt; right_has = has_primitive u p y y' wg k.right_has e };
}

disc_sound : (t u : TyTree) → is_well_formed t ≡ true → is_well_formed u ≡ true → (s : Side) → is_well_formed (type_on s (form_disc t u)) ≡ true
disc_sound t u wf wg Left = wf
disc_sound t u wf wg Right = wg

pub disc_laws : (t u : TyTree) → is_well_formed t ≡ true → is_well_formed u ≡ true → Laws (form_disc t u)
disc_laws t u wf wg = record {
  sound = disc_sound t u wf wg;
  starts = record { left_has = has_initial t wf; comp_fits = tt; right_has = has_initial u wg };
  step = disc_step t u wf wg;
}

-- ---- bijection

-- names that differ, the other way round
pub differs_back : (m n : List ℕ) → bytes_eq m n ≡ false → bytes_eq n m ≡ false
differs_back m n e = go (bytes_eq n m) refl
  where
    go : (b : Bool) → bytes_eq n m ≡ b → b ≡ false
    go false h = refl
    go true h = let same = subst (λ z. bytes_eq z n ≡ false) (sym (bytes_eq-is n m h)) e in let k = bytes_eq-refl n in cc

-- a primitive that acts on a member sets another one
record SetsMember (ms : List (List ℕ)) (p : PrimitiveTree) (x' : DocTree) : Type 0 where
  member : List ℕ
  sets : p ≡ set (Letters member)
  among : has_name member ms ≡ true
  result : x' ≡ pick member

if_member : (b : Bool) (m : List ℕ) (x' : DocTree) → cond b (Ok (pick m)) (Err Value) ≡ Ok x' → (b ≡ true) × (x' ≡ pick m)
if_member true m x' e = (refl, cc)
if_member false m x' e = cc

sets_member : (ms : List (List ℕ)) (i : List ℕ) (p : PrimitiveTree) (x x' : DocTree) → act_primitive (ty_enum ms i) p x ≡ Ok x' → SetsMember ms p x'
sets_member ms i (set (Letters m)) x x' e = let r = if_member (has_name m ms) m x' e in record { member = m; sets = refl; among = r.0; result = r.1 }
sets_member ms i (set (Truth b)) x x' e = cc
sets_member ms i (set (Number n)) x x' e = cc
sets_member ms i (add n) x x' e = cc
sets_member ms i (splice j k s) x x' e = cc
sets_member ms i (at f w) x x' e = cc
sets_member ms i (stay t w) x x' e = cc
sets_member ms i (switch a b w) x x' e = cc
sets_member ms i (modify p w) x x' e = cc
sets_member ms i (shape a) x x' e = cc

-- the members of one side
abbrev pub members_on : Side → List (List ℕ × List ℕ) → List (List ℕ)
members_on Left ps = lefts ps
members_on Right ps = rights ps

-- a pair, the member of the edited side first
abbrev pub IsPairOn : Side → List (List ℕ × List ℕ) → List ℕ → List ℕ → Type 0
IsPairOn Left ps m n = IsPair ps m n
IsPairOn Right ps m n = IsPair ps n m

pub pair_here : (s : Side) (p : List ℕ × List ℕ) (ps : List (List ℕ × List ℕ)) (m : List ℕ) → m ≡ near s p.0 p.1 → IsPairOn s (p ∷ ps) m (far s p.0 p.1)
pair_here Left p ps m e = inl (e, refl)
pair_here Right p ps m e = inl (refl, e)

pub pair_later : (s : Side) (p : List ℕ × List ℕ) (ps : List (List ℕ × List ℕ)) (m n : List ℕ) → IsPairOn s ps m n → IsPairOn s (p ∷ ps) m n
pair_later Left p ps m n h = inr h
pair_later Right p ps m n h = inr h

pub members_more : (s : Side) (p : List ℕ × List ℕ) (ps : List (List ℕ × List ℕ)) → members_on s (p ∷ ps) ≡ near s p.0 p.1 ∷ members_on s ps
members_more Left p ps = refl
members_more Right p ps = refl

pub across_far : (s : Side) (a b : List ℕ) → near (other s) a b ≡ far s a b
across_far Left a b = refl
across_far Right a b = refl

pub record HasPartner (s : Side) (ps : List (List ℕ × List ℕ)) (m : List ℕ) : Type 0 where
  pub partner_name : List ℕ
  pub is_partner : partner s ps m ≡ Some partner_name
  pub are_pair : IsPairOn s ps m partner_name
  pub among : has_name partner_name (members_on (other s) ps) ≡ true

member_later : (s : Side) (p : List ℕ × List ℕ) (ps : List (List ℕ × List ℕ)) (n : List ℕ) → has_name n (members_on s ps) ≡ true → has_name n (members_on s (p ∷ ps)) ≡ true
member_later Left p ps n h = rw h (or_true (bytes_eq n p.0))
member_later Right p ps n h = rw h (or_true (bytes_eq n p.1))

-- every member of a side has a partner among those of the other side
pub has_partner : (s : Side) (ps : List (List ℕ × List ℕ)) (m : List ℕ) → has_name m (members_on s ps) ≡ true → HasPartner s ps m
has_partner Left [] m h = cc
has_partner Right [] m h = cc
has_partner s (p ∷ ps) m h = go (bytes_eq (near s p.0 p.1) m) refl (λ k. has_partner s ps m k)
  where
    go : (b : Bool) → bytes_eq (near s p.0 p.1) m ≡ b → (has_name m (members_on s ps) ≡ true → HasPartner s ps m) → HasPartner s (p ∷ ps) m
    go true e again = record {
      partner_name = far s p.0 p.1;
      is_partner = rw e refl;
      are_pair = pair_here s p ps m (sym (bytes_eq-is (near s p.0 p.1) m e));
      among = rw (members_more (other s) p ps, across_far s p.0 p.1, bytes_eq-refl (far s p.0 p.1)) refl;
    }
    go false e again =
        let rest : has_name m (members_on s ps) ≡ true = subst (λ b. (b || has_name m (members_on s ps)) ≡ true) (differs_back (near s p.0 p.1) m e) (subst (λ (ms : List (List ℕ)). has_name m ms ≡ true) (members_more s p ps) h) in
        let r = again rest in record {
          partner_name = r.partner_name;
          is_partner = rw e r.is_partner;
          are_pair = pair_later s p ps m r.partner_name r.are_pair;
          among = member_later (other s) p ps r.partner_name r.among;
        }

-- ---- the step of a bijection

related_partners : (ps : List (List ℕ × List ℕ)) (i : List ℕ) (s : Side) (m n : List ℕ) → has_name m (members_on s ps) ≡ true → has_name n (members_on (other s) ps) ≡ true
    → IsPairOn s ps m n → IsRelated (form_bij ps i) s (pick m) nil (pick n)
related_partners ps i Left m n h k p = (record { left_has = h; comp_fits = tt; right_has = k }, p)
related_partners ps i Right m n h k p = (record { left_has = k; comp_fits = tt; right_has = h }, p)

bij_sets : (ps : List (List ℕ × List ℕ)) (i : List ℕ) (s : Side) (p : PrimitiveTree) (x x' : DocTree) → act_primitive (type_on s (form_bij ps i)) p x ≡ Ok x' → SetsMember (members_on s ps) p x'
bij_sets ps i Left p x x' e = sets_member (lefts ps) i p x x' e
bij_sets ps i Right p x x' e = sets_member (rights ps) (partner_of ps i) p x x' e

bij_acts : (ps : List (List ℕ × List ℕ)) (i : List ℕ) (s : Side) (n : List ℕ) (y : DocTree) → has_name n (members_on s ps) ≡ true → act (type_on s (form_bij ps i)) (one (set (Letters n))) y ≡ Ok (pick n)
bij_acts ps i Left n y h = rw h refl
bij_acts ps i Right n y h = rw h refl

bij_nil : (ps : List (List ℕ × List ℕ)) (i : List ℕ) (s : Side) (x : DocTree) (c : CompTree) (y : DocTree) → IsRelated (form_bij ps i) s x c y → c ≡ nil
bij_nil ps i Left x c y k = is_nil c k.0.comp_fits
bij_nil ps i Right x c y k = is_nil c k.0.comp_fits

bij_translates : (ps : List (List ℕ × List ℕ)) (i : List ℕ) (s : Side) (c : CompTree) (p : PrimitiveTree) (m n : List ℕ) → c ≡ nil → p ≡ set (Letters m) → partner s ps m ≡ Some n
    → translate_one (form_bij ps i) s c p ≡ Some (one (set (Letters n)), nil)
bij_translates ps i s c p m n e f g = rw (e, f, g) refl

bij_step : (ps : List (List ℕ × List ℕ)) (i : List ℕ) (s : Side) (p : PrimitiveTree) (x : DocTree) (c : CompTree) (y x' : DocTree)
    → IsRelated (form_bij ps i) s x c y → act_primitive (type_on s (form_bij ps i)) p x ≡ Ok x' → Carries (form_bij ps i) s x' y (translate_one (form_bij ps i) s c p)
bij_step ps i s p x c y x' k e =
    let q = bij_sets ps i s p x x' e in
    let r = has_partner s ps q.member q.among in
    subst (λ z. Carries (form_bij ps i) s z y (translate_one (form_bij ps i) s c p)) (sym q.result) (record {
      word = one (set (Letters r.partner_name));
      comp = nil;
      document = pick r.partner_name;
      carried = bij_translates ps i s c p q.member r.partner_name (bij_nil ps i s x c y k) q.sets r.is_partner;
      acts = bij_acts ps i (other s) r.partner_name y r.among;
      consistent = related_partners ps i s q.member r.partner_name q.among r.among r.are_pair;
    })

first_pair : (ps : List (List ℕ × List ℕ)) (m : List ℕ) → has_name m (lefts ps) ≡ true → IsPair ps m (partner_of ps m)
first_pair [] m h = cc
first_pair (p ∷ ps) m h = go (bytes_eq p.0 m) refl (λ k. first_pair ps m k)
  where
    go : (b : Bool) → bytes_eq p.0 m ≡ b → (has_name m (lefts ps) ≡ true → IsPair ps m (partner_of ps m)) → IsPair (p ∷ ps) m (partner_of (p ∷ ps) m)
    go true e again = rw e (inl (sym (bytes_eq-is p.0 m e), refl))
    go false e again = rw e (inr (again (subst (λ b. (b || has_name m (lefts ps)) ≡ true) (differs_back p.0 m e) h)))

bij_sound : (ps : List (List ℕ × List ℕ)) (i : List ℕ) → is_well_formed (type_on Left (form_bij ps i)) ≡ true → is_well_formed (type_on Right (form_bij ps i)) ≡ true
    → (s : Side) → is_well_formed (type_on s (form_bij ps i)) ≡ true
bij_sound ps i wf wg Left = wf
bij_sound ps i wf wg Right = wg

pub bij_laws : (ps : List (List ℕ × List ℕ)) (i : List ℕ) → is_well_formed (type_on Left (form_bij ps i)) ≡ true → is_well_formed (type_on Right (form_bij ps i)) ≡ true → Laws (form_bij ps i)
bij_laws ps i wf wg =
    let h = second (are_choices (lefts ps)) (has_name i (lefts ps)) wf in
    let k = second (are_choices (rights ps)) (has_name (partner_of ps i) (rights ps)) wg in
    record {
      sound = bij_sound ps i wf wg;
      starts = related_partners ps i Left i (partner_of ps i) h k (first_pair ps i h);
      step = bij_step ps i;
    }

-- a bijection that is typed has two well-formed types
pub typed_bij_laws : (ps : List (List ℕ × List ℕ)) (i : List ℕ) → is_typed (form_bij ps i) ≡ true → Laws (form_bij ps i)
typed_bij_laws ps i h = bij_laws ps i (left_formed (form_bij ps i) h) (right_formed (form_bij ps i) h)
