-- What each call of a link makes of its entries, sites and packets.
use Rattle.std.proofs.Common.{◌≡◌, ℕ, List, [], ◌∷◌, ◌++◌, length, map, slice_get, Option, None, Some, Result, Ok, Err, true, false, if◌then◌else◌, refl, sym, ap, ◌∙◌, subst}
use Rattle.std.specs.Prelude.{option_map}
use Rattle.texts.specs.declared.side.Side.{Side}
use Rattle.texts.specs.declared.side.Side.TheVariants.{Left, Right}
use Rattle.doc_values.specs.Documents.{DocTree}
use Rattle.doc_values.specs.Types.{TyTree}
use Rattle.edit_module.specs.Words.{WordTree}
use Rattle.edit_module.specs.Action.{act, Why}
use Rattle.lens_core.specs.Complements.{CompTree}
use Rattle.lens_core.specs.declared.lens.EditLens as OfLens
use Rattle.lens_core.specs.Translation.{Translated}
use Rattle.lens_core.specs.Laws.{WordsCarry, StartTogether}
use Rattle.turn_link.specs.declared.fault.Received.{Received}
use Rattle.turn_link.specs.declared.fault.Received.TheVariants.{Taken, Stale}
use Rattle.edit_module.specs.declared.entry.Entry.{Entry}
use Rattle.edit_module.specs.Views.{word_tree, entry_tree}
use Rattle.turn_link.specs.declared.batch.Packet.{Packet}
use Rattle.turn_link.specs.Views.{batch_tree, packet_tree, told_of}
use Rattle.turn_link.specs.Turns.{BatchTree, is_turn, TurnRefusal, not_turn, unfit, no_batch, IsTurnRefusal}
use Rattle.turn_link.specs.Sites.{LeftTree, RightTree, drafted, joining, edited, left_drafted, right_drafted, left_start, right_start, left_edit, right_edit, left_seal, right_seal, left_receive, right_receive, left_restart, right_restart}
use Rattle.turn_link.specs.Links.{EventTree, edit, seal, send, deliver, restart, LinkTree, ToldTree, told_draft, sealed, packet, taken, stale, restarted, PacketTree, last_batch, left_site_of, right_site_of, happens}
use Rattle.turn_link.specs.Laws.{AreSites}
use Rattle.turn_link.specs.LinkViews.{link_of, IsLink, IsLinkOf, IsLinkRefusal}
use Rattle.turn_link.proofs.LinkSites.{edits_left, edits_right, refuses_edit_left, refuses_edit_right, restarts_left, restarts_right, sends, no_sending, seals_left_site, seals_right_site, refuses_seal_left, refuses_seal_right, receives_left, receives_right, never_refused_left, never_refused_right}
use Rattle.turn_link.proofs.LinkRuns.{start_sites, no_unfit}
use Rattle.texts.proofs.Tests.{same_value}

module _ (holds : DocTree → CompTree → DocTree → Type 0) (left : TyTree) (right : TyTree) (start : CompTree) (carried : Side → CompTree → WordTree → Option Translated) where
  abbrev pub Entries : Type 0
  Entries = List (Side × WordTree)

  -- the sites of a link have its numbers and drafts
  link_is : (s : LinkTree) (l : LeftTree) (r : RightTree) → AreSites holds left right start carried s l r → s ≡ link_of s.made l r s.packets
  link_is s l r a =
      let k = a.linked in
      let of_left : left_site_of left right start carried s k.left_draft.triple ≡ l = same_value (ap (option_map (left_site_of left right start carried s)) k.left_draft.at_number) a.left_is in
      let of_right : right_site_of left right start carried s k.right_draft.triple ≡ r = same_value (ap (option_map (right_site_of left right start carried s)) k.right_draft.at_number) a.right_is in
      ap (λ l. link_of s.made l (right_site_of left right start carried s k.right_draft.triple) s.packets) of_left ∙ ap (λ r. link_of s.made l r s.packets) of_right

  -- the last batches of the sites
  last_left : (s : LinkTree) (l : LeftTree) (r : RightTree) → AreSites holds left right start carried s l r → last_batch left right start carried Left s.made s.left_number ≡ l.last
  last_left s l r a =
      let k = a.linked in
      let of_left : left_site_of left right start carried s k.left_draft.triple ≡ l = same_value (ap (option_map (left_site_of left right start carried s)) k.left_draft.at_number) a.left_is in
      ap (λ (l : LeftTree). l.last) of_left

  last_right : (s : LinkTree) (l : LeftTree) (r : RightTree) → AreSites holds left right start carried s l r → last_batch left right start carried Right s.made s.right_number ≡ r.last
  last_right s l r a =
      let k = a.linked in
      let of_right : right_site_of left right start carried s k.right_draft.triple ≡ r = same_value (ap (option_map (right_site_of left right start carried s)) k.right_draft.at_number) a.right_is in
      ap (λ (r : RightTree). r.last) of_right

  -- an event happened: the link after it, and what is told
  pub record Calls (ty : TyTree) (s : LinkTree) (e : EventTree) (told : ToldTree) (s' : LinkTree) (l : LeftTree) (r : RightTree) : Type 0 where
    pub happened : happens left right start carried s e ≡ Some (Ok (s', told))
    pub link : IsLink holds left right start carried ty s' l r

  -- the link after an event is that of its sites
  calls : (ty : TyTree) (s : LinkTree) (e : EventTree) (told : ToldTree) (s' : LinkTree) (l : LeftTree) (r : RightTree) → ty ≡ right
      → happens left right start carried s e ≡ Some (Ok (s', told)) → AreSites holds left right start carried s' l r
      → Calls ty s e told (link_of s'.made l r s'.packets) l r
  calls ty s e told s' l r typed happened a =
      subst (λ s'. Calls ty s e told s' l r) (link_is s' l r a) (record { happened = happened; link = record { sites = a; typed = typed } })

  module _ (ty : TyTree) (made : Entries) (l : LeftTree) (r : RightTree) (ps : List PacketTree) (k : IsLink holds left right start carried ty (link_of made l r ps) l r) where
    pub call-edit_left : (w : WordTree) (l' : LeftTree) → left_edit left l w ≡ Ok l' → Calls ty (link_of made l r ps) (edit Left w) told_draft (link_of made l' r ps) l' r
    call-edit_left w l' is =
        let e = edits_left holds left right start carried (link_of made l r ps) l r k.sites w l' is in
        calls ty (link_of made l r ps) (edit Left w) told_draft _ l' r k.typed e.happened e.sites

    pub call-edit_right : (w : WordTree) (r' : RightTree) → right_edit ty r w ≡ Ok r' → Calls ty (link_of made l r ps) (edit Right w) told_draft (link_of made l r' ps) l r'
    call-edit_right w r' is =
        let e = edits_right holds left right start carried (link_of made l r ps) l r k.sites w r' (subst (λ t. right_edit t r w ≡ Ok r') k.typed is) in
        calls ty (link_of made l r ps) (edit Right w) told_draft _ l r' k.typed e.happened e.sites

    pub refuse-edit_left : (w : WordTree) (why : TurnRefusal) → left_edit left l w ≡ Err why → happens left right start carried (link_of made l r ps) (edit Left w) ≡ Some (Err why)
    refuse-edit_left w why is = refuses_edit_left holds left right start carried (link_of made l r ps) l r k.sites w why is

    pub refuse-edit_right : (w : WordTree) (why : TurnRefusal) → right_edit ty r w ≡ Err why → happens left right start carried (link_of made l r ps) (edit Right w) ≡ Some (Err why)
    refuse-edit_right w why is = refuses_edit_right holds left right start carried (link_of made l r ps) l r k.sites w why (subst (λ t. right_edit t r w ≡ Err why) k.typed is)

    pub call-restart_left : (l' : LeftTree) → l' ≡ left_restart l → Calls ty (link_of made l r ps) (restart Left) restarted (link_of made l' r ps) l' r
    call-restart_left l' is =
        subst (λ l'. Calls ty (link_of made l r ps) (restart Left) restarted (link_of made l' r ps) l' r) (sym is)
        (calls ty (link_of made l r ps) (restart Left) restarted _ (left_restart l) r k.typed refl (restarts_left holds left right start carried (link_of made l r ps) l r k.sites))

    pub call-restart_right : (r' : RightTree) → r' ≡ right_restart r → Calls ty (link_of made l r ps) (restart Right) restarted (link_of made l r' ps) l r'
    call-restart_right r' is =
        subst (λ r'. Calls ty (link_of made l r ps) (restart Right) restarted (link_of made l r' ps) l r') (sym is)
        (calls ty (link_of made l r ps) (restart Right) restarted _ l (right_restart r) k.typed refl (restarts_right holds left right start carried (link_of made l r ps) l r k.sites))

    -- the last batch of a site is the link's
    pub call-send_left : (b : BatchTree) → l.last ≡ Some b → Calls ty (link_of made l r ps) (send Left) (packet (length ps)) (link_of made l r (ps ++ record { to = Right; batch = b } ∷ [])) l r
    call-send_left b is =
        let e = sends holds left right start carried (link_of made l r ps) Left l r k.sites b (last_left (link_of made l r ps) l r k.sites ∙ is) in
        calls ty (link_of made l r ps) (send Left) (packet (length ps)) _ l r k.typed e.happened e.sites

    pub call-send_right : (b : BatchTree) → r.last ≡ Some b → Calls ty (link_of made l r ps) (send Right) (packet (length ps)) (link_of made l r (ps ++ record { to = Left; batch = b } ∷ [])) l r
    call-send_right b is =
        let e = sends holds left right start carried (link_of made l r ps) Right l r k.sites b (last_right (link_of made l r ps) l r k.sites ∙ is) in
        calls ty (link_of made l r ps) (send Right) (packet (length ps)) _ l r k.typed e.happened e.sites

    pub refuse-send_left : l.last ≡ None → happens left right start carried (link_of made l r ps) (send Left) ≡ Some (Err no_batch)
    refuse-send_left is = no_sending holds left right start carried (link_of made l r ps) Left l r k.sites (last_left (link_of made l r ps) l r k.sites ∙ is)

    pub refuse-send_right : r.last ≡ None → happens left right start carried (link_of made l r ps) (send Right) ≡ Some (Err no_batch)
    refuse-send_right is = no_sending holds left right start carried (link_of made l r ps) Right l r k.sites (last_right (link_of made l r ps) l r k.sites ∙ is)

    pub call-deliver_left : (p : ℕ) (b : BatchTree) → slice_get ps p ≡ Some (record { to = Left; batch = b }) → (l' : LeftTree) (a : Received)
        → left_receive left carried l b ≡ Ok (l', a) → Calls ty (link_of made l r ps) (deliver p) (told_of b.number a) (link_of made l' r ps) l' r
    call-deliver_left p b is l' Taken made_it =
        let e = receives_left holds left right start carried (link_of made l r ps) l r k.sites p b is l' Taken made_it in
        calls ty (link_of made l r ps) (deliver p) (taken b.number) _ l' r k.typed e.happened e.sites
    call-deliver_left p b is l' Stale made_it =
        let e = receives_left holds left right start carried (link_of made l r ps) l r k.sites p b is l' Stale made_it in
        calls ty (link_of made l r ps) (deliver p) (stale b.number) _ l' r k.typed e.happened e.sites

    pub call-deliver_right : (p : ℕ) (b : BatchTree) → slice_get ps p ≡ Some (record { to = Right; batch = b }) → (r' : RightTree) (a : Received)
        → right_receive ty r b ≡ Ok (r', a) → Calls ty (link_of made l r ps) (deliver p) (told_of b.number a) (link_of made l r' ps) l r'
    call-deliver_right p b is r' Taken made_it =
        let e = receives_right holds left right start carried (link_of made l r ps) l r k.sites p b is r' Taken (subst (λ t. right_receive t r b ≡ Ok (r', Taken)) k.typed made_it) in
        calls ty (link_of made l r ps) (deliver p) (taken b.number) _ l r' k.typed e.happened e.sites
    call-deliver_right p b is r' Stale made_it =
        let e = receives_right holds left right start carried (link_of made l r ps) l r k.sites p b is r' Stale (subst (λ t. right_receive t r b ≡ Ok (r', Stale)) k.typed made_it) in
        calls ty (link_of made l r ps) (deliver p) (stale b.number) _ l r' k.typed e.happened e.sites

    pub never-deliver_left : (p : ℕ) (b : BatchTree) → slice_get ps p ≡ Some (record { to = Left; batch = b }) → (why : TurnRefusal) → left_receive left carried l b ≡ Err why → ⊥
    never-deliver_left p b is why made_it = never_refused_left holds left right start carried (link_of made l r ps) l r k.sites p b is why made_it

    pub never-deliver_right : (p : ℕ) (b : BatchTree) → slice_get ps p ≡ Some (record { to = Right; batch = b }) → (why : TurnRefusal) → right_receive ty r b ≡ Err why → ⊥
    never-deliver_right p b is why made_it = never_refused_right holds left right start carried (link_of made l r ps) l r k.sites p b is why (subst (λ t. right_receive t r b ≡ Err why) k.typed made_it)

    module _ (from_left : WordsCarry holds left right Left (carried Left)) (from_right : WordsCarry holds right left Right (carried Right)) where
      pub call-seal_left : (l' : LeftTree) (b : BatchTree) → left_seal left carried l ≡ Ok (l', b)
          → Calls ty (link_of made l r ps) (seal Left) (sealed b) (link_of (made ++ (Left, l.draft) ∷ []) l' r ps) l' r
      call-seal_left l' b is =
          let e = seals_left_site holds left right start carried from_left from_right (link_of made l r ps) l r k.sites l' b is in
          calls ty (link_of made l r ps) (seal Left) (sealed b) _ l' r k.typed e.happened e.sites

      pub call-seal_right : (r' : RightTree) (b : BatchTree) → right_seal ty r ≡ Ok (r', b)
          → Calls ty (link_of made l r ps) (seal Right) (sealed b) (link_of (made ++ (Right, r.draft) ∷ []) l r' ps) l r'
      call-seal_right r' b is =
          let e = seals_right_site holds left right start carried from_left from_right (link_of made l r ps) l r k.sites r' b (subst (λ t. right_seal t r ≡ Ok (r', b)) k.typed is) in
          calls ty (link_of made l r ps) (seal Right) (sealed b) _ l r' k.typed e.happened e.sites

      pub refuse-seal_left : (why : TurnRefusal) → left_seal left carried l ≡ Err why → happens left right start carried (link_of made l r ps) (seal Left) ≡ Some (Err why)
      refuse-seal_left why is = refuses_seal_left holds left right start carried from_left from_right (link_of made l r ps) l r k.sites why is

      pub never-unfit : left_seal left carried l ≡ Err unfit → ⊥
      never-unfit is = no_unfit holds left right start carried from_left from_right (link_of made l r ps) (refuse-seal_left unfit is)

    pub refuse-seal_right : (why : TurnRefusal) → right_seal ty r ≡ Err why → happens left right start carried (link_of made l r ps) (seal Right) ≡ Some (Err why)
    refuse-seal_right why is = refuses_seal_right holds left right start carried (link_of made l r ps) l r k.sites why (subst (λ t. right_seal t r ≡ Err why) k.typed is)

  -- ---- the start

  pub link-start : (ty : TyTree) → ty ≡ right → StartTogether holds left right start → (l : LeftTree) (r : RightTree) → l ≡ left_start left start → r ≡ right_start ty
      → IsLink holds left right start carried ty (link_of [] l r []) l r
  link-start ty typed together l r left_is right_is =
      let r_is : right_start right ≡ r = ap right_start (sym typed) ∙ sym right_is in
      subst (λ r. IsLink holds left right start carried ty (link_of [] l r []) l r) r_is
      (subst (λ l. IsLink holds left right start carried ty (link_of [] l (right_start right) []) l (right_start right)) (sym left_is)
      (record { sites = start_sites holds left right start carried together; typed = typed }))

-- the same for an equal lens, and for an equal type
pub at-lens : {L : Type 0} (lens : OfLens.Ghosts L) (new old : L) → new ≡ old → {ty : TyTree} {s : LinkTree} {l : LeftTree} {r : RightTree}
    → IsLinkOf lens old ty s l r → IsLinkOf lens new ty s l r
at-lens lens new old same {ty} {s} {l} {r} k = subst (λ m. IsLinkOf lens m ty s l r) (sym same) k

pub at-type : (holds : DocTree → CompTree → DocTree → Type 0) (left : TyTree) (right : TyTree) (start : CompTree) (carried : Side → CompTree → WordTree → Option Translated)
    (new old : TyTree) → new ≡ old → {s : LinkTree} {l : LeftTree} {r : RightTree} → IsLink holds left right start carried old s l r → IsLink holds left right start carried new s l r
at-type holds left right start carried new old same {s} {l} {r} k = subst (λ ty. IsLink holds left right start carried ty s l r) (sym same) k

-- the trees of a list with one more element
pub packets-snoc : (xs ys : List Packet) (p : Packet) (b : BatchTree) → ys ≡ xs ++ p ∷ [] → batch_tree p.batch ≡ b
    → map packet_tree ys ≡ map packet_tree xs ++ record { to = p.to; batch = b } ∷ []
packets-snoc xs ys p b is batch =
    ap (map packet_tree) is ∙ (mapped xs ∙ ap (λ b. map packet_tree xs ++ record { to = p.to; batch = b } ∷ []) batch)
  where
    mapped : (xs : List Packet) → map packet_tree (xs ++ p ∷ []) ≡ map packet_tree xs ++ packet_tree p ∷ []
    mapped [] = refl
    mapped (x ∷ xs) = ap (λ ps. packet_tree x ∷ ps) (mapped xs)

pub entries-snoc : (xs ys : List Entry) (e : Entry) (w : WordTree) → ys ≡ xs ++ e ∷ [] → word_tree e.word ≡ w
    → map entry_tree ys ≡ map entry_tree xs ++ (e.side, w) ∷ []
entries-snoc xs ys e w is word =
    ap (map entry_tree) is ∙ (mapped xs ∙ ap (λ w. map entry_tree xs ++ (e.side, w) ∷ []) word)
  where
    mapped : (xs : List Entry) → map entry_tree (xs ++ e ∷ []) ≡ map entry_tree xs ++ entry_tree e ∷ []
    mapped [] = refl
    mapped (x ∷ xs) = ap (λ es. entry_tree x ∷ es) (mapped xs)

-- a packet that is addressed to a side, with its batch
pub addressed : (ps : List PacketTree) (p : ℕ) (to : Side) (q : PacketTree) → option_map (λ (q : PacketTree). q.to) (slice_get ps p) ≡ Some to → slice_get ps p ≡ Some q
    → slice_get ps p ≡ Some (record { to = to; batch = q.batch })
addressed ps p to q address is =
    let same : q.to ≡ to = same_value (ap (option_map (λ (q : PacketTree). q.to)) is) address in
    subst (λ side. slice_get ps p ≡ Some (record { to = side; batch = q.batch })) same is

-- a call that is refused for no reason has run out of memory
pub no_reason : {A : Type 0} (answer : Result A TurnRefusal) (o : Option TurnRefusal) → ((why : TurnRefusal) → answer ≡ Err why → ⊥) → IsTurnRefusal answer o → o ≡ None
no_reason answer None never is = refl
no_reason answer (Some why) never is = absurd (never why is)

-- an edit is never refused as a draft without a translation
joining-fits : (draft w : WordTree) (a : Result DocTree Why) → joining draft w a ≡ Err unfit → ⊥
joining-fits draft w (Ok x) is = cc
joining-fits draft w (Err why) is = cc

edited-fits : (side : Side) (ty : TyTree) (n : ℕ) (doc : DocTree) (draft w : WordTree) → edited side ty n doc draft w ≡ Err unfit → ⊥
edited-fits side ty n doc draft w is =
    elim (is_turn side n) as (λ b. (if b then joining draft w (act ty w (drafted ty doc draft)) else Err (not_turn n)) ≡ Err unfit → ⊥) [
      | true ↦ λ is. joining-fits draft w (act ty w (drafted ty doc draft)) is
      | false ↦ λ is. cc
    ] is

left-fits : (s : LeftTree) (o : Result WordTree TurnRefusal) → (o ≡ Err unfit → ⊥) → left_drafted s o ≡ Err unfit → ⊥
left-fits s (Ok w) fits is = cc
left-fits s (Err why) fits is = let same : why ≡ unfit = cc in fits (ap (λ y. Err y) same)

right-fits : (s : RightTree) (o : Result WordTree TurnRefusal) → (o ≡ Err unfit → ⊥) → right_drafted s o ≡ Err unfit → ⊥
right-fits s (Ok w) fits is = cc
right-fits s (Err why) fits is = let same : why ≡ unfit = cc in fits (ap (λ y. Err y) same)

pub edit_fits-left : (ty : TyTree) (s : LeftTree) (w : WordTree) → left_edit ty s w ≡ Err unfit → ⊥
edit_fits-left ty s w is = left-fits s (edited Left ty s.number s.doc s.draft w) (edited-fits Left ty s.number s.doc s.draft w) is

pub edit_fits-right : (ty : TyTree) (s : RightTree) (w : WordTree) → right_edit ty s w ≡ Err unfit → ⊥
edit_fits-right ty s w is = right-fits s (edited Right ty s.number s.doc s.draft w) (edited-fits Right ty s.number s.doc s.draft w) is

module _ (holds : DocTree → CompTree → DocTree → Type 0) (left : TyTree) (right : TyTree) (start : CompTree) (carried : Side → CompTree → WordTree → Option Translated)
    (ty : TyTree) (made : List (Side × WordTree)) (l : LeftTree) (r : RightTree) (ps : List PacketTree) (k : IsLink holds left right start carried ty (link_of made l r ps) l r) where
  pub refusals-edit_left : (w : WordTree) (o : Option TurnRefusal) → IsTurnRefusal (left_edit left l w) o → IsLinkRefusal (happens left right start carried (link_of made l r ps) (edit Left w)) o
  refusals-edit_left w None is = tt
  refusals-edit_left w (Some why) is = refuse-edit_left holds left right start carried ty made l r ps k w why is

  pub refusals-edit_right : (w : WordTree) (o : Option TurnRefusal) → IsTurnRefusal (right_edit ty r w) o → IsLinkRefusal (happens left right start carried (link_of made l r ps) (edit Right w)) o
  refusals-edit_right w None is = tt
  refusals-edit_right w (Some why) is = refuse-edit_right holds left right start carried ty made l r ps k w why is
