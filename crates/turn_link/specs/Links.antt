-- A link: the entries that were made, the two sites' numbers and drafts, and the packets. What an event makes of it is
-- `happens`, at the end. A lens comes as its two types, its first complement and its translation of words.
use Rattle.std.specs.Prelude.{ℕ, ◌+◌, ◌-◌, ◌^◌, nat_eq, nat_le, if◌then◌else◌, List, [], ◌∷◌, ◌++◌, map, take, length}
use Rattle.std.specs.Prelude.{slice_get, Option, Some, None, option_map, option_and_then, Result, Ok, Err}
use Rattle.texts.specs.declared.side.Side.{Side}
use Rattle.texts.specs.declared.side.Side.TheVariants.{Left, Right}
use Rattle.texts.specs.Sides.{other}
use Rattle.doc_values.specs.Documents.{DocTree}
use Rattle.doc_values.specs.Types.{TyTree}
use Rattle.edit_module.specs.Words.{WordTree, no_primitives}
use Rattle.lens_core.specs.Complements.{CompTree}
use Rattle.lens_core.specs.Sides.{near}
use Rattle.lens_core.specs.Translation.{Translated}
use Rattle.edit_session.specs.Step.{TripleTree, first, document_on, Stepped, step}
use Rattle.edit_module.specs.Changes.{one}
use Rattle.edit_session.specs.Run.{Item, last, run}
use Rattle.turn_link.specs.Turns.{BatchTree, is_even, is_turn, last_made, TurnRefusal, not_turn, last_number, no_batch}
use Rattle.turn_link.specs.Turns.{no_packet}
use Rattle.turn_link.specs.Sites.{LeftTree, RightTree, edited}

-- what may happen
pub data EventTree : Type 0 where
  edit : Side → WordTree → EventTree
  seal : Side → EventTree
  send : Side → EventTree
  deliver : ℕ → EventTree
  restart : Side → EventTree

-- what is told of it
pub data ToldTree : Type 0 where
  told_draft : ToldTree
  sealed : BatchTree → ToldTree
  packet : ℕ → ToldTree
  taken : ℕ → ToldTree
  stale : ℕ → ToldTree
  restarted : ToldTree

-- a packet: a batch, and the side to which it is addressed
pub record PacketTree : Type 0 where
  pub to : Side
  pub batch : BatchTree

pub record LinkTree : Type 0 where
  pub made : List (Side × WordTree)
  pub left_number : ℕ
  pub right_number : ℕ
  pub left_draft : WordTree
  pub right_draft : WordTree
  pub packets : List PacketTree

-- no entry, no draft and no packet
abbrev pub link_start : LinkTree
link_start = record {
  made = [];
  left_number = 0;
  right_number = 0;
  left_draft = no_primitives;
  right_draft =
      no_primitives;
  packets = [];
}

-- the number and the draft of a side, and the link with others
abbrev pub number_on : Side → LinkTree → ℕ
number_on side s = near side s.left_number s.right_number

abbrev pub draft_on : Side → LinkTree → WordTree
draft_on side s = near side s.left_draft s.right_draft

abbrev pub with_number : Side → ℕ → LinkTree → LinkTree
with_number Left n s = record s { left_number = n }
with_number Right n s = record s { right_number = n }

abbrev pub with_draft : Side → WordTree → LinkTree → LinkTree
with_draft Left w s = record s { left_draft = w }
with_draft Right w s = record s { right_draft = w }

-- the draft of a side is sealed: it is a new entry, the side's number rises, and its draft is empty
abbrev pub with_entry : Side → LinkTree → LinkTree
with_entry side s =
    with_number side (number_on side s + 1)
    (with_draft side no_primitives (record s { made = s.made ++ (side, draft_on side s) ∷ [] }))

-- a batch is addressed to the other side
abbrev pub with_packet : Side → BatchTree → LinkTree → LinkTree
with_packet side b s = record s { packets = s.packets ++ record { to = other side; batch = b } ∷ [] }

-- the answer to an edit, with the new draft
abbrev pub drafting : Side → LinkTree → Result WordTree TurnRefusal → Result (LinkTree × ToldTree) TurnRefusal
drafting side s (Ok w) = Ok (with_draft side w s, told_draft)
drafting side s (Err why) = Err why

-- a packet is handed to its addressee
abbrev pub delivered : LinkTree → Option PacketTree → Result (LinkTree × ToldTree) TurnRefusal
delivered s (Some q) =
    if nat_le q.batch.number (number_on q.to s)
    then Ok (s, stale q.batch.number)
    else Ok (with_number q.to q.batch.number s, taken q.batch.number)
delivered s None = Err (no_packet (length s.packets))

-- an entry as the item of a run
abbrev pub single : Side × WordTree → Item ⊥
single e = Ok (one e)

-- the carried word of a step
abbrev pub word_of_step : Option Stepped → Option WordTree
word_of_step (Some (Ok s)) = Some s.1
word_of_step (Some (Err why)) = None
word_of_step None = None

-- the link after an event: a refused event leaves it as it was
abbrev pub link_after : LinkTree → Result (LinkTree × ToldTree) TurnRefusal → LinkTree
link_after s (Ok r) = r.0
link_after s (Err why) = s

module _ (left : TyTree) (right : TyTree) (start : CompTree) (carried : Side → CompTree → WordTree
    → Option Translated) where
  -- the triple after the first k entries, from the first triple of the lens
  abbrev pub triple_at : List (Side × WordTree) → ℕ → Option TripleTree
  triple_at made k =
      option_map (last (first left right start))
      (run {F = ⊥} left right carried (first left right start) (map single (take k made)))

  -- the carried word of entry k, counted from 1
  abbrev pub carried_word : List (Side × WordTree) → ℕ → Option WordTree
  carried_word made k =
      option_and_then (λ t. option_and_then (λ e. word_of_step (step left right carried t e)) (slice_get made (k - 1)))
      (triple_at made (k - 1))

  -- the word of batch k: the word of entry k where k is even, and its carried word where k is odd
  abbrev pub batch_word : List (Side × WordTree) → ℕ → Option WordTree
  batch_word made k = if is_even k then option_map (λ e. e.1) (slice_get made (k - 1)) else carried_word made k

  abbrev pub batch_at : List (Side × WordTree) → ℕ → Option BatchTree
  batch_at made k = option_map (λ w. record { number = k; word = w }) (batch_word made k)

  -- the last batch that the site of a side with this number made
  abbrev pub last_batch : Side → List (Side × WordTree) → ℕ → Option BatchTree
  last_batch side made n = if nat_eq (last_made side n) 0 then None else batch_at made (last_made side n)

  -- the document that the link shows on a side
  abbrev pub shown : Side → LinkTree → Option DocTree
  shown side s = option_map (document_on side) (triple_at s.made (number_on side s))

  -- the two sites of a link, which show the documents and the complement of these triples
  abbrev pub left_site_of : LinkTree → TripleTree → LeftTree
  left_site_of s t = record {
    number = s.left_number;
    doc = t.left;
    comp = t.comp;
    draft = s.left_draft;
    last =
        last_batch Left s.made s.left_number;
  }

  abbrev pub right_site_of : LinkTree → TripleTree → RightTree
  right_site_of s t = record {
    number = s.right_number;
    doc = t.right;
    draft = s.right_draft;
    last =
        last_batch Right s.made s.right_number;
  }

  abbrev pub left_site : LinkTree → Option LeftTree
  left_site s = option_map (left_site_of s) (triple_at s.made s.left_number)

  abbrev pub right_site : LinkTree → Option RightTree
  right_site s = option_map (right_site_of s) (triple_at s.made s.right_number)

  -- the batch of a new entry is named
  abbrev pub naming : Side → LinkTree → Option (Result (LinkTree × ToldTree) TurnRefusal)
  naming side s =
      option_map (λ b. Ok (with_entry side s, sealed b)) (batch_at (with_entry side s).made (number_on side s + 1))

  -- what an event makes of a link, and what is told of it; or why it is refused
  abbrev pub happens : LinkTree → EventTree → Option (Result (LinkTree × ToldTree) TurnRefusal)
  happens s (edit side w) =
      option_map (λ x. drafting side s (edited side (near side left right) (number_on side s) x (draft_on side s) w))
      (shown side s)
  happens s (seal side) =
      if is_turn side (number_on side s)
      then (if nat_eq (number_on side s) (2 ^ 64 - 1) then Some (Err last_number) else naming side s)
      else Some (Err (not_turn (number_on side s)))
  happens s (send side) =
      if nat_eq (last_made side (number_on side s)) 0
      then Some (Err no_batch)
      else option_map (λ b. Ok (with_packet side b s, packet (length s.packets)))
      (last_batch side s.made (number_on side s))
  happens s (deliver p) = Some (delivered s (slice_get s.packets p))
  happens s (restart side) = Some (Ok (with_draft side no_primitives s, restarted))

  -- the link after a list of events
  abbrev pub after_events : LinkTree → List EventTree → Option LinkTree
  after_events s [] = Some s
  after_events s (e ∷ es) = option_and_then (λ r. after_events (link_after s r) es) (happens s e)
