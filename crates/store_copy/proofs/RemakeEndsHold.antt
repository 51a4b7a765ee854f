-- How a command ends that makes a store anew, from how its parts ended.
use Rattle.std.proofs.Common.{◌≡◌, ◌⊎◌, inl, inr, ℕ, ◌<◌, List, [], ◌∷◌, length, Option, Some, None, IfSome, refl, sym, subst, ◌∙◌, arith}
use Rattle.std.specs.Prelude.{IsNone}
use Rattle.std.proofs.KnownBytes.{Appends-nil}
use Rattle.lens_io.specs.Calls.{SinkFailed, DiskFailed}
use Rattle.lens_io.specs.declared.disk.Disk as OfDisk
use Rattle.lens_io.specs.declared.sink.Sink as OfSink
use Rattle.store_run.proofs.Openings.{at_content, unwritten_none, unwritten_then}
use Rattle.store_run.specs.Refusals.{IsUnwritten, EndsRefused, FailsUnopened, refusal_line}
use Rattle.store_run.specs.declared.refusals.StoreRefusal.{StoreRefusal}
use Rattle.store_run.specs.declared.refusals.StoreRefusal.TheVariants.{LogExists}
use Rattle.store_new.specs.Making.{EndsStore, IsTaken}
use Rattle.store_new.specs.NewEnds.{GivesLine}
use Rattle.store_new.specs.NewRooms.{PlanHasNoRoom}
use Rattle.store_new.specs.NewStores.{EndsMaking, IsTooLong}
use Rattle.store_copy.specs.RemakeEnds.{EndsRemade, EndsUnmade, FailsBefore, IsRemade}
use Rattle.store_copy.specs.Remakes.{KeepsOther, RemakesStore}
use Rattle.command_ends.specs.Statuses.{IsStatusAmong, quiet_statuses}
use Rattle.command_ends.specs.declared.status.Status.{Status}
use Rattle.command_ends.specs.declared.status.Status.TheVariants.{Done, SomeRefused, Usage, ProgramRefused, StoreRefused, SourceFault, SinkFault, DiskFault, InputTooLong, NoMemory}

abbrev Plan : Type 1
Plan = List (List ℕ) → List ℕ → Type 0

-- ---- what is known of the other disk

-- this many bytes, and not 0
pub some_bytes : (o : Option (List ℕ)) (count : ℕ) → (count ≡ 0 → ⊥) → IfSome o (λ bytes. count ≡ length bytes) → IfSome o (λ bytes. 0 < length bytes)
some_bytes None count some is = tt
some_bytes (Some []) count some is = absurd (some is)
some_bytes (Some (byte ∷ bytes)) count some is = omega arith

-- this many bytes, which is 0
pub no_bytes : (o : Option (List ℕ)) (count : ℕ) → count ≡ 0 → IfSome o (λ bytes. count ≡ length bytes) → IfSome o (λ bytes. length bytes ≡ 0)
no_bytes None count none is = tt
no_bytes (Some bytes) count none is = omega (arith, none, is)

-- an empty disk has no bytes
if_other : (o : Option (List ℕ)) (R : Type 0) → IfSome o (λ bytes. length bytes ≡ 0) → IfSome o (λ bytes. 0 < length bytes → R)
if_other None R empty = tt
if_other (Some bytes) R empty = λ some. absurd (omega (arith, empty, some))

whatever : (o : Option (List ℕ)) (R : Type 0) → R → IfSome o (λ bytes. 0 < length bytes → R)
whatever None R r = tt
whatever (Some bytes) R r = λ some. r

pub room_unknown : (o : Option ℕ) (P : ℕ → Type 0) → IsNone o → IfSome o P
room_unknown None P none = tt
room_unknown (Some room) P none = cc

-- ---- the statuses

-- the line `store refused: log-exists` ends with its own status, or the sink fails
module _ {K : Type 0} (sink : OfSink.Ghosts K) (k k' : K) (status : Status) where
  pub never_at_disk : GivesLine sink k k' (refusal_line LogExists) StoreRefused status → status ≡ DiskFault → ⊥
  never_at_disk (inl g) is = let bad = sym is ∙ g.0 in cc
  never_at_disk (inr g) is = let bad = sym is ∙ g.0 in cc

  pub other_failed : (status ≡ SinkFault → (StoreRefused ≡ SinkFault) ⊎ SinkFailed sink k k') → status ≡ SinkFault → SinkFailed sink k k'
  other_failed at_sink is = by_cause (at_sink is) where
    by_cause : (StoreRefused ≡ SinkFault) ⊎ SinkFailed sink k k' → SinkFailed sink k k'
    by_cause (inl never) = cc
    by_cause (inr failed) = failed

module _ {K E : Type 0} (sink : OfSink.Ghosts K) (to : OfDisk.Ghosts E) (k k' : K) (e e' : E) where
  pub given_quiet : (line : List ℕ) (status : Status) → GivesLine sink k k' line StoreRefused status → IsStatusAmong quiet_statuses status
  given_quiet line status (inl g) = inr (inl g.0)
  given_quiet line status (inr g) = inr (inr (inl g.0))

  making_quiet : (payloads : List (List ℕ)) (line : List ℕ) (status : Status) → EndsMaking sink to (k, e) (k', e') payloads line status → IsStatusAmong quiet_statuses status
  making_quiet payloads line Done m = inl refl
  making_quiet payloads line SomeRefused m = absurd m
  making_quiet payloads line Usage m = absurd m
  making_quiet payloads line ProgramRefused m = absurd m
  making_quiet payloads line StoreRefused m = inr (inl refl)
  making_quiet payloads line SourceFault m = absurd m
  making_quiet payloads line SinkFault m = inr (inr (inl refl))
  making_quiet payloads line DiskFault m = inr (inr (inr (inl refl)))
  making_quiet payloads line InputTooLong m = absurd m
  making_quiet payloads line NoMemory m = inr (inr (inr (inr (inl refl))))

  pub store_quiet : (payloads : List (List ℕ)) (line : List ℕ) (status : Status) → EndsStore sink to (k, e) (k', e') payloads line status → IsStatusAmong quiet_statuses status
  store_quiet payloads line status (inl t) = given_quiet (refusal_line LogExists) status t.given
  store_quiet payloads line status (inr m) = making_quiet payloads line status m

  -- the making of a store without a fault
  making_ends : (payloads : List (List ℕ)) (line : List ℕ) (status : Status) → EndsMaking sink to (k, e) (k', e') payloads line status
      → (status ≡ SinkFault → ⊥) → (status ≡ DiskFault → ⊥) → (IsTooLong payloads → ⊥) → (status ≡ Done) ⊎ (status ≡ NoMemory)
  making_ends payloads line Done m no_sink no_disk room = inl refl
  making_ends payloads line SomeRefused m no_sink no_disk room = absurd m
  making_ends payloads line Usage m no_sink no_disk room = absurd m
  making_ends payloads line ProgramRefused m no_sink no_disk room = absurd m
  making_ends payloads line StoreRefused m no_sink no_disk room = absurd (room m.0)
  making_ends payloads line SourceFault m no_sink no_disk room = absurd m
  making_ends payloads line SinkFault m no_sink no_disk room = absurd (no_sink refl)
  making_ends payloads line DiskFault m no_sink no_disk room = absurd (no_disk refl)
  making_ends payloads line InputTooLong m no_sink no_disk room = absurd m
  making_ends payloads line NoMemory m no_sink no_disk room = inr refl

  -- the other disk is not empty
  pub finds_other : (status : Status) → IfSome (to.content e) (λ bytes. 0 < length bytes) → IsUnwritten to e e' → GivesLine sink k k' (refusal_line LogExists) StoreRefused status
      → IsTaken sink to (k, e) (k', e') status
  finds_other status some unwritten given = record { some = some; unwritten = unwritten; given = given }

-- ---- the ends

-- the other disk failed at once
pub failed_first : {K D E : Type 0} (sink : OfSink.Ghosts K) (from : OfDisk.Ghosts D) (to : OfDisk.Ghosts E) (k : K) (d : D) (e e' : E) → IsUnwritten to e e' → IsNone (to.room e)
    → FailsBefore sink from to (k, d, e) (k, d, e') DiskFault
failed_first sink from to k d e e' unwritten unknown = record { unwritten = unwritten; fails = (inl refl, Appends-nil (sink.held k)); sure = λ is. inr unknown }

pub keeps_failed : {K D E : Type 0} (sink : OfSink.Ghosts K) (from : OfDisk.Ghosts D) (to : OfDisk.Ghosts E) (k : K) (d : D) (e e' : E) → IsUnwritten to e e' → KeepsOther sink from to (k, d, e) (k, d, e') DiskFault
keeps_failed sink from to k d e e' u = whatever (to.content e) _ (refl, u, inr (refl, refl))

module _ {K D E : Type 0} (sink : OfSink.Ghosts K) (from : OfDisk.Ghosts D) (to : OfDisk.Ghosts E) (k k' : K) (d d' : D) (status : Status) where
  module _ (e : E) where
    -- a store was not opened
    pub fails_before : FailsUnopened sink from (k, d) (k', d') status → FailsBefore sink from to (k, d, e) (k', d', e) status
    fails_before u = record { unwritten = unwritten_none to e; fails = u.0; sure = λ is. inl (u.1 is) }

    -- bytes were refused
    pub unmade : (reason : StoreRefusal) → EndsRefused sink from (k, d) (k', d') reason status → EndsUnmade sink from to (k, d, e) (k', d', e) status reason
    unmade reason (inl said) = inr (inr (record { unwritten = unwritten_none to e; said = said }))
    unmade reason (inr u) = inr (inl (fails_before u))

  module _ (e e' : E) where
    -- the new store was made, or its making stopped
    pub remade : (P : Plan) (payloads : List (List ℕ)) (line : List ℕ) → P payloads line → IfSome (to.content e) (λ bytes. length bytes ≡ 0) → EndsStore sink to (k, e) (k', e') payloads line status
        → EndsRemade sink from to (k, d, e) (k', d', e') status P
    remade P payloads line planned empty (inl taken) = inl taken
    remade P payloads line planned empty (inr ends) =
        inr (inr (record { was_empty = empty; payloads = payloads; line = line; planned = planned; ends = ends }))

    -- what is promised over another disk that is not empty
    pub keeps_empty : IfSome (to.content e) (λ bytes. length bytes ≡ 0) → KeepsOther sink from to (k, d, e) (k', d', e') status
    keeps_empty empty = if_other (to.content e) _ empty

    pub keeps_given : IsUnwritten to e e' → GivesLine sink k k' (refusal_line LogExists) StoreRefused status → KeepsOther sink from to (k, d, e) (k', d, e') status
    keeps_given u given = whatever (to.content e) _ (refl, u, inl given)

    -- behind a call that only tells the length of the other disk
    module _ (e1 : E) (u : IsUnwritten to e e1) (room : to.room e1 ≡ to.room e) where
      taken_behind : IsTaken sink to (k, e1) (k', e') status → IsTaken sink to (k, e) (k', e') status
      taken_behind t = record { some = subst (λ o. IfSome o (λ bytes. 0 < length bytes)) u.same t.some; unwritten = unwritten_then to e e1 e' u t.unwritten; given = t.given }

      fails_behind : FailsBefore sink from to (k, d, e1) (k', d', e') status → FailsBefore sink from to (k, d, e) (k', d', e') status
      fails_behind f = record {
        unwritten = unwritten_then to e e1 e' u f.unwritten;
        fails = f.fails;
        sure = λ is. elim (f.sure is) [ inl x ↦ inl x | inr x ↦ inr (subst (λ (o : Option ℕ). IsNone o) room x) ];
      }

      pub remade_behind : (P : Plan) → EndsRemade sink from to (k, d, e1) (k', d', e') status P → EndsRemade sink from to (k, d, e) (k', d', e') status P
      remade_behind P (inl t) = inl (taken_behind t)
      remade_behind P (inr (inl f)) = inr (inl (fails_behind f))
      remade_behind P (inr (inr m)) = inr (inr (record {
        was_empty = subst (λ o. IfSome o (λ bytes. length bytes ≡ 0)) u.same m.was_empty;
        payloads = m.payloads;
        line = m.line;
        planned = m.planned;
        ends = m.ends;
      }))

      pub unmade_behind : (reason : StoreRefusal) → EndsUnmade sink from to (k, d, e1) (k', d', e') status reason → EndsUnmade sink from to (k, d, e) (k', d', e') status reason
      unmade_behind reason (inl t) = inl (taken_behind t)
      unmade_behind reason (inr (inl f)) = inr (inl (fails_behind f))
      unmade_behind reason (inr (inr r)) = inr (inr (record { unwritten = unwritten_then to e e1 e' u r.unwritten; said = r.said }))

    -- ---- what follows of the end over a store

    module _ (P : Plan) where
      done : EndsRemade sink from to (k, d, e) (k', d', e') status P → status ≡ Done → IsRemade sink from to (k, d, e) (k', d', e') P
      done (inl t) is = absurd (by_line t.given) where
        by_line : GivesLine sink k k' (refusal_line LogExists) StoreRefused status → ⊥
        by_line (inl g) = let bad = sym is ∙ g.0 in cc
        by_line (inr g) = let bad = sym is ∙ g.0 in cc
      done (inr (inl f)) is = absurd (by_status f.fails.0) where
        by_status : (status ≡ DiskFault) ⊎ (status ≡ NoMemory) → ⊥
        by_status (inl x) = let bad = sym is ∙ x in cc
        by_status (inr x) = let bad = sym is ∙ x in cc
      done (inr (inr m)) is =
          let made = subst (EndsMaking sink to (k, e) (k', e') m.payloads m.line) is m.ends in
          record { was_empty = m.was_empty; payloads = m.payloads; line = m.line; planned = m.planned; holds = made.0; given = made.1 }

      completes : EndsRemade sink from to (k, d, e) (k', d', e') status P → to.content e ≡ Some [] → (status ≡ SinkFault → ⊥) → (status ≡ DiskFault → ⊥)
          → ((payloads : List (List ℕ)) (line : List ℕ) → P payloads line → IsTooLong payloads → ⊥) → (status ≡ Done) ⊎ (status ≡ NoMemory)
      completes (inl t) empty no_sink no_disk room = absurd (omega (arith, at_content (to.content e) [] (λ bytes. 0 < length bytes) empty t.some))
      completes (inr (inl f)) empty no_sink no_disk room = elim f.fails.0 [ inl x ↦ absurd (no_disk x) | inr x ↦ inr x ]
      completes (inr (inr m)) empty no_sink no_disk room = making_ends sink to k k' e e' m.payloads m.line status m.ends no_sink no_disk (room m.payloads m.line m.planned)

      pub store_remade : EndsRemade sink from to (k, d, e) (k', d', e') status P → (status ≡ DiskFault → IsNone (from.room d) ⊎ IfSome (to.room e) (PlanHasNoRoom P))
          → (status ≡ SinkFault → SinkFailed sink k k') → (status ≡ DiskFault → DiskFailed from d d' ⊎ DiskFailed to e e')
          → RemakesStore sink from to (k, d, e) (k', d', e') status P
      store_remade ends caused at_sink at_disk = record {
        makes = done ends;
        stops = ends;
        caused = caused;
        completes = λ empty no_sink no_from no_to room.
            completes ends empty (λ is. no_sink (at_sink is)) (λ is. elim (at_disk is) [ inl x ↦ no_from x | inr x ↦ no_to x ]) room;
      }
