-- The ends of a command that makes a store, whatever it refuses and makes.
use Rattle.std.proofs.Common.{◌≡◌, inl, inr, ℕ, ◌+◌, ◌<◌, ◌≤◌, List, [], ◌∷◌, length, Option, Some, None, IfSome, refl, sym, subst, arith}
use Rattle.std.proofs.KnownBytes.{Appends-nil, Consumes-nil}
use Rattle.lens_io.specs.Calls.{Took, IsRead, Gave}
use Rattle.lens_io.specs.Disks.{SameImages}
use Rattle.lens_io.specs.declared.disk.Disk as OfDisk
use Rattle.lens_io.specs.declared.failed.TakeFault.{TakeFault}
use Rattle.lens_io.specs.declared.sink.Sink as OfSink
use Rattle.lens_io.specs.declared.source.Source as OfSource
use Rattle.script_input.specs.declared.limits.TheConstants.{MOST_BYTES}
use Rattle.script_input.specs.Coming.{IsWhole}
use Rattle.script_input.specs.Lines.{program_part}
use Rattle.store_run.proofs.Openings.{unwritten_none, unwritten_then}
use Rattle.store_run.specs.Devices.{devices_of}
use Rattle.store_run.specs.Refusals.{IsUnwritten, refusal_line}
use Rattle.store_run.specs.declared.refusals.StoreRefusal.TheVariants.{LogExists}
use Rattle.store_new.specs.Command.{PartMeaning, Command}
use Rattle.store_new.specs.NewEnds.{GivesLine, StopsAfter, Ends}
use Rattle.store_new.specs.ScriptReading.{ReadsFront, RefusesWith}
use Rattle.store_new.specs.Making.{EndsStore, EndsPlan}
use Rattle.store_new.specs.Reading.{status_at}
use Rattle.store_new.specs.Scripts.{IsAcceptedPart, PartGoesOn}
use Rattle.command_ends.specs.declared.status.Status.{Status}
use Rattle.command_ends.specs.declared.status.Status.TheVariants.{SomeRefused, StoreRefused, DiskFault, NoMemory}

-- ---- facts of known bytes

-- this many bytes, and not 0
some_found : (o : Option (List ℕ)) (count : ℕ) (taken : List ℕ) → taken ≡ [] → (count ≡ 0 → ⊥) → IfSome o (λ bytes. count ≡ length bytes) → IfSome o (λ before. (0 < length before) × (taken ≡ []))
some_found None count taken none some is = tt
some_found (Some []) count taken none some is = absurd (some is)
some_found (Some (byte ∷ bytes)) count taken none some is = (omega arith, none)

both_some : (o : Option (List ℕ)) (P Q R : List ℕ → Type 0) → ((bytes : List ℕ) → P bytes → Q bytes → R bytes) → IfSome o P → IfSome o Q → IfSome o R
both_some None P Q R f h k = tt
both_some (Some bytes) P Q R f h k = f bytes h k

-- before anything is taken no separator has come
nothing_yet : (part : PartMeaning) → PartGoesOn part []
nothing_yet part has = cc

-- ---- a disk to which nothing is written

module _ {D : Type 0} (disk : OfDisk.Ghosts D) where
  -- a call of the disk that only tells its length
  pub unwritten_by : (d d' : D) → disk.content d' ≡ disk.content d → SameImages (disk.images d) (disk.images d') → disk.writes d' ≡ disk.writes d → IsUnwritten disk d d'
  unwritten_by d d' same only no_write = record { same = same; only = λ c now. (only c).1 now; no_write = no_write }

-- ---- the ends

module _ {S K D : Type 0} (source : OfSource.Ghosts S) (sink : OfSink.Ghosts K) (disk : OfDisk.Ghosts D) (command : Command) where
  -- the disk is not empty
  pub finds_store : (s : S) (k k' : K) (d d' : D) (count : ℕ) (status : Status) → IfSome (disk.content d) (λ bytes. count ≡ length bytes) → (count ≡ 0 → ⊥)
      → IsUnwritten disk d d' → GivesLine sink k k' (refusal_line LogExists) StoreRefused status → Ends source sink disk command (devices_of s k d) (devices_of s k' d') status
  finds_store s k k' d d' count status is some unwritten given = inl (record {
    bytes = [];
    took = Consumes-nil (source.left s);
    within = omega arith;
    goes_on = nothing_yet command.part;
    some = some_found (disk.content d) count [] refl some is;
    unwritten = unwritten;
    given = given;
  })

  -- the disk failed at once
  pub fails_first : (s : S) (k : K) (d d' : D) → IsUnwritten disk d d' → Ends source sink disk command (devices_of s k d) (devices_of s k d') DiskFault
  fails_first s k d d' unwritten =
      inr (inl (record { bytes = []; took = Consumes-nil (source.left s); at_most = omega arith; stops = refl; unwritten = unwritten; given = Appends-nil (sink.held k) }))

  -- what was done behind the test of the disk
  pub ends_behind : (s s' : S) (k k' : K) (d d1 d' : D) (status : Status) → IsUnwritten disk d d1 → Ends source sink disk command (devices_of s k d1) (devices_of s' k' d') status
      → Ends source sink disk command (devices_of s k d) (devices_of s' k' d') status
  ends_behind s s' k k' d d1 d' status u (inl e) = inl (record {
    bytes = e.bytes;
    took = e.took;
    within = e.within;
    goes_on = e.goes_on;
    some = subst (λ o. IfSome o (λ before. (0 < length before) × (e.bytes ≡ []))) u.same e.some;
    unwritten = unwritten_then disk d d1 d' u e.unwritten;
    given = e.given;
  })
  ends_behind s s' k k' d d1 d' status u (inr (inl e)) = inr (inl (record {
    bytes = e.bytes;
    took = e.took;
    at_most = e.at_most;
    stops = e.stops;
    unwritten = unwritten_then disk d d1 d' u e.unwritten;
    given = e.given;
  }))
  ends_behind s s' k k' d d1 d' status u (inr (inr (inl e))) = inr (inr (inl (record {
    bytes = e.bytes;
    took = e.took;
    at_most = e.at_most;
    line = e.line;
    refused = e.refused;
    was_empty = subst (λ o. IfSome o (λ before. length before ≡ 0)) u.same e.was_empty;
    unwritten = unwritten_then disk d d1 d' u e.unwritten;
    given = e.given;
  })))
  ends_behind s s' k k' d d1 d' status u (inr (inr (inr (inl e)))) = inr (inr (inr (inl (record {
    bytes = e.bytes;
    took = e.took;
    read = e.read;
    within = e.within;
    line = e.line;
    refused = e.refused;
    was_empty = subst (λ o. IfSome o (λ before. length before ≡ 0)) u.same e.was_empty;
    unwritten = unwritten_then disk d d1 d' u e.unwritten;
    given = e.given;
  }))))
  ends_behind s s' k k' d d1 d' status u (inr (inr (inr (inr e)))) = inr (inr (inr (inr (record {
    bytes = e.bytes;
    took = e.took;
    read = e.read;
    within = e.within;
    was_empty = subst (λ o. IfSome o (λ before. length before ≡ 0)) u.same e.was_empty;
    payloads = e.payloads;
    lines = e.lines;
    made = e.made;
    ends = e.ends;
  }))))

  module _ (s s' : S) (k : K) (d : D) where
    -- the reading stopped
    pub ends_front : (fault : TakeFault) → ReadsFront command.part source s s' fault → Ends source sink disk command (devices_of s k d) (devices_of s' k d) (status_at fault)
    ends_front fault r =
        inr (inl (record { bytes = r.bytes; took = r.took; at_most = r.at_most; stops = r.stops; unwritten = unwritten_none disk d; given = Appends-nil (sink.held k) }))

  module _ (s s' : S) (k k' : K) (d : D) (bytes : List ℕ) (status : Status) (took : Took source s s' bytes) where
    -- memory ran out behind these bytes
    pub runs_out : length bytes ≤ MOST_BYTES + 1 → status ≡ NoMemory → Gave sink k k' [] → Ends source sink disk command (devices_of s k d) (devices_of s' k' d) status
    runs_out few is given =
        inr (inl (record { bytes = bytes; took = took; at_most = few; stops = subst (StopsAfter command.part bytes) (sym is) tt; unwritten = unwritten_none disk d; given = given }))

    -- the command refuses the script
    pub refused_with : (line : List ℕ) → IsRead source s s' → length bytes ≤ MOST_BYTES → command.refuses bytes line
        → IfSome (disk.content d) (λ before. length before ≡ 0) → GivesLine sink k k' line SomeRefused status → Ends source sink disk command (devices_of s k d) (devices_of s' k' d) status
    refused_with line read within refused empty given = inr (inr (inr (inl (record {
      bytes = bytes;
      took = took;
      read = read;
      within = within;
      line = line;
      refused = refused;
      was_empty = empty;
      unwritten = unwritten_none disk d;
      given = given;
    }))))

    -- the program part is refused
    pub ends_refused : length bytes ≤ MOST_BYTES + 1 → IsWhole source s s' bytes → IfSome (disk.content d) (λ before. length before ≡ 0)
        → RefusesWith command.part sink k k' (command.part.accepted (program_part bytes)) status → Ends source sink disk command (devices_of s k d) (devices_of s' k' d) status
    ends_refused few whole empty (inl (line, is, given)) = inr (inr (inl (record {
      bytes = bytes;
      took = took;
      at_most = few;
      line = line;
      refused = record { whole = whole; refused = is };
      was_empty = empty;
      unwritten = unwritten_none disk d;
      given = given;
    })))
    ends_refused few whole empty (inr (is, given)) = runs_out few is given

  module _ (s s' : S) (k k' : K) (d d' : D) (bytes : List ℕ) (P : List (List ℕ) → List ℕ → Type 0) (status : Status) where
    -- the script was read to its end and is accepted, and its store was made or its making stopped
    pub ends_plan : Took source s s' bytes → IsRead source s s' → length bytes ≤ MOST_BYTES → IsAcceptedPart command.part bytes → IfSome (disk.content d) (λ before. length before ≡ 0)
        → ((payloads : List (List ℕ)) (lines : List ℕ) → P payloads lines → command.makes bytes payloads lines)
        → EndsPlan sink disk (k, d) (k', d') P status → Ends source sink disk command (devices_of s k d) (devices_of s' k' d') status
    ends_plan took read few accepted empty planned (inr (is, same, given)) =
        subst (λ x. Ends source sink disk command (devices_of s k d) (devices_of s' k' x) status) (sym same) (runs_out s s' k k' d bytes status took (omega (arith, few)) is given)
    ends_plan took read few accepted empty planned (inl w) = by_making w.ends where
      by_making : EndsStore sink disk (k, d) (k', d') w.payloads w.lines status → Ends source sink disk command (devices_of s k d) (devices_of s' k' d') status
      by_making (inl t) = inl (record {
        bytes = bytes;
        took = took;
        within = few;
        goes_on = λ has. accepted;
        some = both_some (disk.content d) (λ before. length before ≡ 0) (λ before. 0 < length before) (λ before. (0 < length before) × (bytes ≡ [])) (λ before none some. absurd (omega (arith, none, some))) empty t.some;
        unwritten = t.unwritten;
        given = t.given;
      })
      by_making (inr m) = inr (inr (inr (inr (record {
        bytes = bytes;
        took = took;
        read = read;
        within = few;
        was_empty = empty;
        payloads = w.payloads;
        lines = w.lines;
        made = planned w.payloads w.lines w.planned;
        ends = m;
      }))))
