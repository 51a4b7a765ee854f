-- Every way in which the answering of a journal ends is crash-safe.
use Rattle.std.proofs.Common.{◌≡◌, inl, inr, ℕ, ◌≤◌, List, [], ◌++◌, length, Option, refl, sym, subst, append-nil, arith, length-append}
use Rattle.std.specs.Io.KnownBytes.{Appends}
use Rattle.std.proofs.KnownBytes.{Appends-trans}
use Rattle.lens_io.specs.Calls.{Gave}
use Rattle.lens_io.specs.DiskRuns.{LeavesOnly}
use Rattle.lens_io.specs.declared.sink.Sink as OfSink
use Rattle.lens_io.specs.declared.disk.Disk as OfDisk
use Rattle.gate_log.specs.LogOnDisk.{LogState, HoldsPayloads}
use Rattle.store_run.specs.Crash.{IsAcknowledged, IsCrashSafe}
use Rattle.store_run.specs.Effects.{HoldsFirst, StandsOn, Adds, StopsStoring}
use Rattle.store_run.specs.OkLines.{ok_lines}
use Rattle.store_run.specs.StoreRuns.{AreAnswers, text_of, kept_of}
use Rattle.store_run.specs.declared.session.StoredAnswer.{StoredAnswer}
use Rattle.store_run.specs.declared.stop.Stop.{Stop}
use Rattle.store_run.specs.declared.stop.Stop.TheVariants.{LogFull, SourceFault, SinkFault, DiskFault, TooLong, NoMemory}
use Rattle.store_run.proofs.OkLineCounts.{count_answers, count_all, count_plain, begun_front, begun_kept}
use Rattle.store_run.proofs.Effects.{first_more}
use Rattle.store_run.proofs.Moments.{leaves_more}

-- an image that holds the first `done` of the payloads, where as many `ok` lines were given
exactly : (base done begun : List (List ℕ)) (given c : List ℕ) → ok_lines given ≡ length done → HoldsPayloads (base ++ done) c → IsAcknowledged base (done ++ begun) given c
exactly base done begun given c count h = record { front = done; rest = begun; parts = refl; holds = h; least = omega (arith, count); most = omega (arith, count) }

-- an image that holds one more
with_one : (base done begun : List (List ℕ)) (given c : List ℕ) → ok_lines given ≡ length done → length begun ≤ 1 → HoldsPayloads (base ++ (done ++ begun)) c → IsAcknowledged base (done ++ begun) given c
with_one base done begun given c count few h = record {
  front = done ++ begun;
  rest = [];
  parts = sym (append-nil (done ++ begun));
  holds = h;
  least = omega (arith, count, length-append done begun);
  most = omega (arith, count, few, length-append done begun);
}

behind_nothing : (old new : Option (List ℕ)) (text : List ℕ) → Appends old new text → Appends old new (text ++ [])
behind_nothing old new text h = subst (λ (x : List ℕ). Appends old new x) (sym (append-nil text)) h

module _ {K D State : Type 0} (sink : OfSink.Ghosts K) (disk : OfDisk.Ghosts D)
    (only_now : (d : D) (c : List ℕ) → disk.images_since d (disk.moment d) c → disk.images d c)
    (images_hold : (l : LogState) (d : D) (base : List (List ℕ)) (c : List ℕ) → StandsOn disk d l base → disk.images d c → HoldsPayloads base c) where
  -- all answers were given, and then bytes in which there is no `ok` line
  pub safe_answers : (k k' k'' : K) (d d' : D) (l l' : LogState) (steps : List (State × StoredAnswer)) (more : List ℕ) → AreAnswers steps → ok_lines more ≡ 0
      → Adds sink disk (k, d, l) (k', d', l') (text_of steps) (kept_of steps) → Gave sink k' k'' more
      → IsCrashSafe sink disk (k, d, l) (k'', d', l') (kept_of steps)
  safe_answers k k' k'' d d' l l' steps more are none a given =
      let count : ok_lines (text_of steps ++ more) ≡ length (kept_of steps) = omega (arith, count_answers steps more are, none) in
      record {
        given = text_of steps ++ more;
        appends = Appends-trans (sink.held k) (sink.held k') (sink.held k'') (text_of steps) more a.given given;
        now = λ base s c is. record {
          front = kept_of steps;
          rest = [];
          parts = sym (append-nil (kept_of steps));
          holds = images_hold l' d' (base ++ kept_of steps) c (a.stored base s) is;
          least = omega (arith, count);
          most = omega (arith, count);
        };
        moments = a.moments;
      }

  -- the log stands with what is done, and bytes were given behind in which there is no `ok` line
  safe_done : (k k' : K) (d d' : D) (l l' : LogState) (done : List (State × StoredAnswer)) (begun : List (List ℕ)) (more : List ℕ) → AreAnswers done → ok_lines more ≡ 0
      → Gave sink k k' (text_of done ++ more) → ((base : List (List ℕ)) → StandsOn disk d l base → StandsOn disk d' l' (base ++ kept_of done))
      → ((base : List (List ℕ)) → StandsOn disk d l base → LeavesOnly disk d d' (HoldsFirst base (kept_of done ++ [])))
      → IsCrashSafe sink disk (k, d, l) (k', d', l') (kept_of done ++ begun)
  safe_done k k' d d' l l' done begun more are none given stored moments =
      let count : ok_lines (text_of done ++ more) ≡ length (kept_of done) = omega (arith, count_answers done more are, none) in
      record {
        given = text_of done ++ more;
        appends = given;
        now = λ base s c is. exactly base (kept_of done) begun (text_of done ++ more) c count (images_hold l' d' (base ++ kept_of done) c (stored base s) is);
        moments = λ base s. leaves_more disk d d' (HoldsFirst base (kept_of done ++ [])) (HoldsFirst base (kept_of done ++ begun))
            (λ c h. first_more base (kept_of done) begun c (subst (λ (x : List (List ℕ)). HoldsFirst base x c) (append-nil (kept_of done)) h)) (moments base s);
      }

  -- the answering stopped
  pub safe_stop : (stop : Stop) (k k' : K) (d d' : D) (l l' : LogState) (done begun : List (State × StoredAnswer)) → AreAnswers done → AreAnswers begun → length begun ≤ 1
      → StopsStoring sink disk (k, d, l) (k', d', l') stop (text_of done) (text_of begun) (kept_of done) (kept_of begun)
      → IsCrashSafe sink disk (k, d, l) (k', d', l') (kept_of done ++ kept_of begun)
  safe_stop SinkFault k k' d d' l l' done begun are are_begun few s =
      let front = s.given.0 in
      let count : ok_lines (text_of done ++ front) ≡ length (kept_of done) = omega (arith, count_answers done front are, count_plain front (begun_front begun front few are_begun s.given.1)) in
      record {
        given = text_of done ++ front;
        appends = s.given.2;
        now = λ base h c is. with_one base (kept_of done) (kept_of begun) (text_of done ++ front) c count (begun_kept begun few) (images_hold l' d' (base ++ (kept_of done ++ kept_of begun)) c (s.stored base h) is);
        moments = s.moments;
      }
  safe_stop DiskFault k k' d d' l l' done begun are are_begun few s =
      let count = count_all done are in
      record {
        given = text_of done;
        appends = s.given;
        now = λ base h c is. elim ((s.stored base h).0 c is) [
          | inl without ↦ exactly base (kept_of done) (kept_of begun) (text_of done) c count without
          | inr with ↦ with_one base (kept_of done) (kept_of begun) (text_of done) c count (begun_kept begun few) with
        ];
        moments = s.moments;
      }
  safe_stop LogFull k k' d d' l l' done begun are are_begun few s = safe_done k k' d d' l l' done (kept_of begun) [] are refl (behind_nothing (sink.held k) (sink.held k') (text_of done) s.given) s.stored s.moments
  safe_stop SourceFault k k' d d' l l' done begun are are_begun few s = safe_done k k' d d' l l' done (kept_of begun) [] are refl (behind_nothing (sink.held k) (sink.held k') (text_of done) s.given) s.stored s.moments
  safe_stop TooLong k k' d d' l l' done begun are are_begun few s = safe_done k k' d d' l l' done (kept_of begun) [] are refl (behind_nothing (sink.held k) (sink.held k') (text_of done) s.given) s.stored s.moments
  safe_stop NoMemory k k' d d' l l' done begun are are_begun few s = safe_done k k' d d' l l' done (kept_of begun) [] are refl (behind_nothing (sink.held k) (sink.held k') (text_of done) s.given) s.stored s.moments

  -- the log was full, and then the line of that refusal was given, or a prefix of it
  pub safe_refusal : (k k' k'' : K) (d d' : D) (l l' : LogState) (done begun : List (State × StoredAnswer)) (more : List ℕ) → AreAnswers done → ok_lines more ≡ 0
      → StopsStoring sink disk (k, d, l) (k', d', l') LogFull (text_of done) (text_of begun) (kept_of done) (kept_of begun) → Gave sink k' k'' more
      → IsCrashSafe sink disk (k, d, l) (k'', d', l') (kept_of done ++ kept_of begun)
  safe_refusal k k' k'' d d' l l' done begun more are none s given =
      safe_done k k'' d d' l l' done (kept_of begun) more are none (Appends-trans (sink.held k) (sink.held k') (sink.held k'') (text_of done) more s.given given) s.stored s.moments
