-- Records whose snapshots are of the triple that stands end at the last triple of the run over their changes.
use Rattle.std.proofs.Common.{◌≡◌, ℕ, ◌+◌, List, [], ◌∷◌, ◌++◌, length, Option, Some, None, option_map, Ok, Err, refl, sym, ap, subst, ◌∙◌, arith}
use Rattle.std.specs.Prelude.{option_to_list}
use Rattle.texts.specs.declared.side.Side.{Side}
use Rattle.edit_module.specs.Changes.{ChangeTree, one, group}
use Rattle.edit_module.specs.Words.{WordTree}
use Rattle.lens_forms.specs.Forms.{FormTree, left_type, right_type}
use Rattle.lens_core.specs.Translation.{translate}
use Rattle.edit_session.specs.Step.{TripleTree, Stepped, alone, step}
use Rattle.edit_session.specs.Run.{AnswerTree, answered, group_answered, take_change}
use Rattle.store_session.specs.Stands.{Standing, step_of}
use Rattle.store_session.specs.Written.{WrittenRecord, the_version, the_change, the_snapshot, StandsAfter, AreWritten, KeepsTriple, SnapshotsKeep, change_written, changes_written, RunsTo}

module _ (F : Type 0) where
  one_taken : (o : Option Stepped) (t : TripleTree) (side : Side) (m : TripleTree × List WordTree) → option_map alone o ≡ Some (Ok m)
      → (a : AnswerTree F) × (option_map (answered {F = F} t side) o ≡ Some (m.0, a))
  one_taken (Some (Ok s)) t side m h =
      let same : s.0 ≡ m.0 = cc in
      let a = answered {F = F} t side (Ok s) in
      (a.1, ap (λ (x : TripleTree). Some (x, a.1)) same)
  one_taken (Some (Err why)) t side m h = cc
  one_taken None t side m h = cc

  taken : (l : FormTree) (t u : TripleTree) (c : ChangeTree) (words : List WordTree) → step_of l t c ≡ Some (Ok (u, words))
      → (a : AnswerTree F) × (take_change {F = F} (left_type l) (right_type l) (translate l) t c ≡ Some (u, a))
  taken l t u (one e) words h = one_taken (step (left_type l) (right_type l) (translate l) t e) t e.0 (u, words) h
  taken l t u (group es) words h =
      let a = group_answered {F = F} t es (Ok (u, words)) in
      (a.1, ap (option_map (group_answered {F = F} t es)) h)

  run_step : (l : FormTree) (t u end : TripleTree) (c : ChangeTree) (cs : List ChangeTree) (a : AnswerTree F)
      → take_change {F = F} (left_type l) (right_type l) (translate l) t c ≡ Some (u, a) → RunsTo F l u cs end → RunsTo F l t (c ∷ cs) end
  run_step l t u end c cs a e r = ((u, a) ∷ r.0, rw e (rw r.1 refl), r.2)

  record_step : (w : WrittenRecord) (s next : Standing) (end : TripleTree) (cs : List ChangeTree) → StandsAfter s w next → KeepsTriple s w
      → RunsTo F next.form next.triple cs end → RunsTo F s.form s.triple (option_to_list (change_written w) ++ cs) end
  record_step the_version s next end cs h k r = subst (λ (x : Standing). RunsTo F x.form x.triple cs end) h.1 r
  record_step (the_change c) s next end cs h k r =
      let a = taken s.form s.triple next.triple c h.1 h.2 in
      run_step s.form s.triple next.triple end c cs a.0 a.1 (subst (λ (l : FormTree). RunsTo F l next.triple cs end) (ap (λ (x : Standing). x.form) h.3) r)
  record_step (the_snapshot now) s next end cs h k r =
      subst (λ (t : TripleTree). RunsTo F s.form t cs end) k (subst (λ (x : Standing). RunsTo F x.form x.triple cs end) h.3 r)

  pub run_of : (s end : Standing) (ws : List (List ℕ × WrittenRecord)) → AreWritten s ws end → SnapshotsKeep s ws → RunsTo F s.form s.triple (changes_written ws) end.triple
  run_of s end [] h k = ([], refl, ap (λ (x : Standing). x.triple) (sym h))
  run_of s end (w ∷ ws) h k = record_step w.1 s h.0 end.triple (changes_written ws) h.2 k.0 (run_of h.0 end ws h.3 (k.1 h.0 h.2))

-- each change counts one, and no other record counts
count_step : (w : WrittenRecord) (s next : Standing) (cs : List ChangeTree) → StandsAfter s w next → next.count + length cs ≡ s.count + length (option_to_list (change_written w) ++ cs)
count_step the_version s next cs h = ap (λ (x : Standing). x.count + length cs) h.1
count_step (the_change c) s next cs h = let e = ap (λ (x : Standing). x.count) h.3 in omega (arith, e)
count_step (the_snapshot now) s next cs h = ap (λ (x : Standing). x.count + length cs) h.3

pub count_of : (s end : Standing) (ws : List (List ℕ × WrittenRecord)) → AreWritten s ws end → end.count ≡ s.count + length (changes_written ws)
count_of s end [] h = let e = ap (λ (x : Standing). x.count) h in omega (arith, e)
count_of s end (w ∷ ws) h = count_of h.0 end ws h.3 ∙ count_step w.1 s h.0 (changes_written ws) h.2
