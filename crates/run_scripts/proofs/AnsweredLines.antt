-- Lines that are answered one after another, and the answers that are written on the way.
use Rattle.std.proofs.Common.{◌≡◌, ℕ, List, [], ◌∷◌, ◌++◌, Bool, Option, Result, Ok, Err, refl, sym, ap, subst, ◌∙◌, append_assoc, append-nil}
use Rattle.std.specs.Prelude.{OnOk, IfErr, MatchResult}
use Rattle.std.proofs.KnownBytes.{Appends-nil, Appends-trans}
use Rattle.lens_io.specs.Content.{AppendsFront}
use Rattle.edit_journal.specs.declared.line.Line.{Line}
use Rattle.run_scripts.specs.Answers.{Answer}
use Rattle.run_scripts.specs.LineRuns.{Come, come, written_after}
use Rattle.run_scripts.specs.declared.progress.Progress.{Progress}
use Rattle.run_scripts.specs.LineEnds.{GivesAnswers, WritesPart, AnswersLines, StopsLines}
use Rattle.run_scripts.specs.declared.stopped.Stopped.{Stopped}
use Rattle.run_scripts.specs.declared.stopped.Stopped.TheVariants.{SinkFault}
use Rattle.run_scripts.proofs.Prefixes.{part_behind}

abbrev make : ℕ → Bool → List ℕ → Come
make n r x = record { number = n; refused = r; text = x }

-- a state, and the progress with it
abbrev pub with_progress : {T : Type 0} → T → Progress → T × Progress
with_progress t p = (t, p)

-- answers that are written are behind those before
come_given : (given : List ℕ) (p p' : Progress) (held held' : Option (List ℕ)) → (g : GivesAnswers p p' held held') → come given p ≡ come (given ++ g.given) p'
come_given given p p' held held' g =
    ap (λ n. make n p.refused (given ++ p.text.items)) (sym g.number)
    ∙ ap (λ r. make p'.number r (given ++ p.text.items)) (sym g.refused)
    ∙ ap (λ x. make p'.number p'.refused x) (ap (λ x. given ++ x) g.kept ∙ sym (append_assoc given g.given p'.text.items))

module _ {T : Type 0} (answer : T → ℕ → Line → Option (T × Answer)) where
  pub nothing_answered : (old : T × Progress) (held : Option (List ℕ)) → AnswersLines answer old [] held held old
  nothing_answered old held = record {
    text = [];
    appends = Appends-nil held;
    goes = λ given more. ap (λ x. written_after answer old.0 (come x old.1) more) (sym (append-nil given));
  }

  -- a line was handled
  pub line_answered : (old new : T × Progress) (line : Line) (held : Option (List ℕ))
      → ((given : List ℕ) (lines : List Line) → written_after answer old.0 (come given old.1) (line ∷ lines) ≡ written_after answer new.0 (come given new.1) lines)
      → AnswersLines answer old (line ∷ []) held held new
  line_answered old new line held h = record {
    text = [];
    appends = Appends-nil held;
    goes = λ given more. h given more ∙ ap (λ x. written_after answer new.0 (come x new.1) more) (sym (append-nil given));
  }

  -- answers were written
  pub answers_given : (old : T × Progress) (p : Progress) (held held' : Option (List ℕ)) → GivesAnswers old.1 p held held' → AnswersLines answer old [] held held' (old.0, p)
  answers_given old p held held' g = record {
    text = g.given;
    appends = g.appends;
    goes = λ given more. ap (λ c. written_after answer old.0 c more) (come_given given old.1 p held held' g);
  }

  -- the run stopped when the answers that were kept were written, or a prefix of them
  pub stops_given : (old : T × Progress) (ended : List Line) (held held' : Option (List ℕ)) (stopped : Stopped) → WritesPart held held' old.1.text.items stopped
      → StopsLines answer old ended held held' stopped
  stops_given old ended held held' stopped w = record {
    lines = [];
    rest = ended;
    parts = refl;
    text = old.1.text.items;
    number = old.1.number;
    refused = old.1.refused;
    state = old.0;
    goes = λ given more. refl;
    writes = w;
  }

  -- the same where the progress is as before
  pub stops_unchanged : (old : T × Progress) (p : Progress) (ended : List Line) (held held' : Option (List ℕ)) (stopped : Stopped) → come [] p ≡ come [] old.1 → WritesPart held held' p.text.items stopped
      → StopsLines answer old ended held held' stopped
  stops_unchanged old p ended held held' stopped same w =
      stops_given old ended held held' stopped (subst (λ x. WritesPart held held' x stopped) (ap (λ (c : Come). c.text) same) w)

  -- a stop at some lines is one at them and any that follow
  pub stops_before : (old : T × Progress) (ended more : List Line) (held held' : Option (List ℕ)) (stopped : Stopped) → StopsLines answer old ended held held' stopped
      → StopsLines answer old (ended ++ more) held held' stopped
  stops_before old ended more held held' stopped s = record {
    lines = s.lines;
    rest = s.rest ++ more;
    parts = ap (λ l. l ++ more) s.parts ∙ append_assoc s.lines s.rest more;
    text = s.text;
    number = s.number;
    refused = s.refused;
    state = s.state;
    goes = s.goes;
    writes = s.writes;
  }

  module _ (old mid : T × Progress) (lines : List Line) (held held' : Option (List ℕ)) (a : AnswersLines answer old lines held held' mid) where
    -- more lines
    pub answers_on : (new : T × Progress) (next : List Line) (held'' : Option (List ℕ)) → AnswersLines answer mid next held' held'' new → AnswersLines answer old (lines ++ next) held held'' new
    answers_on new next held'' b = record {
      text = a.text ++ b.text;
      appends = Appends-trans held held' held'' a.text b.text a.appends b.appends;
      goes = λ given more.
          ap (λ l. written_after answer old.0 (come given old.1) l) (append_assoc lines next more)
          ∙ a.goes given (next ++ more)
          ∙ b.goes (given ++ a.text) more
          ∙ ap (λ x. written_after answer new.0 (come x new.1) more) (append_assoc given a.text b.text);
    }

    -- a stop at the lines that follow
    pub stops_on : (whole next : List Line) (held'' : Option (List ℕ)) (stopped : Stopped) → whole ≡ lines ++ next → StopsLines answer mid next held' held'' stopped
        → StopsLines answer old whole held held'' stopped
    stops_on whole next held'' stopped e s = record {
      lines = lines ++ s.lines;
      rest = s.rest;
      parts = e ∙ ap (λ l. lines ++ l) s.parts ∙ sym (append_assoc lines s.lines s.rest);
      text = a.text ++ s.text;
      number = s.number;
      refused = s.refused;
      state = s.state;
      goes = λ given more.
          ap (λ l. written_after answer old.0 (come given old.1) l) (append_assoc lines s.lines more)
          ∙ a.goes given (s.lines ++ more)
          ∙ s.goes (given ++ a.text) more
          ∙ ap (λ x. written_after answer s.state (make s.number s.refused x) more) (append_assoc given a.text s.text);
      writes = part_behind stopped held held' held'' a.text s.text a.appends s.writes;
    }

    -- answers were written behind the lines, or the sink failed at them
    pub then_given : (r : Result (Unit {0}) Stopped) (p : Progress) (held'' : Option (List ℕ)) → OnOk r (GivesAnswers mid.1 p held' held'')
        → IfErr r (λ stopped. (stopped ≡ SinkFault) × AppendsFront held' held'' mid.1.text.items)
        → MatchResult r (λ _. AnswersLines answer old lines held held'' (mid.0, p)) (StopsLines answer old lines held held'')
    then_given (Ok u) p held'' g s =
        subst (λ l. AnswersLines answer old l held held'' (mid.0, p)) (append-nil lines) (answers_on (mid.0, p) [] held'' (answers_given mid p held' held'' g))
    then_given (Err stopped) p held'' g s =
        stops_on lines [] held'' stopped (sym (append-nil lines)) (stops_given mid [] held' held'' stopped (subst (WritesPart held' held'' mid.1.text.items) (sym s.0) s.1))
