use Rattle.std.proofs.Common.{◌≡◌, ◌+◌, ◌-◌, ◌<◌, None, Some, Option, List, ℕ, take, drop, length, refl, ap, subst, ap₂, ◌∙◌}
use Rattle.std.specs.List.{position}
use Rattle.edit_journal.specs.Lines.{line_of}
use Rattle.edit_journal.specs.Pieces.{FedLines, take_first}
use Rattle.edit_journal.specs.Held.{ended_part, lines_held}
use Rattle.edit_journal.specs.declared.line.Line.{Line}
use Rattle.edit_journal.proofs.FirstEnds.{is_end}
use Rattle.edit_journal.proofs.LinesHeld.{none_left, taken, holds_rest}
use Rattle.edit_journal.proofs.lines.Lines.take_line_into.Goals as goal

abbrev answer : Line → FedLines → Option Line × FedLines
answer line rest = (Some line, rest)

-- the line and the lines left, as the fields have them
moved : (line same : Line) (start end front rest : FedLines) → line ≡ same → front ≡ start → end ≡ rest → answer same rest ≡ take_first front → answer line end ≡ take_first start
moved line same start end front rest is_line is_start is_end h = ap₂ answer is_line is_end ∙ h ∙ ap take_first is_start

pub returns-in_default-clause-taken : goal.returns-in_default-clause-taken
returns-in_default-clause-taken c =
    let inside = c.self.inside in
    let none : None ≡ position is_end (ended_part inside.bytes.items inside.next inside.begun) =
    subst (λ (l : List ℕ). None ≡ position is_end (take (inside.begun - inside.next) (drop inside.next l))) c.deref.ensures.value c.in_default.ensures.at in
    rw (← c.self.view_is) (none_left inside.bytes.items inside.next inside.begun c.self.invariant none)

pub invariant_of-self-else-self : goal.invariant_of-self-else-self
invariant_of-self-else-self c =
    let inside = c.self.inside in
    let found : Some c.in-Some.at ≡ position is_end (ended_part inside.bytes.items inside.next inside.begun) =
    subst (λ (l : List ℕ). Some c.in-Some.at ≡ position is_end (take (inside.begun - inside.next) (drop inside.next l))) c.deref.ensures.value c.in-Some.ensures.at in
    let within : c.in-Some.at < length (ended_part inside.bytes.items inside.next inside.begun) =
    subst (λ (l : List ℕ). c.in-Some.at < length (take (inside.begun - inside.next) (drop inside.next l))) c.deref.ensures.value c.in-Some.ensures.within in
    holds_rest inside.bytes.items inside.next inside.begun c.self.invariant c.in-Some.at found within c.if-self.false

pub returns-then-self-clause-taken : goal.returns-then-self-clause-taken
returns-then-self-clause-taken c =
    let inside = c.self.inside in
    let bytes = inside.bytes.items in
    let at = c.in-Some.at in
    let found : Some at ≡ position is_end (ended_part bytes inside.next inside.begun) =
    subst (λ (l : List ℕ). Some at ≡ position is_end (take (inside.begun - inside.next) (drop inside.next l))) c.deref.ensures.value c.in-Some.ensures.at in
    let within : at < length (ended_part bytes inside.next inside.begun) =
    subst (λ (l : List ℕ). at < length (take (inside.begun - inside.next) (drop inside.next l))) c.deref.ensures.value c.in-Some.ensures.within in
    let line = c.in_ok-put.ensures.line ∙ ap (λ (l : List ℕ). line_of (take at (take (inside.begun - inside.next) (drop inside.next l)))) c.deref.ensures.value in
    moved _ _ _ _ _ _ line c.self.view_is (ap (λ (l : List ℕ). lines_held l 0) c.drop_front.ensures) (taken bytes inside.next inside.begun c.self.invariant at found within)

pub returns-else-self-clause-taken : goal.returns-else-self-clause-taken
returns-else-self-clause-taken c =
    let inside = c.self.inside in
    let bytes = inside.bytes.items in
    let at = c.in-Some.at in
    let found : Some at ≡ position is_end (ended_part bytes inside.next inside.begun) =
    subst (λ (l : List ℕ). Some at ≡ position is_end (take (inside.begun - inside.next) (drop inside.next l))) c.deref.ensures.value c.in-Some.ensures.at in
    let within : at < length (ended_part bytes inside.next inside.begun) =
    subst (λ (l : List ℕ). at < length (take (inside.begun - inside.next) (drop inside.next l))) c.deref.ensures.value c.in-Some.ensures.within in
    let line = c.in_ok-put.ensures.line ∙ ap (λ (l : List ℕ). line_of (take at (take (inside.begun - inside.next) (drop inside.next l)))) c.deref.ensures.value in
    moved _ _ _ _ _ _ line c.self.view_is refl (taken bytes inside.next inside.begun c.self.invariant at found within)
