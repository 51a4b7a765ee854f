-- What was taken of a source whose bytes are known, and lines without a separator.
use Rattle.std.proofs.Common.{◌≡◌, ◌⊎◌, inl, inr, ℕ, ◌≤◌, Bool, true, false, cond, List, [], ◌∷◌, ◌++◌, length, Option, Some, None, refl, ap, ◌∙◌, append-nil, length-append, arith}
use Rattle.std.specs.Prelude.{◌||◌}
use Rattle.std.specs.List.{list_any}
use Rattle.std.specs.Io.KnownBytes.{Consumes, IsAtEnd}
use Rattle.edit_journal.specs.declared.line.Line.{Line}
use Rattle.lens_io.specs.declared.source.Source as OfSource
use Rattle.script_input.specs.Coming.{IsWhole}
use Rattle.script_input.specs.Lines.{is_separator_line, behind_separator, program_part}

pub few_taken : (bytes : List ℕ) (left' : Option (List ℕ)) (taken : List ℕ) → Consumes (Some bytes) left' taken → length taken ≤ length bytes
few_taken bytes None taken h = absurd h
few_taken bytes (Some rest) taken h = omega (arith, ap length h, length-append taken rest)

-- all that the source had was taken
pub all_taken : (bytes : List ℕ) (left' : Option (List ℕ)) (taken : List ℕ) → Consumes (Some bytes) left' taken → IsAtEnd left' → bytes ≡ taken
all_taken bytes None taken h end = absurd h
all_taken bytes (Some rest) taken h end = h ∙ ap (λ r. taken ++ r) end ∙ append-nil taken

-- whatever follows these bytes, the program part stays as it is
abbrev pub IsFixed : List ℕ → Type 0
IsFixed bytes = (more : List ℕ) → program_part (bytes ++ more) ≡ program_part bytes

pub fixed_or_read : {S : Type 0} (source : OfSource.Ghosts S) (old new : S) (bytes : List ℕ) → IsWhole source old new bytes → IsFixed bytes ⊎ IsAtEnd (source.left new)
fixed_or_read source old new bytes (inl part) = inl part.stays
fixed_or_read source old new bytes (inr end) = inr end.1

-- if the separator has come, the program part of all bytes is that of those taken
pub part_of_all : (bytes : List ℕ) (left' : Option (List ℕ)) (taken : List ℕ) → Consumes (Some bytes) left' taken → IsFixed taken ⊎ IsAtEnd left' → program_part bytes ≡ program_part taken
part_of_all bytes None taken h whole = absurd h
part_of_all bytes (Some rest) taken h (inl fixed) = ap program_part h ∙ fixed rest
part_of_all bytes (Some rest) taken h (inr end) = ap program_part (all_taken bytes (Some rest) taken h end)

pub none_behind : (lines : List Line) → list_any is_separator_line lines ≡ false → behind_separator lines ≡ []
none_behind [] h = refl
none_behind (line ∷ lines) h = by_test (is_separator_line line) (λ e. none_behind lines e) h where
  by_test : (b : Bool) → (list_any is_separator_line lines ≡ false → behind_separator lines ≡ []) → (b || list_any is_separator_line lines) ≡ false → cond b lines (behind_separator lines) ≡ []
  by_test true f e = cc
  by_test false f e = f e
