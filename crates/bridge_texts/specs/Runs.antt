-- The runs of a bridge between two texts, as lists. Read it from the end: `far_spliced` and `near_spliced` are the runs
-- after a splice of one of the texts, and `carried` is what the near splice is for the far text.
use Rattle.std.specs.Prelude.{ℕ, ◌+◌, ◌-◌, Bool, true, false, List, [], ◌∷◌, ◌++◌, nat_eq, nat_le}
use Rattle.std.specs.Prelude.{if◌then◌else◌, Option, Some, None, option_and_then}
use Rattle.texts.specs.Characters.{character_count, splice}
use Rattle.bridge_texts.specs.declared.run.Run.{Run}
use Rattle.bridge_texts.specs.declared.run.Run.TheVariants.{Kept, Added, Gone}
use Rattle.bridge_texts.specs.declared.run.End.{End}
use Rattle.bridge_texts.specs.declared.run.End.TheVariants.{Near, Far}

-- how many characters of the near text, or of the far one, a run has
abbrev pub size_at : End → Run → ℕ
size_at Near (Kept n) = n
size_at Near (Added n) = 0
size_at Near (Gone n) = n
size_at Far (Kept n) = n
size_at Far (Added n) = n
size_at Far (Gone n) = 0

-- a run of the same sort with n characters, and one with n characters fewer
abbrev pub of_size : ℕ → Run → Run
of_size n (Kept m) = Kept n
of_size n (Added m) = Added n
of_size n (Gone m) = Gone n

abbrev pub less_by : ℕ → Run → Run
less_by n (Kept m) = Kept (m - n)
less_by n (Added m) = Added (m - n)
less_by n (Gone m) = Gone (m - n)

-- ---- runs up to a place of one of the texts, and the others

abbrev pub with_front : Run → List Run × List Run → List Run × List Run
with_front r parts = (r ∷ parts.0, parts.1)

-- the first run and the others, cut n characters behind their beginning: `at_once` says that n is 0, `passes` that the
-- first run has at most n characters, and `deeper` has the others, cut where that run ends
abbrev pub cut_at : Bool → Bool → ℕ → Run → List Run → List Run × List Run → List Run × List Run
cut_at true passes n r rs deeper = ([], r ∷ rs)
cut_at false true n r rs deeper = with_front r deeper
cut_at false false n r rs deeper = (of_size n r ∷ [], less_by n r ∷ rs)

-- the runs up to n characters of the near text, or of the far one, and the others; behind the last run all is kept
abbrev pub cut : End → List Run → ℕ → List Run × List Run
cut e [] n = (Kept n ∷ [], [])
cut e (r ∷ rs) n = cut_at (nat_eq n 0) (nat_le (size_at e r) n) n r rs (cut e rs (n - size_at e r))

-- the same cut twice: the runs up to n characters, those of the next k characters, and the others
abbrev pub cut_again : End → ℕ → List Run × List Run → List Run × List Run × List Run
cut_again e k parts = (parts.0, (cut e parts.1 k).0, (cut e parts.1 k).1)

abbrev pub cut_range : End → List Run → ℕ → ℕ → List Run × List Run × List Run
cut_range e rs n k = cut_again e k (cut e rs n)

-- ---- parts of runs

-- whether a run is in the far text alone
abbrev pub is_added_run : Run → Bool
is_added_run (Kept n) = false
is_added_run (Added n) = true
is_added_run (Gone n) = false

-- what the far text has added, at the beginning of the runs, and the runs behind it
abbrev pub added_front : List Run → List Run
added_front (Added n ∷ rs) = Added n ∷ added_front rs
added_front rs = []

abbrev pub behind_added : List Run → List Run
behind_added (Added n ∷ rs) = behind_added rs
behind_added rs = rs

-- the runs when the far text has lost all that they have there
abbrev pub all_gone : List Run → List Run
all_gone [] = []
all_gone (Kept n ∷ rs) = Gone n ∷ all_gone rs
all_gone (Added n ∷ rs) = all_gone rs
all_gone (Gone n ∷ rs) = Gone n ∷ all_gone rs

-- the runs when the near text has lost all that they have there
abbrev pub all_added : List Run → List Run
all_added [] = []
all_added (Kept n ∷ rs) = all_added rs
all_added (Added n ∷ rs) = Added n ∷ all_added rs
all_added (Gone n ∷ rs) = all_added rs

-- how many characters of one of the texts the runs have
abbrev pub total : End → List Run → ℕ
total e [] = 0
total e (r ∷ rs) = size_at e r + total e rs

-- ---- runs in their shortest form

-- whether a run has no characters
abbrev pub is_empty_run : Run → Bool
is_empty_run (Kept n) = nat_eq n 0
is_empty_run (Added n) = nat_eq n 0
is_empty_run (Gone n) = nat_eq n 0

-- two neighbours, as one run where they are of one sort
abbrev pub joined_run : Run → Run → List Run
joined_run (Kept n) (Kept m) = Kept (n + m) ∷ []
joined_run (Added n) (Added m) = Added (n + m) ∷ []
joined_run (Gone n) (Gone m) = Gone (n + m) ∷ []
joined_run q r = q ∷ r ∷ []

-- the one run that two neighbours are, or both
abbrev pub one_or_both : Option Run → Run → Run → List Run
one_or_both (Some both) q r = both ∷ []
one_or_both None q r = q ∷ r ∷ []

-- runs with one more at the end
abbrev pub and_run : List Run → Run → List Run
and_run [] r = r ∷ []
and_run (q ∷ []) r = joined_run q r
and_run (q ∷ p ∷ rs) r = q ∷ and_run (p ∷ rs) r

abbrev pub add_run : List Run → Run → List Run
add_run rs r = if is_empty_run r then rs else and_run rs r

-- runs with all others behind them, one by one
abbrev pub add_runs : List Run → List Run → List Run
add_runs rs [] = rs
add_runs rs (q ∷ qs) = add_runs (add_run rs q) qs

-- whether a run is in both texts
abbrev pub is_kept_run : Run → Bool
is_kept_run (Kept n) = true
is_kept_run (Added n) = false
is_kept_run (Gone n) = false

-- behind the last run all is kept, so a kept run at the end says nothing
abbrev pub without_kept_end : List Run → List Run
without_kept_end [] = []
without_kept_end (Kept n ∷ []) = []
without_kept_end (Added n ∷ []) = Added n ∷ []
without_kept_end (Gone n ∷ []) = Gone n ∷ []
without_kept_end (q ∷ p ∷ rs) = q ∷ without_kept_end (p ∷ rs)

-- no run is empty, neighbours differ in sort, and the last run is not kept
abbrev pub shortest : List Run → List Run
shortest rs = without_kept_end (add_runs [] rs)

-- ---- a splice of one of the texts

-- a splice: the place where it begins, how many characters it takes away, and the text that it puts there
abbrev pub Piece : Type 0
Piece = ℕ × ℕ × List ℕ

-- the runs when n characters of the far text stand where the middle part was
abbrev pub far_replaced : List Run × List Run × List Run → ℕ → List Run
far_replaced parts n = parts.0 ++ (Added n ∷ (all_gone parts.1 ++ parts.2))

-- the runs after a splice of the far text: k characters from place i on, with n characters in their place
abbrev pub far_spliced : List Run → ℕ → ℕ → ℕ → List Run
far_spliced rs i k n = far_replaced (cut_range Far rs i k) n

-- what the far text has added at a place stands before what comes to that place of the near text
abbrev pub behind_gap : List Run × List Run → List Run × List Run
behind_gap parts = (parts.0 ++ added_front parts.1, behind_added parts.1)

-- the runs up to place i of the near text, those of the next k characters, and the others
abbrev pub near_range : List Run → ℕ → ℕ → List Run × List Run × List Run
near_range rs i k = cut_again Near k (behind_gap (cut Near rs i))

-- the runs when n characters of both texts stand where the middle part of the near text was; what the far text has
-- added there stays
abbrev pub near_replaced : List Run × List Run × List Run → ℕ → List Run
near_replaced parts n = parts.0 ++ (Kept n ∷ (all_added parts.1 ++ parts.2))

-- the runs after a splice of the near text that is carried to the far one
abbrev pub near_spliced : List Run → ℕ → ℕ → ℕ → List Run
near_spliced rs i k n = near_replaced (near_range rs i k) n

-- a splice, unless it does nothing
abbrev pub is_nothing : ℕ → List ℕ → Bool
is_nothing k [] = nat_eq k 0
is_nothing k (b ∷ bs) = false

abbrev pub piece : ℕ → ℕ → List ℕ → List Piece
piece at k x = if is_nothing k x then [] else (at, k, x) ∷ []

-- what the far text loses where the near one loses a part, with x in its place: `at` is where the part begins there,
-- and k is how many characters were passed that go with the next splice
abbrev pub pieces : ℕ → ℕ → List ℕ → List Run → List Piece
pieces at k x [] = piece at k x
pieces at k x (Kept n ∷ rs) = pieces at (k + n) x rs
pieces at k x (Added n ∷ rs) = piece at k x ++ pieces (at + (character_count x + n)) 0 [] rs
pieces at k x (Gone n ∷ rs) = pieces at k x rs

abbrev pub pieces_for : List Run × List Run × List Run → List ℕ → List Piece
pieces_for parts x = pieces (total Far parts.0) 0 x parts.1

-- a splice of the near text, as splices of the far one, one after another
abbrev pub carried : List Run → ℕ → ℕ → List ℕ → List Piece
carried rs i k x = pieces_for (near_range rs i k) x

-- a text after splices, one after another, where each of them has its characters
abbrev pub all_spliced : List Piece → List ℕ → Option (List ℕ)
all_spliced [] v = Some v
all_spliced (p ∷ ps) v = option_and_then (all_spliced ps) (splice v p.0 p.1 p.2)
