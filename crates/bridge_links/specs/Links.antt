-- Links, as lists: for each place of the near shape where it is in the far one. A plan of an edit is read as links from
-- its new places to its old ones. Read it from the end: `far_planned` and `near_planned` are the links after a plan of
-- one of the shapes.
use Rattle.std.specs.Prelude.{◌≡◌, ℕ, length, ◌+◌, ◌-◌, ◌<◌, ◌^◌, Bool, true, false, if◌then◌else◌, List, [], ◌∷◌, ◌++◌, map, replicate, nat_eq}
use Rattle.std.specs.Prelude.{slice_get, slice_index_or, Option, Some, None}
use Rattle.std.specs.List.{range_with_len, insert, remove}
use Rattle.bridge_links.specs.declared.link.Link.{Link}
use Rattle.bridge_links.specs.declared.link.Link.TheVariants.{Stays, Moved, Gone, Missed}

-- ---- links that follow one another, as runs

-- a run of n links: to places that follow one another from the first one, or to none
abbrev pub run_links : Link → ℕ → List Link
run_links (Stays k) n = map Stays (range_with_len k n)
run_links (Moved k) n = map Moved (range_with_len k n)
run_links Gone n = replicate n Gone
run_links Missed n = replicate n Missed

-- each place of the run is below 2 ^ 64
abbrev pub RunFits : Link → ℕ → Type 0
RunFits (Stays k) n = k + n < 2 ^ 64
RunFits (Moved k) n = k + n < 2 ^ 64
RunFits Gone n = Unit {0}
RunFits Missed n = Unit {0}

-- the links of runs, one run after another
abbrev pub all_links : List (List Link) → List Link
all_links [] = []
all_links (run ∷ runs) = run ++ all_links runs

-- the links of n places to themselves
abbrev pub same_places : ℕ → List Link
same_places n = map Stays (range_with_len 0 n)

-- the plan that moves the place i to place j of the result
abbrev pub mover : ℕ → ℕ → Link
mover i j = if nat_eq i j then Stays i else Moved i

abbrev pub moved_place : ℕ → ℕ → ℕ → List Link
moved_place n i j = insert (remove (same_places n) i) j (mover i j)

-- ---- one link

-- the place that a link leads to
abbrev pub place_of : Link → Option ℕ
place_of (Stays y) = Some y
place_of (Moved y) = Some y
place_of Gone = None
place_of Missed = None

abbrev pub place_of_some : Option Link → Option ℕ
place_of_some None = None
place_of_some (Some l) = place_of l

-- the far place of the near place x
abbrev pub far_at : List Link → ℕ → Option ℕ
far_at ls x = place_of_some (slice_get ls x)

-- the link of the near place x; a place that the shape does not have is nowhere
abbrev pub link_at : List Link → ℕ → Link
link_at ls x = slice_index_or ls x Gone

-- a link of the same sort, n places further on
abbrev pub ahead : ℕ → Link → Link
ahead n (Stays k) = Stays (k + n)
ahead n (Moved k) = Moved (k + n)
ahead n Gone = Gone
ahead n Missed = Missed

-- a link leads to one of the first n places, or to none
abbrev pub IsWithin : ℕ → Link → Type 0
IsWithin n (Stays k) = k < n
IsWithin n (Moved k) = k < n
IsWithin n Gone = Unit {0}
IsWithin n Missed = Unit {0}

-- ---- a plan of the far shape

-- whether a link leads to the place y
abbrev pub leads_to : ℕ → Link → Bool
leads_to y (Stays k) = nat_eq k y
leads_to y (Moved k) = nat_eq k y
leads_to y Gone = false
leads_to y Missed = false

-- a link of the same sort that leads to a place
abbrev pub placed : ℕ → Link → Link
placed n (Stays k) = Stays n
placed n (Moved k) = Moved n
placed n Gone = Gone
placed n Missed = Missed

-- where the old place y is after a plan, whose new places are counted from n
abbrev pub came : ℕ → ℕ → List Link → Link
came n y [] = Gone
came n y (l ∷ plan) = if leads_to y l then placed n l else came (n + 1) y plan

-- m old places from y on are not in the run r
abbrev pub AreBehind : ℕ → ℕ → List Link → Type 0
AreBehind y m r = (d n : ℕ) (rest : List Link) → d < m → came n (y + d) (r ++ rest) ≡ came (n + length r) (y + d) rest

-- m old places from y on are in the run r, where the first one has a link that is counted from the run
abbrev pub AreInside : ℕ → ℕ → List Link → Link → Type 0
AreInside y m r l = (d n : ℕ) (rest : List Link) → d < m → came n (y + d) (r ++ rest) ≡ ahead (n + d) l

-- the same link, to a place that an edit of the far shape has given it
abbrev pub as_moved : Link → Link
as_moved (Stays y) = Moved y
as_moved (Moved y) = Moved y
as_moved Gone = Gone
as_moved Missed = Missed

-- what becomes of a link that leads to where its far place is now: it stays moved
abbrev pub moved_as : Link → Link → Link
moved_as (Stays y) l = l
moved_as (Moved y) l = as_moved l
moved_as Gone l = l
moved_as Missed l = l

-- a link after a plan of the far shape
abbrev pub followed : List Link → Link → Link
followed plan (Stays y) = came 0 y plan
followed plan (Moved y) = as_moved (came 0 y plan)
followed plan Gone = Gone
followed plan Missed = Missed

abbrev pub far_planned : List Link → List Link → List Link
far_planned plan ls = map (followed plan) ls

-- ---- a plan of the near shape

-- a link whose near place an edit of the near shape has moved: it stands where that edit has put it
abbrev pub put_there : Link → Link
put_there (Stays y) = Stays y
put_there (Moved y) = Stays y
put_there Gone = Missed
put_there Missed = Missed

-- whether what a link of a plan leads to has been moved by it
abbrev pub is_moved : Link → Bool
is_moved (Stays y) = false
is_moved (Moved y) = true
is_moved Gone = false
is_moved Missed = false

abbrev pub put_as : Bool → Link → Link
put_as false l = l
put_as true l = put_there l

-- the links of n places that follow one another from k on, which an edit of the near shape may have moved
abbrev pub part_at : List Link → ℕ → ℕ → List Link
part_at ls k n = map (link_at ls) (range_with_len k n)

abbrev pub part_put : Bool → List Link → List Link
part_put moved part = map (put_as moved) part

-- each place of the plan has the link of its old place, and a fresh one the next far place from n on
abbrev pub near_planned : ℕ → List Link → List Link → List Link
near_planned n [] ls = []
near_planned n (Stays k ∷ plan) ls = link_at ls k ∷ near_planned n plan ls
near_planned n (Moved k ∷ plan) ls = put_there (link_at ls k) ∷ near_planned n plan ls
near_planned n (Gone ∷ plan) ls = Stays n ∷ near_planned (n + 1) plan ls
near_planned n (Missed ∷ plan) ls = Stays n ∷ near_planned (n + 1) plan ls

-- links with those of the places of a run behind them
abbrev pub GetsRun : List Link → List Link → ℕ → ℕ → List Link → List Link → Type 0
GetsRun new old next f r ls = (plan : List Link) → new ++ near_planned next plan ls ≡ old ++ near_planned f (r ++ plan) ls

-- how many fresh places a plan has
abbrev pub fresh_count : List Link → ℕ
fresh_count [] = 0
fresh_count (Stays k ∷ plan) = fresh_count plan
fresh_count (Moved k ∷ plan) = fresh_count plan
fresh_count (Gone ∷ plan) = fresh_count plan + 1
fresh_count (Missed ∷ plan) = fresh_count plan + 1

-- the far place of the first place that no edit of the far shape has moved
abbrev pub first_stay : List Link → Option ℕ
first_stay [] = None
first_stay (Stays y ∷ ls) = Some y
first_stay (Moved y ∷ ls) = first_stay ls
first_stay (Gone ∷ ls) = first_stay ls
first_stay (Missed ∷ ls) = first_stay ls

-- ---- contents

-- what a place of a plan holds: the content of its old place in xs, or the fresh one
abbrev pub content_of : {A : Type 0} → List A → A → Link → A
content_of xs fresh (Stays k) = slice_index_or xs k fresh
content_of xs fresh (Moved k) = slice_index_or xs k fresh
content_of xs fresh Gone = fresh
content_of xs fresh Missed = fresh

abbrev pub gathered : {A : Type 0} → List Link → A → List A → List A
gathered plan fresh xs = map (content_of xs fresh) plan
