-- The laws, for bridges in their shortest form.
use Rattle.std.proofs.Common.{◌≡◌, ℕ, List, [], Some, refl}
use Rattle.std.specs.Str.{IsUtf8, chars}
use Rattle.texts.specs.Characters.{character_count, splice}
use Rattle.bridge_texts.specs.declared.run.Run.{Run}
use Rattle.bridge_texts.specs.Runs.{far_spliced, near_spliced, carried, all_spliced, shortest}
use Rattle.bridge_texts.specs.Laws.{SpansTexts, IsCarriedTo}
use Rattle.bridge_texts.proofs.Shortest.{shortest-spans}
use Rattle.bridge_texts.proofs.NearSplices.{near-spans, far-spans-texts}

shortest-texts : (rs : List Run) (s t : List ℕ) → SpansTexts rs s t → SpansTexts (shortest rs) s t
shortest-texts rs s t h = record { near_utf8 = h.near_utf8; far_utf8 = h.far_utf8; reads = shortest-spans rs (chars s) (chars t) h.reads }

pub same-texts : (t : List ℕ) → IsUtf8 t → SpansTexts [] t t
same-texts t h = record { near_utf8 = h; far_utf8 = h; reads = refl }

pub far-bridge : (rs : List Run) (i k : ℕ) (x s t u : List ℕ) → IsUtf8 x → SpansTexts rs s t → splice t i k x ≡ Some u → SpansTexts (shortest (far_spliced rs i k (character_count x))) s u
far-bridge rs i k x s t u z h e = shortest-texts (far_spliced rs i k (character_count x)) s u (far-spans-texts rs i k x s t u z h e)

pub near-bridge : (rs : List Run) (i k : ℕ) (x s t u : List ℕ) → IsUtf8 x → SpansTexts rs s t → splice s i k x ≡ Some u
    → IsCarriedTo (shortest (near_spliced rs i k (character_count x))) (all_spliced (carried rs i k x) t) u
near-bridge rs i k x s t u z h e =
    let w = near-spans rs i k x s t u z h e in
    record { far = w.far; found_is = w.found_is; spans = shortest-texts (near_spliced rs i k (character_count x)) u w.far w.spans }

pub ruleset bridge_rules = (same-texts, far-bridge, near-bridge)
