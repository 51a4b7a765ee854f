-- A program part that is refused, with its cause and its line.
use Rattle.std.proofs.Common.{◌≡◌, ℕ, List, refl}
use Rattle.std.specs.Prelude.{◌≢◌}
use Rattle.hub_run.specs.FoundLenses.{IsRefusalOf, IsRefusedHub}
use Rattle.hub_run.specs.Lenses.{HubRefusal, lenses_of, hub_refusal_line}
use Rattle.hub_run.specs.declared.views.HubRefused.{HubRefused}
use Rattle.hub_run.specs.declared.views.HubRefused.TheVariants.{TooManyViews, InView, ViewsDiffer, NoMemory}
use Rattle.embed_hub.specs.Embedded.{IsRefusedWith, IsRefusedPart, IsOpened, IsResumed}
use Rattle.embed_hub.specs.declared.embedded.EmbeddedHub.{EmbeddedHub}
use Rattle.embed_hub.specs.declared.embedded.EmbeddedHub.TheVariants as embedded

-- a program part that is refused opens nothing
pub refused_opened : (part : List ℕ) (k : EmbeddedHub) → IsRefusedPart part k → IsOpened part k
refused_opened part (embedded.Open r) h = absurd h
refused_opened part (embedded.Refused why line) h = h
refused_opened part (embedded.StateRefused why) h = absurd h
refused_opened part embedded.NoMemory h = tt

pub refused_resumed : (part : List ℕ) (texts : List (List ℕ)) (k : EmbeddedHub) → IsRefusedPart part k → IsResumed part texts k
refused_resumed part texts (embedded.Open r) h = absurd h
refused_resumed part texts (embedded.Refused why line) h = h
refused_resumed part texts (embedded.StateRefused why) h = absurd h
refused_resumed part texts embedded.NoMemory h = tt

pub refused_with : (part : List ℕ) (why : HubRefused) (line : List ℕ) → why ≢ NoMemory → ((refusal : HubRefusal) → IsRefusalOf why refusal → line ≡ hub_refusal_line refusal)
    → IsRefusedHub (lenses_of part) why → IsRefusedWith part why line
refused_with part TooManyViews line not is h = record { refusal = h.0; lenses = h.1; cause = h.2; is_line = is h.0 h.2 }
refused_with part (InView v refused) line not is h = record { refusal = h.0; lenses = h.1; cause = h.2; is_line = is h.0 h.2 }
refused_with part (ViewsDiffer v) line not is h = record { refusal = h.0; lenses = h.1; cause = h.2; is_line = is h.0 h.2 }
refused_with part NoMemory line not is h = absurd (not refl)
