-- A hub of the library that is not opened, since its program part is refused.
use Rattle.std.specs.Prelude.{ℕ, List}
use Rattle.embed_hub.specs.Embedded.{IsRefusedWith}
use Rattle.embed_hub.specs.declared.embedded.EmbeddedHub.{EmbeddedHub}
use Rattle.embed_hub.specs.declared.embedded.EmbeddedHub.TheVariants as embedded

-- the library has no hub for this program part, since the part is refused
abbrev pub IsHubRefused : List ℕ → EmbeddedHub → Type 0
IsHubRefused part (embedded.Refused why line) = IsRefusedWith part why line.items
IsHubRefused part (embedded.Open hub) = ⊥
IsHubRefused part (embedded.StateRefused why) = ⊥
IsHubRefused part embedded.NoMemory = ⊥
