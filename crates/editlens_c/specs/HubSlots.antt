-- What lies at the address of a hub.
use Rattle.std.specs.Prelude.{◌≡◌, ◌==◌, ℕ, Bool, true, false, Option, None, Some, if◌then◌else◌}
use Rattle.embed_hub.specs.declared.embedded.EmbeddedHub.{EmbeddedHub}
use Rattle.editlens_c.specs.declared.hub_slot.HubSlot.{HubSlot}
use Rattle.editlens_c.specs.declared.codes.TheConstants as code

-- what is open: what is held, if the word is the word of magic
abbrev pub hub_held_in : HubSlot → Option EmbeddedHub
hub_held_in s = if s.word == code.HUB_WORD then s.embedded else None

abbrev is_some_hub : Option EmbeddedHub → Bool
is_some_hub (Some embedded) = true
is_some_hub None = false

abbrev pub is_hub_taken : HubSlot → Bool
is_hub_taken s = is_some_hub (hub_held_in s)

-- this is open now
abbrev pub IsHubPut : EmbeddedHub → HubSlot → Type 0
IsHubPut embedded s = hub_held_in s ≡ Some embedded

abbrev pub hub_ends : Option EmbeddedHub → HubSlot → ℕ → HubSlot → Type 0
hub_ends (Some embedded) before status after = (status ≡ code.DONE) × (hub_held_in after ≡ None)
hub_ends None before status after = (status ≡ code.NOT_OPEN) × (after ≡ before)

-- what was open is no more; or nothing was, and nothing changes
abbrev pub IsHubEnded : HubSlot → ℕ → HubSlot → Type 0
IsHubEnded before status after = hub_ends (hub_held_in before) before status after
