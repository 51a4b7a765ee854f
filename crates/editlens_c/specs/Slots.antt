-- What lies at the address of a session.
use Rattle.std.specs.Prelude.{◌≡◌, ◌==◌, ℕ, Bool, true, false, Option, None, Some, if◌then◌else◌}
use Rattle.embed_session.specs.declared.embedded.EmbeddedSession.{EmbeddedSession}
use Rattle.editlens_c.specs.declared.slot.Slot.{Slot}
use Rattle.editlens_c.specs.declared.codes.TheConstants as code

-- what is open: what is held, if the word is the word of magic
abbrev pub held_in : Slot → Option EmbeddedSession
held_in s = if s.word == code.SESSION_WORD then s.embedded else None

abbrev is_some : Option EmbeddedSession → Bool
is_some (Some embedded) = true
is_some None = false

abbrev pub is_taken : Slot → Bool
is_taken s = is_some (held_in s)

-- this is open now
abbrev pub IsPut : EmbeddedSession → Slot → Type 0
IsPut embedded s = held_in s ≡ Some embedded

abbrev pub ends : Option EmbeddedSession → Slot → ℕ → Slot → Type 0
ends (Some embedded) before status after = (status ≡ code.DONE) × (held_in after ≡ None)
ends None before status after = (status ≡ code.NOT_OPEN) × (after ≡ before)

-- what was open is no more; or nothing was, and nothing changes
abbrev pub IsEnded : Slot → ℕ → Slot → Type 0
IsEnded before status after = ends (held_in before) before status after
