-- The devices of a call: `Devices`.

-- what a call reads, what it writes to, and the disk of its store
pub record Devices (S K D : Type 0) : Type 0 where
  pub source : S
  pub sink : K
  pub disk : D

-- these three
abbrev pub devices_of : {S K D : Type 0} → S → K → D → Devices S K D
devices_of source sink disk = record { source = source; sink = sink; disk = disk }
