-- The event that a noted call is.
use Rattle.std.specs.Prelude.{ℕ, false, List, [], ◌∷◌}
use Rattle.disk_model.specs.declared.call.DeviceCall.{DeviceCall}
use Rattle.disk_model.specs.Events.{Event, Read, Wrote, Synced}

-- what the one call of the list is, with these bytes
abbrev pub event_of : List DeviceCall → List ℕ → Event
event_of [] bytes = Synced false
event_of (DeviceCall.Read at ∷ calls) bytes = Read at bytes
event_of (DeviceCall.Write at ok ∷ calls) bytes = Wrote at bytes ok
event_of (DeviceCall.Sync ok ∷ calls) bytes = Synced ok
