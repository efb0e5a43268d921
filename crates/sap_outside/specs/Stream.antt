-- A sink before and after a call.
use Rattle.std.specs.Prelude.{◌≡◌, ◌⊎◌, ℕ, List}
use Rattle.std.specs.Io.KnownBytes.{Appends}
use Rattle.sap_outside.specs.Outside.{Rose, RoseTwice, more}
use Rattle.sap_outside.specs.Seen.{SeenSink}

-- what is seen of a sink before and after the call
pub record Stream : Type 0 where
  pub before : SeenSink
  pub after : SeenSink

-- the sink with these
abbrev pub stream : SeenSink → SeenSink → Stream
stream before after = record { before = before; after = after }

-- so many puts were asked for, and together they appended these bytes, each where the sink tells
abbrev pub Gained : Stream → ℕ → List ℕ → Type 0
Gained s puts bytes = Appends s.before.written s.after.written bytes
    × (s.after.asked ≡ more puts s.before.asked)

-- the count of faults rose in this call, as it does where a put fails
abbrev pub Failed : Stream → Type 0
Failed s = Rose s.before.faults s.after.faults

-- the count of wants of memory rose in this call, as it does where a put finds none
abbrev pub Wanted : Stream → Type 0
Wanted s = Rose s.before.wants s.after.wants

-- one of the two counts rose, as one does where a put is cut short
abbrev pub CutShort : Stream → Type 0
CutShort s = Failed s ⊎ Wanted s

-- the two counts rose twice in all, as they do where two puts are cut short
abbrev pub CutTwice : Stream → Type 0
CutTwice s = RoseTwice s.before.faults s.after.faults ⊎ (Failed s × Wanted s)
    ⊎ RoseTwice s.before.wants s.after.wants
