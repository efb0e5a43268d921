-- Ends of chains, definition by definition.
use Rattle.std.specs.Prelude.{◌≡◌, ◌<◌, ℕ, List, Some, length, slice_get}
use Rattle.sap_macro.specs.Ends.{IsEnd, IsEndAt}
use Rattle.sap_macro.specs.Written.{Written, nil, call, parallel, replicated, act, test, lookup, Definition}

-- for each of as many of the first definitions as there are
abbrev pub AreFirstEnds : List Definition → List ℕ → Type 0
AreFirstEnds ds ends = (k : ℕ) (d : Definition) → k < length ends → slice_get ds k ≡ Some d
    → IsEndAt ds ends k d

-- if it is the name of a definition, this one is one of the first
abbrev pub NamesBefore : List Definition → ℕ → Written → Type 0
NamesBefore ds n nil = Unit {0}
NamesBefore ds n (call f ts) = (k : ℕ) (d : Definition) → slice_get ds k ≡ Some d → d.name ≡ f
    → k < n
NamesBefore ds n (parallel p q) = Unit {0}
NamesBefore ds n (replicated p) = Unit {0}
NamesBefore ds n (act a p) = Unit {0}
NamesBefore ds n (test t u p q) = Unit {0}
NamesBefore ds n (lookup t x p q) = Unit {0}

-- the chain that begins with the process ends with the body of the definition at this index
abbrev pub EndsAt : List Definition → Written → ℕ → Type 0
EndsAt ds w m = (e : Definition) × (slice_get ds m ≡ Some e) × IsEnd ds w e.body
