-- The requests of a shelf in memory.
use Rattle.std.specs.Prelude.{List, map, Option, Vec, string_bytes}
use Rattle.std.specs.declared.alloc.Global.{Global}
use Rattle.std.specs.Option.{option_map}
use Rattle.sap_outside.specs.Requests.{Request, fetch, begin, next}
use Rattle.sap_outside.specs.declared.asked.Asked.{Asked}
use Rattle.sap_outside.specs.declared.asked.Asked.TheVariants as asked

-- what was asked for
abbrev pub request_of : Asked → Request
request_of (asked.Fetch name limit) = fetch (string_bytes name) limit
request_of (asked.Begin name) = begin (string_bytes name)
request_of (asked.Next most) = next most

-- the list of it, where it is kept
abbrev pub told_of : Option (Vec Asked Global) → Option (List Request)
told_of list = option_map (λ v. map request_of v.items) list
