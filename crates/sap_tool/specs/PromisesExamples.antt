-- Calls by hand: what may be seen of one, and what may not.
use Rattle.std.specs.Prelude.{ℕ, codes, List, [], ◌∷◌, None, Some}
use Rattle.sap_outside.specs.Outside.{Files}
use Rattle.sap_outside.specs.Requests.{Request, begin, fetch, next}
use Rattle.sap_outside.specs.Seen.{SeenShelf, seen_shelf, seen_sink}
use Rattle.sap_outside.specs.Stream.{Stream, stream}
use Rattle.sap_tool.specs.Call.{Call, call_of}

-- a shelf that tells nothing but what it was asked for, all of whose names have so many faults
abbrev pub shelf : List Request → ℕ → SeenShelf
shelf made faults = seen_shelf None (λ name. faults) (Some made) None None

-- a sink that was empty, and has these bytes now, by so many puts of which none was cut short
abbrev pub got : List ℕ → ℕ → Stream
got bytes puts = stream (seen_sink (Some []) 0 0 (Some 0)) (seen_sink (Some bytes) 0 0 (Some puts))

-- so many of the puts failed
abbrev pub failed : ℕ → List ℕ → ℕ → Stream
failed faults bytes puts = stream (seen_sink (Some []) 0 0 (Some 0))
    (seen_sink (Some bytes) faults 0 (Some puts))

-- so many of them found no memory
abbrev pub starved : ℕ → List ℕ → ℕ → Stream
starved wants bytes puts = stream (seen_sink (Some []) 0 0 (Some 0))
    (seen_sink (Some bytes) 0 wants (Some puts))

-- nothing was put
abbrev pub untouched : Stream
untouched = got [] 0

-- a call of these words for which the shelf was asked for this, and had so many faults
abbrev pub asking : List (List ℕ) → List Request → ℕ → Stream → Stream → Call
asking words made faults out err = call_of words (shelf [] 0) (shelf made faults) out err

-- a call for which a shelf was asked for this that tells what it holds, and had no fault
abbrev pub telling : Files → List (List ℕ) → List Request → Stream → Stream → Call
telling held words made out err =
    call_of words (seen_shelf (Some held) (λ name. 0) (Some []) None None)
    (seen_shelf (Some held) (λ name. 0) (Some made) None None) out err

-- words that ask for the version, for a run as JSON, for a theory, and for nothing
abbrev pub version_words : List (List ℕ)
version_words = codes "--version" ∷ []

abbrev pub json_words : List (List ℕ)
json_words = codes "to-json" ∷ codes "r" ∷ []

abbrev pub compile_words : List (List ℕ)
compile_words = codes "compile" ∷ codes "f" ∷ []

abbrev pub unknown_words : List (List ℕ)
unknown_words = codes "x" ∷ []

-- words that ask for what is said of a run of a file, and why a file is refused
abbrev pub judge_words : List (List ℕ)
judge_words = codes "judge" ∷ codes "f" ∷ codes "r" ∷ []

abbrev pub why_words : List (List ℕ)
why_words = codes "why" ∷ codes "f" ∷ []

-- the bytes of a run of one line, and this run as JSON
abbrev pub run_bytes : List ℕ
run_bytes = codes "process-run\nin 0 1\n"

abbrev pub run_json : List ℕ
run_json = codes "{\"kind\":\"process-run\",\"steps\":[[\"in\",0,1]]}\n"

-- the run is opened, and this many pieces are asked for
abbrev pub opens : List Request → List Request
opens pieces = begin (codes "r") ∷ pieces

abbrev pub piece : Request
piece = next 4096

-- the run is one byte that is no head: it is opened, and gives a piece and an empty one
abbrev pub no_head : Stream → Call
no_head err = asking json_words (opens (piece ∷ piece ∷ [])) 0 untouched err

-- the file is fetched
abbrev pub fetches : List Request
fetches = fetch (codes "f") 1048576 ∷ []
