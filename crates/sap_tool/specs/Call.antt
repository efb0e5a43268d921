-- What is seen of one call of the program.
use Rattle.std.specs.Prelude.{◌≡◌, ℕ, List, map, Option, None, Some, String, string_bytes}
use Rattle.std.specs.declared.alloc.Global.{Global}
use Rattle.std.specs.FinMap as files
use Rattle.sap_outside.specs.Outside.{Files, Rose}
use Rattle.sap_outside.specs.Requests.{Request, Requested}
use Rattle.sap_outside.specs.Seen.{SeenShelf, SeenSink}
use Rattle.sap_outside.specs.Stream.{Stream, stream}

-- a call: its words, the shelf before and after, and the two sinks
pub record Call : Type 0 where
  pub words : List (List ℕ)
  pub before : SeenShelf
  pub after : SeenShelf
  pub out : Stream
  pub err : Stream

-- the bytes of each word
abbrev pub bytes_of : List (String Global) → List (List ℕ)
bytes_of words = map string_bytes words

-- the call of words with these bytes
abbrev pub call_of : List (List ℕ) → SeenShelf → SeenShelf → Stream → Stream → Call
call_of words before after out err = record {
  words = words;
  before = before;
  after = after;
  out = out;
  err = err;
}

-- the call of these words, with what is seen of the shelf, of out and of err, each before and after
abbrev pub call : List (String Global) → SeenShelf → SeenShelf → SeenSink → SeenSink → SeenSink
    → SeenSink → Call
call words before after out out_after err err_after =
    call_of (bytes_of words) before after (stream out out_after) (stream err err_after)

-- this name's count of faults rose in this call, as it does where a fetch of it fails
abbrev pub FailedOn : Call → List ℕ → Type 0
FailedOn c name = Rose (c.before.faults name) (c.after.faults name)

-- the shelf was asked for this in the call, and for nothing else, where it tells that
abbrev pub AskedFor : Call → List Request → Type 0
AskedFor c made = Requested made c.before.asked c.after.asked

-- the shelf tells that it holds these bytes under this name
abbrev pub Holds : Option Files → List ℕ → List ℕ → Type 0
Holds None name bytes = ⊥
Holds (Some held) name bytes = files.get held name ≡ Some bytes
