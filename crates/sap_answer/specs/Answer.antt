-- What there is to say of a call, and how that is put.
use Rattle.std.specs.Prelude.{◌≡◌, ◌≢◌, ℕ, codes, List, [], ◌++◌, take, Option, None, Some}
use Rattle.sap_outside.specs.Pieces.{pieces, GainedPart}
use Rattle.sap_outside.specs.Stream.{Stream, Gained, Failed, Wanted, CutShort, CutTwice}

-- a text for out, which is status 0, or a status and a text for err
pub data Answer : Type 0 where
  gives : (text : List ℕ) → Answer
  tells : (status : ℕ) (text : List ℕ) → Answer

-- its status
abbrev pub status_of : Answer → ℕ
status_of (gives text) = 0
status_of (tells status text) = status

-- it says something, where it is for err
abbrev pub HasText : Answer → Type 0
HasText (gives text) = Unit {0}
HasText (tells status text) = text ≢ []

-- what is told where words ask for nothing
abbrev pub usage_text : List ℕ
usage_text = codes "usage: sapic COMMAND ARGUMENTS\n"

-- where a file or a run couldn't be read
abbrev pub read_fault_text : List ℕ
read_fault_text = codes "read fault\n"

-- the last word of 5
abbrev pub write_fault_text : List ℕ
write_fault_text = codes "write fault\n"

-- the last word of 6
abbrev pub memory_text : List ℕ
memory_text = codes "out of memory\n"

-- the answer's text is whole where it belongs, put in pieces on out and at once on err, and nothing was put elsewhere
abbrev pub Whole : Answer → Stream → Stream → Type 0
Whole (gives text) out err = Gained out (pieces text) text × Gained err 0 []
Whole (tells status text) out err = Gained out 0 [] × Gained err 1 text

-- the first bytes of the answer's text are where it belongs, put in the same way, and then err was asked for one more text, of
-- which it has this
abbrev pub Part : Answer → ℕ → List ℕ → Stream → Stream → Type 0
Part (gives text) taken last out err = GainedPart out taken text × Gained err 1 last
Part (tells status text) taken last out err = Gained out 0 []
    × Gained err 2 (take taken text ++ last)

-- the sink failed that the answer's text was put on
abbrev pub Broken : Answer → Stream → Stream → Type 0
Broken (gives text) out err = Failed out
Broken (tells status text) out err = Failed err

-- the sink that the answer's text was put on found no memory
abbrev pub Starved : Answer → Stream → Stream → Type 0
Starved (gives text) out err = Wanted out
Starved (tells status text) out err = Wanted err

-- the put of the last word was cut short, beside that of the answer's text where this belongs on err
abbrev pub CutLast : Answer → Stream → Type 0
CutLast (gives text) err = CutShort err
CutLast (tells status text) err = CutTwice err

-- what there is of a word: all of it; or a first part, where its put was cut short
pub data IsLast (Cut : Type 0) (word : List ℕ) : List ℕ → Type 0 where
  complete : IsLast Cut word word
  cut : (n : ℕ) → Cut → IsLast Cut word (take n word)

-- the answer was put whole; or its sink failed, or found no memory, after a first part of it, and then err has the last word,
-- which says so
pub data IsPut (a : Answer) (out err : Stream) (status : ℕ) : Type 0 where
  whole : status ≡ status_of a → Whole a out err → IsPut a out err status
  broken : (taken : ℕ) (last : List ℕ) → status ≡ 5 → Broken a out err → Part a taken last out err
      → IsLast (CutLast a err) write_fault_text last
      → IsPut a out err status
  wanting : (taken : ℕ) (last : List ℕ) → status ≡ 6 → Starved a out err → Part a taken last out err
      → IsLast (CutLast a err) memory_text last
      → IsPut a out err status

-- there was no answer to put, for want of memory: err has the last word, which says so
pub data IsUnanswered (out err : Stream) (status : ℕ) : Type 0 where
  no_memory : (last : List ℕ) → status ≡ 6 → Gained out 0 [] → Gained err 1 last
      → IsLast (CutShort err) memory_text last → IsUnanswered out err status

-- the answer was put, where there is one
abbrev pub IsDelivered : Option Answer → Stream → Stream → ℕ → Type 0
IsDelivered None out err status = IsUnanswered out err status
IsDelivered (Some a) out err status = IsPut a out err status
