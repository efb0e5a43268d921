-- What the program keeps of a process, as a plain value.
use Rattle.sap_macro.specs.Sources.{located, written}
use Rattle.sap_read.specs.declared.entry.Entry.{Entry}
use Rattle.sap_read.specs.Item.{Body}
use Rattle.sap_read.specs.LocatedItems.{LocatedBody}

-- its name, if it has one, its parameters, what is written, and its line
abbrev pub body : Entry → Body
body e = record { label = e.label; params = e.params; content = written e.source.value; line = e.line }

-- the same with the words of its places, and how many words are behind its item
abbrev pub located_body : Entry → LocatedBody
located_body e =
    record { label = e.label; params = e.params; content = located e.source.value; line = e.line; behind = e.behind }
