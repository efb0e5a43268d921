-- Small files, to try by hand what is told of a name that nothing before it defines.
use Rattle.std.specs.Prelude.{codes, []}
use Rattle.sap_macro.specs.Located.{call_at}
use Rattle.sap_read.specs.LocatedItems.{LocatedBody}
use Rattle.sap_read.specs.UndefinedExamples.{defined, own}

-- let P = P, behind whose item five words of the file are
abbrev pub uses_itself : LocatedBody
uses_itself = defined (codes "P") (call_at 1 (codes "P") []) 5

-- process: P
abbrev pub uses_p : LocatedBody
uses_p = own (call_at 1 (codes "P") [])
