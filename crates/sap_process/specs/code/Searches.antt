-- What a search leaves of its walk.
use Rattle.std.specs.Prelude.{List}
use Rattle.sap_terms.specs.Signature.{Sig}
use Rattle.sap_process.specs.Sites.{Site}
use Rattle.sap_process.specs.code.Walks.{found_after}
use Rattle.sap_process.specs.declared.walk.Walk.{Walk}

-- the walk, once these places are met: it stands where it stood
abbrev pub searched : Sig → Walk → List Site → Walk
searched g a ss = record a { found = found_after g a.found ss }
