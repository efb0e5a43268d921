-- Small processes, to see by hand what both theories of their files show.
use Rattle.sap_gen.specs.Kept.{file_theory}
use Rattle.sap_process.specs.Action.{new, out, event}
use Rattle.sap_process.specs.Proc.{Proc, nil, act}
use Rattle.sap_read.specs.Files.{FileContent}
use Rattle.sap_rule.specs.declared.theory.Theory.{Theory}
use Rattle.sap_terms.specs.Trace.{Trace}
use Rattle.sap_terms.specs.Tree.{variable}
use Rattle.sap_translate.specs.Examples.{c, plain_fact, term_m}
use Rattle.sap_translate.specs.Faithful.{IsVisibleTrace}

-- admitted runs of the rules of the file's theory show this, and so do those of the rules of t
abbrev pub BothShow : FileContent → Theory → Trace → Type 0
BothShow f t tr = IsVisibleTrace f.signature (file_theory f).rules tr
    × IsVisibleTrace t.signature t.rules tr

-- and no such run of either shows it
abbrev pub NeitherShows : FileContent → Theory → Trace → Type 0
NeitherShows f t tr = (¬ IsVisibleTrace f.signature (file_theory f).rules tr)
    × (¬ IsVisibleTrace t.signature t.rules tr)

-- event A()
abbrev pub event_alone : Proc
event_alone = act (event plain_fact) nil

-- out('m'); event A()
abbrev pub told_event : Proc
told_event = act (out term_m) event_alone

-- new ~c; out(~c); event A()
abbrev pub drawn_event : Proc
drawn_event = act (new c) (act (out (variable c)) event_alone)
