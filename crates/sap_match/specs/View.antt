-- Atoms and facts as plain values, without the addresses of their parts.
use Rattle.sap_match.specs.Atoms.{Atom, Held, Sight, held_term, held_time}
use Rattle.sap_match.specs.declared.atom.AtomPlan.{AtomPlan}
use Rattle.sap_match.specs.declared.atom.Value.{Value}
use Rattle.sap_match.specs.declared.atom.Value.TheVariants.{Term, Time}
use Rattle.sap_match.specs.declared.sighted.Sighted.{Sighted}
use Rattle.sap_terms.specs.Tree.{trees_of}
use Rattle.sap_terms.specs.View.{tree}

-- a fact and its time
abbrev pub sight : Sighted → Sight
sight s = record { time = s.time; fact = s.fact.now }

-- an action atom
abbrev pub atom : AtomPlan → Atom
atom a = record { args = trees_of a.args.now; marks = a.marks; time = a.time }

-- what a slot holds
abbrev pub held : Value → Held
held (Term t) = held_term (tree t.now)
held (Time k) = held_time k
