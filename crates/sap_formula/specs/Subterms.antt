-- The subterms of what a trace shows.
use Rattle.std.specs.Prelude.{◌≡◌, List, [], ◌∷◌, ◌++◌}
use Rattle.sap_formula.specs.Truth.{AnyIn}
use Rattle.sap_terms.specs.Message.{IsMessage}
use Rattle.sap_terms.specs.Signature.{Sig}
use Rattle.sap_terms.specs.Trace.{Trace}
use Rattle.sap_terms.specs.Tree.{Tree, Trees, apply, fresh, more, none, public, trees_of, variable}
use Rattle.sap_terms.specs.declared.fact.Fact.{Fact}
use Rattle.sap_terms.specs.declared.var.Sort.{Sort}

abbrev mutual
  -- a tree and what stands in it
  pub subterms : Tree → List Tree
  subterms (variable v) = variable v ∷ []
  subterms (public n) = public n ∷ []
  subterms (fresh k) = fresh k ∷ []
  subterms (apply f ts) = apply f ts ∷ all_subterms ts

  -- of each of these
  pub all_subterms : Trees → List Tree
  all_subterms none = []
  all_subterms (more t ts) = subterms t ++ all_subterms ts

-- of the arguments of each fact
abbrev pub time_terms : List Fact → List Tree
time_terms [] = []
time_terms (f ∷ fs) = all_subterms (trees_of f.args) ++ time_terms fs

-- the subterms of the trace's facts
abbrev pub trace_terms : Trace → List Tree
trace_terms [] = []
trace_terms (p ∷ ps) = time_terms p ++ trace_terms ps

-- the messages of a sort that are subterms of the trace's facts
abbrev pub IsSeenMessage : Sig → Trace → Sort → Tree → Type 0
IsSeenMessage g tr s t = IsMessage g s t × AnyIn (λ u. u ≡ t) (trace_terms tr)
