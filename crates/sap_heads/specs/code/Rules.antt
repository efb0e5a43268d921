-- A rule that is used part by part: what is open, matched, bound and formed.
use Rattle.std.specs.Prelude.{◌≡◌, ◌<◌, ◌≤◌, ◌⊎◌, ℕ, Bool, List, [], ◌++◌, Option, Some, None, length, map, All, Contains}
use Rattle.std.specs.List.{flat_map}
use Rattle.sap_terms.specs.Equations.{equations}
use Rattle.sap_terms.specs.Modulo.{instance_facts, AreFormsOfFacts}
use Rattle.sap_terms.specs.Signature.{Sig}
use Rattle.sap_terms.specs.Tree.{Tree, apply, trees_of, node_count}
use Rattle.sap_terms.specs.Variables.{facts_vars, new_vars}
use Rattle.sap_terms.specs.View.{tree}
use Rattle.sap_terms.specs.declared.binding.Binding.{Binding}
use Rattle.sap_terms.specs.declared.fact.Fact.{Fact}
use Rattle.sap_terms.specs.declared.limits.TheConstants.{MOST_TERM_NODES}
use Rattle.sap_terms.specs.declared.var.Var.{Var}
use Rattle.sap_rewrite.specs.Match.{IsOnlyMatch, HasNoMatch}
use Rattle.sap_process.specs.Heads.{facts_terms}
use Rattle.sap_process.specs.Sites.{var_names}
use Rattle.sap_share.specs.Env.{given, bindings_of, AreBound}
use Rattle.sap_share.specs.Shared.{Shared, trees_at}
use Rattle.sap_share.specs.declared.env.Bound.{Bound}
use Rattle.sap_sides.specs.declared.shared_fact.SharedFact.{SharedFact}
use Rattle.sap_lines.specs.Faults.{AreRight, EvaluateSmall}
use Rattle.sap_lines.specs.declared.fault.PFault.{PFault}
use Rattle.sap_lines.specs.declared.fault.PFault.TheVariants.{Mem, BadBinding, NoMatch, TermLarge}
use Rattle.sap_heads.specs.Bound.{names_of}

-- the variables that a rule leaves open, where these names are bound
abbrev pub open_vars : List Bound → List Fact → List Fact → List Fact → List Var
open_vars env l e r = new_vars (names_of env ++ var_names (facts_vars l)) (facts_vars e ++ facts_vars r)

-- why bindings of these variables are refused
abbrev pub AreNotOpen : Sig → List Var → List Binding → PFault → Type 0
AreNotOpen g vs b f = (f ≡ Mem) ⊎ ((f ≡ BadBinding) × (AreRight g vs b → ⊥))

-- what two facts have in common that can be one but for their arguments
abbrev pub shape_of : Fact → List ℕ × (Bool × ℕ)
shape_of f = (f.name, (f.persistent, length f.args))

abbrev pub shapes_of : List Fact → List (List ℕ × (Bool × ℕ))
shapes_of fs = map shape_of fs

-- the same of facts with numbers
abbrev pub shapes_shared : List SharedFact → List (List ℕ × (Bool × ℕ))
shapes_shared ss = map (λ (s : SharedFact). (s.name, (s.persistent, length s.args))) ss

-- the numbers in facts, one fact after another
abbrev pub args_numbers : List SharedFact → List ℕ
args_numbers ss = flat_map (λ (s : SharedFact). s.args) ss

-- the arguments of facts, as one tree
abbrev pub together : List Fact → Tree
together fs = apply [] (trees_of (facts_terms fs))

-- what is bound is the match of the left side with the cited facts
pub record IsFound (ts : List Tree) (env : List Bound) (l cited : List Fact) (found : List Bound) : Type 0 where
  pub alike : shapes_of l ≡ shapes_of cited
  pub only : IsOnlyMatch (together l) (together cited) (bindings_of ts env) (bindings_of ts found)
  pub below : AreBound (length ts) found

-- the arguments of the left side fit these numbers, under what is bound then, if anything fits
abbrev pub IsFit : List Tree → List Bound → List Fact → List ℕ → Option (List Bound) → Type 0
IsFit ts env l ks None = HasNoMatch (together l) (apply [] (trees_of (trees_at ts ks))) (bindings_of ts env)
IsFit ts env l ks (Some found) = IsOnlyMatch (together l) (apply [] (trees_of (trees_at ts ks))) (bindings_of ts env) (bindings_of ts found) × AreBound (length ts) found

-- why there is none
abbrev pub IsNotFound : List Tree → List Bound → List Fact → List Fact → PFault → Type 0
IsNotFound ts env l cited f = (f ≡ Mem) ⊎ ((f ≡ NoMatch) × (shapes_of l ≡ shapes_of cited → HasNoMatch (together l) (together cited) (bindings_of ts env)))

-- some binding is to a term of more than 256 nodes
pub record SomeLarge (b : List Binding) : Type 0 where
  pub binding : Binding
  pub stands : Contains b binding
  pub large : MOST_TERM_NODES < node_count (tree binding.term)

-- none is
abbrev pub NoneLarge : List Binding → Type 0
NoneLarge b = All (λ (e : Binding). node_count (tree e.term) ≤ MOST_TERM_NODES) b

-- what is bound by numbers of the first table, and then the small bindings, by numbers of the second
pub record IsBound (ts us : List Tree) (found : List Bound) (b : List Binding) (new : List Bound) : Type 0 where
  pub is : bindings_of us new ≡ bindings_of ts found ++ b
  pub below : AreBound (length us) new
  pub within : NoneLarge b

-- why they aren't bound
abbrev pub IsNotBound : List Binding → PFault → Type 0
IsNotBound b f = (f ≡ Mem) ⊎ ((f ≡ TermLarge) × SomeLarge b)

-- these are the normal forms of facts, and no subterm of what those stand for has a large one
pub record AreFactsFormed (s : Shared) (env : List Bound) (fs hs : List Fact) : Type 0 where
  pub forms : AreFormsOfFacts (equations s.sig) (instance_facts (given s.trees env) fs) hs
  pub small : EvaluateSmall s.sig (facts_terms (instance_facts (given s.trees env) fs))

-- what is bound where a rule is used
pub record IsRuleEnv (u : Shared) (env : List Bound) (cited l e r : List Fact) (b : List Binding) (new : List Bound) : Type 0 where
  pub found : List Bound
  pub opened : AreRight u.sig (open_vars env l e r) b
  pub matched : IsFound u.trees env l cited found
  pub bound : IsBound u.trees u.trees found b new

-- why nothing is: the first test that fails
pub data HasNoRuleEnv (u : Shared) (env : List Bound) (cited l e r : List Fact) (b : List Binding) : PFault → Type 0 where
  no_room : HasNoRuleEnv u env cited l e r b Mem
  not_open : {f : PFault} → AreNotOpen u.sig (open_vars env l e r) b f → HasNoRuleEnv u env cited l e r b f
  not_found : {f : PFault} → AreRight u.sig (open_vars env l e r) b → IsNotFound u.trees env l cited f → HasNoRuleEnv u env cited l e r b f
  not_bound : {f : PFault} (found : List Bound) → AreRight u.sig (open_vars env l e r) b → IsFound u.trees env l cited found → IsNotBound b f → HasNoRuleEnv u env cited l e r b f
