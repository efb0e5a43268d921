-- The flaws of scope of small processes, as the search finds them.
use Rattle.std.proofs.Common.{◌≡◌, ℕ, List, [], ◌∷◌, Option, Some, None, refl}
use Rattle.sap_terms.specs.Signature.{Sig, pairs_alone}
use Rattle.sap_terms.specs.Tree.{variable}
use Rattle.sap_terms.specs.declared.var.Var.{Var}
use Rattle.sap_process.specs.Flaws.{IsFirstScopeFlaw}
use Rattle.sap_process.specs.FlawExamples.{AreScopeFlawed, HaveNoScopeFlaw, giving, scope_flawed, scope_right}
use Rattle.sap_process.specs.Proc.{Proc, nil}
use Rattle.sap_process.specs.Sites.{sites_in}
use Rattle.sap_process.specs.StepExamples.{fresh_x, public_x, var_x, x}
use Rattle.sap_process.specs.code.Walks.{first_flaw}
use Rattle.sap_process.specs.declared.flaw.Flaw.{Flaw}
use Rattle.sap_process.specs.declared.flaw.Flaw.TheVariants.{BadFunction, ReservedVar, ReservedFact, FactClash, PatternDestructor, Unbound, Rebound, SortClash, ScopeFull}
use Rattle.sap_process.proofs.ScopeFirsts.{scope-found, scope-none, scope_flaws}

-- what the search finds
abbrev found : List Var → Proc → Option (Flaw × List ℕ)
found scope p = first_flaw pairs_alone scope_flaws (sites_in scope p)

-- it finds this flaw in each of them, at its path
abbrev AreFound : List Var → Flaw → List (Proc × List ℕ) → Type 0
AreFound scope w [] = Unit {0}
AreFound scope w (e ∷ es) = (found scope e.0 ≡ Some (w, e.1)) × AreFound scope w es

abbrev HaveNone : List Var → List Proc → Type 0
HaveNone scope [] = Unit {0}
HaveNone scope (p ∷ ps) = (found scope p ≡ None) × HaveNone scope ps

are_flawed : (g : Sig) (scope : List Var) (w : Flaw) (es : List (Proc × List ℕ)) → AreFound scope w es → AreScopeFlawed g scope w es
are_flawed g scope w [] h = tt
are_flawed g scope w (e ∷ es) h = (scope-found pairs_alone g scope e.0 w e.1 h.0, are_flawed g scope w es h.1)

have_none : (g : Sig) (scope : List Var) (ps : List Proc) → HaveNone scope ps → HaveNoScopeFlaw g scope ps
have_none g scope [] h = tt
have_none g scope (p ∷ ps) h = (scope-none pairs_alone g scope p h.0, have_none g scope ps h.1)

pub flawed : (g : Sig) (w : Flaw) → AreScopeFlawed g (x ∷ []) w (scope_flawed w)
flawed g BadFunction = tt
flawed g ReservedVar = tt
flawed g ReservedFact = tt
flawed g FactClash = tt
flawed g PatternDestructor = tt
flawed g Unbound = are_flawed g (x ∷ []) Unbound (scope_flawed Unbound) (refl, (refl, (refl, (refl, tt))))
flawed g Rebound = are_flawed g (x ∷ []) Rebound (scope_flawed Rebound) (refl, (refl, (refl, (refl, tt))))
flawed g SortClash = are_flawed g (x ∷ []) SortClash (scope_flawed SortClash) (refl, (refl, (refl, tt)))
flawed g ScopeFull = tt

pub near : (g : Sig) → HaveNoScopeFlaw g (x ∷ []) scope_right
near g = have_none g (x ∷ []) scope_right (refl, (refl, (refl, (refl, (refl, (refl, (refl, (refl, (refl, (refl, tt))))))))))

pub in_scope_alone : (g : Sig) → IsFirstScopeFlaw g [] (giving var_x nil) Unbound []
in_scope_alone g = scope-found pairs_alone g [] (giving var_x nil) Unbound [] refl

pub by_sort : (g : Sig) → IsFirstScopeFlaw g (fresh_x ∷ []) (giving (variable public_x) nil) SortClash []
by_sort g = scope-found pairs_alone g (fresh_x ∷ []) (giving (variable public_x) nil) SortClash [] refl
