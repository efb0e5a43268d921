-- The tests of a part, as the code makes them.
use Rattle.std.specs.Prelude.{◌≡◌, ℕ, Bool, true, false, not, ◌&&◌, ◌||◌, nat_eq, List, [], ◌∷◌, Option, Some, None, if◌then◌else◌}
use Rattle.std.specs.List.{list_any}
use Rattle.std.specs.Str.{bytes_eq}
use Rattle.sap_formula.specs.Form.{Form, action, both, earlier, either, equal, equivalent, every, exists, falsity, implies, negation, same_time, truth}
use Rattle.sap_formula.specs.declared.binder.Binder.{Binder}
use Rattle.sap_formula.specs.declared.binder.Binder.TheVariants.{Message, Time}
use Rattle.sap_terms.specs.Same.{same_sort}
use Rattle.sap_terms.specs.Signature.{Sig, arity_of, is_destructor_of}
use Rattle.sap_terms.specs.Tree.{Tree, Trees, apply, fresh, more, none, public, trees_of, variable}
use Rattle.sap_terms.specs.declared.var.Sort.{Sort}
use Rattle.sap_terms.specs.declared.var.Sort.TheVariants.{Msg}
use Rattle.sap_formula.specs.Checked.{binder_name, find_binder}
use Rattle.sap_formula.specs.Hide.{is_hidden}
use Rattle.sap_formula.specs.Parts.{Part, symbol, fact_name, message, time, bound, part_name}
use Rattle.sap_formula.specs.declared.fault.FormulaFlaw.{FormulaFlaw}
use Rattle.sap_formula.specs.declared.fault.FormulaFlaw.TheVariants.{BadFunction, Destructor, Reserved, UnboundVar, Unguarded}

abbrev pub has_arity : Option ℕ → ℕ → Bool
has_arity None n = false
has_arity (Some k) n = nat_eq k n

-- it binds a message, and a sign is its sort
abbrev pub binds_message : Option Binder → Sort → Bool
binds_message None s = false
binds_message (Some (Time n)) s = false
binds_message (Some (Message b)) s = same_sort s Msg || same_sort s b.sort

-- it binds a time
abbrev pub binds_time : Option Binder → Bool
binds_time None = false
binds_time (Some (Message v)) = false
binds_time (Some (Time n)) = true

abbrev mutual
  -- a variable of this name stands in the term
  pub stands_in : List ℕ → Tree → Bool
  stands_in n (variable v) = bytes_eq v.name n
  stands_in n (public m) = false
  stands_in n (fresh k) = false
  stands_in n (apply f ts) = stands_in_any n ts

  pub stands_in_any : List ℕ → Trees → Bool
  stands_in_any n none = false
  stands_in_any n (more t ts) = stands_in n t || stands_in_any n ts

-- a variable of this name stands in an action atom among the conjuncts
abbrev pub stands : List ℕ → Form → Bool
stands n (both f g) = stands n f || stands n g
stands n (action f i) = bytes_eq i n || stands_in_any n (trees_of f.args)
stands n truth = false
stands n falsity = false
stands n (equal s t) = false
stands n (same_time i j) = false
stands n (earlier i j) = false
stands n (negation f) = false
stands n (either f g) = false
stands n (implies f g) = false
stands n (equivalent f g) = false
stands n (every bs f) = false
stands n (exists bs f) = false

-- the names are those there were, and those that pass the test
abbrev pub Adds : (List ℕ → Bool) → List (List ℕ) → List (List ℕ) → Type 0
Adds p old new = (n : List ℕ) → list_any (bytes_eq n) new ≡ (p n || list_any (bytes_eq n) old)

-- the name of the first binder that isn't among these
abbrev pub first_outside : List (List ℕ) → List Binder → Option (List ℕ)
first_outside ns [] = None
first_outside ns (b ∷ bs) = if list_any (bytes_eq (binder_name b)) ns then first_outside ns bs else Some (binder_name b)

-- the part has the fault
abbrev pub has_fault : Sig → Bool → FormulaFlaw → Part → Bool
has_fault g r BadFunction (symbol f n) = not (has_arity (arity_of g f) n)
has_fault g r Destructor (symbol f n) = is_destructor_of g f
has_fault g r Reserved (fact_name n) = r && is_hidden n
has_fault g r UnboundVar (message scope v) = not (binds_message (find_binder scope v.name) v.sort)
has_fault g r UnboundVar (time scope n) = not (binds_time (find_binder scope n))
has_fault g r Unguarded (bound f b) = not (stands (binder_name b) f)
has_fault _ _ _ _ = false

-- the name of the first part that has it
abbrev pub first_name : Sig → Bool → FormulaFlaw → List Part → Option (List ℕ)
first_name g r w [] = None
first_name g r w (p ∷ ps) = if has_fault g r w p then Some (part_name p) else first_name g r w ps

abbrev pub with_fault : FormulaFlaw → Option (List ℕ) → Option (FormulaFlaw × List ℕ) → Option (FormulaFlaw × List ℕ)
with_fault w None later = later
with_fault w (Some n) later = Some (w, n)

-- the first of these faults that a part has, with the name of the first part that has it
abbrev pub first_fault : Sig → Bool → List FormulaFlaw → List Part → Option (FormulaFlaw × List ℕ)
first_fault g r [] ps = None
first_fault g r (w ∷ ws) ps = with_fault w (first_name g r w ps) (first_fault g r ws ps)

-- all five, in the order in which they count
abbrev pub in_order : List FormulaFlaw
in_order = BadFunction ∷ Destructor ∷ Reserved ∷ UnboundVar ∷ Unguarded ∷ []
