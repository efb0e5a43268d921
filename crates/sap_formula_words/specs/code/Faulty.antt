-- The tests by which the code finds the part that a fault names.
use Rattle.std.specs.Prelude.{ℕ, Bool, true, false, not, ◌&&◌, ◌||◌, nat_eq, if◌then◌else◌, List, [], ◌∷◌, Option, Some, None, Result, Ok, Err}
use Rattle.std.specs.Str.{bytes_eq}
use Rattle.sap_terms.specs.Same.{same_sort}
use Rattle.sap_terms.specs.Signature.{Sig, arity_of}
use Rattle.sap_terms.specs.Tree.{Tree, Trees, variable, public, fresh, apply, none, more, trees_of}
use Rattle.sap_terms.specs.declared.var.Sort.{Sort}
use Rattle.sap_terms.specs.declared.var.Sort.TheVariants.{Msg}
use Rattle.sap_formula.specs.Form.{Form, truth, falsity, action, equal, same_time, earlier, negation, both, either, implies, equivalent, every, exists}
use Rattle.sap_formula.specs.Checked.{binder_name, find_binder}
use Rattle.sap_formula.specs.Parts.{Part, symbol, fact_name, message, time, bound}
use Rattle.sap_formula.specs.declared.binder.Binder.{Binder}
use Rattle.sap_formula.specs.declared.binder.Binder.TheVariants.{Message, Time}
use Rattle.sap_formula.specs.declared.fault.FormulaFlaw.{FormulaFlaw}
use Rattle.sap_formula.specs.declared.fault.FormulaFlaw.TheVariants.{BadFunction, Destructor, Reserved, UnboundVar, Unguarded}
use Rattle.sap_formula_words.specs.code.Walk.{next}

abbrev pub has_arity : Option ℕ → ℕ → Bool
has_arity None n = false
has_arity (Some k) n = nat_eq k n

-- it binds a message, and a sign is its sort
abbrev pub binds_message : Option Binder → Sort → Bool
binds_message None s = false
binds_message (Some (Time n)) s = false
binds_message (Some (Message b)) s = same_sort s Msg || same_sort s b.sort

-- it binds a time
abbrev pub binds_time : Option Binder → Bool
binds_time None = false
binds_time (Some (Message v)) = false
binds_time (Some (Time n)) = true

abbrev mutual
  -- a variable of this name stands in the term
  pub stands_in : List ℕ → Tree → Bool
  stands_in x (variable v) = bytes_eq v.name x
  stands_in x (public m) = false
  stands_in x (fresh k) = false
  stands_in x (apply f ts) = stands_in_any x ts

  pub stands_in_any : List ℕ → Trees → Bool
  stands_in_any x none = false
  stands_in_any x (more t ts) = stands_in x t || stands_in_any x ts

-- a variable of this name stands in an action atom among the conjuncts
abbrev pub stands : List ℕ → Form → Bool
stands x (both f h) = stands x f || stands x h
stands x (action f i) = bytes_eq i x || stands_in_any x (trees_of f.args)
stands x truth = false
stands x falsity = false
stands x (equal s t) = false
stands x (same_time i j) = false
stands x (earlier i j) = false
stands x (negation f) = false
stands x (either f h) = false
stands x (implies f h) = false
stands x (equivalent f h) = false
stands x (every vs f) = false
stands x (exists vs f) = false

-- the part has this name, and may have the fault
abbrev pub is_faulty : Sig → FormulaFlaw → List ℕ → Part → Bool
is_faulty g BadFunction x (symbol f n) = bytes_eq f x && not (has_arity (arity_of g f) n)
is_faulty g Destructor x (symbol f n) = bytes_eq f x
is_faulty g Reserved x (fact_name n) = bytes_eq n x
is_faulty g UnboundVar x (message scope v) = bytes_eq v.name x && not (binds_message (find_binder scope x) v.sort)
is_faulty g UnboundVar x (time scope n) = bytes_eq n x && not (binds_time (find_binder scope x))
is_faulty g Unguarded x (bound f b) = bytes_eq (binder_name b) x && not (stands x f)
is_faulty _ _ _ _ = false

-- how many parts stand before the first that passes; or how many parts there are
abbrev pub First : Type 0
First = Result ℕ ℕ

unfoldable pub unless_found : First → (ℕ → First) → First
unless_found (Err n) go = Err n
unless_found (Ok n) go = go n

-- past one part
abbrev pub past : Bool → ℕ → First
past true n = Err n
past false n = Ok (next n)

-- past parts, counted on from this number
unfoldable pub first_of_all : (Part → Bool) → List Part → ℕ → First
first_of_all p [] n = Ok n
first_of_all p (x ∷ xs) n = unless_found (past (p x) n) (first_of_all p xs)

-- the variables of a quantifier, whose guards are looked for in f
abbrev pub bounds : Form → List Binder → List Part
bounds f [] = []
bounds f (b ∷ bs) = bound f b ∷ bounds f bs

-- one binder, or none, round a part
abbrev pub scope_of : Option Binder → List Binder
scope_of None = []
scope_of (Some b) = b ∷ []

-- the last of these binders that has the name, or the one outside
abbrev pub innermost : List ℕ → List Binder → Option Binder → Option Binder
innermost x [] o = o
innermost x (b ∷ bs) o = innermost x bs (if bytes_eq (binder_name b) x then Some b else o)
