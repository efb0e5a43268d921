-- What holds of all terms under every signature.
use Rattle.std.specs.Prelude.{◌≡◌, ◌↔◌, ℕ, List, true, None, IsTrue}
use Rattle.sap_terms.specs.Choice.{fits_sort}
use Rattle.sap_terms.specs.Equations.{Equations, equations, IsDestructor}
use Rattle.sap_terms.specs.Message.{IsMessage}
use Rattle.sap_terms.specs.Normal.{IsNormal, AreNormal}
use Rattle.sap_terms.specs.Signature.{Sig, HoldsBuiltins, added, builtin_symbols, declared, first_clash, is_destructor_of, pairs_alone}
use Rattle.sap_terms.specs.Tree.{variable, public, fresh, apply, Trees}
use Rattle.sap_terms.specs.declared.signature.Builtin.{Builtin}
use Rattle.sap_terms.specs.declared.signature.Symbol.{Symbol}
use Rattle.sap_terms.specs.declared.var.Sort.{Sort}
use Rattle.sap_terms.specs.declared.var.Var.{Var}

-- a public name is a message of each sort that it fits, and so is a fresh name
pub record NamesAreMessages : Type 0 where
  pub public_name : (g : Sig) (s : Sort) (n : List ℕ) → IsTrue (fits_sort s (public n)) → IsMessage g s (public n)
  pub fresh_name : (g : Sig) (s : Sort) (k : ℕ) → IsTrue (fits_sort s (fresh k)) → IsMessage g s (fresh k)

-- variables and names are normal, and so is what is no destructor on normal terms
pub record LeavesAreNormal : Type 0 where
  pub of_variable : (e : Equations) (v : Var) → IsNormal e (variable v)
  pub of_public_name : (e : Equations) (n : List ℕ) → IsNormal e (public n)
  pub of_fresh_name : (e : Equations) (k : ℕ) → IsNormal e (fresh k)
  pub of_symbol : (e : Equations) (f : List ℕ) (ts : Trees) → (IsDestructor e f → ⊥) → AreNormal e ts → IsNormal e (apply f ts)

-- the test of destructors takes exactly the names that head the left side of an equation that is switched on
abbrev pub DestructorsHeadLeftSides : Type 0
DestructorsHeadLeftSides = (g : Sig) (f : List ℕ) → (is_destructor_of g f ≡ true) ↔ IsDestructor (equations g) f

-- the symbols of each builtin that was added are held at the start, where nothing was, and stay so whatever is declared or added
pub record BuiltinsStayHeld : Type 0 where
  pub at_start : HoldsBuiltins pairs_alone
  pub behind_symbol : (g : Sig) (s : Symbol) → HoldsBuiltins g → HoldsBuiltins (record g { symbols = declared g.symbols s.name s.arity s.private })
  pub behind_builtin : (g : Sig) (b : Builtin) → HoldsBuiltins g → first_clash g.symbols (builtin_symbols b) ≡ None → HoldsBuiltins (added g b)
