-- Uses of definitions as they are written, each with its word, and the first that has another number of arguments.
use Rattle.std.specs.Prelude.{◌==◌, ℕ, ◌+◌, List, [], ◌∷◌, ◌++◌, length, map, Option, Some, None, if◌then◌else◌}
use Rattle.sap_terms.specs.Tree.{Tree}
use Rattle.sap_macro.specs.Located.{Located, nil_at, call_at, parallel_at, replicated_at, act_at, test_at, lookup_at}
use Rattle.sap_macro.specs.MacroCauses.{Use, parameter_count}
use Rattle.sap_origin.specs.Definitions.{LocatedDefinition, plain_definition}
use Rattle.sap_origin.specs.Origins.{start}
use Rattle.sap_origin.specs.Reached.{Standing}

-- a use: the name, its arguments, how many words of the file are left from the name, and how many from the name of each use above it, by
-- which one comes to it, the innermost first
pub record LocatedUse : Type 0 where
  pub name : List ℕ
  pub args : List Tree
  pub word : ℕ
  pub above : List ℕ

-- without the words
abbrev pub plain_use : LocatedUse → Use
plain_use u = (u.name, u.args)

-- the use whose name has this number, where one stands so
abbrev pub use_at : Standing → ℕ → List ℕ → List Tree → LocatedUse
use_at s k f ts = record { name = f; args = ts; word = k + s.behind; above = s.uses }

-- the uses in a process in preorder, where one stands so
abbrev pub uses_at : Standing → Located → List LocatedUse
uses_at s (nil_at k) = []
uses_at s (call_at k f ts) = use_at s k f ts ∷ []
uses_at s (parallel_at k p q) = uses_at s p ++ uses_at s q
uses_at s (replicated_at k p) = uses_at s p
uses_at s (act_at k a p) = uses_at s p
uses_at s (test_at k t u p q) = uses_at s p ++ uses_at s q
uses_at s (lookup_at k t x p q) = uses_at s p ++ uses_at s q

-- those in the bodies in order, and then in a process, behind whose item so many words of the file are
abbrev pub written_uses : List LocatedDefinition → ℕ → Located → List LocatedUse
written_uses [] n p = uses_at (start n) p
written_uses (d ∷ ds) n p = uses_at (start d.behind) d.body ++ written_uses ds n p

-- the first of these uses that has not so many arguments
abbrev pub first_other : (List ℕ → ℕ) → List LocatedUse → Option LocatedUse
first_other count [] = None
first_other count (u ∷ us) =
    if length u.args == count u.name then first_other count us else Some u

-- the first use with another number of arguments than its definition has parameters
abbrev pub other_use : List LocatedDefinition → ℕ → Located → Option LocatedUse
other_use ds n p =
    first_other (parameter_count (map plain_definition ds)) (written_uses ds n p)
