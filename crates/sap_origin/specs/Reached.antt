-- By which written place one comes to a place, and through which uses, where names are replaced.
use Rattle.std.specs.Prelude.{◌≡◌, ℕ, ◌+◌, List, [], ◌∷◌, Option, Some, None, ⊤}
use Rattle.sap_terms.specs.Tree.{Tree}
use Rattle.sap_terms.specs.declared.var.Var.{Var}
use Rattle.sap_process.specs.Action.{Action}
use Rattle.sap_process.specs.Places.{child}
use Rattle.sap_process.specs.Proc.{Proc}
use Rattle.sap_macro.specs.Located.{Located, nil_at, call_at, parallel_at, replicated_at, act_at, test_at, lookup_at}
use Rattle.sap_origin.specs.Definitions.{LocatedDefinition}
use Rattle.sap_origin.specs.Meant.{definition_of}
use Rattle.sap_origin.specs.declared.trail.Replaced.{Replaced}
use Rattle.sap_origin.specs.declared.trail.Replaced.TheVariants.{Every, Plain}

-- how many words of the file are behind the item in which one is, and how many are left from the name of each use by which one came
-- there, the innermost first
pub record Standing : Type 0 where
  pub behind : ℕ
  pub uses : List ℕ

-- through a use whose name has this number one comes to the body of its definition
abbrev pub entered : Standing → ℕ → LocatedDefinition → Standing
entered s k d = record { behind = d.behind; uses = (k + s.behind) ∷ s.uses }

-- it is no use
abbrev pub IsForm : Located → Type 0
IsForm (nil_at k) = ⊤
IsForm (call_at k f ts) = ⊥
IsForm (parallel_at k p q) = ⊤
IsForm (replicated_at k p) = ⊤
IsForm (act_at k a p) = ⊤
IsForm (test_at k t u p q) = ⊤
IsForm (lookup_at k t x p q) = ⊤

-- a name with these parameters is replaced
abbrev pub IsReplaced : Replaced → List (List ℕ) → Type 0
IsReplaced Every xs = ⊤
IsReplaced Plain xs = xs ≡ []

-- nothing replaces a use of the name: if it stands for a definition, then for none whose name is replaced
abbrev pub IsLeft : List LocatedDefinition → Replaced → List ℕ → Type 0
IsLeft ds v f = (d : LocatedDefinition) → definition_of ds f ≡ Some d → ¬ (IsReplaced v d.params)

-- it is a form, or a use that is left
abbrev pub IsSeen : List LocatedDefinition → Located → Type 0
IsSeen ds (nil_at k) = ⊤
IsSeen ds (call_at k f ts) = IsLeft ds Plain f
IsSeen ds (parallel_at k p q) = ⊤
IsSeen ds (replicated_at k p) = ⊤
IsSeen ds (act_at k a p) = ⊤
IsSeen ds (test_at k t u p q) = ⊤
IsSeen ds (lookup_at k t x p q) = ⊤

-- a path may end there: a use that is left is a place where names without parameters alone are replaced
abbrev pub IsEnd : List LocatedDefinition → Replaced → Located → Type 0
IsEnd ds Every p = IsForm p
IsEnd ds Plain p = IsSeen ds p

-- Where these names are replaced, one comes along this path from what is written to this place: a use that is replaced has no digit of its
-- own, and the path goes on in the body of its definition; below a use that is left there is nothing.
pub data ReachesBy (ds : List LocatedDefinition) (v : Replaced)
    : Standing → Located → List ℕ → Standing → Located → Type 0 where
  reaches_here : {s : Standing} {p : Located} → IsEnd ds v p → ReachesBy ds v s p [] s p
  reaches_use : {s z : Standing} {k : ℕ} {f : List ℕ} {ts : List Tree} {d : LocatedDefinition}
      {path : List ℕ} {q : Located} → definition_of ds f ≡ Some d → IsReplaced v d.params
      → ReachesBy ds v (entered s k d) d.body path z q → ReachesBy ds v s (call_at k f ts) path z q
  reaches_left : {s z : Standing} {k : ℕ} {p r q : Located} {path : List ℕ}
      → ReachesBy ds v s p path z q → ReachesBy ds v s (parallel_at k p r) (1 ∷ path) z q
  reaches_right : {s z : Standing} {k : ℕ} {p r q : Located} {path : List ℕ}
      → ReachesBy ds v s r path z q → ReachesBy ds v s (parallel_at k p r) (2 ∷ path) z q
  reaches_copy : {s z : Standing} {k : ℕ} {p q : Located} {path : List ℕ}
      → ReachesBy ds v s p path z q → ReachesBy ds v s (replicated_at k p) (1 ∷ path) z q
  reaches_behind : {s z : Standing} {k : ℕ} {a : Action} {p q : Located} {path : List ℕ}
      → ReachesBy ds v s p path z q → ReachesBy ds v s (act_at k a p) (1 ∷ path) z q
  reaches_then : {s z : Standing} {k : ℕ} {t u : Tree} {p r q : Located} {path : List ℕ}
      → ReachesBy ds v s p path z q → ReachesBy ds v s (test_at k t u p r) (1 ∷ path) z q
  reaches_else : {s z : Standing} {k : ℕ} {t u : Tree} {p r q : Located} {path : List ℕ}
      → ReachesBy ds v s r path z q → ReachesBy ds v s (test_at k t u p r) (2 ∷ path) z q
  reaches_found : {s z : Standing} {k : ℕ} {t : Tree} {x : Var} {p r q : Located} {path : List ℕ}
      → ReachesBy ds v s p path z q → ReachesBy ds v s (lookup_at k t x p r) (1 ∷ path) z q
  reaches_missing : {s z : Standing} {k : ℕ} {t : Tree} {x : Var} {p r q : Located}
      {path : List ℕ} → ReachesBy ds v s r path z q
      → ReachesBy ds v s (lookup_at k t x p r) (2 ∷ path) z q

-- in the expansion, where all names are replaced
abbrev pub Reaches : List LocatedDefinition → Standing → Located → List ℕ → Standing → Located → Type 0
Reaches ds s p path z q = ReachesBy ds Every s p path z q

-- the number of a place
abbrev pub number_of : Located → ℕ
number_of (nil_at k) = k
number_of (call_at k f ts) = k
number_of (parallel_at k p q) = k
number_of (replicated_at k p) = k
number_of (act_at k a p) = k
number_of (test_at k t u p q) = k
number_of (lookup_at k t x p q) = k

-- the process to which these digits lead
abbrev pub process_below : Option Proc → List ℕ → Option Proc
process_below None path = None
process_below (Some p) [] = Some p
process_below (Some p) (e ∷ path) = process_below (child p e) path

abbrev pub process_at : Proc → List ℕ → Option Proc
process_at p path = process_below (Some p) path
