-- What stands below a process as it is written, and its head over something else.
use Rattle.std.specs.Prelude.{◌≡◌, ◌<◌, ℕ, Bool, List, [], ◌∷◌, ◌++◌, if◌then◌else◌}
use Rattle.sap_terms.specs.Choice.{instance}
use Rattle.sap_terms.specs.declared.var.Var.{Var}
use Rattle.sap_process.specs.Instance.{action_instance}
use Rattle.sap_process.specs.Proc as whole
use Rattle.sap_process.specs.Proc.{Proc}
use Rattle.sap_macro.specs.Expansion.{binding, binding_vars, with_uses}
use Rattle.sap_macro.specs.Sources.{written}
use Rattle.sap_macro.specs.Seen.{seen}
use Rattle.sap_macro.specs.UpToNames.{named}
use Rattle.sap_macro.specs.Written.{Written, nil, call, parallel, replicated, act, test, lookup, Definition}
use Rattle.sap_macro.specs.code.Standings.{choice_of, name_of}
use Rattle.sap_macro.specs.Walked.{steps_in}
use Rattle.sap_macro.specs.code.Steps.{built, plain_of}
use Rattle.sap_macro.specs.declared.source.Below.{Below}
use Rattle.sap_macro.specs.declared.source.Below.TheVariants.{Nothing, Use, One, Two}
use Rattle.sap_macro.specs.declared.standing.Standing.{Standing}

-- the head of what has one process below, with this put in, over another one
abbrev pub headed : Standing → Written → Proc → Proc
headed s (replicated p) q = whole.replicated q
headed s (act a p) q = whole.act (binding (name_of s) (action_instance (choice_of s) a)) q
headed s w q = q

-- the head of what has two, over others
abbrev pub forked : Standing → Written → Proc → Proc → Proc
forked s (parallel p q) x y = whole.parallel x y
forked s (test t u p q) x y = whole.test (instance (choice_of s) t) (instance (choice_of s) u) x y
forked s (lookup t v p q) x y =
    whole.lookup (instance (choice_of s) t) (named (name_of s v.name) v.sort) x y
forked s w x y = x

-- the names that a head may bind, but for those that pass the test
abbrev pub other_names : (List ℕ → Bool) → List Var → List (List ℕ)
other_names known [] = []
other_names known (v ∷ vs) =
    if known v.name then other_names known vs else (v.name ∷ other_names known vs)

abbrev pub head_names : (List ℕ → Bool) → Written → List (List ℕ)
head_names known (act a p) = other_names known (binding_vars a)
head_names known (lookup t x p q) = x.name ∷ []
head_names known w = []

-- those that stand anywhere in a process, in preorder
unfoldable pub met_names : (List ℕ → Bool) → Written → List (List ℕ)
met_names known nil = []
met_names known (call f ts) = []
met_names known (parallel p q) = met_names known p ++ met_names known q
met_names known (replicated p) = met_names known p
met_names known (act a p) = other_names known (binding_vars a) ++ met_names known p
met_names known (test t u p q) = met_names known p ++ met_names known q
met_names known (lookup t x p q) = (x.name ∷ []) ++ (met_names known p ++ met_names known q)

-- those of a process whose names without parameters are replaced
abbrev pub names_in : List Definition → (List ℕ → Bool) → Written → List (List ℕ)
names_in ds known w = met_names known (with_uses (plain_of ds) w)

-- such a process as flaws of scope see it
unfoldable pub seen_in : List Definition → Written → Proc
seen_in ds w = seen (with_uses (plain_of ds) w)

-- nothing is put in
abbrev pub PutsNothing : Standing → Type 0
PutsNothing s = (s.terms ≡ []) × (s.names ≡ [])

-- what is built of a process that has one below
pub record IsOver (w p : Written) : Type 0 where
  pub process : (ds : List Definition) (s : Standing) (taken : List (List ℕ))
      → (built ds s w taken).process ≡ headed s w (built ds s p taken).process
  pub taken : (ds : List Definition) (s : Standing) (taken : List (List ℕ))
      → (built ds s w taken).taken ≡ (built ds s p taken).taken
  pub names : (ds : List Definition) (known : List ℕ → Bool)
      → names_in ds known w ≡ head_names known w ++ names_in ds known p
  pub seen : (ds : List Definition) (s : Standing) → PutsNothing s
      → seen_in ds w ≡ headed s w (seen_in ds p)
  pub further : (ds : List Definition) → steps_in ds p < steps_in ds w

-- and of one that has two
pub record IsOverBoth (w p q : Written) : Type 0 where
  pub process : (ds : List Definition) (s : Standing) (taken : List (List ℕ))
      → (built ds s w taken).process
      ≡ forked s w (built ds s p taken).process (built ds s q (built ds s p taken).taken).process
  pub taken : (ds : List Definition) (s : Standing) (taken : List (List ℕ))
      → (built ds s w taken).taken ≡ (built ds s q (built ds s p taken).taken).taken
  pub names : (ds : List Definition) (known : List ℕ → Bool) → names_in ds known w
      ≡ head_names known w ++ (names_in ds known p ++ names_in ds known q)
  pub seen : (ds : List Definition) (s : Standing) → PutsNothing s
      → seen_in ds w ≡ forked s w (seen_in ds p) (seen_in ds q)
  pub first : (ds : List Definition) → steps_in ds p < steps_in ds w
  pub second : (ds : List Definition) → steps_in ds q < steps_in ds w

-- these stand below it
abbrev pub IsBelow : Below → Written → Type 0
IsBelow Nothing w = w ≡ nil
IsBelow (Use f ts) w = w ≡ call f.now ts.now
IsBelow (One p) w = IsOver w (written p.now)
IsBelow (Two p q) w = IsOverBoth w (written p.now) (written q.now)
