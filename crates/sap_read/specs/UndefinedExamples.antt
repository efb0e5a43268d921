-- Small files, to try by hand which word is the first name that nothing before it defines.
use Rattle.std.specs.Prelude.{◌≡◌, ℕ, codes, List, [], Some, None}
use Rattle.sap_terms.specs.Tree.{Tree, public}
use Rattle.sap_terms.specs.declared.var.Sort.TheVariants.{Msg}
use Rattle.sap_process.specs.Action.{delete}
use Rattle.sap_macro.specs.Located.{Located, nil_at, call_at, parallel_at, replicated_at, act_at, test_at, lookup_at}
use Rattle.sap_macro.specs.UpToNames.{named}
use Rattle.sap_read.specs.LocatedItems.{LocatedBody}
use Rattle.sap_read.specs.UndefinedNames.{UsedName, first_undefined}

-- a name where so many words of the file are left
abbrev pub named_at : List ℕ → ℕ → UsedName
named_at x n = record { name = x; word = n }

-- a definition behind whose item so many words of the file are
abbrev pub defined : List ℕ → Located → ℕ → LocatedBody
defined x p n = record { label = Some x; params = []; content = p; line = 1; behind = n }

-- the file's process, behind which is `end`
abbrev pub own : Located → LocatedBody
own p = record { label = None; params = []; content = p; line = 1; behind = 1 }

-- let P = 0, let R = P | !Q, process: R
abbrev pub p_is : LocatedBody
p_is = defined (codes "P") (nil_at 1) 12

abbrev pub r_is : LocatedBody
r_is = defined (codes "R") (parallel_at 3 (call_at 4 (codes "P") []) (replicated_at 2 (call_at 1 (codes "Q") []))) 5

abbrev pub uses_r : LocatedBody
uses_r = own (call_at 1 (codes "R") [])

-- process: delete 'a'; Q
abbrev pub a : Tree
a = public (codes "a")

abbrev pub deletes : LocatedBody
deletes = own (act_at 4 (delete a) (call_at 1 (codes "Q") []))

-- process: if 'a' = 'a' then P else Q
abbrev pub tests : LocatedBody
tests = own (test_at 8 a a (call_at 3 (codes "P") []) (call_at 1 (codes "Q") []))

-- process: lookup 'a' as x in P else Q
abbrev pub looks_up : LocatedBody
looks_up = own (lookup_at 8 a (named (codes "x") Msg) (call_at 3 (codes "P") []) (call_at 1 (codes "Q") []))

-- the first undefined name of these is that at the word from which so many are left
abbrev pub IsUndefinedAt : List LocatedBody → List ℕ → ℕ → Type 0
IsUndefinedAt bs x n = first_undefined [] bs ≡ Some (named_at x n)

-- they have none
abbrev pub HaveNone : List LocatedBody → Type 0
HaveNone bs = first_undefined [] bs ≡ None
