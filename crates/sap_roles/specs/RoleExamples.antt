-- Small files, to try by hand which roles threads have.
use Rattle.std.specs.Prelude.{ℕ, codes, List, [], ◌∷◌, Some, None}
use Rattle.sap_terms.specs.Tree.{Tree, public, variable}
use Rattle.sap_terms.specs.declared.var.Sort.TheVariants.{Fresh, Msg}
use Rattle.sap_process.specs.Action.{new, out}
use Rattle.sap_macro.specs.Located.{Located, nil_at, call_at, parallel_at, replicated_at, act_at, test_at, lookup_at}
use Rattle.sap_macro.specs.UpToNames.{named}
use Rattle.sap_origin.specs.Definitions.{LocatedDefinition}
use Rattle.sap_roles.specs.Roles.{IsRoleAt}

-- in a file with these definitions and this process, behind which no word stands, this is the role along the path
abbrev pub HasRole : List LocatedDefinition → Located → List ℕ → List ℕ → Type 0
HasRole ds p path f = IsRoleAt ds p 0 path (Some f)

abbrev pub HasNoRole : List LocatedDefinition → Located → List ℕ → Type 0
HasNoRole ds p path = IsRoleAt ds p 0 path None

-- no number matters here
abbrev pub end : Located
end = nil_at 0

abbrev pub out_then : Tree → Located → Located
out_then t p = act_at 0 (out t) p

abbrev pub both : Located → Located → Located
both p q = parallel_at 0 p q

abbrev pub often : Located → Located
often p = replicated_at 0 p

abbrev pub use_of : List ℕ → Located
use_of f = call_at 0 f []

abbrev pub let_be : List ℕ → Located → LocatedDefinition
let_be f p = record { name = f; params = []; body = p; behind = 0 }

-- 'a'; the names of definitions
abbrev pub a : Tree
a = public (codes "a")

abbrev pub server : List ℕ
server = codes "Server"

abbrev pub answer : List ℕ
answer = codes "Answer"

abbrev pub inner : List ℕ
inner = codes "Inner"

abbrev pub outer : List ℕ
outer = codes "Outer"

abbrev pub system : List ℕ
system = codes "System"

abbrev pub alias : List ℕ
alias = codes "Alias"

abbrev pub main : List ℕ
main = codes "main"

abbrev pub tester : List ℕ
tester = codes "Tester"

abbrev pub finder : List ℕ
finder = codes "Finder"

-- let Answer = out('a')  let Server = out('a'); Answer
abbrev pub serving : List LocatedDefinition
serving = let_be answer (out_then a end) ∷ let_be server (out_then a (use_of answer)) ∷ []

-- new ~k; (Server | Answer)
abbrev pub after_new : Located
after_new = act_at 0 (new (named (codes "k") Fresh)) (both (use_of server) (use_of answer))

-- new ~k; Answer
abbrev pub late : Located
late = act_at 0 (new (named (codes "k") Fresh)) (use_of answer)

-- let System = (Server | Answer), behind these
abbrev pub systems : List LocatedDefinition
systems =
    let_be answer (out_then a end) ∷ let_be server (out_then a (use_of answer))
    ∷ let_be system (both (use_of server) (use_of answer)) ∷ []

-- let Inner = out('a')  let Outer = out('a'); (Inner | out('a'))
abbrev pub nested : List LocatedDefinition
nested =
    let_be inner (out_then a end) ∷ let_be outer (out_then a (both (use_of inner) (out_then a end))) ∷ []

-- let Inner = out('a')  let Outer = out('a'); !Inner  let Alias = !out('a')
abbrev pub copying : List LocatedDefinition
copying =
    let_be inner (out_then a end) ∷ let_be outer (out_then a (often (use_of inner)))
    ∷ let_be alias (often (out_then a end)) ∷ []

-- let Server(x) = out(x), used on 'a' and on 'b'
abbrev pub with_parameter : List LocatedDefinition
with_parameter =
    record { name = server; params = codes "x" ∷ []; body = out_then (variable (named (codes "x") Msg)) end; behind = 0 } ∷ []

abbrev pub two_uses : Located
two_uses = both (call_at 0 server (a ∷ [])) (call_at 0 server (public (codes "b") ∷ []))

-- let Answer = out('a')  let Alias = Answer
abbrev pub with_alias : List LocatedDefinition
with_alias = let_be answer (out_then a end) ∷ let_be alias (use_of answer) ∷ []

-- let Tester = if 'a' = 'a' then out('a') else 0  let Finder = lookup 'a' as x in out('a') else 0
abbrev pub deciding : List LocatedDefinition
deciding =
    let_be tester (test_at 0 a a (out_then a end) end)
    ∷ let_be finder (lookup_at 0 a (named (codes "x") Msg) (out_then a end) end) ∷ []

-- let main = out('a')
abbrev pub with_main : List LocatedDefinition
with_main = let_be main (out_then a end) ∷ []

-- let Answer = 0
abbrev pub with_nothing : List LocatedDefinition
with_nothing = let_be answer end ∷ []

-- out('a') | out('a')
abbrev pub no_let : Located
no_let = both (out_then a end) (out_then a end)
