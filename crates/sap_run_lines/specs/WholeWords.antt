-- Words of runs that stand by themselves: all of the bytes are one word.
-- Bytes by their codes: 39 is `'`, 126 `~`.
use Rattle.std.specs.Prelude.{◌≡◌, ℕ, Bool, true, nat_lt, decimal, List, [], ◌∷◌, ◌++◌, Option, Some, None}
use Rattle.std.specs.List.{list_all}
use Rattle.sap_terms.specs.declared.var.Var.{Var}
use Rattle.sap_terms.specs.Tree.{Tree}
use Rattle.sap_grammar.specs.TermText.{variable_text}
use Rattle.sap_runs.specs.Limits.{HasFewNodes}
use Rattle.sap_run_lines.specs.RunTerms.{IsNumber, IsRunName, IsRunContent, IsRunTerm}

-- the value that something is, or that it is none's
abbrev pub IsReadAs : {A B : Type 0} → (A → B → Type 0) → B → Option A → Type 0
IsReadAs Is y None = (x : _) → Is x y → ⊥
IsReadAs Is y (Some x) = Is x y

-- the bytes are the fresh name with this number
abbrev pub IsFreshName : ℕ → List ℕ → Type 0
IsFreshName n z = IsNumber n × (z ≡ 126 ∷ decimal n)

-- the public name with this content
abbrev pub IsPublicName : List ℕ → List ℕ → Type 0
IsPublicName s z = IsRunContent s × (z ≡ 39 ∷ (s ++ 39 ∷ []))

-- this variable, its sign before its name
abbrev pub IsRunVariable : Var → List ℕ → Type 0
IsRunVariable v z = IsRunName v.name × (z ≡ variable_text v)

-- they spell this ground term, which has at most 256 nodes
abbrev pub IsWholeTerm : Tree → List ℕ → Type 0
IsWholeTerm t z = IsRunTerm t z [] × HasFewNodes t

-- a byte of ASCII
abbrev pub is_ascii : ℕ → Bool
is_ascii b = nat_lt b 128

-- each byte is
abbrev pub IsAsciiText : List ℕ → Type 0
IsAsciiText z = list_all is_ascii z ≡ true
