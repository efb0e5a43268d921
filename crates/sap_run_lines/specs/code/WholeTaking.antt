-- Words that are taken from the left, with nothing left behind.
-- Bytes by their codes: 36 is `$`, 39 `'`, 126 `~`.
use Rattle.std.specs.Prelude.{ℕ, Bool, true, false, if◌then◌else◌, List, [], ◌∷◌, drop, Option, Some, None}
use Rattle.sap_terms.specs.declared.var.Sort.{Sort}
use Rattle.sap_terms.specs.declared.var.Sort.TheVariants.{Msg, Fresh, Pub}
use Rattle.sap_terms.specs.declared.var.Var.{Var}
use Rattle.sap_terms.specs.Tree.{Tree}
use Rattle.sap_run_lines.specs.code.Taking.{Taken, after, given, starts, name_at, number_at, content_at}
use Rattle.sap_run_lines.specs.code.TermTaking.{small_term}
use Rattle.sap_run_lines.specs.code.WordTaking.{sorted}

-- no bytes
abbrev pub is_end : List ℕ → Bool
is_end [] = true
is_end (b ∷ z) = false

-- what was taken, where nothing is left
abbrev pub alone : {A : Type 0} → A → List ℕ → Option A
alone x r = if is_end r then Some x else None

abbrev pub whole : {A : Type 0} → Taken A → Option A
whole r = after r alone

abbrev pub name_alone : List ℕ → Option (List ℕ)
name_alone z = whole (name_at z)

abbrev pub fresh_alone : List ℕ → Option ℕ
fresh_alone z = if starts 126 z then whole (number_at (drop 1 z)) else None

abbrev pub public_alone : List ℕ → Option (List ℕ)
public_alone z = if starts 39 z then whole (content_at (drop 1 z)) else None

-- the sort of which a sign stands first
abbrev pub sort_first : List ℕ → Sort
sort_first z = if starts 126 z then Fresh else if starts 36 z then Pub else Msg

-- the bytes behind the sign, if one stands first
abbrev pub behind_sign : List ℕ → List ℕ
behind_sign z = if starts 126 z then drop 1 z else if starts 36 z then drop 1 z else z

abbrev pub variable_alone : List ℕ → Option Var
variable_alone z = given (name_alone (behind_sign z)) (λ x. Some (sorted (sort_first z) x))

abbrev pub term_alone : List ℕ → Option Tree
term_alone z = whole (small_term z)
