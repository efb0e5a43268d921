-- Which step has these words, and the step whose words stand in bytes.
use Rattle.std.specs.Prelude.{◌≡◌, ℕ, Bool, true, false, codes, if◌then◌else◌, List, [], ◌∷◌, ◌++◌, Option, Some, None}
use Rattle.std.specs.Str.{bytes_eq}
use Rattle.sap_terms.specs.declared.binding.Binding.{Binding}
use Rattle.sap_terms.specs.View.{term}
use Rattle.sap_runs.specs.declared.process_step.PStep.{PStep}
use Rattle.sap_runs.specs.declared.process_step.PStep.TheVariants as step
use Rattle.sap_runs.specs.declared.rule_step.RStep.{RStep}
use Rattle.sap_runs.specs.declared.rule_step.RStep.TheVariants as rstep
use Rattle.sap_run_lines.specs.NumberedSteps.{process_one, process_two, rule_one}
use Rattle.sap_run_lines.specs.LineWords.{LineWord, identifier, number, fresh_name, public_name, bound}
use Rattle.sap_run_lines.specs.code.Taking.{after, given, is_run_name, identifier_at, name_at, number_at}
use Rattle.sap_run_lines.specs.code.TermTaking.{Taker}
use Rattle.sap_run_lines.specs.code.WordTaking.{word_at, on_words, behind_blank}

-- what a word holds, if it is of the kind
abbrev pub as_identifier : LineWord → Option (List ℕ)
as_identifier (identifier x) = Some x
as_identifier (number n) = None
as_identifier (fresh_name n) = None
as_identifier (public_name s) = None
as_identifier (bound v t) = None

abbrev pub as_number : LineWord → Option ℕ
as_number (identifier x) = None
as_number (number n) = Some n
as_number (fresh_name n) = None
as_number (public_name s) = None
as_number (bound v t) = None

abbrev pub as_fresh : LineWord → Option ℕ
as_fresh (identifier x) = None
as_fresh (number n) = None
as_fresh (fresh_name n) = Some n
as_fresh (public_name s) = None
as_fresh (bound v t) = None

abbrev pub as_public : LineWord → Option (List ℕ)
as_public (identifier x) = None
as_public (number n) = None
as_public (fresh_name n) = None
as_public (public_name s) = Some s
as_public (bound v t) = None

abbrev pub as_bound : LineWord → Option Binding
as_bound (identifier x) = None
as_bound (number n) = None
as_bound (fresh_name n) = None
as_bound (public_name s) = None
as_bound (bound v t) = Some (record { var = v; term = term t })

-- the only word
abbrev pub only : List LineWord → Option LineWord
only [] = None
only (w ∷ []) = Some w
only (w ∷ u ∷ ws) = None

-- the numbers that stand first, and the words behind them
abbrev pub more_numbers : Option ℕ → List ℕ → List ℕ
more_numbers None ks = []
more_numbers (Some n) ks = n ∷ ks

abbrev pub numbers_first : List LineWord → List ℕ
numbers_first [] = []
numbers_first (w ∷ ws) = more_numbers (as_number w) (numbers_first ws)

abbrev pub is_some : Option ℕ → Bool
is_some None = false
is_some (Some n) = true

abbrev pub behind_numbers : List LineWord → List LineWord
behind_numbers [] = []
behind_numbers (w ∷ ws) = if is_some (as_number w) then behind_numbers ws else w ∷ ws

-- all of the words are numbers
abbrev pub where_none : List LineWord → List ℕ → Option (List ℕ)
where_none [] ks = Some ks
where_none (w ∷ ws) ks = None

abbrev pub numbers_of : List LineWord → Option (List ℕ)
numbers_of ws = where_none (behind_numbers ws) (numbers_first ws)

-- all of the words are bindings, behind others
unfoldable pub bindings_onto : List Binding → List LineWord → Option (List Binding)
bindings_onto bs [] = Some bs
bindings_onto bs (w ∷ ws) = given (as_bound w) (λ b. bindings_onto (bs ++ b ∷ []) ws)

abbrev pub bindings_of : List LineWord → Option (List Binding)
bindings_of ws = bindings_onto [] ws

-- bindings, one or more
abbrev pub some_bindings : List LineWord → Option (List Binding)
some_bindings [] = None
some_bindings (w ∷ ws) = bindings_of (w ∷ ws)

abbrev pub is_with : Option (List ℕ) → Bool
is_with None = false
is_with (Some x) = bytes_eq x (codes "with")

-- behind the facts of a rule: nothing, or `with` and bindings
abbrev pub with_of : List LineWord → Option (List Binding)
with_of [] = Some []
with_of (w ∷ ws) = if is_with (as_identifier w) then some_bindings ws else None

-- the facts that a rule is used on, and what its open variables stand for
unfoldable pub uses_of : List LineWord → Option (List ℕ × List Binding)
uses_of ws = given (with_of (behind_numbers ws)) (λ bs. Some (numbers_first ws, bs))

-- the word is a name
abbrev pub as_name : LineWord → Option (List ℕ)
as_name w = given (as_identifier w) (λ x. if is_run_name x then Some x else None)

-- what the first word holds, and the words behind it
abbrev pub first_of : {A : Type 0} → (LineWord → Option A) → List LineWord → Option (A × List LineWord)
first_of held [] = None
first_of held (w ∷ ws) = given (held w) (λ x. Some (x, ws))

abbrev pub word_first : List LineWord → Option (List ℕ × List LineWord)
word_first = first_of as_identifier

abbrev pub name_first : List LineWord → Option (List ℕ × List LineWord)
name_first = first_of as_name

abbrev pub number_first : List LineWord → Option (ℕ × List LineWord)
number_first = first_of as_number

-- a name and numbers
unfoldable pub applied_of : List LineWord → Option (List ℕ × List ℕ)
applied_of ws = given (name_first ws) (λ p. given (numbers_of p.1) (λ ks. Some (p.0, ks)))

-- a name, facts and bindings
unfoldable pub named_of : List LineWord → Option (List ℕ × List ℕ × List Binding)
named_of ws = given (name_first ws) (λ p. given (uses_of p.1) (λ u. Some (p.0, u.0, u.1)))

-- one public name; one fresh name; one number
abbrev pub public_of : List LineWord → Option (List ℕ)
public_of ws = given (only ws) as_public

abbrev pub fresh_of : List LineWord → Option ℕ
fresh_of ws = given (only ws) as_fresh

abbrev pub number_of : List LineWord → Option ℕ
number_of ws = given (only ws) as_number

-- the step of a process with this word, one of the last seven that have one number, and this number
abbrev pub later_one : List ℕ → ℕ → Option PStep
later_one x t =
    if bytes_eq x (codes "insert") then Some (step.Insert t)
    else if bytes_eq x (codes "delete") then Some (step.Delete t)
    else if bytes_eq x (codes "found") then Some (step.Found t)
    else if bytes_eq x (codes "missing") then Some (step.Missing t)
    else if bytes_eq x (codes "lock") then Some (step.Lock t)
    else if bytes_eq x (codes "unlock") then Some (step.Unlock t)
    else if bytes_eq x (codes "know") then Some (step.Know t)
    else None

-- with this number, and a second one if it stands behind
abbrev pub process_behind : List ℕ → ℕ → List LineWord → Option PStep
process_behind x t [] = process_one x t
process_behind x t (w ∷ ws) = given (number_of (w ∷ ws)) (λ b. process_two x t b)

abbrev pub process_numbered : List ℕ → List LineWord → Option PStep
process_numbered x ws = given (number_first ws) (λ p. process_behind x p.0 p.1)

abbrev pub new_of : List LineWord → Option PStep
new_of ws = given (number_first ws) (λ p. given (fresh_of p.1) (λ n. Some (step.New p.0 n)))

abbrev pub embedded_of : List LineWord → Option PStep
embedded_of ws = given (number_first ws) (λ p. given (uses_of p.1) (λ u. Some (step.Embedded p.0 u.0 u.1)))

-- the step that begins with this word
abbrev pub process_named : List ℕ → List LineWord → Option PStep
process_named x ws =
    if bytes_eq x (codes "rule") then embedded_of ws
    else if bytes_eq x (codes "app") then given (applied_of ws) (λ a. Some (step.Apply a.0 a.1))
    else if bytes_eq x (codes "pub") then given (public_of ws) (λ s. Some (step.Public s))
    else if bytes_eq x (codes "name") then given (fresh_of ws) (λ n. Some (step.Name n))
    else if bytes_eq x (codes "new") then new_of ws
    else process_numbered x ws

-- the step of a process with these words
unfoldable pub process_step_of : List LineWord → Option PStep
process_step_of ws = given (word_first ws) (λ p. process_named p.0 p.1)

abbrev pub rule_numbered : List ℕ → List LineWord → Option RStep
rule_numbered x ws = given (number_of ws) (λ f. rule_one x f)

abbrev pub rule_named : List ℕ → List LineWord → Option RStep
rule_named x ws =
    if bytes_eq x (codes "rule") then given (named_of ws) (λ u. Some (rstep.Rule u.0 u.1 u.2))
    else if bytes_eq x (codes "app") then given (applied_of ws) (λ a. Some (rstep.Apply a.0 a.1))
    else if bytes_eq x (codes "pub") then given (public_of ws) (λ s. Some (rstep.Public s))
    else if bytes_eq x (codes "fresh") then given (fresh_of ws) (λ n. Some (rstep.Fresh n))
    else rule_numbered x ws

-- the step of rules with these words
unfoldable pub rule_step_of : List LineWord → Option RStep
rule_step_of ws = given (word_first ws) (λ p. rule_named p.0 p.1)

-- a number, a name, a binding, behind one blank
abbrev pub number_behind : Taker ℕ
number_behind = behind_blank number_at

abbrev pub name_behind : Taker (List ℕ)
name_behind = behind_blank name_at

abbrev pub binding_behind : Taker Binding
binding_behind z = after (behind_blank word_at z) (λ w r. given (as_bound w) (λ b. Some (b, r)))

-- the bytes behind the word `with`
abbrev pub behind_with : List ℕ → Option (List ℕ)
behind_with z = after (behind_blank identifier_at z) (λ x r. if bytes_eq x (codes "with") then Some r else None)

-- the numbers that stand first behind a word are these, and the words behind them are those behind these bytes
abbrev pub numbers_apart : List ℕ → Option (List ℕ × List LineWord)
numbers_apart z = on_words (λ ws. Some (numbers_first ws, behind_numbers ws)) z

abbrev pub AreNumbersFirst : List ℕ → List ℕ → List ℕ → Type 0
AreNumbersFirst z ks r = numbers_apart z ≡ on_words (λ ws. Some (ks, ws)) r

-- the step that begins with this word, from the bytes behind it
abbrev pub process_named_at : List ℕ → List ℕ → Option PStep
process_named_at x z =
    if bytes_eq x (codes "rule") then on_words embedded_of z
    else if bytes_eq x (codes "app") then given (on_words applied_of z) (λ a. Some (step.Apply a.0 a.1))
    else if bytes_eq x (codes "pub") then given (on_words public_of z) (λ s. Some (step.Public s))
    else if bytes_eq x (codes "name") then given (on_words fresh_of z) (λ n. Some (step.Name n))
    else if bytes_eq x (codes "new") then on_words new_of z
    else on_words (process_numbered x) z

abbrev pub rule_named_at : List ℕ → List ℕ → Option RStep
rule_named_at x z =
    if bytes_eq x (codes "rule") then given (on_words named_of z) (λ u. Some (rstep.Rule u.0 u.1 u.2))
    else if bytes_eq x (codes "app") then given (on_words applied_of z) (λ a. Some (rstep.Apply a.0 a.1))
    else if bytes_eq x (codes "pub") then given (on_words public_of z) (λ s. Some (rstep.Public s))
    else if bytes_eq x (codes "fresh") then given (on_words fresh_of z) (λ n. Some (rstep.Fresh n))
    else on_words (rule_numbered x) z

-- the step of a process whose line the bytes are
abbrev pub process_line_of : List ℕ → Option PStep
process_line_of z = after (identifier_at z) process_named_at

-- the step of rules
abbrev pub rule_line_of : List ℕ → Option RStep
rule_line_of z = after (identifier_at z) rule_named_at
