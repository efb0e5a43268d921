-- Which step of a short run has its line in bytes.
use Rattle.std.specs.Prelude.{ℕ, Bool, ◌||◌, codes, if◌then◌else◌, List, drop, Option, Some, None}
use Rattle.std.specs.Str.{bytes_eq}
use Rattle.sap_terms.specs.Tree.{Tree}
use Rattle.sap_terms.specs.View.{term}
use Rattle.sap_runs.specs.declared.short_step.SStep.{SStep}
use Rattle.sap_runs.specs.declared.short_step.SStep.TheVariants as short
use Rattle.sap_run_lines.specs.code.Taking.{after, given, starts, identifier_at}
use Rattle.sap_run_lines.specs.code.WordTaking.{on_words}
use Rattle.sap_run_lines.specs.code.StepTaking.{number_of, number_behind, process_named_at}
use Rattle.sap_run_lines.specs.code.WholeTaking.{term_alone}

-- the term that stands alone behind one blank
abbrev pub term_behind : List ℕ → Option Tree
term_behind z = if starts 32 z then term_alone (drop 1 z) else None

-- behind the word `in`: a thread and a term
abbrev pub input_at : List ℕ → Option SStep
input_at z = after (number_behind z) (λ t r. given (term_behind r) (λ u. Some (short.In t (term u))))

-- behind `send`: a thread
abbrev pub sending_at : List ℕ → Option SStep
sending_at z = given (on_words number_of z) (λ t. Some (short.Send t))

-- behind `know`: a term
abbrev pub knowing_at : List ℕ → Option SStep
knowing_at z = given (term_behind z) (λ u. Some (short.Know (term u)))

-- the line writes down a public name or applies a symbol
abbrev pub is_left_out : List ℕ → Bool
is_left_out x = bytes_eq x (codes "pub") || bytes_eq x (codes "app")

-- any other line is that of a step of a process
abbrev pub as_it_is_at : List ℕ → List ℕ → Option SStep
as_it_is_at x z = given (process_named_at x z) (λ s. Some (short.Act s))

-- the step that begins with this word, from the bytes behind it
abbrev pub short_named_at : List ℕ → List ℕ → Option SStep
short_named_at x z =
    if bytes_eq x (codes "in") then input_at z
    else if bytes_eq x (codes "send") then sending_at z
    else if bytes_eq x (codes "know") then knowing_at z
    else if is_left_out x then None
    else as_it_is_at x z

-- the step whose line the bytes are
abbrev pub short_line_of : List ℕ → Option SStep
short_line_of z = after (identifier_at z) short_named_at
