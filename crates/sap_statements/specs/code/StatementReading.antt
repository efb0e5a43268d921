-- Reading restrictions and lemmas from the left, as the code does it.
use Rattle.std.specs.Prelude.{ℕ, Bool, ◌&&◌, ◌||◌, if◌then◌else◌, codes, List, [], length, drop, Some, None}
use Rattle.sap_terms.specs.Signature.{Sig}
use Rattle.sap_formula.specs.Form.{Form}
use Rattle.sap_formula.specs.declared.lemma.Mode.{Mode}
use Rattle.sap_formula.specs.declared.lemma.Mode.TheVariants.{AllTraces, ExistsTrace}
use Rattle.sap_grammar.specs.declared.limits.Limits.{Limits}
use Rattle.sap_grammar.specs.Words.{Word, starts}
use Rattle.sap_grammar.specs.Reading.{Reader, after, bare, names, list_of, past}
use Rattle.sap_statements.specs.Statements.{Statement, restriction, lemma}
use Rattle.sap_formula_grammar.specs.FormulaReading.{short_formula}

-- one of the words for the prover stands first
abbrev pub starts_attribute : List Word → Bool
starts_attribute ws = names (codes "reuse") ws || (names (codes "use_induction") ws || names (codes "sources") ws)

abbrev pub attribute : Reader (List ℕ)
attribute ws = if starts_attribute ws then bare ws else None

-- behind an opening bracket
abbrev pub some_attributes : Reader (List (List ℕ))
some_attributes ws = list_of (codes "]") attribute (length ws) ws

abbrev pub attributes : Reader (List (List ℕ))
attributes ws = if starts (codes "[") ws then some_attributes (drop 1 ws) else Some ([], ws)

-- two names with `-` between them stand first
abbrev pub dashed : List ℕ → List ℕ → List Word → Bool
dashed x y ws = names x ws && (starts (codes "-") (drop 1 ws) && names y (drop 2 ws))

-- the mode, and the words behind it
abbrev pub mode : List Word → Mode × List Word
mode ws =
    if dashed (codes "all") (codes "traces") ws then (AllTraces, drop 3 ws)
    else if dashed (codes "exists") (codes "trace") ws then (ExistsTrace, drop 3 ws)
    else (AllTraces, ws)

-- a formula within the limits, between quotation marks
abbrev pub quotation : Sig → Limits → Reader Form
quotation g m ws = past (codes "\"") ws (λ r. after (short_formula g m r) (λ f z. past (codes "\"") z (λ y. Some (f, y))))

-- behind the name of a restriction
abbrev pub restricted : Sig → Limits → List ℕ → Reader Statement
restricted g m x ws = past (codes ":") ws (λ r. after (quotation g m r) (λ f z. Some (restriction (record { name = x; formula = f }), z)))

-- behind the mode of a lemma
abbrev pub said : Sig → Limits → List ℕ → List (List ℕ) → Mode → Reader Statement
said g m x xs d ws = after (quotation g m ws) (λ f r. Some (lemma (record { name = x; attributes = xs; mode = d; formula = f }), r))

-- behind the name of a lemma and its attributes
abbrev pub claimed : Sig → Limits → List ℕ → List (List ℕ) → Reader Statement
claimed g m x xs ws = past (codes ":") ws (λ r. said g m x xs (mode r).0 (mode r).1)

-- behind the name of a lemma
abbrev pub attributed : Sig → Limits → List ℕ → Reader Statement
attributed g m x ws = after (attributes ws) (λ xs r. claimed g m x xs r)

abbrev pub a_restriction : Sig → Limits → Reader Statement
a_restriction g m ws = after (bare ws) (λ x r. restricted g m x r)

abbrev pub a_lemma : Sig → Limits → Reader Statement
a_lemma g m ws = after (bare ws) (λ x r. attributed g m x r)

abbrev pub statement : Sig → Limits → Reader Statement
statement g m ws =
    if starts (codes "restriction") ws then a_restriction g m (drop 1 ws)
    else if starts (codes "lemma") ws then a_lemma g m (drop 1 ws)
    else None
