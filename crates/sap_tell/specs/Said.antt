-- How terms of a line are told: as they stand, with what they are evaluated to behind them where that is another.
use Rattle.std.specs.Prelude.{ℕ, Bool, true, false, ◌&&◌, nat_le, codes, decimal, List, [], ◌∷◌, ◌++◌, map, if◌then◌else◌}
use Rattle.sap_called.specs.NamedTerms.{named}
use Rattle.sap_called.specs.Names.{Draw}
use Rattle.sap_grammar.specs.Pieces.{joined}
use Rattle.sap_grammar.specs.TermText.{applied, tree_text}
use Rattle.sap_terms.specs.Same.{same_tree}
use Rattle.sap_terms.specs.Tree.{Tree, apply, Trees, none, more, node_count}
use Rattle.sap_terms.specs.declared.fact.Fact.{Fact}
use Rattle.sap_tell.specs.ToldText.{call_text, fact_told, term_told}

-- a term with more nodes isn't told as it stands
abbrev pub most_nodes : ℕ
most_nodes = 256

abbrev pub is_few : Tree → Bool
is_few t = nat_le (node_count t) most_nodes

-- each of these can be told as it stands
abbrev pub are_few : List Tree → Bool
are_few [] = true
are_few (t ∷ ts) = is_few t && are_few ts

-- each is what it is evaluated to
abbrev pub are_same : List Tree → List Tree → Bool
are_same (t ∷ ts) (u ∷ us) = same_tree t u && are_same ts us
are_same [] [] = true
are_same _ _ = false

-- A text as it stands, with what it is evaluated to behind it where that is another; where it is too long, evaluated alone.
abbrev pub said_as : Bool → Bool → List ℕ → List ℕ → List ℕ → List ℕ
said_as few same standing evaluated bare =
    if few then (if same then standing else standing ++ (codes ", that is " ++ bare)) else evaluated

-- What is done with terms, in a text that holds them; where one of them isn't what it is evaluated to, all of the line's terms
-- evaluated stand behind it, in a text of their own; where one has too many nodes as it stands, they are told evaluated alone.
abbrev pub said : (List (List ℕ) → List ℕ) → (List (List ℕ) → List ℕ) → List Draw → List Tree → List Tree → List ℕ
said holds bare ds standing evaluated =
    said_as (are_few standing) (are_same standing evaluated)
    (holds (map (term_told ds) standing)) (holds (map (term_told ds) evaluated)) (bare (map (term_told ds) evaluated))

-- terms side by side, and those of a comparison
abbrev pub beside : List (List ℕ) → List ℕ
beside = joined (codes ", ")

abbrev pub compared : List (List ℕ) → List ℕ
compared = joined (codes " = ")

-- `out(..)`, on a channel too; `if .. = ..`; a word before terms: `insert .., ..`, `delete ..`, `lock ..`, `unlock ..`; `lookup .. as x`
abbrev pub said_out : List Draw → List Tree → List Tree → List ℕ
said_out = said (call_text (codes "out")) beside

abbrev pub said_if : List Draw → List Tree → List Tree → List ℕ
said_if = said (λ ts. codes "if " ++ compared ts) compared

abbrev pub said_word : List ℕ → List Draw → List Tree → List Tree → List ℕ
said_word word = said (λ ts. word ++ (codes " " ++ beside ts)) beside

abbrev pub said_lookup : List ℕ → List Draw → List Tree → List Tree → List ℕ
said_lookup variable = said (λ ts. codes "lookup " ++ (beside ts ++ (codes " as " ++ variable))) beside

-- the fact of an event, as it stands and as it is shown
abbrev pub said_event : List Draw → Fact → Fact → List ℕ
said_event ds f h =
    said_as (are_few f.args) (are_same f.args h.args)
    (codes "event " ++ fact_told ds f) (codes "event " ++ fact_told ds h) (fact_told ds h)

-- what is taken on a channel: channel and message, each whole
abbrev pub parts_told : List Draw → Tree → List (List ℕ)
parts_told ds (apply f (more t (more u none))) = term_told ds t ∷ term_told ds u ∷ []
parts_told ds t = term_told ds t ∷ []

abbrev pub taken_on : List Draw → Tree → List ℕ
taken_on ds x = call_text (codes "in") (parts_told ds x)

-- what the adversary applies: a symbol on numbers of entries and the term; a constant alone
abbrev pub applied_text : List Draw → List ℕ → List ℕ → Tree → List ℕ
applied_text ds f [] x = f
applied_text ds f (k ∷ ks) x = call_text f (map decimal (k ∷ ks)) ++ (codes " = " ++ term_told ds x)
