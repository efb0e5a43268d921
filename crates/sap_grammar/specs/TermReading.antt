-- Terms and facts, read from the left. What is read is what the grammar spells: the laws `terms_are_read` and
-- `facts_are_read` say so.
use Rattle.std.specs.Prelude.{ℕ, zero, suc, Bool, true, false, not, ◌&&◌, ◌==◌, if◌then◌else◌, codes, List, drop, Option, Some, None}
use Rattle.sap_terms.specs.declared.fact.Fact.{Fact}
use Rattle.sap_terms.specs.declared.var.Sort.{Sort}
use Rattle.sap_terms.specs.declared.var.Sort.TheVariants.{Msg, Fresh, Pub}
use Rattle.sap_terms.specs.Tree.{Tree, public, apply, none, trees_of}
use Rattle.sap_terms.specs.Signature.{Sig, arity_of}
use Rattle.sap_grammar.specs.declared.limits.Limits.{Limits}
use Rattle.sap_grammar.specs.Words.{starts, is_lower, is_upper}
use Rattle.sap_grammar.specs.Sizes.{is_small, are_small}
use Rattle.sap_grammar.specs.TermGrammar.{sorted, pair}
use Rattle.sap_grammar.specs.FactGrammar.{fact}
use Rattle.sap_grammar.specs.Reading.{Reader, after, given, name_at, quoted_at, listed}

-- it is arity 0
abbrev pub is_no_arity : Option ℕ → Bool
is_no_arity None = false
is_no_arity (Some n) = n == 0

-- an identifier without sign
abbrev pub plain : Sig → List ℕ → Tree
plain g x = if is_no_arity (arity_of g x) then apply x none else sorted Msg x

-- a variable behind its sign
abbrev pub signed : Sort → Reader Tree
signed s ws = given (name_at ws) (λ x. Some (sorted s x, drop 1 ws))

-- the arguments of a symbol or fact
abbrev pub args : Reader Tree → Reader (List Tree)
args term = listed (codes ")") term

-- the arguments of this symbol
abbrev pub symbol : Reader Tree → List ℕ → Reader Tree
symbol term f ws = if is_lower f then after (args term ws) (λ ts r. Some (apply f (trees_of ts), r)) else None

-- behind an identifier
abbrev pub named : Sig → Reader Tree → List ℕ → Reader Tree
named g term x ws = if starts (codes "(") ws then symbol term x (drop 1 ws) else Some (plain g x, ws)

-- behind a term of a tuple: a comma, and the terms behind it
abbrev pub paired : Reader Tree → Tree → Reader Tree
paired rest t ws = if starts (codes ",") ws then after (rest (drop 1 ws)) (λ u z. Some (pair t u, z)) else None

-- behind the opening of a tuple
abbrev pub tuple : Reader Tree → Reader Tree → Reader Tree
tuple term rest ws = after (term ws) (λ t r. paired rest t r)

-- a public name, or what an identifier begins
abbrev pub leaf : Sig → Reader Tree → Option (List ℕ) → Reader Tree
leaf g term (Some s) ws = Some (public s, drop 1 ws)
leaf g term None ws = given (name_at ws) (λ x. named g term x (drop 1 ws))

-- a term, where the readers of terms and of rests go one level less deep
abbrev pub term_at : Sig → Reader Tree → Reader Tree → Reader Tree
term_at g term rest ws =
    if starts (codes "~") ws then signed Fresh (drop 1 ws)
    else if starts (codes "$") ws then signed Pub (drop 1 ws)
    else if starts (codes "<") ws then tuple term rest (drop 1 ws)
    else leaf g term (quoted_at ws) ws

-- a rest, where the reader of terms goes as deep and that of rests one level less
abbrev pub rest_at : Reader Tree → Reader Tree → Reader Tree
rest_at here rest ws = after (here ws) (λ t r.
    if starts (codes ">") r then Some (t, drop 1 r) else paired rest t r)

unfoldable mutual
  -- a term, so deep at most
  pub term : Sig → ℕ → Reader Tree
  term g zero = λ ws. None
  term g (suc d) = term_at g (term g d) (rest g d)

  pub rest : Sig → ℕ → Reader Tree
  rest g zero = λ ws. None
  rest g (suc d) = rest_at (term_at g (term g d) (rest g d)) (rest g d)

-- the arguments of this fact
abbrev pub fact_args : Reader Tree → Bool → List ℕ → Reader Fact
fact_args term persistent f ws = after (args term ws) (λ ts r. Some (fact persistent f ts, r))

-- a fact behind its sign
abbrev pub fact_from : Reader Tree → Bool → Reader Fact
fact_from term persistent ws = given (name_at ws) (λ f.
    if is_upper f then (if starts (codes "(") (drop 1 ws) then fact_args term persistent f (drop 2 ws) else None) else None)

abbrev pub fact_at : Reader Tree → Reader Fact
fact_at term ws = if starts (codes "!") ws then fact_from term true (drop 1 ws) else fact_from term false ws

-- a term within the limits
unfoldable pub short_term : Sig → Limits → Reader Tree
short_term g m ws = after (term g m.term_levels ws) (λ t r. if is_small m t then Some (t, r) else None)

-- a fact whose terms are within the limits, persistent only where that is allowed
unfoldable pub short_fact : Sig → Limits → Bool → Reader Fact
short_fact g m allowed ws = after (fact_at (term g m.term_levels) ws) (λ f r.
    if are_small m f.args then (if f.persistent && not allowed then None else Some (f, r)) else None)

-- such facts up to the closing mark
unfoldable pub facts : Sig → Limits → Bool → List ℕ → Reader (List Fact)
facts g m allowed closing = listed closing (short_fact g m allowed)
