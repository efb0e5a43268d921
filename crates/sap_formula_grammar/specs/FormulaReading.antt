-- Formulas, read from the left, within a number of levels. What is read is what the grammar spells: the law `formulas_are_read` says so.
use Rattle.std.specs.Prelude.{ℕ, zero, suc, ◌+◌, max, false, nat_le, if◌then◌else◌, codes, List, [], ◌∷◌, length, drop, Option, Some, None}
use Rattle.sap_terms.specs.declared.fact.Fact.{Fact}
use Rattle.sap_terms.specs.Tree.{Tree}
use Rattle.sap_terms.specs.declared.var.Sort.{Sort}
use Rattle.sap_terms.specs.declared.var.Sort.TheVariants.{Msg, Fresh, Pub}
use Rattle.sap_terms.specs.Signature.{Sig}
use Rattle.sap_formula.specs.Form.{Form, truth, falsity, action, equal, same_time, earlier, negation, both, either, implies, equivalent, every, exists}
use Rattle.sap_formula.specs.declared.binder.Binder.{Binder}
use Rattle.sap_formula.specs.declared.binder.Binder.TheVariants.{Message, Time}
use Rattle.sap_grammar.specs.declared.limits.Limits.{Limits}
use Rattle.sap_grammar.specs.Words.{Word, starts, is_upper}
use Rattle.sap_grammar.specs.Reading.{Reader, after, bare, behind, name_at, names, past}
use Rattle.sap_grammar.specs.TermReading.{short_term, short_fact}
use Rattle.sap_formula_grammar.specs.FormulaGrammar.{var}

-- a time variable
abbrev pub time : Reader (List ℕ)
time ws = if starts (codes "#") ws then bare (drop 1 ws) else bare ws

-- behind a fact
abbrev pub at_time : Fact → Reader Form
at_time f ws = past (codes "@") ws (λ r. after (time r) (λ i z. Some (action f i, z)))

-- a fact at a time
abbrev pub placed : Sig → Limits → Reader Form
placed g m ws = after (short_fact g m false ws) (λ f r. at_time f r)

-- behind the first of two terms
abbrev pub equated : Sig → Limits → Tree → Reader Form
equated g m t ws = past (codes "=") ws (λ r. after (short_term g m r) (λ u z. Some (equal t u, z)))

-- two terms with `=` between them
abbrev pub equation : Sig → Limits → Reader Form
equation g m ws = after (short_term g m ws) (λ t r. equated g m t r)

-- behind a time variable and `<`
abbrev pub later : List ℕ → Reader Form
later i ws = after (time ws) (λ j r. Some (earlier i j, r))

-- behind a time variable and `=`
abbrev pub same : List ℕ → Reader Form
same i ws = past (codes "#") ws (λ r. after (bare r) (λ j z. Some (same_time i j, z)))

-- behind a time variable with its sign
abbrev pub compared : List ℕ → Reader Form
compared i ws =
    if starts (codes "=") ws then same i (drop 1 ws)
    else if starts (codes "<") ws then later i (drop 1 ws)
    else None

-- behind `#`
abbrev pub timed : Reader Form
timed ws = after (bare ws) (λ i r. compared i r)

-- an atom that begins with this name, which no parenthesis follows
abbrev pub plainly : Sig → Limits → List ℕ → Reader Form
plainly g m x ws =
    if names (codes "T") ws then Some (truth, drop 1 ws)
    else if names (codes "F") ws then Some (falsity, drop 1 ws)
    else if starts (codes "<") (drop 1 ws) then later x (drop 2 ws)
    else equation g m ws

-- an atom that begins with this name, if with one
abbrev pub named : Sig → Limits → Option (List ℕ) → Reader Form
named g m None ws = equation g m ws
named g m (Some x) ws =
    if starts (codes "(") (drop 1 ws) then (if is_upper x then placed g m ws else equation g m ws)
    else plainly g m x ws

abbrev pub atom : Sig → Limits → Reader Form
atom g m ws = if starts (codes "#") ws then timed (drop 1 ws) else named g m (name_at ws) ws

-- a bound variable of this sort
abbrev pub bound_as : Sort → Reader Binder
bound_as s ws = after (bare ws) (λ x r. Some (Message (var s x), r))

-- a bound time variable, behind its sign
abbrev pub bound_time : Reader Binder
bound_time ws = after (bare ws) (λ i r. Some (Time i, r))

abbrev pub binder : Reader Binder
binder ws =
    if starts (codes "~") ws then bound_as Fresh (drop 1 ws)
    else if starts (codes "$") ws then bound_as Pub (drop 1 ws)
    else if starts (codes "#") ws then bound_time (drop 1 ws)
    else bound_as Msg ws

-- bound variables and the dot behind them; the number bounds the turns
abbrev pub binders : ℕ → Reader (List Binder)
binders zero ws = None
binders (suc n) ws = after (binder ws) (λ v r. if starts (codes ".") r then Some (v ∷ [], drop 1 r) else behind (v ∷ []) (binders n r))

-- a formula and the levels of its text
abbrev pub Levelled : Type 0
Levelled = Form × ℕ

-- both sides, within these levels
abbrev pub joined : ℕ → (Form → Form → Form) → Levelled → Levelled → Reader Levelled
joined d made f h ws = if nat_le (max f.1 h.1 + 1) d then Some ((made f.0 h.0, max f.1 h.1 + 1), ws) else None

-- behind the sign: the other side, and both
abbrev pub second : Reader Levelled → ℕ → (Form → Form → Form) → Levelled → Reader Levelled
second part d made f ws = after (part ws) (λ h r. joined d made f h r)

-- goes on while this sign stands; the number bounds the turns
abbrev pub turns : Reader Levelled → ℕ → (Form → Form → Form) → List ℕ → ℕ → Levelled → Reader Levelled
turns part d made sign zero f ws = if starts sign ws then None else Some (f, ws)
turns part d made sign (suc n) f ws =
    if starts sign ws then after (second part d made f (drop 1 ws)) (turns part d made sign n) else Some (f, ws)

abbrev pub chain : Reader Levelled → ℕ → (Form → Form → Form) → List ℕ → Reader Levelled
chain part d made sign ws = after (part ws) (λ f r. turns part d made sign (length ws) f r)

-- one part, or two with `==>` between them
abbrev pub imp_at : Reader Levelled → Reader Levelled → ℕ → Reader Levelled
imp_at left right d ws = after (left ws) (λ f r. if starts (codes "==>") r then second right d implies f (drop 1 r) else Some (f, r))

-- behind `<=>`: the other side and no `<=>` behind it, which else would follow a quantifier whose body ends in one
abbrev pub last : Reader Levelled → ℕ → Levelled → Reader Levelled
last part d f ws = after (second part d equivalent f ws) (λ w r. if starts (codes "<=>") r then None else Some (w, r))

-- one part, or two with `<=>` between them
abbrev pub iff_at : Reader Levelled → ℕ → Reader Levelled
iff_at part d ws = after (part ws) (λ f r. if starts (codes "<=>") r then last part d f (drop 1 r) else Some (f, r))

abbrev pub ors : Reader Levelled → ℕ → Reader Levelled
ors un d = chain (chain un d both (codes "&")) d either (codes "|")

-- behind `not`, or behind bound variables
abbrev pub bodied : Reader Levelled → (Form → Form) → Reader Levelled
bodied iff made ws = after (iff ws) (λ f r. Some ((made f.0, f.1 + 1), r))

-- behind a quantifier
abbrev pub quantified : Reader Levelled → (List Binder → Form → Form) → Reader Levelled
quantified iff made ws = after (binders (length ws) ws) (λ vs r. bodied iff (made vs) r)

-- behind an opening parenthesis
abbrev pub enclosed : Reader Levelled → Reader Levelled
enclosed iff ws = after (iff ws) (λ f r. past (codes ")") r (λ z. Some ((f.0, f.1 + 1), z)))

-- an atom has one level
abbrev pub alone : Reader Form → Reader Levelled
alone atom ws = after (atom ws) (λ f r. Some ((f, 1), r))

abbrev pub un_at : Reader Form → Reader Levelled → Reader Levelled → Reader Levelled
un_at atom un iff ws =
    if starts (codes "not") ws then bodied un negation (drop 1 ws)
    else if starts (codes "All") ws then quantified iff every (drop 1 ws)
    else if starts (codes "Ex") ws then quantified iff exists (drop 1 ws)
    else if starts (codes "(") ws then enclosed iff (drop 1 ws)
    else alone atom ws

unfoldable mutual
  -- a formula that no connective joins, so deep at most, with terms within the limits
  pub un : Sig → Limits → ℕ → Reader Levelled
  un g m zero = λ ws. None
  un g m (suc d) = un_at (atom g m) (un g m d) (iff_at (imp g m d) d)

  pub imp : Sig → Limits → ℕ → Reader Levelled
  imp g m zero = λ ws. None
  imp g m (suc d) = imp_at (ors (un_at (atom g m) (un g m d) (iff_at (imp g m d) d)) (suc d)) (imp g m d) (suc d)

-- a formula
abbrev pub formula : Sig → Limits → ℕ → Reader Levelled
formula g m d = iff_at (imp g m d) d

-- a formula within the limits
unfoldable pub short_formula : Sig → Limits → Reader Form
short_formula g m ws = after (formula g m m.formula_levels ws) (λ f r. Some (f.0, r))
