-- The walk through a term beside its words to one of its nodes.
use Rattle.std.specs.Prelude.{◌≡◌, ℕ, zero, suc, Bool, true, false, not, ◌&&◌, ◌||◌, if◌then◌else◌, codes, List, [], ◌∷◌, length, drop, Option, Some, None, Result, Ok, Err}
use Rattle.std.specs.Borrow.{Bor}
use Rattle.sap_text.specs.declared.token.Token.{Token}
use Rattle.sap_terms.specs.declared.fact.Fact.{Fact}
use Rattle.sap_terms.specs.Tree.{Tree, variable, public, fresh, apply, Trees, none, more, trees_of}
use Rattle.sap_grammar.specs.Words.{Word, starts, words_of}

-- how many words are left from that of the node that is sought; or how many nodes stand still before it, and the words behind
abbrev pub Walk : Type 0
Walk = Result (ℕ × List Word) ℕ

-- goes on where the node isn't found yet
unfoldable pub onward : Walk → (ℕ → List Word → Walk) → Walk
onward (Err n) go = Err n
onward (Ok p) go = go p.0 p.1

-- past a node that stands at the first of some words, and on at others
abbrev pub past_node : ℕ → List Word → List Word → Walk
past_node zero ws us = Err (length ws)
past_node (suc k) ws us = Ok (k, us)

-- past one word
abbrev pub past_word : Walk → Walk
past_word w = onward w (λ k us. Ok (k, drop 1 us))

-- without the sign of a variable
abbrev pub unsigned : List Word → List Word
unsigned ws = if starts (codes "~") ws || starts (codes "$") ws then drop 1 ws else ws

-- behind the `<` of a tuple, or the parenthesis of a symbol that has an argument
abbrev pub opened : List Word → Option (List Word)
opened ws =
    if starts (codes "<") ws then Some (drop 1 ws)
    else if starts (codes "(") (drop 1 ws) && not (starts (codes ")") (drop 2 ws)) then Some (drop 2 ws)
    else None

abbrev mutual
  -- the words open fewer symbols and tuples than a symbol on these begins with: then it is the pair of a term and what is behind a comma
  pub is_parted : Trees → List Word → Bool
  is_parted none ws = false
  is_parted (more t ts) ws = begins_parted t (opened ws)

  -- so of the first of its terms, where the words open something
  pub begins_parted : Tree → Option (List Word) → Bool
  begins_parted t None = true
  begins_parted (variable v) (Some ws) = false
  begins_parted (public n) (Some ws) = false
  begins_parted (fresh n) (Some ws) = false
  begins_parted (apply f ts) (Some ws) = is_parted ts ws

-- past a variable, and past a node of one word
abbrev pub variable_walk : ℕ → List Word → Walk
variable_walk k ws = past_node k (unsigned ws) (drop 1 (unsigned ws))

abbrev pub word_walk : ℕ → List Word → Walk
word_walk k ws = past_node k ws (drop 1 ws)

-- through a symbol on terms, or a tuple, by walks through its parts and its arguments
abbrev pub applied_walk : (ℕ → List Word → Walk) → (ℕ → List Word → Walk) → ℕ → List Word → Walk
applied_walk parts args k ws =
    if starts (codes "<") ws then onward (past_node k ws (drop 1 ws)) parts
    else if starts (codes "(") (drop 1 ws) then onward (past_node k ws (drop 2 ws)) args
    else word_walk k ws

-- through what has a comma before it, where that is a symbol on terms: the pair of a term and what is behind another comma, or one term
abbrev pub pair_walk : Trees → (ℕ → List Word → Walk) → (ℕ → List Word → Walk) → ℕ → List Word → Walk
pair_walk ts parts args k ws =
    if is_parted ts ws then onward (past_node k ws ws) parts else past_word (applied_walk parts args k ws)

unfoldable mutual
  -- through a term
  pub term_walk : Tree → ℕ → List Word → Walk
  term_walk (variable v) k ws = variable_walk k ws
  term_walk (public n) k ws = word_walk k ws
  term_walk (fresh n) k ws = word_walk k ws
  term_walk (apply f ts) k ws = applied_walk (parts_walk ts) (args_walk ts) k ws

  -- through arguments
  pub args_walk : Trees → ℕ → List Word → Walk
  args_walk none k ws = Ok (k, drop 1 ws)
  args_walk (more t ts) k ws = onward (past_word (term_walk t k ws)) (list_walk ts)

  -- through terms, each with the mark behind it
  pub list_walk : Trees → ℕ → List Word → Walk
  list_walk none k ws = Ok (k, ws)
  list_walk (more t ts) k ws = onward (past_word (term_walk t k ws)) (list_walk ts)

  -- through the two parts of a tuple
  pub parts_walk : Trees → ℕ → List Word → Walk
  parts_walk none k ws = Ok (k, ws)
  parts_walk (more t none) k ws = Ok (k, ws)
  parts_walk (more t (more u none)) k ws = onward (past_word (term_walk t k ws)) (rest_walk u)
  parts_walk (more t (more u (more v vs))) k ws = Ok (k, ws)

  -- through what stands in a tuple behind a comma, and the tuple's end
  pub rest_walk : Tree → ℕ → List Word → Walk
  rest_walk (variable v) k ws = past_word (variable_walk k ws)
  rest_walk (public n) k ws = past_word (word_walk k ws)
  rest_walk (fresh n) k ws = past_word (word_walk k ws)
  rest_walk (apply f ts) k ws = pair_walk ts (parts_walk ts) (args_walk ts) k ws

-- without the sign of a persistent fact
abbrev pub unsigned_fact : List Word → List Word
unsigned_fact ws = if starts (codes "!") ws then drop 1 ws else ws

-- through a fact: its name, and these arguments
unfoldable pub fact_walk : List Tree → ℕ → List Word → Walk
fact_walk ts k ws = onward (past_node k (unsigned_fact ws) (drop 2 (unsigned_fact ws))) (args_walk (trees_of ts))

-- through facts, each with the mark behind it
unfoldable pub facts_walk : List Fact → ℕ → List Word → Walk
facts_walk [] k ws = Ok (k, ws)
facts_walk (f ∷ fs) k ws = onward (past_word (fact_walk f.args k ws)) (facts_walk fs)

-- and past the mark where there are none
abbrev pub all_facts_walk : List Fact → ℕ → List Word → Walk
all_facts_walk [] k ws = Ok (k, drop 1 ws)
all_facts_walk (f ∷ fs) k ws = facts_walk (f ∷ fs) k ws

-- the answer is what the walk comes to
abbrev pub Comes : List ℕ → Result (ℕ × Bor (List Token)) ℕ → Walk → Type 0
Comes bytes (Err n) walk = walk ≡ Err n
Comes bytes (Ok p) walk = walk ≡ Ok (p.0, words_of bytes p.1.now)

-- the word that was sought
abbrev pub found : Walk → Option ℕ
found (Err n) = Some n
found (Ok p) = None
