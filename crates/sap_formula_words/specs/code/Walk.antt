-- The walk through a formula beside its words to one of its parts.
use Rattle.std.specs.Prelude.{◌≡◌, ℕ, zero, suc, ◌+◌, ◌-◌, ◌^◌, min, Bool, ◌||◌, if◌then◌else◌, codes, List, [], ◌∷◌, length, drop, Result, Ok, Err}
use Rattle.std.specs.Borrow.{Bor}
use Rattle.sap_text.specs.declared.token.Token.{Token}
use Rattle.sap_terms.specs.Tree.{Tree, variable, public, fresh, apply, Trees, none, more}
use Rattle.sap_terms.specs.View.{tree}
use Rattle.sap_formula.specs.Form.{Form, truth, falsity, action, equal, same_time, earlier, negation, both, either, implies, equivalent, every, exists}
use Rattle.sap_formula.specs.declared.binder.Binder.{Binder}
use Rattle.sap_grammar.specs.Words.{Word, is_mark, starts, words_of}
use Rattle.sap_formula_words.specs.declared.place.Place.{Place}
use Rattle.sap_formula_words.specs.declared.place.Place.TheVariants as code

-- how many nodes stand before the part that is sought; or how many parts are still sought, and how many nodes were met
abbrev pub Seek : Type 0
Seek = Result (ℕ × ℕ) ℕ

unfoldable pub go_on : Seek → (ℕ → ℕ → Seek) → Seek
go_on (Err n) go = Err n
go_on (Ok p) go = go p.0 p.1

-- one more, at most the greatest usize
abbrev pub next : ℕ → ℕ
next n = min (n + 1) (2 ^ 64 - 1)

-- past a node that is a part, and past one that is none
abbrev pub past_part : ℕ → ℕ → Seek
past_part zero n = Err n
past_part (suc k) n = Ok (k, next n)

abbrev pub past_other : ℕ → ℕ → Seek
past_other k n = Ok (k, next n)

unfoldable mutual
  -- through a term
  pub seek : Tree → ℕ → ℕ → Seek
  seek (variable v) k n = past_part k n
  seek (public s) k n = past_other k n
  seek (fresh i) k n = past_other k n
  seek (apply f ts) k n = go_on (past_part k n) (seek_all ts)

  -- through terms
  pub seek_all : Trees → ℕ → ℕ → Seek
  seek_all none k n = Ok (k, n)
  seek_all (more t ts) k n = go_on (seek t k n) (seek_all ts)

-- a word that opens something stands first, or one that closes it
abbrev pub starts_opening : List Word → Bool
starts_opening ws = starts (codes "(") ws || starts (codes "<") ws

abbrev pub starts_closing : List Word → Bool
starts_closing ws = starts (codes ")") ws || starts (codes ">") ws

-- how many are open behind the first word, where some are before it
abbrev pub open_behind : List Word → ℕ → ℕ
open_behind ws zero = zero
open_behind ws (suc n) = if starts_opening ws then suc (suc n) else if starts_closing ws then n else suc n

-- behind where all that are open are closed
abbrev pub behind_open : ℕ → List Word → List Word
behind_open zero ws = ws
behind_open (suc n) [] = []
behind_open (suc n) (w ∷ ws) = behind_open (open_behind (w ∷ ws) (suc n)) ws

-- behind a term
abbrev pub behind_term : List Word → List Word
behind_term ws =
    if starts (codes "~") ws || starts (codes "$") ws then drop 2 ws
    else if starts (codes "<") ws then behind_open 1 (drop 1 ws)
    else if starts (codes "(") (drop 1 ws) then behind_open 1 (drop 2 ws)
    else drop 1 ws

-- behind this mark, however often it stands first
abbrev pub behind_all : List ℕ → List Word → List Word
behind_all m [] = []
behind_all m (w ∷ ws) = if is_mark m w then behind_all m ws else w ∷ ws

-- behind the sign of a variable
abbrev pub unsigned : List Word → List Word
unsigned ws = if starts (codes "~") ws || (starts (codes "$") ws || starts (codes "#") ws) then drop 1 ws else ws

-- where a part stands: at the word from which on so many are left, or in the term at these words as its part of this number
pub data Spot : Type 0 where
  at_word : ℕ → Spot
  in_term : Tree → List Word → ℕ → Spot

-- where the part that is sought stands; or how many parts are still sought, and the words behind
abbrev pub Walk : Type 0
Walk = Result (ℕ × List Word) Spot

unfoldable pub onward : Walk → (ℕ → List Word → Walk) → Walk
onward (Err s) go = Err s
onward (Ok p) go = go p.0 p.1

-- past a name
abbrev pub name_walk : ℕ → List Word → Walk
name_walk zero ws = Err (at_word (length ws))
name_walk (suc k) ws = Ok (k, drop 1 ws)

-- past so many words
abbrev pub past_words : ℕ → Walk → Walk
past_words n w = onward w (λ k us. Ok (k, drop n us))

-- past the parentheses that close
abbrev pub shut : Walk → Walk
shut w = onward w (λ k us. Ok (k, behind_all (codes ")") us))

abbrev pub placed : Tree → List Word → ℕ → Seek → Walk
placed t ws k (Err n) = Err (in_term t ws k)
placed t ws k (Ok p) = Ok (p.0, behind_term ws)

-- through a term
unfoldable pub term_walk : Tree → ℕ → List Word → Walk
term_walk t k ws = placed t ws k (seek t k 0)

-- through terms, each with the mark behind it
unfoldable pub list_walk : List Tree → ℕ → List Word → Walk
list_walk [] k ws = Ok (k, ws)
list_walk (t ∷ ts) k ws = onward (past_words 1 (term_walk t k ws)) (list_walk ts)

-- through arguments
unfoldable pub args_walk : List Tree → ℕ → List Word → Walk
args_walk [] k ws = Ok (k, drop 1 ws)
args_walk (t ∷ ts) k ws = list_walk (t ∷ ts) k ws

-- past a name behind its sign, where it has one
abbrev pub signed_walk : ℕ → List Word → Walk
signed_walk k ws = name_walk k (unsigned ws)

-- through a fact and its time
abbrev pub action_walk : List Tree → ℕ → List Word → Walk
action_walk ts k ws = onward (past_words 1 (onward (past_words 1 (name_walk k ws)) (args_walk ts))) signed_walk

abbrev pub equal_walk : Tree → Tree → ℕ → List Word → Walk
equal_walk t u k ws = onward (past_words 1 (term_walk t k ws)) (term_walk u)

-- through two time variables with a mark between them
abbrev pub times_walk : ℕ → List Word → Walk
times_walk k ws = onward (past_words 1 (signed_walk k ws)) signed_walk

-- through bound variables and the dot
unfoldable pub binders_walk : List Binder → ℕ → List Word → Walk
binders_walk [] k ws = Ok (k, drop 1 ws)
binders_walk (v ∷ vs) k ws = onward (signed_walk k ws) (binders_walk vs)

-- behind parentheses that open
abbrev pub entered : List Word → List Word
entered ws = behind_all (codes "(") ws

-- through two formulas with a mark between them
abbrev pub both_walk : (ℕ → List Word → Walk) → (ℕ → List Word → Walk) → ℕ → List Word → Walk
both_walk left right k ws = onward (past_words 1 (left k ws)) right

-- through bound variables, and a formula
abbrev pub bound_walk : List Binder → (ℕ → List Word → Walk) → ℕ → List Word → Walk
bound_walk vs body k ws = onward (binders_walk vs k (drop 1 (entered ws))) body

-- through a formula, and the parentheses that close behind it
unfoldable pub form_walk : Form → ℕ → List Word → Walk
form_walk truth k ws = Ok (k, behind_all (codes ")") (drop 1 (entered ws)))
form_walk falsity k ws = Ok (k, behind_all (codes ")") (drop 1 (entered ws)))
form_walk (action f i) k ws = shut (action_walk f.args k (entered ws))
form_walk (equal t u) k ws = shut (equal_walk t u k (entered ws))
form_walk (same_time i j) k ws = shut (times_walk k (entered ws))
form_walk (earlier i j) k ws = shut (times_walk k (entered ws))
form_walk (negation f) k ws = form_walk f k (drop 1 (entered ws))
form_walk (both f h) k ws = both_walk (form_walk f) (form_walk h) k ws
form_walk (either f h) k ws = both_walk (form_walk f) (form_walk h) k ws
form_walk (implies f h) k ws = both_walk (form_walk f) (form_walk h) k ws
form_walk (equivalent f h) k ws = both_walk (form_walk f) (form_walk h) k ws
form_walk (every vs f) k ws = bound_walk vs (form_walk f) k ws
form_walk (exists vs f) k ws = bound_walk vs (form_walk f) k ws

-- how many formulas stand in one, itself among them
abbrev pub form_count : Form → ℕ
form_count truth = 1
form_count falsity = 1
form_count (action f i) = 1
form_count (equal t u) = 1
form_count (same_time i j) = 1
form_count (earlier i j) = 1
form_count (negation f) = form_count f + 1
form_count (both f h) = form_count f + form_count h + 1
form_count (either f h) = form_count f + form_count h + 1
form_count (implies f h) = form_count f + form_count h + 1
form_count (equivalent f h) = form_count f + form_count h + 1
form_count (every vs f) = form_count f + 1
form_count (exists vs f) = form_count f + 1

-- behind the first quotation mark
abbrev pub behind_quotation : List Word → List Word
behind_quotation [] = []
behind_quotation (w ∷ ws) = if is_mark (codes "\"") w then ws else behind_quotation ws

-- the answer is what the walk comes to
abbrev pub Comes : List ℕ → Result (ℕ × Bor (List Token)) Place → Walk → Type 0
Comes bytes (Err (code.Word n)) walk = walk ≡ Err (at_word n)
Comes bytes (Err (code.Term t ts k)) walk = walk ≡ Err (in_term (tree t.now) (words_of bytes ts.now) k)
Comes bytes (Ok p) walk = walk ≡ Ok (p.0, words_of bytes p.1.now)
