-- Terms and their words, by hand.
use Rattle.std.specs.Prelude.{ℕ, codes, List, [], ◌∷◌}
use Rattle.sap_terms.specs.declared.var.Sort.TheVariants.{Msg, Fresh, Pub}
use Rattle.sap_terms.specs.Tree.{Tree, public, apply, none, more}
use Rattle.sap_grammar.specs.Words.{Word, mark, name, quoted}
use Rattle.sap_grammar.specs.TermGrammar.{pair, sorted}

-- `'a'`, `'b'`, `'c'`, `'d'`
abbrev pub a : Tree
a = public (codes "a")

abbrev pub b : Tree
b = public (codes "b")

abbrev pub c : Tree
c = public (codes "c")

abbrev pub d : Tree
d = public (codes "d")

-- `f ( ~x , < 'a' , $y , k ( ) > )`, 16 words
abbrev pub mixed_words : List Word
mixed_words =
    name (codes "f") ∷ mark (codes "(") ∷ mark (codes "~") ∷ name (codes "x") ∷ mark (codes ",") ∷ mark (codes "<")
    ∷ quoted (codes "a") ∷ mark (codes ",") ∷ mark (codes "$") ∷ name (codes "y") ∷ mark (codes ",") ∷ name (codes "k")
    ∷ mark (codes "(") ∷ mark (codes ")") ∷ mark (codes ">") ∷ mark (codes ")") ∷ []

abbrev pub mixed : Tree
mixed =
    apply (codes "f") (more (sorted Fresh (codes "x")) (more (pair a (pair (sorted Pub (codes "y")) (apply (codes "k") none))) none))

-- numbers of its nodes: `f`, `~x`, the tuple, `'a'`, the pair behind the comma, `$y`, `k()`
abbrev pub mixed_with : ℕ → ℕ → ℕ → ℕ → ℕ → ℕ → ℕ → List ℕ
mixed_with f x tuple first rest y k = f ∷ x ∷ tuple ∷ first ∷ rest ∷ y ∷ k ∷ []

-- `< 'a' , < 'b' , 'c' > , 'd' >`, 11 words: a tuple of three parts, of which the second is a tuple
abbrev pub inner_words : List Word
inner_words =
    mark (codes "<") ∷ quoted (codes "a") ∷ mark (codes ",") ∷ mark (codes "<") ∷ quoted (codes "b") ∷ mark (codes ",")
    ∷ quoted (codes "c") ∷ mark (codes ">") ∷ mark (codes ",") ∷ quoted (codes "d") ∷ mark (codes ">") ∷ []

abbrev pub inner : Tree
inner = pair a (pair (pair b c) d)

-- `< 'a' , < 'b' , 'c' > >`, 9 words, and `< 'a' , 'b' , 'c' >`, 7 words: one term
abbrev pub nested_words : List Word
nested_words =
    mark (codes "<") ∷ quoted (codes "a") ∷ mark (codes ",") ∷ mark (codes "<") ∷ quoted (codes "b") ∷ mark (codes ",")
    ∷ quoted (codes "c") ∷ mark (codes ">") ∷ mark (codes ">") ∷ []

abbrev pub flat_words : List Word
flat_words =
    mark (codes "<") ∷ quoted (codes "a") ∷ mark (codes ",") ∷ quoted (codes "b") ∷ mark (codes ",") ∷ quoted (codes "c")
    ∷ mark (codes ">") ∷ []

abbrev pub triple : Tree
triple = pair a (pair b c)

abbrev pub pair_of_two : Tree
pair_of_two = pair a b

-- `pair ( 'a' , 'b' )`, 6 words
abbrev pub named_words : List Word
named_words =
    name (codes "pair") ∷ mark (codes "(") ∷ quoted (codes "a") ∷ mark (codes ",") ∷ quoted (codes "b") ∷ mark (codes ")") ∷ []

-- `< c , ~c >`, 6 words, where `c` is a constant, and where it is none
abbrev pub signed_words : List Word
signed_words = mark (codes "<") ∷ name (codes "c") ∷ mark (codes ",") ∷ mark (codes "~") ∷ name (codes "c") ∷ mark (codes ">") ∷ []

abbrev pub constant_and_fresh : Tree
constant_and_fresh = pair (apply (codes "c") none) (sorted Fresh (codes "c"))

abbrev pub message_and_fresh : Tree
message_and_fresh = pair (sorted Msg (codes "c")) (sorted Fresh (codes "c"))

-- numbers of the nodes of a pair of two leaves, of one of three parts, and of `inner`
abbrev pub two_with : ℕ → ℕ → ℕ → List ℕ
two_with whole first second = whole ∷ first ∷ second ∷ []

abbrev pub triple_with : ℕ → ℕ → ℕ → ℕ → ℕ → List ℕ
triple_with whole first rest second third = whole ∷ first ∷ rest ∷ second ∷ third ∷ []

abbrev pub inner_with : ℕ → ℕ → ℕ → ℕ → ℕ → ℕ → ℕ → List ℕ
inner_with whole first rest tuple second third fourth = whole ∷ first ∷ rest ∷ tuple ∷ second ∷ third ∷ fourth ∷ []
