use Rattle.std.proofs.Common.{◌≡◌, ◌<◌, ◌-◌, ℕ, true, false, List, drop, [], ◌∷◌, ◌++◌, Some, None, refl, arith}
use Rattle.std.specs.Prelude.{codes}
use Rattle.std.proofs.lemmas.Grind.{common_steps}
use Rattle.sap_terms.specs.declared.var.Sort.TheVariants.{Fresh, Pub}
use Rattle.sap_terms.specs.Signature.{Sig}
use Rattle.sap_terms.specs.Tree.{Tree}
use Rattle.sap_terms.specs.View.{tree}
use Rattle.sap_grammar.specs.Words.{Word, starts, words_of}
use Rattle.sap_grammar.specs.Reading.{after, quoted_at}
use Rattle.sap_grammar.specs.TermReading.{leaf, paired, rest, signed, term, tuple}
use Rattle.sap_grammar.proofs.Lists.{term_shrinks, term_nothing}
use Rattle.sap_grammar.proofs.ReadingLaws.Turns.{shorter_still, turn_go, turn_stop}
use Rattle.sap_grammar.proofs.Steps.{term_zero, rest_zero, term_step, rest_step}
use Rattle.sap_grammar.proofs.ReadingLaws.Tokens.{words-drop}
use Rattle.sap_grammar.proofs.term.+read.Goals as goal

module _ (g : Sig) (d : ℕ) (ws : List Word) (deep : 0 < d) where
  fresh_is : true ≡ starts (codes "~") ws → term g d ws ≡ signed Fresh (drop 1 ws)
  fresh_is tilde = rw (term_step g d ws deep, ← tilde) refl

  module _ (no_tilde : false ≡ starts (codes "~") ws) where
    public_is : true ≡ starts (codes "$") ws → term g d ws ≡ signed Pub (drop 1 ws)
    public_is dollar = rw (term_step g d ws deep, ← no_tilde, ← dollar) refl

    module _ (no_dollar : false ≡ starts (codes "$") ws) where
      tuple_is : true ≡ starts (codes "<") ws → term g d ws ≡ tuple (term g (d - 1)) (rest g (d - 1)) (drop 1 ws)
      tuple_is opens = rw (term_step g d ws deep, ← no_tilde, ← no_dollar, ← opens) refl

      leaf_is : false ≡ starts (codes "<") ws → term g d ws ≡ leaf g (term g (d - 1)) (quoted_at ws) ws
      leaf_is opens = rw (term_step g d ws deep, ← no_tilde, ← no_dollar, ← opens) refl

  rest_nothing : term g d ws ≡ None → rest g d ws ≡ None
  unfolding after
  rest_nothing none = rw (rest_step g d ws deep, none) refl

  module _ (t : Tree) (r : List Word) (read : term g d ws ≡ Some (t, r)) where
    rest_last : true ≡ starts (codes ">") r → rest g d ws ≡ Some (t, drop 1 r)
    unfolding after
    rest_last closes = rw (rest_step g d ws deep, read, ← closes) refl

    rest_goes_on : false ≡ starts (codes ">") r → rest g d ws ≡ paired (rest g (d - 1)) t r
    unfolding after
    rest_goes_on closes = rw (rest_step g d ws deep, read, ← closes) refl

pub read_deep-returns-then-depth-eq0 : goal.read_deep-returns-then-depth-eq0
read_deep-returns-then-depth-eq0 t c = rw c.if-depth-eq0.true (term_zero _ _)

pub read_deep-returns-then-starts : goal.read_deep-returns-then-starts
read_deep-returns-then-starts t c =
    let deep : 0 < c.args.depth = omega arith in
    let read = rw (c.beyond.ensures, words-drop c.args.bytes.now 1 c.args.tokens.now) at c.read_signed.ensures in
    rw (fresh_is c.args.sig.now _ _ deep c.if-starts.ensures) read

pub read_deep-returns-then-starts-2 : goal.read_deep-returns-then-starts-2
read_deep-returns-then-starts-2 t c =
    let deep : 0 < c.args.depth = omega arith in
    let read = rw (c.beyond-then-starts-2.ensures, words-drop c.args.bytes.now 1 c.args.tokens.now) at c.read_signed-then-starts-2.ensures in
    rw (public_is c.args.sig.now _ _ deep c.if-starts.ensures c.if-starts-2.ensures) read

pub read_deep-returns-then-starts-3 : goal.read_deep-returns-then-starts-3
read_deep-returns-then-starts-3 t c =
    let deep : 0 < c.args.depth = omega arith in
    let read = rw (c.beyond-then-starts-3.ensures, words-drop c.args.bytes.now 1 c.args.tokens.now) at c.read_tuple.ensures in
    rw (tuple_is c.args.sig.now _ _ deep c.if-starts.ensures c.if-starts-2.ensures c.if-starts-3.ensures) read

pub read_deep-returns-else-starts-3 : goal.read_deep-returns-else-starts-3
read_deep-returns-else-starts-3 t c =
    let deep : 0 < c.args.depth = omega arith in
    rw (leaf_is c.args.sig.now _ _ deep c.if-starts.ensures c.if-starts-2.ensures c.if-starts-3.ensures) c.read_leaf.ensures

pub read_rest-returns-then-depth-eq0 : goal.read_rest-returns-then-depth-eq0
read_rest-returns-then-depth-eq0 t c = rw c.if-depth-eq0.true (rest_zero _ _)

pub read_rest-returns-in-Ok-None : goal.read_rest-returns-in-Ok-None
read_rest-returns-in-Ok-None t c = rest_nothing _ _ _ (omega arith) (rw c.in-Ok-None.field-0-is at c.in-Ok-None.ensures)

pub read_rest-returns-then-starts : goal.read_rest-returns-then-starts
read_rest-returns-then-starts t c =
    let read : term c.args.sig.now c.args.depth (words_of c.args.bytes.now c.args.tokens.now) ≡ Some (tree c.in-Ok-Some.left, words_of c.args.bytes.now c.in-Ok-Some.next.now) = rw c.in-Ok-Some.field-0-is at c.in-Ok-Some.ensures in
    rw (c.beyond.ensures, words-drop c.args.bytes.now 1 c.in-Ok-Some.next.now)
    (rest_last _ _ _ (omega arith) _ _ read c.if-starts.ensures)

pub read_rest-returns-else-starts : goal.read_rest-returns-else-starts
read_rest-returns-else-starts t c =
    let read : term c.args.sig.now c.args.depth (words_of c.args.bytes.now c.args.tokens.now) ≡ Some (tree c.in-Ok-Some.left, words_of c.args.bytes.now c.in-Ok-Some.next.now) = rw c.in-Ok-Some.field-0-is at c.in-Ok-Some.ensures in
    rw (rest_goes_on _ _ _ (omega arith) _ _ read c.if-starts.ensures) c.read_second.ensures

pub read_list-loop-rest-smaller : goal.read_list-loop-rest-smaller
read_list-loop-rest-smaller t c =
    let is : term c.args.sig.now c.args.depth (words_of c.args.bytes.now c.loop-rest.rest.now) ≡ Some (tree c.in-Ok-Some.term, words_of c.args.bytes.now c.in-Ok-Some.next.now) = rw c.in-Ok-Some.field-0-is at c.in-Ok-Some.ensures in
    shorter_still (term_shrinks c.args.sig.now c.args.depth) _ _ _ _ _ is c.beyond-rest.ensures

pub read_list-loop-rest-preserved : goal.read_list-loop-rest-preserved
read_list-loop-rest-preserved t c =
    let is : term c.args.sig.now c.args.depth (words_of c.args.bytes.now c.loop-rest.rest.now) ≡ Some (tree c.in-Ok-Some.term, words_of c.args.bytes.now c.in-Ok-Some.next.now) = rw c.in-Ok-Some.field-0-is at c.in-Ok-Some.ensures in
    let pushed : c.push.new.self ≡ c.loop-rest.terms ++ (tree c.in-Ok-Some.term ∷ []) = grind (arith, common_steps) in
    turn_go _ (term_shrinks c.args.sig.now c.args.depth) _ _ _ _ _ c.loop-rest.invariant.1 c.loop-rest.invariant.2 _ _ is _ _ pushed c.beyond-rest.ensures (cc) (cc)

pub read_list-returns : goal.read_list-returns
read_list-returns t c =
    let none : c.loop-rest.rest.now ≡ [] = grind (arith, common_steps) in
    let stops : term c.args.sig.now c.args.depth (words_of c.args.bytes.now c.loop-rest.rest.now) ≡ None = rw none (term_nothing c.args.sig.now c.args.depth) in
    turn_stop _ (term_shrinks c.args.sig.now c.args.depth) _ _ _ _ _ c.loop-rest.invariant.1 c.loop-rest.invariant.2 stops
