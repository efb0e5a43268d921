use Rattle.std.proofs.Common.{◌≡◌, ◌<◌, ◌-◌, ℕ, true, false, List, [], ◌∷◌, ◌++◌, drop, Some, None, refl, arith}
use Rattle.sap_terms.specs.Tree.{Tree}
use Rattle.sap_terms.specs.View.{tree}
use Rattle.sap_run_lines.specs.code.Taking.{after, starts}
use Rattle.sap_run_lines.specs.code.TermTaking.{fresh_at, listed, paired, public_at, rest, symbol_at, term, terms, tuple_at}
use Rattle.sap_run_lines.proofs.TakingSteps.{term_zero, rest_zero, terms_zero, term_step, rest_step, terms_step}
use Rattle.sap_run_lines.proofs.take_term.+take.Goals as goal

module _ (d : ℕ) (z : List ℕ) (more : 0 < d) where
  public_is : true ≡ starts 39 z → term d z ≡ public_at (drop 1 z)
  public_is quote = rw (term_step d z more, ← quote) refl

  module _ (no_quote : false ≡ starts 39 z) where
    fresh_is : true ≡ starts 126 z → term d z ≡ fresh_at (drop 1 z)
    fresh_is tilde = rw (term_step d z more, ← no_quote, ← tilde) refl

    module _ (no_tilde : false ≡ starts 126 z) where
      tuple_is : true ≡ starts 60 z → term d z ≡ tuple_at (term (d - 1)) (rest (d - 1)) (drop 1 z)
      tuple_is opens = rw (term_step d z more, ← no_quote, ← no_tilde, ← opens) refl

      symbol_is : false ≡ starts 60 z → term d z ≡ symbol_at (terms (d - 1)) z
      symbol_is opens = rw (term_step d z more, ← no_quote, ← no_tilde, ← opens) refl

  rest_nothing : term (d - 1) z ≡ None → rest d z ≡ None
  unfolding after
  rest_nothing nothing = rw (rest_step d z more, nothing) refl

  terms_nothing : (ts : List Tree) → term (d - 1) z ≡ None → terms d ts z ≡ None
  unfolding after
  terms_nothing ts nothing = rw (terms_step d ts z more, nothing) refl

  module _ (t : Tree) (r : List ℕ) (taken : term (d - 1) z ≡ Some (t, r)) where
    rest_last : true ≡ starts 62 r → rest d z ≡ Some (t, drop 1 r)
    unfolding after
    rest_last closes = rw (rest_step d z more, taken, ← closes) refl

    rest_goes_on : false ≡ starts 62 r → rest d z ≡ paired (rest (d - 1)) t r
    unfolding after
    rest_goes_on closes = rw (rest_step d z more, taken, ← closes) refl

    terms_go_on : (ts : List Tree) → terms d ts z ≡ listed (terms (d - 1)) (ts ++ t ∷ []) r
    unfolding after
    terms_go_on ts = rw (terms_step d ts z more, taken) refl

pub take_term-returns-then-calls-eq0 : goal.take_term-returns-then-calls-eq0
take_term-returns-then-calls-eq0 t c = rw c.if-calls-eq0.true (term_zero _)

pub take_term-returns-then-starts : goal.take_term-returns-then-starts
take_term-returns-then-starts t c =
    let more : 0 < c.args.calls = omega arith in
    rw (public_is _ _ more c.if-starts.ensures) (rw c.behind.ensures at c.take_public.ensures)

pub take_term-returns-then-starts-2 : goal.take_term-returns-then-starts-2
take_term-returns-then-starts-2 t c =
    let more : 0 < c.args.calls = omega arith in
    rw (fresh_is _ _ more c.if-starts.ensures c.if-starts-2.ensures) (rw c.behind-then-starts-2.ensures at c.take_fresh.ensures)

pub take_term-returns-then-starts-3 : goal.take_term-returns-then-starts-3
take_term-returns-then-starts-3 t c =
    let more : 0 < c.args.calls = omega arith in
    rw (tuple_is _ _ more c.if-starts.ensures c.if-starts-2.ensures c.if-starts-3.ensures)
    (rw c.behind-then-starts-3.ensures at c.take_tuple.ensures)

pub take_term-returns-else-starts-3 : goal.take_term-returns-else-starts-3
take_term-returns-else-starts-3 t c =
    let more : 0 < c.args.calls = omega arith in
    rw (symbol_is _ _ more c.if-starts.ensures c.if-starts-2.ensures c.if-starts-3.ensures) c.take_symbol.ensures

pub take_rest-returns-then-calls-eq0 : goal.take_rest-returns-then-calls-eq0
take_rest-returns-then-calls-eq0 t c = rw c.if-calls-eq0.true (rest_zero _)

pub take_rest-returns-in-None : goal.take_rest-returns-in-None
take_rest-returns-in-None t c =
    let more : 0 < c.args.calls = omega arith in
    rest_nothing _ _ more (rw c.in-None.is at c.in_ok-take_term.ensures)

pub take_rest-returns-then-starts : goal.take_rest-returns-then-starts
take_rest-returns-then-starts t c =
    let more : 0 < c.args.calls = omega arith in
    let taken : term (c.args.calls - 1) c.args.bytes.now ≡ Some (tree c.in-Some.left, c.in-Some.next.now) = rw c.in-Some.is at c.in_ok-take_term.ensures in
    rw c.behind.ensures (rest_last _ _ more _ _ taken c.if-starts.ensures)

pub take_rest-returns-else-starts : goal.take_rest-returns-else-starts
take_rest-returns-else-starts t c =
    let more : 0 < c.args.calls = omega arith in
    let taken : term (c.args.calls - 1) c.args.bytes.now ≡ Some (tree c.in-Some.left, c.in-Some.next.now) = rw c.in-Some.is at c.in_ok-take_term.ensures in
    rw (rest_goes_on _ _ more _ _ taken c.if-starts.ensures) c.take_paired.ensures

pub take_terms-returns-then-calls-eq0 : goal.take_terms-returns-then-calls-eq0
take_terms-returns-then-calls-eq0 t c = rw c.if-calls-eq0.true (terms_zero _ _)

pub take_terms-returns-in-Ok-None : goal.take_terms-returns-in-Ok-None
take_terms-returns-in-Ok-None t c =
    let more : 0 < c.args.calls = omega arith in
    terms_nothing _ _ more _ (rw c.in-Ok-None.field-0-is at c.in-Ok-None.ensures)

pub take_terms-returns-in-Ok : goal.take_terms-returns-in-Ok
take_terms-returns-in-Ok t c =
    let more : 0 < c.args.calls = omega arith in
    let taken : term (c.args.calls - 1) c.args.bytes.now ≡ Some (tree c.in-Ok-Some.term, c.in-Ok-Some.next.now) = rw c.in-Ok-Some.field-0-is at c.in-Ok-Some.ensures in
    rw (terms_go_on _ _ more _ _ taken c.args.before, ← c.in-Ok.ensures) c.take_listed.ensures
