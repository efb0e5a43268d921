-- Rows of the table for terms, backwards.
use Rattle.std.proofs.Common.{◌≤◌, ◌+◌, ℕ, inl, inr, List, [], ◌∷◌, refl, arith}
use Rattle.std.specs.Prelude.{codes}
use Rattle.sap_terms.specs.Signature.{Sig}
use Rattle.sap_grammar.specs.Words.{Word, mark}
use Rattle.sap_grammar.proofs.ReadingLaws.Limits.{le_of}
use Rattle.sap_grammar.specs.TermGrammar.{args_none, list_last, rest_last, term_fresh, term_pub, term_quoted}
use Rattle.sap_expect.specs.declared.wanted.Part.TheVariants.{Application, Term, Terms, MoreTerms, MoreParts, Pair}
use Rattle.sap_expect.specs.FileTable.{otherwise, rows}
use Rattle.sap_expect.proofs.Meant.{AreOther, AreRow, Meaning, ends_there, first, is_any, is_changed, is_quoted, is_sign, is_small, same}
use Rattle.sap_expect.proofs.MeantTerms.{IsBetween, AreMoreParts, AreMoreTerms, IsBehindFirst, IsBehindName, SomeArgs, SomeTerm, behind_first, more_parts, more_terms, name_term, some_args, symbol_term, tuple_term}

abbrev pub of_terms : Sig → Meaning
of_terms g Term m n a k b = 1 ≤ m → SomeTerm g m a k b
of_terms g Application m n a k b = 1 ≤ m → IsBehindName g m a k b
of_terms g Terms m n a k b = SomeArgs g m a k b
of_terms g MoreTerms m n a k b = IsBetween m n → AreMoreTerms g m n a k b
of_terms g Pair m n a k b = (1 ≤ n) × (n + 1 ≤ m) → IsBehindFirst g m n a k b
of_terms g MoreParts m n a k b = IsBetween m n → AreMoreParts g m n a k b
of_terms g p m n a k b = Unit {0}

pub term_row : {g : Sig} {m n : ℕ} {w : Word} {a : List Word} {k : ℕ} {b : List Word} → AreRow (of_terms g) (rows Term) m n w a k b → 1 ≤ m → SomeTerm g m (w ∷ a) k b
term_row (inl (is_quoted, _, (_, _, is_changed, same))) le = record { tree = _; is = term_quoted; levels = refl; fits = (omega arith, le) }
term_row (inr (_, inl (is_small {x = x} low, _, (_, _, h, same)))) le = h le x low
term_row (inr (_, inr (_, inl (is_any {x = x}, _, (_, _, is_changed, same))))) le = name_term x le
term_row (inr (_, inr (_, inr (_, inl (is_sign, _, (_, _, first is_any, (_, _, is_changed, same))))))) le =
    record { tree = _; is = term_fresh; levels = refl; fits = (omega arith, le) }
term_row (inr (_, inr (_, inr (_, inr (_, inl (is_sign, _, (_, _, first is_any, (_, _, is_changed, same)))))))) le =
    record { tree = _; is = term_pub; levels = refl; fits = (omega arith, le) }
term_row {m = m} (inr (_, inr (_, inr (_, inr (_, inr (_, inl (is_sign, room, (_, _, s, (_, _, h, same))))))))) le =
    let two = le_of 2 m room in
    let t = s (omega (arith, two)) in
    let few = t.fits.1 in
    tuple_term t (h (t.fits.0, omega (arith, few, two)))
term_row (inr (_, inr (_, inr (_, inr (_, inr (_, inr (_, h))))))) le = absurd h

pub application_row : {g : Sig} {m n : ℕ} {w : Word} {a : List Word} {k : ℕ} {b : List Word} → AreRow (of_terms g) (rows Application) m n w a k b → 1 ≤ m → IsBehindName g m (w ∷ a) k b
application_row {g = g} {m = m} {a = a} (inl (is_sign, _, (_, _, s, (_, _, is_changed, e)))) le = ends_there (λ k b. IsBehindName g m (mark (codes "(") ∷ a) k b) e (λ x low. symbol_term low le s)
application_row (inr (_, h)) le = absurd h

pub application_other : {g : Sig} {m n : ℕ} {w : Word} {a : List Word} {k : ℕ} {b : List Word} → AreOther (of_terms g) (otherwise Application) m n (w ∷ a) k b → 1 ≤ m → IsBehindName g m (w ∷ a) k b
application_other (_, (_, _, is_changed, same)) le = λ x low. name_term x le

pub terms_row : {g : Sig} {m n : ℕ} {w : Word} {a : List Word} {k : ℕ} {b : List Word} → AreRow (of_terms g) (rows Terms) m n w a k b → SomeArgs g m (w ∷ a) k b
terms_row (inl (is_sign, _, (_, _, is_changed, same))) = record { trees = []; are = args_none; levels = refl; few = omega arith }
terms_row (inr (_, h)) = absurd h

pub terms_other : {g : Sig} {m : ℕ} (n : ℕ) {w : Word} {a : List Word} {k : ℕ} {b : List Word} → AreOther (of_terms g) (otherwise Terms) m n (w ∷ a) k b → SomeArgs g m (w ∷ a) k b
terms_other {m = m} n (one, (_, _, s, (_, _, h, same))) =
    let t = s (le_of 1 m one) in
    some_args t (h t.fits)

pub more_terms_row : {g : Sig} {m n : ℕ} {w : Word} {a : List Word} {k : ℕ} {b : List Word} → AreRow (of_terms g) (rows MoreTerms) m n w a k b → IsBetween m n → AreMoreTerms g m n (w ∷ a) k b
more_terms_row (inl (is_sign, _, same)) i = record { trees = []; are = λ s. list_last s; levels = omega arith; fits = i }
more_terms_row (inr (_, inl (is_sign, _, (_, _, s, (_, _, is_changed, (_, _, h, same)))))) i =
    let t = s (omega (arith, i.0, i.1)) in
    let few = t.fits.1 in
    more_terms t (h (omega (arith, i.0), omega (arith, i.1, few)))
more_terms_row (inr (_, inr (_, h))) i = absurd h

pub pair_row : {g : Sig} {m n : ℕ} {w : Word} {a : List Word} {k : ℕ} {b : List Word} → AreRow (of_terms g) (rows Pair) m n w a k b → (1 ≤ n) × (n + 1 ≤ m) → IsBehindFirst g m n (w ∷ a) k b
pair_row {g = g} {m = m} {n = n} {a = a} (inl (is_sign, _, (_, _, s, (_, _, h, (_, _, is_changed, e))))) i =
    let t = s (omega (arith, i.0, i.1)) in
    ends_there (λ k b. IsBehindFirst g m n (mark (codes ",") ∷ a) k b) e (behind_first t (h t.fits) (omega (arith, i.0, i.1)) (omega (arith, i.0, i.1)))
pair_row (inr (_, h)) i = absurd h

pub more_parts_row : {g : Sig} {m n : ℕ} {w : Word} {a : List Word} {k : ℕ} {b : List Word} → AreRow (of_terms g) (rows MoreParts) m n w a k b → IsBetween m n → AreMoreParts g m n (w ∷ a) k b
more_parts_row (inl (is_sign, _, same)) i = record { tree = λ t. t; are = λ s. rest_last s; levels = λ t e. e; fits = i }
more_parts_row {g = g} {m = m} {n = n} {a = a} (inr (_, inl (is_sign, goes, (_, _, s, (_, _, h, (_, _, is_changed, e)))))) i =
    let lt = le_of (n + 1) m goes in
    let t = s (omega (arith, i.0, lt)) in
    ends_there (λ k b. AreMoreParts g m n (mark (codes ",") ∷ a) k b) e (more_parts t (h t.fits) (omega (arith, lt)) (omega (arith, i.0, lt)))
more_parts_row (inr (_, inr (_, h))) i = absurd h
