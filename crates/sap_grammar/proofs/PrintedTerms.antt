-- What is printed of terms and facts is spelled, and what is spelled can be printed so: words.
use Rattle.std.proofs.Common.{◌≡◌, ℕ, Bool, true, false, List, [], ◌∷◌, ◌++◌, length, Some, refl, sym, ap, subst, ◌∙◌}
use Rattle.std.specs.Prelude.{codes, if◌then◌else◌}
use Rattle.std.specs.Str.{bytes_eq}
use Rattle.sap_terms.specs.declared.fact.Fact.{Fact}
use Rattle.sap_terms.specs.declared.var.Sort.{Sort}
use Rattle.sap_terms.specs.declared.var.Sort.TheVariants.{Msg, Fresh, Pub}
use Rattle.sap_terms.specs.Tree.{Tree, variable, public, fresh, apply, Trees, none, more, trees_of, list_of, trees_of-list_of, list_of-trees_of}
use Rattle.sap_terms.specs.Equations.{pair_name}
use Rattle.sap_terms.specs.Signature.{Sig, arity_of}
use Rattle.sap_terms.specs.Message.{IsOver, AreOver}
use Rattle.sap_grammar.specs.Words.{Word, mark, name, is_lower}
use Rattle.sap_grammar.specs.Cut.{AreNoItemWords}
use Rattle.sap_grammar.specs.TermGrammar.{IsTerm, IsRest, IsList, IsArgs, sorted, args_none, args_some, list_last, list_more, rest_last, rest_more, term_constant, term_fresh, term_message, term_pub, term_quoted, term_symbol, term_tuple}
use Rattle.sap_grammar.specs.FactGrammar.{IsFact, fact_linear, fact_persistent}
use Rattle.sap_grammar.specs.TermText.{is_pair}
use Rattle.sap_grammar.specs.Printable.{IsTidy, IsTidyVariable, IsTidyUse, AreTidy, IsTidyFact}
use Rattle.sap_grammar.specs.PrintedWords.{Before, enclosed, variable_words, term_words, pair_words, args_words, rest_words, list_words, fact_words}
use Rattle.sap_grammar.proofs.ReadingLaws.OnRead.{same_bytes}

-- Terms.
variable_spelled : {g : Sig} (s : Sort) (x : List ℕ) → IsTidyVariable g s x → (k : List Word) → IsTerm g (sorted s x) (variable_words s x k) k
variable_spelled Msg x h k = term_message h
variable_spelled Fresh x h k = term_fresh
variable_spelled Pub x h k = term_pub

-- a symbol on arguments, as trees side by side
symbol_spelled : {g : Sig} (f : List ℕ) (t : Tree) (ts : Trees) (a b : List Word) → is_lower f ≡ true → IsList g (t ∷ list_of ts) a b
    → IsTerm g (apply f (more t ts)) (name f ∷ mark (codes "(") ∷ a) b
symbol_spelled {g = g} f t ts a b low r =
    subst (λ (us : Trees). IsTerm g (apply f (more t us)) (name f ∷ mark (codes "(") ∷ a) b) (trees_of-list_of ts) (term_symbol low (args_some r))

pair_is : (f : List ℕ) → bytes_eq f (codes "pair") ≡ true → pair_name ≡ f
pair_is f e = sym (same_bytes f (codes "pair") e)

mutual
  pub term_spelled : {g : Sig} (t : Tree) → IsTidy g t → (k : List Word) → IsTerm g t (term_words false t k) k
  term_spelled (variable v) h k = variable_spelled v.sort v.name h k
  term_spelled (public n) h k = term_quoted
  term_spelled (fresh i) h k = absurd h
  term_spelled (apply f none) h k = term_constant h.0
  term_spelled (apply f (more t none)) h k = symbol_spelled f t none _ k h.0 (list_last (term_spelled t h.1.0 (mark (codes ")") ∷ k)))
  term_spelled {g = g} (apply f (more t (more u none))) h k =
      by_pair (bytes_eq f (codes "pair")) refl (term_spelled t h.1.0 (mark (codes ",") ∷ term_words true u (mark (codes ">") ∷ k))) (rest_spelled u h.1.1.0 k)
      (list_more (term_spelled t h.1.0 (mark (codes ",") ∷ term_words false u (mark (codes ")") ∷ k))) (list_last (term_spelled u h.1.1.0 (mark (codes ")") ∷ k))))
    where
      by_pair : (c : Bool) → bytes_eq f (codes "pair") ≡ c
          → IsTerm g t (term_words false t (mark (codes ",") ∷ term_words true u (mark (codes ">") ∷ k))) (mark (codes ",") ∷ term_words true u (mark (codes ">") ∷ k))
          → IsRest g u (term_words true u (mark (codes ">") ∷ k)) k
          → IsList g (t ∷ u ∷ []) (term_words false t (mark (codes ",") ∷ term_words false u (mark (codes ")") ∷ k))) k
          → IsTerm g (apply f (more t (more u none))) (term_words false (apply f (more t (more u none))) k) k
      by_pair true e one rest all =
          rw e (subst (λ (x : List ℕ). IsTerm g (apply x (more t (more u none))) (mark (codes "<") ∷ term_words false t (mark (codes ",") ∷ term_words true u (mark (codes ">") ∷ k))) k) (pair_is f e) (term_tuple one rest))
      by_pair false e one rest all = rw e (symbol_spelled f t (more u none) _ k h.0 all)
  term_spelled (apply f (more t (more u (more w ts)))) h k =
      symbol_spelled f t (more u (more w ts)) _ k h.0 (list_more (term_spelled t h.1.0 _) (list_more (term_spelled u h.1.1.0 _) (further_spelled ts h.1.1.1.1 k (term_spelled w h.1.1.1.0 _))))

  rest_spelled : {g : Sig} (t : Tree) → IsTidy g t → (k : List Word) → IsRest g t (term_words true t (mark (codes ">") ∷ k)) k
  rest_spelled (variable v) h k = rest_last (variable_spelled v.sort v.name h (mark (codes ">") ∷ k))
  rest_spelled (public n) h k = rest_last term_quoted
  rest_spelled (fresh i) h k = absurd h
  rest_spelled (apply f none) h k = rest_last (term_constant h.0)
  rest_spelled (apply f (more t none)) h k = rest_last (symbol_spelled f t none _ (mark (codes ">") ∷ k) h.0 (list_last (term_spelled t h.1.0 (mark (codes ")") ∷ mark (codes ">") ∷ k))))
  rest_spelled {g = g} (apply f (more t (more u none))) h k =
      by_pair (bytes_eq f (codes "pair")) refl (term_spelled t h.1.0 (mark (codes ",") ∷ term_words true u (mark (codes ">") ∷ k))) (rest_spelled u h.1.1.0 k)
      (list_more (term_spelled t h.1.0 (mark (codes ",") ∷ term_words false u (mark (codes ")") ∷ mark (codes ">") ∷ k))) (list_last (term_spelled u h.1.1.0 (mark (codes ")") ∷ mark (codes ">") ∷ k))))
    where
      by_pair : (c : Bool) → bytes_eq f (codes "pair") ≡ c
          → IsTerm g t (term_words false t (mark (codes ",") ∷ term_words true u (mark (codes ">") ∷ k))) (mark (codes ",") ∷ term_words true u (mark (codes ">") ∷ k))
          → IsRest g u (term_words true u (mark (codes ">") ∷ k)) k
          → IsList g (t ∷ u ∷ []) (term_words false t (mark (codes ",") ∷ term_words false u (mark (codes ")") ∷ mark (codes ">") ∷ k))) (mark (codes ">") ∷ k)
          → IsRest g (apply f (more t (more u none))) (term_words true (apply f (more t (more u none))) (mark (codes ">") ∷ k)) k
      by_pair true e one rest all =
          rw e (subst (λ (x : List ℕ). IsRest g (apply x (more t (more u none))) (term_words false t (mark (codes ",") ∷ term_words true u (mark (codes ">") ∷ k))) k) (pair_is f e) (rest_more one rest))
      by_pair false e one rest all = rw e (rest_last (symbol_spelled f t (more u none) _ (mark (codes ">") ∷ k) h.0 all))
  rest_spelled (apply f (more t (more u (more w ts)))) h k =
      rest_last (symbol_spelled f t (more u (more w ts)) _ (mark (codes ">") ∷ k) h.0 (list_more (term_spelled t h.1.0 _) (list_more (term_spelled u h.1.1.0 _) (further_spelled ts h.1.1.1.1 (mark (codes ">") ∷ k) (term_spelled w h.1.1.1.0 _)))))

  -- behind a term, further ones
  further_spelled : {g : Sig} (ts : Trees) → AreTidy g ts → (k : List Word) {t : Tree} {a : List Word} → IsTerm g t a (rest_words ts (mark (codes ")") ∷ k)) → IsList g (t ∷ list_of ts) a k
  further_spelled none h k r = list_last r
  further_spelled (more u ts) h k r = list_more r (further_spelled ts h.1 k (term_spelled u h.0 _))

-- arguments of a fact
list_spelled : {g : Sig} (ts : List Tree) → AreTidy g (trees_of ts) → (k : List Word) → IsArgs g ts (list_words ts k) k
list_spelled [] h k = args_none
list_spelled {g = g} (t ∷ ts) h k =
    args_some (subst (λ (us : List Tree). IsList g (t ∷ us) (list_words (t ∷ ts) k) k) (list_of-trees_of ts) (further_spelled (trees_of ts) h.1 k (term_spelled t h.0 _)))

pub fact_spelled : {g : Sig} (f : Fact) → IsTidyFact g f → (k : List Word) → IsFact g f (fact_words f k) k
fact_spelled {g = g} f h k = by_sign f.persistent refl
  where
    by_sign : (c : Bool) → f.persistent ≡ c → IsFact g f (fact_words f k) k
    by_sign true e = rw e (fact_persistent h.0 (list_spelled f.args h.1 k))
    by_sign false e = rw e (fact_linear h.0 (list_spelled f.args h.1 k))

-- What is spelled, over the signature, can be printed.
tidy_use : (g : Sig) (f : List ℕ) (ts : List Tree) → is_lower f ≡ true → arity_of g f ≡ Some (length (list_of (trees_of ts))) → IsTidyUse g f (trees_of ts)
tidy_use g f [] low is = is
tidy_use g f (t ∷ ts) low is = low

mutual
  pub term_tidy : {g : Sig} {t : Tree} {a b : List Word} → IsTerm g t a b → IsOver g t → IsTidy g t
  term_tidy (term_constant is) h = (is, tt)
  term_tidy (term_message free) h = free
  term_tidy term_fresh h = tt
  term_tidy term_pub h = tt
  term_tidy term_quoted h = tt
  term_tidy {g = g} (term_symbol {f = f} {ts = ts} low r) h = (tidy_use g f ts low h.0, args_tidy r h.1)
  term_tidy (term_tuple r s) h = (refl, (term_tidy r h.1.0, (rest_tidy s h.1.1.0, tt)))

  rest_tidy : {g : Sig} {t : Tree} {a b : List Word} → IsRest g t a b → IsOver g t → IsTidy g t
  rest_tidy (rest_last r) h = term_tidy r h
  rest_tidy (rest_more r s) h = (refl, (term_tidy r h.1.0, (rest_tidy s h.1.1.0, tt)))

  list_tidy : {g : Sig} {ts : List Tree} {a b : List Word} → IsList g ts a b → AreOver g (trees_of ts) → AreTidy g (trees_of ts)
  list_tidy (list_last r) h = (term_tidy r h.0, tt)
  list_tidy (list_more r s) h = (term_tidy r h.0, list_tidy s h.1)

  args_tidy : {g : Sig} {ts : List Tree} {a b : List Word} → IsArgs g ts a b → AreOver g (trees_of ts) → AreTidy g (trees_of ts)
  args_tidy args_none h = tt
  args_tidy (args_some r) h = list_tidy r h

pub fact_tidy : {g : Sig} {f : Fact} {a b : List Word} → IsFact g f a b → AreOver g (trees_of f.args) → IsTidyFact g f
fact_tidy (fact_linear up r) h = (up, args_tidy r h)
fact_tidy (fact_persistent up r) h = (up, args_tidy r h)

-- What is written before words stands in front of them, whatever they are.
abbrev pub IsFront : Before → Type 0
IsFront words = (k l : List Word) → words (k ++ l) ≡ words k ++ l

variable_front : (s : Sort) (x : List ℕ) → IsFront (variable_words s x)
variable_front Msg x k l = refl
variable_front Fresh x k l = refl
variable_front Pub x k l = refl

enclosed_front : (asked : Bool) (opening closing : List ℕ) (words : Before) → IsFront words → IsFront (enclosed asked opening closing words)
enclosed_front true opening closing words w k l = ap (λ (x : List Word). mark opening ∷ x) (w (mark closing ∷ k) l)
enclosed_front false opening closing words w k l = w k l

mutual
  pub term_front : (o : Bool) (t : Tree) → IsFront (term_words o t)
  term_front o (variable v) k l = variable_front v.sort v.name k l
  term_front o (public n) k l = refl
  term_front o (fresh i) k l = refl
  term_front o (apply f ts) k l = by_pair (is_pair f ts) (pair_front ts) (args_front ts)
    where
      by_pair : (c : Bool) → IsFront (pair_words ts) → IsFront (args_words ts)
          → (if c then enclosed (if o then false else true) (codes "<") (codes ">") (pair_words ts) (k ++ l) else name f ∷ args_words ts (k ++ l))
          ≡ (if c then enclosed (if o then false else true) (codes "<") (codes ">") (pair_words ts) k else name f ∷ args_words ts k) ++ l
      by_pair true p a = enclosed_front (if o then false else true) (codes "<") (codes ">") (pair_words ts) p k l
      by_pair false p a = ap (λ (x : List Word). name f ∷ x) (a k l)

  pair_front : (ts : Trees) → IsFront (pair_words ts)
  pair_front none k l = refl
  pair_front (more t none) k l = refl
  pair_front (more t (more u ts)) k l =
      ap (λ (x : List Word). term_words false t (mark (codes ",") ∷ x)) (term_front true u k l) ∙ term_front false t (mark (codes ",") ∷ term_words true u k) l

  args_front : (ts : Trees) → IsFront (args_words ts)
  args_front none k l = refl
  args_front (more t ts) k l =
      ap (λ (x : List Word). mark (codes "(") ∷ x) (ap (λ (x : List Word). term_words false t x) (rest_front ts (mark (codes ")") ∷ k) l) ∙ term_front false t (rest_words ts (mark (codes ")") ∷ k)) l)

  rest_front : (ts : Trees) → IsFront (rest_words ts)
  rest_front none k l = refl
  rest_front (more t ts) k l =
      ap (λ (x : List Word). mark (codes ",") ∷ x) (ap (λ (x : List Word). term_words false t x) (rest_front ts k l) ∙ term_front false t (rest_words ts k) l)

list_front : (ts : List Tree) → IsFront (list_words ts)
list_front [] k l = refl
list_front (t ∷ ts) k l =
    ap (λ (x : List Word). term_words false t x) (rest_front (trees_of ts) (mark (codes ")") ∷ k) l) ∙ term_front false t (rest_words (trees_of ts) (mark (codes ")") ∷ k)) l

pub fact_front : (f : Fact) → IsFront (fact_words f)
fact_front f k l = by_sign f.persistent
  where
    by_sign : (c : Bool)
        → (if c then mark (codes "!") ∷ name f.name ∷ mark (codes "(") ∷ list_words f.args (k ++ l) else name f.name ∷ mark (codes "(") ∷ list_words f.args (k ++ l))
        ≡ (if c then mark (codes "!") ∷ name f.name ∷ mark (codes "(") ∷ list_words f.args k else name f.name ∷ mark (codes "(") ∷ list_words f.args k) ++ l
    by_sign true = ap (λ (x : List Word). mark (codes "!") ∷ name f.name ∷ mark (codes "(") ∷ x) (list_front f.args k l)
    by_sign false = ap (λ (x : List Word). name f.name ∷ mark (codes "(") ∷ x) (list_front f.args k l)

-- No item begins inside a term or a fact.
mutual
  pub term_free : {g : Sig} {t : Tree} {a b : List Word} → IsTerm g t a b → AreNoItemWords b → AreNoItemWords a
  term_free (term_constant is) h = (refl, h)
  term_free (term_message is) h = (refl, h)
  term_free term_fresh h = (refl, (refl, h))
  term_free term_pub h = (refl, (refl, h))
  term_free term_quoted h = (refl, h)
  term_free (term_symbol low r) h = (refl, (refl, args_free r h))
  term_free (term_tuple r s) h = (refl, term_free r (refl, rest_free s h))

  rest_free : {g : Sig} {t : Tree} {a b : List Word} → IsRest g t a b → AreNoItemWords b → AreNoItemWords a
  rest_free (rest_last r) h = term_free r (refl, h)
  rest_free (rest_more r s) h = term_free r (refl, rest_free s h)

  list_free : {g : Sig} {ts : List Tree} {a b : List Word} → IsList g ts a b → AreNoItemWords b → AreNoItemWords a
  list_free (list_last r) h = term_free r (refl, h)
  list_free (list_more r s) h = term_free r (refl, list_free s h)

  args_free : {g : Sig} {ts : List Tree} {a b : List Word} → IsArgs g ts a b → AreNoItemWords b → AreNoItemWords a
  args_free args_none h = (refl, h)
  args_free (args_some r) h = list_free r h

pub fact_free : {g : Sig} {f : Fact} {a b : List Word} → IsFact g f a b → AreNoItemWords b → AreNoItemWords a
fact_free (fact_linear up r) h = (refl, (refl, args_free r h))
fact_free (fact_persistent up r) h = (refl, (refl, (refl, args_free r h)))
