-- The step of some words has these words, and each step is that of its words.
use Rattle.std.proofs.Common.{◌≡◌, ℕ, Bool, true, false, List, [], ◌∷◌, ◌++◌, append_assoc, append-nil, map, Option, Some, None, refl, sym, ap, subst, ◌∙◌}
use Rattle.std.specs.Prelude.{◌≤◌, codes, not, ◌&&◌, nat_le, length}
use Rattle.std.specs.Str.{bytes_eq}
use Rattle.std.proofs.lemmas.Slice.Eq.{bytes_eq-Decides}
use Rattle.std.proofs.lemmas.Bool.{le-leb, leb-true}
use Rattle.sap_text.specs.declared.token.Kind.TheVariants as kind
use Rattle.sap_text.specs.Tokens.{IsToken}
use Rattle.sap_terms.specs.declared.limits.TheConstants.{MOST_THEORY_NAME_BYTES}
use Rattle.sap_terms.specs.declared.binding.Binding.{Binding}
use Rattle.sap_terms.specs.View.{tree, term, term-tree, tree-term}
use Rattle.sap_grammar.specs.Words.{is_grammar_word}
use Rattle.sap_runs.specs.declared.process_step.PStep.{PStep}
use Rattle.sap_runs.specs.declared.process_step.PStep.TheVariants as step
use Rattle.sap_runs.specs.declared.rule_step.RStep.{RStep}
use Rattle.sap_runs.specs.declared.rule_step.RStep.TheVariants as rstep
use Rattle.sap_run_lines.specs.RunTerms.{IsRunName}
use Rattle.sap_run_lines.specs.LineWords.{LineWord, identifier, number, fresh_name, public_name, bound, word_identifier, AreLineWords, words_last, words_more}
use Rattle.sap_run_lines.specs.StepLines.{bound_word, with_words, use_words, plain, process_words, rule_words, NamesSymbol, NamesRule}
use Rattle.sap_run_lines.specs.code.Taking.{given, is_run_name}
use Rattle.sap_run_lines.specs.code.StepTaking.{as_identifier, as_number, as_fresh, as_public, as_bound, as_name, only, numbers_first, behind_numbers, where_none, numbers_of, bindings_onto, bindings_of, some_bindings, with_of, uses_of, word_first, name_first, number_first, applied_of, named_of, public_of, fresh_of, number_of, process_behind, process_numbered, new_of, embedded_of, process_named, process_step_of, rule_named, rule_step_of}
use Rattle.sap_run_lines.specs.NumberedSteps.{process_one, process_two}
use Rattle.sap_run_lines.proofs.OnTaken.{OnSome, given_on, if_on, some_on, onward}

same_bytes : {x y : List ℕ} → bytes_eq x y ≡ true → x ≡ y
same_bytes {x = x} {y = y} e = (bytes_eq-Decides x y).0 e

-- a binding, taken apart and put together
pub binding_again : (b : Binding) → ◌≡◌ {A = Binding} (record { var = b.var; term = term (tree b.term) }) b
binding_again b = ap (λ t. record { var = b.var; term = t }) (term-tree b.term)

pub ruleset bindings = (binding_again)

identifier_is : (w : LineWord) (x : List ℕ) → as_identifier w ≡ Some x → w ≡ identifier x
identifier_is (identifier y) x e = let same : y ≡ x = cc in ap identifier same
identifier_is (number n) x e = absurd (cc)
identifier_is (fresh_name n) x e = absurd (cc)
identifier_is (public_name s) x e = absurd (cc)
identifier_is (bound v t) x e = absurd (cc)

pub number_is : (w : LineWord) (x : ℕ) → as_number w ≡ Some x → w ≡ number x
number_is (identifier y) x e = absurd (cc)
number_is (number n) x e = let same : n ≡ x = cc in ap number same
number_is (fresh_name n) x e = absurd (cc)
number_is (public_name s) x e = absurd (cc)
number_is (bound v t) x e = absurd (cc)

fresh_is : (w : LineWord) (x : ℕ) → as_fresh w ≡ Some x → w ≡ fresh_name x
fresh_is (identifier y) x e = absurd (cc)
fresh_is (number n) x e = absurd (cc)
fresh_is (fresh_name n) x e = let same : n ≡ x = cc in ap fresh_name same
fresh_is (public_name s) x e = absurd (cc)
fresh_is (bound v t) x e = absurd (cc)

public_is : (w : LineWord) (x : List ℕ) → as_public w ≡ Some x → w ≡ public_name x
public_is (identifier y) x e = absurd (cc)
public_is (number n) x e = absurd (cc)
public_is (fresh_name n) x e = absurd (cc)
public_is (public_name s) x e = let same : s ≡ x = cc in ap public_name same
public_is (bound v t) x e = absurd (cc)

bound_is : (w : LineWord) (b : Binding) → as_bound w ≡ Some b → w ≡ bound_word b
bound_is (identifier y) x e = absurd (cc)
bound_is (number n) x e = absurd (cc)
bound_is (fresh_name n) x e = absurd (cc)
bound_is (public_name s) x e = absurd (cc)
bound_is (bound v t) b e = let same : ◌≡◌ {A = Binding} (record { var = v; term = term t }) b = cc in ap (bound v) (sym (tree-term t)) ∙ ap bound_word same

only_is : (ws : List LineWord) (w : LineWord) → only ws ≡ Some w → ws ≡ w ∷ []
only_is [] w e = absurd (cc)
only_is (u ∷ []) w e = let same : u ≡ w = cc in ap (λ y. y ∷ []) same
only_is (u ∷ v ∷ ws) w e = absurd (cc)

-- it is short, and no word of the grammar
record IsShortName (x : List ℕ) : Type 0 where
  no_grammar_word : is_grammar_word x ≡ false
  short : length x ≤ MOST_THEORY_NAME_BYTES

short_name : (x : List ℕ) → is_run_name x ≡ true → IsShortName x
short_name x e = at (is_grammar_word x) refl e where
  at : (g : Bool) → is_grammar_word x ≡ g → (not g && nat_le (length x) MOST_THEORY_NAME_BYTES) ≡ true → IsShortName x
  at true f h = absurd (cc)
  at false f h = record { no_grammar_word = f; short = leb-true (length x) MOST_THEORY_NAME_BYTES h }

short_run_name : (x : List ℕ) → IsRunName x → is_run_name x ≡ true
short_run_name x n =
    let short : nat_le (length x) MOST_THEORY_NAME_BYTES ≡ true = le-leb (length x) MOST_THEORY_NAME_BYTES n.short in
    rw (n.no_grammar_word, short) refl

word_first_on : (ws : List LineWord) → OnSome (λ (p : List ℕ × List LineWord). ws ≡ identifier p.0 ∷ p.1) (word_first ws)
word_first_on [] = tt
word_first_on (w ∷ ws) = given_on (λ (p : List ℕ × List LineWord). w ∷ ws ≡ identifier p.0 ∷ p.1) (as_identifier w) _ (λ x e. ap (λ y. y ∷ ws) (identifier_is w x e))

number_first_on : (ws : List LineWord) → OnSome (λ (p : ℕ × List LineWord). ws ≡ number p.0 ∷ p.1) (number_first ws)
number_first_on [] = tt
number_first_on (w ∷ ws) = given_on (λ (p : ℕ × List LineWord). w ∷ ws ≡ number p.0 ∷ p.1) (as_number w) _ (λ x e. ap (λ y. y ∷ ws) (number_is w x e))

name_first_on : (ws : List LineWord) → OnSome (λ (p : List ℕ × List LineWord). (ws ≡ identifier p.0 ∷ p.1) × IsShortName p.0) (name_first ws)
name_first_on [] = tt
name_first_on (w ∷ ws) = given_on Q (as_name w) _ (λ x e. named x (some_on (λ x. (w ≡ identifier x) × IsShortName x) (as_name w) x e whole)) where
  Q : List ℕ × List LineWord → Type 0
  Q p = (w ∷ ws ≡ identifier p.0 ∷ p.1) × IsShortName p.0

  whole : OnSome (λ x. (w ≡ identifier x) × IsShortName x) (as_name w)
  whole = given_on (λ x. (w ≡ identifier x) × IsShortName x) (as_identifier w) _ (λ x e.
      if_on (λ x. (w ≡ identifier x) × IsShortName x) (is_run_name x) _ _ (λ n. (identifier_is w x e, short_name x n)) (λ n. tt))

  named : (x : List ℕ) → (w ≡ identifier x) × IsShortName x → Q (x, ws)
  named x h = (ap (λ y. y ∷ ws) h.0, h.1)

public_on : (ws : List LineWord) → OnSome (λ s. ws ≡ public_name s ∷ []) (public_of ws)
public_on ws = given_on (λ s. ws ≡ public_name s ∷ []) (only ws) _ (λ w e. held w (only_is ws w e)) where
  held : (w : LineWord) → ws ≡ w ∷ [] → OnSome (λ s. ws ≡ public_name s ∷ []) (as_public w)
  held w e = at (as_public w) refl where
    at : (o : Option (List ℕ)) → as_public w ≡ o → OnSome (λ s. ws ≡ public_name s ∷ []) o
    at None f = tt
    at (Some s) f = e ∙ ap (λ y. y ∷ []) (public_is w s f)

fresh_on : (ws : List LineWord) → OnSome (λ n. ws ≡ fresh_name n ∷ []) (fresh_of ws)
fresh_on ws = given_on (λ n. ws ≡ fresh_name n ∷ []) (only ws) _ (λ w e. held w (only_is ws w e)) where
  held : (w : LineWord) → ws ≡ w ∷ [] → OnSome (λ n. ws ≡ fresh_name n ∷ []) (as_fresh w)
  held w e = at (as_fresh w) refl where
    at : (o : Option ℕ) → as_fresh w ≡ o → OnSome (λ n. ws ≡ fresh_name n ∷ []) o
    at None f = tt
    at (Some n) f = e ∙ ap (λ y. y ∷ []) (fresh_is w n f)

pub one_number_on : (ws : List LineWord) → OnSome (λ n. ws ≡ number n ∷ []) (number_of ws)
one_number_on ws = given_on (λ n. ws ≡ number n ∷ []) (only ws) _ (λ w e. held w (only_is ws w e)) where
  held : (w : LineWord) → ws ≡ w ∷ [] → OnSome (λ n. ws ≡ number n ∷ []) (as_number w)
  held w e = at (as_number w) refl where
    at : (o : Option ℕ) → as_number w ≡ o → OnSome (λ n. ws ≡ number n ∷ []) o
    at None f = tt
    at (Some n) f = e ∙ ap (λ y. y ∷ []) (number_is w n f)

numbers_split : (ws : List LineWord) → ws ≡ map number (numbers_first ws) ++ behind_numbers ws
numbers_split [] = refl
numbers_split (number n ∷ ws) = ap (λ y. number n ∷ y) (numbers_split ws)
numbers_split (identifier x ∷ ws) = refl
numbers_split (fresh_name n ∷ ws) = refl
numbers_split (public_name s ∷ ws) = refl
numbers_split (bound v t ∷ ws) = refl

numbers_on : (ws : List LineWord) → OnSome (λ ks. ws ≡ map number ks) (numbers_of ws)
numbers_on ws = at (behind_numbers ws) (numbers_split ws) where
  at : (b : List LineWord) → ws ≡ map number (numbers_first ws) ++ b → OnSome (λ ks. ws ≡ map number ks) (where_none b (numbers_first ws))
  at [] e = e ∙ append-nil (map number (numbers_first ws))
  at (w ∷ b) e = tt

-- these stand behind others
abbrev Added : List Binding → List LineWord → List Binding → Type 0
Added bs ws cs = (ts : List Binding) × (cs ≡ bs ++ ts) × (ws ≡ map bound_word ts)

bindings_onto_on : (bs : List Binding) (ws : List LineWord) → OnSome (Added bs ws) (bindings_onto bs ws)
unfolding bindings_onto
bindings_onto_on bs [] = ([], sym (append-nil bs), refl)
bindings_onto_on bs (w ∷ ws) = given_on (Added bs (w ∷ ws)) (as_bound w) _ (λ b e.
    onward (Added (bs ++ b ∷ []) ws) (Added bs (w ∷ ws)) (bindings_onto (bs ++ b ∷ []) ws) (bindings_onto_on (bs ++ b ∷ []) ws) (λ cs m.
    (b ∷ m.0, m.1 ∙ append_assoc bs (b ∷ []) m.0, λ i. bound_is w b e i ∷ m.2 i)))

bindings_on : (ws : List LineWord) → OnSome (λ bs. ws ≡ map bound_word bs) (bindings_of ws)
bindings_on ws = onward (Added [] ws) (λ bs. ws ≡ map bound_word bs) (bindings_of ws) (bindings_onto_on [] ws) (λ cs m. m.2 ∙ ap (map bound_word) (sym m.1))

with_on : (ws : List LineWord) → OnSome (λ bs. ws ≡ with_words bs) (with_of ws)
with_on [] = refl
with_on (identifier x ∷ ws) = if_on (λ bs. identifier x ∷ ws ≡ with_words bs) (bytes_eq x (codes "with")) _ _ (λ e. some ws (same_bytes e)) (λ e. tt) where
  behind : (w : LineWord) (us : List LineWord) (bs : List Binding) → x ≡ codes "with" → w ∷ us ≡ map bound_word bs → identifier x ∷ w ∷ us ≡ with_words bs
  behind w us [] e f = absurd (cc)
  behind w us (b ∷ bs) e f = λ i. identifier (e i) ∷ f i

  some : (us : List LineWord) → x ≡ codes "with" → OnSome (λ bs. identifier x ∷ us ≡ with_words bs) (some_bindings us)
  some [] e = tt
  some (w ∷ us) e = at (bindings_of (w ∷ us)) (bindings_on (w ∷ us)) where
    at : (o : Option (List Binding)) → OnSome (λ bs. w ∷ us ≡ map bound_word bs) o → OnSome (λ bs. identifier x ∷ w ∷ us ≡ with_words bs) o
    at None h = tt
    at (Some bs) h = behind w us bs e h
with_on (number n ∷ ws) = tt
with_on (fresh_name n ∷ ws) = tt
with_on (public_name s ∷ ws) = tt
with_on (bound v t ∷ ws) = tt

uses_on : (ws : List LineWord) → OnSome (λ (u : List ℕ × List Binding). ws ≡ use_words u.0 u.1) (uses_of ws)
unfolding uses_of
uses_on ws = given_on (λ (u : List ℕ × List Binding). ws ≡ use_words u.0 u.1) (with_of (behind_numbers ws)) _ (λ bs e.
    numbers_split ws ∙ ap (λ y. map number (numbers_first ws) ++ y) (some_on (λ bs. behind_numbers ws ≡ with_words bs) (with_of (behind_numbers ws)) bs e (with_on (behind_numbers ws))))

applied_on : (ws : List LineWord) → OnSome (λ (a : List ℕ × List ℕ). (ws ≡ identifier a.0 ∷ map number a.1) × IsShortName a.0) (applied_of ws)
unfolding applied_of
applied_on ws = given_on Q (name_first ws) _ (λ p e. at p (some_on (λ (p : List ℕ × List LineWord). (ws ≡ identifier p.0 ∷ p.1) × IsShortName p.0) (name_first ws) p e (name_first_on ws))) where
  Q : List ℕ × List ℕ → Type 0
  Q a = (ws ≡ identifier a.0 ∷ map number a.1) × IsShortName a.0

  at : (p : List ℕ × List LineWord) → (ws ≡ identifier p.0 ∷ p.1) × IsShortName p.0 → OnSome Q (given (numbers_of p.1) (λ ks. Some (p.0, ks)))
  at p h = given_on Q (numbers_of p.1) _ (λ ks e. (h.0 ∙ ap (λ y. identifier p.0 ∷ y) (some_on (λ ks. p.1 ≡ map number ks) (numbers_of p.1) ks e (numbers_on p.1)), h.1))

named_on : (ws : List LineWord) → OnSome (λ (u : List ℕ × List ℕ × List Binding). (ws ≡ identifier u.0 ∷ use_words u.1 u.2) × IsShortName u.0) (named_of ws)
unfolding named_of
named_on ws = given_on Q (name_first ws) _ (λ p e. at p (some_on (λ (p : List ℕ × List LineWord). (ws ≡ identifier p.0 ∷ p.1) × IsShortName p.0) (name_first ws) p e (name_first_on ws))) where
  Q : List ℕ × List ℕ × List Binding → Type 0
  Q u = (ws ≡ identifier u.0 ∷ use_words u.1 u.2) × IsShortName u.0

  at : (p : List ℕ × List LineWord) → (ws ≡ identifier p.0 ∷ p.1) × IsShortName p.0 → OnSome Q (given (uses_of p.1) (λ u. Some (p.0, u.0, u.1)))
  at p h = given_on Q (uses_of p.1) _ (λ u e. (h.0 ∙ ap (λ y. identifier p.0 ∷ y) (some_on (λ (u : List ℕ × List Binding). p.1 ≡ use_words u.0 u.1) (uses_of p.1) u e (uses_on p.1)), h.1))

-- an identifier of a line is one
first_token : {f : List ℕ} {ws : List LineWord} {z : List ℕ} → AreLineWords (identifier f ∷ ws) z → IsToken kind.Ident f
first_token (words_last (word_identifier is)) = is
first_token (words_more (word_identifier is) s) = is

second_token : {w : LineWord} {f : List ℕ} {ws : List LineWord} {z : List ℕ} → AreLineWords (w ∷ identifier f ∷ ws) z → IsToken kind.Ident f
second_token (words_more r s) = first_token s

second_name : {ws us : List LineWord} {w : LineWord} {f : List ℕ} → ws ≡ w ∷ identifier f ∷ us → IsShortName f → (z : List ℕ) → AreLineWords ws z → IsRunName f
second_name {us = us} {w = w} {f = f} e n z r =
    let are : AreLineWords (w ∷ identifier f ∷ us) z = subst (λ (y : List LineWord). AreLineWords y z) e r in
    record { is = second_token are; no_grammar_word = n.no_grammar_word; short = n.short }

-- these are the words of the step, and where they stand on a line it names what is a name
abbrev pub IsProcess : List LineWord → PStep → Type 0
IsProcess ws s = (ws ≡ process_words s) × ((z : List ℕ) → AreLineWords ws z → NamesSymbol s)

abbrev pub IsRule : List LineWord → RStep → Type 0
IsRule ws s = (ws ≡ rule_words s) × ((z : List ℕ) → AreLineWords ws z → NamesRule s)

module _ (x : List ℕ) (ws : List LineWord) where
  one_on : (t : ℕ) → ws ≡ identifier x ∷ number t ∷ [] → OnSome (IsProcess ws) (process_one x t)
  one_on t e =
      if_on (IsProcess ws) (bytes_eq x (codes "nil")) _ _ (λ c. (is c, λ z r. tt)) (λ _.
      if_on (IsProcess ws) (bytes_eq x (codes "par")) _ _ (λ c. (is c, λ z r. tt)) (λ _.
      if_on (IsProcess ws) (bytes_eq x (codes "rep")) _ _ (λ c. (is c, λ z r. tt)) (λ _.
      if_on (IsProcess ws) (bytes_eq x (codes "out")) _ _ (λ c. (is c, λ z r. tt)) (λ _.
      if_on (IsProcess ws) (bytes_eq x (codes "then")) _ _ (λ c. (is c, λ z r. tt)) (λ _.
      if_on (IsProcess ws) (bytes_eq x (codes "else")) _ _ (λ c. (is c, λ z r. tt)) (λ _.
      if_on (IsProcess ws) (bytes_eq x (codes "event")) _ _ (λ c. (is c, λ z r. tt)) (λ _.
      if_on (IsProcess ws) (bytes_eq x (codes "insert")) _ _ (λ c. (is c, λ z r. tt)) (λ _.
      if_on (IsProcess ws) (bytes_eq x (codes "delete")) _ _ (λ c. (is c, λ z r. tt)) (λ _.
      if_on (IsProcess ws) (bytes_eq x (codes "found")) _ _ (λ c. (is c, λ z r. tt)) (λ _.
      if_on (IsProcess ws) (bytes_eq x (codes "missing")) _ _ (λ c. (is c, λ z r. tt)) (λ _.
      if_on (IsProcess ws) (bytes_eq x (codes "lock")) _ _ (λ c. (is c, λ z r. tt)) (λ _.
      if_on (IsProcess ws) (bytes_eq x (codes "unlock")) _ _ (λ c. (is c, λ z r. tt)) (λ _.
      if_on (IsProcess ws) (bytes_eq x (codes "know")) _ _ (λ c. (is c, λ z r. tt)) (λ _. tt))))))))))))))
    where
      is : {y : List ℕ} → bytes_eq x y ≡ true → ws ≡ plain y (t ∷ [])
      is c = e ∙ ap (λ y. plain y (t ∷ [])) (same_bytes c)

  two_on : (a b : ℕ) → ws ≡ identifier x ∷ number a ∷ number b ∷ [] → OnSome (IsProcess ws) (process_two x a b)
  two_on a b e =
      if_on (IsProcess ws) (bytes_eq x (codes "send")) _ _ (λ c. (is c, λ z r. tt)) (λ _.
      if_on (IsProcess ws) (bytes_eq x (codes "in")) _ _ (λ c. (is c, λ z r. tt)) (λ _.
      if_on (IsProcess ws) (bytes_eq x (codes "sync")) _ _ (λ c. (is c, λ z r. tt)) (λ _. tt)))
    where
      is : {y : List ℕ} → bytes_eq x y ≡ true → ws ≡ plain y (a ∷ b ∷ [])
      is c = e ∙ ap (λ y. plain y (a ∷ b ∷ [])) (same_bytes c)

  behind_on : (t : ℕ) (us : List LineWord) → ws ≡ identifier x ∷ number t ∷ us → OnSome (IsProcess ws) (process_behind x t us)
  behind_on t [] e = one_on t e
  behind_on t (w ∷ us) e = given_on (IsProcess ws) (number_of (w ∷ us)) _ (λ b f.
      two_on t b (e ∙ ap (λ y. identifier x ∷ number t ∷ y) (some_on (λ n. w ∷ us ≡ number n ∷ []) (number_of (w ∷ us)) b f (one_number_on (w ∷ us)))))

  module _ (rest : List LineWord) (e : ws ≡ identifier x ∷ rest) where
    numbered_on : OnSome (IsProcess ws) (process_numbered x rest)
    numbered_on = given_on (IsProcess ws) (number_first rest) _ (λ p f.
        behind_on p.0 p.1 (e ∙ ap (λ y. identifier x ∷ y) (some_on (λ (p : ℕ × List LineWord). rest ≡ number p.0 ∷ p.1) (number_first rest) p f (number_first_on rest))))

    new_on : x ≡ codes "new" → OnSome (IsProcess ws) (new_of rest)
    new_on c = given_on (IsProcess ws) (number_first rest) _ (λ p f.
        given_on (IsProcess ws) (fresh_of p.1) _ (λ n g.
        let front = some_on (λ (p : ℕ × List LineWord). rest ≡ number p.0 ∷ p.1) (number_first rest) p f (number_first_on rest) in
        let back = some_on (λ n. p.1 ≡ fresh_name n ∷ []) (fresh_of p.1) n g (fresh_on p.1) in
        (e ∙ (λ i. identifier (c i) ∷ (front ∙ ap (λ y. number p.0 ∷ y) back) i), λ z r. tt)))

    embedded_on : x ≡ codes "rule" → OnSome (IsProcess ws) (embedded_of rest)
    embedded_on c = given_on (IsProcess ws) (number_first rest) _ (λ p f.
        given_on (IsProcess ws) (uses_of p.1) _ (λ u g.
        let front = some_on (λ (p : ℕ × List LineWord). rest ≡ number p.0 ∷ p.1) (number_first rest) p f (number_first_on rest) in
        let back = some_on (λ (u : List ℕ × List Binding). p.1 ≡ use_words u.0 u.1) (uses_of p.1) u g (uses_on p.1) in
        (e ∙ (λ i. identifier (c i) ∷ (front ∙ ap (λ y. number p.0 ∷ y) back) i), λ z r. tt)))

    word : {y : List ℕ} → bytes_eq x y ≡ true → x ≡ y
    word {y = y} c = same_bytes {x = x} {y = y} c

    process_named_on : OnSome (IsProcess ws) (process_named x rest)
    process_named_on =
        if_on (IsProcess ws) (bytes_eq x (codes "rule")) _ _ (λ c. embedded_on (same_bytes c)) (λ _.
        if_on (IsProcess ws) (bytes_eq x (codes "app")) _ _ (λ c. given_on (IsProcess ws) (applied_of rest) _ (λ a f.
        let is = some_on (λ (a : List ℕ × List ℕ). (rest ≡ identifier a.0 ∷ map number a.1) × IsShortName a.0) (applied_of rest) a f (applied_on rest) in
        let whole : ws ≡ identifier (codes "app") ∷ identifier a.0 ∷ map number a.1 = e ∙ (λ i. identifier (word {y = codes "app"} c i) ∷ is.0 i) in
        (whole, second_name whole is.1))) (λ _.
        if_on (IsProcess ws) (bytes_eq x (codes "pub")) _ _ (λ c. given_on (IsProcess ws) (public_of rest) _ (λ s f.
        (e ∙ (λ i. identifier (word {y = codes "pub"} c i) ∷ some_on (λ s. rest ≡ public_name s ∷ []) (public_of rest) s f (public_on rest) i), λ z r. tt))) (λ _.
        if_on (IsProcess ws) (bytes_eq x (codes "name")) _ _ (λ c. given_on (IsProcess ws) (fresh_of rest) _ (λ n f.
        (e ∙ (λ i. identifier (word {y = codes "name"} c i) ∷ some_on (λ n. rest ≡ fresh_name n ∷ []) (fresh_of rest) n f (fresh_on rest) i), λ z r. tt))) (λ _.
        if_on (IsProcess ws) (bytes_eq x (codes "new")) _ _ (λ c. new_on (same_bytes c)) (λ _. numbered_on)))))

    rule_named_on : OnSome (IsRule ws) (rule_named x rest)
    rule_named_on =
        if_on (IsRule ws) (bytes_eq x (codes "rule")) _ _ (λ c. given_on (IsRule ws) (named_of rest) _ (λ u f.
        let is = some_on (λ (u : List ℕ × List ℕ × List Binding). (rest ≡ identifier u.0 ∷ use_words u.1 u.2) × IsShortName u.0) (named_of rest) u f (named_on rest) in
        let whole : ws ≡ identifier (codes "rule") ∷ identifier u.0 ∷ use_words u.1 u.2 = e ∙ (λ i. identifier (word {y = codes "rule"} c i) ∷ is.0 i) in
        (whole, second_name whole is.1))) (λ _.
        if_on (IsRule ws) (bytes_eq x (codes "app")) _ _ (λ c. given_on (IsRule ws) (applied_of rest) _ (λ a f.
        let is = some_on (λ (a : List ℕ × List ℕ). (rest ≡ identifier a.0 ∷ map number a.1) × IsShortName a.0) (applied_of rest) a f (applied_on rest) in
        let whole : ws ≡ identifier (codes "app") ∷ identifier a.0 ∷ map number a.1 = e ∙ (λ i. identifier (word {y = codes "app"} c i) ∷ is.0 i) in
        (whole, second_name whole is.1))) (λ _.
        if_on (IsRule ws) (bytes_eq x (codes "pub")) _ _ (λ c. given_on (IsRule ws) (public_of rest) _ (λ s f.
        (e ∙ (λ i. identifier (word {y = codes "pub"} c i) ∷ some_on (λ s. rest ≡ public_name s ∷ []) (public_of rest) s f (public_on rest) i), λ z r. tt))) (λ _.
        if_on (IsRule ws) (bytes_eq x (codes "fresh")) _ _ (λ c. given_on (IsRule ws) (fresh_of rest) _ (λ n f.
        (e ∙ (λ i. identifier (word {y = codes "fresh"} c i) ∷ some_on (λ n. rest ≡ fresh_name n ∷ []) (fresh_of rest) n f (fresh_on rest) i), λ z r. tt))) (λ _.
        given_on (IsRule ws) (number_of rest) _ (λ n f.
        let whole : ws ≡ identifier x ∷ number n ∷ [] = e ∙ ap (λ y. identifier x ∷ y) (some_on (λ n. rest ≡ number n ∷ []) (number_of rest) n f (one_number_on rest)) in
        let is : (y : List ℕ) → bytes_eq x y ≡ true → ws ≡ plain y (n ∷ []) = λ y c. whole ∙ ap (λ u. plain u (n ∷ [])) (same_bytes c) in
        if_on (IsRule ws) (bytes_eq x (codes "learn")) _ _ (λ c. (is (codes "learn") c, λ z r. tt)) (λ _.
        if_on (IsRule ws) (bytes_eq x (codes "own")) _ _ (λ c. (is (codes "own") c, λ z r. tt)) (λ _.
        if_on (IsRule ws) (bytes_eq x (codes "know")) _ _ (λ c. (is (codes "know") c, λ z r. tt)) (λ _. tt))))))))

pub process_on : (ws : List LineWord) → OnSome (IsProcess ws) (process_step_of ws)
unfolding process_step_of
process_on ws = given_on (IsProcess ws) (word_first ws) _ (λ p f.
    process_named_on p.0 ws p.1 (some_on (λ (p : List ℕ × List LineWord). ws ≡ identifier p.0 ∷ p.1) (word_first ws) p f (word_first_on ws)))

pub rule_on : (ws : List LineWord) → OnSome (IsRule ws) (rule_step_of ws)
unfolding rule_step_of
rule_on ws = given_on (IsRule ws) (word_first ws) _ (λ p f.
    rule_named_on p.0 ws p.1 (some_on (λ (p : List ℕ × List LineWord). ws ≡ identifier p.0 ∷ p.1) (word_first ws) p f (word_first_on ws)))

-- each step is that of its words
first_back : (fs : List ℕ) (bs : List Binding) → numbers_first (use_words fs bs) ≡ fs
first_back [] [] = refl
first_back [] (b ∷ bs) = refl
first_back (f ∷ fs) bs = ap (λ y. f ∷ y) (first_back fs bs)

behind_back : (fs : List ℕ) (bs : List Binding) → behind_numbers (use_words fs bs) ≡ with_words bs
behind_back [] [] = refl
behind_back [] (b ∷ bs) = refl
behind_back (f ∷ fs) bs = behind_back fs bs

numbers_back : (ks : List ℕ) → numbers_of (map number ks) ≡ Some ks
numbers_back ks = rw (first ks, none ks) refl where
  first : (ks : List ℕ) → numbers_first (map number ks) ≡ ks
  first [] = refl
  first (k ∷ ks) = ap (λ y. k ∷ y) (first ks)

  none : (ks : List ℕ) → behind_numbers (map number ks) ≡ []
  none [] = refl
  none (k ∷ ks) = none ks

bindings_onto_back : (bs ts : List Binding) → bindings_onto bs (map bound_word ts) ≡ Some (bs ++ ts)
unfolding bindings_onto given
bindings_onto_back bs [] = ap Some (sym (append-nil bs))
bindings_onto_back bs (t ∷ ts) =
    ap (λ y. bindings_onto (bs ++ y ∷ []) (map bound_word ts)) (binding_again t) ∙ (bindings_onto_back (bs ++ t ∷ []) ts ∙ ap Some (append_assoc bs (t ∷ []) ts))

bindings_back : (bs : List Binding) → bindings_of (map bound_word bs) ≡ Some bs
bindings_back bs = bindings_onto_back [] bs

with_back : (bs : List Binding) → with_of (with_words bs) ≡ Some bs
with_back [] = refl
with_back (b ∷ bs) = bindings_back (b ∷ bs)

uses_back : (fs : List ℕ) (bs : List Binding) → uses_of (use_words fs bs) ≡ Some (fs, bs)
unfolding uses_of given
uses_back fs bs = rw (behind_back fs bs, first_back fs bs, with_back bs) refl

applied_back : (f ks : List ℕ) → IsRunName f → applied_of (identifier f ∷ map number ks) ≡ Some (f, ks)
unfolding applied_of given
applied_back f ks n = rw (short_run_name f n, numbers_back ks) refl

named_back : (x fs : List ℕ) (bs : List Binding) → IsRunName x → named_of (identifier x ∷ use_words fs bs) ≡ Some (x, fs, bs)
unfolding named_of given
named_back x fs bs n = rw (short_run_name x n, uses_back fs bs) refl

pub process_back : (s : PStep) → NamesSymbol s → process_step_of (process_words s) ≡ Some s
unfolding process_step_of given
process_back (step.Nil t) n = refl
process_back (step.Par t) n = refl
process_back (step.Rep t) n = refl
process_back (step.New t k) n = refl
process_back (step.Out t) n = refl
process_back (step.Send t k) n = refl
process_back (step.In t k) n = refl
process_back (step.Sync s r) n = refl
process_back (step.Then t) n = refl
process_back (step.Else t) n = refl
process_back (step.Event t) n = refl
process_back (step.Insert t) n = refl
process_back (step.Delete t) n = refl
process_back (step.Found t) n = refl
process_back (step.Missing t) n = refl
process_back (step.Lock t) n = refl
process_back (step.Unlock t) n = refl
process_back (step.Embedded t facts bindings) n = rw (uses_back facts bindings) refl
process_back (step.Name k) n = refl
process_back (step.Public a) n = refl
process_back (step.Apply f entries) n = rw (applied_back f entries n) refl
process_back (step.Know k) n = refl

pub rule_back : (s : RStep) → NamesRule s → rule_step_of (rule_words s) ≡ Some s
unfolding rule_step_of given
rule_back (rstep.Fresh k) n = refl
rule_back (rstep.Learn f) n = refl
rule_back (rstep.Own f) n = refl
rule_back (rstep.Public a) n = refl
rule_back (rstep.Apply f entries) n = rw (applied_back f entries n) refl
rule_back (rstep.Know k) n = refl
rule_back (rstep.Rule name facts bindings) n = rw (named_back name facts bindings n) refl
