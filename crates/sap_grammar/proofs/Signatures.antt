-- What is spelled doesn't depend on the signature, but for which identifiers are constants.
use Rattle.std.proofs.Common.{◌≡◌, ◌≤◌, ◌+◌, ℕ, Bool, true, false, List, [], ◌∷◌, refl, sym, ap, subst, ◌∙◌}
use Rattle.std.specs.Prelude.{if◌then◌else◌}
use Rattle.std.proofs.lemmas.List.Elements.{All-cons, All-head, All-tail}
use Rattle.sap_terms.specs.declared.fact.Fact.{Fact}
use Rattle.sap_terms.specs.declared.var.Sort.TheVariants.{Msg, Fresh, Pub}
use Rattle.sap_terms.specs.Tree.{Tree, apply, none, public, trees_of, level_count, trees_levels, node_count, trees_count}
use Rattle.sap_terms.specs.Signature.{Sig, arity_of}
use Rattle.sap_grammar.specs.declared.limits.Limits.{Limits}
use Rattle.sap_grammar.specs.Words.{Word}
use Rattle.sap_grammar.specs.Sizes.{AtMost, IsSmall, AreSmall}
use Rattle.sap_grammar.specs.TermGrammar.{IsTerm, IsRest, IsList, IsArgs, IsShort, sorted, pair, args_none, args_some, list_last, list_more, rest_last, rest_more, term_constant, term_fresh, term_message, term_pub, term_quoted, term_symbol, term_tuple}
use Rattle.sap_grammar.specs.FactGrammar.{IsFact, IsShortFact, AreSomeFacts, AreFacts, fact, fact_levels, fact_linear, fact_persistent, facts_last, facts_more, facts_none, facts_some}
use Rattle.sap_grammar.specs.TermReading.{is_no_arity, plain}
use Rattle.sap_grammar.proofs.Sound.{plain_is}

-- an identifier without sign is a leaf
module _ (measure : Tree → ℕ) (x : List ℕ) (at_constant : measure (apply x none) ≡ 1) (at_variable : measure (sorted Msg x) ≡ 1) where
  plain_leaf : (g : Sig) → measure (plain g x) ≡ 1
  plain_leaf g = by_test (is_no_arity (arity_of g x))
    where
      by_test : (b : Bool) → measure (if b then apply x none else sorted Msg x) ≡ 1
      by_test true = at_constant
      by_test false = at_variable

-- a term as large is as small
small_too : (m : Limits) (t u : Tree) → level_count u ≡ level_count t → node_count u ≡ node_count t → IsSmall m t → IsSmall m u
small_too m t u levels nodes s = record {
  few_levels = subst (λ (n : ℕ). n ≤ m.term_levels) (sym levels) s.few_levels;
  few_nodes = subst (AtMost m.term_nodes) (sym nodes) s.few_nodes;
}

module _ (h : Sig) where
  -- another term as large is spelled by the same words under this signature
  record Too (Spells : Tree → List Word → List Word → Type 0) (t : Tree) (a b : List Word) : Type 0 where
    value : Tree
    spelled : Spells value a b
    same_levels : level_count value ≡ level_count t
    same_nodes : node_count value ≡ node_count t

  -- other terms as large, one by one and together
  record ListToo (Spells : List Tree → List Word → List Word → Type 0) (ts : List Tree) (a b : List Word) : Type 0 where
    values : List Tree
    spelled : Spells values a b
    same_levels : trees_levels (trees_of values) ≡ trees_levels (trees_of ts)
    same_nodes : trees_count (trees_of values) ≡ trees_count (trees_of ts)
    small : (m : Limits) → AreSmall m ts → AreSmall m values

  one_too : (t u : Tree) (ts us : List Tree) → level_count u ≡ level_count t → node_count u ≡ node_count t
      → ((m : Limits) → AreSmall m ts → AreSmall m us) → (m : Limits) → AreSmall m (t ∷ ts) → AreSmall m (u ∷ us)
  one_too t u ts us levels nodes more m s =
      All-cons (IsSmall m) u us (small_too m t u levels nodes (All-head (IsSmall m) t ts s)) (more m (All-tail (IsSmall m) t ts s))

  mutual
    term_too : {g : Sig} {t : Tree} {a b : List Word} → IsTerm g t a b → Too (IsTerm h) t a b
    term_too (term_constant {x = x} {a = a} is) = record { value = plain h x; spelled = plain_is h x a; same_levels = plain_leaf level_count x refl refl h; same_nodes = plain_leaf node_count x refl refl h }
    term_too (term_message {x = x} {a = a} is) = record { value = plain h x; spelled = plain_is h x a; same_levels = plain_leaf level_count x refl refl h; same_nodes = plain_leaf node_count x refl refl h }
    term_too (term_fresh {x = x}) = record { value = sorted Fresh x; spelled = term_fresh; same_levels = refl; same_nodes = refl }
    term_too (term_pub {x = x}) = record { value = sorted Pub x; spelled = term_pub; same_levels = refl; same_nodes = refl }
    term_too (term_quoted {s = s}) = record { value = public s; spelled = term_quoted; same_levels = refl; same_nodes = refl }
    term_too (term_symbol {f = f} low r) =
        let us = args_too r in
        record { value = apply f (trees_of us.values); spelled = term_symbol low us.spelled; same_levels = ap (λ (n : ℕ). n + 1) us.same_levels; same_nodes = ap (λ (n : ℕ). n + 1) us.same_nodes }
    term_too (term_tuple r s) =
        let u = term_too r in
        let v = rest_too s in
        record { value = pair u.value v.value; spelled = term_tuple u.spelled v.spelled; same_levels = rw (u.same_levels, v.same_levels) refl; same_nodes = rw (u.same_nodes, v.same_nodes) refl }

    rest_too : {g : Sig} {t : Tree} {a b : List Word} → IsRest g t a b → Too (IsRest h) t a b
    rest_too (rest_last r) = let u = term_too r in record { value = u.value; spelled = rest_last u.spelled; same_levels = u.same_levels; same_nodes = u.same_nodes }
    rest_too (rest_more r s) =
        let u = term_too r in
        let v = rest_too s in
        record { value = pair u.value v.value; spelled = rest_more u.spelled v.spelled; same_levels = rw (u.same_levels, v.same_levels) refl; same_nodes = rw (u.same_nodes, v.same_nodes) refl }

    list_too : {g : Sig} {ts : List Tree} {a b : List Word} → IsList g ts a b → ListToo (IsList h) ts a b
    list_too (list_last {t = t} r) =
        let u = term_too r in
        record {
          values = u.value ∷ [];
          spelled = list_last u.spelled;
          same_levels = rw u.same_levels refl;
          same_nodes = rw u.same_nodes refl;
          small = one_too t u.value [] [] u.same_levels u.same_nodes (λ m s. s);
        }
    list_too (list_more {t = t} {ts = ts} r s) =
        let u = term_too r in
        let v = list_too s in
        record {
          values = u.value ∷ v.values;
          spelled = list_more u.spelled v.spelled;
          same_levels = rw (u.same_levels, v.same_levels) refl;
          same_nodes = rw (u.same_nodes, v.same_nodes) refl;
          small = one_too t u.value ts v.values u.same_levels u.same_nodes v.small;
        }

    args_too : {g : Sig} {ts : List Tree} {a b : List Word} → IsArgs g ts a b → ListToo (IsArgs h) ts a b
    args_too args_none = record { values = []; spelled = args_none; same_levels = refl; same_nodes = refl; small = λ m s. s }
    args_too (args_some r) =
        let us = list_too r in
        record { values = us.values; spelled = args_some us.spelled; same_levels = us.same_levels; same_nodes = us.same_nodes; small = us.small }

  -- a fact on as large terms, persistent as this one
  record FactToo (f : Fact) (a b : List Word) : Type 0 where
    value : Fact
    spelled : IsFact h value a b
    same_levels : fact_levels value ≡ fact_levels f
    same_sign : value.persistent ≡ f.persistent
    small : (m : Limits) → AreSmall m f.args → AreSmall m value.args

  fact_too : {g : Sig} {f : Fact} {a b : List Word} → IsFact g f a b → FactToo f a b
  fact_too (fact_linear {f = f} up r) =
      let us = args_too r in record { value = fact false f us.values; spelled = fact_linear up us.spelled; same_levels = us.same_levels; same_sign = refl; small = us.small }
  fact_too (fact_persistent {f = f} up r) =
      let us = args_too r in record { value = fact true f us.values; spelled = fact_persistent up us.spelled; same_levels = us.same_levels; same_sign = refl; small = us.small }

  short_fact_too : {g : Sig} {m : Limits} {s : Bool} {f : Fact} {a b : List Word} → IsShortFact g m s f a b → (u : Fact) × IsShortFact h m s u a b
  short_fact_too {m = m} r =
      let u = fact_too r.spelled in
      (u.value, record { spelled = u.spelled; small = u.small m r.small; sign = λ e. r.sign (sym u.same_sign ∙ e) })

  some_facts_too : {g : Sig} {m : Limits} {s : Bool} {w : List ℕ} {fs : List Fact} {a b : List Word} → AreSomeFacts g m s w fs a b → (us : List Fact) × AreSomeFacts h m s w us a b
  some_facts_too (facts_last r) = let u = short_fact_too r in (u.0 ∷ [], facts_last u.1)
  some_facts_too (facts_more r s) = let u = short_fact_too r in let us = some_facts_too s in (u.0 ∷ us.0, facts_more u.1 us.1)

  facts_too : {g : Sig} {m : Limits} {s : Bool} {w : List ℕ} {fs : List Fact} {a b : List Word} → AreFacts g m s w fs a b → (us : List Fact) × AreFacts h m s w us a b
  facts_too facts_none = ([], facts_none)
  facts_too (facts_some r) = let us = some_facts_too r in (us.0, facts_some us.1)

-- a term, a fact, some facts: the same words spell one under each signature
pub any_term : (g h : Sig) (t : Tree) (a b : List Word) → IsTerm g t a b → (u : Tree) × IsTerm h u a b × (level_count u ≡ level_count t) × (node_count u ≡ node_count t)
any_term g h t a b r = let u = term_too h r in (u.value, u.spelled, u.same_levels, u.same_nodes)

pub any_fact : (g h : Sig) (f : Fact) (a b : List Word) → IsFact g f a b → (u : Fact) × IsFact h u a b × (fact_levels u ≡ fact_levels f) × (u.persistent ≡ f.persistent)
any_fact g h f a b r = let u = fact_too h r in (u.value, u.spelled, u.same_levels, u.same_sign)

pub any_short_term : (g h : Sig) (m : Limits) (t : Tree) (a b : List Word) → IsShort g m t a b → (u : Tree) × IsShort h m u a b
any_short_term g h m t a b r =
    let u = term_too h r.spelled in (u.value, record { spelled = u.spelled; small = small_too m t u.value u.same_levels u.same_nodes r.small })

pub any_short_fact : (g h : Sig) (m : Limits) (s : Bool) (f : Fact) (a b : List Word) → IsShortFact g m s f a b → (u : Fact) × IsShortFact h m s u a b
any_short_fact g h m s f a b r = short_fact_too h r

pub any_facts : (g h : Sig) (m : Limits) (s : Bool) (w : List ℕ) (fs : List Fact) (a b : List Word) → AreFacts g m s w fs a b → (us : List Fact) × AreFacts h m s w us a b
any_facts g h m s w fs a b r = facts_too h r
