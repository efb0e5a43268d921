-- What can be printed under a signature can be under one that holds the same; and what printed items declare.
use Rattle.std.proofs.Common.{◌≡◌, ℕ, List, [], ◌∷◌, ◌++◌, refl, sym, ap, ◌∙◌}
use Rattle.std.specs.Prelude.{map}
use Rattle.std.proofs.lemmas.List.{append-nil}
use Rattle.sap_terms.specs.declared.fact.Fact.{Fact}
use Rattle.sap_terms.specs.declared.signature.Symbol.{Symbol}
use Rattle.sap_terms.specs.declared.signature.Builtin.{Builtin}
use Rattle.sap_terms.specs.declared.var.Sort.{Sort}
use Rattle.sap_terms.specs.declared.var.Sort.TheVariants.{Msg, Fresh, Pub}
use Rattle.sap_terms.specs.Tree.{Tree, variable, public, fresh, apply, Trees, none, more, trees_of}
use Rattle.sap_terms.specs.Signature.{Sig, arity_of}
use Rattle.sap_formula.specs.Form.{Form, RestrictionForm, LemmaForm, truth, falsity, action, equal, same_time, earlier, negation, both, either, implies, equivalent, every, exists}
use Rattle.sap_rule.specs.declared.rule.Rule.{Rule}
use Rattle.sap_rule.specs.declared.theory.Theory.{Theory}
use Rattle.sap_grammar.specs.Declarations.{Declaration, of_builtin, of_symbol}
use Rattle.sap_grammar.specs.Items.{Standing}
use Rattle.sap_grammar.specs.Printable.{IsTidy, IsTidyVariable, IsTidyUse, AreTidy, IsTidyFact}
use Rattle.sap_statements.specs.declared.statement.Statement.TheVariants.{Restriction as restriction, Lemma as lemma}
use Rattle.sap_statements.specs.Printable.{IsTidyForm}
use Rattle.sap_theory.specs.SignatureText.{builtins_of, functions_of}
use Rattle.sap_theory.specs.TheoryGrammar.{TheoryItem, builtins, functions, rule, statement, declared_by, declarations, items_of}
use Rattle.sap_theory.proofs.ItemWords.{item_of, as_restriction, as_lemma, printed_items}
use Rattle.sap_theory.proofs.PrintedItems.{AreTidyFacts, IsTidyItem, AllTidy}
use Rattle.sap_theory.proofs.Declared.{declarations_of}

module _ (g h : Sig) (same : (x : List ℕ) → arity_of g x ≡ arity_of h x) where
  variable_moves : (s : Sort) (x : List ℕ) → IsTidyVariable g s x → IsTidyVariable h s x
  variable_moves Msg x free = λ c. free (same x ∙ c)
  variable_moves Fresh x free = tt
  variable_moves Pub x free = tt

  use_moves : (f : List ℕ) (ts : Trees) → IsTidyUse g f ts → IsTidyUse h f ts
  use_moves f none is = sym (same f) ∙ is
  use_moves f (more t ts) is = is

  mutual
    tidy_moves : (t : Tree) → IsTidy g t → IsTidy h t
    tidy_moves (variable v) is = variable_moves v.sort v.name is
    tidy_moves (public n) is = is
    tidy_moves (fresh i) is = is
    tidy_moves (apply f ts) is = (use_moves f ts is.0, all_move ts is.1)

    all_move : (ts : Trees) → AreTidy g ts → AreTidy h ts
    all_move none is = tt
    all_move (more t ts) is = (tidy_moves t is.0, all_move ts is.1)

  pub fact_moves : (f : Fact) → IsTidyFact g f → IsTidyFact h f
  fact_moves f is = (is.0, all_move (trees_of f.args) is.1)

  pub form_moves : (f : Form) → IsTidyForm g f → IsTidyForm h f
  form_moves truth is = is
  form_moves falsity is = is
  form_moves (action f i) is = (is.0, fact_moves f is.1)
  form_moves (equal t u) is = (is.0, tidy_moves t is.1, tidy_moves u is.2)
  form_moves (same_time i j) is = is
  form_moves (earlier i j) is = is
  form_moves (negation f) is = form_moves f is
  form_moves (both f k) is = (form_moves f is.0, form_moves k is.1)
  form_moves (either f k) is = (form_moves f is.0, form_moves k is.1)
  form_moves (implies f k) is = (form_moves f is.0, form_moves k is.1)
  form_moves (equivalent f k) is = (form_moves f is.0, form_moves k is.1)
  form_moves (every vs f) is = (is.0, form_moves f is.1)
  form_moves (exists vs f) is = (is.0, form_moves f is.1)

  facts_move : (fs : List Fact) → AreTidyFacts g fs → AreTidyFacts h fs
  facts_move [] is = tt
  facts_move (f ∷ fs) is = (fact_moves f is.0, facts_move fs is.1)

  item_moves : (v : TheoryItem) → IsTidyItem g v → IsTidyItem h v
  item_moves (builtins bs) is = is
  item_moves (functions ss) is = is
  item_moves (rule r) is = (facts_move r.left is.0, facts_move r.acts is.1, facts_move r.right is.2)
  item_moves (statement (restriction r)) is = (form_moves r.formula is.0, is.1)
  item_moves (statement (lemma l)) is = (is.0, form_moves l.formula is.1, is.2)

  pub items_move : (vs : List TheoryItem) → AllTidy g vs → AllTidy h vs
  items_move [] is = tt
  items_move (v ∷ vs) is = (item_moves v is.0, items_move vs is.1)

-- What printed items declare.
abbrev pub all_declared : List TheoryItem → List Declaration
all_declared [] = []
all_declared (v ∷ vs) = declared_by v ++ all_declared vs

pub declared_are : (is : List (Standing TheoryItem)) → declarations is ≡ all_declared (items_of is)
declared_are [] = refl
declared_are (i ∷ is) = ap (λ (ds : List Declaration). declared_by i.item ++ ds) (declared_are is)

builtins_declare : (bs : List Builtin) (vs : List TheoryItem) → all_declared (item_of builtins bs ++ vs) ≡ map of_builtin bs ++ all_declared vs
builtins_declare [] vs = refl
builtins_declare (b ∷ bs) vs = refl

functions_declare : (ss : List Symbol) (vs : List TheoryItem) → all_declared (item_of functions ss ++ vs) ≡ map of_symbol ss ++ all_declared vs
functions_declare [] vs = refl
functions_declare (s ∷ ss) vs = refl

nothing_declared : (rs : List Rule) (ss : List RestrictionForm) (ls : List LemmaForm) → all_declared (map rule rs ++ (map as_restriction ss ++ map as_lemma ls)) ≡ []
nothing_declared [] [] [] = refl
nothing_declared [] [] (l ∷ ls) = nothing_declared [] [] ls
nothing_declared [] (s ∷ ss) ls = nothing_declared [] ss ls
nothing_declared (r ∷ rs) ss ls = nothing_declared rs ss ls

pub printed_declare : (t : Theory) → all_declared (printed_items t) ≡ declarations_of t.signature
printed_declare t =
    builtins_declare (builtins_of t.signature) (item_of functions (functions_of t.signature) ++ (map rule t.rules ++ (map as_restriction t.restrictions ++ map as_lemma t.lemmas)))
    ∙ ap (λ (ds : List Declaration). map of_builtin (builtins_of t.signature) ++ ds)
    (functions_declare (functions_of t.signature) (map rule t.rules ++ (map as_restriction t.restrictions ++ map as_lemma t.lemmas))
    ∙ (ap (λ (ds : List Declaration). map of_symbol (functions_of t.signature) ++ ds) (nothing_declared t.rules t.restrictions t.lemmas)
    ∙ append-nil (map of_symbol (functions_of t.signature))))
