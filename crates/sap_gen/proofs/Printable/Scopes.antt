-- The variables in scope can be printed, and so can facts on what can be printed.
use Rattle.std.proofs.Common.{◌≡◌, ◌≤◌, ◌<◌, ◌^◌, ℕ, Bool, true, false, List, [], ◌∷◌, ◌++◌, length, map, if◌then◌else◌, refl, subst, arith}
use Rattle.std.specs.List.{list_all}
use Rattle.std.specs.Prelude.{All}
use Rattle.std.proofs.lemmas.List.Elements.{All-nil, All-cons, All-head, All-tail}
use Rattle.sap_terms.specs.AdversaryFacts.{linear}
use Rattle.sap_terms.specs.FactNames.{state_prefix, semi_prefix}
use Rattle.sap_terms.specs.Signature.{Sig}
use Rattle.sap_terms.specs.Tree.{Tree, variable, public, fresh, apply, Trees, none, more, trees_of}
use Rattle.sap_terms.specs.Variables.{tree_vars, trees_vars, facts_vars, is_known, new_vars}
use Rattle.sap_terms.specs.declared.fact.Fact.{Fact}
use Rattle.sap_terms.specs.declared.var.Sort.{Sort}
use Rattle.sap_terms.specs.declared.var.Sort.TheVariants.{Msg}
use Rattle.sap_terms.specs.declared.var.Var.{Var}
use Rattle.sap_formula.specs.Truth.{EachIn}
use Rattle.sap_process.specs.Action as action
use Rattle.sap_process.specs.Action.{Action}
use Rattle.sap_process.specs.Sites.{fresh_var, message_var, var_names}
use Rattle.sap_process.specs.Scopes.{lock_var, scope_behind, with_new}
use Rattle.sap_place.specs.StateFacts.{digits, copies_fact, waits_fact, tag}
use Rattle.sap_text.specs.Tokens.{is_word}
use Rattle.sap_grammar.specs.Words.{is_grammar_word, is_upper}
use Rattle.sap_grammar.specs.ByteWords.{IsName}
use Rattle.sap_grammar.specs.Printable.{IsTidy, IsTidyVariable, AreTidy, HasNames, HaveNames, IsPrintableTerm, IsPrintableFact}
use Rattle.sap_read.specs.Printable.{IsPrintableAct, IsPrintableAction}
use Rattle.sap_translate.specs.Settled.{HasSmallLabel}
use Rattle.sap_templates.specs.Templates.{state}
use Rattle.sap_gen.proofs.Lists.{each_both}
use Rattle.sap_gen.proofs.Printable.Names.{HasDigits, begins_letter, letters_name, placed_name, lock_name}

-- lists by their items

pub all_of_each : {A : Type 0} (P : A → Type 0) (xs : List A) → EachIn P xs → All P xs
all_of_each P [] h = All-nil P
all_of_each P (x ∷ xs) h = All-cons P x xs h.0 (all_of_each P xs h.1)

pub each_of_all : {A : Type 0} (P : A → Type 0) (xs : List A) → All P xs → EachIn P xs
each_of_all P [] h = tt
each_of_all P (x ∷ xs) h = (All-head P x xs h, each_of_all P xs (All-tail P x xs h))

-- what some of these are taken from has the property, and so have they
new_each : (P : Var → Type 0) (known : List (List ℕ)) (vs : List Var) → EachIn P vs → EachIn P (new_vars known vs)
new_each P known [] h = tt
new_each P known (v ∷ vs) h = go (is_known known v.name) (new_each P known vs h.1) (h.0, new_each P (known ++ v.name ∷ []) vs h.1)
  where
    go : (b : Bool) → EachIn P (new_vars known vs) → EachIn P (v ∷ new_vars (known ++ v.name ∷ []) vs) → EachIn P (if b then new_vars known vs else v ∷ new_vars (known ++ v.name ∷ []) vs)
    go true h k = h
    go false h k = k

-- a path is one of a process that isn't too deep
pub record IsPath (path : List ℕ) : Type 0 where
  pub digits : HasDigits path
  pub short : length path ≤ 301

module _ (most : ℕ) (room : 330 ≤ most) (g : Sig) where
  -- the variable can be printed
  abbrev pub IsShown : Var → Type 0
  IsShown x = IsPrintableTerm most g (variable x)

  -- each variable can
  abbrev pub AreShown : List Var → Type 0
  AreShown v = EachIn IsShown v

  -- the arguments of a fact can be printed
  pub record AreArgs (ts : List Tree) : Type 0 where
    pub tidy : AreTidy g (trees_of ts)
    pub names : HaveNames most (trees_of ts)

  pub no_args : AreArgs []
  no_args = record { tidy = tt; names = tt }

  pub args_more : (t : Tree) (ts : List Tree) → IsPrintableTerm most g t → AreArgs ts → AreArgs (t ∷ ts)
  args_more t ts h k = record { tidy = (h.tidy, k.tidy); names = (h.names, k.names) }

  pub one_arg : (t : Tree) → IsPrintableTerm most g t → AreArgs (t ∷ [])
  one_arg t h = args_more t [] h no_args

  pub two_args : (t u : Tree) → IsPrintableTerm most g t → IsPrintableTerm most g u → AreArgs (t ∷ u ∷ [])
  two_args t u h k = args_more t (u ∷ []) h (one_arg u k)

  pub vars_args : (v : List Var) → AreShown v → AreArgs (map variable v)
  vars_args [] h = no_args
  vars_args (x ∷ v) h = args_more (variable x) (map variable v) h.0 (vars_args v h.1)

  pub tagged_args : (v : List Var) → AreShown v → IsShown tag → AreArgs (map variable v ++ variable tag ∷ [])
  tagged_args [] h k = one_arg (variable tag) k
  tagged_args (x ∷ v) h k = args_more (variable x) (map variable v ++ variable tag ∷ []) h.0 (tagged_args v h.1 k)

  -- variables that rules add

  pub fresh_shown : (x : Var) → IsShown x → IsShown (fresh_var x)
  fresh_shown x h = record { tidy = tt; names = h.names }

  pub message_shown : (x : Var) → x.sort ≡ Msg → IsShown x → IsShown (message_var x)
  message_shown x e h = record { tidy = subst (λ (s : Sort). IsTidyVariable g s x.name) e h.tidy; names = h.names }

  pub tag_shown : IsShown tag
  tag_shown = record { tidy = tt; names = letters_name most tag.name refl refl refl (omega (arith, room)) }

  pub lock_shown : (n : ℕ) → n < 2 ^ 64 → IsShown (lock_var n)
  lock_shown n small = record { tidy = tt; names = lock_name most n small (omega (arith, room)) }

  -- variables of terms and facts

  mutual
    tree_shown : (t : Tree) → IsTidy g t → HasNames most t → AreShown (tree_vars t)
    tree_shown (variable x) h k = (record { tidy = h; names = k }, tt)
    tree_shown (public n) h k = tt
    tree_shown (fresh n) h k = tt
    tree_shown (apply f ts) h k = trees_shown ts h.1 k.1

    trees_shown : (ts : Trees) → AreTidy g ts → HaveNames most ts → AreShown (trees_vars ts)
    trees_shown none h k = tt
    trees_shown (more t ts) h k = each_both IsShown (tree_vars t) (trees_vars ts) (tree_shown t h.0 k.0) (trees_shown ts h.1 k.1)

  facts_shown : (fs : List Fact) → EachIn (IsPrintableFact most g) fs → AreShown (facts_vars fs)
  facts_shown [] h = tt
  facts_shown (f ∷ fs) h = each_both IsShown (trees_vars (trees_of f.args)) (facts_vars fs) (trees_shown (trees_of f.args) h.0.tidy.1 h.0.names.1) (facts_shown fs h.1)

  pub printed_acts : (fs : List Fact) → EachIn (IsPrintableAct most g) fs → EachIn (IsPrintableFact most g) fs
  printed_acts [] h = tt
  printed_acts (f ∷ fs) h = (h.0.printable, printed_acts fs h.1)

  -- scopes

  new_shown : (v ws : List Var) → AreShown v → AreShown ws → AreShown (with_new v ws)
  new_shown v ws h k = each_both IsShown v (new_vars (var_names v) ws) h (new_each IsShown (var_names v) ws k)

  rule_facts : (l e r : List Fact) → All (IsPrintableFact most g) l → All (IsPrintableAct most g) e → All (IsPrintableFact most g) r → EachIn (IsPrintableFact most g) (l ++ (e ++ r))
  rule_facts l e r h j k =
      each_both (IsPrintableFact most g) l (e ++ r) (each_of_all (IsPrintableFact most g) l h)
      (each_both (IsPrintableFact most g) e r (printed_acts e (each_of_all (IsPrintableAct most g) e j)) (each_of_all (IsPrintableFact most g) r k))

  last_shown : (v : List Var) (x : Var) → AreShown v → IsShown x → AreShown (v ++ x ∷ [])
  last_shown v x h k = each_both IsShown v (x ∷ []) h (k, tt)

  pub tree_scope : (v : List Var) (t : Tree) → AreShown v → IsPrintableTerm most g t → AreShown (with_new v (tree_vars t))
  tree_scope v t h k = new_shown v (tree_vars t) h (tree_shown t k.tidy k.names)

  pub scope_shown : (v : List Var) (a : Action) → AreShown v → IsPrintableAction most g a → HasSmallLabel a → AreShown (scope_behind v a)
  scope_shown v (action.new x) h k few = last_shown v (fresh_var x) h (fresh_shown x k)
  scope_shown v (action.out t) h k few = h
  scope_shown v (action.send t u) h k few = h
  scope_shown v (action.input t) h k few = tree_scope v t h k
  scope_shown v (action.receive t u) h k few = tree_scope v u h k.1
  scope_shown v (action.event f) h k few = h
  scope_shown v (action.insert t u) h k few = h
  scope_shown v (action.delete t) h k few = h
  scope_shown v (action.lock t l) h k few = last_shown v (lock_var l) h (lock_shown l few)
  scope_shown v (action.unlock t l) h k few = h
  scope_shown v (action.embedded l e r) h k few = new_shown v (facts_vars (l ++ (e ++ r))) h (facts_shown (l ++ (e ++ r)) (rule_facts l e r k.0 k.1 k.2))

  -- facts of rules

  pub fact_printed : (name : List ℕ) (lasting : Bool) (ts : List Tree) → is_upper name ≡ true → IsName most name → AreArgs ts → IsPrintableFact most g (record { name = name; persistent = lasting; args = ts })
  fact_printed name lasting ts upper is h = record { tidy = (upper, h.tidy); names = (is, h.names) }

  -- one whose name is a word
  pub word_printed : (name : List ℕ) (ts : List Tree) → is_upper name ≡ true → begins_letter name ≡ true → list_all is_word name ≡ true → is_grammar_word name ≡ false → length name ≤ 30 → AreArgs ts → IsPrintableFact most g (linear name ts)
  word_printed name ts upper letter words plain short h = fact_printed name false ts upper (letters_name most name letter words plain (omega (arith, short, room))) h

  pub word_act : (name : List ℕ) (ts : List Tree) → is_upper name ≡ true → begins_letter name ≡ true → list_all is_word name ≡ true → is_grammar_word name ≡ false → length name ≤ 30 → AreArgs ts → IsPrintableAct most g (linear name ts)
  word_act name ts upper letter words plain short h = record { printable = word_printed name ts upper letter words plain short h; linear = refl }

  pub state_printed : (path : List ℕ) (v : List Var) → IsPath path → AreShown v → IsPrintableFact most g (state path v)
  state_printed path v p h = fact_printed (state_prefix ++ digits path) false (map variable v) refl (placed_name most state_prefix path refl refl refl p.digits (omega (arith, p.short, room))) (vars_args v h)

  semi_name : (path : List ℕ) → IsPath path → IsName most (semi_prefix ++ digits path)
  semi_name path p = placed_name most semi_prefix path refl refl refl p.digits (omega (arith, p.short, room))

  pub copies_printed : (path : List ℕ) (v : List Var) → IsPath path → AreShown v → IsPrintableFact most g (copies_fact path (map variable v))
  copies_printed path v p h = fact_printed (semi_prefix ++ digits path) true (map variable v) refl (semi_name path p) (vars_args v h)

  pub waits_printed : (path : List ℕ) (v : List Var) → IsPath path → AreShown v → IsPrintableFact most g (waits_fact path (map variable v ++ variable tag ∷ []))
  waits_printed path v p h = fact_printed (semi_prefix ++ digits path) false (map variable v ++ variable tag ∷ []) refl (semi_name path p) (tagged_args v h tag_shown)
