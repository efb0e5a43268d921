-- The rules of a place can be printed, and show linear facts alone.
use Rattle.std.proofs.Common.{◌≡◌, ◌≤◌, ℕ, false, true, List, [], ◌∷◌, ◌++◌, length, map, refl, arith}
use Rattle.std.specs.List.{list_all}
use Rattle.std.specs.Prelude.{codes}
use Rattle.sap_terms.specs.AdversaryFacts.{in_fact, out_fact}
use Rattle.sap_terms.specs.Equations.{app2, pair_name}
use Rattle.sap_terms.specs.FactNames.{init_name, event_name, in_event_name, eq_name, not_eq_name, insert_name, delete_name, is_in_name, is_not_set_name, lock_name, unlock_name, msg_name, ack_name, fr_name, in_name, out_name}
use Rattle.sap_terms.specs.Signature.{Sig}
use Rattle.sap_terms.specs.Tree.{Tree, variable}
use Rattle.sap_terms.specs.Variables.{tree_vars}
use Rattle.sap_terms.specs.declared.fact.Fact.{Fact}
use Rattle.sap_terms.specs.declared.var.Var.{Var}
use Rattle.sap_formula.specs.Truth.{EachIn}
use Rattle.sap_process.specs.Action as action
use Rattle.sap_process.specs.Action.{Action}
use Rattle.sap_process.specs.Sites.{fresh_var, message_var}
use Rattle.sap_process.specs.Scopes.{lock_var, with_new}
use Rattle.sap_place.specs.StateFacts.{digits, copies_fact, waits_fact, tag}
use Rattle.sap_restrict.specs.ReservedFacts.{event_fact}
use Rattle.sap_rule.specs.declared.rule.Rule.{Rule}
use Rattle.sap_text.specs.Tokens.{is_word}
use Rattle.sap_grammar.specs.Words.{is_grammar_word}
use Rattle.sap_grammar.specs.ByteWords.{IsName}
use Rattle.sap_grammar.specs.Printable.{IsPrintableTerm, IsPrintableFact}
use Rattle.sap_read.specs.Printable.{IsPrintableAct, IsPrintableAction}
use Rattle.sap_templates.specs.ChannelFacts.{fresh_fact, msg_fact, ack_fact}
use Rattle.sap_templates.specs.Templates.{action_rules, embedded_acts, first_of, init_rule, lookup_rules, nil_rules, parallel_rules, replicated_rules, rule, second_of, state, test_rules}
use Rattle.sap_translate.specs.Settled.{HasSmallLabel}
use Rattle.sap_gen.proofs.Lists.{each_both}
use Rattle.sap_gen.proofs.Printable.Names.{begins_letter, letters_name, placed_name}
use Rattle.sap_gen.proofs.Printable.Scopes.{AreArgs, AreShown, IsPath, IsShown, copies_printed, each_of_all, fresh_shown, lock_shown, no_args, one_arg, scope_shown, state_printed, tag_shown, tree_scope, two_args, args_more, waits_printed, word_act, word_printed}

-- the rule's name is one, its facts can be printed, and those that it shows are linear
pub record IsPrintedRule (most : ℕ) (g : Sig) (r : Rule) : Type 0 where
  pub name : IsName most r.name
  pub left : EachIn (IsPrintableFact most g) r.left
  pub acts : EachIn (IsPrintableAct most g) r.acts
  pub right : EachIn (IsPrintableFact most g) r.right

module _ (most : ℕ) (room : 330 ≤ most) (g : Sig) where
  -- so it is with each of these
  abbrev pub ArePrinted : List Rule → Type 0
  ArePrinted rs = EachIn (IsPrintedRule most g) rs

  -- facts of one, two and three arguments

  fr_printed : (x : Var) → IsShown most room g x → IsPrintableFact most g (fresh_fact (variable x))
  fr_printed x h = word_printed most room g fr_name (variable x ∷ []) refl refl refl refl (omega arith) (one_arg most room g (variable x) h)

  out_printed : (t : Tree) → IsPrintableTerm most g t → IsPrintableFact most g (out_fact t)
  out_printed t h = word_printed most room g out_name (t ∷ []) refl refl refl refl (omega arith) (one_arg most room g t h)

  in_printed : (t : Tree) → IsPrintableTerm most g t → IsPrintableFact most g (in_fact t)
  in_printed t h = word_printed most room g in_name (t ∷ []) refl refl refl refl (omega arith) (one_arg most room g t h)

  msg_printed : (t u : Tree) → IsPrintableTerm most g t → IsPrintableTerm most g u → IsPrintableFact most g (msg_fact (variable tag) t u)
  msg_printed t u h k = word_printed most room g msg_name (variable tag ∷ t ∷ u ∷ []) refl refl refl refl (omega arith) (args_more most room g (variable tag) (t ∷ u ∷ []) (tag_shown most room g) (two_args most room g t u h k))

  ack_printed : IsPrintableFact most g (ack_fact (variable tag))
  ack_printed = word_printed most room g ack_name (variable tag ∷ []) refl refl refl refl (omega arith) (one_arg most room g (variable tag) (tag_shown most room g))

  one_act : (name : List ℕ) (t : Tree) → IsPrintableTerm most g t → (AreArgs most room g (t ∷ []) → IsPrintableAct most g (record { name = name; persistent = false; args = t ∷ [] })) → IsPrintableAct most g (record { name = name; persistent = false; args = t ∷ [] })
  one_act name t h make = make (one_arg most room g t h)

  two_act : (name : List ℕ) (t u : Tree) → IsPrintableTerm most g t → IsPrintableTerm most g u → (AreArgs most room g (t ∷ u ∷ []) → IsPrintableAct most g (record { name = name; persistent = false; args = t ∷ u ∷ [] })) → IsPrintableAct most g (record { name = name; persistent = false; args = t ∷ u ∷ [] })
  two_act name t u h k make = make (two_args most room g t u h k)

  event_printed : IsPrintableAct most g event_fact
  event_printed = word_act most room g event_name [] refl refl refl refl (omega arith) (no_args most room g)

  -- a pair of terms that can be printed
  pair_printed : (t u : Tree) → IsPrintableTerm most g t → IsPrintableTerm most g u → IsPrintableTerm most g (app2 pair_name t u)
  pair_printed t u h k = record { tidy = (refl, (h.tidy, (k.tidy, tt))); names = (λ e. letters_name most pair_name refl refl refl (omega (arith, room)), (h.names, (k.names, tt))) }

  embedded_printed : (e : List Fact) → EachIn (IsPrintableAct most g) e → EachIn (IsPrintableAct most g) (embedded_acts e)
  embedded_printed [] h = tt
  embedded_printed (f ∷ fs) h = (event_printed, h)

  module _ (path : List ℕ) (here : IsPath path) (first : IsPath (first_of path)) (v : List Var) (shown : AreShown most room g v) where
    -- a rule of this place
    placed : (word : List ℕ) (left acts right : List Fact) → begins_letter (word ++ digits path) ≡ true → list_all is_word word ≡ true → is_grammar_word (word ++ digits path) ≡ false → length word ≤ 16
        → EachIn (IsPrintableFact most g) left → EachIn (IsPrintableAct most g) acts → EachIn (IsPrintableFact most g) right → IsPrintedRule most g (rule word path left acts right)
    placed word left acts right letter words none short l a r = record {
      name = placed_name most word path letter words none here.digits (omega (arith, short, here.short, room));
      left = l;
      acts = a;
      right = r;
    }

    at : IsPrintableFact most g (state path v)
    at = state_printed most room g path v here shown

    next : (w : List Var) → AreShown most room g w → IsPrintableFact most g (state (first_of path) w)
    next w h = state_printed most room g (first_of path) w first h

    go_on : IsPrintableFact most g (state (first_of path) v)
    go_on = next v shown

    waits : IsPrintableFact most g (waits_fact path (map variable v ++ variable tag ∷ []))
    waits = waits_printed most room g path v here shown

    send_printed : (t u : Tree) → IsPrintableTerm most g t → IsPrintableTerm most g u → ArePrinted (action_rules path v (action.send t u))
    send_printed t u h k = (
      placed (codes "OutAdv_") _ _ _ refl refl refl (omega arith) (at, (in_printed t h, tt)) (one_act in_event_name t h (word_act most room g in_event_name (t ∷ []) refl refl refl refl (omega arith)), tt) (out_printed u k, (go_on, tt)),
      (
        placed (codes "OutMsg_") _ _ _ refl refl refl (omega arith) (at, (fr_printed tag (tag_shown most room g), tt)) tt (msg_printed t u h k, (waits, tt)),
        (placed (codes "OutAck_") _ _ _ refl refl refl (omega arith) (waits, (ack_printed, tt)) tt (go_on, tt), tt),
      ),
    )

    receive_printed : (t u : Tree) → IsPrintableTerm most g t → IsPrintableTerm most g u → ArePrinted (action_rules path v (action.receive t u))
    receive_printed t u h k =
        let both : IsPrintableTerm most g (app2 pair_name t u) = pair_printed t u h k in
        let on : IsPrintableFact most g (state (first_of path) (with_new v (tree_vars u))) = next (with_new v (tree_vars u)) (tree_scope most room g v u shown k) in (
          placed (codes "InAdv_") _ _ _ refl refl refl (omega arith) (at, (in_printed (app2 pair_name t u) both, tt)) (one_act in_event_name (app2 pair_name t u) both (word_act most room g in_event_name (app2 pair_name t u ∷ []) refl refl refl refl (omega arith)), tt) (on, tt),
          (placed (codes "InMsg_") _ _ _ refl refl refl (omega arith) (at, (msg_printed t u h k, tt)) tt (ack_printed, (on, tt)), tt),
        )

    pub action_printed : (a : Action) → IsPrintableAction most g a → HasSmallLabel a → ArePrinted (action_rules path v a)
    action_printed (action.new x) h few = (placed (codes "New_") _ _ _ refl refl refl (omega arith) (at, (fr_printed (fresh_var x) (fresh_shown most room g x h), tt)) tt (next _ (scope_shown most room g v (action.new x) shown h few), tt), tt)
    action_printed (action.out t) h few = (placed (codes "Out_") _ _ _ refl refl refl (omega arith) (at, tt) tt (out_printed t h, (go_on, tt)), tt)
    action_printed (action.send t u) h few = send_printed t u h.0 h.1
    action_printed (action.input t) h few =
        (placed (codes "In_") _ _ _ refl refl refl (omega arith) (at, (in_printed t h, tt)) (one_act in_event_name t h (word_act most room g in_event_name (t ∷ []) refl refl refl refl (omega arith)), tt) (next _ (scope_shown most room g v (action.input t) shown h few), tt), tt)
    action_printed (action.receive t u) h few = receive_printed t u h.0 h.1
    action_printed (action.event f) h few = (placed (codes "Event_") _ _ _ refl refl refl (omega arith) (at, tt) (event_printed, (h, tt)) (go_on, tt), tt)
    action_printed (action.insert t u) h few =
        (placed (codes "Insert_") _ _ _ refl refl refl (omega arith) (at, tt) (two_act insert_name t u h.0 h.1 (word_act most room g insert_name (t ∷ u ∷ []) refl refl refl refl (omega arith)), tt) (go_on, tt), tt)
    action_printed (action.delete t) h few =
        (placed (codes "Delete_") _ _ _ refl refl refl (omega arith) (at, tt) (one_act delete_name t h (word_act most room g delete_name (t ∷ []) refl refl refl refl (omega arith)), tt) (go_on, tt), tt)
    action_printed (action.lock t l) h few =
        let x : Var = lock_var l in (
          placed (codes "Lock_") _ _ _ refl refl refl (omega arith) (at, (fr_printed x (lock_shown most room g l few), tt)) (two_act lock_name (variable x) t (lock_shown most room g l few) h (word_act most room g lock_name (variable x ∷ t ∷ []) refl refl refl refl (omega arith)), tt)
              (next _ (scope_shown most room g v (action.lock t l) shown h few), tt),
          tt,
        )
    action_printed (action.unlock t l) h few =
        let x : Var = lock_var l in
        (placed (codes "Unlock_") _ _ _ refl refl refl (omega arith) (at, tt) (two_act unlock_name (variable x) t (lock_shown most room g l few) h (word_act most room g unlock_name (variable x ∷ t ∷ []) refl refl refl refl (omega arith)), tt) (go_on, tt), tt)
    action_printed (action.embedded l e r) h few = (
      placed (codes "Rule_") _ _ _ refl refl refl (omega arith) (at, each_of_all (IsPrintableFact most g) l h.0) (embedded_printed e (each_of_all (IsPrintableAct most g) e h.1))
          (next _ (scope_shown most room g v (action.embedded l e r) shown h few), each_of_all (IsPrintableFact most g) r h.2),
      tt,
    )

    pub replicated_printed : ArePrinted (replicated_rules path v)
    replicated_printed =
        let copies : IsPrintableFact most g (copies_fact path (map variable v)) = copies_printed most room g path v here shown in (
          placed (codes "RepStart_") _ _ _ refl refl refl (omega arith) (at, tt) tt (copies, tt),
          (placed (codes "RepCopy_") _ _ _ refl refl refl (omega arith) (copies, tt) tt (go_on, tt), tt),
        )

    module _ (second : IsPath (second_of path)) where
      beside : IsPrintableFact most g (state (second_of path) v)
      beside = state_printed most room g (second_of path) v second shown

      pub parallel_printed : ArePrinted (parallel_rules path v)
      parallel_printed = (placed (codes "Par_") _ _ _ refl refl refl (omega arith) (at, tt) tt (go_on, (beside, tt)), tt)

      pub test_printed : (t u : Tree) → IsPrintableTerm most g t → IsPrintableTerm most g u → ArePrinted (test_rules path v t u)
      test_printed t u h k = (
        placed (codes "Then_") _ _ _ refl refl refl (omega arith) (at, tt) (two_act eq_name t u h k (word_act most room g eq_name (t ∷ u ∷ []) refl refl refl refl (omega arith)), tt) (go_on, tt),
        (placed (codes "Else_") _ _ _ refl refl refl (omega arith) (at, tt) (two_act not_eq_name t u h k (word_act most room g not_eq_name (t ∷ u ∷ []) refl refl refl refl (omega arith)), tt) (beside, tt), tt),
      )

      pub lookup_printed : (t : Tree) (x : Var) → IsPrintableTerm most g t → IsShown most room g (message_var x) → ArePrinted (lookup_rules path v t x)
      lookup_printed t x h k = (
        placed (codes "Found_") _ _ _ refl refl refl (omega arith) (at, tt) (two_act is_in_name t (variable (message_var x)) h k (word_act most room g is_in_name (t ∷ variable (message_var x) ∷ []) refl refl refl refl (omega arith)), tt)
            (next (v ++ message_var x ∷ []) (each_both (IsShown most room g) v (message_var x ∷ []) shown (k, tt)), tt),
        (placed (codes "Missing_") _ _ _ refl refl refl (omega arith) (at, tt) (one_act is_not_set_name t h (word_act most room g is_not_set_name (t ∷ []) refl refl refl refl (omega arith)), tt) (beside, tt), tt),
      )

  pub nil_printed : (path : List ℕ) → IsPath path → (v : List Var) → AreShown most room g v → ArePrinted (nil_rules path v)
  nil_printed path here v shown = (
    record {
      name = placed_name most (codes "Nil_") path refl refl refl here.digits (omega (arith, here.short, room));
      left = (state_printed most room g path v here shown, tt);
      acts = tt;
      right = tt;
    },
    tt,
  )

  no_steps : IsPath []
  no_steps = record { digits = tt; short = omega arith }

  pub init_printed : IsPrintedRule most g init_rule
  init_printed = record {
    name = letters_name most (codes "Init") refl refl refl (omega (arith, room));
    left = tt;
    acts = (word_act most room g init_name [] refl refl refl refl (omega arith) (no_args most room g), tt);
    right = (state_printed most room g [] [] no_steps tt, tt);
  }
