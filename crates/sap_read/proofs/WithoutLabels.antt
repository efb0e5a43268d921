-- A well-formed process is equal up to names to itself, and to itself without labels.
use Rattle.std.proofs.Common.{◌≡◌, ℕ, List, [], refl, sym, ap, ap₂, ◌∙◌, subst}
use Rattle.sap_terms.specs.Signature.{Sig}
use Rattle.sap_terms.specs.declared.var.Var.{Var}
use Rattle.sap_locks.specs.Annotation.{unlabelled, unlabelled_action}
use Rattle.sap_process.specs.Action.{Action}
use Rattle.sap_process.specs.Flaws.{HasNoScopeFlaw}
use Rattle.sap_process.specs.Proc as whole
use Rattle.sap_process.specs.Proc.{Proc}
use Rattle.sap_process.specs.Sites.{var_names}
use Rattle.sap_macro.specs.Expansion.{binders, expanded, expansion, meaning_of, plain, same_name, unchanged}
use Rattle.sap_macro.specs.Instances.{AreClosedAmong, AreTaken, IsClosed}
use Rattle.sap_macro.specs.Order.{UsesOnly}
use Rattle.sap_macro.specs.Seen.{seen}
use Rattle.sap_macro.specs.UpToNames.{Pair, AreAlikeActions, both_new, both_out, both_send, both_input, both_receive, both_event, both_insert, both_delete, both_lock, both_unlock, both_embedded, AreAlike, both_nil, both_parallel, both_replicated, both_act, both_test, both_lookup, AreSameUpToNames}
use Rattle.sap_macro.specs.Written.{Written, nil, call, parallel, replicated, act, test, lookup, Definition}

-- ---- labels aren't looked at

action_without : {ρ ξ : List Pair} {a b : Action} → AreAlikeActions ρ a b ξ → AreAlikeActions ρ a (unlabelled_action b) ξ
action_without both_new = both_new
action_without (both_out t) = both_out t
action_without (both_send t u) = both_send t u
action_without (both_input t) = both_input t
action_without (both_receive t u) = both_receive t u
action_without (both_event t) = both_event t
action_without (both_insert t u) = both_insert t u
action_without (both_delete t) = both_delete t
action_without (both_lock t) = both_lock t
action_without (both_unlock t) = both_unlock t
action_without (both_embedded l e r) = both_embedded l e r

without : {ρ : List Pair} {p q : Proc} → AreAlike ρ p q → AreAlike ρ p (unlabelled q)
without both_nil = both_nil
without (both_parallel l r) = both_parallel (without l) (without r)
without (both_replicated l) = both_replicated (without l)
without (both_act a l) = both_act (action_without a) (without l)
without (both_test t u l r) = both_test t u (without l) (without r)
without (both_lookup t l r) = both_lookup t (without l) (without r)

-- ---- a process as it would be written, without uses

abbrev writing : Proc → Written
writing whole.nil = nil
writing (whole.parallel p q) = parallel (writing p) (writing q)
writing (whole.replicated p) = replicated (writing p)
writing (whole.act a p) = act a (writing p)
writing (whole.test t u p q) = test t u (writing p) (writing q)
writing (whole.lookup t x p q) = lookup t x (writing p) (writing q)

seen_again : (p : Proc) → seen (writing p) ≡ p
seen_again whole.nil = refl
seen_again (whole.parallel p q) = ap₂ whole.parallel (seen_again p) (seen_again q)
seen_again (whole.replicated p) = ap whole.replicated (seen_again p)
seen_again (whole.act a p) = ap (whole.act a) (seen_again p)
seen_again (whole.test t u p q) = ap₂ (whole.test t u) (seen_again p) (seen_again q)
seen_again (whole.lookup t x p q) = ap₂ (whole.lookup t x) (seen_again p) (seen_again q)

none_used : (p : Proc) → UsesOnly [] (writing p)
none_used whole.nil = tt
none_used (whole.parallel p q) = (none_used p, none_used q)
none_used (whole.replicated p) = none_used p
none_used (whole.act a p) = none_used p
none_used (whole.test t u p q) = (none_used p, none_used q)
none_used (whole.lookup t x p q) = (none_used p, none_used q)

plain_again : (w : Written) → plain [] w ≡ w
plain_again nil = refl
plain_again (call f ts) = refl
plain_again (parallel p q) = ap₂ parallel (plain_again p) (plain_again q)
plain_again (replicated p) = ap replicated (plain_again p)
plain_again (act a p) = ap (act a) (plain_again p)
plain_again (test t u p q) = ap₂ (test t u) (plain_again p) (plain_again q)
plain_again (lookup t x p q) = ap₂ (lookup t x) (plain_again p) (plain_again q)

-- with other names taken the expansion of what is closed is the same up to names
abbrev ExpansionsAreOne : Type 0
ExpansionsAreOne =
    (names : List (List ℕ)) (ds : List Definition) (p : Written) (taken other : List (List ℕ)) → AreClosedAmong names ds → UsesOnly names p → IsClosed [] p
    → AreTaken taken [] p → AreTaken other [] p
    → AreSameUpToNames (expanded (meaning_of ds) unchanged same_name p taken).process (expanded (meaning_of ds) unchanged same_name p other).process

module _ (one : ExpansionsAreOne)
    (left : (ds : List Definition) (p : Written) (identifiers : List (List ℕ)) → UsesOnly [] (plain ds p) → (expansion ds identifiers p).process ≡ seen (plain ds p))
    (closed : (g : Sig) (scope : List Var) (p : Written) → HasNoScopeFlaw g scope (seen p) → IsClosed (var_names scope) p) where
  same_as_itself : (g : Sig) (p : Proc) → HasNoScopeFlaw g [] p → AreSameUpToNames p p
  same_as_itself g p none =
      let w = plain [] (writing p) in
      let is_w = plain_again (writing p) in
      let uses = subst (UsesOnly []) (sym is_w) (none_used p) in
      let is_p = left [] (writing p) (binders [] w) uses ∙ ap seen is_w ∙ seen_again p in
      let own : AreTaken (binders [] w) [] w = record { holds = λ x h. h } in
      subst (λ (q : Proc). AreSameUpToNames q q) is_p
      (one [] [] w (binders [] w) (binders [] w) tt uses
      (subst (IsClosed []) (sym is_w) (closed g [] (writing p) (subst (HasNoScopeFlaw g []) (sym (seen_again p)) none))) own own)

  pub same_without_labels : (g : Sig) (p : Proc) → HasNoScopeFlaw g [] p → AreSameUpToNames p (unlabelled p)
  same_without_labels g p none = without (same_as_itself g p none)
