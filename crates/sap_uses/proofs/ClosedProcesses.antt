-- A process whose expansion has no flaw of scope is closed as it is written, where its uses name what is in scope.
use Rattle.std.proofs.Common.{◌≡◌, ℕ, List, [], ◌∷◌, refl, sym, ap, ◌∙◌, subst}
use Rattle.sap_terms.specs.Signature.{Sig}
use Rattle.sap_terms.specs.Choice.{instance}
use Rattle.sap_terms.specs.Tree.{Tree, variable, public}
use Rattle.sap_process.specs.Action.{Action, new, out, send, input, receive, event, insert, delete, lock, unlock, embedded}
use Rattle.sap_process.specs.Flaws.{HasNoScopeFlaw}
use Rattle.sap_process.specs.Instance.{action_instance, process_instance}
use Rattle.sap_process.specs.Proc as whole
use Rattle.sap_process.specs.Proc.{Proc}
use Rattle.sap_macro.specs.Expansion.{Meaning, behind, binding, expanded, expansion, meaning_of, plain, plain_bodies, same_name, unchanged}
use Rattle.sap_macro.specs.Instances.{IsClosed}
use Rattle.sap_macro.specs.Written.{Written, nil, call, parallel, replicated, act, test, lookup, Definition}
use Rattle.sap_macro.specs.WrittenRuns.{HasArgumentsInScope}
use Rattle.sap_uses.proofs.Closed.{Shows, nil_shows, anything, parallel_shows, replicated_shows, act_shows, test_shows, lookup_shows, shown_closed}

-- what is closed names what is in scope
pub closed_names : (names : List (List ℕ)) (w : Written) → IsClosed names w → HasArgumentsInScope names w
closed_names names nil h = tt
closed_names names (call f ts) h = h
closed_names names (parallel p q) h = (closed_names names p h.0, closed_names names q h.1)
closed_names names (replicated p) h = closed_names names p h
closed_names names (act a p) h = closed_names (behind names a) p h.1.1
closed_names names (test t u p q) h = (closed_names names p h.1.1.0, closed_names names q h.1.1.1)
closed_names names (lookup t x p q) h = (closed_names (x.name ∷ names) p h.1.1.0, closed_names names q h.1.1.1)

same_binding : (a : Action) → binding same_name a ≡ a
same_binding (new x) = refl
same_binding (out t) = refl
same_binding (send t u) = refl
same_binding (input t) = refl
same_binding (receive t u) = refl
same_binding (event f) = refl
same_binding (insert t u) = refl
same_binding (delete t) = refl
same_binding (lock t n) = refl
same_binding (unlock t n) = refl
same_binding (embedded l e r) = refl

-- the action at the head, and the first term
action_at : Proc → Action
action_at (whole.act a p) = a
action_at _ = out (public [])

first_term : Proc → Tree
first_term (whole.test t u p q) = t
first_term _ = public []

module _ (kept : (p : Proc) → process_instance (λ v. variable v) p ≡ p) where
  term_stays : (t : Tree) → instance unchanged t ≡ t
  unfolding first_term
  term_stays t = ap first_term (kept (whole.test t t whole.nil whole.nil))

  action_stays : (a : Action) → binding same_name (action_instance unchanged a) ≡ a
  unfolding action_at
  action_stays a = same_binding (action_instance unchanged a) ∙ ap action_at (kept (whole.act a whole.nil))

  expansion_shows : (m : Meaning) (names : List (List ℕ)) (w : Written) (taken : List (List ℕ)) → HasArgumentsInScope names w → Shows names w (expanded m unchanged same_name w taken).process
  expansion_shows m names nil taken h = nil_shows
  expansion_shows m names (call f ts) taken h = anything h
  expansion_shows m names (parallel p q) taken h =
      parallel_shows (expansion_shows m names p taken h.0) (expansion_shows m names q (expanded m unchanged same_name p taken).taken h.1)
  expansion_shows m names (replicated p) taken h = replicated_shows (expansion_shows m names p taken h)
  expansion_shows m names (act a p) taken h =
      subst (λ c. Shows names (act a p) (whole.act c (expanded m unchanged same_name p taken).process)) (sym (action_stays a)) (act_shows (expansion_shows m (behind names a) p taken h))
  expansion_shows m names (test t u p q) taken h =
      let a = (expanded m unchanged same_name p taken).process in
      let b = (expanded m unchanged same_name q (expanded m unchanged same_name p taken).taken).process in
      let stands = test_shows (expansion_shows m names p taken h.0) (expansion_shows m names q (expanded m unchanged same_name p taken).taken h.1) in
      subst (λ v. Shows names (test t u p q) (whole.test (instance unchanged t) v a b)) (sym (term_stays u))
      (subst (λ v. Shows names (test t u p q) (whole.test v u a b)) (sym (term_stays t)) stands)
  expansion_shows m names (lookup t x p q) taken h =
      let a = (expanded m unchanged same_name p taken).process in
      let b = (expanded m unchanged same_name q (expanded m unchanged same_name p taken).taken).process in
      let stands = lookup_shows {x = x} (expansion_shows m (x.name ∷ names) p taken h.0) (expansion_shows m names q (expanded m unchanged same_name p taken).taken h.1) in
      subst (λ v. Shows names (lookup t x p q) (whole.lookup v x a b)) (sym (term_stays t)) stands

  pub closed_where_uses_are : (g : Sig) (ds : List Definition) (p : Written) (identifiers : List (List ℕ)) → HasNoScopeFlaw g [] (expansion ds identifiers p).process
      → HasArgumentsInScope [] (plain ds p) → IsClosed [] (plain ds p)
  closed_where_uses_are g ds p identifiers none h =
      shown_closed g [] (plain ds p) (expansion ds identifiers p).process (expansion_shows (meaning_of (plain_bodies call ds)) [] (plain ds p) identifiers h) none
