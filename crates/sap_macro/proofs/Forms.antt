-- Heads over what stands below them.
use Rattle.std.proofs.Common.{◌≡◌, ◌<◌, ℕ, Bool, List, ◌++◌, refl, arith, ap, ap₂, sym, subst, ◌∙◌}
use Rattle.sap_process.specs.Action.{Action}
use Rattle.sap_process.specs.Proc as whole
use Rattle.sap_process.specs.Proc.{Proc}
use Rattle.sap_terms.specs.Tree.{Tree}
use Rattle.sap_terms.specs.declared.var.Var.{Var}
use Rattle.sap_macro.specs.Expansion.{Expanded, with_uses}
use Rattle.sap_macro.specs.Written.{Written, nil, call, parallel, replicated, act, test, lookup, Definition}
use Rattle.sap_macro.specs.code.Heads.{IsOver, IsOverBoth, forked, head_names, headed, met_names, names_in, seen_in}
use Rattle.sap_macro.specs.code.Names.{with_names}
use Rattle.sap_macro.specs.Walked.{steps_in, steps}
use Rattle.sap_macro.specs.code.Steps.{built, plain_of, IsFormed}
use Rattle.sap_macro.specs.declared.standing.Standing.{Standing}
use Rattle.sap_macro.proofs.Bound.{with_names-append}
use Rattle.sap_macro.specs.UpToNames.{named}
use Rattle.sap_macro.proofs.Built.{built_same}
use Rattle.sap_macro.proofs.Watched.{put_action, put_name, put_term}

positive : (c : List ℕ → ℕ) (w : Written) → 0 < steps c w
positive c nil = omega arith
positive c (call f ts) = omega arith
positive c (parallel p q) = omega arith
positive c (replicated p) = omega arith
positive c (act a p) = omega arith
positive c (test t u p q) = omega arith
positive c (lookup t x p q) = omega arith

pub over_replicated : (p : Written) → IsOver (replicated p) p
unfolding built met_names seen_in steps_in
over_replicated p = record { process = λ ds s taken. refl; taken = λ ds s taken. refl; names = λ ds known. refl; seen = λ ds s n. refl; further = λ ds. omega arith }

pub over_act : (a : Action) (p : Written) → IsOver (act a p) p
unfolding built met_names seen_in steps_in
over_act a p = record {
  process = λ ds s taken. refl;
  taken = λ ds s taken. refl;
  names = λ ds known. refl;
  seen = λ ds s n. ap (λ b. whole.act b (seen_in ds p)) (sym (put_action s n a));
  further = λ ds. omega arith;
}

pub over_parallel : (p q : Written) → IsOverBoth (parallel p q) p q
unfolding built met_names seen_in steps_in
over_parallel p q = record {
  process = λ ds s taken. refl;
  taken = λ ds s taken. refl;
  names = λ ds known. refl;
  seen = λ ds s n. refl;
  first = λ ds. omega arith;
  second = λ ds. omega arith;
}

pub over_test : (t u : Tree) (p q : Written) → IsOverBoth (test t u p q) p q
unfolding built met_names seen_in steps_in
over_test t u p q = record {
  process = λ ds s taken. refl;
  taken = λ ds s taken. refl;
  names = λ ds known. refl;
  seen = λ ds s n. ap₂ (λ a b. whole.test a b (seen_in ds p) (seen_in ds q)) (sym (put_term s n t)) (sym (put_term s n u));
  first = λ ds. omega arith;
  second = λ ds. omega arith;
}

pub over_lookup : (t : Tree) (x : Var) (p q : Written) → IsOverBoth (lookup t x p q) p q
unfolding built met_names seen_in steps_in
over_lookup t x p q = record {
  process = λ ds s taken. refl;
  taken = λ ds s taken. refl;
  names = λ ds known. refl;
  seen = λ ds s n. ap₂ (λ a y. whole.lookup a (named y x.sort) (seen_in ds p) (seen_in ds q)) (sym (put_term s n t)) (sym (put_name s n x.name));
  first = λ ds. omega arith;
  second = λ ds. omega arith;
}

pub ruleset head_laws = (over_replicated, over_act, over_parallel, over_test, over_lookup)

-- ---- names that are met

names_same : (ds : List Definition) (known : List ℕ → Bool) (w v : Written) → with_uses (plain_of ds) w ≡ with_uses (plain_of ds) v → names_in ds known w ≡ names_in ds known v
names_same ds known w v h = ap (met_names known) h

module _ (ds : List Definition) (known : List ℕ → Bool) (w v : Written) (h : with_uses (plain_of ds) w ≡ with_uses (plain_of ds) v) (own later : List (List ℕ)) (first : later ≡ with_names own (head_names known w)) where
  pub met_nothing : w ≡ nil → later ≡ with_names own (names_in ds known v)
  unfolding met_names
  met_nothing is =
      first ∙ ap (λ x. with_names own (head_names known x)) is ∙ ap (λ x. with_names own (met_names known (with_uses (plain_of ds) x))) (sym is)
      ∙ ap (with_names own) (names_same ds known w v h)

  pub met_call : (f : List ℕ) (ts : List Tree) → w ≡ call f ts → IsFormed ds w → later ≡ with_names own (names_in ds known v)
  unfolding met_names
  met_call f ts is formed =
      first ∙ ap (λ x. with_names own (head_names known x)) is ∙ ap (λ x. with_names own (met_names known x)) (sym (stays ts))
      ∙ ap (λ x. with_names own (met_names known (with_uses (plain_of ds) x))) (sym is)
      ∙ ap (with_names own) (names_same ds known w v h) where
        stays : (us : List Tree) → plain_of ds f us ≡ call f us
        stays = subst (IsFormed ds) is formed

  pub met_one : (p : Written) (last : List (List ℕ)) → IsOver w p → last ≡ with_names later (names_in ds known p) → last ≡ with_names own (names_in ds known v)
  met_one p last over is =
      is ∙ ap (λ ns. with_names ns (names_in ds known p)) first ∙ sym (with_names-append (head_names known w) (names_in ds known p) own)
      ∙ ap (with_names own) (sym (over.names ds known)) ∙ ap (with_names own) (names_same ds known w v h)

  pub met_two : (p q : Written) (next last : List (List ℕ)) → IsOverBoth w p q → next ≡ with_names later (names_in ds known p) → last ≡ with_names next (names_in ds known q)
      → last ≡ with_names own (names_in ds known v)
  met_two p q next last over one two =
      two ∙ ap (λ ns. with_names ns (names_in ds known q)) one
      ∙ ap (λ ns. with_names (with_names ns (names_in ds known p)) (names_in ds known q)) first
      ∙ sym (with_names-append (names_in ds known p) (names_in ds known q) (with_names own (head_names known w)))
      ∙ sym (with_names-append (head_names known w) (names_in ds known p ++ names_in ds known q) own)
      ∙ ap (with_names own) (sym (over.names ds known)) ∙ ap (with_names own) (names_same ds known w v h)

-- ---- what is built

module _ (ds : List Definition) (s : Standing) (w v : Written) (h : with_uses (plain_of ds) w ≡ with_uses (plain_of ds) v) (taken : List (List ℕ)) where
  same : built ds s w taken ≡ built ds s v taken
  same = built_same ds w v h s taken

  pub made_nothing : (q : Proc) → w ≡ nil → q ≡ whole.nil → (q ≡ (built ds s v taken).process) × (taken ≡ (built ds s v taken).taken)
  unfolding built
  made_nothing q is end = (
    end ∙ ap (λ x. (built ds s x taken).process) (sym is) ∙ ap (λ (e : Expanded). e.process) same,
    ap (λ x. (built ds s x taken).taken) (sym is) ∙ ap (λ (e : Expanded). e.taken) same,
  )

  -- a use, by what it is built as
  pub made_use : (f : List ℕ) (ts : List Tree) (q : Proc) (later : List (List ℕ)) (e : Expanded) → w ≡ call f ts → e ≡ built ds s (call f ts) taken → q ≡ e.process → later ≡ e.taken
      → (q ≡ (built ds s v taken).process) × (later ≡ (built ds s v taken).taken)
  made_use f ts q later e is used one two =
      let whole_use : e ≡ built ds s v taken = used ∙ ap (λ x. built ds s x taken) (sym is) ∙ same in
      (one ∙ ap (λ (z : Expanded). z.process) whole_use, two ∙ ap (λ (z : Expanded). z.taken) whole_use)

  pub made_one : (p : Written) (q r : Proc) (later : List (List ℕ)) → IsOver w p → q ≡ (built ds s p taken).process → later ≡ (built ds s p taken).taken → r ≡ headed s w q
      → (r ≡ (built ds s v taken).process) × (later ≡ (built ds s v taken).taken)
  made_one p q r later over one two head = (
    head ∙ ap (headed s w) one ∙ sym (over.process ds s taken) ∙ ap (λ (e : Expanded). e.process) same,
    two ∙ sym (over.taken ds s taken) ∙ ap (λ (e : Expanded). e.taken) same,
  )

  pub made_two : (p o : Written) (q r z : Proc) (next later : List (List ℕ)) → IsOverBoth w p o → q ≡ (built ds s p taken).process → next ≡ (built ds s p taken).taken
      → r ≡ (built ds s o next).process → later ≡ (built ds s o next).taken → z ≡ forked s w q r → (z ≡ (built ds s v taken).process) × (later ≡ (built ds s v taken).taken)
  made_two p o q r z next later over one is two end head = (
    head ∙ ap (λ x. forked s w x r) one ∙ ap (forked s w (built ds s p taken).process) (two ∙ ap (λ n. (built ds s o n).process) is)
        ∙ sym (over.process ds s taken) ∙ ap (λ (e : Expanded). e.process) same,
    end ∙ ap (λ n. (built ds s o n).taken) is ∙ sym (over.taken ds s taken) ∙ ap (λ (e : Expanded). e.taken) same,
  )
