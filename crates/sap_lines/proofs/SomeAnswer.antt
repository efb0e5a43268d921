-- A line is possible within the limit, or refused.
use Rattle.std.proofs.Common.{◌≡◌, ℕ, zero, suc, ◌+◌, ◌<◌, Bool, true, false, List, [], ◌∷◌, ◌++◌, length, map, Option, Some, None, find, nat_le, slice_get, arith, rules, refl, sym, ap, subst, ◌∙◌, ◌⊎◌, inl, inr, if◌then◌else◌}
use Rattle.std.specs.Prelude.{All, Contains, MatchOption}
use Rattle.std.specs.List.{AllZip}
use Rattle.std.specs.Str.{bytes_eq}
use Rattle.std.proofs.lemmas.Bool.{cases_lt}
use Rattle.std.proofs.lemmas.Option.{slice_get-get_or}
use Rattle.std.proofs.lemmas.Slice.Eq.{bytes_eq-Decides}
use Rattle.std.proofs.lemmas.List.Elements.{All-nil, All-cons, All-head, All-tail, All-contains}
use Rattle.sap_terms.specs.Choice.{Choice, instance, instances}
use Rattle.sap_terms.specs.Equal.{IsTheoryEqual}
use Rattle.sap_terms.specs.Equations.{equations, app2, pair_name}
use Rattle.sap_terms.specs.Laws.{NamesAreMessages}
use Rattle.sap_terms.specs.Message.{IsMessage, IsMessageChoice}
use Rattle.sap_terms.specs.Modulo.{instance_facts, AreEqualFacts, IsFormOfFact, AreFormsOfFacts}
use Rattle.sap_terms.specs.Normal.{IsNormal, IsNormalForm}
use Rattle.sap_terms.specs.Piles.{Pile, Takes, nothing, one, used}
use Rattle.sap_terms.specs.Signature.{Sig, arity_of, find_symbol}
use Rattle.sap_terms.specs.declared.signature.Symbol.{Symbol}
use Rattle.sap_terms.specs.Tree.{Tree, variable, fresh, apply, none, more, trees_of, node_count}
use Rattle.sap_terms.specs.View.{tree}
use Rattle.sap_terms.specs.declared.binding.Binding.{Binding}
use Rattle.sap_terms.specs.declared.fact.Fact.{Fact}
use Rattle.sap_terms.specs.declared.limits.TheConstants.{MOST_TERM_NODES}
use Rattle.sap_terms.specs.declared.var.Var.{Var}
use Rattle.sap_facts.specs.Facts.{standing}
use Rattle.sap_facts.specs.Missing.{IsFirstMissing}
use Rattle.sap_rewrite.specs.Match.{bound_vars}
use Rattle.sap_rewrite.specs.Pattern.{IsPattern}
use Rattle.sap_process.specs.Action as action
use Rattle.sap_process.specs.Configuration.{Config, Runs, IsUnused}
use Rattle.sap_process.specs.Heads.{facts_terms}
use Rattle.sap_process.specs.Proc as whole
use Rattle.sap_process.specs.Proc.{Proc, act}
use Rattle.sap_process.specs.ProcessSteps.{Fits}
use Rattle.sap_runs.specs.Inner.{InnerAction}
use Rattle.sap_runs.specs.Limits.{HasFewNodes}
use Rattle.sap_runs.specs.declared.process_step.PStep.{PStep}
use Rattle.sap_runs.specs.declared.process_step.PStep.TheVariants as line
use Rattle.sap_lines.specs.Answers.{MatchesExactly, ProcessLinesHaveSomeAnswer}
use Rattle.sap_lines.specs.Faults.{IsRefused, IsUnfit, IsUsed, HasEntry, EvaluateSmall, FitsNothing, thread_of, has_form, evaluated, AreRight, FitsFacts}
use Rattle.sap_lines.specs.Lines.{IsProcessLine, left_open}
use Rattle.sap_lines.specs.declared.fault.PFault.{PFault}
use Rattle.sap_lines.specs.declared.fault.PFault.TheVariants as fault
use Rattle.sap_lines.proofs.Decided.{Decided, arity_or_not, tree_or_not, nat_or_not, message_or_not, evaluate_or_not, choice_or_not}
use Rattle.sap_lines.proofs.Fits.{facts_all, taken_all}
use Rattle.sap_lines.proofs.Premises.{Laws}
use Rattle.sap_terms.proofs.PlainLaws.Items.{cons_cases, contains_got, first_item, later_item}

-- lists that have an item, or don't
contains_or_not : (ns : List ℕ) (n : ℕ) → Decided (Contains ns n)
contains_or_not [] n = inr (λ m. omega (arith, m.1))
contains_or_not (k ∷ ks) n = elim (nat_or_not k n) [
  | inl is ↦ inl (subst (Contains (k ∷ ks)) is (first_item k ks))
  | inr other ↦ elim (contains_or_not ks n) [
    | inl m ↦ inl (later_item k ks n m)
    | inr never ↦ inr (λ m. elim (cons_cases k ks n m) [ inl is ↦ other is | inr rest ↦ never rest ])
  ]
]

-- the numbers can be taken, or one is the first that is missing
takes_or_missing : (facts : Pile) (ks : List ℕ) → ((left : List Fact) × (rest : Pile) × Takes facts ks left rest) ⊎ ((i : ℕ) × IsFirstMissing facts ks i)
takes_or_missing facts [] = inl ([], facts, nothing)
takes_or_missing facts (k ∷ ks) = at (slice_get facts k) refl (λ f. takes_or_missing (used facts k f) ks) where
  gone : (o : Option (Option Fact)) → slice_get facts k ≡ o → standing o ≡ None → ((left : List Fact) × (rest : Pile) × Takes facts (k ∷ ks) left rest) ⊎ ((i : ℕ) × IsFirstMissing facts (k ∷ ks) i)
  gone o e h = inr (0 + 1, record { before = []; rest = facts; at = zero; number = k; index_is = refl; here = refl; takes = nothing; gone = ap standing e ∙ h })

  at : (o : Option (Option Fact)) → slice_get facts k ≡ o → ((f : Fact) → ((left : List Fact) × (rest : Pile) × Takes (used facts k f) ks left rest) ⊎ ((i : ℕ) × IsFirstMissing (used facts k f) ks i)) → ((left : List Fact) × (rest : Pile) × Takes facts (k ∷ ks) left rest) ⊎ ((i : ℕ) × IsFirstMissing facts (k ∷ ks) i)
  at None e later = gone None e refl
  at (Some None) e later = gone (Some None) e refl
  at (Some (Some f)) e later = elim (later f) [
    | inl r ↦ inl (f ∷ r.0, r.1, one e r.2)
    | inr m ↦ (let h = m.1 in inr (suc h.at + 1, record { before = f ∷ h.before; rest = h.rest; at = suc h.at; number = h.number; index_is = refl; here = h.here; takes = one e h.takes; gone = h.gone }))
  ]

-- each number is an entry's, or one is the first that isn't
known_or_not : (es : List Tree) (ks : List ℕ) → ((ts : List Tree) × (map (slice_get es) ks ≡ map Some ts)) ⊎ ((k : ℕ) × (find (nat_le (length es)) ks ≡ Some k))
known_or_not es [] = inl ([], refl)
known_or_not es (k ∷ ks) = at (nat_le (length es) k) refl (known_or_not es ks) where
  there : nat_le (length es) k ≡ false → (o : Option Tree) → slice_get es k ≡ o → (t : Tree) × (slice_get es k ≡ Some t)
  there e (Some t) s = (t, s)
  there e None s =
      let less : k < length es = search (rules, e) in
      let found = slice_get-get_or es k (fresh 0) less in
      absurd (cc)

  at : (b : Bool) → nat_le (length es) k ≡ b → ((ts : List Tree) × (map (slice_get es) ks ≡ map Some ts)) ⊎ ((j : ℕ) × (find (nat_le (length es)) ks ≡ Some j)) → ((ts : List Tree) × (slice_get es k ∷ map (slice_get es) ks ≡ map Some ts)) ⊎ ((j : ℕ) × ((if nat_le (length es) k then Some k else find (nat_le (length es)) ks) ≡ Some j))
  at true e rest = inr (k, rw e refl)
  at false e (inr r) = inr (r.0, rw e r.1)
  at false e (inl r) = let h = there e (slice_get es k) refl in inl (h.0 ∷ r.0, λ i. h.1 i ∷ r.1 i)

bool_or_not : (a b : Bool) → Decided (a ≡ b)
bool_or_not true true = inl refl
bool_or_not false false = inl refl
bool_or_not true false = inr (λ e. cc)
bool_or_not false true = inr (λ e. cc)

bytes_or_not : (a b : List ℕ) → Decided (a ≡ b)
bytes_or_not a b = at (bytes_eq a b) refl where
  at : (r : Bool) → bytes_eq a b ≡ r → Decided (a ≡ b)
  at true e = inl ((bytes_eq-Decides a b).0 e)
  at false e = inr (λ is. (let yes : bytes_eq a b ≡ true = (bytes_eq-Decides a b).1 is in cc))

-- the tree is a pair, or isn't
pair_or_not : (x : Tree) → ((y : Tree) × (z : Tree) × (x ≡ app2 pair_name y z)) ⊎ ((y z : Tree) → x ≡ app2 pair_name y z → ⊥)
pair_or_not (apply f (more y (more z none))) = elim (bytes_or_not f pair_name) [
  | inl is ↦ inl (y, z, λ i. app2 (is i) y z)
  | inr other ↦ inr (λ u w e. other (cc))
]
pair_or_not _ = inr (λ y z e. cc)

module _ (laws : Laws) (names : NamesAreMessages) (g : Sig) (c : Config) (es : List Tree) (exact : MatchesExactly g c es) where
  abbrev Answer : PStep → Type 0
  Answer step = ((inner : List InnerAction) × (label : List Fact) × (d : Config) × (fs : List Tree) × IsProcessLine g HasFewNodes c es step inner label d fs) ⊎ ((e : PFault) × IsRefused g c es step e × (¬ (e ≡ fault.Mem)))

  abbrev possible : {step : PStep} {inner : List InnerAction} {label : List Fact} {d : Config} {fs : List Tree} → IsProcessLine g HasFewNodes c es step inner label d fs → Answer step
  possible {inner = i} {label = a} {d = d} {fs = fs} h = inl (i, a, d, fs, h)

  abbrev form : (t : Tree) → (n : Tree) × IsNormalForm (equations g) t n
  form t = laws.each (equations g) t

  running : (t : ℕ) → ((p : Proc) × Runs c t p) ⊎ ((p : Proc) → ¬ Runs c t p)
  running t = at (slice_get c.threads t) refl where
    at : (o : Option (Option Proc)) → slice_get c.threads t ≡ o → ((p : Proc) × Runs c t p) ⊎ ((p : Proc) → ¬ Runs c t p)
    at None e = inr (λ p r. cc)
    at (Some None) e = inr (λ p r. cc)
    at (Some (Some p)) e = inl (p, e)

  on_thread : (step : PStep) (t : ℕ) → thread_of step ≡ Some t → ((p : Proc) → Runs c t p → has_form step p ≡ true → Answer step) → Answer step
  on_thread step t named k = elim (running t) [
    | inr never ↦ inr (fault.NoThread t, IsRefused.unfit t named (IsUnfit.not_running never), λ is. cc)
    | inl r ↦ formed r.0 r.1 (has_form step r.0) refl
  ]
    where
      formed : (p : Proc) → Runs c t p → (b : Bool) → has_form step p ≡ b → Answer step
      formed p r true e = k p r e
      formed p r false e = inr (fault.WrongForm t, IsRefused.unfit t named (IsUnfit.other_form r e), λ is. cc)

  small_then : (step : PStep) (t : ℕ) (p : Proc) → thread_of step ≡ Some t → Runs c t p → has_form step p ≡ true → HasEntry es step → (EvaluateSmall g (evaluated p) → Answer step) → Answer step
  small_then step t p named r f entry k = elim (evaluate_or_not laws names g (evaluated p)) [
    | inl large ↦ inr (fault.TermLarge, IsRefused.large (record { thread = t; named = named; runs = r; form = f }) entry large, λ is. cc)
    | inr small ↦ k small
  ]

  nil_line : (t : ℕ) (p : Proc) → Runs c t p → has_form (line.Nil t) p ≡ true → Answer (line.Nil t)
  nil_line t whole.nil r f = possible (IsProcessLine.ends t r)
  nil_line t _ r f = absurd (cc)

  par_line : (t : ℕ) (p : Proc) → Runs c t p → has_form (line.Par t) p ≡ true → Answer (line.Par t)
  par_line t (whole.parallel p q) r f = possible (IsProcessLine.splits t r)
  par_line t _ r f = absurd (cc)

  rep_line : (t : ℕ) (p : Proc) → Runs c t p → has_form (line.Rep t) p ≡ true → Answer (line.Rep t)
  rep_line t (whole.replicated p) r f = possible (IsProcessLine.copies t r)
  rep_line t _ r f = absurd (cc)

  unused_or_used : (n : ℕ) → IsUnused c n ⊎ IsUsed c n
  unused_or_used n = elim (contains_or_not c.made n) [
    | inl m ↦ inr (inl m)
    | inr never ↦ elim (contains_or_not c.own n) [ inl m ↦ inr (inr m) | inr nor ↦ inl (never, nor) ]
  ]

  new_line : (t n : ℕ) (p : Proc) → Runs c t p → has_form (line.New t n) p ≡ true → Answer (line.New t n)
  new_line t n (act (action.new x) p) r f = elim (unused_or_used n) [
    | inl u ↦ possible (IsProcessLine.makes_name t n r u)
    | inr u ↦ inr (fault.UsedName n, IsRefused.used_name t n r f u, λ is. cc)
  ]
  new_line t n _ r f = absurd (cc)

  out_line : (t : ℕ) (p : Proc) → Runs c t p → has_form (line.Out t) p ≡ true → Answer (line.Out t)
  out_line t (act (action.out m) p) r f = small_then (line.Out t) t (act (action.out m) p) refl r f tt (λ small. possible (IsProcessLine.outputs t r (form m).1 small))
  out_line t _ r f = absurd (cc)

  -- the entry of a number
  entry_or_not : (k : ℕ) → ((x : Tree) × (slice_get es k ≡ Some x)) ⊎ (slice_get es k ≡ None)
  entry_or_not k = at (slice_get es k) refl where
    at : (o : Option Tree) → slice_get es k ≡ o → ((x : Tree) × (slice_get es k ≡ Some x)) ⊎ (slice_get es k ≡ None)
    at None e = inr e
    at (Some x) e = inl (x, e)

  send_line : (t k : ℕ) (p : Proc) → Runs c t p → has_form (line.Send t k) p ≡ true → Answer (line.Send t k)
  send_line t k (act (action.send m n) p) r f = elim (entry_or_not k) [
    | inr gone ↦ inr (fault.NoEntry k, IsRefused.unknown_channel t k r f gone, λ is. cc)
    | inl e ↦ small_then (line.Send t k) t (act (action.send m n) p) refl r f e (λ small. elim (tree_or_not (form m).0 e.0) [
      | inl is ↦ possible (IsProcessLine.outputs_on t k r e.1 (subst (IsNormalForm (equations g) m) is (form m).1) (form n).1 small)
      | inr other ↦ inr (fault.Unequal, IsRefused.other_channel t k r e.1 small (λ h. other (laws.one_form (equations g) m (form m).0 e.0 (form m).1 h)), λ is. cc)
    ])
  ]
  send_line t k _ r f = absurd (cc)

  -- a normal term fits a pattern, or doesn't
  fits_or_not : (n x : Tree) → IsPattern (equations g) n → IsNormal (equations g) x → ((σ : Choice) × Fits g σ n x) ⊎ FitsNothing g n x
  fits_or_not n x pattern normal = elim (choice_or_not laws names g [] (more n none) (more x none)) [
    | inl r ↦ inl (r.0, record { messages = r.1.messages; equal = (laws.modulo (equations g) r.0 n x (λ v. (r.1.messages v).normal) pattern normal).1 (first r.0 r.1.is) })
    | inr never ↦ inr (λ σ h. never σ (record { messages = h.messages; agrees = tt; is = λ i. more ((laws.modulo (equations g) σ n x (λ v. (h.messages v).normal) pattern normal).0 h.equal i) none }))
  ]
    where
      first : (σ : Choice) → instances σ (more n none) ≡ more x none → instance σ n ≡ x
      first σ e = cc

  entry_normal : (k : ℕ) (x : Tree) → slice_get es k ≡ Some x → IsNormal (equations g) x
  entry_normal k x e = All-contains (IsNormal (equations g)) es x exact.entries (contains_got es x k e)

  receive_pair : (t k : ℕ) (m n x y z : Tree) (p : Proc) → Runs c t (act (action.receive m n) p) → slice_get es k ≡ Some x → EvaluateSmall g (m ∷ []) → x ≡ app2 pair_name y z → Answer (line.In t k)
  receive_pair t k m n x y z p r e small pair =
      let normal : IsNormal (equations g) (app2 pair_name y z) = subst (IsNormal (equations g)) pair (entry_normal k x e) in
      elim (fits_or_not n z (All-head (IsPattern (equations g)) n [] (exact.patterns_are t (act (action.receive m n) p) r)) normal.1.1.0) [
        | inr never ↦ inr (fault.NoMatch, IsRefused.unfitting_part t k r e small (λ u w is. (let both : app2 pair_name y z ≡ app2 pair_name u w = sym pair ∙ is in let part : z ≡ w = cc in subst (FitsNothing g n) part never)), λ is. cc)
        | inl s ↦ elim (tree_or_not (form m).0 y) [
          | inl is ↦ possible (IsProcessLine.inputs_on t k s.0 r e s.1.messages
              (subst (IsTheoryEqual (equations g) (app2 pair_name m (instance s.0 n))) (sym pair)
              (laws.kept.under_symbols (equations g) pair_name (m ∷ instance s.0 n ∷ []) (y ∷ z ∷ []) (subst (IsTheoryEqual (equations g) m) is (form m).1.equal, (s.1.equal, tt)))) small)
          | inr other ↦ inr (fault.Unequal, IsRefused.other_part t k s.0 r e small pair s.1 (λ h. other (laws.one_form (equations g) m (form m).0 y (form m).1 h)), λ is. cc)
        ]
      ]

  in_line : (t k : ℕ) (p : Proc) → Runs c t p → has_form (line.In t k) p ≡ true → Answer (line.In t k)
  in_line t k (act (action.input n) p) r f = elim (entry_or_not k) [
    | inr gone ↦ inr (fault.NoEntry k, IsRefused.unknown_input t k r f gone, λ is. cc)
    | inl e ↦ elim (fits_or_not n e.0 (All-head (IsPattern (equations g)) n [] (exact.patterns_are t (act (action.input n) p) r)) (entry_normal k e.0 e.1)) [
      | inl s ↦ possible (IsProcessLine.inputs t k s.0 r e.1 s.1)
      | inr never ↦ inr (fault.NoMatch, IsRefused.unfitting t k r e.1 never, λ is. cc)
    ]
  ]
  in_line t k (act (action.receive m n) p) r f = elim (entry_or_not k) [
    | inr gone ↦ inr (fault.NoEntry k, IsRefused.unknown_input t k r f gone, λ is. cc)
    | inl e ↦ small_then (line.In t k) t (act (action.receive m n) p) refl r f e (λ small. elim (pair_or_not e.0) [
      | inl y ↦ receive_pair t k m n e.0 y.0 y.1 p r e.1 small y.2
      | inr unpaired ↦ inr (fault.NoMatch, IsRefused.unfitting_part t k r e.1 small (λ u w is. absurd (unpaired u w is)), λ is. cc)
    ])
  ]
  in_line t k _ r f = absurd (cc)

  then_line : (t : ℕ) (p : Proc) → Runs c t p → has_form (line.Then t) p ≡ true → Answer (line.Then t)
  then_line t (whole.test m n p q) r f = small_then (line.Then t) t (whole.test m n p q) refl r f tt (λ small. elim (tree_or_not (form m).0 (form n).0) [
    | inl is ↦ possible (IsProcessLine.agrees t r (form m).1 (form n).1 is small)
    | inr other ↦ inr (fault.Unequal, IsRefused.terms_differ t r small (λ e. other ((laws.decide (equations g) m n (form m).0 (form n).0 (form m).1 (form n).1).0 e)), λ is. cc)
  ])
  then_line t _ r f = absurd (cc)

  else_line : (t : ℕ) (p : Proc) → Runs c t p → has_form (line.Else t) p ≡ true → Answer (line.Else t)
  else_line t (whole.test m n p q) r f = small_then (line.Else t) t (whole.test m n p q) refl r f tt (λ small. elim (tree_or_not (form m).0 (form n).0) [
    | inl is ↦ inr (fault.Equal, IsRefused.terms_agree t r small ((laws.decide (equations g) m n (form m).0 (form n).0 (form m).1 (form n).1).1 is), λ is. cc)
    | inr other ↦ possible (IsProcessLine.differs t r (form m).1 (form n).1 other small)
  ])
  else_line t _ r f = absurd (cc)

  -- each fact has a normal form
  forms : (ts : List Tree) → (us : List Tree) × AllZip (IsNormalForm (equations g)) ts us
  forms [] = ([], tt)
  forms (t ∷ ts) = let rest = forms ts in ((form t).0 ∷ rest.0, ((form t).1, rest.1))

  fact_form : (f : Fact) → (h : Fact) × IsFormOfFact (equations g) f h
  fact_form f = let args = forms f.args in (record { name = f.name; persistent = f.persistent; args = args.0 }, record { name = refl; persistent = refl; args = args.1 })

  fact_forms : (fs : List Fact) → (hs : List Fact) × AreFormsOfFacts (equations g) fs hs
  fact_forms [] = ([], tt)
  fact_forms (f ∷ fs) = let rest = fact_forms fs in ((fact_form f).0 ∷ rest.0, ((fact_form f).1, rest.1))

  event_line : (t : ℕ) (p : Proc) → Runs c t p → has_form (line.Event t) p ≡ true → Answer (line.Event t)
  event_line t (act (action.event h) p) r f = small_then (line.Event t) t (act (action.event h) p) refl r f tt (λ small. possible (IsProcessLine.shows t r (fact_form h).1 small))
  event_line t _ r f = absurd (cc)

  insert_line : (t : ℕ) (p : Proc) → Runs c t p → has_form (line.Insert t) p ≡ true → Answer (line.Insert t)
  insert_line t (act (action.insert m n) p) r f = small_then (line.Insert t) t (act (action.insert m n) p) refl r f tt (λ small. possible (IsProcessLine.inserts t r (form m).1 (form n).1 small))
  insert_line t _ r f = absurd (cc)

  delete_line : (t : ℕ) (p : Proc) → Runs c t p → has_form (line.Delete t) p ≡ true → Answer (line.Delete t)
  delete_line t (act (action.delete m) p) r f = small_then (line.Delete t) t (act (action.delete m) p) refl r f tt (λ small. possible (IsProcessLine.deletes t r (form m).1 small))
  delete_line t _ r f = absurd (cc)

  found_line : (t : ℕ) (p : Proc) → Runs c t p → has_form (line.Found t) p ≡ true → Answer (line.Found t)
  found_line t (whole.lookup m x p q) r f = small_then (line.Found t) t (whole.lookup m x p q) refl r f tt (λ small. at small (c.store (form m).0) refl)
    where
      at : EvaluateSmall g (m ∷ []) → (o : Option Tree) → c.store (form m).0 ≡ o → Answer (line.Found t)
      at small None e = inr (fault.Unset, IsRefused.unset t r small (form m).1 e, λ is. cc)
      at small (Some v) e = possible (IsProcessLine.finds t r (form m).1 e small)
  found_line t _ r f = absurd (cc)

  missing_line : (t : ℕ) (p : Proc) → Runs c t p → has_form (line.Missing t) p ≡ true → Answer (line.Missing t)
  missing_line t (whole.lookup m x p q) r f = small_then (line.Missing t) t (whole.lookup m x p q) refl r f tt (λ small. at small (c.store (form m).0) refl)
    where
      at : EvaluateSmall g (m ∷ []) → (o : Option Tree) → c.store (form m).0 ≡ o → Answer (line.Missing t)
      at small None e = possible (IsProcessLine.misses t r (form m).1 e small)
      at small (Some v) e = inr (fault.Set, IsRefused.set t r small (form m).1 e, λ is. cc)
  missing_line t _ r f = absurd (cc)

  lock_line : (t : ℕ) (p : Proc) → Runs c t p → has_form (line.Lock t) p ≡ true → Answer (line.Lock t)
  lock_line t (act (action.lock m i) p) r f = small_then (line.Lock t) t (act (action.lock m i) p) refl r f tt (λ small. at small (c.held (form m).0) refl)
    where
      at : EvaluateSmall g (m ∷ []) → (b : Bool) → c.held (form m).0 ≡ b → Answer (line.Lock t)
      at small false e = possible (IsProcessLine.locks t r (form m).1 e small)
      at small true e = inr (fault.Held, IsRefused.held t r small (form m).1 e, λ is. cc)
  lock_line t _ r f = absurd (cc)

  unlock_line : (t : ℕ) (p : Proc) → Runs c t p → has_form (line.Unlock t) p ≡ true → Answer (line.Unlock t)
  unlock_line t (act (action.unlock m i) p) r f = small_then (line.Unlock t) t (act (action.unlock m i) p) refl r f tt (λ small. possible (IsProcessLine.unlocks t r (form m).1 small))
  unlock_line t _ r f = absurd (cc)

  -- a sender and a receiver
  meeting : (s t : ℕ) (m n l u : Tree) (p q : Proc) → Runs c s (act (action.send m n) p) → Runs c t (act (action.receive l u) q) → Answer (line.Sync s t)
  meeting s t m n l u p q a b = elim (evaluate_or_not laws names g (m ∷ n ∷ l ∷ [])) [
    | inl large ↦ inr (fault.TermLarge, IsRefused.large_meeting s t a b large, λ is. cc)
    | inr small ↦ elim (fits_or_not u (form n).0 (All-head (IsPattern (equations g)) u [] (exact.patterns_are t (act (action.receive l u) q) b)) (form n).1.normal) [
      | inr never ↦ inr (fault.NoMatch, IsRefused.unfitting_message s t a b small (λ σ h. never σ (record { messages = h.messages; equal = laws.kept.onwards (equations g) (instance σ u) n (form n).0 h.equal (form n).1.equal })), λ is. cc)
      | inl k ↦ met small k (tree_or_not (form m).0 (form l).0)
    ]
  ]
    where
      met : EvaluateSmall g (m ∷ n ∷ l ∷ []) → ((σ : Choice) × Fits g σ u (form n).0) → Decided ((form m).0 ≡ (form l).0) → Answer (line.Sync s t)
      met small (σ, h) same =
          let fits : Fits g σ u n = record { messages = h.messages; equal = laws.kept.onwards (equations g) (instance σ u) (form n).0 n h.equal (laws.kept.back (equations g) n (form n).0 (form n).1.equal) } in
          elim same [
            | inl is ↦ possible (IsProcessLine.meets s t σ a b ((laws.decide (equations g) m l (form m).0 (form l).0 (form m).1 (form l).1).1 is) fits small)
            | inr other ↦ inr (fault.Unequal, IsRefused.channels_differ s t σ a b small fits (λ e. other ((laws.decide (equations g) m l (form m).0 (form l).0 (form m).1 (form l).1).0 e)), λ is. cc)
          ]

  sync_line : (s t : ℕ) → Answer (line.Sync s t)
  sync_line s t = elim (running s) [
    | inr never ↦ inr (fault.NoThread s, IsRefused.unfit_sender s t (IsUnfit.not_running never), λ is. cc)
    | inl a ↦ sender a.0 a.1
  ]
    where
      receiver : (m n : Tree) (p q : Proc) → Runs c s (act (action.send m n) p) → Runs c t q → Answer (line.Sync s t)
      receiver m n p (act (action.receive l u) q) a b = meeting s t m n l u p q a b
      receiver m n p _ a b = inr (fault.WrongForm t, IsRefused.unfit_receiver s t a (IsUnfit.other_form b refl), λ is. cc)

      sender : (p : Proc) → Runs c s p → Answer (line.Sync s t)
      sender (act (action.send m n) p) a = elim (running t) [
        | inr never ↦ inr (fault.NoThread t, IsRefused.unfit_receiver s t a (IsUnfit.not_running never), λ is. cc)
        | inl b ↦ receiver m n p b.0 a b.1
      ]
      sender _ a = inr (fault.WrongForm s, IsRefused.unfit_sender s t (IsUnfit.other_form a refl), λ is. cc)

  -- lines of the adversary
  name_line : (n : ℕ) → Answer (line.Name n)
  name_line n = elim (unused_or_used n) [ inl u ↦ possible (IsProcessLine.names n u) | inr u ↦ inr (fault.UsedName n, IsRefused.used_own n u, λ is. cc) ]

  know_line : (k : ℕ) → Answer (line.Know k)
  know_line k = elim (entry_or_not k) [ inl e ↦ possible (IsProcessLine.knows k e.0 e.1) | inr gone ↦ inr (fault.NoEntry k, IsRefused.unknown_shown k gone, λ is. cc) ]

  public_or_not : (o : Option Symbol) → Decided (MatchOption o ⊥ (λ (s : Symbol). s.private ≡ false))
  public_or_not None = inr (λ h. h)
  public_or_not (Some s) = bool_or_not s.private false

  apply_line : (f ks : List ℕ) → Answer (line.Apply f ks)
  apply_line f ks = elim (public_or_not (find_symbol g.symbols f)) [
    | inr private ↦ inr (fault.NotPublic f, IsRefused.not_public f ks private, λ is. cc)
    | inl open_ ↦ elim (arity_or_not (arity_of g f) (length ks)) [
      | inr other ↦ inr (fault.Arity f, IsRefused.other_arity f ks open_ other, λ is. cc)
      | inl arity ↦ elim (known_or_not es ks) [
        | inr k ↦ inr (fault.NoEntry k.0, IsRefused.unknown_argument f ks k.0 open_ arity k.1, λ is. cc)
        | inl ts ↦ (let n = form (apply f (trees_of ts.0)) in elim (cases_lt MOST_TERM_NODES (node_count n.0)) [
          | inl large ↦ inr (fault.TermLarge, IsRefused.large_application f ks ts.0 n.0 open_ arity ts.1 n.1 large, λ is. cc)
          | inr small ↦ possible (IsProcessLine.applies f ks ts.0 n.0 open_ arity ts.1 n.1 small)
        ])
      ]
    ]
  ]

  vars_or_not : (vs ws : List Var) → Decided (vs ≡ ws)
  vars_or_not [] [] = inl refl
  vars_or_not [] (w ∷ ws) = inr (λ e. cc)
  vars_or_not (v ∷ vs) [] = inr (λ e. cc)
  vars_or_not (v ∷ vs) (w ∷ ws) = elim (tree_or_not (variable v) (variable w)) [
    | inr other ↦ inr (λ e. other (ap (λ u. variable u) (let is : v ≡ w = cc in is)))
    | inl same ↦ elim (vars_or_not vs ws) [
      | inr other ↦ inr (λ e. other (cc))
      | inl rest ↦ inl (let is : v ≡ w = cc in λ i. is i ∷ rest i)
    ]
  ]

  messages_or_not : (b : List Binding) → Decided (All (λ (e : Binding). IsMessage g e.var.sort (tree e.term)) b)
  messages_or_not [] = inl (All-nil (λ (e : Binding). IsMessage g e.var.sort (tree e.term)))
  messages_or_not (x ∷ xs) = elim (message_or_not laws names g x.var.sort (tree x.term)) [
    | inr never ↦ inr (λ h. never (All-head (λ (e : Binding). IsMessage g e.var.sort (tree e.term)) x xs h))
    | inl first ↦ elim (messages_or_not xs) [
      | inr never ↦ inr (λ h. never (All-tail (λ (e : Binding). IsMessage g e.var.sort (tree e.term)) x xs h))
      | inl rest ↦ inl (All-cons (λ (e : Binding). IsMessage g e.var.sort (tree e.term)) x xs first rest)
    ]
  ]

  right_or_not : (vs : List Var) (b : List Binding) → Decided (AreRight g vs b)
  right_or_not vs b = elim (vars_or_not (bound_vars b) vs) [
    | inr other ↦ inr (λ h. other h.vars)
    | inl same ↦ elim (messages_or_not b) [ inr never ↦ inr (λ h. never h.terms) | inl all ↦ inl (record { vars = same; terms = all }) ]
  ]

  -- facts that have one name, persistence and number of arguments each
  abbrev Shaped : List Fact → List Fact → Type 0
  Shaped [] [] = Unit {0}
  Shaped (f ∷ fs) (h ∷ hs) = (h.name ≡ f.name) × (h.persistent ≡ f.persistent) × (length h.args ≡ length f.args) × Shaped fs hs
  Shaped _ _ = ⊥

  shaped_or_not : (fs hs : List Fact) → Decided (Shaped fs hs)
  shaped_or_not [] [] = inl tt
  shaped_or_not [] (h ∷ hs) = inr (λ s. s)
  shaped_or_not (f ∷ fs) [] = inr (λ s. s)
  shaped_or_not (f ∷ fs) (h ∷ hs) = elim (bytes_or_not h.name f.name) [
    | inr other ↦ inr (λ s. other s.0)
    | inl name ↦ elim (bool_or_not h.persistent f.persistent) [
      | inr other ↦ inr (λ s. other s.1)
      | inl persistent ↦ elim (nat_or_not (length h.args) (length f.args)) [
        | inr other ↦ inr (λ s. other s.2)
        | inl count ↦ elim (shaped_or_not fs hs) [ inr other ↦ inr (λ s. other s.3) | inl rest ↦ inl (name, persistent, count, rest) ]
      ]
    ]
  ]

  module _ (σ : Choice) (messages : IsMessageChoice g σ) where
    args_from : (ps ts rest over : List Tree) → length ts ≡ length ps → All (IsPattern (equations g)) ps → All (IsNormal (equations g)) ts → instances σ (trees_of (ps ++ rest)) ≡ trees_of (ts ++ over) → AllZip (IsTheoryEqual (equations g)) (map (instance σ) ps) ts × (instances σ (trees_of rest) ≡ trees_of over)
    args_from [] [] rest over count h n e = (tt, e)
    args_from [] (t ∷ ts) rest over count h n e = absurd (omega (arith, count))
    args_from (p ∷ ps) [] rest over count h n e = absurd (omega (arith, count))
    args_from (p ∷ ps) (t ∷ ts) rest over count h n e =
        let first : instance σ p ≡ t = cc in
        let later : instances σ (trees_of (ps ++ rest)) ≡ trees_of (ts ++ over) = cc in
        let more_of = args_from ps ts rest over (omega (arith, count)) (All-tail (IsPattern (equations g)) p ps h) (All-tail (IsNormal (equations g)) t ts n) later in
        (((laws.modulo (equations g) σ p t (λ v. (messages v).normal) (All-head (IsPattern (equations g)) p ps h) (All-head (IsNormal (equations g)) t ts n)).1 first, more_of.0), more_of.1)

    args_to : (ps ts rest over : List Tree) → All (IsPattern (equations g)) ps → All (IsNormal (equations g)) ts → AllZip (IsTheoryEqual (equations g)) (map (instance σ) ps) ts → instances σ (trees_of rest) ≡ trees_of over → instances σ (trees_of (ps ++ rest)) ≡ trees_of (ts ++ over)
    args_to [] [] rest over h n a e = e
    args_to [] (t ∷ ts) rest over h n a e = absurd a
    args_to (p ∷ ps) [] rest over h n a e = absurd a
    args_to (p ∷ ps) (t ∷ ts) rest over h n a e =
        λ i. more ((laws.modulo (equations g) σ p t (λ v. (messages v).normal) (All-head (IsPattern (equations g)) p ps h) (All-head (IsNormal (equations g)) t ts n)).0 a.0 i) (args_to ps ts rest over (All-tail (IsPattern (equations g)) p ps h) (All-tail (IsNormal (equations g)) t ts n) a.1 e i)

    equal_from : (fs hs : List Fact) → All (λ (f : Fact). All (IsPattern (equations g)) f.args) fs → All (λ (f : Fact). All (IsNormal (equations g)) f.args) hs → Shaped fs hs → instances σ (trees_of (facts_terms fs)) ≡ trees_of (facts_terms hs) → AreEqualFacts (equations g) (instance_facts σ fs) hs
    equal_from [] [] h n s e = tt
    equal_from [] (k ∷ hs) h n s e = absurd s
    equal_from (f ∷ fs) [] h n s e = absurd s
    equal_from (f ∷ fs) (k ∷ hs) h n s e =
        let r = args_from f.args k.args (facts_terms fs) (facts_terms hs) s.2 (All-head (λ (x : Fact). All (IsPattern (equations g)) x.args) f fs h) (All-head (λ (x : Fact). All (IsNormal (equations g)) x.args) k hs n) e in
        (record { name = s.0; persistent = s.1; args = r.0 }, equal_from fs hs (All-tail (λ (x : Fact). All (IsPattern (equations g)) x.args) f fs h) (All-tail (λ (x : Fact). All (IsNormal (equations g)) x.args) k hs n) s.3 r.1)

    equal_to : (fs hs : List Fact) → All (λ (f : Fact). All (IsPattern (equations g)) f.args) fs → All (λ (f : Fact). All (IsNormal (equations g)) f.args) hs → AreEqualFacts (equations g) (instance_facts σ fs) hs → instances σ (trees_of (facts_terms fs)) ≡ trees_of (facts_terms hs)
    equal_to [] [] h n a = refl
    equal_to [] (k ∷ hs) h n a = absurd a
    equal_to (f ∷ fs) [] h n a = absurd a
    equal_to (f ∷ fs) (k ∷ hs) h n a =
        args_to f.args k.args (facts_terms fs) (facts_terms hs) (All-head (λ (x : Fact). All (IsPattern (equations g)) x.args) f fs h) (All-head (λ (x : Fact). All (IsNormal (equations g)) x.args) k hs n) a.0.args
        (equal_to fs hs (All-tail (λ (x : Fact). All (IsPattern (equations g)) x.args) f fs h) (All-tail (λ (x : Fact). All (IsNormal (equations g)) x.args) k hs n) a.1)

  zip_count : (σ : Choice) (ps ts : List Tree) → AllZip (IsTheoryEqual (equations g)) (map (instance σ) ps) ts → length ts ≡ length ps
  zip_count σ [] [] a = refl
  zip_count σ [] (t ∷ ts) a = absurd a
  zip_count σ (p ∷ ps) [] a = absurd a
  zip_count σ (p ∷ ps) (t ∷ ts) a = ap suc (zip_count σ ps ts a.1)

  equal_shaped : (σ : Choice) (fs hs : List Fact) → AreEqualFacts (equations g) (instance_facts σ fs) hs → Shaped fs hs
  equal_shaped σ [] [] a = tt
  equal_shaped σ [] (k ∷ hs) a = absurd a
  equal_shaped σ (f ∷ fs) [] a = absurd a
  equal_shaped σ (f ∷ fs) (k ∷ hs) a = (a.0.name, a.0.persistent, zip_count σ f.args k.args a.0.args, equal_shaped σ fs hs a.1)

  facts_fit_or_not : (l left : List Fact) (b : List Binding) → All (λ (f : Fact). All (IsPattern (equations g)) f.args) l → All (λ (f : Fact). All (IsNormal (equations g)) f.args) left → ((σ : Choice) × FitsFacts g l b left σ) ⊎ ((σ : Choice) → ¬ FitsFacts g l b left σ)
  facts_fit_or_not l left b h n = elim (shaped_or_not l left) [
    | inr never ↦ inr (λ σ fits. never (equal_shaped σ l left fits.equal))
    | inl s ↦ elim (choice_or_not laws names g b (trees_of (facts_terms l)) (trees_of (facts_terms left))) [
      | inl r ↦ inl (r.0, record { messages = r.1.messages; agrees = r.1.agrees; equal = equal_from r.0 r.1.messages l left h n s r.1.is })
      | inr never ↦ inr (λ σ fits. never σ (record { messages = fits.messages; agrees = fits.agrees; is = equal_to σ fits.messages l left h n fits.equal }))
    ]
  ]

  embedded_line : (t : ℕ) (ks : List ℕ) (b : List Binding) (p : Proc) → Runs c t p → has_form (line.Embedded t ks b) p ≡ true → Answer (line.Embedded t ks b)
  embedded_line t ks b (act (action.embedded l e u) q) r f = elim (nat_or_not (length ks) (length l)) [
    | inr other ↦ inr (fault.FactCount, IsRefused.fact_count t ks b r other, λ is. cc)
    | inl count ↦ elim (takes_or_missing c.facts ks) [
      | inr m ↦ inr (fault.FactMissing m.0, IsRefused.fact_missing t ks b m.0 r count m.1, λ is. cc)
      | inl k ↦ elim (right_or_not (left_open l e u) b) [
        | inr wrong ↦ inr (fault.BadBinding, IsRefused.bad_binding t ks b r count k.2 wrong, λ is. cc)
        | inl right_ ↦ elim (facts_fit_or_not l k.0 b (facts_all (IsPattern (equations g)) l (exact.patterns_are t (act (action.embedded l e u) q) r)) (taken_all (λ (x : Fact). All (IsNormal (equations g)) x.args) exact.facts k.2)) [
          | inr never ↦ inr (fault.NoMatch, IsRefused.unfitting_facts t ks b r count k.2 right_ never, λ is. cc)
          | inl s ↦ elim (evaluate_or_not laws names g (facts_terms (instance_facts s.0 (l ++ (e ++ u))))) [
            | inl large ↦ inr (fault.TermLarge, IsRefused.large_rule t ks b s.0 r k.2 right_ s.1 large, λ is. cc)
            | inr small ↦ (let acts = fact_forms (instance_facts s.0 e) in let added = fact_forms (instance_facts s.0 u) in
                possible (IsProcessLine.embeds t ks b s.0 k.0 acts.0 added.0 r s.1.messages right_.vars s.1.agrees s.1.equal k.2 acts.1 added.1 small))
          ]
        ]
      ]
    ]
  ]
  embedded_line t ks b _ r f = absurd (cc)

  some_answer : (step : PStep) → Answer step
  some_answer (line.Nil t) = on_thread (line.Nil t) t refl (nil_line t)
  some_answer (line.Par t) = on_thread (line.Par t) t refl (par_line t)
  some_answer (line.Rep t) = on_thread (line.Rep t) t refl (rep_line t)
  some_answer (line.New t n) = on_thread (line.New t n) t refl (new_line t n)
  some_answer (line.Out t) = on_thread (line.Out t) t refl (out_line t)
  some_answer (line.Send t k) = on_thread (line.Send t k) t refl (send_line t k)
  some_answer (line.In t k) = on_thread (line.In t k) t refl (in_line t k)
  some_answer (line.Sync s t) = sync_line s t
  some_answer (line.Then t) = on_thread (line.Then t) t refl (then_line t)
  some_answer (line.Else t) = on_thread (line.Else t) t refl (else_line t)
  some_answer (line.Event t) = on_thread (line.Event t) t refl (event_line t)
  some_answer (line.Insert t) = on_thread (line.Insert t) t refl (insert_line t)
  some_answer (line.Delete t) = on_thread (line.Delete t) t refl (delete_line t)
  some_answer (line.Found t) = on_thread (line.Found t) t refl (found_line t)
  some_answer (line.Missing t) = on_thread (line.Missing t) t refl (missing_line t)
  some_answer (line.Lock t) = on_thread (line.Lock t) t refl (lock_line t)
  some_answer (line.Unlock t) = on_thread (line.Unlock t) t refl (unlock_line t)
  some_answer (line.Embedded t ks b) = on_thread (line.Embedded t ks b) t refl (embedded_line t ks b)
  some_answer (line.Name n) = name_line n
  some_answer (line.Public a) = possible (IsProcessLine.writes a)
  some_answer (line.Apply f ks) = apply_line f ks
  some_answer (line.Know k) = know_line k

pub lines_have_some_answer : Laws → NamesAreMessages → ProcessLinesHaveSomeAnswer
lines_have_some_answer laws names g c es step exact = some_answer laws names g c es exact step
