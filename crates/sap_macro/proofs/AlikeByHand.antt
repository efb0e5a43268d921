-- Small configurations with alike threads, and with a ground store; and why the store has to be ground.
use Rattle.std.proofs.Common.{◌≡◌, ◌<◌, ℕ, zero, suc, List, [], ◌∷◌, Option, Some, None, slice_get, slice_set, refl, sym, ap, subst, ◌∙◌, ⊎_elim, arith}
use Rattle.std.proofs.lemmas.Bool.{cases_Bool, true≢false}
use Rattle.std.proofs.lemmas.List.Elements.{Contains-append_cases}
use Rattle.std.specs.Prelude.{codes, Contains, if◌then◌else◌}
use Rattle.sap_rewrite.specs.Laws.{FormIsOne}
use Rattle.sap_terms.specs.AdversaryFacts.{k_fact}
use Rattle.sap_terms.specs.Equal.{same}
use Rattle.sap_terms.specs.Equations.{equations}
use Rattle.sap_terms.specs.Ground.{IsGround}
use Rattle.sap_terms.specs.Laws.{LeavesAreNormal}
use Rattle.sap_terms.specs.Modulo.{IsFormOfFact}
use Rattle.sap_terms.specs.Normal.{IsNormalForm}
use Rattle.sap_terms.specs.Same.{same_tree}
use Rattle.sap_terms.specs.Signature.{Sig}
use Rattle.sap_terms.specs.Trace.{Trace, shown}
use Rattle.sap_terms.specs.Tree.{Tree, fresh}
use Rattle.sap_terms.specs.declared.fact.Fact.{Fact}
use Rattle.sap_terms.specs.declared.var.Sort.TheVariants.{Fresh}
use Rattle.sap_terms.proofs.PlainLaws.Items.{item_cases, none_contained}
use Rattle.sap_process.specs.Action.{Action, new, out, send, input, receive, event, insert, delete, lock, unlock, embedded}
use Rattle.sap_process.specs.Configuration.{Config}
use Rattle.sap_process.specs.Proc.{Proc, nil, parallel, replicated, act, test, lookup}
use Rattle.sap_process.specs.ProcessSteps.{ProcessStep, ProcessRun, with_term, ends, splits, copies, makes_name, outputs, outputs_on, inputs, inputs_on, meets, agrees, differs, shows, inserts, deletes, finds, misses, locks, unlocks, embeds, adversary_makes, knows, starts, further}
use Rattle.sap_process.specs.StepExamples.{alone, only, left_fact, right_fact, showing, shown_fact}
use Rattle.sap_macro.specs.AlikeConfigurations.{both_ended, both_run, AlikeThreads, no_thread, one_thread, HasGroundStore, AreAlikeConfigs}
use Rattle.sap_macro.specs.AlikeExamples.{gives_new_x, gives_new_y, gives_a, alike_lists, other_lists, AreAllAlike, AreNoneAlike, AreNoneAlikeTo, busy, other_parts, storing, looking}
use Rattle.sap_macro.specs.NameExamples.{x, fresh_x, fresh_y, a, both, new_x, new_y, gives}
use Rattle.sap_macro.specs.UpToNames.{named, here, above, both_variable, both_public, both_none, both_more, both_new, both_out, both_event, AreSameUpToNames, both_nil, both_act, both_lookup}
use Rattle.sap_macro.proofs.WrittenByHand.{other_name}

-- ---- threads

x_then_y : AreSameUpToNames (new_x (gives fresh_x)) (new_y (gives fresh_y))
x_then_y = both_act both_new (both_act (both_out (both_variable here)) both_nil)

y_then_x : AreSameUpToNames (new_y (gives fresh_y)) (new_x (gives fresh_x))
y_then_x = both_act both_new (both_act (both_out (both_variable here)) both_nil)

one_a : AreSameUpToNames (gives a) (gives a)
one_a = both_act (both_out both_public) both_nil

pub alike : AreAllAlike alike_lists
alike = (
  no_thread,
  (
    one_thread both_ended (one_thread (both_run x_then_y) (one_thread (both_run one_a) no_thread)),
    (one_thread (both_run x_then_y) (one_thread (both_run y_then_x) no_thread), tt),
  ),
)

one_more : ¬ AlikeThreads (gives_a ∷ []) (gives_a ∷ gives_a ∷ [])
one_more (one_thread h l) = elim l [ ]

one_less : ¬ AlikeThreads (gives_a ∷ None ∷ []) (gives_a ∷ [])
one_less (one_thread h l) = elim l [ ]

ended_first : ¬ AlikeThreads (None ∷ []) (Some nil ∷ [])
ended_first (one_thread h l) = elim h [ ]

ended_second : ¬ AlikeThreads (Some nil ∷ []) (None ∷ [])
ended_second (one_thread h l) = elim h [ ]

changed_places : ¬ AlikeThreads (gives_a ∷ gives_new_x ∷ []) (gives_new_x ∷ gives_a ∷ [])
changed_places (one_thread (both_run (both_act h k)) l) = elim h [ ]

first_differs : ¬ AlikeThreads (gives_a ∷ gives_a ∷ []) (Some nil ∷ gives_a ∷ [])
first_differs (one_thread (both_run h) l) = elim h [ ]

last_differs : ¬ AlikeThreads (gives_a ∷ gives_a ∷ []) (gives_a ∷ Some nil ∷ [])
last_differs (one_thread h (one_thread (both_run k) l)) = elim k [ ]

unbound : ¬ AlikeThreads (Some (gives x) ∷ []) (Some (gives x) ∷ [])
unbound (one_thread (both_run (both_act (both_out (both_variable h)) k)) l) = elim h [ ]

pub other : AreNoneAlike other_lists
other = (one_more, (one_less, (ended_first, (ended_second, (changed_places, (first_differs, (last_differs, (unbound, tt))))))))

-- ---- stores

-- what one key has
only_is : (k t j v : Tree) → only k t j ≡ Some v → t ≡ v
only_is k t j v e =
    ⊎_elim (λ f. let is : Some t ≡ Some v = sym (ap (λ b. if b then Some t else None) f) ∙ e in cc)
    (λ f. let is : None ≡ Some v = sym (ap (λ b. if b then Some t else None) f) ∙ e in absurd (cc)) (cases_Bool (same_tree k j))

pub ground : HasGroundStore (storing (both a (fresh 3)) nil)
ground k v e = subst IsGround (only_is a (both a (fresh 3)) k v e) (tt, (tt, tt))

pub any_key : HasGroundStore (record (alone nil) { store = only x a })
any_key k v e = subst IsGround (only_is x a k v e) tt

pub no_ground : ¬ HasGroundStore (storing (both a x) nil)
no_ground h = (h a (both a x) refl).1.0

-- ---- configurations

other_number : (j k : ℕ) → j < k → ¬ (j ∷ [] ≡ k ∷ [])
other_number j k h e = let f : j ≡ k = cc in omega (arith, f)

other_fact : ¬ (Some (left_fact a) ∷ [] ≡ Some (right_fact a) ∷ [])
other_fact e =
    let h : left_fact a ≡ right_fact a = cc in
    other_name (codes "L") (codes "M") refl refl (ap (λ (f : Fact). f.name) h)

busy_ground : HasGroundStore (busy (gives_new_x ∷ []))
busy_ground k v e = subst IsGround (only_is a (fresh 4) k v e) tt

pub all_parts : AreAlikeConfigs (busy (gives_new_x ∷ [])) (busy (gives_new_y ∷ []))
all_parts = record { threads = one_thread (both_run x_then_y) no_thread; else_one = refl; ground = busy_ground }

pub no_other_part : AreNoneAlikeTo (busy (gives_new_x ∷ [])) other_parts
no_other_part = (
  (λ h. other_number 4 5 (omega arith) (ap (λ (c : Config). c.made) h.else_one)),
  (
    (λ h. other_number 3 5 (omega arith) (ap (λ (c : Config). c.own) h.else_one)),
    (
      (λ h. let e : Some (fresh 4) ≡ None = ap (λ (c : Config). c.store a) h.else_one in cc),
      (
        (λ h. other_fact (ap (λ (c : Config). c.facts) h.else_one)),
        ((λ h. let e : a ∷ [] ≡ [] = ap (λ (c : Config). c.frame) h.else_one in cc), ((λ h. true≢false (ap (λ (c : Config). c.held a) h.else_one)), tt)),
      ),
    ),
  ),
)

pub no_ground_parts : ¬ AreAlikeConfigs (storing (both a x) nil) (storing (both a x) nil)
no_ground_parts h = no_ground h.ground

-- ---- lookup 'a' as x in new ~y; event A(x), and the same with ~z, where the store has ~y at 'a'

looks_alike : AreSameUpToNames (looking (codes "y")) (looking (codes "z"))
looks_alike =
    both_lookup both_public
    (both_act both_new
    (both_act (both_event (both_more (both_variable (above (other_name (codes "y") (codes "x") refl refl) (other_name (codes "z") (codes "x") refl refl) here)) both_none)) both_nil))
    both_nil

pub looks_one : AlikeThreads (storing fresh_y (looking (codes "y"))).threads (storing fresh_y (looking (codes "z"))).threads
looks_one = one_thread (both_run looks_alike) no_thread

-- new ~n; event A(~y), where ~n has this name
abbrev making : List ℕ → Proc
making n = act (new (named n Fresh)) (showing fresh_y)

-- the thread and the names that were made
abbrev made_names : List ℕ → Proc → Config
made_names ns p = record (storing fresh_y p) { made = ns }

module _ (normal : LeavesAreNormal) (g : Sig) where
  key_form : IsNormalForm (equations g) a a
  key_form = record { equal = same; normal = normal.of_public_name (equations g) (codes "a") }

  found : ProcessStep g (storing fresh_y (looking (codes "y"))) [] (storing fresh_y (making (codes "y")))
  found = finds 0 refl key_form refl

  made : ProcessStep g (storing fresh_y (making (codes "y"))) [] (made_names (7 ∷ []) (showing (fresh 7)))
  made = makes_name 0 7 refl ((λ c. none_contained c), (λ c. none_contained c))

  told : ProcessStep g (made_names (7 ∷ []) (showing (fresh 7))) (shown_fact (fresh 7) ∷ []) (made_names (7 ∷ []) nil)
  told = shows 0 refl (record { name = refl; persistent = refl; args = (record { equal = same; normal = normal.of_fresh_name (equations g) 7 }, tt) })

  pub shows_new : (d : Config) × ProcessRun g (storing fresh_y (looking (codes "y"))) d ((shown_fact (fresh 7) ∷ []) ∷ [])
  shows_new = (made_names (7 ∷ []) nil, further (further (further starts found) made) told)

-- what the thread comes to on the other side
data At : Option Proc → Type 0 where
  looks : At (Some (looking (codes "z")))
  makes : At (Some (making (codes "z")))
  tells : At (Some (showing fresh_y))
  rests : At (Some nil)
  gone : At None

-- one thread, at such a place, and this store
record Fine (os : List (Option Proc)) (store : Tree → Option Tree) : Type 0 where
  pub thread : Option Proc
  pub at : At thread
  pub alone : os ≡ thread ∷ []
  pub has : store ≡ only a fresh_y

module _ (normal : LeavesAreNormal) (unique : FormIsOne) (g : Sig) where
  -- A of no name
  abbrev IsNoName : Fact → Type 0
  IsNoName f = (n : ℕ) → ¬ (f ∷ [] ≡ shown_fact (fresh n) ∷ [])

  -- what goes on behind the head
  abbrev BehindAction : Action → Proc → Type 0
  BehindAction (new v) p = (n : ℕ) → At (Some (with_term v (fresh n) p))
  BehindAction (event f) p = At (Some p) × ((h : Fact) → IsFormOfFact (equations g) f h → IsNoName h)
  BehindAction (out t) p = ⊥
  BehindAction (send t u) p = ⊥
  BehindAction (input t) p = ⊥
  BehindAction (receive t u) p = ⊥
  BehindAction (insert t u) p = ⊥
  BehindAction (delete t) p = ⊥
  BehindAction (lock t k) p = ⊥
  BehindAction (unlock t k) p = ⊥
  BehindAction (embedded l e r) p = ⊥

  abbrev Behind : Proc → Type 0
  Behind nil = Unit {0}
  Behind (parallel p q) = ⊥
  Behind (replicated p) = ⊥
  Behind (act c p) = BehindAction c p
  Behind (test t u p q) = ⊥
  Behind (lookup t v p q) =
      ((k w : Tree) → only a fresh_y k ≡ Some w → At (Some (with_term v w p)))
      × ((k : Tree) → IsNormalForm (equations g) t k → only a fresh_y k ≡ None → ⊥)

  -- ~y is no fresh name
  no_name : (h : Fact) → IsFormOfFact (equations g) (shown_fact fresh_y) h → IsNoName h
  no_name h f n e =
      let is : h ≡ shown_fact (fresh n) = cc in
      let form : IsFormOfFact (equations g) (shown_fact fresh_y) (shown_fact (fresh n)) = subst (IsFormOfFact (equations g) (shown_fact fresh_y)) is f in
      let own : IsNormalForm (equations g) fresh_y fresh_y = record { equal = same; normal = normal.of_variable (equations g) (named (codes "y") Fresh) } in
      let one : fresh_y ≡ fresh n = unique (equations g) fresh_y fresh_y (fresh n) own form.args.0 in
      cc

  there : (k : Tree) → IsNormalForm (equations g) a k → only a fresh_y k ≡ None → ⊥
  there k f e =
      let own : IsNormalForm (equations g) a a = record { equal = same; normal = normal.of_public_name (equations g) (codes "a") } in
      let none : only a fresh_y a ≡ None = subst (λ j. only a fresh_y j ≡ None) (unique (equations g) a k a f own) e in
      cc

  one_inside : (p q : Proc) → Some p ≡ Some q → p ≡ q
  one_inside p q e = cc

  behind : (o : Option Proc) → At o → (p : Proc) → o ≡ Some p → Behind p
  behind _ looks p e =
      subst Behind (one_inside (looking (codes "z")) p e)
      ((λ k w h. subst (λ t. At (Some (act (new (named (codes "z") Fresh)) (showing t)))) (only_is a fresh_y k w h) makes), there)
  behind _ makes p e = subst Behind (one_inside (making (codes "z")) p e) (λ n. tells)
  behind _ tells p e = subst Behind (one_inside (showing fresh_y) p e) (rests, no_name)
  behind _ rests p e = subst Behind (one_inside nil p e) tt
  behind _ gone p e = absurd (cc)

  here_at : (o : Option Proc) (p : Proc) (t : ℕ) → slice_get (o ∷ []) t ≡ Some (Some p) → o ≡ Some p
  here_at o p zero e = cc
  here_at o p (suc t) e = absurd (cc)

  put_at : (o u : Option Proc) (p : Proc) (t : ℕ) → slice_get (o ∷ []) t ≡ Some (Some p) → slice_set (o ∷ []) t u ≡ u ∷ []
  put_at o u p zero e = refl
  put_at o u p (suc t) e = absurd (cc)

  module _ (os : List (Option Proc)) (store : Tree → Option Tree) (f : Fine os store) where
    at : (t : ℕ) (p : Proc) → slice_get os t ≡ Some (Some p) → Behind p
    at t p e = behind f.thread f.at p (here_at f.thread p t (subst (λ us. slice_get us t ≡ Some (Some p)) f.alone e))

    goes : (t : ℕ) (p : Proc) (u : Option Proc) → slice_get os t ≡ Some (Some p) → At u → Fine (slice_set os t u) store
    goes t p u e h =
        let is = subst (λ us. slice_get us t ≡ Some (Some p)) f.alone e in
        record { thread = u; at = h; alone = ap (λ us. slice_set us t u) f.alone ∙ put_at f.thread u p t is; has = f.has }

  -- behind a step, and what it shows
  record GoesOn (d : Config) (label : List Fact) : Type 0 where
    pub fine : Fine d.threads d.store
    pub other : (n : ℕ) → ¬ (label ≡ shown_fact (fresh n) ∷ [])

  quiet : (n : ℕ) → ¬ ([] ≡ shown_fact (fresh n) ∷ [])
  quiet n e = cc

  not_known : (t : Tree) → IsNoName (k_fact t)
  not_known t n e =
      let is : k_fact t ≡ shown_fact (fresh n) = cc in
      other_name (codes "A") (codes "K") refl refl (sym (ap (λ (h : Fact). h.name) is))

  goes_on : (c d : Config) (label : List Fact) → ProcessStep g c label d → Fine c.threads c.store → GoesOn d label
  goes_on _ _ _ (ends {c = c} t r) f = record { fine = goes c.threads c.store f t nil None r gone; other = quiet }
  goes_on _ _ _ (splits {c = c} {p = p} {q = q} t r) f = absurd (at c.threads c.store f t (parallel p q) r)
  goes_on _ _ _ (copies {c = c} {p = p} t r) f = absurd (at c.threads c.store f t (replicated p) r)
  goes_on _ _ _ (makes_name {c = c} {x = v} {p = p} t n r i) f =
      record { fine = goes c.threads c.store f t (act (new v) p) (Some (with_term v (fresh n) p)) r (at c.threads c.store f t (act (new v) p) r n); other = quiet }
  goes_on _ _ _ (outputs {c = c} {m = m} {p = p} t r i) f = absurd (at c.threads c.store f t (act (out m) p) r)
  goes_on _ _ _ (outputs_on {c = c} {m = m} {n = n} {p = p} t r i j o) f = absurd (at c.threads c.store f t (act (send m n) p) r)
  goes_on _ _ _ (inputs {c = c} {n = n} {p = p} t σ r i j) f = absurd (at c.threads c.store f t (act (input n) p) r)
  goes_on _ _ _ (inputs_on {c = c} {m = m} {n = n} {p = p} t σ r i j o) f = absurd (at c.threads c.store f t (act (receive m n) p) r)
  goes_on _ _ _ (meets {c = c} {m = m} {n = n} {p = p} s t σ r k i j) f = absurd (at c.threads c.store f s (act (send m n) p) r)
  goes_on _ _ _ (agrees {c = c} {m = m} {n = n} {p = p} {q = q} t r i) f = absurd (at c.threads c.store f t (test m n p q) r)
  goes_on _ _ _ (differs {c = c} {m = m} {n = n} {p = p} {q = q} t r i) f = absurd (at c.threads c.store f t (test m n p q) r)
  goes_on _ _ _ (shows {c = c} {f = e} {h = h} {p = p} t r i) f =
      let k = at c.threads c.store f t (act (event e) p) r in record { fine = goes c.threads c.store f t (act (event e) p) (Some p) r k.0; other = k.1 h i }
  goes_on _ _ _ (inserts {c = c} {m = m} {n = n} {p = p} t r i j) f = absurd (at c.threads c.store f t (act (insert m n) p) r)
  goes_on _ _ _ (deletes {c = c} {m = m} {p = p} t r i) f = absurd (at c.threads c.store f t (act (delete m) p) r)
  goes_on _ _ _ (finds {c = c} {m = m} {k = k} {v = w} {x = v} {p = p} {q = q} t r i j) f =
      let b = at c.threads c.store f t (lookup m v p q) r in
      record { fine = goes c.threads c.store f t (lookup m v p q) (Some (with_term v w p)) r (b.0 k w (subst (λ s. s k ≡ Some w) f.has j)); other = quiet }
  goes_on _ _ _ (misses {c = c} {m = m} {k = k} {x = v} {p = p} {q = q} t r i j) f =
      absurd ((at c.threads c.store f t (lookup m v p q) r).1 k i (subst (λ s. s k ≡ None) f.has j))
  goes_on _ _ _ (locks {c = c} {m = m} {i = k} {p = p} t r i j) f = absurd (at c.threads c.store f t (act (lock m k) p) r)
  goes_on _ _ _ (unlocks {c = c} {m = m} {i = k} {p = p} t r i) f = absurd (at c.threads c.store f t (act (unlock m k) p) r)
  goes_on _ _ _ (embeds {c = c} {l = l} {e = e} {r = rs} {p = p} t ks σ left acts right r m i j k o) f = absurd (at c.threads c.store f t (act (embedded l e rs) p) r)
  goes_on _ _ _ (adversary_makes {c = c} n i) f = record { fine = f; other = quiet }
  goes_on _ _ _ (knows {c = c} t i) f = record { fine = f; other = not_known t }

  not_in_label : (label : List Fact) (n : ℕ) → ¬ (label ≡ shown_fact (fresh n) ∷ []) → ¬ Contains (shown label) (shown_fact (fresh n) ∷ [])
  not_in_label [] n h c = none_contained c
  not_in_label (f ∷ fs) n h c = h (item_cases (f ∷ fs) (shown_fact (fresh n) ∷ []) c)

  record NeverShows (d : Config) (tr : Trace) : Type 0 where
    pub fine : Fine d.threads d.store
    pub never : (n : ℕ) → ¬ Contains tr (shown_fact (fresh n) ∷ [])

  run_shows : (d : Config) (tr : Trace) → ProcessRun g (storing fresh_y (looking (codes "z"))) d tr → NeverShows d tr
  run_shows _ _ starts =
      record { fine = record { thread = Some (looking (codes "z")); at = looks; alone = refl; has = refl }; never = λ n c. none_contained c }
  run_shows _ _ (further {c = c} {d = d} {tr = tr} {label = label} r i) =
      let before = run_shows c tr r in
      let later = goes_on c d label i before.fine in
      record {
        fine = later.fine;
        never = λ n m. ⊎_elim (before.never n) (not_in_label label n (later.other n)) (Contains-append_cases tr (shown label) (shown_fact (fresh n) ∷ []) m);
      }

  pub never_shows_new : (d : Config) (tr : Trace) (n : ℕ) → ProcessRun g (storing fresh_y (looking (codes "z"))) d tr → ¬ Contains tr (shown_fact (fresh n) ∷ [])
  never_shows_new d tr n r = (run_shows d tr r).never n
