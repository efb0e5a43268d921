-- The thread whose fact a rule takes first, and what it has in scope.
use Rattle.std.proofs.Common.{◌≡◌, ℕ, zero, suc, ◌≤◌, List, [], ◌∷◌, ◌++◌, Option, Some, None, refl, sym, ap, ◌∙◌, subst, slice_get, slice_set, map, true, false, length, arith}
use Rattle.std.specs.List.{AllZip}
use Rattle.std.specs.Option.{option_map}
use Rattle.sap_terms.specs.AdversaryFacts.{linear}
use Rattle.sap_terms.specs.Choice.{Choice, instance}
use Rattle.sap_terms.specs.Equal.{IsTheoryEqual}
use Rattle.sap_terms.specs.Equations.{equations}
use Rattle.sap_terms.specs.Modulo.{instance_fact, instance_facts, IsEqualFact, AreEqualFacts}
use Rattle.sap_terms.specs.Piles.{Pile, Takes, used}
use Rattle.sap_terms.specs.Signature.{Sig}
use Rattle.sap_terms.specs.Trace.{Trace}
use Rattle.sap_terms.specs.Tree.{Tree, variable}
use Rattle.sap_terms.specs.declared.binding.Binding.{Binding}
use Rattle.sap_terms.specs.declared.fact.Fact.{Fact}
use Rattle.sap_terms.specs.declared.var.Var.{Var}
use Rattle.sap_process.specs.Configuration.{Config, Runs}
use Rattle.sap_process.specs.Places.{place}
use Rattle.sap_process.specs.Proc.{Proc, node_count}
use Rattle.sap_place.specs.StateFacts.{state_fact, copies_fact}
use Rattle.sap_rule.specs.RuleSteps.{RuleState}
use Rattle.sap_rule.specs.declared.rule.Rule.{Rule}
use Rattle.sap_lines.specs.Lines.{EvaluateWithin}
use Rattle.sap_steps.specs.Lines.{IsEvaluated, Binds, rule_terms}
use Rattle.sap_translate.specs.Members.{Member}
use Rattle.sap_templates.specs.Places.{root, scoped_place_at, ScopedPlace}
use Rattle.sap_translate.specs.Scoped.{Within}
use Rattle.sap_templates.specs.Templates.{state}
use Rattle.sap_translate.specs.relation.Agents.{Agent, running, copying, process_of, IsAt}
use Rattle.sap_translate.specs.relation.Answers.{Copies, term_under}
use Rattle.sap_translate.specs.relation.Counts.{has_init}
use Rattle.sap_translate.specs.relation.Totals.{total}
use Rattle.sap_translate.specs.relation.Envs.{Env, names, values, filled}
use Rattle.sap_translate.specs.relation.Followed.{IsUsed}
use Rattle.sap_translate.specs.relation.Related.{Related}
use Rattle.sap_translate.specs.relation.Shown.{MeetsSix}
use Rattle.sap_back.proofs.Premises.{Laws}
use Rattle.sap_back.proofs.Terms.{contains, SameOn, same_term, variables_same, rule_term_within}
use Rattle.sap_translate.proofs.Shared.Facts.{made}
use Rattle.sap_translate.proofs.Shared.Lookups.{map_get}
use Rattle.sap_translate.proofs.Shared.Owners.{Owners}
use Rattle.sap_translate.proofs.Shared.Standing.{agent_of, copy_agent_of}
use Rattle.sap_back.specs.Followed.{SeatedByFact}
use Rattle.sap_process_lines.specs.Tables.{ProcessTables}
use Rattle.sap_back.specs.Tables.{AreProcessTables}

-- the first of the facts that are taken
pub record Head (facts : Pile) (ks : List ℕ) (fs : List Fact) (rest : Pile) (f : Fact) (more : List Fact) : Type 0 where
  pub number : ℕ
  pub others : List ℕ
  pub numbers : ks ≡ number ∷ others
  pub is : slice_get facts number ≡ Some (Some f)
  pub takes : Takes (used facts number f) others more rest

pub head_of : {facts rest : Pile} {ks : List ℕ} {f : Fact} {more : List Fact} → Takes facts ks (f ∷ more) rest → Head facts ks (f ∷ more) rest f more
head_of (Takes.one {k = k} {ks = js} e h) = record { number = k; others = js; numbers = refl; is = e; takes = h }

pub none_left : {facts rest : Pile} {ks : List ℕ} → Takes facts ks [] rest → ks ≡ []
none_left Takes.nothing = refl

-- lists that are as long as each other have numbers in common
pub there_too : {A B : Type 0} (xs : List A) (ys : List B) (k : ℕ) (x : A) → length xs ≡ length ys → slice_get xs k ≡ Some x → (y : B) × (slice_get ys k ≡ Some y)
there_too [] ys k x e h = absurd (cc)
there_too (z ∷ xs) [] k x e h = absurd (omega arith)
there_too (z ∷ xs) (y ∷ ys) zero x e h = (y, refl)
there_too (z ∷ xs) (y ∷ ys) (suc k) x e h = there_too xs ys k x (omega arith) h

-- a fact that is theory-equal to a linear one is one
pub equal_linear : (g : Sig) (name : List ℕ) (args : List Tree) (f : Fact) → IsEqualFact (equations g) (linear name args) f → f ≡ linear name f.args
equal_linear g name args f h = made f.name name f.persistent false f.args f.args h.name h.persistent refl

pub runs_one : (c : Config) (t : ℕ) (p q : Proc) → Runs c t p → Runs c t q → p ≡ q
runs_one c t p q e f = let h : Some (Some p) ≡ Some (Some q) = sym e ∙ f in cc

pub same_place : (x y : ScopedPlace) → Some x ≡ Some y → x ≡ y
same_place x y e = cc

-- The rule is used on the facts with these numbers, under a choice that the bindings name; what it evaluates is within the limit.
pub record Fired (g : Sig) (W : Tree → Type 0) (s : RuleState) (full : Trace) (r : Rule) (ks : List ℕ) (b : List Binding) (σ : Choice) (left acts right : List Fact) (rest : Pile) : Type 0 where
  pub used : IsUsed g s full r ks σ left acts right rest
  pub binds : Binds g r b σ
  pub within : (n : Tree) → IsEvaluated g r σ n → W n
  pub demands : MeetsSix (equations g) (full ++ acts ∷ [])
  pub once : total has_init (full ++ acts ∷ []) ≤ 1

-- the thread of a rule that takes its state fact, and what it has in scope
pub record Seat (g : Sig) (W : Tree → Type 0) (start : Proc) (agents : List (Option Agent)) (s : RuleState) (full : Trace) (tables : ProcessTables) (path : List ℕ) (R : List Var → Rule) (body : Proc) (ks : List ℕ) (b : List Binding) (σ : Choice) (left acts right : List Fact) (rest : Pile) : Type 0 where
  pub thread : ℕ
  pub env : Env
  pub number : ℕ
  pub others : List ℕ
  pub taken : List Fact
  pub numbers : ks ≡ number ∷ others
  pub lefts : left ≡ state_fact path (values env) ∷ taken
  pub later : Takes (used s.facts number (state_fact path (values env))) others taken rest
  pub seated : SeatedByFact agents s tables thread number path env body
  pub at : IsAt g start path env body
  pub same : SameOn (names env) σ env.choice
  pub fired : Fired g W s full (R (names env)) ks b σ left acts right rest

-- the thread of a replication that has started
pub record CopySeat (g : Sig) (W : Tree → Type 0) (start : Proc) (agents : List (Option Agent)) (s : RuleState) (full : Trace) (tables : ProcessTables) (path : List ℕ) (R : List Var → Rule) (body : Proc) (ks : List ℕ) (b : List Binding) (σ : Choice) (left acts right : List Fact) (rest : Pile) : Type 0 where
  pub thread : ℕ
  pub env : Env
  pub number : ℕ
  pub chosen : slice_get tables.facts number ≡ Some thread
  pub numbers : ks ≡ number ∷ []
  pub lefts : left ≡ copies_fact path (values env) ∷ []
  pub copies : Copies agents s thread number path env body
  pub same : SameOn (names env) σ env.choice
  pub fired : Fired g W s full (R (names env)) ks b σ left acts right rest

module _ (laws : Laws) (g : Sig) (W : Tree → Type 0) (start : Proc) (agents : List (Option Agent)) (pending : Option Tree) (c : Config) (tr : Trace) (s : RuleState) (full : Trace) (r : Related g start agents pending c tr s full) (es : List Tree) (tables : ProcessTables) (table : AreProcessTables agents pending c es s tables) where
  -- the table has a number for each live fact
  pub numbered : (k : ℕ) (f : Fact) → slice_get s.facts k ≡ Some (Some f) → (t : ℕ) × (slice_get tables.facts k ≡ Some t)
  numbered k f e = there_too s.facts tables.facts k (Some f) (sym table.all_facts) e

  -- who stands for a fact, by the table
  abbrev pub own : Owners agents s
  own k f control e = let n = numbered k f e in let a = table.owners k n.0 f control e n.1 in record { thread = n.0; agent = a.0; is = a.1; stands = a.2 }

  -- thread t runs what its agent says
  pub agent_runs : (t : ℕ) (a : Agent) → slice_get agents t ≡ Some (Some a) → Runs c t (process_of a)
  agent_runs t a e = ap (λ ts. slice_get ts t) r.threads ∙ map_get (option_map process_of) agents t (Some a) e

  pub seat : (path : List ℕ) (v : List Var) (body : Proc) (R : List Var → Rule) (L : List Fact) → (R v).left ≡ state path v ∷ L → scoped_place_at (root start) path ≡ Some (place path v body)
      → (ks : List ℕ) (b : List Binding) (σ : Choice) (left acts right : List Fact) (rest : Pile) → Fired g W s full (R v) ks b σ left acts right rest → Seat g W start agents s full tables path R body ks b σ left acts right rest
  seat path v body R L is at ks b σ left acts right rest fired = by left refl (subst (λ fs. AreEqualFacts (equations g) (instance_facts σ fs) left) is fired.used.fits.takes) fired.used.takes
    where
      by : (fs : List Fact) → left ≡ fs → AreEqualFacts (equations g) (instance_facts σ (state path v ∷ L)) fs → Takes s.facts ks fs rest → Seat g W start agents s full tables path R body ks b σ left acts right rest
      by [] e h takes = absurd h
      by (f ∷ fs) e h takes =
          let head = head_of takes in
          let fact : f ≡ state_fact path f.args = equal_linear g (state_fact path []).name (map (instance σ) (map variable v)) f h.0 in
          let live : slice_get s.facts head.number ≡ Some (Some (state_fact path f.args)) = head.is ∙ ap (λ z. Some (Some z)) fact in
          let st = agent_of agents path f.args s head.number own live in
          let here = r.placed st.thread (running path st.env st.body) st.is in
          let same : place path (names st.env) st.body ≡ place path v body = same_place _ _ (sym here.0 ∙ at) in
          let scope : names st.env ≡ v = ap (λ (z : ScopedPlace). z.above) same in
          let rest_is : st.body ≡ body = ap (λ (z : ScopedPlace). z.body) same in
          let whole : f ≡ state_fact path (values st.env) = fact ∙ ap (state_fact path) st.bound in
          record {
            thread = st.thread;
            env = st.env;
            number = head.number;
            others = head.others;
            taken = fs;
            numbers = head.numbers;
            lefts = e ∙ ap (λ z. z ∷ fs) whole;
            later = subst (λ z. Takes (used s.facts head.number z) head.others fs rest) whole head.takes;
            seated = record {
              stands = record {
                thread = st.is ∙ ap (λ z. Some (Some (running path st.env z))) rest_is;
                fact = head.is ∙ ap (λ z. Some (Some z)) whole;
              };
              number = (numbered head.number (state_fact path f.args) live).1 ∙ ap (λ i. Some i) (sym st.from);
            };
            at = subst (λ z. IsAt g start path st.env z) rest_is here;
            same = variables_same laws.decide (equations g) (names st.env) σ st.env.choice (λ x. (fired.used.fits.messages x).normal) (λ x m. (here.1.messages x m).normal)
                (subst (λ ts. AllZip (IsTheoryEqual (equations g)) (map (instance σ) (map variable (names st.env))) ts) st.bound (subst (λ w. AllZip (IsTheoryEqual (equations g)) (map (instance σ) (map variable w)) f.args) (sym scope) h.0.args));
            fired = subst (λ w. Fired g W s full (R w) ks b σ left acts right rest) (sym scope) fired;
          }

  pub copy_seat : (path : List ℕ) (v : List Var) (body : Proc) (R : List Var → Rule) → (R v).left ≡ copies_fact path (map variable v) ∷ [] → scoped_place_at (root start) path ≡ Some (place path v (Rattle.sap_process.specs.Proc.replicated body))
      → (ks : List ℕ) (b : List Binding) (σ : Choice) (left acts right : List Fact) (rest : Pile) → Fired g W s full (R v) ks b σ left acts right rest → CopySeat g W start agents s full tables path R body ks b σ left acts right rest
  copy_seat path v body R is at ks b σ left acts right rest fired = by left refl (subst (λ fs. AreEqualFacts (equations g) (instance_facts σ fs) left) is fired.used.fits.takes) fired.used.takes
    where
      none : (fs : List Fact) → AllZip (IsEqualFact (equations g)) [] fs → fs ≡ []
      none [] h = refl
      none (f ∷ fs) h = absurd h

      by : (fs : List Fact) → left ≡ fs → AreEqualFacts (equations g) (instance_facts σ (copies_fact path (map variable v) ∷ [])) fs → Takes s.facts ks fs rest → CopySeat g W start agents s full tables path R body ks b σ left acts right rest
      by [] e h takes = absurd h
      by (f ∷ fs) e h takes =
          let head = head_of takes in
          let nothing_more : fs ≡ [] = none fs h.1 in
          let fact : f ≡ copies_fact path f.args = made f.name (copies_fact path []).name f.persistent true f.args f.args h.0.name h.0.persistent refl in
          let live : slice_get s.facts head.number ≡ Some (Some (copies_fact path f.args)) = head.is ∙ ap (λ z. Some (Some z)) fact in
          let st = copy_agent_of agents path f.args s head.number own live in
          let here = r.placed st.thread (copying path st.env st.body) st.is in
          let same : place path (names st.env) (Rattle.sap_process.specs.Proc.replicated st.body) ≡ place path v (Rattle.sap_process.specs.Proc.replicated body) = same_place _ _ (sym here.0 ∙ at) in
          let scope : names st.env ≡ v = ap (λ (z : ScopedPlace). z.above) same in
          let both : Rattle.sap_process.specs.Proc.replicated st.body ≡ Rattle.sap_process.specs.Proc.replicated body = ap (λ (z : ScopedPlace). z.body) same in
          let rest_is : st.body ≡ body = cc in
          let whole : f ≡ copies_fact path (values st.env) = fact ∙ ap (copies_fact path) st.bound in
          record {
            thread = st.thread;
            env = st.env;
            number = head.number;
            chosen = (numbered head.number (copies_fact path f.args) live).1 ∙ ap (λ i. Some i) (sym st.from);
            lefts = e ∙ (λ i. whole i ∷ nothing_more i);
            numbers = head.numbers ∙ ap (λ js. head.number ∷ js) (none_left (subst (λ z. Takes (used s.facts head.number f) head.others z rest) nothing_more head.takes));
            copies = record {
              thread = st.is ∙ ap (λ z. Some (Some (copying path st.env z))) rest_is;
              fact = head.is ∙ ap (λ z. Some (Some z)) whole;
            };
            same = variables_same laws.decide (equations g) (names st.env) σ st.env.choice (λ x. (fired.used.fits.messages x).normal) (λ x m. (here.1.messages x m).normal)
                (subst (λ ts. AllZip (IsTheoryEqual (equations g)) (map (instance σ) (map variable (names st.env))) ts) st.bound (subst (λ w. AllZip (IsTheoryEqual (equations g)) (map (instance σ) (map variable w)) f.args) (sym scope) h.0.args));
            fired = subst (λ w. Fired g W s full (R w) ks b σ left acts right rest) (sym scope) fired;
          }

-- of a rule that takes its state fact alone
pub record Alone (g : Sig) (W : Tree → Type 0) (start : Proc) (agents : List (Option Agent)) (s : RuleState) (full : Trace) (tables : ProcessTables) (path : List ℕ) (R : List Var → Rule) (body : Proc) (ks : List ℕ) (σ : Choice) (left acts right : List Fact) (rest : Pile) : Type 0 where
  pub thread : ℕ
  pub env : Env
  pub number : ℕ
  pub numbers : ks ≡ number ∷ []
  pub lefts : left ≡ state_fact path (values env) ∷ []
  pub seated : SeatedByFact agents s tables thread number path env body
  pub at : IsAt g start path env body
  pub same : SameOn (names env) σ env.choice
  pub used : IsUsed g s full (R (names env)) (number ∷ []) σ left acts right rest
  pub within : (n : Tree) → IsEvaluated g (R (names env)) σ n → W n
  pub demands : MeetsSix (equations g) (full ++ acts ∷ [])

-- of one that takes another linear fact
pub record Beside (g : Sig) (W : Tree → Type 0) (start : Proc) (agents : List (Option Agent)) (s : RuleState) (full : Trace) (tables : ProcessTables) (path : List ℕ) (R : List Var → Rule) (body : Proc) (l : Fact) (ks : List ℕ) (σ : Choice) (left acts right : List Fact) (rest : Pile) : Type 0 where
  pub thread : ℕ
  pub env : Env
  pub number : ℕ
  pub other : ℕ
  pub numbers : ks ≡ number ∷ other ∷ []
  pub fact : Fact
  pub lefts : left ≡ state_fact path (values env) ∷ fact ∷ []
  pub seated : SeatedByFact agents s tables thread number path env body
  pub at : IsAt g start path env body
  pub same : SameOn (names env) σ env.choice
  pub is : slice_get s.facts other ≡ Some (Some fact)
  pub equal : IsEqualFact (equations g) (instance_fact σ l) fact
  pub used : IsUsed g s full (R (names env)) (number ∷ other ∷ []) σ left acts right rest
  pub within : (n : Tree) → IsEvaluated g (R (names env)) σ n → W n
  pub demands : MeetsSix (equations g) (full ++ acts ∷ [])

pub was_there : {A : Type 0} (xs : List (Option A)) (i j : ℕ) (x : A) → slice_get (slice_set xs i None) j ≡ Some (Some x) → slice_get xs j ≡ Some (Some x)
was_there [] i j x e = e
was_there (y ∷ xs) zero zero x e = absurd (cc)
was_there (y ∷ xs) zero (suc j) x e = e
was_there (y ∷ xs) (suc i) zero x e = e
was_there (y ∷ xs) (suc i) (suc j) x e = was_there xs i j x e

pub equal_none : (g : Sig) (fs : List Fact) → AreEqualFacts (equations g) [] fs → fs ≡ []
equal_none g [] h = refl
equal_none g (f ∷ fs) h = absurd h

module _ (laws : Laws) (g : Sig) (W : Tree → Type 0) (start : Proc) (agents : List (Option Agent)) (pending : Option Tree) (c : Config) (tr : Trace) (s : RuleState) (full : Trace) (r : Related g start agents pending c tr s full) (es : List Tree) (tables : ProcessTables) (table : AreProcessTables agents pending c es s tables) where
  pub alone : (path : List ℕ) (v : List Var) (body : Proc) (R : List Var → Rule) → ((x : List Var) → (R x).left ≡ state path x ∷ []) → scoped_place_at (root start) path ≡ Some (place path v body)
      → (ks : List ℕ) (b : List Binding) (σ : Choice) (left acts right : List Fact) (rest : Pile) → Fired g W s full (R v) ks b σ left acts right rest → Alone g W start agents s full tables path R body ks σ left acts right rest
  alone path v body R is at ks b σ left acts right rest fired =
      let st = seat laws g W start agents pending c tr s full r es tables table path v body R [] (is v) at ks b σ left acts right rest fired in
      let both : AreEqualFacts (equations g) (instance_facts σ (state path (names st.env) ∷ [])) (state_fact path (values st.env) ∷ st.taken) =
      subst (λ fs. AreEqualFacts (equations g) (instance_facts σ fs) (state_fact path (values st.env) ∷ st.taken)) (is (names st.env)) (subst (λ fs. AreEqualFacts (equations g) (instance_facts σ (R (names st.env)).left) fs) st.lefts st.fired.used.fits.takes) in
      let taken : st.taken ≡ [] = equal_none g st.taken both.1 in
      let others : st.others ≡ [] = none_left (subst (λ fs. Takes (used s.facts st.number (state_fact path (values st.env))) st.others fs rest) taken st.later) in
      record {
        thread = st.thread;
        env = st.env;
        number = st.number;
        numbers = st.numbers ∙ ap (λ js. st.number ∷ js) others;
        lefts = st.lefts ∙ ap (λ fs. state_fact path (values st.env) ∷ fs) taken;
        seated = st.seated;
        at = st.at;
        same = st.same;
        used = subst (λ js. IsUsed g s full (R (names st.env)) js σ left acts right rest) (st.numbers ∙ ap (λ js. st.number ∷ js) others) st.fired.used;
        within = st.fired.within;
        demands = st.fired.demands;
      }

  pub beside : (path : List ℕ) (v : List Var) (body : Proc) (R : List Var → Rule) (l : Fact) → ((x : List Var) → (R x).left ≡ state path x ∷ l ∷ []) → scoped_place_at (root start) path ≡ Some (place path v body)
      → (ks : List ℕ) (b : List Binding) (σ : Choice) (left acts right : List Fact) (rest : Pile) → Fired g W s full (R v) ks b σ left acts right rest → Beside g W start agents s full tables path R body l ks σ left acts right rest
  beside path v body R l is at ks b σ left acts right rest fired =
      let st = seat laws g W start agents pending c tr s full r es tables table path v body R (l ∷ []) (is v) at ks b σ left acts right rest fired in
      by st st.taken refl
      (subst (λ fs. AreEqualFacts (equations g) (instance_facts σ fs) (state_fact path (values st.env) ∷ st.taken)) (is (names st.env)) (subst (λ fs. AreEqualFacts (equations g) (instance_facts σ (R (names st.env)).left) fs) st.lefts st.fired.used.fits.takes)).1
      st.later
    where
      by : (st : Seat g W start agents s full tables path R body ks b σ left acts right rest) (fs : List Fact) → st.taken ≡ fs → AreEqualFacts (equations g) (instance_facts σ (l ∷ [])) fs → Takes (used s.facts st.number (state_fact path (values st.env))) st.others fs rest → Beside g W start agents s full tables path R body l ks σ left acts right rest
      by st [] e h takes = absurd h
      by st (f ∷ fs) e h takes =
          let head = head_of takes in
          let more : fs ≡ [] = equal_none g fs h.1 in
          let others : head.others ≡ [] = none_left (subst (λ z. Takes (used (used s.facts st.number (state_fact path (values st.env))) head.number f) head.others z rest) more head.takes) in
          record {
            thread = st.thread;
            env = st.env;
            number = st.number;
            other = head.number;
            numbers = st.numbers ∙ ap (λ js. st.number ∷ js) (head.numbers ∙ ap (λ js. head.number ∷ js) others);
            fact = f;
            lefts = st.lefts ∙ ap (λ z. state_fact path (values st.env) ∷ z) (e ∙ ap (λ z. f ∷ z) more);
            seated = st.seated;
            at = st.at;
            same = st.same;
            is = was_there s.facts st.number head.number f head.is;
            equal = h.0;
            used = subst (λ js. IsUsed g s full (R (names st.env)) js σ left acts right rest) (st.numbers ∙ ap (λ js. st.number ∷ js) (head.numbers ∙ ap (λ js. head.number ∷ js) others)) st.fired.used;
            within = st.fired.within;
            demands = st.fired.demands;
          }

-- a term in scope is what the thread has of it
pub term_is : (laws : Laws) (env : Env) (σ : Choice) (m : Tree) → SameOn (names env) σ env.choice → Within (names env) m → instance σ m ≡ term_under env m
term_is laws env σ m same w = same_term (names env) σ (filled env) m (λ x k. same x k ∙ sym (laws.variables env x (contains k))) w ∙ laws.terms env m w

-- so what is evaluated of it is within the limit
pub term_within : (laws : Laws) (g : Sig) (W : Tree → Type 0) (env : Env) (σ : Choice) (r : Rule) (m : Tree) → SameOn (names env) σ env.choice → Within (names env) m → ((n : Tree) → IsEvaluated g r σ n → W n) → Member m (rule_terms r) → EvaluateWithin g W (term_under env m ∷ [])
term_within laws g W env σ r m same w within k = subst (λ t. EvaluateWithin g W (t ∷ [])) (term_is laws env σ m same w) (rule_term_within g W σ r m within k)
